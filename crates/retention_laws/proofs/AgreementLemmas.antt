-- Replicas agree on what both keep.
use Rattle.std.proofs.Common.{◌≡◌, ℕ, List, Option, Some, sym, ap, ◌∙◌}
use Rattle.std.specs.Prelude.{None, ◌==◌, if◌then◌else◌, length}
use Rattle.std.proofs.lemmas.Option.{none-some}
use Rattle.memento_sets.specs.MementoSets.{Mementos}
use Rattle.memento_sets.specs.Sets as set
use Rattle.harvest_lattice.specs.Knowledge.{shown, shown_of, lat}
use Rattle.harvest_lattice.proofs.KnowledgeShown.{shown-lat}
use Rattle.replica_exchange.specs.declared.cursor.Cursor.{Cursor}
use Rattle.timegate.specs.declared.reply.Reply.{Reply}
use Rattle.timegate.specs.declared.request.Request.{Request}
use Rattle.timegate.specs.declared.route.Route.{Route}
use Rattle.timegate.specs.declared.route.Route.TheVariants.{Delta}
use Rattle.timegate.specs.Route.{route_of, original_in, IsOfTaken}
use Rattle.timemap_writer.specs.Pages.{listing_text}
use Rattle.timegate.specs.Reply.{reply, without_numbers}
use Rattle.replica_events.specs.World.{Knowledge, World}
use Rattle.replica_events.specs.Agreement.{HasTaken, Gives, SameHarvests, timemap_at}
use Rattle.replica_events.proofs.Replies.{given, same_state}
use Rattle.retention.specs.Restriction.{Rule, restrict, kept_of, KeepsOriginal}
use Rattle.retention.proofs.RestrictionLemmas.{restrict-lat, shown-kept}
use Rattle.retention_laws.proofs.ReplyLemmas.{at_route}

-- of a kept original the kept harvests show all
shown_by_kept : (keeps : Rule) (known : Knowledge) (o : List ℕ) → KeepsOriginal keeps o → shown known o ≡ shown_of (lat (kept_of keeps known)) o
shown_by_kept keeps known o all =
    shown-lat known o
    ∙ (sym (shown-kept keeps (lat known) o all) ∙ ap (λ x. shown_of x o) (restrict-lat keeps known))

pub shown_alike : (keeps : Rule) (known other : Knowledge) (o : List ℕ) → SameHarvests (kept_of keeps known) (kept_of keeps other) → KeepsOriginal keeps o
    → shown other o ≡ shown known o
shown_alike keeps known other o same all =
    shown_by_kept keeps other o all
    ∙ (ap (λ x. shown_of x o) (sym (same_state (kept_of keeps known) (kept_of keeps other) same)) ∙ sym (shown_by_kept keeps known o all))

-- a request about an original asks for no delta
of_taken : (q : Request) (o : List ℕ) → original_in (route_of q) ≡ Some o → IsOfTaken q
of_taken q o is cursor delta = none-some o (ap original_in (sym delta) ∙ is)

replies_alike : (base : List ℕ) (keeps : Rule) (known other : Knowledge) (q : Request) (o : List ℕ) → SameHarvests (kept_of keeps known) (kept_of keeps other)
    → original_in (route_of q) ≡ Some o → KeepsOriginal keeps o → reply base other q ≡ reply base known q
unfolding reply
replies_alike base keeps known other q o same is all =
    at_route base (shown known) (shown other) (without_numbers (lat known)) (without_numbers (lat other)) q o (route_of q) is
    (shown_alike keeps known other o same all)

pub kept_replies_agree : (base : List ℕ) (keeps : Rule) (world : World) (i j : ℕ) (known other : Knowledge)
    → HasTaken world i known → HasTaken world j other → SameHarvests (kept_of keeps known) (kept_of keeps other)
    → (q : Request) (original : List ℕ) → original_in (route_of q) ≡ Some original → KeepsOriginal keeps original
    → (r s : Reply) → Gives base world i q r → Gives base world j q s → r ≡ s
kept_replies_agree base keeps world i j known other i_is j_is same q o is all r s one two =
    given base world i known q r i_is (of_taken q o is) one
    ∙ (sym (replies_alike base keeps known other q o same is all) ∙ sym (given base world j other q s j_is (of_taken q o is) two))

pub kept_timemaps_agree : (base : List ℕ) (keeps : Rule) (known other : Knowledge) → SameHarvests (kept_of keeps known) (kept_of keeps other)
    → (original : List ℕ) → KeepsOriginal keeps original → timemap_at base known original ≡ timemap_at base other original
kept_timemaps_agree base keeps known other same o all =
    ap (λ (m : Mementos). if length (set.items m) == 0 then None else Some (listing_text base o (set.items m)))
    (sym (shown_alike keeps known other o same all))
