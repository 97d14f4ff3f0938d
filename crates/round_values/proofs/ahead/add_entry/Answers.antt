use Rattle.std.proofs.Common.{◌≡◌, ℕ, Bool, false, ◌≤◌, ◌&&◌, ◌==◌, ◌∷◌, ◌++◌, [], List, length, take, take_all, sym, ap, ◌∙◌, arith}
use Rattle.std.specs.FinMap as fmap
use Rattle.memento_time.specs.Mementos.{memento_cmp}
use Rattle.memento_sets.specs.Sets as set
use Rattle.memento_sets.specs.MementoSets.{Mementos}
use Rattle.harvest_lattice.specs.Lattice.{Entries, Key, join}
use Rattle.harvest_lattice.specs.Knowledge.{Harvested, harvests_at, lat}
use Rattle.round_values.specs.Ahead.{harvest_of, is_ahead, not_ahead}
use Rattle.round_values.proofs.AheadLemmas.{joined_more, joined_none, kept_on, length-harvests_at, revision_in, revision_out}
use Rattle.round_values.proofs.ahead.add_entry.Goals as goal
use Rattle.round_values.proofs.ahead.add_entry.Goals.{then-not-is_ahead+in_ok-part+in_ok-add_part, else-not-is_ahead}

pub loop-k-init : goal.loop-k-init
loop-k-init c = joined_none c.args.rest.now

pub loop-k-preserved : goal.loop-k-preserved
loop-k-preserved c =
    let last = c.args.last.0 in
    let x : Entries = c.args.rest.now in
    let key : Key = (c.args.archive, c.args.original.now) in
    let is_whole = c.args.entry.now.is_whole in
    let es = fmap.entries c.args.entry.now.revisions in
    let k = c.loop-k.k in
    let revision = c.revision-revision.result in
    let hs = harvests_at key is_whole es in
    let before = not_ahead last (take k hs) in
    elim c.if-not-is_ahead.branch [
      | then-not-is_ahead+in_ok-part+in_ok-add_part w ↦
          let items = w.mementos.result.now in
          let timely : is_ahead last revision ≡ false = sym w.if-not-is_ahead.ensures in
          let first : Bool = (k == 0) && is_whole in
          let harvest : harvest_of key w.is_whole_at-is_whole.result w.in_ok-part.part ≡ harvest_of key first (revision, set.from_list {R = memento_cmp} items) =
          ap (λ (b : Bool). harvest_of key b w.in_ok-part.part) w.is_whole_at-is_whole.ensures
          ∙ ap (λ (part : ℕ × Mementos). harvest_of key first part) w.in_ok-part.ensures in
          kept_on x last hs k _ (before ++ harvest_of key first (revision, set.from_list {R = memento_cmp} items) ∷ [])
          (w.rest-is ∙ (w.in_ok-add_part.ensures
          ∙ (ap (λ (h : Harvested). join c.loop-k.rest (lat (h ∷ []))) harvest
          ∙ (ap (λ (rest : Entries). join rest (lat (harvest_of key first (revision, set.from_list {R = memento_cmp} items) ∷ []))) c.loop-k.invariant
          ∙ joined_more x before (harvest_of key first (revision, set.from_list {R = memento_cmp} items) ∷ [])))))
          (revision_in last key is_whole es k revision items c.revision-revision.ensures w.mementos.ensures timely)
      | else-not-is_ahead w ↦
          kept_on x last hs k _ before (w.rest-is ∙ c.loop-k.invariant)
          (revision_out last key is_whole es k revision c.revision-revision.ensures (sym w.if-not-is_ahead.ensures))
    ]

pub returns : goal.returns
returns c =
    let hs = harvests_at (c.args.archive, c.args.original.now) c.args.entry.now.is_whole (fmap.entries c.args.entry.now.revisions) in
    let all : c.revisions-k-end.result ≡ length hs =
    c.revisions-k-end.ensures ∙ (fmap.len-entries c.args.entry.now.revisions ∙ sym (length-harvests_at _ _ (fmap.entries c.args.entry.now.revisions))) in
    let test = c.loop-k-test.false in
    let past : length hs ≤ c.loop-k.k = omega (arith, all, test) in
    c.loop-k.invariant ∙ ap (λ (gs : List Harvested). join c.args.rest.now (lat (not_ahead c.args.last.0 gs))) (take_all c.loop-k.k hs past)
