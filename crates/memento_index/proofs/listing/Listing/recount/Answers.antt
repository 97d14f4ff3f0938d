use Rattle.std.proofs.Common.{List, Some, sym, subst, ap, ◌∙◌}
use Rattle.std.specs.Arc.{arc_value}
use Rattle.memento_index.specs.declared.counted.Counted.{Counted}
use Rattle.memento_index.specs.declared.counted.Steps.{Steps}
use Rattle.memento_index.specs.declared.counted.Steps.TheVariants.{All}
use Rattle.memento_index.specs.Counts.{IsRecounted}
use Rattle.memento_index.specs.Lists.{steps_in, shared_mementos, HasRoom}
use Rattle.memento_index.specs.Tallies.{each_once}
use Rattle.memento_sets.specs.Sets as set
use Rattle.memento_index.proofs.Shared.{all_counted}
use Rattle.memento_index.proofs.listing.Listing.recount.Goals as goal

pub returns-in-All-clause-recounted : goal.returns-in-All-clause-recounted
returns-in-All-clause-recounted c =
    let old = c.args.self.now in
    let made = c.in-All.made in
    let room : HasRoom 0 (Some old) c.args.lifted.now.room (All made) = subst (HasRoom 0 (Some old) c.args.lifted.now.room) c.in-All.is c.requires.room in
    subst (λ (s : Steps). IsRecounted old.entries (steps_in s) c.share.new.self.entries) (sym c.in-All.is)
    (subst (λ (es : List Counted). IsRecounted old.entries (steps_in (All made)) es)
    (sym (c.share.ensures ∙ ap (λ l. each_once (set.items (arc_value l))) c.into_after.ensures))
    (all_counted old.entries (shared_mementos made.before) (arc_value made.after) room.0))
