use Rattle.std.proofs.Common.{◌≡◌, ◌<◌, List, length, Some, None, sym, ap, subst, ◌∙◌}
use Rattle.std.specs.Prelude.{slice_get}
use Rattle.std.proofs.lemmas.Option.{slice_get-get_or}
use Rattle.memento_time.specs.declared.mementos.Memento.{Memento}
use Rattle.memento_sets.specs.Sets as set
use Rattle.memento_index.specs.Choice.{nearest}
use Rattle.memento_index.specs.Probes.{Lent}
use Rattle.memento_index.proofs.nearest.nearest_of.Goals as goal

pub returns-in-Some : goal.returns-in-Some
returns-in-Some c =
    let list = c.args.list.now in
    let place = c.in-Some.place in
    let its : c.new.result.list ≡ list = ap (λ (l : Lent). l.list) c.new.ensures in
    let near : slice_get list place ≡ nearest (set.from_list list) c.args.moment =
    subst (λ (ms : List Memento). slice_get ms place ≡ nearest (set.from_list ms) c.args.moment) its
    c.in-Some.ensures.nearest in
    let lt : place < length list = subst (λ (ms : List Memento). place < length ms) its c.in-Some.ensures.within in
    ap (λ (m : Memento). Some m) c.index-list-place.is ∙ (sym (slice_get-get_or list place c.index-list-place.result lt) ∙ near)

pub returns-in-None : goal.returns-in-None
returns-in-None c =
    let its : c.new.result.list ≡ c.args.list.now = ap (λ (l : Lent). l.list) c.new.ensures in
    subst (λ (ms : List Memento). None ≡ nearest (set.from_list ms) c.args.moment) its c.in-None.ensures.nearest
