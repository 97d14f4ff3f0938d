use Rattle.std.proofs.Common.{◌≡◌, ℕ, ◌∷◌, ◌++◌, List, [], sym, ap, ◌∙◌}
use Rattle.std.specs.FinMap as map
use Rattle.memento_sets.specs.MementoSets.{Mementos}
use Rattle.harvest_lattice.specs.Lattice.{Kept}
use Rattle.harvest_lattice.specs.Lacks.{lacking}
use Rattle.harvest_lattice.proofs.Parts.{entries_of_it}
use Rattle.harvest_lattice.proofs.NewsLemmas.{lacking_cons}
use Rattle.harvest_lattice.proofs.reading.Reading.lacking.Goals as goal

-- what is appended to nothing, in two steps
all_lacking : (a : Kept) (e : ℕ × Mementos) (es none one both : List (ℕ × Mementos)) (x : Kept) → none ≡ []
    → one ≡ none ++ lacking a (e ∷ []) → both ≡ one ++ lacking a es → map.entries x.revisions ≡ e ∷ es
    → both ≡ lacking a (map.entries x.revisions)
all_lacking a e es none one both x n o b is =
    b ∙ (ap (λ ps. ps ++ lacking a es) (o ∙ ap (λ ps. ps ++ lacking a (e ∷ [])) n) ∙ (sym (lacking_cons a e es) ∙ ap (lacking a) (sym is)))

pub returns : goal.returns
returns c =
    let e = c.other.inside in
    all_lacking c.args.self.now e.first.now e.later.now c.new-parts.result.items c.push_lack.new.parts.items
    c.push_lacks.new.parts.items c.args.other.now c.new-parts.ensures.items c.in_ok-push_lack.ensures
    c.in_ok-push_lacks.ensures
    (entries_of_it e.is_whole e.first.now e.later.now c.args.other.now c.other.view_is c.other.invariant)
