-- When two mementos are the same.
use Rattle.std.proofs.Common.{◌≡◌, ◌==◌, ◌&&◌, Bool, true, refl, subst}
use Rattle.std.specs.Bool.{Decides}
use Rattle.std.specs.Cmp.Derive.{both_true}
use Rattle.std.specs.Cmp.Lexicographic.{pointwise}
use Rattle.std.proofs.lemmas.Bool.Decides.{Decides-eqb}
use Rattle.std.proofs.lemmas.Bool.{and_parts}
use Rattle.std.proofs.lemmas.Slice.Eq.{bytes_eq-Decides}
use Rattle.memento_time.specs.declared.mementos.Memento.{Memento}

-- two mementos are the same where their moments and their texts are
same_memento : Memento → Memento → Bool
same_memento a b = (a.at == b.at) && pointwise ◌==◌ a.uri b.uri

pub same_memento-Decides : (a b : Memento) → Decides ((a.at == b.at) && pointwise ◌==◌ a.uri b.uri) (a ≡ b)
unfolding same_memento
same_memento-Decides a b = (told, λ is. subst (λ m. same_memento a m ≡ true) is itself)
  where
    itself : same_memento a a ≡ true
    itself = both_true ((Decides-eqb a.at a.at).1 refl) ((bytes_eq-Decides a.uri a.uri).1 refl)

    told : same_memento a b ≡ true → a ≡ b
    told is =
        let halves = and_parts (a.at == b.at) (pointwise ◌==◌ a.uri b.uri) is in
        let at : a.at ≡ b.at = (Decides-eqb a.at b.at).0 halves.0 in
        let uri : a.uri ≡ b.uri = (bytes_eq-Decides a.uri b.uri).0 halves.1 in
        λ i. record { at = at i; uri = uri i }
