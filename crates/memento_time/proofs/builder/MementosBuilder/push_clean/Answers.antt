use Rattle.std.proofs.Common.{◌+◌, ◌<◌, ◌^◌, ◌++◌, ◌∷◌, [], ℕ, List, length, ap, ◌∙◌, arith}
use Rattle.memento_time.specs.declared.mementos.Memento.{Memento}
use Rattle.memento_time.proofs.BuilderLemmas.{pushed, still_builder}
use Rattle.memento_time.proofs.builder.MementosBuilder.push_clean.Goals as goal

pub invariant_of-self-2 : goal.invariant_of-self-2
invariant_of-self-2 c =
    let marks = c.in-Ok.ensures.items ∙ ap (λ (ms : List (ℕ × ℕ)). ms ++ (c.args.at, length c.args.uri.now) ∷ []) c.in_ok-reserve.ensures.items in
    let small : length c.args.uri.now + length c.self.inside.bytes.items < 2 ^ 32 = omega (arith, c.if-uri-len.false, c.self.invariant.small) in
    still_builder _ _ _ _ c.args.at c.args.uri.now c.self.invariant marks c.in_ok-extend_from_slice.ensures.items c.requires small

pub returns-clause-ok : goal.returns-clause-ok
returns-clause-ok c =
    let marks = c.in-Ok.ensures.items ∙ ap (λ (ms : List (ℕ × ℕ)). ms ++ (c.args.at, length c.args.uri.now) ∷ []) c.in_ok-reserve.ensures.items in
    pushed _ _ _ _ c.args.at c.args.uri.now c.self.invariant marks c.in_ok-extend_from_slice.ensures.items
    ∙ ap (λ (ms : List Memento). ms ++ record { at = c.args.at; uri = c.args.uri.now } ∷ []) c.self.view_is
