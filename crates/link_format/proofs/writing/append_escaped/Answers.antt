use Rattle.std.proofs.Common.{◌≡◌, ℕ, List, [], ◌∷◌, ◌++◌, length, sym, ap, ◌∙◌, arith}
use Rattle.std.proofs.lemmas.List.{append-nil, nil_from_length}
use Rattle.std.proofs.lemmas.Result.{err_from_is_err_and}
use Rattle.link_format.specs.Bytes.{is_plain}
use Rattle.link_format.specs.Scan.{front, past}
use Rattle.link_format.specs.Writing.{Extends, escape}
use Rattle.link_format.proofs.Appended.{extends_through, escape_plain, escape_step}
use Rattle.link_format.proofs.Fronts.{past_shorter}
use Rattle.link_format.proofs.writing.append_escaped.Goals as goal

pub returns-in_default-clause-ok : goal.returns-in_default-clause-ok
returns-in_default-clause-ok c =
    let none : past is_plain c.runs.rest.now ≡ [] = sym c.split_while.ensures.past ∙ nil_from_length _ c.in_default.ensures.cases in
    let all : escape c.runs.rest.now ≡ front is_plain c.runs.rest.now = escape_plain c.runs.rest.now ∙ ap (λ (t : List ℕ). front is_plain c.runs.rest.now ++ escape t) none ∙ append-nil _ in
    c.in_ok-extend_from_slice.ensures.items ∙ ap (λ (t : List ℕ). c.runs.out.items ++ t) (c.split_while.ensures.front ∙ sym all) ∙ c.runs.invariant.same

pub returns-in_err-append_byte-clause-err : goal.returns-in_err-append_byte-clause-err
returns-in_err-append_byte-clause-err c =
    let before = c.args.out.now.items in
    let middle = c.extend_from_slice.new.self.items in
    let so_far : Extends before middle = extends_through before c.runs.out.items middle c.runs.invariant.extends (c.split_while.result.0.now, c.in_ok-extend_from_slice.ensures.items) in
    let p = err_from_is_err_and c.from_residual-in_err-append_byte.result c.from_residual-in_err-append_byte.ensures.1 in
    rw p.1 (extends_through before middle c.append_byte.new.out.items so_far c.in_err-append_byte.ensures.err)

pub runs-smaller : goal.runs-smaller
runs-smaller c =
    let e : length (past is_plain c.runs.rest.now) ≡ length (c.in-Some.b.now ∷ c.in-Some.after.now) = ap length (sym c.split_while.ensures.past ∙ c.in-Some.ensures.cases.0) in
    omega (arith, past_shorter is_plain c.runs.rest.now)

pub runs-preserved : goal.runs-preserved
runs-preserved c =
    let before = c.args.out.now.items in
    let middle = c.extend_from_slice.new.self.items in
    let now = c.append_byte.new.out.items in
    let rest = c.runs.rest.now in
    let e : past is_plain rest ≡ c.in-Some.b.now ∷ c.in-Some.after.now = sym c.split_while.ensures.past ∙ c.in-Some.ensures.cases.0 in
    let first : middle ≡ c.runs.out.items ++ front is_plain rest = c.in_ok-extend_from_slice.ensures.items ∙ ap (λ (t : List ℕ). c.runs.out.items ++ t) c.split_while.ensures.front in
    let whole : now ≡ (c.runs.out.items ++ front is_plain rest) ++ escape (c.in-Some.b.now ∷ []) = c.in_ok-append_byte.ensures.ok ∙ ap (λ (t : List ℕ). t ++ escape (c.in-Some.b.now ∷ [])) first in
    let so_far : Extends before middle = extends_through before c.runs.out.items middle c.runs.invariant.extends (front is_plain rest, first) in
    record {
      same = ap (λ (t : List ℕ). t ++ escape c.in-Some.after.now) whole ∙ escape_step c.runs.out.items rest c.in-Some.after.now c.in-Some.b.now e ∙ c.runs.invariant.same;
      extends = extends_through before middle now so_far (escape (c.in-Some.b.now ∷ []), c.in_ok-append_byte.ensures.ok);
    }
