use Rattle.std.proofs.Common.{◌≡◌, ◌++◌, ◌∷◌, [], List, ℕ, length, rules, arith, ap, ◌∙◌, append_assoc}
use Rattle.std.specs.Prelude.{codes}
use Rattle.std.specs.Fmt.{decimal}
use Rattle.snapshot_sections.proofs.Appending.{on_err}
use Rattle.snapshots.proofs.Sectioning.{section_written}
use Rattle.snapshots.proofs.Beginning.{line_begun, head_begun, body_begun, end_begun}
use Rattle.snapshots.proofs.writing.write_section.Goals as goal

pub returns-in_err-write_section_line-clause-less : goal.returns-in_err-write_section_line-clause-less
returns-in_err-write_section_line-clause-less g c =
    let first = c.in_ok-extend_from_slice.ensures.items ∙ ap (λ (u : List ℕ). u ++ codes "memento-state 2\nentries ") c.new-head.ensures.items in
    let numbered = c.in_ok-write_decimal.ensures.ok ∙ ap (λ (u : List ℕ). u ++ decimal c.args.entries) first in
    let head : c.push.new.self.items ≡ codes "memento-state 2\nentries " ++ (decimal c.args.entries ++ 10 ∷ []) =
    c.in_ok-push.ensures.items ∙ (ap (λ (u : List ℕ). u ++ 10 ∷ []) numbered ∙ append_assoc (codes "memento-state 2\nentries ") (decimal c.args.entries) (10 ∷ [])) in
    let size : c.len.result ≡ length c.push.new.self.items = search rules in
    on_err _ (line_begun c.push.new.self.items c.args.body.now c.args.entries _ head (omega (arith, size)) _ _ c.in_err-write_section_line.ensures.less)

pub returns-in_err-write_bytes-clause-less : goal.returns-in_err-write_bytes-clause-less
returns-in_err-write_bytes-clause-less g c =
    let first = c.in_ok-extend_from_slice.ensures.items ∙ ap (λ (u : List ℕ). u ++ codes "memento-state 2\nentries ") c.new-head.ensures.items in
    let numbered = c.in_ok-write_decimal.ensures.ok ∙ ap (λ (u : List ℕ). u ++ decimal c.args.entries) first in
    let head : c.push.new.self.items ≡ codes "memento-state 2\nentries " ++ (decimal c.args.entries ++ 10 ∷ []) =
    c.in_ok-push.ensures.items ∙ (ap (λ (u : List ℕ). u ++ 10 ∷ []) numbered ∙ append_assoc (codes "memento-state 2\nentries ") (decimal c.args.entries) (10 ∷ [])) in
    let lent : c.deref.result.now ≡ c.push.new.self.items = search rules in
    let size : c.len.result ≡ length c.push.new.self.items = search rules in
    let same : length c.deref.result.now ≡ length c.push.new.self.items = ap length lent in
    on_err _ (head_begun c.deref.result.now c.args.body.now c.args.entries _ (lent ∙ head) (omega (arith, size, same)) _ _ _ c.in_ok-write_section_line.ensures.written
    c.in_err-write_bytes.ensures.less)

pub returns-in_err-write_bytes-2-clause-less : goal.returns-in_err-write_bytes-2-clause-less
returns-in_err-write_bytes-2-clause-less g c =
    let first = c.in_ok-extend_from_slice.ensures.items ∙ ap (λ (u : List ℕ). u ++ codes "memento-state 2\nentries ") c.new-head.ensures.items in
    let numbered = c.in_ok-write_decimal.ensures.ok ∙ ap (λ (u : List ℕ). u ++ decimal c.args.entries) first in
    let head : c.push.new.self.items ≡ codes "memento-state 2\nentries " ++ (decimal c.args.entries ++ 10 ∷ []) =
    c.in_ok-push.ensures.items ∙ (ap (λ (u : List ℕ). u ++ 10 ∷ []) numbered ∙ append_assoc (codes "memento-state 2\nentries ") (decimal c.args.entries) (10 ∷ [])) in
    let lent : c.deref.result.now ≡ c.push.new.self.items = search rules in
    let size : c.len.result ≡ length c.push.new.self.items = search rules in
    let same : length c.deref.result.now ≡ length c.push.new.self.items = ap length lent in
    on_err _ (body_begun c.deref.result.now c.args.body.now c.args.entries _ (lent ∙ head) (omega (arith, size, same)) _ _ _ _ c.in_ok-write_section_line.ensures.written
    c.in_ok-write_bytes.ensures.written c.in_err-write_bytes-2.ensures.less)

pub returns-in_err-write_bytes-3-clause-less : goal.returns-in_err-write_bytes-3-clause-less
returns-in_err-write_bytes-3-clause-less g c =
    let first = c.in_ok-extend_from_slice.ensures.items ∙ ap (λ (u : List ℕ). u ++ codes "memento-state 2\nentries ") c.new-head.ensures.items in
    let numbered = c.in_ok-write_decimal.ensures.ok ∙ ap (λ (u : List ℕ). u ++ decimal c.args.entries) first in
    let head : c.push.new.self.items ≡ codes "memento-state 2\nentries " ++ (decimal c.args.entries ++ 10 ∷ []) =
    c.in_ok-push.ensures.items ∙ (ap (λ (u : List ℕ). u ++ 10 ∷ []) numbered ∙ append_assoc (codes "memento-state 2\nentries ") (decimal c.args.entries) (10 ∷ [])) in
    let lent : c.deref.result.now ≡ c.push.new.self.items = search rules in
    let size : c.len.result ≡ length c.push.new.self.items = search rules in
    let same : length c.deref.result.now ≡ length c.push.new.self.items = ap length lent in
    on_err _ (end_begun c.deref.result.now c.args.body.now c.args.entries _ (lent ∙ head) (omega (arith, size, same)) _ _ _ _ _ c.in_ok-write_section_line.ensures.written
    c.in_ok-write_bytes.ensures.written c.in_ok-write_bytes-2.ensures.written c.in_err-write_bytes-3.ensures.less)

pub returns-clause-written : goal.returns-clause-written
returns-clause-written g c =
    let first = c.in_ok-extend_from_slice.ensures.items ∙ ap (λ (u : List ℕ). u ++ codes "memento-state 2\nentries ") c.new-head.ensures.items in
    let numbered = c.in_ok-write_decimal.ensures.ok ∙ ap (λ (u : List ℕ). u ++ decimal c.args.entries) first in
    let head : c.push.new.self.items ≡ codes "memento-state 2\nentries " ++ (decimal c.args.entries ++ 10 ∷ []) =
    c.in_ok-push.ensures.items ∙ (ap (λ (u : List ℕ). u ++ 10 ∷ []) numbered ∙ append_assoc (codes "memento-state 2\nentries ") (decimal c.args.entries) (10 ∷ [])) in
    let lent : c.deref.result.now ≡ c.push.new.self.items = search rules in
    let size : c.len.result ≡ length c.push.new.self.items = search rules in
    let same : length c.deref.result.now ≡ length c.push.new.self.items = ap length lent in
    section_written _ _ _ _ _ c.deref.result.now c.args.body.now c.args.entries _ (lent ∙ head) (omega (arith, size, same))
    c.in_ok-write_section_line.ensures.written c.in_ok-write_bytes.ensures.written c.in_ok-write_bytes-2.ensures.written c.in_ok-write_bytes-3.ensures.written
