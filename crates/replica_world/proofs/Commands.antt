-- A command is read where it is laid out, and its first line too.
use Rattle.std.proofs.Common.{◌≡◌, ℕ, zero, suc, ◌^◌, ◌<◌, ◌≤◌, Bool, true, false, ◌&&◌, nat_le, if◌then◌else◌, List, [], ◌∷◌, ◌++◌, Option, Some, None, refl, sym, ap, subst, ◌∙◌, arith}
use Rattle.std.specs.Prelude.{codes, bytes_eq}
use Rattle.std.specs.Fmt.{decimal}
use Rattle.std.proofs.lemmas.Grind.{common_steps}
use Rattle.std.proofs.lemmas.Option.{same_Some}
use Rattle.std.proofs.lemmas.Slice.Eq.{bytes_eq-Decides}
use Rattle.text_fields.specs.Finds.{Finds}
use Rattle.text_fields.specs.Parts.{spaced_fields}
use Rattle.text_fields.proofs.PartLemmas.{parts_are}
use Rattle.replica_world.specs.Fields.{field, number_field, line_of, lines_of, block_of}
use Rattle.replica_world.specs.Form as form
use Rattle.replica_world.specs.Form.{Form, form_text, form_of}
use Rattle.replica_world.specs.Script.{Command, Found, Start, command_of, command_at, replicas_of, service_of, start_of, start_at}
use Rattle.replica_world.specs.Layout.{IsLine, AreLines, IsBlock, Means, IsCommandAt, IsStartAt}
use Rattle.replica_world.proofs.LaidOut.{line_is, block_is}
use Rattle.replica_world.proofs.Forms.{onward, kept, number_field_is, lacks_space, form_is}
use Rattle.link_format.specs.Scan.{◌>>=◌}
use Rattle.link_format.proofs.Sound.{bind_some}

-- ---- lines in turn

-- one line more in front
next_lines : (count : ℕ) (text : List ℕ) → ((after : List ℕ) → Finds (lines_of count after) (λ q. AreLines count after q.0 q.1))
    → Finds {A = List (List ℕ) × List ℕ} (line_of text >>= λ line. lines_of count line.1 >>= λ more. Some (line.0 ∷ more.0, more.1)) (λ p. AreLines (suc count) text p.0 p.1)
next_lines count text fewer p = (there, here) where
  there : (line_of text >>= λ line. lines_of count line.1 >>= λ more. Some (line.0 ∷ more.0, more.1)) ≡ Some p → AreLines (suc count) text p.0 p.1
  there is =
      let line = bind_some (line_of text) _ p is in
      let more = bind_some (lines_of count line.0.1) _ p line.2 in
      let laid = (fewer line.0.1 more.0).0 more.1 in
      let same = same_Some (line.0.0 ∷ more.0.0, more.0.1) p more.2 in
      subst (λ (q : List (List ℕ) × List ℕ). AreLines (suc count) text q.0 q.1) same (line.0.0, line.0.1, more.0.0, (line_is text line.0).0 line.1, laid, refl)

  here : AreLines (suc count) text p.0 p.1 → (line_of text >>= λ line. lines_of count line.1 >>= λ more. Some (line.0 ∷ more.0, more.1)) ≡ Some p
  here (line, after, later, first, rest, lines) =
      onward (line_of text) _ (line, after) ((line_is text (line, after)).1 first)
      ∙ onward (lines_of count after) _ (later, p.1) ((fewer after (later, p.1)).1 rest)
      ∙ ap (λ (l : List (List ℕ)). Some (l, p.1)) (sym lines)

pub lines_are : (count : ℕ) (text : List ℕ) → Finds (lines_of count text) (λ p. AreLines count text p.0 p.1)
unfolding lines_of
lines_are zero text p = (
  λ is. let same = same_Some ([], text) p is in (sym (ap (λ (q : List (List ℕ) × List ℕ). q.0) same), sym (ap (λ (q : List (List ℕ) × List ℕ). q.1) same)),
  λ laid. ap (λ (q : List (List ℕ) × List ℕ). Some q) (λ i. (sym laid.0 i, sym laid.1 i)),
)
lines_are (suc count) text p = next_lines count text (lines_are count) p

-- ---- a command

-- what stands behind a line that has no more
alone : (command : Command) (after : List ℕ) (c : Command × List ℕ) → Some (command, after) ≡ Some c → (c.0 ≡ command) × (c.1 ≡ after)
alone command after c is = let same = same_Some (command, after) c is in (sym (ap (λ (q : Command × List ℕ). q.0) same), sym (ap (λ (q : Command × List ℕ). q.1) same))

abbrev both : Command → List ℕ → Found
both command rest = Some (command, rest)

pair : (command other : Command) (after rest : List ℕ) → other ≡ command → rest ≡ after → both command after ≡ both other rest
pair command other after rest same also = ap (λ (q : Command × List ℕ). Some q) (λ i. (sym same i, sym also i))

means_there : (f : Form) (after : List ℕ) (c : Command × List ℕ) → command_of f after ≡ Some c → Means f after c.0 c.1
unfolding command_of
means_there (form.Take f) after c is =
    let body = bind_some (block_of f.len after) _ c is in
    let same = alone _ _ c body.2 in
    (body.0.0, subst (λ (rest : List ℕ). IsBlock f.len after (body.0.0, rest)) (sym same.1) ((block_is f.len after body.0).0 body.1), same.0)
means_there (form.Map replica original) after c is = alone _ after c is
means_there (form.Gate replica original) after c is = alone _ after c is
means_there (form.GateAt replica original asked) after c is = alone _ after c is
means_there (form.Ask f) after c is =
    let asked = bind_some (lines_of f.count after) _ c is in
    let same = alone _ _ c asked.2 in
    (asked.0.0, subst (λ (rest : List ℕ). AreLines f.count after asked.0.0 rest) (sym same.1) ((lines_are f.count after asked.0).0 asked.1), same.0)
means_there (form.Send replica) after c is = alone _ after c is
means_there (form.SendFrom replica merges) after c is = alone _ after c is
means_there (form.Deliver replica message) after c is = alone _ after c is
means_there (form.Receive replica len) after c is =
    let body = bind_some (block_of len after) _ c is in
    let same = alone _ _ c body.2 in
    (body.0.0, subst (λ (rest : List ℕ). IsBlock len after (body.0.0, rest)) (sym same.1) ((block_is len after body.0).0 body.1), same.0)
means_there (form.Restart replica) after c is = alone _ after c is

means_here : (f : Form) (after : List ℕ) (command : Command) (rest : List ℕ) → Means f after command rest → command_of f after ≡ Some (command, rest)
unfolding command_of
means_here (form.Take f) after command rest (body, block, is) =
    onward (block_of f.len after) _ (body, rest) ((block_is f.len after (body, rest)).1 block) ∙ pair _ command rest rest is refl
means_here (form.Map replica original) after command rest (is, same) = pair _ command after rest is same
means_here (form.Gate replica original) after command rest (is, same) = pair _ command after rest is same
means_here (form.GateAt replica original asked) after command rest (is, same) = pair _ command after rest is same
means_here (form.Ask f) after command rest (asked, lines, is) =
    onward (lines_of f.count after) _ (asked, rest) ((lines_are f.count after (asked, rest)).1 lines) ∙ pair _ command rest rest is refl
means_here (form.Send replica) after command rest (is, same) = pair _ command after rest is same
means_here (form.SendFrom replica merges) after command rest (is, same) = pair _ command after rest is same
means_here (form.Deliver replica message) after command rest (is, same) = pair _ command after rest is same
means_here (form.Receive replica len) after command rest (body, block, is) =
    onward (block_of len after) _ (body, rest) ((block_is len after (body, rest)).1 block) ∙ pair _ command rest rest is refl
means_here (form.Restart replica) after command rest (is, same) = pair _ command after rest is same

-- a command is found where it is laid out
pub command_is : (text : List ℕ) → Finds (command_at text) (λ c. IsCommandAt text c.0 c.1)
unfolding command_at
command_is text c = (there, here) where
  there : (line_of text >>= λ line. form_of line.0 >>= λ said. command_of said line.1) ≡ Some c → IsCommandAt text c.0 c.1
  there is =
      let line = bind_some (line_of text) _ c is in
      let said = bind_some (form_of line.0.0) _ c line.2 in
      let laid = (form_is line.0.0 said.0).0 said.1 in
      record {
        form = said.0;
        after = line.0.1;
        written = laid.0;
        line = subst (λ (t : List ℕ). IsLine text (t, line.0.1)) laid.1 ((line_is text line.0).0 line.1);
        means = means_there said.0 line.0.1 c said.2;
      }

  here : IsCommandAt text c.0 c.1 → (line_of text >>= λ line. form_of line.0 >>= λ said. command_of said line.1) ≡ Some c
  here laid =
      onward (line_of text) _ (form_text laid.form, laid.after) ((line_is text (form_text laid.form, laid.after)).1 laid.line)
      ∙ onward (form_of (form_text laid.form)) _ laid.form ((form_is (form_text laid.form) laid.form).1 (laid.written, refl))
      ∙ means_here laid.form laid.after c.0 c.1 laid.means

-- ---- the first line

few : (is_word : Bool) (count : ℕ) → (is_word && nat_le 1 count && nat_le count 16) ≡ true → (is_word ≡ true) × (1 ≤ count) × (count ≤ 16)
few true count is = (refl, grind (arith, common_steps), grind (arith, common_steps))
few false count is = absurd (let both : false ≡ true = is in cc)

few_all : (count : ℕ) → 1 ≤ count → count ≤ 16 → (nat_le 1 count && nat_le count 16) ≡ true
few_all count some most = grind (arith, common_steps)

-- a first line is found where it is laid out
pub start_is : (text : List ℕ) → Finds (start_at text) (λ s. IsStartAt text s.0 s.1)
unfolding start_at start_of
start_is text s = (there, here) where
  there : (line_of text >>= λ line. (replicas_of line.0 >>= λ count. service_of count.1 >>= λ base. Some (record { replicas = count.0; base = base }))
      >>= λ begin. Some (begin, line.1)) ≡ Some s → IsStartAt text s.0 s.1
  there is =
      let line = bind_some (line_of text) _ s is in
      let begin = bind_some (start_of line.0.0) _ s line.2 in
      let count = bind_some (replicas_of line.0.0) _ begin.0 begin.1 in
      let base = bind_some (service_of count.0.1) _ begin.0 count.2 in
      let word = bind_some (field line.0.0) _ count.0 count.1 in
      let number = bind_some (number_field word.0.1) _ count.0 word.2 in
      let some = kept _ _ count.0 number.2 in
      let range = few (bytes_eq word.0.0 (codes "replicas")) number.0.0 some.0 in
      let split = (parts_are 32 line.0.0 word.0).0 word.1 in
      let laid = (number_field_is word.0.1 number.0).0 number.1 in
      let word_is : word.0.0 ≡ codes "replicas" = (bytes_eq-Decides word.0.0 (codes "replicas")).0 range.0 in
      let whole : line.0.0 ≡ spaced_fields (codes "replicas" ∷ decimal number.0.0 ∷ number.0.1 ∷ []) = split.1 ∙ (λ i. word_is i ++ 32 ∷ laid.1 i) in
      let base_is : service_of number.0.1 ≡ Some base.0 = subst (λ (t : ℕ × List ℕ). service_of t.1 ≡ Some base.0) (sym some.1) base.1 in
      let begin_is : record { replicas = number.0.0; base = base.0 } ≡ begin.0 = ap (λ (t : ℕ × List ℕ). record { replicas = t.0; base = base.0 }) some.1 ∙ same_Some _ _ base.2 in
      let at : IsStartAt text (record { replicas = number.0.0; base = base.0 }) line.0.1 = record {
        base = number.0.1;
        line = subst (λ (t : List ℕ). IsLine text (t, line.0.1)) whole ((line_is text line.0).0 line.1);
        some = range.1;
        most = range.2;
        service = base_is;
      } in
      subst (λ (q : Start × List ℕ). IsStartAt text q.0 q.1) (ap (λ (b : Start). (b, line.0.1)) begin_is ∙ same_Some (begin.0, line.0.1) s begin.2) at

  here : IsStartAt text s.0 s.1 → (line_of text >>= λ line. (replicas_of line.0 >>= λ count. service_of count.1 >>= λ base. Some
      (record { replicas = count.0; base = base })) >>= λ begin. Some (begin, line.1)) ≡ Some s
  here laid =
      let n : ℕ = s.0.replicas in
      let whole : List ℕ = spaced_fields (codes "replicas" ∷ decimal n ∷ laid.base ∷ []) in
      let small : n < 2 ^ 64 = omega (arith, laid.most) in
      let word : field whole ≡ Some (
        codes "replicas",
        decimal n
            ++ 32 ∷ laid.base,
      ) = (parts_are 32 whole (codes "replicas", decimal n ++ 32 ∷ laid.base)).1 (lacks_space (codes "replicas") refl, refl) in
      let number : number_field (decimal n ++ 32 ∷ laid.base) ≡ Some (n, laid.base) = (number_field_is (decimal n ++ 32 ∷ laid.base) (n, laid.base)).1 (small, refl) in
      let count : replicas_of whole ≡ Some (n, laid.base) =
      onward (field whole) _ (codes "replicas", decimal n ++ 32 ∷ laid.base) word ∙ onward (number_field (decimal n ++ 32 ∷ laid.base)) _ (n, laid.base) number
      ∙ ap (λ (b : Bool). if b then Some (n, laid.base) else None) (few_all n laid.some laid.most) in
      onward (line_of text) _ (whole, s.1) ((line_is text (whole, s.1)).1 laid.line)
      ∙ ap (λ (o : Option Start). o >>= λ begin. Some (begin, s.1)) (onward (replicas_of whole) _ (n, laid.base) count ∙ onward (service_of laid.base) _ s.0.base laid.service)
