use Rattle.std.proofs.Common.{◌≡◌, ◌++◌, ◌∷◌, [], ◌∙◌, false, sym, ap, arith, append_assoc}
use Rattle.std.proofs.lemmas.Grind.{common_steps}
use Rattle.std.specs.String.{string_bytes}
use Rattle.toml.specs.View.{members_view, view}
use Rattle.toml.proofs.Views.{Entry}
use Rattle.service_settings.specs.Unknown.{is_known, line_of, table_lines}
use Rattle.service_settings.proofs.ToldLemmas.{table_lines-unknown}
use Rattle.service_settings.proofs.unknown.Told.add_table.Goals as goal

pub loop-key-preserved-in-Continue-1 : goal.loop-key-preserved-in-Continue-1
loop-key-preserved-in-Continue-1 c = λ all told.
    let (done, so_far, same) = c.loop-key.invariant all told in
    let e : Entry = (c.in-Some.key.now, c.in-Some._value.now) in
    let iter : c.loop-key.key-iterator ≡ e ∷ c.next.new.self = grind (arith, common_steps) in
    let place = c.args.place in
    let name = string_bytes e.0 in
    let rest = members_view c.next.new.self in
    let shown : is_known place c.as_str.result.now ≡ false = grind (arith, common_steps) in
    let unknown : is_known place name ≡ false = rw c.as_str.ensures.value at shown in (
      done ++ line_of place name ∷ [],
      rw c.as_str-then-not-knows.ensures.value at (c.in_ok-add.ensures done so_far),
      append_assoc done (line_of place name ∷ []) (table_lines place rest)
          ∙ (ap (λ t. done ++ t) (sym (table_lines-unknown place name (view e.1) rest unknown))
          ∙ (ap (λ es. done ++ table_lines place (members_view es)) (sym iter) ∙ same)),
    )
