use Rattle.std.proofs.Common.{◌≡◌, ℕ, Option, Some, None, Bor, Vec, Global, IfOk, List, option_map, sym, ap, subst, ◌∙◌}
use Rattle.toml.specs.declared.value.Value.{Value}
use Rattle.toml.specs.Data.{Data, Items, as_array, get_member}
use Rattle.toml.specs.View.{array_view, items_view, table_view, view}
use Rattle.toml.proofs.Views.{table_get}
use Rattle.original_list.specs.Entries.{bad_entry, bad_in, first_bad}
use Rattle.original_list.proofs.entries.bad_entry.Goals as goal

pub returns-in_default : goal.returns-in_default
returns-in_default c =
    let found = table_get c.get.result c.args.key.now c.args.table.now.entries c.get.ensures.value in
    ap (λ (r : Option (Bor Value)). bad_entry (option_map (λ x. view x.now) r)) (sym c.in_default.is) ∙ ap (λ (d : Option Data). bad_entry d) found

pub returns-in_default-as_array : goal.returns-in_default-as_array
returns-in_default-as_array c =
    let found = table_get c.get.result c.args.key.now c.args.table.now.entries c.get.ensures.value in
    let none : None ≡ as_array (view c.in-Some.value.now) =
    ap (λ (r : Option (Bor (Vec Value Global))). option_map (λ v. array_view v.now) r) (sym c.in_default-as_array.is) ∙ c.as_array.ensures in
    ap (λ (i : Option Items). bad_in i) none
    ∙ (ap (λ (r : Option (Bor Value)). bad_entry (option_map (λ x. view x.now) r)) (sym c.in-Some.is) ∙ ap (λ (d : Option Data). bad_entry d) found)

pub returns : goal.returns
returns c =
    let found = table_get c.get.result c.args.key.now c.args.table.now.entries c.get.ensures.value in
    let some : Some (array_view c.in-Some-as_array.list.now) ≡ as_array (view c.in-Some.value.now) =
    ap (λ (r : Option (Bor (Vec Value Global))). option_map (λ v. array_view v.now) r) (sym c.in-Some-as_array.is) ∙ c.as_array.ensures in
    let same : first_bad 1 (items_view c.as_slice.result.now) ≡ bad_entry (get_member c.args.key.now (table_view c.args.table.now)) =
    ap (λ (vs : List Value). first_bad 1 (items_view vs)) c.as_slice.ensures.value
    ∙ (ap (λ (i : Option Items). bad_in i) some
    ∙ (ap (λ (r : Option (Bor Value)). bad_entry (option_map (λ x. view x.now) r)) (sym c.in-Some.is) ∙ ap (λ (d : Option Data). bad_entry d) found)) in
    subst (λ (n : Option ℕ). IfOk c.first_bad.result (λ number. number ≡ n)) same c.first_bad.ensures
