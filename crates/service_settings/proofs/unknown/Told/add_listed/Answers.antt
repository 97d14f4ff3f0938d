use Rattle.std.proofs.Common.{◌≡◌, ◌++◌, ◌∙◌, List, ℕ, Option, Some, None, Bor, Vec, Global, OnOk, option_map, codes, sym, ap, subst, append-nil}
use Rattle.toml.specs.declared.value.Value.{Value}
use Rattle.toml.specs.Data.{Data, Items, as_array, get_member}
use Rattle.toml.specs.View.{array_view, items_view, table_view, view}
use Rattle.toml.proofs.Views.{table_get}
use Rattle.service_settings.specs.Told.{IsTold}
use Rattle.service_settings.specs.Unknown.{archives_lines, list_lines, value_lines}
use Rattle.service_settings.proofs.unknown.Told.add_listed.Goals as goal

pub returns-in_default : goal.returns-in_default
returns-in_default c = λ all told.
    let members = table_view c.args.settings.now in
    let found = table_get c.get.result c.name.result.now c.args.settings.now.entries c.get.ensures.value
    ∙ ap (λ (k : List ℕ). get_member k members) c.name.ensures in
    let none : None ≡ get_member (codes "archives") members =
    ap (λ (r : Option (Bor Value)). option_map (λ x. view x.now) r) (sym c.in_default.is) ∙ found in
    subst (λ (v : Option Data). IsTold c.args.self.now (all ++ value_lines v)) none
    (subst (λ (ls : List (List ℕ)). IsTold c.args.self.now ls) (sym (append-nil all)) told)

pub returns-in_default-as_array : goal.returns-in_default-as_array
returns-in_default-as_array c = λ all told.
    let members = table_view c.args.settings.now in
    let found = table_get c.get.result c.name.result.now c.args.settings.now.entries c.get.ensures.value
    ∙ ap (λ (k : List ℕ). get_member k members) c.name.ensures in
    let some : Some (view c.in-Some.value.now) ≡ get_member (codes "archives") members =
    ap (λ (r : Option (Bor Value)). option_map (λ x. view x.now) r) (sym c.in-Some.is) ∙ found in
    let none : None ≡ as_array (view c.in-Some.value.now) =
    ap (λ (r : Option (Bor (Vec Value Global))). option_map (λ v. array_view v.now) r) (sym c.in_default-as_array.is) ∙ c.as_array.ensures in
    subst (λ (v : Option Data). IsTold c.args.self.now (all ++ value_lines v)) some
    (subst (λ (i : Option Items). IsTold c.args.self.now (all ++ list_lines i)) none
    (subst (λ (ls : List (List ℕ)). IsTold c.args.self.now ls) (sym (append-nil all)) told))

pub returns : goal.returns
returns c =
    let members = table_view c.args.settings.now in
    let found = table_get c.get.result c.name.result.now c.args.settings.now.entries c.get.ensures.value
    ∙ ap (λ (k : List ℕ). get_member k members) c.name.ensures in
    let value : Some (view c.in-Some.value.now) ≡ get_member (codes "archives") members =
    ap (λ (r : Option (Bor Value)). option_map (λ x. view x.now) r) (sym c.in-Some.is) ∙ found in
    let items : Some (array_view c.in-Some-as_array.archives.now) ≡ as_array (view c.in-Some.value.now) =
    ap (λ (r : Option (Bor (Vec Value Global))). option_map (λ v. array_view v.now) r) (sym c.in-Some-as_array.is) ∙ c.as_array.ensures in
    let same : archives_lines (items_view c.as_slice.result.now) ≡ value_lines (get_member (codes "archives") members) =
    ap (λ (vs : List Value). archives_lines (items_view vs)) c.as_slice.ensures.value
    ∙ (ap (λ (i : Option Items). list_lines i) items ∙ ap (λ (d : Option Data). value_lines d) value) in
    subst (λ (ls : List (List ℕ)). OnOk c.add_archives.result ((all : List (List ℕ)) → IsTold c.args.self.now all → IsTold c.add_archives.new.self (all ++ ls)))
    same c.add_archives.ensures
