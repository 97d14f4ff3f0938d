use Rattle.std.proofs.Common.{ℕ, List, is_some, sym, ap, ◌∙◌}
use Rattle.toml.specs.Data.{get_member}
use Rattle.toml.specs.View.{members_view, view}
use Rattle.toml.proofs.Views.{table_get}
use Rattle.service_settings.proofs.KeyLemmas.{is_some-option_map}
use Rattle.service_settings.proofs.entries.has.Goals as goal

pub returns : goal.returns
returns c =
    let found = table_get c.get.result c.name.result.now c.args.table.now.entries c.get.ensures.value in
    c.is_some.ensures ∙ (sym (is_some-option_map (λ x. view x.now) c.get.result)
    ∙ (ap is_some found ∙ ap (λ (k : List ℕ). is_some (get_member k (members_view c.args.table.now.entries))) c.name.ensures))
