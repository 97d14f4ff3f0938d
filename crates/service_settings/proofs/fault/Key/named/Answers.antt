use Rattle.std.proofs.Common.{◌∙◌, sym, ap, bytes_eq}
use Rattle.service_settings.specs.declared.fault.Key.TheVariants as key
use Rattle.service_settings.specs.Keys.{all_keys, is_name}
use Rattle.service_settings.proofs.KeyLemmas.{names_one-found, names_one-other, names_one-end}
use Rattle.service_settings.proofs.fault.Key.named.Goals as goal

pub returns-then-eq-clause-known : goal.returns-then-eq-clause-known
unfolding is_name
returns-then-eq-clause-known c =
    sym (names_one-found c.args.text.now all_keys c.loop-key.key-index key.Base c.loop-key-test.true
    (ap (λ n. bytes_eq n c.args.text.now) (sym c.name.ensures) ∙ (sym c.eq.ensures ∙ c.if-eq.true))) ∙ c.loop-key.invariant

pub loop-key-preserved : goal.loop-key-preserved
loop-key-preserved c =
    sym (names_one-other c.args.text.now all_keys c.loop-key.key-index key.Base c.loop-key-test.true
    (ap (λ n. bytes_eq n c.args.text.now) (sym c.name.ensures) ∙ (sym c.eq.ensures ∙ c.if-eq.false))) ∙ c.loop-key.invariant

pub returns-clause-known : goal.returns-clause-known
unfolding is_name
returns-clause-known c = sym (names_one-end c.args.text.now all_keys c.loop-key.key-index c.loop-key-test.false) ∙ c.loop-key.invariant
