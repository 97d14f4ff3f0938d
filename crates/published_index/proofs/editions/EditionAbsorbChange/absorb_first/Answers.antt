use Rattle.std.proofs.Common.{◌≡◌, refl, subst, sym, Box, box_value, Global}
use Rattle.memento_index.specs.declared.merge.Merge.{Merge}
use Rattle.replica_exchange.specs.Stamps.{IsAbsorbed}
use Rattle.published_index.specs.declared.editions.Edition.{Edition}
use Rattle.published_index.specs.declared.editions.Change.{Change}
use Rattle.published_index.specs.declared.editions.Change.TheVariants.{Add}
use Rattle.published_index.specs.Changes.{after_change}
use Rattle.published_index.proofs.Stamping.{absorbed_is}
use Rattle.published_index.proofs.editions.EditionAbsorbChange.absorb_first.Goals as goal

absorbed : (x y : Edition) (change : Change) (b : Box Merge Global) (m : Merge) → change ≡ Add b → m ≡ box_value b → y.mark ≡ x.mark → IsAbsorbed x.stamped m y.stamped → y ≡ after_change x change
absorbed x y change b m is same mark it =
    let stamped : y.stamped ≡ (after_change x (Add b)).stamped = absorbed_is x.stamped (box_value b) y.stamped (subst (λ (m : Merge). IsAbsorbed x.stamped m y.stamped) same it) in
    subst (λ (c : Change). y ≡ after_change x c) (sym is) (λ i. record { stamped = stamped i; mark = mark i })

pub returns-in-Ok-clause-absorbed : goal.returns-in-Ok-clause-absorbed
returns-in-Ok-clause-absorbed c =
    absorbed c.args.self.now (record { stamped = c.absorb_beside.new.self; mark = c.args.self.now.mark }) c.args.operation.now _ _
    c.in-Add.is c.deref.ensures refl c.in-Ok.ensures.ok
