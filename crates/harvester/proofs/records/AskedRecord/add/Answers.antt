use Rattle.std.proofs.Common.{[], ◌∷◌, ◌++◌, Option, ℕ, sym, subst}
use Rattle.harvester.specs.Patience.{IsLongestAsked}
use Rattle.harvester.proofs.Waits.{longest_with}
use Rattle.harvester.proofs.records.AskedRecord.add.Goals as goal

pub returns-clause-ok : goal.returns-clause-ok
returns-clause-ok c = λ entries was.
    subst (λ (longest : Option ℕ). IsLongestAsked c.args.self.now.now (entries ++ (c.args._url.now, c.args.answer) ∷ []) longest) (sym c.longer-self.ensures)
    (longest_with c.args.self.now.now entries (c.args._url.now, c.args.answer) c.args.self.now.longest c.asked_patience.result (sym c.asked_patience.ensures) was)
