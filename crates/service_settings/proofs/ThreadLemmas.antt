-- How many threads there can be, and how many walks of one archive.
use Rattle.std.proofs.Common.{◌≡◌, ℕ, ◌≤◌, List, Option, Result, Ok, IfOk, sym, ap, ◌∙◌, subst, arith}
use Rattle.std.specs.Prelude.{All, IfSome}
use Rattle.service_settings.specs.Threads.{most_threads, stacks_of}
use Rattle.service_settings.specs.declared.archives.Archive.{Archive}
use Rattle.service_settings.specs.declared.fault.SettingsFault.{SettingsFault}
use Rattle.service_settings.specs.declared.threads.Stacks.{Stacks}
use Rattle.service_settings.specs.declared.threads.Stacks.TheVariants.{Whole, Small}

-- no more than may be walks of one archive at once
pub most_within : (stacks : Stacks) → most_threads stacks ≤ 1000
most_within Whole = omega arith
most_within Small = omega arith

-- archives that were read by what was read at `walks` have no more walks at once than there can be threads
pub few_of_each : (walks : Result (Option ℕ) SettingsFault) (found : Option ℕ) (most : ℕ) (stacks : Stacks) (archives : List Archive)
    → IfOk walks (λ w. most ≡ most_threads (stacks_of w)) → walks ≡ Ok found → stacks ≡ stacks_of found
    → All (λ archive. IfSome archive.at_once (λ own. own ≤ most)) archives
    → All (λ archive. IfSome archive.at_once (λ own. own ≤ most_threads stacks)) archives
few_of_each walks found most stacks archives read was same few =
    let limit = subst (λ (r : Result (Option ℕ) SettingsFault). IfOk r (λ w. most ≡ most_threads (stacks_of w))) was read in
    subst (λ (n : ℕ). All (λ (archive : Archive). IfSome archive.at_once (λ own. own ≤ n)) archives) (limit ∙ ap most_threads (sym same)) few
