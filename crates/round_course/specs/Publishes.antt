-- What a publish of a running service makes of its merger, and what a forgetting leaves.
use Rattle.std.specs.Prelude.{◌≡◌, ◌⊎◌, Bool, true, false, Option, Some, None, Result, Ok, Err}
use Rattle.published_index.specs.Cursors.{with_publish}
use Rattle.published_index.specs.Views.{MergerView}
use Rattle.retention.specs.Restriction.{Rule}
use Rattle.forgetting.specs.Renewing.{Forgets}

-- what is pending was published, or that was refused
abbrev pub published_as : Bool → MergerView → MergerView
published_as true m = with_publish m
published_as false m = m

-- What is pending was published, or that was refused; and then something was forgotten by some rule, or nothing.
abbrev pub Publishes : Bool → MergerView → MergerView → Type 0
Publishes published old new =
    (new ≡ published_as published old) ⊎ ((rule : Rule) × Forgets rule (published_as published old) new)

-- whether something was forgotten
abbrev pub has_forgotten : {F E : Type 0} → Result (Option F) E → Bool
has_forgotten (Ok (Some forgot)) = true
has_forgotten (Ok None) = false
has_forgotten (Err fault) = false
