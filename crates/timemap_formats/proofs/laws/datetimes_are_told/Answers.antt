use Rattle.timemap_formats.proofs.DateLemmas.{rfc3339_injective, digits_injective}
use Rattle.timemap_formats.proofs.laws.datetimes_are_told.Goals as goal

pub returns-clause-rfc3339 : goal.returns-clause-rfc3339
returns-clause-rfc3339 c = rfc3339_injective

pub returns-clause-digits : goal.returns-clause-digits
returns-clause-digits c = digits_injective
