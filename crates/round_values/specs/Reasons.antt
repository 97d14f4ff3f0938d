-- Why walks failed, and how many for each reason.
use Rattle.harvester.specs.declared.faults.FetchFault.TheVariants as fetch
use Rattle.harvester.specs.declared.faults.WalkFault.{WalkFault}
use Rattle.harvester.specs.declared.faults.WalkFault.TheVariants as fault
use Rattle.service_log.specs.declared.lines.Reason.{Reason}
use Rattle.service_log.specs.declared.lines.Reason.TheVariants as reason
use Rattle.round_values.specs.declared.reasons.Reasons.{Reasons}
use Rattle.service_status.specs.Counts.{one_more}

-- the reason that a fault is
abbrev pub reason_of : WalkFault → Reason
reason_of (fault.Fetch fetch.TooLong) = reason.TooLong
reason_of (fault.Fetch fetch.Failed) = reason.NoAnswer
reason_of (fault.Fetch fetch.Broken) = reason.NoAnswer
reason_of (fault.Fetch fetch.NoMemory) = reason.NoMemory
reason_of (fault.Status status) = reason.Status
reason_of fault.Encoded = reason.Encoded
reason_of (fault.Page why) = reason.NoPage
reason_of fault.TooManyPages = reason.TooManyPages
reason_of fault.TooManyMementos = reason.TooManyMementos
reason_of fault.NoMemory = reason.NoMemory

-- the counts with one walk more that failed for a reason
abbrev pub with_one_more : Reason → Reasons → Reasons
with_one_more reason.NoAnswer counts = record counts { no_answer = one_more counts.no_answer }
with_one_more reason.TooLong counts = record counts { too_long = one_more counts.too_long }
with_one_more reason.Status counts = record counts { status = one_more counts.status }
with_one_more reason.Encoded counts = record counts { encoded = one_more counts.encoded }
with_one_more reason.NoPage counts = record counts { no_page = one_more counts.no_page }
with_one_more reason.TooManyPages counts = record counts { too_many_pages = one_more counts.too_many_pages }
with_one_more reason.TooManyMementos counts = record counts { too_many_mementos = one_more counts.too_many_mementos }
with_one_more reason.NoMemory counts = record counts { no_memory = one_more counts.no_memory }
