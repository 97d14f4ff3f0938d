use Rattle.retention_laws.proofs.AgreementLemmas.{kept_replies_agree, kept_timemaps_agree}
use Rattle.retention_laws.proofs.laws.replicas_agree_on_what_both_keep.Goals as goal

pub returns : goal.returns
returns c = record { replies = kept_replies_agree; timemaps = kept_timemaps_agree }
