mod DeltaLemmas
pub mod ReplyLemmas
mod AgreementLemmas
