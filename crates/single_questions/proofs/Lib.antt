mod DatetimeLemmas
mod NameLemmas
mod OutcomeLemmas
mod QuestionLemmas
