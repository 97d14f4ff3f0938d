pub mod RestrictionLemmas
mod FloorLemmas
mod AmountLemmas
mod ExampleLemmas
