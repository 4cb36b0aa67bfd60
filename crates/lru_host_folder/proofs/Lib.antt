pub mod FailsLemmas
pub mod PlaceLemmas
pub mod TrailLemmas
pub mod ReasonLemmas
