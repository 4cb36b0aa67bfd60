pub mod NamesLemmas
pub mod PlacesLemmas
pub mod FilesLemmas
pub mod Moments
pub mod CauseLemmas
pub mod InOrderLemmas
pub mod LossLemmas
pub mod SparingLemmas
