pub mod SlipLaws
pub mod TieLaws
