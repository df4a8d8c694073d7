pub mod BlockLemmas
pub mod PageLemmas
pub mod SparingLemmas
