pub mod PathLemmas
pub mod WholeLemmas
pub mod SparingLemmas
