pub mod CutLemmas
pub mod NameLemmas
pub mod PathLemmas
