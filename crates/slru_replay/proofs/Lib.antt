pub mod NameLemmas
pub mod NumberLemmas
pub mod AreaLemmas
pub mod StatusLemmas
pub mod CutLemmas
pub mod MultiXactLemmas
