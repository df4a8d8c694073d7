pub mod SpecialLemmas
pub mod ItemsLemmas
pub mod DeleteLemmas
pub mod RestoreLemmas
pub mod SplitLemmas
