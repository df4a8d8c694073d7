pub mod TupleLemmas
pub mod PlaceLemmas
pub mod FormLemmas
pub mod SwapLemmas
pub mod ShortenLemmas
pub mod DedupLemmas
pub mod InsertLemmas
pub mod SplitLemmas
