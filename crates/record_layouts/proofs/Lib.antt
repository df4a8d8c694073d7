pub mod ItemLemmas
pub mod SpellingLemmas
pub mod EndLemmas
pub mod NumberLemmas
pub mod PrefixLemmas
pub mod DroppedLemmas
pub mod HeapSpellingLemmas
