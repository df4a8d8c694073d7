pub mod Edits
pub mod GoodHeap
