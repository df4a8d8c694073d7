pub mod ListLemmas
pub mod NameLemmas
pub mod RootLemmas
pub mod ShownLemmas
