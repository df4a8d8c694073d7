pub mod ListLemmas
pub mod LogLemmas
