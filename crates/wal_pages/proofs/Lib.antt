pub mod PartLemmas
pub mod PageLemmas
pub mod ValidLemmas
pub mod LogLemmas
pub mod FilesLemmas
