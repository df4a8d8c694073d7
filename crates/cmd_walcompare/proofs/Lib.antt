pub mod FormLemmas
pub mod SameLemmas
