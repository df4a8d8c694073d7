pub mod ManagerLemmas
pub mod DumpLemmas
pub mod FormLemmas
