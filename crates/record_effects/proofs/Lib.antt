pub mod ActLemmas
pub mod ExtensionLemmas
