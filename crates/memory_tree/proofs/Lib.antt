pub mod SpliceLemmas
pub mod NodeLemmas
pub mod NameLemmas
pub mod RootedLemmas
pub mod SoundLemmas
pub mod ImageLemmas
