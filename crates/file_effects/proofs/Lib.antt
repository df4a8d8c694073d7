pub mod ApartLemmas
pub mod OwnLemmas
pub mod SparingLemmas
pub mod DoneLemmas
