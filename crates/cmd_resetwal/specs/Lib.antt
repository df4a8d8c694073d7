pub mod Resetwal
