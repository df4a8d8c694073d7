pub mod Walreplay
