pub mod Walcompare
