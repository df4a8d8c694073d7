pub mod Controldata
