pub mod Named
pub mod Fields
pub mod FieldNames
pub mod Touched
pub mod Set
pub mod Chunk
pub mod Layouts
