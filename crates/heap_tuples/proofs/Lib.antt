pub mod HeapLemmas
pub mod EditLemmas
pub mod FilledLemmas
pub mod PutLemmas
pub mod MaskBits
pub mod TupleLaws
pub mod OperationLaws
