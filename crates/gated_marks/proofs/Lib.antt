pub mod ImageLemmas
pub mod ByteLemmas
pub mod LaidLemmas
pub mod HeadLemmas
pub mod BeginLemmas
pub mod EndLemmas
pub mod UnderLemmas
