pub mod BlameSteps
pub mod AnswerSteps
pub mod GrowSteps
pub mod UnseenSteps
pub mod MadeSteps
pub mod LawLemmas
pub mod WithinSteps
