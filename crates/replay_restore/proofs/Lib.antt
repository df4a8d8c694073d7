mod AnswerLemmas
mod PageLemmas
mod FillLemmas
mod KindLemmas
mod FreeLemmas
mod InsideLemmas
mod BlockLemmas
mod AreaLemmas
mod ClosedLemmas
mod ReadyLemmas
mod RestoreLemmas
pub mod LooseLemmas
