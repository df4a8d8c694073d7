pub mod Effect
pub mod Replay
pub mod Stage
pub mod Premises
pub mod Law
pub mod SmallLogs
