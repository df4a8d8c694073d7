-- What contracts see of bytes that go on in zeros.
use Rattle.std.specs.Prelude.{ℕ, ◌-◌, List, ◌++◌, length}

-- the bytes, and how many zeros stand behind them
pub record ZeroEnded : Type 0 where
  pub bytes : List ℕ
  pub zeros : ℕ

-- more bytes in the place of the first of the zeros
abbrev pub with_bytes : ZeroEnded → List ℕ → ZeroEnded
with_bytes old more = record { bytes = old.bytes ++ more; zeros = old.zeros - length more }
