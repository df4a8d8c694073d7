use Rattle.std.proofs.Common.{◌≡◌, ℕ, ◌+◌, ◌-◌, ◌*◌, ◌<◌, ◌≤◌, ◌++◌, List, length}
use Rattle.wal_records.specs.Writer.{pages_from, laid}
use Rattle.wal_records.proofs.new_pages.add_record.Given as goal

abbrev pub invariant-loop-from : goal.invariant-loop-from
invariant-loop-from l =
    let rest : List ℕ = pages_from l.origin l.bytes (l.number * 8192) (length l.bytes - l.from) in
    record {
      on : l.into.bytes ++ rest ≡ l.fn.into.bytes ++ laid l.origin l.place l.bytes;
      room : length l.into.bytes + l.into.zeros ≡ length l.fn.into.bytes + l.fn.into.zeros;
      within : l.from ≤ length l.bytes;
      reached : l.from < length l.bytes → l.number * 8192 + length rest ≡ l.place + length (laid l.origin l.place l.bytes);
    }

abbrev pub decreases-loop-from : goal.decreases-loop-from
decreases-loop-from l = length l.bytes - l.from
