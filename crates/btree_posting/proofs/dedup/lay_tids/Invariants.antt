use Rattle.std.proofs.Common.{◌≡◌, ◌≤◌, ◌++◌, take}
use Rattle.btree_posting.proofs.DedupLemmas.{tid_bytes_of}
use Rattle.btree_posting.proofs.dedup.lay_tids.Given as goal

abbrev pub invariant-loop-place : goal.invariant-loop-place
invariant-loop-place l = record {
  above : l.at ≤ l.behind;
  bound : l.behind ≤ 8184;
  laid : take l.behind l.room ++ tid_bytes_of l.page l.place l.end ≡ take l.at l.initial.room ++ tid_bytes_of l.page l.start l.end;
}
