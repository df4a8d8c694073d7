use Rattle.std.proofs.Common.{◌≡◌, ◌+◌, ◌*◌, ◌≤◌, ◌++◌, true, take, drop, length}
use Rattle.std.specs.List.{concat}
use Rattle.btree_posting.specs.Tuple.{tid_count, tids_of}
use Rattle.btree_posting.specs.Form.{are_indexes, without_tids}
use Rattle.btree_posting.proofs.shorten.lay_kept.Given as goal

abbrev pub invariant-loop-next : goal.invariant-loop-next
invariant-loop-next l = record {
  bound : l.from ≤ tid_count l.tuple;
  above : l.at ≤ l.end;
  room : l.end ≤ l.at + 6 * l.from;
  checked : are_indexes 0 (tid_count l.tuple) l.initial.gone ≡ are_indexes l.from (tid_count l.tuple) l.gone;
  kept : are_indexes l.from (tid_count l.tuple) l.gone ≡ true →
      take l.end l.room ++ concat (without_tids l.gone l.from (drop l.from (tids_of l.tuple)))
      ≡ take l.at l.initial.room ++ concat (without_tids l.initial.gone 0 (tids_of l.tuple));
}

abbrev pub decreases-loop-next : goal.decreases-loop-next
decreases-loop-next l = length l.gone
