use Rattle.std.proofs.Common.{◌≡◌, ◌<◌, drop}
use Rattle.btree_pages.specs.Split.{first_data}
use Rattle.btree_posting.specs.Dedup.{can_merge_all}
use Rattle.btree_posting.proofs.dedup.can_merge_all.Given as goal

abbrev pub invariant-loop-i : goal.invariant-loop-i
invariant-loop-i l = record {
  above : 0 < l.from;
  rest : can_merge_all l.page (first_data l.page) l.intervals ≡ can_merge_all l.page l.from (drop l.i l.intervals);
}
