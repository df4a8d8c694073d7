use Rattle.std.proofs.Common.{◌≡◌, drop}
use Rattle.std.specs.List.{list_any}
use Rattle.replay_restore.specs.Listing.{has_file, is_file_at}
use Rattle.replay_restore.proofs.listing.is_any_file_at.Given as goal

abbrev pub invariant-loop-one : goal.invariant-loop-one
invariant-loop-one l = record {
  rest : list_any (is_file_at l.path) (drop l.one-index l.listed) ≡ has_file l.listed l.path;
}
