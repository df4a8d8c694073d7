use Rattle.std.proofs.Common.{◌≡◌, drop}
use Rattle.std.specs.List.{list_any}
use Rattle.replay_restore.specs.Listing.{has_folder, is_folder_at}
use Rattle.replay_restore.proofs.listing.is_any_folder_at.Given as goal

abbrev pub invariant-loop-one : goal.invariant-loop-one
invariant-loop-one l = record {
  rest : list_any (is_folder_at l.path) (drop l.one-index l.listed) ≡ has_folder l.listed l.path;
}
