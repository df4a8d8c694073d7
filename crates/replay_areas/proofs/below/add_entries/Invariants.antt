use Rattle.std.proofs.Common.{◌≡◌, ◌++◌, map, take}
use Rattle.replay_list.specs.Text.{IsHeld}
use Rattle.replay_areas.specs.Fits.{AllFit}
use Rattle.replay_areas.specs.Listing.{listed_as}
use Rattle.replay_areas.proofs.below.add_entries.Given as goal

abbrev pub invariant-loop-at : goal.invariant-loop-at
invariant-loop-at l = record {
  value : l.listed.items ≡ l.initial.listed.items ++ map (listed_as l.root) (take l.at l.entries);
  held : AllFit l.root l.entries → IsHeld l.root l.initial.listed.items → IsHeld l.root l.listed.items;
}
