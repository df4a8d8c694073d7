use Rattle.std.proofs.Common.{◌≡◌, ◌++◌, ◌-◌, ◌≤◌, [], length, drop, map, string_bytes}
use Rattle.replay_list.specs.Reading.{front_in}
use Rattle.replay_list.proofs.front.front_in.Given as goal

abbrev pub invariant-loop-place : goal.invariant-loop-place
invariant-loop-place l = record {
  within : length l.listed.items ≤ length l.pieces;
  files : l.place.files ≤ length l.listed.items;
  listed : front_in l.root [] 0 (map (λ piece. piece.now) l.pieces)
      ≡ l.listed.items ++ front_in l.root (string_bytes l.place.last) l.place.files (drop (length l.listed.items) (map (λ piece. piece.now) l.pieces));
}

abbrev pub decreases-loop-place : goal.decreases-loop-place
decreases-loop-place l = length l.pieces - length l.listed.items
