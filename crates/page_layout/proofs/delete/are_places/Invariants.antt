use Rattle.std.proofs.Common.{◌≡◌, drop}
use Rattle.page_layout.specs.Deletes.{are_places}
use Rattle.page_layout.proofs.delete.are_places.Given as goal

abbrev pub invariant-loop-place : goal.invariant-loop-place
invariant-loop-place l = are_places l.lines l.before (drop l.place-index l.places) ≡ are_places l.lines 0 l.places
