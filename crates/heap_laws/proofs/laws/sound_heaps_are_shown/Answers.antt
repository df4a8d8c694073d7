use Rattle.heap_laws.proofs.Door.{sound_shown}
use Rattle.heap_laws.proofs.laws.sound_heaps_are_shown.Goals as goal

pub returns : goal.returns
returns c = sound_shown
