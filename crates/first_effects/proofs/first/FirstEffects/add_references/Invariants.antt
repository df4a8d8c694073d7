use Rattle.std.proofs.Common.{take}
use Rattle.rmgr_hooks.specs.Custom.{handed_in}
use Rattle.first_effects.specs.References.{Gathers, changed_by, met_by}
use Rattle.first_effects.proofs.first.FirstEffects.add_references.Given as goal

abbrev pub invariant-loop-at : goal.invariant-loop-at
invariant-loop-at g l = Gathers (met_by (handed_in g.M.Manager l.custom) l.rec l.parts (take l.at l.parts.blocks)) (changed_by (handed_in g.M.Manager l.custom) l.rec l.parts (take l.at l.parts.blocks)) l.fn.self l.self
