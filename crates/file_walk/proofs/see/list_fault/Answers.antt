use Rattle.std.proofs.Common.{inl, inr, sym, ◌∙◌}
use Rattle.file_walk.proofs.SeeLemmas.{others_changed}
use Rattle.file_walk.proofs.see.list_fault.Goals as goal

pub returns-in_default : goal.returns-in_default
returns-in_default c = elim c.changed.ensures [
  | inl t ↦ inl (t ∙ sym (others_changed c.args.place.now.own c.args.place.now.full c.args.fault c.in_default.not-Failed c.in_default.not-OutOfMemory c.in_default.not-NameNotText))
  | inr t ↦ inr t
]
