-- What a stored plan answers for. Own: "The plan of a rewind as text".
use Rattle.std.specs.Prelude.{◌≡◌, ℕ, [], ◌∷◌, codes, Result, Err}
use Rattle.cluster_tree.specs.PathValue.{PathValue, below}
use Rattle.rewind_writes.specs.declared.plan.Plan.{Plan}
use Rattle.plan_text.specs.declared.fault.StoredFault.{StoredFault}
use Rattle.plan_text.specs.declared.fault.StoredFault.TheVariants.{BadPlan, OutOfMemory}

-- the line that is at fault; or memory is wanting
abbrev pub IsFault : {A : Type 0} → Result A ℕ → StoredFault → Type 0
IsFault meant (BadPlan n) = meant ≡ Err n
IsFault meant OutOfMemory = Unit {0}

-- its mark, its label and its control file are those of a root
pub record IsPlacedAt (root : PathValue) (plan : Plan) : Type 0 where
  pub mark : plan.mark ≡ below root (codes "pg_rewind.unfinished" ∷ [])
  pub label : plan.label.path ≡ below root (codes "backup_label" ∷ [])
  pub control : plan.control.path ≡ below root (codes "global" ∷ codes "pg_control" ∷ [])
