-- The changing calls that a plan may make, in whatever order and in pieces: each is on a path of its group.
use Rattle.std.specs.Prelude.{◌≡◌, ℕ, ◌+◌, ◌<◌, ◌≤◌, ◌==◌, true, false, nat_lt, List, length}
use Rattle.cluster_tree.specs.PathValue.{PathValue}
use Rattle.cluster_tree.specs.declared.tree.ChangeCall.{ChangeCall}
use Rattle.cluster_tree.specs.declared.tree.ChangeCall.TheVariants.{Write, Cut, MakeFile, MakeFolder, Remove, Sync}
use Rattle.rewind_writes.specs.declared.plan.FileBytes.{FileBytes}
use Rattle.rewind_writes.specs.declared.step.Step.{Step}
use Rattle.resumed_laws.specs.Groups.{Group, Untouched, Made, Copied, Mixed, Gone, Labelled, Controlled, group_at, group_in, is_gone, is_written, stays}

abbrev pub MayWrite : List Step → (control : FileBytes) → PathValue → (at n : ℕ) → Group → Type 0
MayWrite steps control path at n Untouched = ⊥
MayWrite steps control path at n Made = ⊥
MayWrite steps control path at n Copied = Unit {0}
MayWrite steps control path at n Mixed = (k : ℕ) → at ≤ k → k < at + n → is_written steps path k ≡ true
MayWrite steps control path at n Gone = ⊥
MayWrite steps control path at n Labelled = Unit {0}
MayWrite steps control path at n Controlled = (k : ℕ) → at ≤ k → k < at + n → nat_lt k (length control.bytes.items) ≡ true

abbrev pub MayCut : List Step → PathValue → (size : ℕ) → Group → Type 0
MayCut steps path size Untouched = ⊥
MayCut steps path size Made = ⊥
MayCut steps path size Copied = Unit {0}
MayCut steps path size Mixed = (k : ℕ) → stays steps path k ≡ true → k < size
MayCut steps path size Gone = ⊥
MayCut steps path size Labelled = Unit {0}
MayCut steps path size Controlled = ⊥

abbrev pub MayMakeFile : Group → Type 0
MayMakeFile Untouched = ⊥
MayMakeFile Made = ⊥
MayMakeFile Copied = Unit {0}
MayMakeFile Mixed = ⊥
MayMakeFile Gone = ⊥
MayMakeFile Labelled = Unit {0}
MayMakeFile Controlled = ⊥

abbrev pub MayRemove : List Step → PathValue → Group → Type 0
MayRemove steps path Untouched = ⊥
MayRemove steps path Made = ⊥
MayRemove steps path Copied = ⊥
MayRemove steps path Mixed = ⊥
MayRemove steps path Gone = length path.parts == 0 ≡ false
MayRemove steps path Labelled = (is_gone (group_at path steps) ≡ true) × (length path.parts == 0 ≡ false)
MayRemove steps path Controlled = ⊥

-- a call of these steps, the label and the control file
abbrev pub May : List Step → (label control : FileBytes) → ChangeCall → Type 0
May steps label control (Write path at n) = MayWrite steps control path at n (group_in steps label control path)
May steps label control (Cut path size) = MayCut steps path size (group_in steps label control path)
May steps label control (MakeFile path) = MayMakeFile (group_in steps label control path)
May steps label control (MakeFolder path) = group_in steps label control path ≡ Made
May steps label control (Remove path) = MayRemove steps path (group_in steps label control path)
May steps label control Sync = Unit {0}
