-- Of a cluster without an unfinished run whose control file was read: what a rewind keeps there.
use Rattle.std.proofs.Common.{◌≡◌, ℕ, ◌==◌, Bool, true, false, ◌&&◌, ◌||◌, cond, List, [], ◌∷◌, codes, length, Option, None, Some, is_some, refl, sym, ap, ap₂, ◌∙◌, true≢false, arith}
use Rattle.std.proofs.lemmas.Bool.Decides.{nat_tests}
use Rattle.std.proofs.lemmas.Slice.Eq.{bytes_eq-Decides}
use Rattle.std.specs.Prelude.{Result, Ok, Err, bytes_eq, if◌then◌else◌}
use Rattle.cluster_tree.specs.Contents.{Contents, Entry, FolderEntry, FileEntry, LinkEntry, entry_at, is_folder}
use Rattle.cluster_tree.specs.Marks.{MarkPaths, is_there, marks_of}
use Rattle.cluster_tree.specs.PathValue.{PathValue, below, path_of}
use Rattle.cluster_tree.specs.Tree.{file_of}
use Rattle.control_file.specs.Admission.{control_of}
use Rattle.control_file.specs.declared.control.Control.{Control}
use Rattle.control_file.specs.declared.fault.ControlFault.{ControlFault}
use Rattle.control_file.specs.declared.fault.ControlFault.TheVariants.{Size}
use Rattle.clusters.specs.Marks.{unfinished, with_mark}
use Rattle.clusters.specs.RootControl.{at_root, control_at, control_in}
use Rattle.clusters.specs.Roots.{path_in}
use Rattle.file_walk.specs.Actions.{is_control, is_kept, is_mark}
use Rattle.rewind_plan.specs.Sides.{control_parts}

-- ---- marks

abbrev Unmarked : Bool → Bool → Bool → Type 0
Unmarked a b d = (a ≡ false) × (b ≡ false) × (d ≡ false)

unmarked : (marks : MarkPaths) (a b d : Bool) → with_mark marks (cond a (Some 0) (cond b (Some 1) (cond d (Some 2) None))) ≡ None → Unmarked a b d
unmarked marks true b d h = absurd (cc h)
unmarked marks false true d h = absurd (cc h)
unmarked marks false false true h = absurd (cc h)
unmarked marks false false false h = (refl, refl, refl)

nothing : (o : Option Entry) → is_some o ≡ false → o ≡ None
nothing None h = refl
nothing (Some e) h = absurd (true≢false h)

named : (a b : List ℕ) → bytes_eq a b ≡ true → a ≡ b
named a b h = (bytes_eq-Decides a b).0 h

module _ (c : Contents) (root : PathValue) where
  at_mark : (name mark : List ℕ) → bytes_eq name mark ≡ true → is_there c (below root (mark ∷ [])) ≡ false → entry_at c (below root (name ∷ [])) ≡ None
  at_mark name mark same none = ap (λ n. entry_at c (below root (n ∷ []))) (named name mark same) ∙ nothing (entry_at c (below root (mark ∷ []))) none

  one_mark : (name : List ℕ) → Unmarked (is_there c (marks_of root).rewind) (is_there c (marks_of root).replay) (is_there c (marks_of root).reset)
      → (a b d : Bool) → bytes_eq name (codes "pg_rewind.unfinished") ≡ a → bytes_eq name (codes "pg_walreplay.unfinished") ≡ b → bytes_eq name (codes "pg_resetwal.unfinished") ≡ d
      → (a || (b || (d || false))) ≡ true → entry_at c (below root (name ∷ [])) ≡ None
  one_mark name none true b d x y z h = at_mark name (codes "pg_rewind.unfinished") x none.0
  one_mark name none false true d x y z h = at_mark name (codes "pg_walreplay.unfinished") y none.1
  one_mark name none false false true x y z h = at_mark name (codes "pg_resetwal.unfinished") z none.2
  one_mark name none false false false x y z h = absurd (true≢false (sym h))

  pub no-mark : unfinished c root ≡ None → (parts : List (List ℕ)) → is_mark parts ≡ true → entry_at c (below root parts) ≡ None
  unfolding unfinished
  no-mark finished [] h = absurd (true≢false (sym h))
  no-mark finished (name ∷ []) h =
      one_mark name (unmarked (marks_of root) (is_there c (marks_of root).rewind) (is_there c (marks_of root).replay) (is_there c (marks_of root).reset) finished)
      (bytes_eq name (codes "pg_rewind.unfinished")) (bytes_eq name (codes "pg_walreplay.unfinished")) (bytes_eq name (codes "pg_resetwal.unfinished")) refl refl refl h
  no-mark finished (name ∷ more ∷ parts) h = absurd (true≢false (sym h))

-- ---- the control file

-- a file of 8192 bytes
abbrev pub IsControlSized : Option Entry → Type 0
IsControlSized o = (bytes : List ℕ) × (o ≡ Some (FileEntry bytes)) × (length bytes ≡ 8192)

sized : (root : PathValue) (control : Control) (b : Bool) (read : Result Control ControlFault) (n : ℕ) → at_root root (if b then read else Err (Size n)) ≡ Ok control → b ≡ true
sized root control true read n h = refl
sized root control false read n h = absurd (cc h)

is_size : (n : ℕ) → n == 8192 ≡ true → n ≡ 8192
is_size n h = grind (arith, nat_tests, h)

file_read : (root : PathValue) (control : Control) (o : Option Entry) → control_in root (file_of o) ≡ Ok control → IsControlSized o
unfolding control_of
file_read root control None h = absurd (cc h)
file_read root control (Some (FolderEntry bad)) h = absurd (cc h)
file_read root control (Some (FileEntry bytes)) h = (bytes, refl, is_size (length bytes) (sized root control (length bytes == 8192) _ (length bytes) h))
file_read root control (Some LinkEntry) h = absurd (cc h)

control_path : (root : PathValue) → path_in root (codes "global/pg_control") ≡ below root control_parts
unfolding path_in
control_path root = refl

pub control-read : (c : Contents) (root : PathValue) (control : Control) → control_at c root ≡ Ok control → IsControlSized (entry_at c (below root control_parts))
unfolding control_at
control-read c root control h =
    file_read root control (entry_at c (below root control_parts)) (ap (λ p. control_in root (file_of (entry_at c p))) (sym (control_path root)) ∙ h)

both_true : (a b : Bool) → (a && b) ≡ true → (a ≡ true) × (b ≡ true)
both_true true b h = (refl, h)
both_true false b h = absurd (true≢false (sym h))

control_is : (parts : List (List ℕ)) → is_control parts ≡ true → parts ≡ control_parts
control_is [] h = absurd (true≢false (sym h))
control_is (a ∷ []) h = absurd (true≢false (sym h))
control_is (a ∷ b ∷ []) h =
    let two = both_true (bytes_eq a (codes "global")) (bytes_eq b (codes "pg_control")) h in
    ap₂ (λ (x y : List ℕ). x ∷ y ∷ []) (named a (codes "global") two.0) (named b (codes "pg_control") two.1)
control_is (a ∷ b ∷ d ∷ parts) h = absurd (true≢false (sym h))

-- ---- what a rewind keeps is the control file, which is there, or a mark, which isn't

pub record Keeps (o : Option Entry) (control : Bool) : Type 0 where
  pub no_folder : is_folder o ≡ false
  pub alike : is_some o ≡ control

pub kept-there : (c : Contents) (root : PathValue) (control : Control) → unfinished c root ≡ None → control_at c root ≡ Ok control
    → (parts : List (List ℕ)) → is_kept (path_of false parts) ≡ true → Keeps (entry_at c (below root parts)) (is_control parts)
kept-there c root control finished read parts kept = by (is_control parts) refl kept
  where
    by : (b : Bool) → is_control parts ≡ b → (b || is_mark parts) ≡ true → Keeps (entry_at c (below root parts)) b
    by true is h =
        let file = control-read c root control read in
        let there : entry_at c (below root parts) ≡ Some (FileEntry file.0) = ap (λ p. entry_at c (below root p)) (control_is parts is) ∙ file.1 in
        record { no_folder = ap is_folder there; alike = ap is_some there }
    by false is h =
        let none = no-mark c root finished parts h in
        record { no_folder = ap is_folder none; alike = ap is_some none }
