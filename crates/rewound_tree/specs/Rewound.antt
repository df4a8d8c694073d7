-- What a rewind leaves below the target's root, path by path: PostgreSQL 16, src/bin/pg_rewind/pg_rewind.c, perform_rewind.
use Rattle.std.specs.Prelude.{ℕ, Bool, false, ◌&&◌, List, [], ◌∷◌, codes, bytes_eq, Option, None, Some, if◌then◌else◌}
use Rattle.cluster_tree.specs.Contents.{Entry, FolderEntry, FileEntry, LinkEntry}
use Rattle.cluster_tree.specs.PathValue.{path_of}
use Rattle.block_refs.specs.declared.names.RelName.{RelName}
use Rattle.control_file.specs.Writing.{control_bytes}
use Rattle.control_file.specs.declared.control.Control.{Control}
use Rattle.backup_label.specs.Text.{label_text}
use Rattle.backup_label.specs.declared.label.Label.{Label}
use Rattle.file_walk.specs.declared.action.Action.{Action}
use Rattle.file_walk.specs.declared.action.Action.TheVariants.{Nothing, MakeFolder, Copy, Tail, Cut, Remove, KindsDiffer}
use Rattle.file_walk.specs.Actions.{action_at, is_control, is_mark}
use Rattle.file_walk.specs.Excluded.{is_excluded}
use Rattle.file_walk.specs.Relations.{relation_of}
use Rattle.file_walk.specs.Walk.{kind_there}
use Rattle.rewound_tree.specs.Mixed.{is_wanted, mixed}

-- what a rewind is by: the trees below both roots, the touched blocks, how many blocks a segment has, and what is written of its own
pub record Rewinding : Type 0 where
  pub target : List (List ℕ) → Option Entry
  pub source : List (List ℕ) → Option Entry
  pub touched : RelName → ℕ → Bool
  pub relseg : ℕ
  pub control : Control
  pub label : Label

-- the label at the root
abbrev pub is_label : List (List ℕ) → Bool
is_label [] = false
is_label (first ∷ []) = bytes_eq first (codes "backup_label")
is_label (first ∷ second ∷ parts) = false

-- a main fork's file that both have
abbrev pub mixed_entry : Rewinding → Option (RelName × ℕ) → (target source : Option Entry) → Option Entry
mixed_entry w (Some (rel, segment)) (Some (FileEntry old)) (Some (FileEntry new)) = Some (FileEntry (mixed (is_wanted w.touched w.relseg rel segment) old new))
mixed_entry w relation target source = target

-- what an action leaves at a path
abbrev pub left_by : Rewinding → Option (RelName × ℕ) → (target source : Option Entry) → Action → Option Entry
left_by w relation target source Nothing = mixed_entry w relation target source
left_by w relation target source MakeFolder = source
left_by w relation target source Copy = source
left_by w relation target source Tail = mixed_entry w relation target source
left_by w relation target source Cut = mixed_entry w relation target source
left_by w relation target source Remove = None
left_by w relation target source KindsDiffer = target

abbrev pub left_at : Rewinding → List (List ℕ) → Option Entry
left_at w parts =
    left_by w (relation_of (path_of false parts)) (w.target parts) (w.source parts)
    (action_at (path_of false parts) (kind_there (w.target parts)) (kind_there (w.source parts)))

-- the label and the control file are written anew, and no mark is left
unfoldable pub rewound : Rewinding → List (List ℕ) → Option Entry
rewound w parts =
    if is_label parts then Some (FileEntry (label_text w.label))
    else if is_control parts then Some (FileEntry (control_bytes w.control))
    else if is_mark parts then None
    else left_at w parts

-- the source without what is excluded, with the same label and control file
unfoldable pub whole_copy : Rewinding → List (List ℕ) → Option Entry
whole_copy w parts =
    if is_label parts then Some (FileEntry (label_text w.label))
    else if is_control parts then Some (FileEntry (control_bytes w.control))
    else if is_excluded (path_of false parts) then None
    else w.source parts
