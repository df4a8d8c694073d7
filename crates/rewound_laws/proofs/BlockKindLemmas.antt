-- A whole copy has entries of the kinds of their places where the source has.
use Rattle.std.proofs.Common.{◌≡◌, ℕ, ◌≤◌, Bool, true, false, ◌&&◌, List, [], ◌∷◌, codes, length, None, Some, refl, sym, ap, ◌∙◌, subst, true≢false}
use Rattle.std.specs.Prelude.{bytes_eq, if◌then◌else◌}
use Rattle.std.proofs.lemmas.Slice.Eq.{bytes_eq-Decides}
use Rattle.backup_label.specs.Text.{label_text}
use Rattle.cluster_laws.specs.Kinds.{AnyPlace, FilePlace, FolderPlace, HasKinds, IsAt, Place, place_of}
use Rattle.cluster_tree.specs.Contents.{Contents, FileEntry, entry_at, is_folder}
use Rattle.cluster_tree.specs.PathValue.{PathValue, below, path_of}
use Rattle.control_file.specs.Writing.{control_bytes}
use Rattle.file_walk.specs.Actions.{is_control}
use Rattle.file_walk.specs.Excluded.{is_excluded}
use Rattle.rewind_core.specs.Planned.{Needing}
use Rattle.rewind_plan.specs.PlanOf.{rewinding}
use Rattle.rewind_plan.specs.Planned.{Between}
use Rattle.rewound_tree.specs.Rewound.{Rewinding, is_label, whole_copy}
use Rattle.rewound_laws.specs.Copy.{IsWholeCopy}
use Rattle.rewound_laws.proofs.AlikePairs.{root-itself}

nothing_at : (p : Place) → IsAt p None
nothing_at FolderPlace = tt
nothing_at FilePlace = tt
nothing_at AnyPlace = tt

label_place : (parts : List (List ℕ)) (bytes : List ℕ) → is_label parts ≡ true → IsAt (place_of parts) (Some (FileEntry bytes))
label_place [] bytes h = absurd (true≢false (sym h))
label_place (first ∷ []) bytes h = subst (λ name. IsAt (place_of (name ∷ [])) (Some (FileEntry bytes))) (sym ((bytes_eq-Decides first (codes "backup_label")).0 h)) tt
label_place (first ∷ second ∷ parts) bytes h = absurd (true≢false (sym h))

both_true : (a b : Bool) → (a && b) ≡ true → (a ≡ true) × (b ≡ true)
both_true true b h = (refl, h)
both_true false b h = absurd (true≢false (sym h))

control_place : (parts : List (List ℕ)) (bytes : List ℕ) → is_control parts ≡ true → IsAt (place_of parts) (Some (FileEntry bytes))
control_place [] bytes h = absurd (true≢false (sym h))
control_place (first ∷ []) bytes h = absurd (true≢false (sym h))
control_place (first ∷ second ∷ []) bytes h =
    let two = both_true (bytes_eq first (codes "global")) (bytes_eq second (codes "pg_control")) h in
    subst (λ name. IsAt (place_of (name ∷ second ∷ [])) (Some (FileEntry bytes))) (sym ((bytes_eq-Decides first (codes "global")).0 two.0)) tt
control_place (first ∷ second ∷ third ∷ parts) bytes h = absurd (true≢false (sym h))

root_open : is_excluded (path_of false []) ≡ false
unfolding is_excluded
root_open = refl

module _ (c d : Contents) (n : Needing) (other : PathValue) (copied : IsWholeCopy c n d other) (kinds : HasKinds n.aim.between.source c) where
  abbrev w : Between
  w = n.aim.between

  abbrev r : Rewinding
  r = rewinding c w n.aim.control n.aim.label

  copy_root : whole_copy r [] ≡ entry_at c (below w.source [])
  unfolding whole_copy
  copy_root = ap (λ b. if b then None else entry_at c (below w.source [])) root_open

  pub copy-folder : is_folder (entry_at d other) ≡ true
  copy-folder =
      ap (λ p. is_folder (entry_at d p)) (sym (root-itself other)) ∙ ap is_folder (copied [] ∙ copy_root)
      ∙ ap (λ p. is_folder (entry_at c p)) (root-itself w.source) ∙ kinds.there

  copy_kind : (parts : List (List ℕ)) → IsAt (place_of parts) (whole_copy r parts)
  unfolding whole_copy
  copy_kind parts = by (is_label parts) (is_control parts) (is_excluded (path_of false parts)) refl refl
    where
      by : (a b d : Bool) → is_label parts ≡ a → is_control parts ≡ b
          → IsAt (place_of parts) (if a then Some (FileEntry (label_text n.aim.label)) else if b then Some (FileEntry (control_bytes n.aim.control)) else if d then None else entry_at c (below w.source parts))
      by true b d l k = label_place parts (label_text n.aim.label) l
      by false true d l k = control_place parts (control_bytes n.aim.control) k
      by false false true l k = nothing_at (place_of parts)
      by false false false l k = kinds.kinds parts

  pub copy-has-kinds : length other.parts ≤ 61 → HasKinds other d
  copy-has-kinds room = record {
    room = room;
    there = copy-folder;
    kinds = λ parts. subst (IsAt (place_of parts)) (sym (copied parts)) (copy_kind parts);
  }
