-- No path of a rewound target, or of a whole copy of its source, has too many parts.
use Rattle.std.proofs.Common.{◌≡◌, ◌⊎◌, ℕ, ◌+◌, ◌≤◌, max, Bool, true, false, List, [], ◌∷◌, length, drop, Option, None, Some, is_some, if◌then◌else◌, inl, inr, refl, sym, ap, ◌∙◌, true≢false, arith}
use Rattle.std.proofs.lemmas.List.{length-append}
use Rattle.backup_label.specs.Text.{label_text}
use Rattle.backup_label.specs.declared.label.Label.{Label}
use Rattle.block_refs.specs.declared.names.RelName.{RelName}
use Rattle.cluster_tree.proofs.HoldLemmas.{held-holds}
use Rattle.cluster_tree.proofs.RootLemmas.{held-below}
use Rattle.cluster_tree.specs.Contents.{Contents, Entry, FileEntry, entry_at}
use Rattle.cluster_tree.specs.PathValue.{PathValue, below, path_of}
use Rattle.control_file.specs.Writing.{control_bytes}
use Rattle.control_file.specs.declared.control.Control.{Control}
use Rattle.file_edits.specs.Alike.{AlikeEntries, Files, Folders, IsShallow, Links, Neither}
use Rattle.file_walk.specs.Actions.{action_at, is_control, is_mark}
use Rattle.file_walk.specs.Excluded.{is_excluded}
use Rattle.file_walk.specs.Relations.{relation_of}
use Rattle.file_walk.specs.Walk.{kind_there}
use Rattle.file_walk.specs.declared.action.Action.{Action}
use Rattle.file_walk.specs.declared.action.Action.TheVariants as action
use Rattle.file_walk.specs.declared.pair.Pair.{Pair}
use Rattle.rewind_plan.proofs.KindLemmas.{or_first, or_right}
use Rattle.rewind_plan.specs.PlanOf.{rewinding}
use Rattle.rewind_plan.specs.Planned.{Between}
use Rattle.rewind_plan.specs.Room.{AllHaveRoom, makes}
use Rattle.rewind_plan.specs.Sides.{Sides}
use Rattle.rewound_tree.specs.Rewound.{Rewinding, is_label, left_at, left_by, mixed_entry, rewound, whole_copy}
use Rattle.rewound_laws.proofs.AlikePairs.{paired-at, source-room, target-room}

-- ---- trees below a root, path by path

pub shallow-by : (c : Contents) (root : PathValue) (there : List (List ℕ) → Option Entry) → ((parts : List (List ℕ)) → entry_at c (below root parts) ≡ there parts)
    → ((parts : List (List ℕ)) → is_some (there parts) ≡ true → length root.parts + length parts ≤ 64) → IsShallow c root
shallow-by c root there is few q held stands =
    let parts : List (List ℕ) = drop (length root.parts) q.parts in
    let at : q ≡ below root parts = held-below root q (held-holds root q held) in
    let short : length root.parts + length parts ≤ 64 = few parts (ap is_some (sym (is parts)) ∙ ap (λ p. is_some (entry_at c p)) (sym at) ∙ stands) in
    omega (arith, short, ap (λ (p : PathValue). length p.parts) at, length-append root.parts parts)

pub alike-there : (like : List ℕ → List ℕ → Bool) (o p : Option Entry) → AlikeEntries like o p → is_some o ≡ is_some p
alike-there like o p Neither = refl
alike-there like o p (Folders bad) = refl
alike-there like o p (Files a b is) = refl
alike-there like o p Links = refl

-- ---- a rewind's own

label_short : (parts : List (List ℕ)) → is_label parts ≡ true → length parts ≤ 3
label_short [] h = omega arith
label_short (first ∷ []) h = omega arith
label_short (first ∷ second ∷ parts) h = absurd (true≢false (sym h))

control_short : (parts : List (List ℕ)) → is_control parts ≡ true → length parts ≤ 3
control_short [] h = omega arith
control_short (first ∷ []) h = omega arith
control_short (first ∷ second ∷ []) h = omega arith
control_short (first ∷ second ∷ third ∷ parts) h = absurd (true≢false (sym h))

-- ---- what an action leaves

-- something that the target had, or that was made of what the source has
abbrev HowLeft : (made : Bool) → (target source : Option Entry) → Type 0
HowLeft made target source = (is_some target ≡ true) ⊎ ((made ≡ true) × (is_some source ≡ true))

none_mixed : (r : Rewinding) (at : Option (RelName × ℕ)) (o : Option Entry) → is_some (mixed_entry r at None o) ≡ true → ⊥
none_mixed r None o h = true≢false (sym h)
none_mixed r (Some (rel, segment)) o h = true≢false (sym h)

module _ (r : Rewinding) (at : Option (RelName × ℕ)) where
  how_made : (o : Option Entry) (a : Action) → is_some (left_by r at None o a) ≡ true → (makes a ≡ true) × (is_some o ≡ true)
  how_made o action.Nothing h = absurd (none_mixed r at o h)
  how_made o action.MakeFolder h = (refl, h)
  how_made o action.Copy h = (refl, h)
  how_made o action.Tail h = absurd (none_mixed r at o h)
  how_made o action.Cut h = absurd (none_mixed r at o h)
  how_made o action.Remove h = absurd (true≢false (sym h))
  how_made o action.KindsDiffer h = absurd (true≢false (sym h))

  how_left : (t s : Option Entry) (a : Action) → is_some (left_by r at t s a) ≡ true → HowLeft (makes a) t s
  how_left (Some e) s a h = inl refl
  how_left None s a h = inr (how_made s a h)

module _ (c : Contents) (w : Between) (pairs : List Pair) (sides : Sides c w pairs) (room : AllHaveRoom w pairs) (control : Control) (label : Label) (few : length w.target.parts ≤ 61) where
  abbrev r : Rewinding
  r = rewinding c w control label

  left_deep : (parts : List (List ℕ)) → is_some (left_at r parts) ≡ true → length w.target.parts + length parts ≤ 64
  left_deep [] h = omega (arith, few)
  left_deep (part ∷ parts) h = by (how_left r (relation_of path) t s (action_at path (kind_there t) (kind_there s)) h)
    where
      path : PathValue
      path = path_of false (part ∷ parts)

      t : Option Entry
      t = entry_at c (below w.target (part ∷ parts))

      s : Option Entry
      s = entry_at c (below w.source (part ∷ parts))

      by : HowLeft (makes (action_at path (kind_there t) (kind_there s))) t s → length w.target.parts + length (part ∷ parts) ≤ 64
      by (inl there) = target-room c w (part ∷ parts) (paired-at c w pairs sides room part parts (or_first (is_some t) (is_some s) there)) (inl there)
      by (inr (made, there)) = target-room c w (part ∷ parts) (paired-at c w pairs sides room part parts (or_right (is_some t) (is_some s) there)) (inr made)

  pub rewound-deep : (parts : List (List ℕ)) → is_some (rewound r parts) ≡ true → length w.target.parts + length parts ≤ 64
  unfolding rewound
  rewound-deep parts = by (is_label parts) (is_control parts) (is_mark parts) refl refl
    where
      by : (a b d : Bool) → is_label parts ≡ a → is_control parts ≡ b
          → is_some (if a then Some (FileEntry (label_text label)) else if b then Some (FileEntry (control_bytes control)) else if d then None else left_at r parts) ≡ true
          → length w.target.parts + length parts ≤ 64
      by true b d l k h = omega (arith, few, label_short parts l)
      by false true d l k h = omega (arith, few, control_short parts k)
      by false false true l k h = absurd (true≢false (sym h))
      by false false false l k h = left_deep parts h

  module _ (other : PathValue) (room_too : length other.parts ≤ 61) (lower : length other.parts ≤ max (length w.target.parts) (length w.source.parts)) where
    source_deep : (parts : List (List ℕ)) → is_some (entry_at c (below w.source parts)) ≡ true → length w.target.parts + length parts ≤ 64 → length other.parts + length parts ≤ 64
    source_deep [] there deep = omega (arith, room_too)
    source_deep (part ∷ parts) there deep =
        let more : length w.source.parts + length (part ∷ parts) ≤ 64 =
        source-room c w (part ∷ parts) (paired-at c w pairs sides room part parts (or_right (is_some (entry_at c (below w.target (part ∷ parts)))) (is_some (entry_at c (below w.source (part ∷ parts)))) there)) there in
        omega (arith, more, deep, lower)

    -- what a copy has, where the rewound target has something too
    pub copy-deep : (parts : List (List ℕ)) → is_some (rewound r parts) ≡ is_some (whole_copy r parts) → is_some (whole_copy r parts) ≡ true → length other.parts + length parts ≤ 64
    unfolding whole_copy
    copy-deep parts both there = by (is_label parts) (is_control parts) (is_excluded (path_of false parts)) refl refl there (rewound-deep parts (both ∙ there))
      where
        by : (a b d : Bool) → is_label parts ≡ a → is_control parts ≡ b
            → is_some (if a then Some (FileEntry (label_text label)) else if b then Some (FileEntry (control_bytes control)) else if d then None else entry_at c (below w.source parts)) ≡ true
            → length w.target.parts + length parts ≤ 64 → length other.parts + length parts ≤ 64
        by true b d l k h deep = omega (arith, room_too, label_short parts l)
        by false true d l k h deep = omega (arith, room_too, control_short parts k)
        by false false true l k h deep = absurd (true≢false (sym h))
        by false false false l k h deep = source_deep parts h deep
