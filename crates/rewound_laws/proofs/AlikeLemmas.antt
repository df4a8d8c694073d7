-- What a rewind leaves at a path is alike to what a whole copy has there.
use Rattle.std.proofs.Common.{◌≡◌, ℕ, Bool, true, false, ◌==◌, ◌&&◌, ◌||◌, nat_lt, List, [], ◌∷◌, length, Option, None, Some, is_some, if◌then◌else◌, refl, sym, ap, ap₂, ◌∙◌, subst, true≢false, arith}
use Rattle.std.proofs.lemmas.Bool.Decides.{nat_tests}
use Rattle.std.proofs.lemmas.Slice.Eq.{bytes_eq-Decides}
use Rattle.std.specs.Prelude.{bytes_eq, codes}
use Rattle.alike_clusters.proofs.LikeLemmas.{like-plain}
use Rattle.alike_clusters.specs.Clusters.{is_alike, is_alike_file, is_bounded}
use Rattle.backup_label.specs.Text.{label_text}
use Rattle.block_refs.specs.declared.names.RelName.{RelName}
use Rattle.cluster_laws.proofs.StartLemmas.{control-not_main}
use Rattle.cluster_tree.specs.Contents.{Entry, FolderEntry, FileEntry, LinkEntry}
use Rattle.cluster_tree.specs.PathValue.{PathValue, path_of}
use Rattle.control_file.specs.Writing.{control_bytes}
use Rattle.file_edits.specs.Alike.{AlikeEntries, Files, Folders, Neither}
use Rattle.file_walk.specs.Actions.{action_at, block_action, by_kinds, file_action, is_control, is_kept, is_mark, is_version}
use Rattle.file_walk.specs.Excluded.{is_excluded}
use Rattle.file_walk.specs.Relations.{relation_of}
use Rattle.file_walk.specs.Walk.{kind_there}
use Rattle.file_walk.specs.declared.action.Action.{Action}
use Rattle.file_walk.specs.declared.action.Action.TheVariants as action
use Rattle.file_walk.specs.declared.entry.EntryKind.{EntryKind}
use Rattle.file_walk.specs.declared.entry.EntryKind.TheVariants as kind
use Rattle.rewind_plan.proofs.FitLemmas.{excluded-absent, excluded-goes, ruled-at}
use Rattle.rewind_plan.specs.Sides.{IsKind}
use Rattle.rewound_tree.proofs.MixedLemmas.{mixed_length}
use Rattle.rewound_tree.specs.Mixed.{is_wanted, mixed}
use Rattle.rewound_tree.specs.Rewound.{Rewinding, is_label, left_at, left_by, mixed_entry, rewound, whole_copy}

-- ---- what a walk lets pass

-- a folder of names that are text, a file, or nothing
abbrev pub IsPlain : Option Entry → Type 0
IsPlain None = Unit {0}
IsPlain (Some (FolderEntry bad)) = bad ≡ false
IsPlain (Some (FileEntry bytes)) = Unit {0}
IsPlain (Some LinkEntry) = ⊥

pub kind-plain : (k : Option EntryKind) (o : Option Entry) → IsKind k o → IsPlain o
kind-plain None o is = subst IsPlain (sym is) tt
kind-plain (Some (kind.File size)) o is = subst IsPlain (sym is.1) tt
kind-plain (Some kind.Folder) o is = subst IsPlain (sym is) refl

-- ---- what a rewind writes by itself

label_not_main : (parts : List (List ℕ)) → is_label parts ≡ true → relation_of (path_of false parts) ≡ None
unfolding relation_of
label_not_main [] h = absurd (true≢false (sym h))
label_not_main (first ∷ []) h = refl
label_not_main (first ∷ second ∷ parts) h = absurd (true≢false (sym h))

and_parts : (a b : Bool) → (a && b) ≡ true → (a ≡ true) × (b ≡ true)
and_parts true b h = (refl, h)
and_parts false b h = absurd (true≢false (sym h))

control_not_main : (parts : List (List ℕ)) → is_control parts ≡ true → relation_of (path_of false parts) ≡ None
control_not_main [] h = absurd (true≢false (sym h))
control_not_main (first ∷ []) h = absurd (true≢false (sym h))
control_not_main (first ∷ second ∷ []) h =
    let two = and_parts (bytes_eq first (codes "global")) (bytes_eq second (codes "pg_control")) h in
    ap₂ (λ (x y : List ℕ). relation_of (path_of false (x ∷ y ∷ []))) ((bytes_eq-Decides first (codes "global")).0 two.0) ((bytes_eq-Decides second (codes "pg_control")).0 two.1)
    ∙ control-not_main
control_not_main (first ∷ second ∷ third ∷ parts) h = absurd (true≢false (sym h))

-- ---- files

or_by : (v b : Bool) → b ≡ true → (v || b) ≡ true
or_by true b h = refl
or_by false b h = h

same_number : (n m : ℕ) → n ≡ m → (n == m) ≡ true
same_number n m h = grind (arith, nat_tests, h)

-- what is asked of the source's file
abbrev pub IsBounded : (per : ℕ) → List (List ℕ) → Option Entry → Type 0
IsBounded per parts o = (at : RelName × ℕ) (bytes : List ℕ) → relation_of (path_of false parts) ≡ Some at → o ≡ Some (FileEntry bytes) → is_bounded per at.1 (length bytes) ≡ true

module _ (per : ℕ) (parts : List (List ℕ)) where
  abbrev path : PathValue
  path = path_of false parts

  -- a main fork's file beside one that is as long
  sized_like : (at : RelName × ℕ) → relation_of path ≡ Some at → (a b : List ℕ) → length b ≡ length a → is_bounded per at.1 (length a) ≡ true → is_alike per parts a b ≡ true
  sized_like at is a b same few =
      or_by (is_version path) (is_alike_file per (relation_of path) a b)
      (ap (λ o. is_alike_file per o a b) is ∙ ap₂ (λ x y. x && y) (same_number (length a) (length b) (sym same)) few)

  -- each file is like itself
  own_like : (bytes : List ℕ) → IsBounded per parts (Some (FileEntry bytes)) → is_alike per parts bytes bytes ≡ true
  own_like bytes few = by (relation_of path) refl
    where
      by : (o : Option (RelName × ℕ)) → relation_of path ≡ o → is_alike per parts bytes bytes ≡ true
      by None is = like-plain per parts is bytes
      by (Some at) is = sized_like at is bytes bytes refl (few at bytes is refl)

  version_like : (a b : List ℕ) → is_version path ≡ true → is_alike per parts a b ≡ true
  version_like a b h = ap (λ v. v || is_alike_file per (relation_of path) a b) h

  module _ (r : Rewinding) where
    mix_none : (at : Option (RelName × ℕ)) (o : Option Entry) → mixed_entry r at None o ≡ None
    mix_none None o = refl
    mix_none (Some (rel, segment)) o = refl

    mix_folder : (at : Option (RelName × ℕ)) (bad : Bool) (o : Option Entry) → mixed_entry r at (Some (FolderEntry bad)) o ≡ Some (FolderEntry bad)
    mix_folder None bad o = refl
    mix_folder (Some (rel, segment)) bad o = refl

    -- of two files
    abbrev FilesAlike : (old new : List ℕ) → Option (RelName × ℕ) → Action → Type 0
    FilesAlike old new at a = AlikeEntries (is_alike per parts) (Some (FileEntry new)) (left_by r at (Some (FileEntry old)) (Some (FileEntry new)) a)

    mixed_alike : (old new : List ℕ) (rel : RelName) (segment : ℕ) → relation_of path ≡ Some (rel, segment) → IsBounded per parts (Some (FileEntry new))
        → (longer shorter : Bool) → FilesAlike old new (Some (rel, segment)) (if longer then action.Tail else if shorter then action.Cut else action.Nothing)
    mixed_alike old new rel segment is few = by
      where
        like : is_alike per parts new (mixed (is_wanted r.touched r.relseg rel segment) old new) ≡ true
        like =
            sized_like (rel, segment) is new (mixed (is_wanted r.touched r.relseg rel segment) old new) (mixed_length (is_wanted r.touched r.relseg rel segment) old new)
            (few (rel, segment) new is refl)

        by : (a b : Bool) → FilesAlike old new (Some (rel, segment)) (if a then action.Tail else if b then action.Cut else action.Nothing)
        by true b = Files new (mixed (is_wanted r.touched r.relseg rel segment) old new) like
        by false true = Files new (mixed (is_wanted r.touched r.relseg rel segment) old new) like
        by false false = Files new (mixed (is_wanted r.touched r.relseg rel segment) old new) like

    files_alike : (old new : List ℕ) → IsBounded per parts (Some (FileEntry new)) → FilesAlike old new (relation_of path) (file_action path (length old) (length new))
    files_alike old new few = by (is_version path) (relation_of path) refl refl
      where
        by : (v : Bool) (at : Option (RelName × ℕ)) → is_version path ≡ v → relation_of path ≡ at
            → FilesAlike old new at (if v then action.Nothing else if is_some at then block_action (length old) (length new) else action.Copy)
        by true None version is = Files new old (version_like new old version)
        by true (Some (rel, segment)) version is =
            Files new (mixed (is_wanted r.touched r.relseg rel segment) old new) (version_like new (mixed (is_wanted r.touched r.relseg rel segment) old new) version)
        by false None other is = Files new new (own_like new few)
        by false (Some (rel, segment)) other is = mixed_alike old new rel segment is few (nat_lt (length old) (length new)) (nat_lt (length new) (length old))

    -- ---- a path that is neither a rewind's own nor excluded

    ruled_alike : (t s : Option Entry) → IsPlain t → IsPlain s → IsBounded per parts s → (by_kinds path (kind_there t) (kind_there s) ≡ action.KindsDiffer → ⊥)
        → AlikeEntries (is_alike per parts) s (left_by r (relation_of path) t s (by_kinds path (kind_there t) (kind_there s)))
    ruled_alike None None plain also few differ = subst (AlikeEntries (is_alike per parts) None) (sym (mix_none (relation_of path) None)) Neither
    ruled_alike None (Some (FolderEntry bad)) plain also few differ = Folders bad
    ruled_alike None (Some (FileEntry bytes)) plain also few differ = Files bytes bytes (own_like bytes few)
    ruled_alike None (Some LinkEntry) plain also few differ = absurd also
    ruled_alike (Some (FolderEntry a)) None plain also few differ = Neither
    ruled_alike (Some (FolderEntry a)) (Some (FolderEntry b)) plain also few differ =
        subst (AlikeEntries (is_alike per parts) (Some (FolderEntry b)))
        (ap (λ x. Some (FolderEntry x)) (also ∙ sym plain) ∙ sym (mix_folder (relation_of path) a (Some (FolderEntry b)))) (Folders b)
    ruled_alike (Some (FolderEntry a)) (Some (FileEntry new)) plain also few differ = absurd (differ refl)
    ruled_alike (Some (FolderEntry a)) (Some LinkEntry) plain also few differ = absurd also
    ruled_alike (Some (FileEntry old)) None plain also few differ = Neither
    ruled_alike (Some (FileEntry old)) (Some (FolderEntry b)) plain also few differ = absurd (differ refl)
    ruled_alike (Some (FileEntry old)) (Some (FileEntry new)) plain also few differ = files_alike old new few
    ruled_alike (Some (FileEntry old)) (Some LinkEntry) plain also few differ = absurd also
    ruled_alike (Some LinkEntry) s plain also few differ = absurd plain

    -- ---- an excluded path

    excluded_gone : (t s : Option Entry) → IsPlain t → is_kept path ≡ false → is_excluded path ≡ true → left_by r (relation_of path) t s (action_at path (kind_there t) (kind_there s)) ≡ None
    excluded_gone None s plain kept out = ap (left_by r (relation_of path) None s) (excluded-absent path (kind_there s) kept out) ∙ mix_none (relation_of path) s
    excluded_gone (Some (FolderEntry bad)) s plain kept out = ap (left_by r (relation_of path) (Some (FolderEntry bad)) s) (excluded-goes path kind.Folder (kind_there s) kept out)
    excluded_gone (Some (FileEntry bytes)) s plain kept out = ap (left_by r (relation_of path) (Some (FileEntry bytes)) s) (excluded-goes path (kind.File (length bytes)) (kind_there s) kept out)
    excluded_gone (Some LinkEntry) s plain kept out = absurd plain

    -- ---- any path

    module _ (target_plain : IsPlain (r.target parts)) (source_plain : IsPlain (r.source parts)) (few : IsBounded per parts (r.source parts)) (unmarked : is_mark parts ≡ true → r.source parts ≡ None)
        (differ : is_kept path ≡ false → is_excluded path ≡ false → by_kinds path (kind_there (r.target parts)) (kind_there (r.source parts)) ≡ action.KindsDiffer → ⊥) where
      abbrev BothLeft : Option Entry → Option Entry → Type 0
      BothLeft copied left = AlikeEntries (is_alike per parts) copied left

      marked : (out : Bool) → is_mark parts ≡ true → BothLeft (if out then None else r.source parts) None
      marked true h = Neither
      marked false h = subst (λ o. BothLeft o None) (sym (unmarked h)) Neither

      kept_off : is_control parts ≡ false → is_mark parts ≡ false → is_kept path ≡ false
      kept_off control mark = ap₂ (λ a b. a || b) control mark

      others : (out : Bool) → is_kept path ≡ false → is_excluded path ≡ out → BothLeft (if out then None else r.source parts) (left_at r parts)
      others true kept is = subst (BothLeft None) (sym (excluded_gone (r.target parts) (r.source parts) target_plain kept is)) Neither
      others false kept is =
          subst (λ a. BothLeft (r.source parts) (left_by r (relation_of path) (r.target parts) (r.source parts) a)) (sym (ruled-at path (kind_there (r.target parts)) (kind_there (r.source parts)) kept is))
          (ruled_alike (r.target parts) (r.source parts) target_plain source_plain few (differ kept is))

      pub path-alike : AlikeEntries (is_alike per parts) (whole_copy r parts) (rewound r parts)
      unfolding whole_copy rewound
      path-alike = by (is_label parts) (is_control parts) (is_mark parts) refl refl refl
        where
          by : (label control mark : Bool) → is_label parts ≡ label → is_control parts ≡ control → is_mark parts ≡ mark
              → BothLeft
              (if label then Some (FileEntry (label_text r.label)) else if control then Some (FileEntry (control_bytes r.control)) else if is_excluded path then None else r.source parts)
              (if label then Some (FileEntry (label_text r.label)) else if control then Some (FileEntry (control_bytes r.control)) else if mark then None else left_at r parts)
          by true control mark l k m = Files (label_text r.label) (label_text r.label) (like-plain per parts (label_not_main parts l) (label_text r.label))
          by false true mark l k m = Files (control_bytes r.control) (control_bytes r.control) (like-plain per parts (control_not_main parts k) (control_bytes r.control))
          by false false true l k m = marked (is_excluded path) m
          by false false false l k m = others (is_excluded path) (kept_off k m) refl
