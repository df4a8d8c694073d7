-- What stands at a pair's copy is a whole copy of its source.
use Rattle.std.proofs.Common.{◌≡◌, ℕ, pos, Bool, true, false, cond, ◌&&◌, List, [], ◌∷◌, Option, None, Some, bytes_eq, codes, refl, sym, ap, ◌∙◌, true≢false, if◌then◌else◌}
use Rattle.std.proofs.lemmas.Slice.Eq.{bytes_eq-Decides}
use Rattle.std.specs.Cmp.Lexicographic.{pointwise}
use Rattle.backup_label.specs.Text.{label_text}
use Rattle.cluster_tree.specs.Contents.{Contents, Entry, FileEntry, entry_at}
use Rattle.cluster_tree.specs.PathValue.{PathValue, below, kept_parts, path_of}
use Rattle.control_file.specs.Writing.{control_bytes}
use Rattle.file_walk.specs.Actions.{is_control}
use Rattle.file_walk.specs.Excluded.{is_excluded}
use Rattle.rewound_laws.specs.Copy.{IsWholeCopy}
use Rattle.rewound_tree.specs.Rewound.{is_label, whole_copy}
use Rattle.rewound_tree.specs.RewoundControl.{rewound_control}
use Rattle.pair_maker.specs.Clusters.{control_entry, copy_entries, file, shared_entries, source_entries}
use Rattle.pair_maker.specs.Files.{control_of, pair_label, relation_bytes}
use Rattle.pair_maker.specs.Logs.{made_at}
use Rattle.pair_maker.specs.Pair.{PairStands, last_named}
use Rattle.pair_maker.specs.declared.side.Side.TheVariants.{Source}
use Rattle.pair_laws.specs.Stands.{CopyStands, source_of}
use Rattle.pair_laws.specs.Survey.{pair_needing}
use Rattle.pair_laws.proofs.NamedLemmas.{named-all, named-append, pair-at-s}
use Rattle.pair_laws.proofs.ThereLemmas.{Holds, shared-hold}

-- ---- the tests of both paths

same_test : (a b : Bool) → (a ≡ true → b ≡ true) → (b ≡ true → a ≡ true) → a ≡ b
same_test true b f g = sym (f refl)
same_test false true f g = g refl
same_test false false f g = refl

bytes_turned : (a b : List ℕ) → bytes_eq a b ≡ bytes_eq b a
bytes_turned a b =
    same_test (bytes_eq a b) (bytes_eq b a) (λ h. (bytes_eq-Decides b a).1 (sym ((bytes_eq-Decides a b).0 h))) (λ h. (bytes_eq-Decides a b).1 (sym ((bytes_eq-Decides b a).0 h)))

and_true : (b : Bool) → (b && true) ≡ b
and_true true = refl
and_true false = refl

and_false : (b : Bool) → (b && false) ≡ false
and_false true = refl
and_false false = refl

label_test : (parts : List (List ℕ)) → pointwise bytes_eq (kept_parts (codes "backup_label")) parts ≡ is_label parts
label_test [] = refl
label_test (x ∷ []) = and_true (bytes_eq (codes "backup_label") x) ∙ bytes_turned (codes "backup_label") x
label_test (x ∷ y ∷ parts) = and_false (bytes_eq (codes "backup_label") x)

control_test : (parts : List (List ℕ)) → pointwise bytes_eq (kept_parts (codes "global/pg_control")) parts ≡ is_control parts
control_test [] = refl
control_test (x ∷ []) = and_false (bytes_eq (codes "global") x)
control_test (x ∷ y ∷ []) =
    ap (λ b. bytes_eq (codes "global") x && b) (and_true (bytes_eq (codes "pg_control") y))
    ∙ ap (λ b. b && bytes_eq (codes "pg_control") y) (bytes_turned (codes "global") x) ∙ ap (λ b. bytes_eq x (codes "global") && b) (bytes_turned (codes "pg_control") y)
control_test (x ∷ y ∷ z ∷ parts) = ap (λ b. bytes_eq (codes "global") x && b) (and_false (bytes_eq (codes "pg_control") y)) ∙ and_false (bytes_eq (codes "global") x)

-- ---- the source without its control file, and what the copy has instead

copy_by : (label control excluded : Bool) (l k shared source : Option Entry) → (excluded ≡ true → shared ≡ None) → (control ≡ false → source ≡ shared)
    → cond label l (cond control k shared) ≡ (if label then l else if control then k else if excluded then None else source)
copy_by true control excluded l k shared source none same = refl
copy_by false true excluded l k shared source none same = refl
copy_by false false true l k shared source none same = none refl
copy_by false false false l k shared source none same = sym (same refl)

none_or : (o : Option Entry) → ((e : Entry) → o ≡ Some e → ⊥) → o ≡ None
none_or None h = refl
none_or (Some e) h = absurd (h e refl)

module _ (seed blocks : ℕ) (parts : List (List ℕ)) where
  abbrev shared_at : Option Entry
  shared_at = last_named None (shared_entries seed blocks) parts

  abbrev new_control : Entry
  new_control = FileEntry (control_bytes (rewound_control (control_of Source seed blocks) (pos made_at)))

  abbrev new_label : Entry
  new_label = FileEntry (label_text pair_label)

  copy_at : last_named None (copy_entries seed blocks) parts ≡ cond (is_label parts) (Some new_label) (cond (is_control parts) (Some new_control) shared_at)
  copy_at =
      named-append None (shared_entries seed blocks) (control_entry (rewound_control (control_of Source seed blocks) (pos made_at)) ∷ file (codes "backup_label") (label_text pair_label) ∷ []) parts
      ∙ ap (λ b. cond b (Some new_label) (cond (pointwise bytes_eq (kept_parts (codes "global/pg_control")) parts) (Some new_control) shared_at)) (label_test parts)
      ∙ ap (λ b. cond (is_label parts) (Some new_label) (cond b (Some new_control) shared_at)) (control_test parts)

  source_at : is_control parts ≡ false → last_named None (source_entries seed blocks) parts ≡ shared_at
  source_at other =
      named-append None (shared_entries seed blocks) (control_entry (control_of Source seed blocks) ∷ []) parts
      ∙ ap (λ b. cond b (Some (FileEntry (control_bytes (control_of Source seed blocks)))) shared_at) (control_test parts ∙ other)

  shared_kept : is_excluded (path_of false parts) ≡ true → shared_at ≡ None
  shared_kept out =
      none_or shared_at
      (λ e there. true≢false (sym out ∙ (named-all (Holds (relation_bytes Source seed blocks)) (shared_entries seed blocks) parts (shared-hold seed blocks) e there).kept))

pub pair-copied : (root other : PathValue) (seed blocks : ℕ) (c d : Contents) → PairStands root seed blocks c → CopyStands other seed blocks d
    → IsWholeCopy c (pair_needing root seed blocks c (pos made_at)) d other
unfolding whole_copy
pair-copied root other seed blocks c d stands copy parts =
    copy parts
    ∙ copy_at seed blocks parts
    ∙ copy_by (is_label parts) (is_control parts) (is_excluded (path_of false parts)) (Some (FileEntry (label_text pair_label)))
    (Some (FileEntry (control_bytes (rewound_control (control_of Source seed blocks) (pos made_at))))) (last_named None (shared_entries seed blocks) parts) (entry_at c (below (source_of root) parts))
    (shared_kept seed blocks parts) (λ mine. pair-at-s root seed blocks c stands parts ∙ source_at seed blocks parts mine)
