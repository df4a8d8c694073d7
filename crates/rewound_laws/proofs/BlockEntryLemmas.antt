-- What a rewind leaves, and a whole copy has, at a path that no rule for single paths speaks of.
use Rattle.std.proofs.Common.{◌≡◌, ◌≢◌, ◌⊎◌, ℕ, ◌%◌, Bool, true, false, nat_lt, List, length, Option, None, Some, is_some, inl, inr, refl, sym, ap, ap₂, ◌∙◌, subst}
use Rattle.std.specs.Prelude.{if◌then◌else◌}
use Rattle.backup_label.specs.Text.{label_text}
use Rattle.backup_label.specs.declared.label.Label.{Label}
use Rattle.block_refs.specs.declared.names.RelName.{RelName}
use Rattle.cluster_tree.specs.Contents.{Contents, Entry, FolderEntry, FileEntry, entry_at}
use Rattle.cluster_tree.specs.PathValue.{PathValue, below, path_of}
use Rattle.control_file.specs.Writing.{control_bytes}
use Rattle.control_file.specs.declared.control.Control.{Control}
use Rattle.file_walk.specs.Actions.{action_at, block_action, by_kinds, file_action, is_control, is_mark, is_version}
use Rattle.file_walk.specs.Excluded.{is_excluded}
use Rattle.file_walk.specs.Relations.{relation_of}
use Rattle.file_walk.specs.Walk.{kind_there}
use Rattle.file_walk.specs.declared.action.Action.TheVariants as action
use Rattle.file_walk.specs.declared.entry.EntryKind.{EntryKind}
use Rattle.file_walk.specs.declared.entry.EntryKind.TheVariants as kind
use Rattle.file_walk.specs.declared.pair.Pair.{Pair}
use Rattle.rewind_plan.specs.PlanOf.{rewinding}
use Rattle.rewind_plan.specs.Planned.{Between, wants}
use Rattle.rewind_plan.specs.Sides.{IsKind, IsWhole, Sides}
use Rattle.rewind_plan.proofs.FitLemmas.{ruled-at}
use Rattle.rewound_tree.specs.Mixed.{mixed}
use Rattle.rewound_tree.specs.Rewound.{Rewinding, left_at, left_by, mixed_entry, rewound, whole_copy}
use Rattle.rewound_laws.proofs.BlockFoundLemmas.{FoundAt, found-at}
use Rattle.rewound_laws.proofs.BlockPathLemmas.{IsPlain, plain-loose}

-- a main fork's file of both, whose blocks come from one side each
pub record IsMixed (w : Between) (parts : List (List ℕ)) (o : Option Entry) (p : Option Entry) (q : Option Entry) : Type 0 where
  pub rel : RelName
  pub segment : ℕ
  pub old : List ℕ
  pub new : List ℕ
  pub is : relation_of (path_of false parts) ≡ Some (rel, segment)
  pub target : o ≡ Some (FileEntry old)
  pub source : p ≡ Some (FileEntry new)
  pub left : q ≡ Some (FileEntry (mixed (wants w rel segment) old new))
  pub whole : length old % 8192 ≡ 0

-- what is left there is the source's, or such a file
abbrev pub LeftAs : Between → List (List ℕ) → (o p q : Option Entry) → Type 0
LeftAs w parts o p q = (q ≡ p) ⊎ IsMixed w parts o p q

pub kind-is : (k : Option EntryKind) (o : Option Entry) → IsKind k o → kind_there o ≡ k
kind-is None o is = ap kind_there is
kind-is (Some (kind.File size)) o is = ap kind_there is.1 ∙ ap (λ n. Some (kind.File n)) is.2
kind-is (Some kind.Folder) o is = ap kind_there is

module _ (c : Contents) (w : Between) (control : Control) (label : Label) where
  abbrev r : Rewinding
  r = rewinding c w control label

  mix_nothing : (at : Option (RelName × ℕ)) → mixed_entry r at None None ≡ None
  mix_nothing None = refl
  mix_nothing (Some (rel, segment)) = refl

  mix_folder : (at : Option (RelName × ℕ)) (bad : Bool) (p : Option Entry) → mixed_entry r at (Some (FolderEntry bad)) p ≡ Some (FolderEntry bad)
  mix_folder None bad p = refl
  mix_folder (Some (rel, segment)) bad p = refl

  block_left : (at : Option (RelName × ℕ)) (old new : ℕ) (o p : Option Entry) → left_by r at o p (block_action old new) ≡ mixed_entry r at o p
  block_left at old new o p = by (nat_lt old new) (nat_lt new old)
    where
      by : (a b : Bool) → left_by r at o p (if a then action.Tail else if b then action.Cut else action.Nothing) ≡ mixed_entry r at o p
      by true b = refl
      by false true = refl
      by false false = refl

  module _ (parts : List (List ℕ)) (o p : Option Entry) (version : is_version (path_of false parts) ≡ false) where
    abbrev path : PathValue
    path = path_of false parts

    file_left : (relation : Option (RelName × ℕ)) (old new : ℕ) → relation_of path ≡ relation
        → left_by r relation o p (file_action path old new) ≡ left_by r relation o p (if is_some relation then block_action old new else action.Copy)
    file_left relation old new is =
        ap (λ b. left_by r relation o p (if b then action.Nothing else if is_some (relation_of path) then block_action old new else action.Copy)) version
        ∙ ap (λ at. left_by r relation o p (if is_some at then block_action old new else action.Copy)) is

    both_left : (relation : Option (RelName × ℕ)) (old new : ℕ) → relation_of path ≡ relation → IsKind (Some (kind.File old)) o → IsKind (Some (kind.File new)) p
        → (is_some relation ≡ true → IsWhole (Some (kind.File old))) → LeftAs w parts o p (left_by r relation o p (if is_some relation then block_action old new else action.Copy))
    both_left None old new is one two whole = inl refl
    both_left (Some (rel, segment)) old new is one two whole = inr (record {
      rel = rel;
      segment = segment;
      old = one.0;
      new = two.0;
      is = is;
      target = one.1;
      source = two.1;
      left = block_left (Some (rel, segment)) old new o p ∙ ap₂ (mixed_entry r (Some (rel, segment))) one.1 two.1;
      whole = ap (λ n. n % 8192) one.2 ∙ whole refl;
    })

    ruled : (relation : Option (RelName × ℕ)) (k l : Option EntryKind) → relation_of path ≡ relation → IsKind k o → IsKind l p → by_kinds path k l ≢ action.KindsDiffer
        → (is_some relation ≡ true → IsWhole k) → LeftAs w parts o p (left_by r relation o p (by_kinds path k l))
    ruled relation None None is one two agreed whole = inl (ap₂ (mixed_entry r relation) one two ∙ mix_nothing relation ∙ sym two)
    ruled relation None (Some (kind.File new)) is one two agreed whole = inl refl
    ruled relation None (Some kind.Folder) is one two agreed whole = inl refl
    ruled relation (Some (kind.File old)) None is one two agreed whole = inl (sym two)
    ruled relation (Some kind.Folder) None is one two agreed whole = inl (sym two)
    ruled relation (Some (kind.File old)) (Some kind.Folder) is one two agreed whole = absurd (agreed refl)
    ruled relation (Some kind.Folder) (Some (kind.File new)) is one two agreed whole = absurd (agreed refl)
    ruled relation (Some kind.Folder) (Some kind.Folder) is one two agreed whole = inl (ap (λ e. mixed_entry r relation e p) one ∙ mix_folder relation false p ∙ sym two)
    ruled relation (Some (kind.File old)) (Some (kind.File new)) is one two agreed whole =
        subst (LeftAs w parts o p) (sym (file_left relation old new is)) (both_left relation old new is one two whole)

  module _ (parts : List (List ℕ)) (plain : IsPlain parts) where
    rewound_is : rewound r parts ≡ left_at r parts
    unfolding rewound
    rewound_is =
        ap (λ b. if b then Some (FileEntry (label_text label)) else if is_control parts then Some (FileEntry (control_bytes control)) else if is_mark parts then None else left_at r parts) plain.label
        ∙ ap (λ b. if b then Some (FileEntry (control_bytes control)) else if is_mark parts then None else left_at r parts) plain.control
        ∙ ap (λ b. if b then None else left_at r parts) plain.mark

    pub copied-as : whole_copy r parts ≡ entry_at c (below w.source parts)
    unfolding whole_copy
    copied-as =
        ap (λ b. if b then Some (FileEntry (label_text label)) else if is_control parts then Some (FileEntry (control_bytes control)) else if is_excluded (path_of false parts) then None else entry_at c (below w.source parts)) plain.label
        ∙ ap (λ b. if b then Some (FileEntry (control_bytes control)) else if is_excluded (path_of false parts) then None else entry_at c (below w.source parts)) plain.control
        ∙ ap (λ b. if b then None else entry_at c (below w.source parts)) plain.free

    pub left-as : (all : List Pair) → Sides c w all → LeftAs w parts (entry_at c (below w.target parts)) (entry_at c (below w.source parts)) (rewound r parts)
    left-as all sides =
        let found : FoundAt c w parts = found-at c w parts all sides plain.deep in
        let rule : action_at (path_of false parts) found.old found.new ≡ by_kinds (path_of false parts) found.old found.new = ruled-at (path_of false parts) found.old found.new (plain-loose parts plain) plain.free in
        let action_is : left_at r parts ≡ left_by r (relation_of (path_of false parts)) (entry_at c (below w.target parts)) (entry_at c (below w.source parts)) (by_kinds (path_of false parts) found.old found.new) =
        ap (left_by r (relation_of (path_of false parts)) (entry_at c (below w.target parts)) (entry_at c (below w.source parts)))
        (ap₂ (action_at (path_of false parts)) (kind-is found.old (entry_at c (below w.target parts)) found.target) (kind-is found.new (entry_at c (below w.source parts)) found.source) ∙ rule) in
        subst (LeftAs w parts (entry_at c (below w.target parts)) (entry_at c (below w.source parts))) (sym (rewound_is ∙ action_is))
        (ruled parts (entry_at c (below w.target parts)) (entry_at c (below w.source parts)) plain.version (relation_of (path_of false parts)) found.old found.new refl found.target found.source
        (λ e. found.agreed (rule ∙ e)) (λ is. (found.blocks is).0))
