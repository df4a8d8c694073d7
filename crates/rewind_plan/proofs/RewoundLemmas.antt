-- What a plan leaves is the rewound tree.
use Rattle.std.proofs.Common.{◌≡◌, ◌⊎◌, ℕ, ◌%◌, ◌==◌, false, cond, List, [], ◌∷◌, ◌++◌, length, take, drop, Option, None, Some, is_some, inl, inr, refl, sym, ap, ap₂, ◌∙◌, subst, true≢false, arith, take_all}
use Rattle.std.proofs.lemmas.List.{append-nil}
use Rattle.block_refs.specs.declared.names.RelName.{RelName}
use Rattle.cluster_tree.specs.PathValue.{PathValue}
use Rattle.cluster_tree.specs.Contents.{Contents, Entry, FileEntry, entry_at, is_file, or_root}
use Rattle.cluster_tree.specs.Change.{Change, Cuts, MakesFile}
use Rattle.cluster_tree.specs.Tree.{bytes_in}
use Rattle.cluster_tree.proofs.ContentsLemmas.{spliced-into_none}
use Rattle.control_file.specs.declared.control.Control.{Control}
use Rattle.backup_label.specs.declared.label.Label.{Label}
use Rattle.file_walk.specs.Actions.{action_at}
use Rattle.file_walk.specs.Relations.{relation_of}
use Rattle.file_walk.specs.Walk.{kind_there}
use Rattle.file_walk.specs.declared.action.Action.{Action}
use Rattle.file_walk.specs.declared.action.Action.TheVariants as action
use Rattle.file_walk.specs.declared.entry.EntryKind.{EntryKind}
use Rattle.file_walk.specs.declared.entry.EntryKind.TheVariants as kind
use Rattle.file_walk.specs.declared.pair.Pair.{Pair}
use Rattle.marked_runs.specs.Runs.{writes_at}
use Rattle.rewind_writes.specs.Steps.{opened, part_of, steps_changes}
use Rattle.rewound_tree.specs.Rewound.{Rewinding, left_by, mixed_entry}
use Rattle.rewound_tree.specs.Rewound.{left_at as left_of}
use Rattle.rewind_plan.proofs.Jobs.{made_of}
use Rattle.rewind_plan.specs.PlanOf.{rewinding}
use Rattle.rewind_plan.specs.Planned.{Between, action_of, both_files, in_source, in_target, touched_steps, wants, whole_step}
use Rattle.rewind_plan.specs.Sides.{IsKind, IsPaired, IsWhole}
use Rattle.rewind_plan.proofs.BytesLemmas.{blocks-mix, write_made}
use Rattle.rewind_plan.proofs.FitLemmas.{Acts, acts, doing_of}
use Rattle.rewind_plan.proofs.ItemLemmas.{leaves_of}
use Rattle.rewind_plan.proofs.PairLemmas.{doing_by, filling}
use Rattle.rewind_plan.proofs.SideLemmas.{path-is}

kind_is : (k : Option EntryKind) (o : Option Entry) → IsKind k o → kind_there o ≡ k
kind_is None o is = ap kind_there is
kind_is (Some (kind.File size)) o is = ap kind_there is.1 ∙ ap (λ n. Some (kind.File n)) is.2
kind_is (Some kind.Folder) o is = ap kind_there is

leaves_filling : (q : PathValue) (xs : List Change) (o : Option Entry) → leaves_of q (filling xs) o ≡ made_of o xs
leaves_filling q [] o = refl
leaves_filling q (x ∷ xs) o = refl

root_none : (xs ys : List (List ℕ)) → length ys == 0 ≡ false → or_root (xs ++ ys) None ≡ None
root_none [] [] deep = absurd (true≢false deep)
root_none [] (y ∷ ys) deep = refl
root_none (x ∷ xs) ys deep = refl

module _ (c : Contents) (w : Between) (control : Control) (label : Label) where
  abbrev r : Rewinding
  r = rewinding c w control label

  -- ---- a whole file

  whole_file : (from to : PathValue) (size : ℕ) (bytes : List ℕ) → entry_at c from ≡ Some (FileEntry bytes) → length bytes ≡ size → part_of c from 0 size ≡ bytes
  whole_file from to size bytes is long = ap (λ o. take size (drop 0 (bytes_in o))) is ∙ take_all size bytes (omega (arith, long))

  copied_file : (to : PathValue) (part : List ℕ) (o : Option Entry) → (o ≡ None) ⊎ ((old : List ℕ) × (o ≡ Some (FileEntry old))) → made_of o (cond (is_file o) (Cuts to 0) (MakesFile to) ∷ writes_at to 0 part) ≡ Some (FileEntry part)
  copied_file to part o (inl none) =
      ap (λ e. made_of e (cond (is_file e) (Cuts to 0) (MakesFile to) ∷ writes_at to 0 part)) none
      ∙ write_made to 0 part [] ∙ ap (λ b. Some (FileEntry b)) (spliced-into_none part)
  copied_file to part o (inr (old, some)) =
      ap (λ e. made_of e (cond (is_file e) (Cuts to 0) (MakesFile to) ∷ writes_at to 0 part)) some
      ∙ write_made to 0 part (take 0 old) ∙ ap (λ b. Some (FileEntry b)) (spliced-into_none part)

  file_there : (k : Option EntryKind) (o : Option Entry) → IsKind k o → (k ≡ None) ⊎ ((old : ℕ) × (k ≡ Some (kind.File old))) → (o ≡ None) ⊎ ((old : List ℕ) × (o ≡ Some (FileEntry old)))
  file_there None o is how = inl is
  file_there (Some (kind.File size)) o is how = inr (is.0, is.1)
  file_there (Some kind.Folder) o is (inl none) = absurd (cc none)
  file_there (Some kind.Folder) o is (inr (old, file)) = absurd (cc file)

  copied : (x : Pair) → IsPaired c w x → (source : Option EntryKind) → x.source ≡ source → ((size : ℕ) × (x.source ≡ Some (kind.File size)) × ((x.target ≡ None) ⊎ ((old : ℕ) × (x.target ≡ Some (kind.File old)))))
      → made_of (entry_at c (in_target w x)) (steps_changes c (whole_step w x source)) ≡ entry_at c (in_source w x)
  copied x paired None is known = absurd (cc (sym is ∙ known.1))
  copied x paired (Some kind.Folder) is known = absurd (cc (sym is ∙ known.1))
  copied x paired (Some (kind.File size)) is known =
      let file = subst (λ k. IsKind k (entry_at c (in_source w x))) is paired.source in
      ap (made_of (entry_at c (in_target w x))) (append-nil (opened c (in_target w x) ∷ writes_at (in_target w x) 0 (part_of c (in_source w x) 0 size)))
      ∙ copied_file (in_target w x) (part_of c (in_source w x) 0 size) (entry_at c (in_target w x)) (file_there x.target (entry_at c (in_target w x)) paired.target known.2)
      ∙ ap (λ b. Some (FileEntry b)) (whole_file (in_source w x) (in_target w x) size file.0 file.1 file.2) ∙ sym file.1

  -- ---- a file of blocks

  both_mix : (x : Pair) (rel : RelName) (segment : ℕ) (target source : Option EntryKind) (o p : Option Entry) → entry_at c (in_source w x) ≡ p → IsKind target o → IsKind source p → IsWhole target → IsWhole source
      → made_of o (steps_changes c (both_files w x (rel, segment) target source)) ≡ mixed_entry r (Some (rel, segment)) o p
  both_mix x rel segment (Some (kind.File old)) (Some (kind.File new)) o p at is also whole whole_new =
      ap₂ (λ n m. made_of o (steps_changes c (both_files w x (rel, segment) (Some (kind.File n)) (Some (kind.File m))))) (sym is.2) (sym also.2)
      ∙ ap (λ e. made_of e (steps_changes c (both_files w x (rel, segment) (Some (kind.File (length is.0))) (Some (kind.File (length also.0)))))) is.1
      ∙ blocks-mix (wants w rel segment) is.0 also.0 (ap (λ n. n % 8192) is.2 ∙ whole) (ap (λ n. n % 8192) also.2 ∙ whole_new) c (in_source w x) (in_target w x) (ap bytes_in (at ∙ also.1))
      ∙ sym (ap₂ (mixed_entry r (Some (rel, segment))) is.1 also.1)
  both_mix x rel segment (Some (kind.File old)) (Some kind.Folder) o p at is also whole whole_new = is.1 ∙ sym (ap₂ (mixed_entry r (Some (rel, segment))) is.1 also)
  both_mix x rel segment (Some (kind.File old)) None o p at is also whole whole_new = is.1 ∙ sym (ap₂ (mixed_entry r (Some (rel, segment))) is.1 also)
  both_mix x rel segment (Some kind.Folder) source o p at is also whole whole_new = is ∙ sym (ap (λ e. mixed_entry r (Some (rel, segment)) e p) is)
  both_mix x rel segment None source o p at is also whole whole_new = is ∙ sym (ap (λ e. mixed_entry r (Some (rel, segment)) e p) is)

  touched_mix : (x : Pair) → IsPaired c w x → (at : Option (RelName × ℕ)) → relation_of x.path ≡ at
      → made_of (entry_at c (in_target w x)) (steps_changes c (touched_steps w x at)) ≡ mixed_entry r at (entry_at c (in_target w x)) (entry_at c (in_source w x))
  touched_mix x paired None is = refl
  touched_mix x paired (Some (rel, segment)) is =
      let whole = paired.blocks (ap is_some is) in
      both_mix x rel segment x.target x.source (entry_at c (in_target w x)) (entry_at c (in_source w x)) refl paired.target paired.source whole.0 whole.1

  by_action : (x : Pair) → IsPaired c w x → (a : Action) → action_of x ≡ a → Acts x.path a x.target x.source
      → leaves_of (in_target w x) (doing_by c w x a) (entry_at c (in_target w x)) ≡ left_by r (relation_of x.path) (entry_at c (in_target w x)) (entry_at c (in_source w x)) a
  by_action x paired action.Nothing is known = leaves_filling (in_target w x) (steps_changes c (touched_steps w x (relation_of x.path))) (entry_at c (in_target w x)) ∙ touched_mix x paired (relation_of x.path) refl
  by_action x paired action.MakeFolder is known = sym (subst (λ k. IsKind k (entry_at c (in_source w x))) known.3 paired.source)
  by_action x paired action.Copy is known = leaves_filling (in_target w x) (steps_changes c (whole_step w x x.source)) (entry_at c (in_target w x)) ∙ copied x paired x.source refl known.2
  by_action x paired action.Tail is known = leaves_filling (in_target w x) (steps_changes c (touched_steps w x (relation_of x.path))) (entry_at c (in_target w x)) ∙ touched_mix x paired (relation_of x.path) refl
  by_action x paired action.Cut is known = leaves_filling (in_target w x) (steps_changes c (touched_steps w x (relation_of x.path))) (entry_at c (in_target w x)) ∙ touched_mix x paired (relation_of x.path) refl
  by_action x paired action.Remove is known = root_none w.target.parts x.path.parts paired.deep
  by_action x paired action.KindsDiffer is known = absurd (paired.agreed is)

  -- what is left at a pair's path
  pub pair-left : (x : Pair) → IsPaired c w x → leaves_of (in_target w x) (doing_of c w x) (entry_at c (in_target w x)) ≡ left_of r x.path.parts
  pair-left x paired =
      by_action x paired (action_of x) refl (acts x.path x.target x.source)
      ∙ ap₂ (λ p a. left_by r (relation_of p) (entry_at c (in_target w x)) (entry_at c (in_source w x)) a) (sym (path-is x paired.relative))
      (sym (ap (λ p. action_at p (kind_there (entry_at c (in_target w x))) (kind_there (entry_at c (in_source w x)))) (path-is x paired.relative)
      ∙ ap₂ (action_at x.path) (kind_is x.target (entry_at c (in_target w x)) paired.target) (kind_is x.source (entry_at c (in_source w x)) paired.source)))
