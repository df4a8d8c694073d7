-- Where two clusters were walked and paired, no change of the steps is refused in its turn, and what they leave.
use Rattle.std.proofs.Common.{◌≡◌, ◌⊎◌, ℕ, true, List, [], ◌∷◌, ◌++◌, Option, None, Some, is_some, inl, inr, refl, sym, ap, ◌∙◌, subst}
use Rattle.std.specs.List.{list_all}
use Rattle.cluster_tree.specs.PathValue.{PathValue, below}
use Rattle.cluster_tree.specs.Contents.{Contents, FileEntry, entry_at, is_folder}
use Rattle.cluster_tree.specs.Change.{Change, all_changed, first_refusal}
use Rattle.block_refs.specs.declared.names.RelName.{RelName}
use Rattle.file_walk.specs.Relations.{relation_of}
use Rattle.file_walk.specs.declared.action.Action.{Action}
use Rattle.file_walk.specs.declared.action.Action.TheVariants as action
use Rattle.file_walk.specs.declared.entry.EntryKind.{EntryKind}
use Rattle.file_walk.specs.declared.entry.EntryKind.TheVariants as kind
use Rattle.file_walk.specs.declared.pair.Pair.{Pair}
use Rattle.rewind_writes.specs.Steps.{steps_changes}
use Rattle.rewind_plan.proofs.Jobs.{AllFit, is_own}
use Rattle.rewind_plan.specs.Planned.{Between, action_of, both_files, file_steps, in_source, in_target, steps_of, touched_steps, wants, whole_step}
use Rattle.rewind_plan.specs.Sides.{AllPaired, IsKind, IsPaired, IsWhole, Sides}
use Rattle.rewind_plan.proofs.FileLemmas.{blocks-fit, blocks-own, whole-fits, whole-own}
use Rattle.rewind_plan.proofs.FitLemmas.{Acts, FileKinds, acts, doing_of, fills_kinds, items-apart, new_ruled}
use Rattle.rewind_plan.proofs.Items.{Clears, Doing, Fills, Item, Leaves, Makes, is_making, makes_at}
use Rattle.rewind_plan.proofs.FileItems.{FileFits, Filled, FilesFit, all_folders, fills_at, is_filling}
use Rattle.rewind_plan.proofs.ItemLemmas.{ItemsFit, all_jobs, items-fit, items-leave, left_at}
use Rattle.rewind_plan.proofs.JobLemmas.{jobs-leave, jobs-unrefused}
use Rattle.rewind_plan.proofs.PairLemmas.{doing_by, filling, items_of, steps-are}
use Rattle.rewind_plan.proofs.KindLemmas.{deep_in, kind_none, kind_there}
use Rattle.rewind_plan.proofs.PlaceLemmas.{front-of, own-doing, parent-front, sides-folders, sides-removals, up-stands, up-unfilled, whole-path}
use Rattle.rewind_plan.proofs.SideLemmas.{Ended, above-folder}

module _ (c : Contents) (w : Between) where
  -- ---- the changes of a pair's file

  both_own : (x : Pair) (at : RelName × ℕ) (target source : Option EntryKind) → list_all (is_own (in_target w x)) (steps_changes c (both_files w x at target source)) ≡ true
  both_own x at (Some (kind.File old)) (Some (kind.File new)) = blocks-own c (in_source w x) (in_target w x) (wants w at.0 at.1) old new
  both_own x at (Some (kind.File old)) (Some kind.Folder) = refl
  both_own x at (Some (kind.File old)) None = refl
  both_own x at (Some kind.Folder) source = refl
  both_own x at None source = refl

  touched_own : (x : Pair) (at : Option (RelName × ℕ)) → list_all (is_own (in_target w x)) (steps_changes c (touched_steps w x at)) ≡ true
  touched_own x None = refl
  touched_own x (Some at) = both_own x at x.target x.source

  copied_own : (x : Pair) (source : Option EntryKind) → list_all (is_own (in_target w x)) (steps_changes c (whole_step w x source)) ≡ true
  copied_own x None = refl
  copied_own x (Some (kind.File size)) = whole-own c (in_source w x) (in_target w x) size
  copied_own x (Some kind.Folder) = refl

  file_own : (x : Pair) (a : Action) → list_all (is_own (in_target w x)) (steps_changes c (file_steps w x a)) ≡ true
  file_own x action.Nothing = touched_own x (relation_of x.path)
  file_own x action.MakeFolder = refl
  file_own x action.Copy = copied_own x x.source
  file_own x action.Tail = touched_own x (relation_of x.path)
  file_own x action.Cut = touched_own x (relation_of x.path)
  file_own x action.Remove = refl
  file_own x action.KindsDiffer = refl

  both_fit : (x : Pair) (at : RelName × ℕ) (target source : Option EntryKind) → IsKind target (entry_at c (in_target w x)) → IsWhole target → IsWhole source
      → AllFit all_folders (in_target w x) (entry_at c (in_target w x)) (steps_changes c (both_files w x at target source))
  both_fit x at (Some (kind.File old)) (Some (kind.File new)) is whole whole_new =
      subst (λ o. AllFit all_folders (in_target w x) o (steps_changes c (both_files w x at (Some (kind.File old)) (Some (kind.File new))))) (sym is.1)
      (blocks-fit c (in_source w x) (in_target w x) (wants w at.0 at.1) is.0 old new is.2 whole whole_new)
  both_fit x at (Some (kind.File old)) (Some kind.Folder) is whole whole_new = tt
  both_fit x at (Some (kind.File old)) None is whole whole_new = tt
  both_fit x at (Some kind.Folder) source is whole whole_new = tt
  both_fit x at None source is whole whole_new = tt

  touched_fit : (x : Pair) (at : Option (RelName × ℕ)) → IsPaired c w x → relation_of x.path ≡ at → AllFit all_folders (in_target w x) (entry_at c (in_target w x)) (steps_changes c (touched_steps w x at))
  touched_fit x None paired is = tt
  touched_fit x (Some at) paired is = let whole = paired.blocks (ap is_some is) in both_fit x at x.target x.source paired.target whole.0 whole.1

  copied_fit : (x : Pair) (source : Option EntryKind) → (entry_at c (in_target w x) ≡ None) ⊎ ((bytes : List ℕ) × (entry_at c (in_target w x) ≡ Some (FileEntry bytes)))
      → AllFit all_folders (in_target w x) (entry_at c (in_target w x)) (steps_changes c (whole_step w x source))
  copied_fit x None how = tt
  copied_fit x (Some (kind.File size)) how = whole-fits c (in_source w x) (in_target w x) size how
  copied_fit x (Some kind.Folder) how = tt

  there : (x : Pair) → IsPaired c w x → (x.target ≡ None) ⊎ ((old : ℕ) × (x.target ≡ Some (kind.File old))) → (entry_at c (in_target w x) ≡ None) ⊎ ((bytes : List ℕ) × (entry_at c (in_target w x) ≡ Some (FileEntry bytes)))
  there x paired (inl none) = inl (kind_none x.target (entry_at c (in_target w x)) paired.target none)
  there x paired (inr (old, file)) = let is = subst (λ k. IsKind k (entry_at c (in_target w x))) file paired.target in inr (is.0, is.1)

  file_fit : (x : Pair) (a : Action) → IsPaired c w x → Acts x.path a x.target x.source → AllFit all_folders (in_target w x) (entry_at c (in_target w x)) (steps_changes c (file_steps w x a))
  file_fit x action.Nothing paired known = touched_fit x (relation_of x.path) paired refl
  file_fit x action.MakeFolder paired known = tt
  file_fit x action.Copy paired known = copied_fit x x.source (there x paired known.2.2)
  file_fit x action.Tail paired known = touched_fit x (relation_of x.path) paired refl
  file_fit x action.Cut paired known = touched_fit x (relation_of x.path) paired refl
  file_fit x action.Remove paired known = tt
  file_fit x action.KindsDiffer paired known = tt

  filling_is : (xs changes : List Change) → filling xs ≡ Fills changes → xs ≡ changes
  filling_is [] changes e = absurd (cc e)
  filling_is (x ∷ xs) changes e = cc e

  doing_is : (x : Pair) (a : Action) (changes : List Change) → doing_by c w x a ≡ Fills changes → steps_changes c (file_steps w x a) ≡ changes
  doing_is x action.Nothing changes e = filling_is (steps_changes c (file_steps w x action.Nothing)) changes e
  doing_is x action.MakeFolder changes e = absurd (cc e)
  doing_is x action.Copy changes e = filling_is (steps_changes c (file_steps w x action.Copy)) changes e
  doing_is x action.Tail changes e = filling_is (steps_changes c (file_steps w x action.Tail)) changes e
  doing_is x action.Cut changes e = filling_is (steps_changes c (file_steps w x action.Cut)) changes e
  doing_is x action.Remove changes e = absurd (cc e)
  doing_is x action.KindsDiffer changes e = absurd (cc e)

module _ (c : Contents) (w : Between) (all : List Pair) (sides : Sides c w all) where
  abbrev items : List Item
  items = items_of c w all

  -- what stands on either side lies in a folder
  pub target_up : (x : Pair) (e : Ended x.path.parts) → IsPaired c w x → is_some x.target ≡ true → is_folder (entry_at c (below w.target e.front)) ≡ true
  target_up x e paired some =
      above-folder c w.target e.front e.last sides.tree (ap (λ p. is_some (entry_at c (below w.target p))) (sym e.is) ∙ kind_there x.target (entry_at c (in_target w x)) paired.target some)

  source_there : (x : Pair) (e : Ended x.path.parts) → IsPaired c w x → is_some x.source ≡ true → is_some (entry_at c (below w.source (e.front ++ e.last ∷ []))) ≡ true
  source_there x e paired some = ap (λ p. is_some (entry_at c (below w.source p))) (sym e.is) ∙ kind_there x.source (entry_at c (in_source w x)) paired.source some

  pub source_up : (x : Pair) (e : Ended x.path.parts) → IsPaired c w x → is_some x.source ≡ true → is_folder (entry_at c (below w.source e.front)) ≡ true
  source_up x e paired some = above-folder c w.source e.front e.last sides.tree (source_there x e paired some)

  -- the folder of a file that is filled stands, or is made
  up_of : (x : Pair) (e : Ended x.path.parts) → IsPaired c w x → is_filling (doing_of c w x) ≡ true → FileKinds x.target x.source
      → (is_folder (entry_at c (below w.target e.front)) ≡ true) ⊎ (makes_at (below w.target e.front) items ≡ true)
  up_of x e paired fills (source, inr (old, file)) = inl (target_up x e paired (ap is_some file))
  up_of x e paired fills (source, inl none) =
      let free = new_ruled c w x (action_of x) (acts x.path x.target x.source) none fills in
      up-stands c w all sides e.front e.last x.path (whole-path c w all sides x e paired) free.1 (source_there x e paired (ap is_some source.1))

  filled_of : (x : Pair) → IsPaired c w x → (changes : List Change) → doing_of c w x ≡ Fills changes → Filled (entry_at c) items (in_target w x) changes
  filled_of x paired changes is =
      let e = front-of c w all sides x paired in
      let fills : is_filling (doing_of c w x) ≡ true = ap is_filling is in
      let kinds = fills_kinds c w x (action_of x) (acts x.path x.target x.source) fills in
      let same = doing_is c w x (action_of x) changes is in
      let up = parent-front c w all sides x e in
      record {
        deep = deep_in w.target.parts x.path.parts paired.deep;
        own = ap (list_all (is_own (in_target w x))) (sym same) ∙ file_own c w x (action_of x);
        unmade = own-doing c w all sides x is_making paired (ap is_making is);
        up = subst (λ p. (is_folder (entry_at c p) ≡ true) ⊎ (makes_at p items ≡ true)) (sym up) (up_of x e paired fills kinds);
        up_unfilled = ap (λ p. fills_at p items) up ∙ up-unfilled c w all sides e.front (inl (source_up x e paired (ap is_some kinds.0.1)));
        fits = subst (AllFit all_folders (in_target w x) (entry_at c (in_target w x))) same (file_fit c w x (action_of x) paired (acts x.path x.target x.source));
      }

  fits_by : (path : PathValue) (d : Doing) → ((changes : List Change) → d ≡ Fills changes → Filled (entry_at c) items path changes) → FileFits (entry_at c) items path d
  fits_by path Makes each = tt
  fits_by path (Fills changes) each = each changes refl
  fits_by path Clears each = tt
  fits_by path Leaves each = tt

  files_from : (xs : List Pair) → AllPaired c w xs → FilesFit (entry_at c) items (items_of c w xs)
  files_from [] paired = tt
  files_from (x ∷ xs) paired = (fits_by (in_target w x) (doing_of c w x) (filled_of x paired.0), files_from xs paired.1)

  pub sides-fit : ItemsFit (entry_at c) items
  sides-fit = record {
    apart = items-apart c w all sides.turn sides.paired;
    folders = sides-folders c w all sides;
    files = files_from all sides.paired;
    removals = sides-removals c w all sides;
  }

  -- no change of the steps is refused in its turn
  pub steps-unrefused : first_refusal c (steps_changes c (steps_of w all)) ≡ None
  steps-unrefused = ap (first_refusal c) (sym (steps-are c w all)) ∙ jobs-unrefused c (entry_at c) (all_jobs items) (λ q. refl) (items-fit (entry_at c) items sides-fit)

  -- and what stands then
  pub steps-leave : (q : PathValue) → entry_at (all_changed c (steps_changes c (steps_of w all))) q ≡ left_at (entry_at c) items q
  steps-leave q =
      ap (λ xs. entry_at (all_changed c xs) q) (sym (steps-are c w all))
      ∙ jobs-leave c (entry_at c) (all_jobs items) (λ r. refl) (items-fit (entry_at c) items sides-fit) q
      ∙ items-leave (entry_at c) items sides-fit q
