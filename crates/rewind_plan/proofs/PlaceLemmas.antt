-- Where two clusters were walked and paired, folders are made in folders that stand, and what is removed holds nothing.
use Rattle.std.proofs.Common.{◌≡◌, ◌⊎◌, ℕ, ◌==◌, Bool, true, false, ◌||◌, ◌&&◌, cond, List, [], ◌∷◌, ◌++◌, length, Option, None, Some, is_some, inl, inr, refl, sym, ap, ◌∙◌, subst, append_assoc, true≢false, arith, rules}
use Rattle.std.proofs.lemmas.List.{append-nil}
use Rattle.std.specs.List.{list_any}
use Rattle.cluster_tree.specs.PathValue.{PathValue, below, path_of}
use Rattle.cluster_tree.specs.PathOrder.{path_eq}
use Rattle.cluster_tree.specs.Contents.{Contents, Entry, FolderEntry, entry_at, is_folder, parent}
use Rattle.cluster_tree.proofs.OrderLemmas.{path_eq-other, path_eq-own, path_eq-same, same_path}
use Rattle.file_walk.specs.Actions.{action_at, by_kinds, is_kept}
use Rattle.file_walk.specs.Excluded.{is_excluded}
use Rattle.file_walk.specs.declared.action.Action.TheVariants as action
use Rattle.file_walk.specs.declared.entry.EntryKind.{EntryKind}
use Rattle.file_walk.specs.declared.entry.EntryKind.TheVariants as kind
use Rattle.file_walk.specs.declared.pair.Pair.{Pair}
use Rattle.file_walk.proofs.ExcludedLemmas.{excluded_more}
use Rattle.rewind_plan.proofs.Jobs.{Standing, is_plain}
use Rattle.rewind_plan.specs.Planned.{Between, action_of, in_source, in_target}
use Rattle.rewind_plan.specs.Sides.{AllPaired, AreInTurn, IsKind, IsPaired, Sides, is_at}
use Rattle.rewind_plan.proofs.FitLemmas.{Acts, acts, at_parts, clearing_is, doing_of, excluded-goes, fills_kinds, here_items, making_is, new_ruled, none_doing, ruled-at, some_doing}
use Rattle.rewind_plan.proofs.Items.{Clears, Doing, Fills, Item, Leaves, Makes, clears_at, here, is_clearing, is_making, makes_at}
use Rattle.rewind_plan.proofs.FolderItems.{FolderFits, FoldersFit, any_both, none_here, with_folders}
use Rattle.rewind_plan.proofs.FileItems.{fills_at, is_filling, filled_by, unfilled, with_files}
use Rattle.rewind_plan.proofs.RemovalItems.{RemovalFits, RemovalsFit}
use Rattle.rewind_plan.proofs.JobLemmas.{parent-other}
use Rattle.rewind_plan.proofs.KeptLemmas.{kept-open}
use Rattle.rewind_plan.proofs.PairLemmas.{doing_by, item_of, items_of}
use Rattle.rewind_plan.proofs.SideLemmas.{Ended, above-folder, below-same, child-is, ended, parent-of, path-is, same-pair, some_left}
use Rattle.rewind_plan.proofs.KindLemmas.{or_right, or_first, folder_kind, kind_folder, kind_none, none_kind, kind_there, there_kind, kind_plain, some_eq, deep_in, items_both}

module _ (c : Contents) (w : Between) (all : List Pair) (sides : Sides c w all) where
  abbrev items : List Item
  items = items_of c w all

  -- what a pair at a place has there
  pub parts_at : (y : Pair) (parts : List (List ℕ)) → below w.target parts ≡ in_target w y → y.path.parts ≡ parts
  parts_at y parts e = sym (below-same w.target parts y.path.parts e)

  pub target_at : (y : Pair) (parts : List (List ℕ)) → IsPaired c w y → below w.target parts ≡ in_target w y → IsKind y.target (entry_at c (below w.target parts))
  target_at y parts paired e = subst (λ p. IsKind y.target (entry_at c (below w.target p))) (parts_at y parts e) paired.target

  pub source_at : (y : Pair) (parts : List (List ℕ)) → IsPaired c w y → below w.target parts ≡ in_target w y → IsKind y.source (entry_at c (below w.source parts))
  source_at y parts paired e = subst (λ p. IsKind y.source (entry_at c (below w.source p))) (parts_at y parts e) paired.source

  pub path_at : (y : Pair) (parts : List (List ℕ)) → IsPaired c w y → below w.target parts ≡ in_target w y → path_of false parts ≡ y.path
  path_at y parts paired e = ap (path_of false) (sym (parts_at y parts e)) ∙ path-is y paired.relative

  -- ---- the folder of what the source has and a rewind copies

  front_open : (y : Pair) (front : List (List ℕ)) (last : List ℕ) (path : PathValue) → IsPaired c w y → below w.target front ≡ in_target w y → path_of false (front ++ last ∷ []) ≡ path → is_excluded path ≡ false → is_excluded y.path ≡ false
  front_open y front last path paired e is free = by (is_excluded y.path) refl
    where
      by : (b : Bool) → is_excluded y.path ≡ b → b ≡ false
      by false h = refl
      by true h = absurd (true≢false (sym (excluded_more y.path (last ∷ []) h)
          ∙ ap is_excluded (same_path (below y.path (last ∷ [])) (path_of false (front ++ last ∷ [])) paired.relative (ap (λ p. p ++ last ∷ []) (parts_at y front e)) ∙ is) ∙ free))

  front_loose : (y : Pair) (front : List (List ℕ)) → IsPaired c w y → below w.target front ≡ in_target w y → is_folder (entry_at c (below w.source front)) ≡ true → is_kept y.path ≡ false
  front_loose y front paired e folder = by (is_kept y.path) refl
    where
      by : (b : Bool) → is_kept y.path ≡ b → b ≡ false
      by false h = refl
      by true h = absurd (true≢false (sym folder ∙ sides.kept_source front (ap is_kept (path_at y front paired e) ∙ h)))

  makes_front : (y : Pair) (front : List (List ℕ)) (last : List ℕ) (path : PathValue) → IsPaired c w y → below w.target front ≡ in_target w y → path_of false (front ++ last ∷ []) ≡ path → is_excluded path ≡ false
      → is_folder (entry_at c (below w.source front)) ≡ true → is_folder (entry_at c (below w.target front)) ≡ false → is_making (doing_of c w y) ≡ true
  makes_front y front last path paired e is free folder none =
      ap (λ a. is_making (doing_by c w y a))
      (ruled-at y.path y.target y.source (front_loose y front paired e folder) (front_open y front last path paired e is free)
      ∙ by y.target y.source refl refl (target_at y front paired e) (folder_kind y.source (entry_at c (below w.source front)) (source_at y front paired e) folder))
    where
      by : (t s : Option EntryKind) → y.target ≡ t → y.source ≡ s → IsKind y.target (entry_at c (below w.target front)) → y.source ≡ Some kind.Folder → by_kinds y.path t s ≡ action.MakeFolder
      by None None et es k f = absurd (cc (sym f ∙ es))
      by None (Some (kind.File size)) et es k f = absurd (cc (sym f ∙ es))
      by None (Some kind.Folder) et es k f = refl
      by (Some kind.Folder) s et es k f = absurd (true≢false (sym (kind_folder y.target (entry_at c (below w.target front)) k et) ∙ none))
      by (Some (kind.File old)) None et es k f = absurd (cc (sym f ∙ es))
      by (Some (kind.File old)) (Some (kind.File new)) et es k f = absurd (cc (sym f ∙ es))
      by (Some (kind.File old)) (Some kind.Folder) et es k f =
          absurd (paired.agreed (ruled-at y.path y.target y.source (front_loose y front paired e folder) (front_open y front last path paired e is free) ∙ ap (λ t. by_kinds y.path t y.source) et ∙ ap (by_kinds y.path (Some (kind.File old))) es))

  -- it stands, or is made
  pub up-stands : (front : List (List ℕ)) (last : List ℕ) (path : PathValue) → path_of false (front ++ last ∷ []) ≡ path → is_excluded path ≡ false → is_some (entry_at c (below w.source (front ++ last ∷ []))) ≡ true
      → (is_folder (entry_at c (below w.target front)) ≡ true) ⊎ (makes_at (below w.target front) items ≡ true)
  up-stands [] last path is free there = inl (ap (λ p. is_folder (entry_at c p)) (same_path (below w.target []) w.target refl (append-nil w.target.parts)) ∙ sides.target_root)
  up-stands (p ∷ ps) last path is free there = by (is_folder (entry_at c (below w.target (p ∷ ps)))) refl
    where
      folder : is_folder (entry_at c (below w.source (p ∷ ps))) ≡ true
      folder = above-folder c w.source (p ∷ ps) last sides.tree there

      folder_some : (o : Option Entry) → is_folder o ≡ true → is_some o ≡ true
      folder_some None h = absurd (true≢false (sym h))
      folder_some (Some e) h = refl

      deep : length (p ∷ ps) == 0 ≡ false
      deep = some_first p ps
        where
          some_first : (x : List ℕ) (xs : List (List ℕ)) → length (x ∷ xs) == 0 ≡ false
          some_first x xs = grind (arith, rules)

      among : list_any (λ (y : Pair). path_eq (below w.target (p ∷ ps)) (in_target w y)) all ≡ true
      among = at_parts c w (p ∷ ps) all sides.paired ∙ sides.whole (p ∷ ps) deep (or_right (is_some (entry_at c (below w.target (p ∷ ps)))) (is_some (entry_at c (below w.source (p ∷ ps)))) (folder_some (entry_at c (below w.source (p ∷ ps))) folder))

      by : (b : Bool) → is_folder (entry_at c (below w.target (p ∷ ps))) ≡ b → (is_folder (entry_at c (below w.target (p ∷ ps))) ≡ true) ⊎ (makes_at (below w.target (p ∷ ps)) items ≡ true)
      by true h = inl h
      by false h = inr (some_doing c w is_making (below w.target (p ∷ ps)) all sides.paired among (λ y paired e. makes_front y (p ∷ ps) last path paired e is free folder h))

  -- ---- folders are made in their turn

  -- the folder of a pair's path
  pub front-of : (x : Pair) → IsPaired c w x → Ended x.path.parts
  front-of x paired = ended x.path.parts paired.deep

  pub parent-front : (x : Pair) (e : Ended x.path.parts) → parent (in_target w x) ≡ below w.target e.front
  parent-front x e = ap (λ p. parent (below w.target p)) e.is ∙ parent-of w.target e.front e.last

  pub whole-path : (x : Pair) (e : Ended x.path.parts) → IsPaired c w x → path_of false (e.front ++ e.last ∷ []) ≡ x.path
  whole-path x e paired = ap (path_of false) (sym e.is) ∙ path-is x paired.relative

  own_parent : (x : Pair) (e : Ended x.path.parts) → IsPaired c w x → path_of false e.front ≡ parent x.path
  own_parent x e paired =
      sym (parent-of (path_of false []) e.front e.last) ∙ ap parent (whole-path x e paired)

  -- what stands in the folder of a pair isn't it, nor behind it
  none_behind : (x : Pair) (xs : List Pair) (t : Doing → Bool) → IsPaired c w x → AllPaired c w xs → list_any (is_at (parent x.path)) xs ≡ false
      → list_any (λ (z : Item). path_eq (parent (in_target w x)) z.path && t z.doing) (item_of c w x ∷ items_of c w xs) ≡ false
  none_behind x xs t paired rest turn =
      let e = front-of x paired in
      let up = parent-front x e in
      let own : path_eq (parent (in_target w x)) (in_target w x) ≡ false = path_eq-other (parent (in_target w x)) (in_target w x) (parent-other (in_target w x) (deep_in w.target.parts x.path.parts paired.deep)) in
      let later : list_any (here (parent (in_target w x))) (items_of c w xs) ≡ false =
      here_items c w (parent (in_target w x)) xs ∙ ap (λ p. list_any (λ (y : Pair). path_eq p (in_target w y)) xs) up ∙ at_parts c w e.front xs rest ∙ ap (λ p. list_any (is_at p) xs) (own_parent x e paired) ∙ turn in
      ap (λ b. (b && t (doing_of c w x)) || list_any (λ (z : Item). path_eq (parent (in_target w x)) z.path && t z.doing) (items_of c w xs)) own
      ∙ none_here (parent (in_target w x)) (items_of c w xs) t later

  or_of : (a b : Bool) → b ≡ false → (a || b) ≡ true → a ≡ true
  or_of true b n h = refl
  or_of false b n h = absurd (true≢false (sym h ∙ n))

  before : (done xs : List Pair) (x : Pair) (t : Doing → Bool) (q : PathValue) → all ≡ done ++ x ∷ xs → list_any (λ (z : Item). path_eq q z.path && t z.doing) (item_of c w x ∷ items_of c w xs) ≡ false
      → list_any (λ (z : Item). path_eq q z.path && t z.doing) items ≡ true → list_any (λ (z : Item). path_eq q z.path && t z.doing) (items_of c w done) ≡ true
  before done xs x t q is none there =
      or_of _ _ none
      (sym (any_both (λ (z : Item). path_eq q z.path && t z.doing) (items_of c w done) (item_of c w x ∷ items_of c w xs))
      ∙ ap (list_any (λ (z : Item). path_eq q z.path && t z.doing)) (sym (items_both c w done (x ∷ xs)) ∙ sym (ap (items_of c w) is)) ∙ there)

  makes_acts : (x : Pair) → is_making (doing_of c w x) ≡ true → (is_excluded x.path ≡ false) × (x.target ≡ None) × (x.source ≡ Some kind.Folder)
  makes_acts x h =
      let known = subst (λ a. Acts x.path a x.target x.source) (making_is c w x (action_of x) h) (acts x.path x.target x.source) in
      (known.1, known.2, known.3)

  folder_fit : (s : Standing) (done : List Item) (path : PathValue) (d : Doing) → (is_making d ≡ true → FolderFits s done path Makes) → FolderFits s done path d
  folder_fit s done path Makes fits = fits refl
  folder_fit s done path (Fills changes) fits = tt
  folder_fit s done path Clears fits = tt
  folder_fit s done path Leaves fits = tt

  made_in : (done xs : List Pair) (x : Pair) → all ≡ done ++ x ∷ xs → IsPaired c w x → AllPaired c w xs → list_any (is_at (parent x.path)) xs ≡ false → is_making (doing_of c w x) ≡ true
      → FolderFits (entry_at c) (items_of c w done) (in_target w x) Makes
  made_in done xs x is paired rest turn h =
      let known = makes_acts x h in
      let e = front-of x paired in
      let there : is_some (entry_at c (below w.source (e.front ++ e.last ∷ []))) ≡ true =
      ap (λ p. is_some (entry_at c (below w.source p))) (sym e.is) ∙ kind_there x.source (entry_at c (in_source w x)) paired.source (ap is_some known.2) in (
        deep_in w.target.parts x.path.parts paired.deep,
        kind_none x.target (entry_at c (in_target w x)) paired.target known.1,
        up e (up-stands e.front e.last x.path (whole-path x e paired) known.0 there),
      )
    where
      up : (e : Ended x.path.parts) → (is_folder (entry_at c (below w.target e.front)) ≡ true) ⊎ (makes_at (below w.target e.front) items ≡ true)
          → (is_folder (entry_at c (parent (in_target w x))) ≡ true) ⊎ (makes_at (parent (in_target w x)) (items_of c w done) ≡ true)
      up e (inl stands) = inl (ap (λ p. is_folder (entry_at c p)) (parent-front x e) ∙ stands)
      up e (inr made) = inr (before done xs x is_making (parent (in_target w x)) is (none_behind x xs is_making paired rest turn) (ap (λ p. makes_at p items) (parent-front x e) ∙ made))

  folders_from : (done xs : List Pair) → all ≡ done ++ xs → AllPaired c w xs → AreInTurn xs → FoldersFit (entry_at c) (items_of c w done) (items_of c w xs)
  folders_from done [] is paired turn = tt
  folders_from done (x ∷ xs) is paired turn = (
    folder_fit (entry_at c) (items_of c w done) (in_target w x) (doing_of c w x) (made_in done xs x is paired.0 paired.1 turn.1),
    subst (λ l. FoldersFit (entry_at c) l (items_of c w xs)) (items_both c w done (x ∷ [])) (folders_from (done ++ x ∷ []) xs (is ∙ sym (append_assoc done (x ∷ []) xs)) paired.1 turn.2),
  )

  pub sides-folders : FoldersFit (entry_at c) [] items
  sides-folders = folders_from [] all refl sides.paired sides.turn

  -- ---- the folder of a file isn't filled

  pub up-unfilled : (front : List (List ℕ)) → (is_folder (entry_at c (below w.source front)) ≡ true) ⊎ (is_folder (entry_at c (below w.target front)) ≡ true) → fills_at (below w.target front) items ≡ false
  up-unfilled front how = none_doing c w is_filling (below w.target front) all sides.paired (λ y paired e. by y paired e how (is_filling (doing_of c w y)) refl)
    where
      by : (y : Pair) → IsPaired c w y → below w.target front ≡ in_target w y → (is_folder (entry_at c (below w.source front)) ≡ true) ⊎ (is_folder (entry_at c (below w.target front)) ≡ true) → (b : Bool) → is_filling (doing_of c w y) ≡ b → b ≡ false
      by y paired e how false is = refl
      by y paired e (inl folder) true is =
          let known = fills_kinds c w y (action_of y) (acts y.path y.target y.source) is in
          absurd (cc (sym (folder_kind y.source (entry_at c (below w.source front)) (source_at y front paired e) folder) ∙ known.0.1))
      by y paired e (inr folder) true is =
          let known = fills_kinds c w y (action_of y) (acts y.path y.target y.source) is in
          absurd (no_folder known.1 (folder_kind y.target (entry_at c (below w.target front)) (target_at y front paired e) folder))
        where
          no_folder : (y.target ≡ None) ⊎ ((old : ℕ) × (y.target ≡ Some (kind.File old))) → y.target ≡ Some kind.Folder → ⊥
          no_folder (inl none) f = cc (sym none ∙ f)
          no_folder (inr (old, file)) f = cc (sym file ∙ f)

  -- at a pair's own place nothing else is done
  pub own-doing : (x : Pair) (t : Doing → Bool) → IsPaired c w x → t (doing_of c w x) ≡ false → list_any (λ (z : Item). path_eq (in_target w x) z.path && t z.doing) items ≡ false
  own-doing x t paired none = none_doing c w t (in_target w x) all sides.paired (λ y other e. ap (λ p. t (doing_of c w p)) (sym (same-pair c w x y paired other e)) ∙ none)

  -- ---- what is removed

  pub plain_state : (q : PathValue) → fills_at q items ≡ false → makes_at q items ≡ false → with_files (entry_at c) items items q ≡ entry_at c q
  plain_state q unfills unmade =
      ap (λ o. filled_by o (entry_at c q) (with_folders (entry_at c) items q)) (unfilled q items unfills) ∙ ap (λ m. cond m (Some (FolderEntry false)) (entry_at c q)) unmade

  not_filling : (d : Doing) → is_clearing d ≡ true → is_filling d ≡ false
  not_filling Makes h = refl
  not_filling (Fills changes) h = absurd (true≢false (sym h))
  not_filling Clears h = refl
  not_filling Leaves h = refl

  not_making : (d : Doing) → is_clearing d ≡ true → is_making d ≡ false
  not_making Makes h = absurd (true≢false (sym h))
  not_making (Fills changes) h = refl
  not_making Clears h = refl
  not_making Leaves h = refl

  clears_acts : (x : Pair) → is_clearing (doing_of c w x) ≡ true → (is_kept x.path ≡ false) × (is_some x.target ≡ true) × ((is_excluded x.path ≡ true) ⊎ (x.source ≡ None))
  clears_acts x h = subst (λ a. Acts x.path a x.target x.source) (clearing_is c w x (action_of x) h) (acts x.path x.target x.source)

  -- what lies in what is excluded is excluded too
  child_excluded : (x y : Pair) (name : List ℕ) → IsPaired c w x → IsPaired c w y → below w.target (x.path.parts ++ name ∷ []) ≡ in_target w y → is_excluded x.path ≡ true → is_excluded y.path ≡ true
  child_excluded x y name paired other e h =
      ap is_excluded (sym (same_path (below x.path (name ∷ [])) y.path (paired.relative ∙ sym other.relative) (sym (parts_at y (x.path.parts ++ name ∷ []) e)))) ∙ excluded_more x.path (name ∷ []) h

  -- the source has nothing in what it hasn't
  child_absent : (x y : Pair) (name : List ℕ) → IsPaired c w x → IsPaired c w y → below w.target (x.path.parts ++ name ∷ []) ≡ in_target w y → x.source ≡ None → y.source ≡ None
  child_absent x y name paired other e none = none_kind y.source (entry_at c (below w.source (x.path.parts ++ name ∷ []))) (source_at y (x.path.parts ++ name ∷ []) other e) (by (entry_at c (below w.source (x.path.parts ++ name ∷ []))) refl)
    where
      by : (o : Option Entry) → entry_at c (below w.source (x.path.parts ++ name ∷ [])) ≡ o → o ≡ None
      by None is = refl
      by (Some entry) is =
          let folder = above-folder c w.source x.path.parts name sides.tree (ap is_some is) in
          absurd (true≢false (sym folder ∙ ap is_folder (kind_none x.source (entry_at c (in_source w x)) paired.source none)))

  -- nothing new comes into it
  nothing_new : (x y : Pair) (name : List ℕ) → IsPaired c w x → is_clearing (doing_of c w x) ≡ true → IsPaired c w y → below w.target (x.path.parts ++ name ∷ []) ≡ in_target w y
      → (is_excluded y.path ≡ false) → is_some y.source ≡ true → ⊥
  nothing_new x y name paired clears other e free some = by (clears_acts x clears).2
    where
      by : (is_excluded x.path ≡ true) ⊎ (x.source ≡ None) → ⊥
      by (inl h) = true≢false (sym (child_excluded x y name paired other e h) ∙ free)
      by (inr none) = true≢false (sym some ∙ ap is_some (child_absent x y name paired other e none))

  unfilled_child : (x : Pair) (name : List ℕ) → IsPaired c w x → is_clearing (doing_of c w x) ≡ true → entry_at c (below w.target (x.path.parts ++ name ∷ [])) ≡ None
      → (y : Pair) → IsPaired c w y → below w.target (x.path.parts ++ name ∷ []) ≡ in_target w y → is_filling (doing_of c w y) ≡ false
  unfilled_child x name paired clears none y other e = by (is_filling (doing_of c w y)) refl
    where
      by : (b : Bool) → is_filling (doing_of c w y) ≡ b → b ≡ false
      by false is = refl
      by true is =
          let absent : y.target ≡ None = none_kind y.target (entry_at c (below w.target (x.path.parts ++ name ∷ []))) (target_at y (x.path.parts ++ name ∷ []) other e) none in
          let known = fills_kinds c w y (action_of y) (acts y.path y.target y.source) is in
          let ruled = new_ruled c w y (action_of y) (acts y.path y.target y.source) absent is in
          absurd (nothing_new x y name paired clears other e ruled.1 (ap is_some known.0.1))

  unmade_child : (x : Pair) (name : List ℕ) → IsPaired c w x → is_clearing (doing_of c w x) ≡ true
      → (y : Pair) → IsPaired c w y → below w.target (x.path.parts ++ name ∷ []) ≡ in_target w y → is_making (doing_of c w y) ≡ false
  unmade_child x name paired clears y other e = by (is_making (doing_of c w y)) refl
    where
      by : (b : Bool) → is_making (doing_of c w y) ≡ b → b ≡ false
      by false is = refl
      by true is =
          let known = makes_acts y is in
          absurd (nothing_new x y name paired clears other e known.0 (ap is_some known.2))

  -- what the target has in it goes too
  cleared_child : (x : Pair) (name : List ℕ) → IsPaired c w x → is_clearing (doing_of c w x) ≡ true → is_some (entry_at c (below w.target (x.path.parts ++ name ∷ []))) ≡ true
      → (y : Pair) → IsPaired c w y → below w.target (x.path.parts ++ name ∷ []) ≡ in_target w y → is_clearing (doing_of c w y) ≡ true
  cleared_child x name paired clears there y other e =
      let known = clears_acts x clears in
      let some = some_eq y.target (there_kind y.target (entry_at c (below w.target (x.path.parts ++ name ∷ []))) (target_at y (x.path.parts ++ name ∷ []) other e) there) in
      ap (λ a. is_clearing (doing_by c w y a)) (ap (λ t. action_at y.path t y.source) some.1 ∙ by known.2 some.0 (is_excluded y.path) refl)
    where
      path : path_of false (x.path.parts ++ name ∷ []) ≡ y.path
      path = path_at y (x.path.parts ++ name ∷ []) other e

      loose : is_kept y.path ≡ false
      loose = decide (is_kept y.path) refl
        where
          decide : (b : Bool) → is_kept y.path ≡ b → b ≡ false
          decide false h = refl
          decide true h =
              let kept : is_kept (path_of false (x.path.parts ++ name ∷ [])) ≡ true = ap is_kept path ∙ h in
              let folder = above-folder c w.source x.path.parts name sides.tree (sides.kept_alike (x.path.parts ++ name ∷ []) kept ∙ there) in
              absurd (not_there (clears_acts x clears).2 folder kept)
            where
              not_there : (is_excluded x.path ≡ true) ⊎ (x.source ≡ None) → is_folder (entry_at c (in_source w x)) ≡ true → is_kept (path_of false (x.path.parts ++ name ∷ [])) ≡ true → ⊥
              not_there (inl h) folder kept = true≢false (sym h ∙ ap is_excluded (sym (path-is x paired.relative)) ∙ kept-open x.path.parts name paired.deep kept)
              not_there (inr none) folder kept = true≢false (sym folder ∙ ap is_folder (kind_none x.source (entry_at c (in_source w x)) paired.source none))

      by : (is_excluded x.path ≡ true) ⊎ (x.source ≡ None) → (k : EntryKind) → (b : Bool) → is_excluded y.path ≡ b → action_at y.path (Some k) y.source ≡ action.Remove
      by how k true h = excluded-goes y.path k y.source loose h
      by (inl h) k false free = absurd (true≢false (sym (child_excluded x y name paired other e h) ∙ free))
      by (inr none) k false free = ruled-at y.path (Some k) y.source loose free ∙ ap (by_kinds y.path (Some k)) (child_absent x y name paired other e none)

  -- what stands before something lies not in it
  none_before : (done : List Pair) (x : Pair) (xs : List Pair) → AreInTurn (done ++ x ∷ xs) → (p : PathValue) → parent p ≡ x.path → list_any (is_at p) done ≡ false
  none_before [] x xs turn p up = refl
  none_before (y ∷ ys) x xs turn p up = by (path_eq p y.path) refl (none_before ys x xs turn.2 p up)
    where
      found : (zs : List Pair) → list_any (is_at x.path) (zs ++ x ∷ xs) ≡ true
      found [] = or_first (path_eq x.path x.path) (list_any (is_at x.path) xs) (path_eq-own x.path)
      found (z ∷ zs) = or_right (path_eq x.path z.path) (list_any (is_at x.path) (zs ++ x ∷ xs)) (found zs)

      by : (b : Bool) → path_eq p y.path ≡ b → list_any (is_at p) ys ≡ false → (b || list_any (is_at p) ys) ≡ false
      by false is rest = rest
      by true is rest =
          absurd (true≢false (sym (found ys) ∙ ap (λ q. list_any (is_at q) (ys ++ x ∷ xs)) (sym up ∙ ap parent (path_eq-same p y.path is)) ∙ turn.1))

  all_front : (done xs : List Pair) → all ≡ done ++ xs → AllPaired c w done
  all_front done xs is = front_paired done xs (subst (AllPaired c w) is sides.paired)
    where
      front_paired : (ys zs : List Pair) → AllPaired c w (ys ++ zs) → AllPaired c w ys
      front_paired [] zs paired = tt
      front_paired (y ∷ ys) zs paired = (paired.0, front_paired ys zs paired.1)

  abbrev state : Standing
  state = with_files (entry_at c) items items

  -- a path right in what goes: nothing is there, or it goes before
  child_gone : (done xs : List Pair) (x : Pair) → all ≡ done ++ x ∷ xs → IsPaired c w x → is_clearing (doing_of c w x) ≡ true → (name : List ℕ)
      → (state (below w.target (x.path.parts ++ name ∷ [])) ≡ None) ⊎ (clears_at (below w.target (x.path.parts ++ name ∷ [])) (items_of c w xs) ≡ true)
  child_gone done xs x is paired clears name = by (entry_at c q) refl
    where
      q : PathValue
      q = below w.target (x.path.parts ++ name ∷ [])

      up : parent (path_of false (x.path.parts ++ name ∷ [])) ≡ x.path
      up = parent-of (path_of false []) x.path.parts name ∙ path-is x paired.relative

      off_own : path_eq q (in_target w x) ≡ false
      off_own = path_eq-other q (in_target w x) (λ e. parent-other q (deep_in w.target.parts (x.path.parts ++ name ∷ []) (some_left x.path.parts name)) (parent-of w.target x.path.parts name ∙ sym e))

      off_done : list_any (here q) (items_of c w done) ≡ false
      off_done = here_items c w q done ∙ at_parts c w (x.path.parts ++ name ∷ []) done (all_front done (x ∷ xs) is) ∙ none_before done x xs (subst AreInTurn is sides.turn) (path_of false (x.path.parts ++ name ∷ [])) up

      apart : clears_at q items ≡ true → clears_at q (items_of c w xs) ≡ true
      apart there =
          let split = sym (ap (clears_at q) (ap (items_of c w) is ∙ items_both c w done (x ∷ xs))) ∙ there in
          let parts = sym (any_both (λ (z : Item). path_eq q z.path && is_clearing z.doing) (items_of c w done) (item_of c w x ∷ items_of c w xs)) ∙ split in
          rest (clears_at q (items_of c w done)) (path_eq q (in_target w x)) (is_clearing (doing_of c w x)) (clears_at q (items_of c w xs)) (none_here q (items_of c w done) is_clearing off_done) off_own parts
        where
          rest : (a b d e : Bool) → a ≡ false → b ≡ false → (a || ((b && d) || e)) ≡ true → e ≡ true
          rest true b d e h k l = absurd (true≢false h)
          rest false true d e h k l = absurd (true≢false k)
          rest false false d e h k l = l

      by : (o : Option Entry) → entry_at c q ≡ o → (state q ≡ None) ⊎ (clears_at q (items_of c w xs) ≡ true)
      by None none =
          inl (plain_state q (none_doing c w is_filling q all sides.paired (λ y other e. unfilled_child x name paired clears none y other e))
          (none_doing c w is_making q all sides.paired (λ y other e. unmade_child x name paired clears y other e)) ∙ none)
      by (Some entry) some =
          let among = at_parts c w (x.path.parts ++ name ∷ []) all sides.paired ∙ sides.whole (x.path.parts ++ name ∷ []) (some_left x.path.parts name) (or_first (is_some (entry_at c q)) (is_some (entry_at c (below w.source (x.path.parts ++ name ∷ [])))) (ap is_some some)) in
          inr (apart (some_doing c w is_clearing q all sides.paired among (λ y other e. cleared_child x name paired clears (ap is_some some) y other e)))

  removal_fit : (later : List Item) (path : PathValue) (d : Doing) → (is_clearing d ≡ true → RemovalFits state later path Clears) → RemovalFits state later path d
  removal_fit later path Makes fits = tt
  removal_fit later path (Fills changes) fits = tt
  removal_fit later path Clears fits = fits refl
  removal_fit later path Leaves fits = tt

  cleared_in : (done xs : List Pair) (x : Pair) → all ≡ done ++ x ∷ xs → IsPaired c w x → is_clearing (doing_of c w x) ≡ true → RemovalFits state (items_of c w xs) (in_target w x) Clears
  cleared_in done xs x is paired clears = (
    deep_in w.target.parts x.path.parts paired.deep,
    ap is_plain (plain_state (in_target w x) (own-doing x is_filling paired (not_filling (doing_of c w x) clears)) (own-doing x is_making paired (not_making (doing_of c w x) clears)))
        ∙ kind_plain x.target (entry_at c (in_target w x)) paired.target (clears_acts x clears).1,
    λ q child. let one = child-is w.target x.path.parts q child in
        subst (λ p. (state p ≡ None) ⊎ (clears_at p (items_of c w xs) ≡ true)) (sym one.1) (child_gone done xs x is paired clears one.0),
  )

  removals_from : (done xs : List Pair) → all ≡ done ++ xs → AllPaired c w xs → RemovalsFit state (items_of c w xs)
  removals_from done [] is paired = tt
  removals_from done (x ∷ xs) is paired = (
    removal_fit (items_of c w xs) (in_target w x) (doing_of c w x) (cleared_in done xs x is paired.0),
    removals_from (done ++ x ∷ []) xs (is ∙ sym (append_assoc done (x ∷ []) xs)) paired.1,
  )

  pub sides-removals : RemovalsFit state items
  sides-removals = removals_from [] all refl sides.paired
