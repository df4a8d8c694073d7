-- The edits of files, over alike clusters.
use Rattle.std.proofs.Common.{◌≡◌, ◌⊎◌, ℕ, zero, suc, ◌+◌, ◌-◌, ◌<◌, ◌≤◌, Bool, true, false, ◌||◌, List, [], ◌∷◌, ◌++◌, length, take, Option, None, Some, Result, Ok, Err, is_some, inl, inr, ⊎_elim, refl, sym, ap, subst, ◌∙◌, true≢false, append-nil, append_assoc, arith}
use Rattle.std.specs.Prelude.{if◌then◌else◌}
use Rattle.std.proofs.lemmas.List.{length-append, length-take}
use Rattle.std.specs.FinMap.{get, remove}
use Rattle.cluster_tree.specs.Apart.{is_held}
use Rattle.cluster_tree.specs.Causes.{given}
use Rattle.cluster_tree.specs.Contents.{Contents, Entry, entry_at, or_root}
use Rattle.cluster_tree.specs.PathOrder.{path_eq}
use Rattle.cluster_tree.specs.PathValue.{PathValue, below, front}
use Rattle.cluster_tree.specs.declared.file_fault.FileFault.{FileFault}
use Rattle.cluster_tree.proofs.OrderLemmas.{path_eq-same, same_path}
use Rattle.cluster_tree.proofs.ContentsLemmas.{get-removed, get-removed_other}
use Rattle.file_edits.specs.Alike.{AlikeAnswers, AsDeep, IsShallow, SameAnswers}
use Rattle.file_edits.specs.Asking.{file_asked, folder_asked, names_asked, read_asked, size_asked}
use Rattle.file_edits.specs.Clearing.{cleared_by, emptied, entry_cleared, folder_cleared, in_turn, tree_removed}
use Rattle.file_edits.specs.Edits.{file_cut, file_edited, file_removed, folders_between, leads}
use Rattle.file_edits.proofs.AlikeLemmas.{cut-alike, edited-alike, names-alike, read-alike, removed-alike, size-same}
use Rattle.file_edits.proofs.ClearAlikeLemmas.{tree-answers}
use Rattle.file_edits.proofs.ClearLemmas.{Fewer, clears_entry, held-above}
use Rattle.file_edits.proofs.CutLemmas.{cut-elsewhere}
use Rattle.file_edits.proofs.EditLemmas.{same_or_other}
use Rattle.file_edits.proofs.LawLemmas.{edited-elsewhere, removed-elsewhere}
use Rattle.alike_clusters.specs.Clusters.{AlikeClusters, AreLeftAlike, is_alike}
use Rattle.alike_clusters.proofs.LikeLemmas.{Keeps, keeps-take, like-edited, like-none}

-- ---- a folder that is removed with all that it holds leaves no path that wasn't there

fewer_on : (root : PathValue) (c d e : Contents) → Fewer root c d → Fewer root d e → Fewer root c e
fewer_on root c d e one two q = ⊎_elim (λ same. ⊎_elim (λ first. inl (same ∙ first)) (λ gone. inr (gone.0, same ∙ gone.1)) (one q)) (λ gone. inr gone) (two q)

-- what is there was there, but for nothing that no folder needs
abbrev pub Shrinks : Contents → Contents → Type 0
Shrinks c d = (q : PathValue) → is_some (get d q) ≡ true → is_some (get c q) ≡ true

shrinks_on : (c d e : Contents) → Shrinks c d → Shrinks d e → Shrinks c e
shrinks_on c d e one two q there = one q (two q there)

fewer_shrinks : (root : PathValue) (c d : Contents) → Fewer root c d → Shrinks c d
fewer_shrinks root c d fewer q there = ⊎_elim (λ same. ap is_some (sym same) ∙ there) (λ gone. absurd (true≢false (sym there ∙ ap is_some gone.1))) (fewer q)

turn_shrinks : (step : List ℕ → Contents → Result Contents FileFault) (names : List (List ℕ)) (c d : Contents) → ((name : List ℕ) (e f : Contents) → step name e ≡ Ok f → Shrinks e f) → in_turn step names c ≡ Ok d → Shrinks c d
unfolding in_turn
turn_shrinks step [] c d each done = λ q there. let same : c ≡ d = cc in ap (λ x. is_some (get x q)) same ∙ there
turn_shrinks step (name ∷ names) c d each done =
    elim (step name c) as (λ r. step name c ≡ r → given r (in_turn step names) ≡ Ok d → Shrinks c d) [
      | Ok e ↦ λ is rest. shrinks_on c e d (each name c e is) (turn_shrinks step names e d each rest)
      | Err f ↦ λ is rest. absurd cc
    ] refl done

removed_shrinks : (c : Contents) (path : PathValue) → Shrinks c (remove c path)
removed_shrinks c path q there = same_or_other q path
    (λ same. absurd (true≢false (sym there ∙ ap (λ p. is_some (get (remove c path) p)) same ∙ ap is_some (get-removed c path))))
    (λ other. ap is_some (sym (get-removed_other c path q other)) ∙ there)

cleared_shrinks : (step : List ℕ → Contents → Result Contents FileFault) (folder : PathValue) (c d : Contents) → ((name : List ℕ) (e f : Contents) → step name e ≡ Ok f → Shrinks e f) → cleared_by step folder c ≡ Ok d → Shrinks c d
cleared_shrinks step folder c d each done =
    elim (names_asked c folder (entry_at c folder)) as (λ r. given r (λ names. emptied step folder names c) ≡ Ok d → Shrinks c d) [
      | Ok names ↦ elim (in_turn step names c) as (λ r. in_turn step names c ≡ r → given r (λ d. Ok (remove d folder)) ≡ Ok d → Shrinks c d) [
        | Ok e ↦ λ turn rest.
            let same : remove e folder ≡ d = cc in
            subst (λ x. Shrinks c x) same (shrinks_on c e (remove e folder) (turn_shrinks step names c e each turn) (removed_shrinks e folder))
        | Err f ↦ λ turn rest. absurd cc
      ] refl
      | Err f ↦ λ rest. absurd cc
    ] done

tree_shrinks : (path : PathValue) (c d : Contents) → tree_removed path c ≡ Ok d → Shrinks c d
unfolding tree_removed
tree_shrinks path c d done =
    elim (folder_asked path (entry_at c path)) as (λ r. given r (λ there. if there then folder_cleared (64 - length path.parts) path c else Ok c) ≡ Ok d → Shrinks c d) [
      | Ok is ↦ elim is as (λ b. (if b then folder_cleared (64 - length path.parts) path c else Ok c) ≡ Ok d → Shrinks c d) [
        | true ↦ λ rest. cleared_shrinks (entry_cleared (64 - length path.parts) path) path c d
            (λ name e f one. fewer_shrinks (below path (name ∷ [])) e f (clears_entry (64 - length path.parts) path name e f one)) rest
        | false ↦ λ rest q there. let same : c ≡ d = cc in ap (λ x. is_some (get x q)) same ∙ there
      ]
      | Err f ↦ λ rest. absurd cc
    ] done

-- ---- no path becomes too deep

bare : (parts : List (List ℕ)) → is_some (or_root parts None) ≡ true → length parts ≤ 64
bare [] e = omega arith
bare (part ∷ parts) e = absurd (true≢false (sym e))

stands : (parts : List (List ℕ)) (o : Option Entry) → is_some o ≡ true → is_some (or_root parts o) ≡ true
stands parts None e = absurd (true≢false (sym e))
stands parts (Some v) e = refl

there_or_bare : (parts : List (List ℕ)) (o : Option Entry) → is_some (or_root parts o) ≡ true → (is_some o ≡ true) ⊎ (length parts ≤ 64)
there_or_bare parts None e = inr (bare parts e)
there_or_bare parts (Some v) e = inl refl

pub shrinks-shallow : (folder : PathValue) (c d : Contents) → Shrinks c d → IsShallow c folder → IsShallow d folder
shrinks-shallow folder c d shrinks shallow q held there = ⊎_elim
    (λ is. shallow q held (stands q.parts (get c q) (shrinks q is)))
    (λ few. few)
    (there_or_bare q.parts (get d q) there)

way_short : (count n : ℕ) (path q : PathValue) → leads count n path q ≡ true → length q.parts ≤ length path.parts
unfolding leads
way_short zero n path q is = let same : q ≡ path = path_eq-same q path is in omega (arith, ap (λ (p : PathValue). length p.parts) same)
way_short (suc count) n path q is = by (path_eq q (front n path)) refl (way_short count (n + 1) path q) is
  where
    by : (b : Bool) → path_eq q (front n path) ≡ b → (leads count (n + 1) path q ≡ true → length q.parts ≤ length path.parts) → (b || leads count (n + 1) path q) ≡ true → length q.parts ≤ length path.parts
    by true same more rest = omega (arith, ap (λ (p : PathValue). length p.parts) (path_eq-same q (front n path) same), length-take n path.parts)
    by false other more rest = more rest

module _ (root path : PathValue) (short : length path.parts ≤ 64) where
  edited_shallow : (edit : List ℕ → List ℕ) (c d : Contents) → file_edited root path edit c ≡ Ok d → IsShallow c root → IsShallow d root
  edited_shallow edit c d done shallow q held there = same_or_other q path
      (λ same. omega (arith, ap (λ (p : PathValue). length p.parts) same))
      (λ other. ⊎_elim
      (λ kept. shallow q held (ap is_some (sym kept) ∙ there))
      (λ made. omega (arith, way_short (folders_between root path) (length root.parts + 1) path q made.0))
      (edited-elsewhere root path edit c d q done other))

  removed_shallow : (c d : Contents) → file_removed path c ≡ Ok d → IsShallow c root → IsShallow d root
  removed_shallow c d done shallow q held there = same_or_other q path
      (λ same. omega (arith, ap (λ (p : PathValue). length p.parts) same))
      (λ other. shallow q held (ap is_some (sym (removed-elsewhere path c d q done other)) ∙ there))

  cut_shallow : (size : ℕ) (c d : Contents) → file_cut path size c ≡ Ok d → IsShallow c root → IsShallow d root
  cut_shallow size c d done shallow q held there = same_or_other q path
      (λ same. omega (arith, ap (λ (p : PathValue). length p.parts) same))
      (λ other. shallow q held (ap is_some (sym (cut-elsewhere path size c d q done other)) ∙ there))

-- ---- what lies below a folder lies below its root

pub held-front : (root : PathValue) (parts : List (List ℕ)) (q : PathValue) → is_held (below root parts) q ≡ true → is_held root q ≡ true
held-front root [] q held = ap (λ (p : PathValue). is_held p q) (sym (same_path (below root []) root refl (append-nil root.parts))) ∙ held
held-front root (part ∷ parts) q held =
    held-above root part q (held-front (below root (part ∷ [])) parts q
    (ap (λ (p : PathValue). is_held p q) (same_path (below (below root (part ∷ [])) parts) (below root (part ∷ parts)) refl (append_assoc root.parts (part ∷ []) parts)) ∙ held))

-- ---- one after another

module _ (root other : PathValue) where
  -- a path below either root, of one to three parts from there on
  pub record Lies (parts : List (List ℕ)) (p q : PathValue) : Type 0 where
    pub here : p ≡ below root parts
    pub there : q ≡ below other parts
    pub some : 0 < length parts
    pub few : length parts ≤ 3

module _ (per : ℕ) (root other : PathValue) where
  pub given-left : (r s : Result Contents FileFault) (next after : Contents → Result Contents FileFault) → AreLeftAlike per root other r s
      → ((c d : Contents) → AlikeClusters per c root d other → AreLeftAlike per root other (next c) (after d)) → AreLeftAlike per root other (given r next) (given s after)
  given-left (Ok c) (Ok d) next after left later = later c d left
  given-left (Ok c) (Err f) next after left later = absurd left
  given-left (Err e) (Ok d) next after left later = absurd left
  given-left (Err e) (Err f) next after left later = left

  -- the same was told of both
  pub told-left : {A : Type 0} (r s : Result A FileFault) (next after : A → Result Contents FileFault) → SameAnswers root other r s
      → ((a : A) → AreLeftAlike per root other (next a) (after a)) → AreLeftAlike per root other (given r next) (given s after)
  told-left (Ok a) (Ok b) next after same later = subst (λ x. AreLeftAlike per root other (next a) (after x)) same (later a)
  told-left (Ok a) (Err f) next after same later = absurd same
  told-left (Err e) (Ok b) next after same later = absurd same
  told-left (Err e) (Err f) next after same later = same

  pub told-same : {A B : Type 0} (r s : Result A FileFault) (next after : A → Result B FileFault) → SameAnswers root other r s
      → ((a : A) → SameAnswers root other (next a) (after a)) → SameAnswers root other (given r next) (given s after)
  told-same (Ok a) (Ok b) next after same later = subst (λ x. SameAnswers root other (next a) (after x)) same (later a)
  told-same (Ok a) (Err f) next after same later = absurd same
  told-same (Err e) (Ok b) next after same later = absurd same
  told-same (Err e) (Err f) next after same later = same

  pub turn-left : (step after : List ℕ → Contents → Result Contents FileFault)
      → ((name : List ℕ) (c d : Contents) → AlikeClusters per c root d other → AreLeftAlike per root other (step name c) (after name d))
      → (names : List (List ℕ)) (c d : Contents) → AlikeClusters per c root d other → AreLeftAlike per root other (in_turn step names c) (in_turn after names d)
  unfolding in_turn
  turn-left step after each [] c d both = both
  turn-left step after each (name ∷ names) c d both =
      given-left (step name c) (after name d) (in_turn step names) (in_turn after names) (each name c d both) (turn-left step after each names)

  -- ---- each edit

  left_of : (c d : Contents) (r s : Result Contents FileFault) → AlikeClusters per c root d other → AlikeAnswers (is_alike per) root other r s
      → ((e : Contents) → r ≡ Ok e → IsShallow c root → IsShallow e root) → ((f : Contents) → s ≡ Ok f → IsShallow d other → IsShallow f other) → AreLeftAlike per root other r s
  left_of c d (Ok e) (Ok f) both answers here there = record {
    alike = answers;
    deep = ⊎_elim (λ same. inl same) (λ two. inr (here e refl two.0, there f refl two.1)) both.deep;
    room = both.room;
    other_room = both.other_room;
  }
  left_of c d (Ok e) (Err g) both answers here there = absurd answers
  left_of c d (Err e) (Ok f) both answers here there = absurd answers
  left_of c d (Err e) (Err f) both answers here there = answers

  short_below : (at : PathValue) (parts : List (List ℕ)) → length at.parts ≤ 61 → length parts ≤ 3 → length (at.parts ++ parts) ≤ 64
  short_below at parts room few = omega (arith, length-append at.parts parts)

  -- files that are edited, each by its own edit, which keep alike files alike
  edited_left : (parts : List (List ℕ)) (edit after : List ℕ → List ℕ) (c d : Contents) → length parts ≤ 3
      → ((a b : List ℕ) → is_alike per parts a b ≡ true → is_alike per parts (edit a) (after b) ≡ true) → AlikeClusters per c root d other
      → AreLeftAlike per root other (file_edited root (below root parts) edit c) (file_edited other (below other parts) after d)
  edited_left parts edit after c d few edits both =
      left_of c d (file_edited root (below root parts) edit c) (file_edited other (below other parts) after d) both
      (edited-alike (is_alike per) root other parts edit after c d (like-none per parts) edits both.alike)
      (λ e done. edited_shallow root (below root parts) (short_below root parts both.room few) edit c e done)
      (λ f done. edited_shallow other (below other parts) (short_below other parts both.other_room few) after d f done)

  pub edited-left : (parts : List (List ℕ)) (p q : PathValue) (edit after : List ℕ → List ℕ) (c d : Contents) → Lies root other parts p q
      → ((a b : List ℕ) → is_alike per parts a b ≡ true → is_alike per parts (edit a) (after b) ≡ true) → AlikeClusters per c root d other
      → AreLeftAlike per root other (file_edited root p edit c) (file_edited other q after d)
  edited-left parts p q edit after c d lies edits both =
      subst (λ x. AreLeftAlike per root other (file_edited root x edit c) (file_edited other q after d)) (sym lies.here)
      (subst (λ x. AreLeftAlike per root other (file_edited root (below root parts) edit c) (file_edited other x after d)) (sym lies.there)
      (edited_left parts edit after c d lies.few edits both))

  -- by one edit, whose result is as long in both
  pub sized-left : (parts : List (List ℕ)) (p q : PathValue) (edit : List ℕ → List ℕ) (c d : Contents) → Lies root other parts p q → Keeps per parts edit → AlikeClusters per c root d other
      → AreLeftAlike per root other (file_edited root p edit c) (file_edited other q edit d)
  sized-left parts p q edit c d lies keeps both = edited-left parts p q edit edit c d lies (like-edited per parts edit keeps) both

  removed_left : (parts : List (List ℕ)) (c d : Contents) → 0 < length parts → length parts ≤ 3 → AlikeClusters per c root d other
      → AreLeftAlike per root other (file_removed (below root parts) c) (file_removed (below other parts) d)
  removed_left parts c d some few both =
      left_of c d (file_removed (below root parts) c) (file_removed (below other parts) d) both
      (removed-alike (is_alike per) root other parts c d some both.alike)
      (λ e done. removed_shallow root (below root parts) (short_below root parts both.room few) c e done)
      (λ f done. removed_shallow other (below other parts) (short_below other parts both.other_room few) d f done)

  pub removed-left : (parts : List (List ℕ)) (p q : PathValue) (c d : Contents) → Lies root other parts p q → AlikeClusters per c root d other
      → AreLeftAlike per root other (file_removed p c) (file_removed q d)
  removed-left parts p q c d lies both =
      subst (λ x. AreLeftAlike per root other (file_removed x c) (file_removed q d)) (sym lies.here)
      (subst (λ x. AreLeftAlike per root other (file_removed (below root parts) c) (file_removed x d)) (sym lies.there)
      (removed_left parts c d lies.some lies.few both))

  cut_left : (parts : List (List ℕ)) (size : ℕ) (c d : Contents) → length parts ≤ 3 → AlikeClusters per c root d other
      → AreLeftAlike per root other (file_cut (below root parts) size c) (file_cut (below other parts) size d)
  cut_left parts size c d few both =
      left_of c d (file_cut (below root parts) size c) (file_cut (below other parts) size d) both
      (cut-alike (is_alike per) root other parts size c d (like-edited per parts (take size) (keeps-take per parts size)) both.alike)
      (λ e done. cut_shallow root (below root parts) (short_below root parts both.room few) size c e done)
      (λ f done. cut_shallow other (below other parts) (short_below other parts both.other_room few) size d f done)

  pub cut-left : (parts : List (List ℕ)) (p q : PathValue) (size : ℕ) (c d : Contents) → Lies root other parts p q → AlikeClusters per c root d other
      → AreLeftAlike per root other (file_cut p size c) (file_cut q size d)
  cut-left parts p q size c d lies both =
      subst (λ x. AreLeftAlike per root other (file_cut x size c) (file_cut q size d)) (sym lies.here)
      (subst (λ x. AreLeftAlike per root other (file_cut (below root parts) size c) (file_cut x size d)) (sym lies.there)
      (cut_left parts size c d lies.few both))

  folder_deep : (parts : List (List ℕ)) (c d : Contents) → AsDeep c root d other → AsDeep c (below root parts) d (below other parts)
  folder_deep parts c d deep = ⊎_elim
      (λ same. inl (omega (arith, length-append root.parts parts, length-append other.parts parts)))
      (λ two. inr ((λ q held. two.0 q (held-front root parts q held)), (λ q held. two.1 q (held-front other parts q held))))
      deep

  tree_left : (parts : List (List ℕ)) (c d : Contents) → 0 < length parts → AlikeClusters per c root d other
      → AreLeftAlike per root other (tree_removed (below root parts) c) (tree_removed (below other parts) d)
  tree_left parts c d some both =
      left_of c d (tree_removed (below root parts) c) (tree_removed (below other parts) d) both
      (tree-answers (is_alike per) root other parts c d some both.alike (folder_deep parts c d both.deep))
      (λ e done. shrinks-shallow root c e (tree_shrinks (below root parts) c e done))
      (λ f done. shrinks-shallow other d f (tree_shrinks (below other parts) d f done))

  pub tree-left : (parts : List (List ℕ)) (p q : PathValue) (c d : Contents) → Lies root other parts p q → AlikeClusters per c root d other
      → AreLeftAlike per root other (tree_removed p c) (tree_removed q d)
  tree-left parts p q c d lies both =
      subst (λ x. AreLeftAlike per root other (tree_removed x c) (tree_removed q d)) (sym lies.here)
      (subst (λ x. AreLeftAlike per root other (tree_removed (below root parts) c) (tree_removed x d)) (sym lies.there)
      (tree_left parts c d lies.some both))

  -- ---- what is asked

  pub names-told : (parts : List (List ℕ)) (p q : PathValue) (c d : Contents) → Lies root other parts p q → AlikeClusters per c root d other
      → SameAnswers root other (names_asked c p (entry_at c p)) (names_asked d q (entry_at d q))
  names-told parts p q c d lies both =
      subst (λ x. SameAnswers root other (names_asked c x (entry_at c x)) (names_asked d q (entry_at d q))) (sym lies.here)
      (subst (λ x. SameAnswers root other (names_asked c (below root parts) (entry_at c (below root parts))) (names_asked d x (entry_at d x))) (sym lies.there)
      (names-alike (is_alike per) root other parts c d both.alike))

  pub size-told : (parts : List (List ℕ)) (p q : PathValue) (c d : Contents) → Lies root other parts p q → ((a b : List ℕ) → is_alike per parts a b ≡ true → length a ≡ length b) → AlikeClusters per c root d other
      → SameAnswers root other (size_asked (file_asked p (entry_at c p))) (size_asked (file_asked q (entry_at d q)))
  size-told parts p q c d lies sizes both =
      subst (λ x. SameAnswers root other (size_asked (file_asked x (entry_at c x))) (size_asked (file_asked q (entry_at d q)))) (sym lies.here)
      (subst (λ x. SameAnswers root other (size_asked (file_asked (below root parts) (entry_at c (below root parts)))) (size_asked (file_asked x (entry_at d x)))) (sym lies.there)
      (size-same (is_alike per) root other parts c d sizes both.alike))

  pub read-told : (parts : List (List ℕ)) (p q : PathValue) (at n : ℕ) (c d : Contents) → Lies root other parts p q → ((a b : List ℕ) → is_alike per parts a b ≡ true → a ≡ b) → AlikeClusters per c root d other
      → SameAnswers root other (read_asked c p at n) (read_asked d q at n)
  read-told parts p q at n c d lies same both =
      subst (λ x. SameAnswers root other (read_asked c x at n) (read_asked d q at n)) (sym lies.here)
      (subst (λ x. SameAnswers root other (read_asked c (below root parts) at n) (read_asked d x at n)) (sym lies.there)
      (read-alike (is_alike per) root other parts at n c d same both.alike))
