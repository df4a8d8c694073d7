-- Folders that are removed with all that they hold.
use Rattle.std.proofs.Common.{◌≡◌, ◌⊎◌, ℕ, zero, suc, ◌+◌, ◌-◌, ◌<◌, ◌≤◌, ◌==◌, Bool, true, false, ◌||◌, List, [], ◌∷◌, ◌++◌, length, take, drop, get_or, bytes_eq, Option, None, Some, Result, Ok, Err, is_some, refl, ap, ap₂, sym, ◌∙◌, inl, inr, ⊎_elim, arith, true≢false}
use Rattle.std.specs.Prelude.{if◌then◌else◌}
use Rattle.std.proofs.lemmas.Bool.{and_parts}
use Rattle.std.proofs.lemmas.Bool.Decides.{nat_tests}
use Rattle.std.proofs.lemmas.Grind.{common_steps}
use Rattle.std.proofs.lemmas.List.{length-append, length-take}
use Rattle.std.specs.Cmp.Lexicographic.{bytes_decides}
use Rattle.std.specs.FinMap.{get, remove}
use Rattle.std.specs.List.{list_all, list_any}
use Rattle.cluster_tree.specs.Apart.{is_held}
use Rattle.cluster_tree.specs.PathValue.{PathValue, Holds, below}
use Rattle.cluster_tree.specs.PathOrder.{path_eq}
use Rattle.cluster_tree.specs.Contents.{Contents, Entry, FolderEntry, FileEntry, LinkEntry, or_root, entry_at, is_folder, IsTree, parent}
use Rattle.cluster_tree.specs.Causes.{given}
use Rattle.cluster_tree.specs.Folders.{has_child, names_in, removal_refusal, remove_refusal}
use Rattle.cluster_tree.specs.Tree.{kind_of}
use Rattle.cluster_tree.specs.declared.tree.Kind.TheVariants as kind
use Rattle.cluster_tree.specs.declared.tree.TreeFault.TheVariants as tree_fault
use Rattle.cluster_tree.specs.declared.file_fault.FileFault.{FileFault}
use Rattle.cluster_tree.specs.declared.file_fault.FileFault.TheVariants as fault
use Rattle.cluster_tree.proofs.ContentsLemmas.{get-removed, get-removed_other}
use Rattle.cluster_tree.proofs.HoldLemmas.{held-holds, holds-held}
use Rattle.cluster_tree.proofs.ListingLemmas.{has_child-named}
use Rattle.cluster_tree.proofs.NamesLemmas.{names_listing}
use Rattle.cluster_tree.proofs.OrderLemmas.{path_eq-same, same_path}
use Rattle.file_edits.specs.Asking.{folder_asked, names_asked}
use Rattle.file_edits.specs.Clearing.{full_asked, in_turn, emptied, cleared_by, entry_cleared, folder_cleared, tree_removed}
use Rattle.file_edits.specs.Edits.{file_removed}
use Rattle.file_edits.proofs.EditLemmas.{same_or_other}
use Rattle.file_edits.proofs.LawLemmas.{by_removed, removed-gone, rootless}

-- what was asked

pub full-absent : (path : PathValue) (o : Option Entry) → kind_of o ≡ Ok kind.Absent → full_asked path o ≡ Ok false
full-absent path None e = refl
full-absent path (Some (FolderEntry bad)) e = absurd cc
full-absent path (Some (FileEntry bytes)) e = absurd cc
full-absent path (Some LinkEntry) e = absurd cc

pub full-file : (path : PathValue) (o : Option Entry) → kind_of o ≡ Ok kind.File → full_asked path o ≡ Ok false
full-file path None e = absurd cc
full-file path (Some (FolderEntry bad)) e = absurd cc
full-file path (Some (FileEntry bytes)) e = refl
full-file path (Some LinkEntry) e = absurd cc

pub full-folder : (path : PathValue) (o : Option Entry) → kind_of o ≡ Ok kind.Folder → full_asked path o ≡ Ok true
full-folder path None e = absurd cc
full-folder path (Some (FolderEntry bad)) e = refl
full-folder path (Some (FileEntry bytes)) e = absurd cc
full-folder path (Some LinkEntry) e = absurd cc

pub full-link : (path : PathValue) (o : Option Entry) → kind_of o ≡ Err tree_fault.Link → full_asked path o ≡ Err (fault.Link path)
full-link path None e = absurd cc
full-link path (Some (FolderEntry bad)) e = absurd cc
full-link path (Some (FileEntry bytes)) e = absurd cc
full-link path (Some LinkEntry) e = refl

pub ruleset full_steps = (full-absent, full-file, full-folder, full-link)

pub full-is : (path : PathValue) (o : Option Entry) → full_asked path o ≡ Ok true → is_folder o ≡ true
full-is path None e = absurd cc
full-is path (Some (FolderEntry bad)) e = refl
full-is path (Some (FileEntry bytes)) e = absurd cc
full-is path (Some LinkEntry) e = absurd cc

pub there-is : (path : PathValue) (o : Option Entry) → folder_asked path o ≡ Ok true → is_folder o ≡ true
there-is path None e = absurd cc
there-is path (Some (FolderEntry bad)) e = refl
there-is path (Some (FileEntry bytes)) e = absurd cc
there-is path (Some LinkEntry) e = absurd cc

-- what a folder holds

whole : (xs : List (List ℕ)) → take (length xs) xs ≡ xs
whole xs = grind (arith, common_steps)

pub held-own : (path : PathValue) → is_held path path ≡ true
held-own path = holds-held path path (record { mark = refl; prefix = whole path.parts })

pub held-same : (path q : PathValue) → path_eq q path ≡ true → is_held path q ≡ true
held-same path q e = ap (is_held path) (path_eq-same q path e) ∙ held-own path

fewer_parts : (n : ℕ) (xs ys : List (List ℕ)) (y : List ℕ) → length ys ≡ n → take (length (ys ++ y ∷ [])) xs ≡ ys ++ y ∷ [] → take n xs ≡ ys
fewer_parts n xs ys y len is =
    let front : take n (take (length (ys ++ y ∷ [])) xs) ≡ take n xs = let more = length-append ys (y ∷ []) in grind (arith, common_steps) in
    let same : take n (ys ++ y ∷ []) ≡ ys = grind (arith, common_steps) in
    sym front ∙ ap (take n) is ∙ same

pub held-above : (folder : PathValue) (name : List ℕ) (q : PathValue) → is_held (below folder (name ∷ [])) q ≡ true → is_held folder q ≡ true
held-above folder name q e =
    let h = held-holds (below folder (name ∷ [])) q e in
    holds-held folder q (record { mark = h.mark; prefix = fewer_parts (length folder.parts) q.parts folder.parts name refl h.prefix })

not_below : (folder : PathValue) (name : List ℕ) → is_held (below folder (name ∷ [])) folder ≡ false
not_below folder name = elim (is_held (below folder (name ∷ [])) folder) as (λ b. is_held (below folder (name ∷ [])) folder ≡ b → b ≡ false) [
  | true ↦ λ e.
      let h = held-holds (below folder (name ∷ [])) folder e in
      absurd (omega (arith, length-append folder.parts (name ∷ []), length-take (length (folder.parts ++ name ∷ [])) folder.parts, ap length h.prefix))
  | false ↦ λ e. refl
] refl

-- what was there, or nothing at paths that a folder holds
abbrev pub Fewer : PathValue → Contents → Contents → Type 0
Fewer root c d = (q : PathValue) → (get d q ≡ get c q) ⊎ ((is_held root q ≡ true) × (get d q ≡ None))

fewer_on : (root : PathValue) (c d e : Contents) → Fewer root c d → Fewer root d e → Fewer root c e
fewer_on root c d e one two q = ⊎_elim (λ same. ⊎_elim (λ first. inl (same ∙ first)) (λ gone. inr (gone.0, same ∙ gone.1)) (one q)) (λ gone. inr gone) (two q)

fewer_above : (folder : PathValue) (name : List ℕ) (c d : Contents) → Fewer (below folder (name ∷ [])) c d → Fewer folder c d
fewer_above folder name c d one q = ⊎_elim (λ same. inl same) (λ gone. inr (held-above folder name q gone.0, gone.1)) (one q)

fewer_removed : (path : PathValue) (c : Contents) → Fewer path c (remove c path)
fewer_removed path c q = same_or_other q path
    (λ e. inr (ap (is_held path) e ∙ held-own path, ap (get (remove c path)) e ∙ get-removed c path))
    (λ n. inl (get-removed_other c path q n))

fewer_file : (path : PathValue) (c d : Contents) → file_removed path c ≡ Ok d → Fewer path c d
fewer_file path c d removed q = by_removed path c d removed
    (λ none is. inl (ap (λ x. get x q) is))
    (λ is. ⊎_elim (λ same. inl (ap (λ x. get x q) is ∙ same)) (λ gone. inr (gone.0, ap (λ x. get x q) is ∙ gone.1)) (fewer_removed path c q))

-- entries in turn

abbrev Clears : PathValue → (List ℕ → Contents → Result Contents FileFault) → Type 0
Clears folder step = (name : List ℕ) (c d : Contents) → step name c ≡ Ok d → Fewer (below folder (name ∷ [])) c d

abbrev Empties : PathValue → (List ℕ → Contents → Result Contents FileFault) → Type 0
Empties folder step = (name : List ℕ) (c d : Contents) → step name c ≡ Ok d → get d (below folder (name ∷ [])) ≡ None

by_turn : {P : Type 0} (step : List ℕ → Contents → Result Contents FileFault) (name : List ℕ) (names : List (List ℕ)) (c d : Contents) → in_turn step (name ∷ names) c ≡ Ok d → ((e : Contents) → step name c ≡ Ok e → in_turn step names e ≡ Ok d → P) → P
unfolding in_turn
by_turn {P} step name names c d done next =
    elim (step name c) as (λ r. step name c ≡ r → given r (in_turn step names) ≡ Ok d → P) [
      | Ok e ↦ λ is rest. next e is rest
      | Err f ↦ λ is rest. absurd cc
    ] refl done

turn_none : (step : List ℕ → Contents → Result Contents FileFault) (c d : Contents) → in_turn step [] c ≡ Ok d → d ≡ c
unfolding in_turn
turn_none step c d done = let same : c ≡ d = cc in sym same

fewer_turn : (folder : PathValue) (step : List ℕ → Contents → Result Contents FileFault) (names : List (List ℕ)) (c d : Contents) → Clears folder step → in_turn step names c ≡ Ok d → Fewer folder c d
fewer_turn folder step [] c d clears done q = inl (ap (λ x. get x q) (turn_none step c d done))
fewer_turn folder step (name ∷ names) c d clears done q = by_turn step name names c d done (λ e one rest. fewer_on folder c e d (fewer_above folder name c e (clears name c e one)) (fewer_turn folder step names e d clears rest) q)

kept_turn : (folder : PathValue) (step : List ℕ → Contents → Result Contents FileFault) (names : List (List ℕ)) (c d : Contents) → Clears folder step → in_turn step names c ≡ Ok d → get d folder ≡ get c folder
kept_turn folder step [] c d clears done = ap (λ x. get x folder) (turn_none step c d done)
kept_turn folder step (name ∷ names) c d clears done = by_turn step name names c d done (λ e one rest.
    kept_turn folder step names e d clears rest ∙ ⊎_elim (λ same. same) (λ gone. absurd (true≢false (sym gone.0 ∙ not_below folder name))) (clears name c e one folder))

none_stays : (root : PathValue) (c d : Contents) (q : PathValue) → Fewer root c d → get c q ≡ None → get d q ≡ None
none_stays root c d q fewer none = ⊎_elim (λ same. same ∙ none) (λ gone. gone.1) (fewer q)

gone_turn : (folder : PathValue) (step : List ℕ → Contents → Result Contents FileFault) (names : List (List ℕ)) (name : List ℕ) (c d : Contents) → Clears folder step → Empties folder step → in_turn step names c ≡ Ok d → list_any (bytes_eq name) names ≡ true → get d (below folder (name ∷ [])) ≡ None
gone_turn folder step [] name c d clears empties done among = absurd (true≢false (sym among))
gone_turn folder step (first ∷ names) name c d clears empties done among = by_turn step first names c d done (λ e one rest.
    elim (bytes_eq name first) as (λ b. bytes_eq name first ≡ b → (b || list_any (bytes_eq name) names) ≡ true → get d (below folder (name ∷ [])) ≡ None) [
      | true ↦ λ is all.
          let same : name ≡ first = (bytes_decides name first).0 is in
          none_stays folder e d (below folder (name ∷ [])) (fewer_turn folder step names e d clears rest) (ap (λ n. get e (below folder (n ∷ []))) same ∙ empties first c e one)
      | false ↦ λ is all. gone_turn folder step names name e d clears empties rest all
    ] refl among)

-- one entry

by_cleared : {P : Type 0} (step : List ℕ → Contents → Result Contents FileFault) (folder : PathValue) (c d : Contents) → cleared_by step folder c ≡ Ok d → ((names : List (List ℕ)) (e : Contents) → names_asked c folder (entry_at c folder) ≡ Ok names → in_turn step names c ≡ Ok e → d ≡ remove e folder → P) → P
by_cleared {P} step folder c d done next =
    elim (names_asked c folder (entry_at c folder)) as (λ r. names_asked c folder (entry_at c folder) ≡ r → given r (λ names. emptied step folder names c) ≡ Ok d → P) [
      | Ok names ↦ λ is. elim (in_turn step names c) as (λ r. in_turn step names c ≡ r → given r (λ e. Ok (remove e folder)) ≡ Ok d → P) [
        | Ok e ↦ λ turn rest. next names e is turn (let same : remove e folder ≡ d = cc in sym same)
        | Err f ↦ λ turn rest. absurd cc
      ] refl
      | Err f ↦ λ is rest. absurd cc
    ] refl done

by_entry : {P : Type 0} (deeper : ℕ) (folder : PathValue) (name : List ℕ) (c d : Contents) → entry_cleared (suc deeper) folder name c ≡ Ok d → (cleared_by (entry_cleared deeper (below folder (name ∷ []))) (below folder (name ∷ [])) c ≡ Ok d → P) → (file_removed (below folder (name ∷ [])) c ≡ Ok d → P) → P
unfolding entry_cleared
by_entry {P} deeper folder name c d done full other =
    let path : PathValue = below folder (name ∷ []) in
    elim (full_asked path (entry_at c path)) as (λ r. given r (λ full. if full then cleared_by (entry_cleared deeper path) path c else file_removed path c) ≡ Ok d → P) [
      | Ok is ↦ elim is as (λ b. (if b then cleared_by (entry_cleared deeper path) path c else file_removed path c) ≡ Ok d → P) [ true ↦ λ rest. full rest | false ↦ λ rest. other rest ]
      | Err f ↦ λ rest. absurd cc
    ] done

no_entry : {P : Type 0} (folder : PathValue) (name : List ℕ) (c d : Contents) → entry_cleared zero folder name c ≡ Ok d → P
unfolding entry_cleared
no_entry folder name c d done = absurd cc

pub clears_entry : (deeper : ℕ) (folder : PathValue) → Clears folder (entry_cleared deeper folder)
clears_entry zero folder name c d done q = no_entry folder name c d done
clears_entry (suc deeper) folder name c d done q = by_entry deeper folder name c d done
    (λ full. by_cleared (entry_cleared deeper (below folder (name ∷ []))) (below folder (name ∷ [])) c d full (λ names e asked turn is.
    ⊎_elim (λ same. inl (ap (λ x. get x q) is ∙ same)) (λ gone. inr (gone.0, ap (λ x. get x q) is ∙ gone.1))
    (fewer_on (below folder (name ∷ [])) c e (remove e (below folder (name ∷ []))) (fewer_turn (below folder (name ∷ [])) (entry_cleared deeper (below folder (name ∷ []))) names c e (clears_entry deeper (below folder (name ∷ []))) turn) (fewer_removed (below folder (name ∷ [])) e) q)))
    (λ removed. fewer_file (below folder (name ∷ [])) c d removed q)

no_root : (parts : List (List ℕ)) (o : Option Entry) → or_root parts o ≡ None → o ≡ None
no_root parts None e = refl
no_root parts (Some v) e = absurd cc

empties_entry : (deeper : ℕ) (folder : PathValue) → Empties folder (entry_cleared deeper folder)
empties_entry zero folder name c d done = no_entry folder name c d done
empties_entry (suc deeper) folder name c d done = by_entry deeper folder name c d done
    (λ full. by_cleared (entry_cleared deeper (below folder (name ∷ []))) (below folder (name ∷ [])) c d full (λ names e asked turn is.
    ap (λ x. get x (below folder (name ∷ []))) is ∙ get-removed e (below folder (name ∷ []))))
    (λ removed. no_root (folder.parts ++ name ∷ []) (get d (below folder (name ∷ []))) (removed-gone (below folder (name ∷ [])) c d (omega (arith, length-append folder.parts (name ∷ []))) removed))

-- a folder whose entries are gone is removed

asked_folder : (c : Contents) (path : PathValue) (o : Option Entry) (names : List (List ℕ)) → is_folder o ≡ true → names_asked c path o ≡ Ok names → (o ≡ Some (FolderEntry false)) × (names ≡ names_in c path)
asked_folder c path None names there e = absurd (true≢false (sym there))
asked_folder c path (Some (FolderEntry true)) names there e = absurd cc
asked_folder c path (Some (FolderEntry false)) names there e = (refl, (let same : names_in c path ≡ names = cc in sym same))
asked_folder c path (Some (FileEntry bytes)) names there e = absurd (true≢false (sym there))
asked_folder c path (Some LinkEntry) names there e = absurd (true≢false (sym there))

some_there : (o : Option Entry) → o ≡ None → is_some o ≡ true → ⊥
some_there o none some = true≢false (sym some ∙ ap is_some none)

childless : (deeper : ℕ) (folder : PathValue) (names : List (List ℕ)) (c d : Contents) → names ≡ names_in c folder → in_turn (entry_cleared deeper folder) names c ≡ Ok d → has_child d folder ≡ false
childless deeper folder names c d listed turn = elim (has_child d folder) as (λ b. has_child d folder ≡ b → b ≡ false) [
  | true ↦ λ some.
      let child = (has_child-named d folder).0 some in
      let q : PathValue = below folder (child.0 ∷ []) in
      absurd (⊎_elim
      (λ same.
      let among : list_any (bytes_eq child.0) names ≡ true = ap (list_any (bytes_eq child.0)) listed ∙ (names_listing c folder).members child.0 ∙ ap is_some (sym same) ∙ child.1 in
      some_there (get d q) (gone_turn folder (entry_cleared deeper folder) names child.0 c d (clears_entry deeper folder) (empties_entry deeper folder) turn among) child.1)
      (λ gone. some_there (get d q) gone.1 child.1)
      (fewer_turn folder (entry_cleared deeper folder) names c d (clears_entry deeper folder) turn q))
  | false ↦ λ e. refl
] refl

not_none : (parts : ℕ) → 0 < parts → (parts == 0) ≡ false
not_none parts l = grind (arith, nat_tests)

free_folder : (parts : ℕ) (child : Bool) (o : Option Entry) → 0 < parts → child ≡ false → o ≡ Some (FolderEntry false) → removal_refusal (parts == 0 || child) o ≡ None
free_folder parts child o some none is =
    let used : (parts == 0 || child) ≡ false = ap (λ b. b || child) (not_none parts some) ∙ none in
    ap₂ (λ b x. removal_refusal b x) used is

pub clear-unrefused : (deeper : ℕ) (folder : PathValue) (names : List (List ℕ)) (c d : Contents) → 0 < length folder.parts → is_folder (entry_at c folder) ≡ true → names_asked c folder (entry_at c folder) ≡ Ok names → in_turn (entry_cleared deeper folder) names c ≡ Ok d → remove_refusal d folder ≡ None
clear-unrefused deeper folder names c d some there asked turn =
    let two = asked_folder c folder (entry_at c folder) names there asked in
    let still : entry_at d folder ≡ Some (FolderEntry false) = ap (or_root folder.parts) (kept_turn folder (entry_cleared deeper folder) names c d (clears_entry deeper folder) turn) ∙ two.0 in
    free_folder (length folder.parts) (has_child d folder) (entry_at d folder) some (childless deeper folder names c d two.1 turn) still

-- how the steps of the definition go on

pub next : (names : List (List ℕ)) (i : ℕ) → i < length names → drop i names ≡ get_or names i [] ∷ drop (i + 1) names
next names i l = grind (arith, common_steps)

pub all-at : (test : List ℕ → Bool) (names : List (List ℕ)) (i : ℕ) → list_all test names ≡ true → i < length names → test (get_or names i []) ≡ true
all-at test [] i h l = absurd (omega arith)
all-at test (name ∷ names) zero h l = (and_parts (test name) (list_all test names) h).0
all-at test (name ∷ names) (suc i) h l = all-at test names i (and_parts (test name) (list_all test names) h).1 (omega arith)

pub turn-end : (step : List ℕ → Contents → Result Contents FileFault) (names : List (List ℕ)) (i : ℕ) (c : Contents) → length names ≤ i → in_turn step (drop i names) c ≡ Ok c
unfolding in_turn
turn-end step names i c l = let none : drop i names ≡ [] = grind (arith, common_steps) in ap (λ ns. in_turn step ns c) none

pub turn-more : (step : List ℕ → Contents → Result Contents FileFault) (names : List (List ℕ)) (i : ℕ) (name : List ℕ) (c d : Contents) → i < length names → name ≡ get_or names i [] → step name c ≡ Ok d → in_turn step (drop i names) c ≡ in_turn step (drop (i + 1) names) d
unfolding in_turn
turn-more step names i name c d l is done =
    ap (λ ns. in_turn step ns c) (next names i l ∙ ap (λ n. n ∷ drop (i + 1) names) (sym is)) ∙ ap (λ r. given r (in_turn step (drop (i + 1) names))) done

pub turn-refused : (step : List ℕ → Contents → Result Contents FileFault) (names : List (List ℕ)) (i : ℕ) (name : List ℕ) (c : Contents) (e : FileFault) → i < length names → name ≡ get_or names i [] → step name c ≡ Err e → in_turn step (drop i names) c ≡ Err e
unfolding in_turn
turn-refused step names i name c e l is done =
    ap (λ ns. in_turn step ns c) (next names i l ∙ ap (λ n. n ∷ drop (i + 1) names) (sym is)) ∙ ap (λ r. given r (in_turn step (drop (i + 1) names))) done

pub clear-refused : (deeper : ℕ) (folder : PathValue) (names : List (List ℕ)) (c : Contents) (e : FileFault) → names_asked c folder (entry_at c folder) ≡ Ok names → in_turn (entry_cleared deeper folder) names c ≡ Err e → folder_cleared deeper folder c ≡ Err e
clear-refused deeper folder names c e asked turn =
    ap (λ r. given r (λ ns. emptied (entry_cleared deeper folder) folder ns c)) asked ∙ ap (λ r. given r (λ d. Ok (remove d folder))) turn

pub clear-done : (deeper : ℕ) (folder : PathValue) (names : List (List ℕ)) (c d : Contents) → names_asked c folder (entry_at c folder) ≡ Ok names → in_turn (entry_cleared deeper folder) names c ≡ Ok d → folder_cleared deeper folder c ≡ Ok (remove d folder)
clear-done deeper folder names c d asked turn =
    ap (λ r. given r (λ ns. emptied (entry_cleared deeper folder) folder ns c)) asked ∙ ap (λ r. given r (λ d. Ok (remove d folder))) turn

pub clear-unlisted : (deeper : ℕ) (folder : PathValue) (c : Contents) (e : FileFault) → names_asked c folder (entry_at c folder) ≡ Err e → folder_cleared deeper folder c ≡ Err e
clear-unlisted deeper folder c e asked = ap (λ r. given r (λ ns. emptied (entry_cleared deeper folder) folder ns c)) asked

pub entry-deep : (deeper : ℕ) (folder : PathValue) (name : List ℕ) (c : Contents) → deeper ≡ 0 → entry_cleared deeper folder name c ≡ Err (fault.TooDeep folder)
unfolding entry_cleared
entry-deep deeper folder name c is = ap (λ k. entry_cleared k folder name c) is

entry_at_depth : (deeper k : ℕ) (folder : PathValue) (name : List ℕ) (c : Contents) → deeper ≡ suc k → entry_cleared deeper folder name c ≡ given (full_asked (below folder (name ∷ [])) (entry_at c (below folder (name ∷ [])))) (λ full. if full then folder_cleared k (below folder (name ∷ [])) c else file_removed (below folder (name ∷ [])) c)
unfolding entry_cleared
entry_at_depth deeper k folder name c is = ap (λ n. entry_cleared n folder name c) is

pub entry-refused : (deeper : ℕ) (folder : PathValue) (name : List ℕ) (c : Contents) (e : FileFault) → 0 < deeper → full_asked (below folder (name ∷ [])) (entry_at c (below folder (name ∷ []))) ≡ Err e → entry_cleared deeper folder name c ≡ Err e
entry-refused deeper folder name c e some is =
    entry_at_depth deeper (deeper - 1) folder name c (omega arith) ∙ ap (λ r. given r (λ full. if full then folder_cleared (deeper - 1) (below folder (name ∷ [])) c else file_removed (below folder (name ∷ [])) c)) is

pub entry-full : (deeper : ℕ) (folder : PathValue) (name : List ℕ) (c : Contents) → 0 < deeper → full_asked (below folder (name ∷ [])) (entry_at c (below folder (name ∷ []))) ≡ Ok true → entry_cleared deeper folder name c ≡ folder_cleared (deeper - 1) (below folder (name ∷ [])) c
entry-full deeper folder name c some is =
    entry_at_depth deeper (deeper - 1) folder name c (omega arith) ∙ ap (λ r. given r (λ full. if full then folder_cleared (deeper - 1) (below folder (name ∷ [])) c else file_removed (below folder (name ∷ [])) c)) is

pub entry-other : (deeper : ℕ) (folder : PathValue) (name : List ℕ) (c : Contents) → 0 < deeper → full_asked (below folder (name ∷ [])) (entry_at c (below folder (name ∷ []))) ≡ Ok false → entry_cleared deeper folder name c ≡ file_removed (below folder (name ∷ [])) c
entry-other deeper folder name c some is =
    entry_at_depth deeper (deeper - 1) folder name c (omega arith) ∙ ap (λ r. given r (λ full. if full then folder_cleared (deeper - 1) (below folder (name ∷ [])) c else file_removed (below folder (name ∷ [])) c)) is

-- the whole

pub tree-refused : (path : PathValue) (c : Contents) (e : FileFault) → folder_asked path (entry_at c path) ≡ Err e → tree_removed path c ≡ Err e
unfolding tree_removed
tree-refused path c e is = ap (λ r. given r (λ there. if there then folder_cleared (64 - length path.parts) path c else Ok c)) is

pub tree-absent : (path : PathValue) (c : Contents) → folder_asked path (entry_at c path) ≡ Ok false → tree_removed path c ≡ Ok c
unfolding tree_removed
tree-absent path c is = ap (λ r. given r (λ there. if there then folder_cleared (64 - length path.parts) path c else Ok c)) is

pub tree-there : (path : PathValue) (c : Contents) → folder_asked path (entry_at c path) ≡ Ok true → tree_removed path c ≡ folder_cleared (64 - length path.parts) path c
unfolding tree_removed
tree-there path c is = ap (λ r. given r (λ there. if there then folder_cleared (64 - length path.parts) path c else Ok c)) is

pub ruleset tree_steps = (tree-refused, tree-absent)

-- what is left

by_tree : {P : Type 0} (path : PathValue) (c d : Contents) → tree_removed path c ≡ Ok d → (folder_asked path (entry_at c path) ≡ Ok false → d ≡ c → P) → (folder_cleared (64 - length path.parts) path c ≡ Ok d → P) → P
unfolding tree_removed
by_tree {P} path c d done none there =
    elim (folder_asked path (entry_at c path)) as (λ r. folder_asked path (entry_at c path) ≡ r → given r (λ there. if there then folder_cleared (64 - length path.parts) path c else Ok c) ≡ Ok d → P) [
      | Ok is ↦ elim is as (λ b. folder_asked path (entry_at c path) ≡ Ok b → (if b then folder_cleared (64 - length path.parts) path c else Ok c) ≡ Ok d → P) [
        | true ↦ λ told rest. there rest
        | false ↦ λ told rest. none told (let same : c ≡ d = cc in sym same)
      ]
      | Err f ↦ λ told rest. absurd cc
    ] refl done

fewer_folder : (deeper : ℕ) (path : PathValue) (c d : Contents) → folder_cleared deeper path c ≡ Ok d → Fewer path c d
fewer_folder deeper path c d done q = by_cleared (entry_cleared deeper path) path c d done (λ names e asked turn is.
    ⊎_elim (λ same. inl (ap (λ x. get x q) is ∙ same)) (λ gone. inr (gone.0, ap (λ x. get x q) is ∙ gone.1))
    (fewer_on path c e (remove e path) (fewer_turn path (entry_cleared deeper path) names c e (clears_entry deeper path) turn) (fewer_removed path e) q))

pub tree-elsewhere : (path : PathValue) (c d : Contents) (q : PathValue) → tree_removed path c ≡ Ok d → is_held path q ≡ false → entry_at d q ≡ entry_at c q
tree-elsewhere path c d q done other = by_tree path c d done
    (λ none is. ap (λ x. entry_at x q) is)
    (λ cleared. ⊎_elim (λ same. ap (or_root q.parts) same) (λ gone. absurd (true≢false (sym gone.0 ∙ other))) (fewer_folder (64 - length path.parts) path c d cleared q))

not_there : (path : PathValue) (o : Option Entry) → folder_asked path o ≡ Ok false → o ≡ None
not_there path None e = refl
not_there path (Some (FolderEntry bad)) e = absurd cc
not_there path (Some (FileEntry bytes)) e = absurd cc
not_there path (Some LinkEntry) e = absurd cc

pub tree-gone : (path : PathValue) (c d : Contents) → 0 < length path.parts → tree_removed path c ≡ Ok d → entry_at d path ≡ None
tree-gone path c d some done = by_tree path c d done
    (λ none is. ap (λ x. entry_at x path) is ∙ not_there path (entry_at c path) none)
    (λ cleared. by_cleared (entry_cleared (64 - length path.parts) path) path c d cleared (λ names e asked turn is.
    ap (or_root path.parts) (ap (λ x. get x path) is ∙ get-removed e path) ∙ rootless path.parts some))

no_folder : (o : Option Entry) → o ≡ None → is_folder o ≡ false
no_folder o e = ap is_folder e

-- where nothing stands, nothing stands below
none_below : (k : ℕ) (d : Contents) (path : PathValue) (q : PathValue) → IsTree d → 0 < length path.parts → entry_at d path ≡ None → Holds path q → length q.parts ≡ length path.parts + k → get d q ≡ None
none_below zero d path q tree some none held len =
    let same : q ≡ path = same_path _ _ (sym held.mark) (all_parts (length path.parts) q.parts path.parts (omega arith) held.prefix) in
    no_root path.parts (get d q) (ap (λ p. or_root path.parts (get d p)) same ∙ none)
  where
    all_parts : (n : ℕ) (xs ys : List (List ℕ)) → length xs ≡ n → take n xs ≡ ys → xs ≡ ys
    all_parts n xs ys is front = let all : take n xs ≡ xs = grind (arith, common_steps) in sym all ∙ front
none_below (suc k) d path q tree some none held len =
    elim (get d q) as (λ o. get d q ≡ o → o ≡ None) [
      | None ↦ λ is. refl
      | Some v ↦ λ is.
          let above = none_below k d path (parent q) tree some none (record { mark = held.mark; prefix = front_kept (length path.parts) (length q.parts - 1) q.parts path.parts (omega arith) held.prefix }) (shorter q.parts (length path.parts + k) (omega arith)) in
          let folder = tree q (ap is_some is) in
          let root : entry_at d (parent q) ≡ None = ap (or_root (parent q).parts) above ∙ rootless (parent q).parts (omega (arith, shorter q.parts (length path.parts + k) (omega arith))) in
          absurd (true≢false (sym folder ∙ no_folder (entry_at d (parent q)) root))
    ] refl
  where
    front_kept : (n m : ℕ) (xs ys : List (List ℕ)) → n ≤ m → take n xs ≡ ys → take n (take m xs) ≡ ys
    front_kept n m xs ys l is = let same : take n (take m xs) ≡ take n xs = grind (arith, common_steps) in same ∙ is

    shorter : (xs : List (List ℕ)) (n : ℕ) → length xs ≡ n + 1 → length (take (length xs - 1) xs) ≡ n
    shorter xs n is = omega (arith, length-take (length xs - 1) xs, is)

pub tree-empty : (path : PathValue) (c d : Contents) (q : PathValue) → IsTree d → 0 < length path.parts → tree_removed path c ≡ Ok d → is_held path q ≡ true → entry_at d q ≡ None
tree-empty path c d q tree some done held =
    let h = held-holds path q held in
    let longer : length path.parts ≤ length q.parts = omega (arith, length-take (length path.parts) q.parts, ap length h.prefix) in
    let none = none_below (length q.parts - length path.parts) d path q tree some (tree-gone path c d some done) h (omega arith) in
    ap (or_root q.parts) none ∙ rootless q.parts (omega arith)
