-- Edits of files in two clusters of which the same is seen.
use Rattle.std.proofs.Common.{◌≡◌, ℕ, zero, suc, ◌+◌, ◌-◌, ◌<◌, Bool, true, false, ◌||◌, List, [], ◌∷◌, length, take, Option, None, Some, Result, Ok, is_some, refl, ap, sym, subst, ◌∙◌, arith}
use Rattle.std.specs.Prelude.{if◌then◌else◌}
use Rattle.std.proofs.lemmas.List.{length-append}
use Rattle.std.specs.FinMap.{get, insert, remove}
use Rattle.cluster_tree.specs.Apart.{is_held}
use Rattle.cluster_tree.specs.Causes.{given, unless}
use Rattle.cluster_tree.specs.Contents.{Contents, Entry, FolderEntry, FileEntry, LinkEntry, entry_at, or_root}
use Rattle.cluster_tree.specs.Folders.{names_in}
use Rattle.cluster_tree.specs.PathOrder.{path_eq}
use Rattle.cluster_tree.specs.PathValue.{PathValue, below, front}
use Rattle.cluster_tree.specs.Tree.{bytes_at, bytes_in}
use Rattle.cluster_tree.specs.declared.file_fault.FileFault.{FileFault}
use Rattle.cluster_tree.proofs.NamesLemmas.{listing_names, names_listing}
use Rattle.cluster_tree.proofs.OrderLemmas.{path_eq-own}
use Rattle.file_edits.specs.Asking.{file_asked, folder_asked, names_asked, read_asked, read_of, root_refusal, size_asked}
use Rattle.file_edits.specs.Clearing.{cleared_by, emptied, entry_cleared, folder_cleared, full_asked, in_turn, tree_removed}
use Rattle.file_edits.specs.Edits.{cut_to, edited, file_cut, file_edited, file_removed, folder_left, folder_made, folders_between, folders_made, leads, on_way, way_for, way_made, without}
use Rattle.file_edits.proofs.ClearLemmas.{held-above, held-own}
use Rattle.local_replays.specs.Seen.{EndSame}
use Rattle.local_replays.proofs.SeenLemmas.{Keeps, Local, Told, if-same, then-same, told-same}

named : (parts : List (List ℕ)) (o : Option Entry) → 0 < length parts → or_root parts o ≡ o
named [] None l = absurd (omega arith)
named (part ∷ parts) None l = refl
named parts (Some v) l = refl

pub or-left : (a b : Bool) → a ≡ true → (a || b) ≡ true
or-left true b e = refl
or-left false b e = absurd cc

pub or-right : (a b : Bool) → b ≡ true → (a || b) ≡ true
or-right true b e = refl
or-right false b e = e

module _ (seen : PathValue → Bool) (Same : Contents → Contents → Type 0) (keeps : Keeps seen Same) where
  -- ---- folders on the way

  left_same : (p : PathValue) → seen p ≡ true → (there : Bool) (c d : Contents) → Same c d → Same (folder_left c p there) (folder_left d p there)
  left_same p is true c d same = same
  left_same p is false c d same = keeps.puts c d p (FolderEntry false) is same

  made_same : (p : PathValue) → seen p ≡ true → Local Same (folder_made p)
  unfolding folder_made
  made_same p is c d same =
      told-same Same (folder_asked p (entry_at c p)) (folder_asked p (entry_at d p)) (λ there. Ok (folder_left c p there)) (λ there. Ok (folder_left d p there))
      (ap (folder_asked p) (keeps.agrees c d same p is)) (λ there. left_same p is there c d same)

  all_made_same : (count n : ℕ) (path : PathValue) → ((q : PathValue) → leads count n path q ≡ true → seen q ≡ true) → Local Same (folders_made count n path)
  unfolding folders_made leads
  all_made_same zero n path all c d same = same
  all_made_same (suc count) n path all c d same =
      then-same Same Same (folder_made (front n path) c) (folder_made (front n path) d) (folders_made count (n + 1) path) (folders_made count (n + 1) path)
      (made_same (front n path) (all (front n path) (or-left (path_eq (front n path) (front n path)) (leads count (n + 1) path (front n path)) (path_eq-own (front n path)))) c d same)
      (all_made_same count (n + 1) path (λ q is. all q (or-right (path_eq q (front n path)) (leads count (n + 1) path q) is)))

  unless_same : (o : Option FileFault) (r s : Result Contents FileFault) → EndSame Same r s → EndSame Same (unless o r) (unless o s)
  unless_same None r s same = same
  unless_same (Some e) r s same = refl

  module _ (root path : PathValue) (there : seen root ≡ true) (way : (q : PathValue) → on_way root path q ≡ true → seen q ≡ true) where
    pub way-same : Local Same (way_made root path)
    unfolding way_made
    way-same c d same =
        subst (λ o. EndSame Same (way_made root path c) (unless o (folders_made (folders_between root path) (length root.parts + 1) path d))) (ap (root_refusal root) (sym (keeps.agrees c d same root there)))
        (unless_same (root_refusal root (entry_at c root)) _ _ (all_made_same (folders_between root path) (length root.parts + 1) path way c d same))

    reached_same : (o : Option (List ℕ)) (c d : Contents) → Same c d → EndSame Same (way_for root path c o) (way_for root path d o)
    reached_same (Some bytes) c d same = same
    reached_same None c d same = way-same c d same

    pub edited-same : seen path ≡ true → (edit : List ℕ → List ℕ) → Local Same (file_edited root path edit)
    unfolding file_edited
    edited-same is edit c d same =
        then-same Same Same (given (file_asked path (entry_at c path)) (way_for root path c)) (given (file_asked path (entry_at d path)) (way_for root path d))
        (λ e. Ok (edited path edit e)) (λ e. Ok (edited path edit e))
        (told-same Same (file_asked path (entry_at c path)) (file_asked path (entry_at d path)) (way_for root path c) (way_for root path d) (ap (file_asked path) (keeps.agrees c d same path is))
        (λ o. reached_same o c d same))
        (λ e f left. subst (λ bytes. Same (edited path edit e) (insert f path (FileEntry (edit bytes)))) (ap bytes_in (sym (keeps.agrees e f left path is)))
        (keeps.puts e f path (FileEntry (edit (bytes_at e path))) is left))

  -- ---- one file

  without_same : (p : PathValue) → seen p ≡ true → (o : Option (List ℕ)) (c d : Contents) → Same c d → EndSame Same (without p c o) (without p d o)
  without_same p is None c d same = same
  without_same p is (Some bytes) c d same = keeps.removes c d p is same

  pub removed-same : (p : PathValue) → seen p ≡ true → Local Same (file_removed p)
  unfolding file_removed
  removed-same p is c d same =
      told-same Same (file_asked p (entry_at c p)) (file_asked p (entry_at d p)) (without p c) (without p d) (ap (file_asked p) (keeps.agrees c d same p is)) (λ o. without_same p is o c d same)

  short_same : (p : PathValue) → seen p ≡ true → (size : ℕ) (o : Option (List ℕ)) (c d : Contents) → Same c d → EndSame Same (cut_to p size c o) (cut_to p size d o)
  short_same p is size None c d same = same
  short_same p is size (Some bytes) c d same = keeps.puts c d p (FileEntry (take size bytes)) is same

  pub cut-same : (p : PathValue) (size : ℕ) → seen p ≡ true → Local Same (file_cut p size)
  unfolding file_cut
  cut-same p size is c d same =
      told-same Same (file_asked p (entry_at c p)) (file_asked p (entry_at d p)) (cut_to p size c) (cut_to p size d) (ap (file_asked p) (keeps.agrees c d same p is)) (λ o. short_same p is size o c d same)

  -- ---- what is asked

  pub size-told : (p : PathValue) → seen p ≡ true → Told Same (λ c. size_asked (file_asked p (entry_at c p)))
  size-told p is c d same = ap (λ o. size_asked (file_asked p o)) (keeps.agrees c d same p is)

  pub read-told : (p : PathValue) (at n : ℕ) → seen p ≡ true → Told Same (λ c. read_asked c p at n)
  read-told p at n is c d same = ap (λ o. read_of at n (bytes_in o) (file_asked p o)) (keeps.agrees c d same p is)

  module _ (folder : PathValue) (is : seen folder ≡ true) (all : (name : List ℕ) → seen (below folder (name ∷ [])) ≡ true) where
    there_same : (c d : Contents) → Same c d → (name : List ℕ) → is_some (get c (below folder (name ∷ []))) ≡ is_some (get d (below folder (name ∷ [])))
    there_same c d same name =
        let own : (e : Contents) → entry_at e (below folder (name ∷ [])) ≡ get e (below folder (name ∷ [])) =
        λ e. named (below folder (name ∷ [])).parts (get e (below folder (name ∷ []))) (omega (arith, length-append folder.parts (name ∷ []))) in
        ap is_some (sym (own c) ∙ sym (keeps.agrees c d same (below folder (name ∷ [])) (all name)) ∙ own d)

    names_same : (c d : Contents) → Same c d → names_in d folder ≡ names_in c folder
    names_same c d same =
        let one = names_listing c folder in
        sym (listing_names d folder (names_in c folder) (record { ascending = one.ascending; members = λ name. one.members name ∙ there_same c d same name }))

    listed_same : (o : Option Entry) (c d : Contents) → Same c d → names_asked d folder o ≡ names_asked c folder o
    listed_same None c d same = refl
    listed_same (Some (FolderEntry true)) c d same = refl
    listed_same (Some (FolderEntry false)) c d same = ap (λ names. Ok names) (names_same c d same)
    listed_same (Some (FileEntry bytes)) c d same = refl
    listed_same (Some LinkEntry) c d same = refl

    pub names-told : Told Same (λ c. names_asked c folder (entry_at c folder))
    names-told c d same = ap (names_asked d folder) (keeps.agrees c d same folder is) ∙ listed_same (entry_at c folder) c d same

  -- ---- what is done in turn

  pub turn-same : (step : List ℕ → Contents → Result Contents FileFault) → ((name : List ℕ) → Local Same (step name)) → (names : List (List ℕ)) → Local Same (in_turn step names)
  unfolding in_turn
  turn-same step each [] c d same = same
  turn-same step each (name ∷ names) c d same =
      then-same Same Same (step name c) (step name d) (in_turn step names) (in_turn step names) (each name c d same) (turn-same step each names)

  -- ---- a folder with all that it holds

  abbrev Within : PathValue → Type 0
  Within folder = (q : PathValue) → is_held folder q ≡ true → seen q ≡ true

  child : (folder : PathValue) → Within folder → (name : List ℕ) → seen (below folder (name ∷ [])) ≡ true
  child folder all name = all (below folder (name ∷ [])) (held-above folder name (below folder (name ∷ [])) (held-own (below folder (name ∷ []))))

  cleared_same : (folder : PathValue) (step : List ℕ → Contents → Result Contents FileFault) → Within folder → ((name : List ℕ) → Local Same (step name)) → Local Same (cleared_by step folder)
  cleared_same folder step all each c d same =
      told-same Same (names_asked c folder (entry_at c folder)) (names_asked d folder (entry_at d folder)) (λ names. emptied step folder names c) (λ names. emptied step folder names d)
      (names-told folder (all folder (held-own folder)) (child folder all) c d same)
      (λ names. then-same Same Same (in_turn step names c) (in_turn step names d) (λ e. Ok (remove e folder)) (λ e. Ok (remove e folder))
      (turn-same step each names c d same) (λ e f left. keeps.removes e f folder (all folder (held-own folder)) left))

  entry_same : (deeper : ℕ) (folder : PathValue) → Within folder → (name : List ℕ) → Local Same (entry_cleared deeper folder name)
  unfolding entry_cleared
  entry_same zero folder all name c d same = refl
  entry_same (suc deeper) folder all name c d same =
      let at = below folder (name ∷ []) in
      let inside : Within at = λ q held. all q (held-above folder name q held) in
      told-same Same (full_asked at (entry_at c at)) (full_asked at (entry_at d at))
      (λ full. if full then cleared_by (entry_cleared deeper at) at c else file_removed at c) (λ full. if full then cleared_by (entry_cleared deeper at) at d else file_removed at d)
      (ap (full_asked at) (keeps.agrees c d same at (child folder all name)))
      (λ full. if-same Same full (cleared_by (entry_cleared deeper at) at c) (file_removed at c) (cleared_by (entry_cleared deeper at) at d) (file_removed at d)
      (cleared_same at (entry_cleared deeper at) inside (entry_same deeper at inside) c d same) (removed-same at (child folder all name) c d same))

  pub tree-same : (path : PathValue) → ((q : PathValue) → is_held path q ≡ true → seen q ≡ true) → Local Same (tree_removed path)
  unfolding tree_removed
  tree-same path all c d same =
      let deeper : ℕ = 64 - length path.parts in
      told-same Same (folder_asked path (entry_at c path)) (folder_asked path (entry_at d path))
      (λ there. if there then folder_cleared deeper path c else Ok c) (λ there. if there then folder_cleared deeper path d else Ok d)
      (ap (folder_asked path) (keeps.agrees c d same path (all path (held-own path))))
      (λ there. if-same Same there (folder_cleared deeper path c) (Ok c) (folder_cleared deeper path d) (Ok d)
      (cleared_same path (entry_cleared deeper path) all (entry_same deeper path all) c d same) same)
