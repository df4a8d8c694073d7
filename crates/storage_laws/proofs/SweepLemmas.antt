-- Files that are cut, and swept from a folder.
use Rattle.std.proofs.Common.{◌≡◌, ◌≢◌, ℕ, ◌<◌, true, false, ◌||◌, nat_lt, List, [], ◌∷◌, length, take, bytes_eq, Option, None, Some, is_some, Ok, refl, ap, sym, subst, ◌∙◌, true≢false, arith}
use Rattle.std.specs.Prelude.{if◌then◌else◌}
use Rattle.std.proofs.Math.Seq.{take-nil}
use Rattle.std.proofs.lemmas.List.{length-append}
use Rattle.std.proofs.lemmas.Slice.Eq.{bytes_eq-Decides}
use Rattle.std.specs.FinMap.{get, insert}
use Rattle.std.specs.List.{list_any}
use Rattle.block_refs.specs.declared.names.RelName.{RelName}
use Rattle.cluster_tree.specs.PathValue.{PathValue, below}
use Rattle.cluster_tree.specs.PathOrder.{path_eq}
use Rattle.cluster_tree.specs.Causes.{given}
use Rattle.cluster_tree.specs.Contents.{Contents, Entry, FolderEntry, FileEntry, LinkEntry, IsTree, entry_at, is_folder, or_root, parent}
use Rattle.cluster_tree.specs.Folders.{names_in}
use Rattle.cluster_tree.specs.Tree.{bytes_in, bytes_at}
use Rattle.cluster_tree.proofs.ContentsLemmas.{entry-put}
use Rattle.cluster_tree.proofs.FolderLemmas.{lies_in-below}
use Rattle.cluster_tree.proofs.NamesLemmas.{names_listing}
use Rattle.cluster_tree.proofs.OrderLemmas.{path_eq-same}
use Rattle.file_edits.specs.Asking.{file_asked, names_asked}
use Rattle.file_edits.specs.Clearing.{in_turn}
use Rattle.file_edits.specs.Edits.{cut_to, file_cut}
use Rattle.file_edits.proofs.CutLemmas.{cut-elsewhere, cut-none}
use Rattle.file_edits.proofs.EditLemmas.{same_or_other}
use Rattle.file_edits.proofs.LawLemmas.{removed-gone, removed-elsewhere, rootless}
use Rattle.relation_files.specs.Paths.{relation_folder}
use Rattle.relation_files.specs.Reading.{file_named}
use Rattle.storage_replay.specs.Cutting.{name_swept, swept, entry_swept, files_swept}
use Rattle.storage_replay.specs.declared.sweep.Sweep.{Sweep}
use Rattle.storage_replay.specs.declared.sweep.Sweep.TheVariants.{Remove, Empty}
use Rattle.storage_laws.proofs.EditedLemmas.{given-done}
use Rattle.storage_laws.proofs.NumberLemmas.{by_test, and-parts}

-- a file that is cut

pub cut-here : (path : PathValue) (size : ℕ) (c d : Contents) → file_cut path size c ≡ Ok d → bytes_at d path ≡ take size (bytes_at c path)
unfolding file_cut
cut-here path size c d made = by (entry_at c path) refl made
  where
    by : (o : Option Entry) → entry_at c path ≡ o → given (file_asked path o) (cut_to path size c) ≡ Ok d → bytes_at d path ≡ take size (bytes_at c path)
    by None at is = let same : c ≡ d = cc in ap (λ x. bytes_at x path) (sym same) ∙ ap bytes_in at ∙ sym (ap (λ o. take size (bytes_in o)) at ∙ take-nil size)
    by (Some (FolderEntry bad)) at is = absurd cc
    by (Some (FileEntry bytes)) at is =
        let same : insert c path (FileEntry (take size bytes)) ≡ d = cc in
        ap (λ x. bytes_at x path) (sym same) ∙ ap bytes_in (entry-put c path (FileEntry (take size bytes))) ∙ sym (ap (λ o. take size (bytes_in o)) at)
    by (Some LinkEntry) at is = absurd cc

-- an entry that is swept: removed, or empty

abbrev pub SweptAway : Sweep → Option Entry → Type 0
SweptAway Remove o = o ≡ None
SweptAway (Empty fork segment) o = bytes_in o ≡ []

away_none : (sweep : Sweep) → SweptAway sweep None
away_none Remove = refl
away_none (Empty fork segment) = refl

pub away-bytes : (sweep : Sweep) (o : Option Entry) → SweptAway sweep o → bytes_in o ≡ []
away-bytes Remove o e = ap bytes_in e
away-bytes (Empty fork segment) o e = e

one_away : (sweep : Sweep) (path : PathValue) (c d : Contents) → 0 < length path.parts → swept sweep path c ≡ Ok d → SweptAway sweep (entry_at d path)
one_away Remove path c d some made = removed-gone path c d some made
one_away (Empty fork segment) path c d some made = cut-here path 0 c d made

one_elsewhere : (sweep : Sweep) (path : PathValue) (c d : Contents) (q : PathValue) → swept sweep path c ≡ Ok d → q ≢ path → entry_at d q ≡ entry_at c q
one_elsewhere Remove path c d q made other = removed-elsewhere path c d q made other
one_elsewhere (Empty fork segment) path c d q made other = cut-elsewhere path 0 c d q made other

deep : (folder : PathValue) (name : List ℕ) → 0 < length (below folder (name ∷ [])).parts
deep folder name = omega (arith, length-append folder.parts (name ∷ []))

module _ (sweep : Sweep) (relation : ℕ) (folder : PathValue) where
  abbrev IsSwept : List ℕ → Type 0
  IsSwept name = name_swept sweep relation (file_named name) ≡ true

  swept_step : (name : List ℕ) (c d : Contents) → IsSwept name → entry_swept sweep relation folder name c ≡ Ok d → swept sweep (below folder (name ∷ [])) c ≡ Ok d
  unfolding entry_swept
  swept_step name c d so made = sym (ap (λ t. if t then swept sweep (below folder (name ∷ [])) c else Ok c) so) ∙ made

  by_step : {P : Type 0} (name : List ℕ) (c d : Contents) → entry_swept sweep relation folder name c ≡ Ok d → (IsSwept name → swept sweep (below folder (name ∷ [])) c ≡ Ok d → P) → (d ≡ c → P) → P
  unfolding entry_swept
  by_step {P} name c d made goes stays = by_test (name_swept sweep relation (file_named name))
      (λ so. goes so (swept_step name c d so made))
      (λ else_so. stays (let both : Ok c ≡ Ok d = sym (ap (λ t. if t then swept sweep (below folder (name ∷ [])) c else Ok c) else_so) ∙ made in let same : c ≡ d = cc in sym same))

  step_still : (name : List ℕ) (c d : Contents) (q : PathValue) → entry_swept sweep relation folder name c ≡ Ok d → (IsSwept name → q ≢ below folder (name ∷ [])) → entry_at d q ≡ entry_at c q
  step_still name c d q made other = by_step name c d made
      (λ so goes. one_elsewhere sweep (below folder (name ∷ [])) c d q goes (other so))
      (λ same. ap (λ x. entry_at x q) same)

  turn_still : (names : List (List ℕ)) (c d : Contents) (q : PathValue) → in_turn (entry_swept sweep relation folder) names c ≡ Ok d → ((name : List ℕ) → IsSwept name → q ≢ below folder (name ∷ [])) → entry_at d q ≡ entry_at c q
  unfolding in_turn
  turn_still [] c d q made other = let same : c ≡ d = cc in ap (λ x. entry_at x q) (sym same)
  turn_still (name ∷ names) c d q made other =
      let two = given-done (entry_swept sweep relation folder name c) (in_turn (entry_swept sweep relation folder) names) d made in
      turn_still names two.0 d q two.2 other ∙ step_still name c two.0 q two.1 (other name)

  step_away : (name own : List ℕ) (c d : Contents) → entry_swept sweep relation folder name c ≡ Ok d → SweptAway sweep (entry_at c (below folder (own ∷ []))) → SweptAway sweep (entry_at d (below folder (own ∷ [])))
  step_away name own c d made away = by_step name c d made
      (λ so goes. same_or_other (below folder (own ∷ [])) (below folder (name ∷ []))
      (λ e. subst (λ p. SweptAway sweep (entry_at d p)) (sym e) (one_away sweep (below folder (name ∷ [])) c d (deep folder name) goes))
      (λ n. subst (SweptAway sweep) (sym (one_elsewhere sweep (below folder (name ∷ [])) c d (below folder (own ∷ [])) goes n)) away))
      (λ same. subst (λ x. SweptAway sweep (entry_at x (below folder (own ∷ [])))) (sym same) away)

  turn_on : (names : List (List ℕ)) (own : List ℕ) (c d : Contents) → in_turn (entry_swept sweep relation folder) names c ≡ Ok d → SweptAway sweep (entry_at c (below folder (own ∷ []))) → SweptAway sweep (entry_at d (below folder (own ∷ [])))
  unfolding in_turn
  turn_on [] own c d made away = let same : c ≡ d = cc in subst (λ x. SweptAway sweep (entry_at x (below folder (own ∷ [])))) same away
  turn_on (name ∷ names) own c d made away =
      let two = given-done (entry_swept sweep relation folder name c) (in_turn (entry_swept sweep relation folder) names) d made in
      turn_on names own two.0 d two.2 (step_away name own c two.0 two.1 away)

  turn_away : (names : List (List ℕ)) (own : List ℕ) (c d : Contents) → IsSwept own → list_any (bytes_eq own) names ≡ true → in_turn (entry_swept sweep relation folder) names c ≡ Ok d → SweptAway sweep (entry_at d (below folder (own ∷ [])))
  unfolding in_turn
  turn_away [] own c d is among made = absurd cc
  turn_away (name ∷ names) own c d is among made =
      let two = given-done (entry_swept sweep relation folder name c) (in_turn (entry_swept sweep relation folder) names) d made in
      by_test (bytes_eq own name)
      (λ so.
      let same : own ≡ name = (bytes_eq-Decides own name).0 so in
      turn_on names own two.0 d two.2 (subst (λ n. SweptAway sweep (entry_at two.0 (below folder (n ∷ [])))) (sym same)
      (one_away sweep (below folder (name ∷ [])) c two.0 (deep folder name) (swept_step name c two.0 (ap (λ n. name_swept sweep relation (file_named n)) (sym same) ∙ is) two.1))))
      (λ else_so. turn_away names own two.0 d is (sym (ap (λ t. t || list_any (bytes_eq own) names) else_so) ∙ among) two.2)

-- what is there lies in a folder

pub parent-is : (folder : PathValue) (name : List ℕ) → parent (below folder (name ∷ [])) ≡ folder
parent-is folder name =
    let two = and-parts (nat_lt 0 (length (below folder (name ∷ [])).parts)) (path_eq folder (parent (below folder (name ∷ [])))) (lies_in-below folder name) in
    sym (path_eq-same folder (parent (below folder (name ∷ []))) two.1)

none_at : (c : Contents) (folder : PathValue) (name : List ℕ) → is_some (get c (below folder (name ∷ []))) ≡ false → entry_at c (below folder (name ∷ [])) ≡ None
none_at c folder name else_so = by (get c (below folder (name ∷ []))) else_so
  where
    by : (o : Option Entry) → is_some o ≡ false → or_root (below folder (name ∷ [])).parts o ≡ None
    by None h = rootless (below folder (name ∷ [])).parts (deep folder name)
    by (Some entry) h = absurd cc

pub tree-folder : (c : Contents) (folder : PathValue) (name : List ℕ) → IsTree c → entry_at c folder ≡ None → entry_at c (below folder (name ∷ [])) ≡ None
tree-folder c folder name tree none = by_test (is_some (get c (below folder (name ∷ []))))
    (λ so. absurd (true≢false (sym (tree (below folder (name ∷ [])) so) ∙ ap (λ p. is_folder (entry_at c p)) (parent-is folder name) ∙ ap is_folder none)))
    (λ else_so. none_at c folder name else_so)

-- where a relation's folder isn't there, nothing is in it
abbrev pub Lies : PathValue → RelName → Contents → Type 0
Lies root rel c = entry_at c (relation_folder root rel) ≡ None → (name : List ℕ) → entry_at c (below (relation_folder root rel) (name ∷ [])) ≡ None

pub tree-lies : (root : PathValue) (rel : RelName) (c : Contents) → IsTree c → Lies root rel c
tree-lies root rel c tree none name = tree-folder c (relation_folder root rel) name tree none

-- a file that isn't there isn't cut, and of a folder that isn't there nothing is swept

pub cut-nothing : (path : PathValue) (size : ℕ) (c d : Contents) → entry_at c path ≡ None → file_cut path size c ≡ Ok d → c ≡ d
cut-nothing path size c d none made = let both : Ok c ≡ Ok d = sym (cut-none path size c none) ∙ made in cc

pub sweep-nothing : (root : PathValue) (sweep : Sweep) (rel : RelName) (c d : Contents) → entry_at c (relation_folder root rel) ≡ None → files_swept root sweep rel c ≡ Ok d → c ≡ d
unfolding files_swept in_turn
sweep-nothing root sweep rel c d none made =
    let both : Ok c ≡ Ok d = sym (ap (λ o. given (names_asked c (relation_folder root rel) o) (λ names. in_turn (entry_swept sweep rel.relation (relation_folder root rel)) names c)) none) ∙ made in
    cc

-- a folder that is swept

pub sweep-keeps : (root : PathValue) (sweep : Sweep) (rel : RelName) (c d : Contents) (q : PathValue) → files_swept root sweep rel c ≡ Ok d → ((name : List ℕ) → name_swept sweep rel.relation (file_named name) ≡ true → q ≢ below (relation_folder root rel) (name ∷ [])) → entry_at d q ≡ entry_at c q
unfolding files_swept
sweep-keeps root sweep rel c d q made other =
    let two = given-done (names_asked c (relation_folder root rel) (entry_at c (relation_folder root rel))) (λ names. in_turn (entry_swept sweep rel.relation (relation_folder root rel)) names c) d made in
    turn_still sweep rel.relation (relation_folder root rel) two.0 c d q two.2 other

pub sweep-away : (root : PathValue) (sweep : Sweep) (rel : RelName) (name : List ℕ) (c d : Contents) → (entry_at c (relation_folder root rel) ≡ None → entry_at c (below (relation_folder root rel) (name ∷ [])) ≡ None) → name_swept sweep rel.relation (file_named name) ≡ true → files_swept root sweep rel c ≡ Ok d → SweptAway sweep (entry_at d (below (relation_folder root rel) (name ∷ [])))
unfolding files_swept
sweep-away root sweep rel name c d lies is made =
    let two = given-done (names_asked c (relation_folder root rel) (entry_at c (relation_folder root rel))) (λ names. in_turn (entry_swept sweep rel.relation (relation_folder root rel)) names c) d made in
    by (entry_at c (relation_folder root rel)) refl two.0 two.1 two.2
  where
    stays_none : (names : List (List ℕ)) → entry_at c (below (relation_folder root rel) (name ∷ [])) ≡ None → in_turn (entry_swept sweep rel.relation (relation_folder root rel)) names c ≡ Ok d → SweptAway sweep (entry_at d (below (relation_folder root rel) (name ∷ [])))
    stays_none names none run = turn_on sweep rel.relation (relation_folder root rel) names name c d run (subst (SweptAway sweep) (sym none) (away_none sweep))

    by : (o : Option Entry) → entry_at c (relation_folder root rel) ≡ o → (names : List (List ℕ)) → names_asked c (relation_folder root rel) o ≡ Ok names → in_turn (entry_swept sweep rel.relation (relation_folder root rel)) names c ≡ Ok d → SweptAway sweep (entry_at d (below (relation_folder root rel) (name ∷ [])))
    by None at names asked run = stays_none names (lies at) run
    by (Some (FolderEntry true)) at names asked run = absurd cc
    by (Some (FolderEntry false)) at names asked run =
        let listed : names_in c (relation_folder root rel) ≡ names = cc in
        let among : list_any (bytes_eq name) names ≡ is_some (get c (below (relation_folder root rel) (name ∷ []))) = ap (list_any (bytes_eq name)) (sym listed) ∙ (names_listing c (relation_folder root rel)).members name in
        by_test (is_some (get c (below (relation_folder root rel) (name ∷ []))))
        (λ so. turn_away sweep rel.relation (relation_folder root rel) names name c d is (among ∙ so) run)
        (λ else_so. stays_none names (none_at c (relation_folder root rel) name else_so) run)
    by (Some (FileEntry bytes)) at names asked run = absurd cc
    by (Some LinkEntry) at names asked run = absurd cc
