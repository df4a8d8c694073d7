-- Why the removal of a folder with all that it holds is refused: by an entry's kind, or by a path too deep.
use Rattle.std.proofs.Common.{◌≡◌, ◌≢◌, ◌⊎◌, ℕ, zero, suc, ◌+◌, ◌-◌, ◌<◌, ◌≤◌, true, false, List, [], ◌∷◌, length, bytes_eq, Option, None, Some, Result, Ok, Err, is_some, refl, ap, sym, ◌∙◌, inl, inr, ⊎_elim, arith, true≢false}
use Rattle.std.specs.Prelude.{if◌then◌else◌}
use Rattle.std.specs.Cmp.Lexicographic.{bytes_decides}
use Rattle.std.specs.FinMap.{get, remove}
use Rattle.std.specs.List.{list_any}
use Rattle.std.proofs.lemmas.Bool.{or_left}
use Rattle.std.proofs.lemmas.List.{length-append}
use Rattle.cluster_tree.specs.PathValue.{PathValue, below}
use Rattle.cluster_tree.specs.Contents.{Contents, Entry, FolderEntry, FileEntry, LinkEntry, or_root, entry_at}
use Rattle.cluster_tree.specs.Causes.{given}
use Rattle.cluster_tree.specs.Folders.{names_in}
use Rattle.cluster_tree.specs.declared.file_fault.FileFault.{FileFault}
use Rattle.cluster_tree.specs.declared.file_fault.FileFault.TheVariants as fault
use Rattle.cluster_tree.proofs.NamesLemmas.{names_listing}
use Rattle.file_edits.specs.Alike.{IsShallow}
use Rattle.file_edits.specs.Asking.{file_asked, folder_asked, names_asked}
use Rattle.file_edits.specs.Clearing.{full_asked, in_turn, emptied, cleared_by, entry_cleared, folder_cleared, tree_removed}
use Rattle.file_edits.specs.Edits.{without, file_removed}
use Rattle.file_edits.proofs.AskLemmas.{is_of_kind, file-kind, folder-kind, names-kind}
use Rattle.file_edits.proofs.ClearLemmas.{Fewer, held-own, held-above, clears_entry}

-- a refusal that is no matter of an entry's kind
abbrev IsOther : FileFault → Type 0
IsOther e = is_of_kind e ≡ false

no_kind : (e : FileFault) → IsOther e → is_of_kind e ≡ true → ⊥
no_kind e other is = true≢false (sym is ∙ other)

full-kind : (path : PathValue) (o : Option Entry) (e : FileFault) → full_asked path o ≡ Err e → is_of_kind e ≡ true
full-kind path None e is = absurd cc
full-kind path (Some (FolderEntry bad)) e is = absurd cc
full-kind path (Some (FileEntry bytes)) e is = absurd cc
full-kind path (Some LinkEntry) e is = let same : fault.Link path ≡ e = cc in ap is_of_kind (sym same)

removed-kind : (path : PathValue) (c : Contents) (e : FileFault) → file_removed path c ≡ Err e → is_of_kind e ≡ true
unfolding file_removed
removed-kind path c e is =
    elim (file_asked path (entry_at c path)) as (λ r. file_asked path (entry_at c path) ≡ r → given r (without path c) ≡ Err e → is_of_kind e ≡ true) [
      | Ok found ↦ elim found as (λ o. file_asked path (entry_at c path) ≡ Ok o → without path c o ≡ Err e → is_of_kind e ≡ true) [ None ↦ λ told rest. absurd cc | Some bytes ↦ λ told refused. absurd cc ]
      | Err f ↦ λ told rest. let same : f ≡ e = cc in file-kind path (entry_at c path) e (told ∙ ap (λ x. Err x) same)
    ] refl is

-- while something holds that each step keeps, no step gives this refusal
record Avoids (holds : Contents → Type 0) (step : List ℕ → Contents → Result Contents FileFault) (e : FileFault) : Type 0 where
  keeps : (name : List ℕ) (c d : Contents) → holds c → step name c ≡ Ok d → holds d
  never : (name : List ℕ) (c : Contents) → holds c → step name c ≡ Err e → ⊥

turn_avoids : (holds : Contents → Type 0) (step : List ℕ → Contents → Result Contents FileFault) (e : FileFault) (names : List (List ℕ)) (c : Contents) → Avoids holds step e → holds c → in_turn step names c ≡ Err e → ⊥
unfolding in_turn
turn_avoids holds step e [] c avoids is refused = absurd cc
turn_avoids holds step e (name ∷ names) c avoids is refused =
    elim (step name c) as (λ r. step name c ≡ r → given r (in_turn step names) ≡ Err e → ⊥) [
      | Ok d ↦ λ told rest. turn_avoids holds step e names d avoids (avoids.keeps name c d is told) rest
      | Err f ↦ λ told rest. let same : f ≡ e = cc in avoids.never name c is (told ∙ ap (λ x. Err x) same)
    ] refl refused

-- of a folder without names there is no step
turn_none : (step : List ℕ → Contents → Result Contents FileFault) (e : FileFault) (c : Contents) → in_turn step [] c ≡ Err e → ⊥
unfolding in_turn
turn_none step e c refused = absurd cc

cleared_avoids : (step : List ℕ → Contents → Result Contents FileFault) (folder : PathValue) (e : FileFault) (c : Contents) → IsOther e → ((names : List (List ℕ)) → names_asked c folder (entry_at c folder) ≡ Ok names → in_turn step names c ≡ Err e → ⊥) → cleared_by step folder c ≡ Err e → ⊥
cleared_avoids step folder e c other never refused =
    elim (names_asked c folder (entry_at c folder)) as (λ r. names_asked c folder (entry_at c folder) ≡ r → given r (λ names. emptied step folder names c) ≡ Err e → ⊥) [
      | Ok names ↦ λ told. elim (in_turn step names c) as (λ r. in_turn step names c ≡ r → given r (λ d. Ok (remove d folder)) ≡ Err e → ⊥) [
        | Ok d ↦ λ turn rest. absurd cc
        | Err f ↦ λ turn rest. let same : f ≡ e = cc in never names told (turn ∙ ap (λ x. Err x) same)
      ] refl
      | Err f ↦ λ told rest. let same : f ≡ e = cc in no_kind e other (names-kind c folder (entry_at c folder) e (told ∙ ap (λ x. Err x) same))
    ] refl refused

-- paths below a folder that are not too deep

bare : (parts : List (List ℕ)) → is_some (or_root parts None) ≡ true → length parts ≤ 64
bare [] e = omega arith
bare (part ∷ parts) e = absurd (true≢false (sym e))

still_shallow : (folder path : PathValue) (c d : Contents) → Fewer path c d → IsShallow c folder → IsShallow d folder
still_shallow folder path c d fewer shallow q held there = ⊎_elim
    (λ same. shallow q held (ap is_some (ap (or_root q.parts) (sym same)) ∙ there))
    (λ gone. bare q.parts (ap is_some (ap (or_root q.parts) (sym gone.1)) ∙ there))
    (fewer q)

-- a name in a folder leads to a path that is there
deep_enough : (k : ℕ) (folder : PathValue) (c : Contents) (o : Option Entry) (name : List ℕ) (names : List (List ℕ)) → o ≡ entry_at c folder → names_asked c folder o ≡ Ok (name ∷ names) → 64 ≤ length folder.parts + k → IsShallow c folder → 0 < k
deep_enough k folder c None name names at asked room shallow = absurd cc
deep_enough k folder c (Some (FolderEntry true)) name names at asked room shallow = absurd cc
deep_enough k folder c (Some (FolderEntry false)) name names at asked room shallow =
    let q : PathValue = below folder (name ∷ []) in
    let listed : names_in c folder ≡ name ∷ names = cc in
    let own : bytes_eq name name ≡ true = (bytes_decides name name).1 refl in
    let among : list_any (bytes_eq name) (name ∷ names) ≡ true = or_left (bytes_eq name name) (list_any (bytes_eq name) names) own in
    let there : is_some (get c q) ≡ true = sym ((names_listing c folder).members name) ∙ ap (list_any (bytes_eq name)) listed ∙ among in
    let short = shallow q (held-above folder name q (held-own q)) (stands q.parts (get c q) there) in
    omega (arith, short, length-append folder.parts (name ∷ []))
  where
    stands : (parts : List (List ℕ)) (o : Option Entry) → is_some o ≡ true → is_some (or_root parts o) ≡ true
    stands parts None e = absurd (true≢false (sym e))
    stands parts (Some v) e = refl
deep_enough k folder c (Some (FileEntry bytes)) name names at asked room shallow = absurd cc
deep_enough k folder c (Some LinkEntry) name names at asked room shallow = absurd cc

-- a refusal that isn't one of depth, or one where no path below is too deep
abbrev NotDeep : FileFault → PathValue → Contents → Type 0
NotDeep e folder c = ((q : PathValue) → e ≢ fault.TooDeep q) ⊎ IsShallow c folder

not_deep_below : (e : FileFault) (folder : PathValue) (name : List ℕ) (c : Contents) → NotDeep e folder c → NotDeep e (below folder (name ∷ [])) c
not_deep_below e folder name c (inl not) = inl not
not_deep_below e folder name c (inr shallow) = inr (λ q held. shallow q (held-above folder name q held))

still_not_deep : (e : FileFault) (folder path : PathValue) (c d : Contents) → Fewer path c d → NotDeep e folder c → NotDeep e folder d
still_not_deep e folder path c d fewer (inl not) = inl not
still_not_deep e folder path c d fewer (inr shallow) = inr (still_shallow folder path c d fewer shallow)

-- room for one part more is there, where the refusal could be one of depth
abbrev HasRoom : FileFault → ℕ → Type 0
HasRoom e k = ((q : PathValue) → e ≢ fault.TooDeep q) ⊎ (0 < k)

room_for : (e : FileFault) (k : ℕ) (folder : PathValue) (c : Contents) (name : List ℕ) (names : List (List ℕ)) → names_asked c folder (entry_at c folder) ≡ Ok (name ∷ names) → 64 ≤ length folder.parts + k → NotDeep e folder c → HasRoom e k
room_for e k folder c name names asked room (inl not) = inl not
room_for e k folder c name names asked room (inr shallow) = inr (deep_enough k folder c (entry_at c folder) name names refl asked room shallow)

-- the names of a folder in turn
names_avoid : (e : FileFault) (k : ℕ) (folder : PathValue) (c : Contents) (names : List (List ℕ)) → 64 ≤ length folder.parts + k → NotDeep e folder c → (HasRoom e k → (name : List ℕ) (d : Contents) → NotDeep e folder d → entry_cleared k folder name d ≡ Err e → ⊥) → names_asked c folder (entry_at c folder) ≡ Ok names → in_turn (entry_cleared k folder) names c ≡ Err e → ⊥
names_avoid e k folder c [] room free never asked refused = turn_none (entry_cleared k folder) e c refused
names_avoid e k folder c (name ∷ names) room free never asked refused =
    turn_avoids (NotDeep e folder) (entry_cleared k folder) e (name ∷ names) c
    (record {
      keeps = λ n x y is done. still_not_deep e folder (below folder (n ∷ [])) x y (clears_entry k folder n x y done) is;
      never = never (room_for e k folder c name names asked room free);
    }) free refused

entry_avoids : (e : FileFault) (k : ℕ) (folder : PathValue) → IsOther e → 64 ≤ length folder.parts + k → HasRoom e k → (name : List ℕ) (c : Contents) → NotDeep e folder c → entry_cleared k folder name c ≡ Err e → ⊥
unfolding entry_cleared
entry_avoids e zero folder other room (inl not) name c free refused = let same : e ≡ fault.TooDeep folder = cc in not folder same
entry_avoids e zero folder other room (inr some) name c free refused = absurd (omega arith)
entry_avoids e (suc k) folder other room has name c free refused =
    let path : PathValue = below folder (name ∷ []) in
    let longer : 64 ≤ length path.parts + k = omega (arith, length-append folder.parts (name ∷ [])) in
    elim (full_asked path (entry_at c path)) as (λ r. full_asked path (entry_at c path) ≡ r → given r (λ full. if full then cleared_by (entry_cleared k path) path c else file_removed path c) ≡ Err e → ⊥) [
      | Ok is ↦ λ told. elim is as (λ b. (if b then cleared_by (entry_cleared k path) path c else file_removed path c) ≡ Err e → ⊥) [
        | true ↦ λ rest. cleared_avoids (entry_cleared k path) path e c other
            (λ names asked turn. names_avoid e k path c names longer (not_deep_below e folder name c free) (λ space. entry_avoids e k path other longer space) asked turn) rest
        | false ↦ λ rest. no_kind e other (removed-kind path c e rest)
      ]
      | Err f ↦ λ told rest. let same : f ≡ e = cc in no_kind e other (full-kind path (entry_at c path) e (told ∙ ap (λ x. Err x) same))
    ] refl refused

tree_avoids : (e : FileFault) (path : PathValue) (c : Contents) → IsOther e → NotDeep e path c → tree_removed path c ≡ Err e → ⊥
unfolding tree_removed
tree_avoids e path c other free refused =
    let k : ℕ = 64 - length path.parts in
    let room : 64 ≤ length path.parts + k = omega arith in
    elim (folder_asked path (entry_at c path)) as (λ r. folder_asked path (entry_at c path) ≡ r → given r (λ there. if there then folder_cleared k path c else Ok c) ≡ Err e → ⊥) [
      | Ok is ↦ λ told. elim is as (λ b. (if b then folder_cleared k path c else Ok c) ≡ Err e → ⊥) [
        | true ↦ λ rest. cleared_avoids (entry_cleared k path) path e c other (λ names asked turn. names_avoid e k path c names room free (λ space. entry_avoids e k path other room space) asked turn) rest
        | false ↦ λ rest. absurd cc
      ]
      | Err f ↦ λ told rest. let same : f ≡ e = cc in no_kind e other (folder-kind path (entry_at c path) e (told ∙ ap (λ x. Err x) same))
    ] refl refused

-- no refusal tells of a change
pub tree-unchanged : (path : PathValue) (c : Contents) (p : PathValue) → tree_removed path c ≡ Err (fault.Changed p) → ⊥
tree-unchanged path c p refused = tree_avoids (fault.Changed p) path c refl (inl (λ q e. absurd cc)) refused

-- nor of depth, where no path below is too deep
pub tree-shallow : (path : PathValue) (c : Contents) (p : PathValue) → IsShallow c path → tree_removed path c ≡ Err (fault.TooDeep p) → ⊥
tree-shallow path c p shallow refused = tree_avoids (fault.TooDeep p) path c refl (inr shallow) refused
