-- The edits of files, where each entry is of the kind of its place.
use Rattle.std.proofs.Common.{◌≡◌, ◌≢◌, ℕ, zero, suc, ◌+◌, ◌-◌, ◌<◌, ◌≤◌, true, false, List, [], ◌∷◌, ◌++◌, length, take, Option, None, Some, Result, Ok, Err, refl, sym, ap, subst, ◌∙◌, append-nil, append_assoc, true≢false, arith}
use Rattle.std.specs.Prelude.{if◌then◌else◌}
use Rattle.std.proofs.Math.Seq.{take-append-add}
use Rattle.std.proofs.lemmas.List.{append_cancel_left, length-append, length-take}
use Rattle.std.specs.FinMap.{insert, remove}
use Rattle.cluster_tree.specs.Causes.{given, unless}
use Rattle.cluster_tree.specs.Contents.{Contents, Entry, FolderEntry, FileEntry, LinkEntry, entry_at, is_folder}
use Rattle.cluster_tree.specs.PathValue.{PathValue, below, front}
use Rattle.cluster_tree.specs.Tree.{bytes_at}
use Rattle.cluster_tree.specs.declared.file_fault.FileFault.{FileFault}
use Rattle.cluster_tree.proofs.ContentsLemmas.{entry-put, entry-put_other, entry-removed, entry-removed_other}
use Rattle.cluster_tree.proofs.OrderLemmas.{same_path}
use Rattle.file_edits.specs.Asking.{file_asked, folder_asked, names_asked, read_asked, read_of, root_refusal, size_asked}
use Rattle.file_edits.specs.Clearing.{emptied, entry_cleared, folder_cleared, full_asked, in_turn, tree_removed}
use Rattle.file_edits.specs.Edits.{cut_to, edited, file_cut, file_edited, file_removed, folder_left, folder_made, folders_between, folders_made, way_for, way_made, without}
use Rattle.file_edits.proofs.ClearLemmas.{entry-other}
use Rattle.file_edits.proofs.EditLemmas.{same_or_other}
use Rattle.file_edits.proofs.LawLemmas.{rootless}
use Rattle.cluster_laws.specs.Kinds.{AnyPlace, FilePlace, FolderPlace, HasKinds, IsAt, Place, place_of}

-- a file's place, with folders on its way
pub record IsFileAt (parts : List (List ℕ)) : Type 0 where
  pub place : place_of parts ≡ FilePlace
  pub way : (k : ℕ) → 0 < k → k < length parts → place_of (take k parts) ≡ FolderPlace
  pub some : 0 < length parts
  pub few : length parts ≤ 3

at_none : (p : Place) → IsAt p None
at_none FolderPlace = tt
at_none FilePlace = tt
at_none AnyPlace = tt

itself : (root : PathValue) → below root [] ≡ root
itself root = same_path (below root []) root refl (append-nil root.parts)

-- the root isn't below itself
not_root : (root : PathValue) (parts : List (List ℕ)) → 0 < length parts → root ≢ below root parts
not_root root parts some e = omega (arith, ap (λ (p : PathValue). length p.parts) e, length-append root.parts parts)

-- an answer, and contents of such kinds
abbrev pub IsTold : {A : Type 0} → Result A FileFault → Type 0
IsTold (Ok a) = Unit {0}
IsTold (Err e) = ⊥

module _ (root : PathValue) where
  abbrev pub Fine : Result Contents FileFault → Type 0
  Fine (Ok c) = HasKinds root c
  Fine (Err e) = ⊥

  pub given-fine : (r : Result Contents FileFault) (next : Contents → Result Contents FileFault) → Fine r → ((c : Contents) → HasKinds root c → Fine (next c)) → Fine (given r next)
  given-fine (Ok c) next fine later = later c fine
  given-fine (Err e) next fine later = absurd fine

  pub told-fine : {A : Type 0} (r : Result A FileFault) (next : A → Result Contents FileFault) → IsTold r → ((a : A) → Fine (next a)) → Fine (given r next)
  told-fine (Ok a) next told later = later a
  told-fine (Err e) next told later = absurd told

  pub told-told : {A B : Type 0} (r : Result A FileFault) (next : A → Result B FileFault) → IsTold r → ((a : A) → IsTold (next a)) → IsTold (given r next)
  told-told (Ok a) next told later = later a
  told-told (Err e) next told later = absurd told

  pub turn-fine : (step : List ℕ → Contents → Result Contents FileFault) → ((name : List ℕ) (c : Contents) → HasKinds root c → Fine (step name c)) → (names : List (List ℕ)) (c : Contents) → HasKinds root c → Fine (in_turn step names c)
  unfolding in_turn
  turn-fine step each [] c has = has
  turn-fine step each (name ∷ names) c has = given-fine (step name c) (in_turn step names) (each name c has) (turn-fine step each names)

  -- ---- an entry put, or removed

  pub put-kinds : (parts : List (List ℕ)) (v : Entry) (c : Contents) → 0 < length parts → IsAt (place_of parts) (Some v) → HasKinds root c → HasKinds root (insert c (below root parts) v)
  put-kinds parts v c some kind has = record {
    room = has.room;
    there = ap is_folder (entry-put_other c (below root parts) root v (not_root root parts some)) ∙ has.there;
    kinds = λ q. same_or_other (below root q) (below root parts)
        (λ same.
        let own : q ≡ parts = append_cancel_left root.parts q parts (ap (λ (p : PathValue). p.parts) same) in
        subst (λ l. IsAt (place_of l) (entry_at (insert c (below root parts) v) (below root l))) (sym own)
        (subst (λ o. IsAt (place_of parts) o) (sym (entry-put c (below root parts) v)) kind))
        (λ other. subst (λ o. IsAt (place_of q) o) (sym (entry-put_other c (below root parts) (below root q) v other)) (has.kinds q));
  }

  pub gone-kinds : (parts : List (List ℕ)) (c : Contents) → 0 < length parts → HasKinds root c → HasKinds root (remove c (below root parts))
  gone-kinds parts c some has = record {
    room = has.room;
    there = ap is_folder (entry-removed_other c (below root parts) root (not_root root parts some)) ∙ has.there;
    kinds = λ q. same_or_other (below root q) (below root parts)
        (λ same.
        let gone : entry_at (remove c (below root parts)) (below root q) ≡ None =
        ap (entry_at (remove c (below root parts))) same ∙ entry-removed c (below root parts) ∙ rootless (root.parts ++ parts) (omega (arith, some, length-append root.parts parts)) in
        subst (λ o. IsAt (place_of q) o) (sym gone) (at_none (place_of q)))
        (λ other. subst (λ o. IsAt (place_of q) o) (sym (entry-removed_other c (below root parts) (below root q) other)) (has.kinds q));
  }

  kind_by : (parts : List (List ℕ)) (p : Place) (c : Contents) → place_of parts ≡ p → HasKinds root c → IsAt p (entry_at c (below root parts))
  kind_by parts p c is has = subst (λ x. IsAt x (entry_at c (below root parts))) is (has.kinds parts)

  put_by : (parts : List (List ℕ)) (p : Place) (v : Entry) (c : Contents) → 0 < length parts → place_of parts ≡ p → IsAt p (Some v) → HasKinds root c → HasKinds root (insert c (below root parts) v)
  put_by parts p v c some is kind has = put-kinds parts v c some (subst (λ x. IsAt x (Some v)) (sym is) kind) has

  -- ---- folders on the way

  folder_fine : (parts : List (List ℕ)) (o : Option Entry) (c : Contents) → 0 < length parts → place_of parts ≡ FolderPlace → IsAt FolderPlace o → HasKinds root c
      → Fine (given (folder_asked (below root parts) o) (λ there. Ok (folder_left c (below root parts) there)))
  folder_fine parts None c some is kind has = put_by parts FolderPlace (FolderEntry false) c some is refl has
  folder_fine parts (Some (FolderEntry bad)) c some is kind has = has
  folder_fine parts (Some (FileEntry bytes)) c some is kind has = absurd kind
  folder_fine parts (Some LinkEntry) c some is kind has = absurd kind

  made_fine : (parts : List (List ℕ)) (c : Contents) → 0 < length parts → place_of parts ≡ FolderPlace → HasKinds root c → Fine (folder_made (below root parts) c)
  unfolding folder_made
  made_fine parts c some is has = folder_fine parts (entry_at c (below root parts)) c some is (kind_by parts FolderPlace c is has) has

  front_below : (parts : List (List ℕ)) (m : ℕ) → front (length root.parts + m) (below root parts) ≡ below root (take m parts)
  front_below parts m = same_path (front (length root.parts + m) (below root parts)) (below root (take m parts)) refl (take-append-add root.parts parts m)

  folders_fine : (parts : List (List ℕ)) → IsFileAt parts → (count n k : ℕ) → n ≡ length root.parts + k → 0 < k → k + count ≤ length parts → (c : Contents) → HasKinds root c → Fine (folders_made count n (below root parts) c)
  unfolding folders_made
  folders_fine parts at zero n k is some l c has = has
  folders_fine parts at (suc count) n k is some l c has =
      let here : front n (below root parts) ≡ below root (take k parts) = ap (λ j. front j (below root parts)) is ∙ front_below parts k in
      let long : 0 < length (take k parts) = omega (arith, length-take k parts, some, l) in
      given-fine (folder_made (front n (below root parts)) c) (folders_made count (n + 1) (below root parts))
      (subst (λ p. Fine (folder_made p c)) (sym here) (made_fine (take k parts) c long (at.way k some (omega (arith, l))) has))
      (folders_fine parts at count (n + 1) (k + 1) (omega (arith, is)) (omega arith) (omega (arith, l)))

  root_fine : (o : Option Entry) (r : Result Contents FileFault) → is_folder o ≡ true → Fine r → Fine (unless (root_refusal root o) r)
  root_fine None r h fine = absurd (true≢false (sym h))
  root_fine (Some (FolderEntry bad)) r h fine = fine
  root_fine (Some (FileEntry bytes)) r h fine = absurd (true≢false (sym h))
  root_fine (Some LinkEntry) r h fine = absurd (true≢false (sym h))

  between : (parts : List (List ℕ)) → folders_between root (below root parts) ≡ length parts - 1
  between parts = omega (arith, length-append root.parts parts)

  way_fine : (parts : List (List ℕ)) (c : Contents) → IsFileAt parts → HasKinds root c → Fine (way_made root (below root parts) c)
  unfolding way_made
  way_fine parts c at has =
      root_fine (entry_at c root) (folders_made (folders_between root (below root parts)) (length root.parts + 1) (below root parts) c) has.there
      (subst (λ n. Fine (folders_made n (length root.parts + 1) (below root parts) c)) (sym (between parts))
      (folders_fine parts at (length parts - 1) (length root.parts + 1) 1 refl (omega arith) (omega (arith, at.some)) c has))

  -- ---- files

  reached_fine : (parts : List (List ℕ)) (o : Option Entry) (c : Contents) → IsFileAt parts → IsAt FilePlace o → HasKinds root c → Fine (given (file_asked (below root parts) o) (way_for root (below root parts) c))
  reached_fine parts None c at kind has = way_fine parts c at has
  reached_fine parts (Some (FolderEntry bad)) c at kind has = absurd kind
  reached_fine parts (Some (FileEntry bytes)) c at kind has = has
  reached_fine parts (Some LinkEntry) c at kind has = absurd kind

  edit_fine : (parts : List (List ℕ)) (edit : List ℕ → List ℕ) (c : Contents) → IsFileAt parts → HasKinds root c → Fine (file_edited root (below root parts) edit c)
  unfolding file_edited
  edit_fine parts edit c at has =
      given-fine (given (file_asked (below root parts) (entry_at c (below root parts))) (way_for root (below root parts) c)) (λ d. Ok (edited (below root parts) edit d))
      (reached_fine parts (entry_at c (below root parts)) c at (kind_by parts FilePlace c at.place has) has)
      (λ d left. put_by parts FilePlace (FileEntry (edit (bytes_at d (below root parts)))) d at.some at.place tt left)

  pub edited-fine : (path : PathValue) (parts : List (List ℕ)) (edit : List ℕ → List ℕ) (c : Contents) → path ≡ below root parts → IsFileAt parts → HasKinds root c → Fine (file_edited root path edit c)
  edited-fine path parts edit c is at has = subst (λ p. Fine (file_edited root p edit c)) (sym is) (edit_fine parts edit c at has)

  gone_by : (parts : List (List ℕ)) (o : Option Entry) (c : Contents) → 0 < length parts → IsAt FilePlace o → HasKinds root c → Fine (given (file_asked (below root parts) o) (without (below root parts) c))
  gone_by parts None c some kind has = has
  gone_by parts (Some (FolderEntry bad)) c some kind has = absurd kind
  gone_by parts (Some (FileEntry bytes)) c some kind has = gone-kinds parts c some has
  gone_by parts (Some LinkEntry) c some kind has = absurd kind

  remove_fine : (parts : List (List ℕ)) (c : Contents) → 0 < length parts → place_of parts ≡ FilePlace → HasKinds root c → Fine (file_removed (below root parts) c)
  unfolding file_removed
  remove_fine parts c some is has = gone_by parts (entry_at c (below root parts)) c some (kind_by parts FilePlace c is has) has

  pub removed-fine : (path : PathValue) (parts : List (List ℕ)) (c : Contents) → path ≡ below root parts → 0 < length parts → place_of parts ≡ FilePlace → HasKinds root c → Fine (file_removed path c)
  removed-fine path parts c at some is has = subst (λ p. Fine (file_removed p c)) (sym at) (remove_fine parts c some is has)

  cut_by : (parts : List (List ℕ)) (size : ℕ) (o : Option Entry) (c : Contents) → 0 < length parts → place_of parts ≡ FilePlace → IsAt FilePlace o → HasKinds root c → Fine (given (file_asked (below root parts) o) (cut_to (below root parts) size c))
  cut_by parts size None c some is kind has = has
  cut_by parts size (Some (FolderEntry bad)) c some is kind has = absurd kind
  cut_by parts size (Some (FileEntry bytes)) c some is kind has = put_by parts FilePlace (FileEntry (take size bytes)) c some is tt has
  cut_by parts size (Some LinkEntry) c some is kind has = absurd kind

  cut_fine : (parts : List (List ℕ)) (size : ℕ) (c : Contents) → 0 < length parts → place_of parts ≡ FilePlace → HasKinds root c → Fine (file_cut (below root parts) size c)
  unfolding file_cut
  cut_fine parts size c some is has = cut_by parts size (entry_at c (below root parts)) c some is (kind_by parts FilePlace c is has) has

  pub cut-fine : (path : PathValue) (parts : List (List ℕ)) (size : ℕ) (c : Contents) → path ≡ below root parts → 0 < length parts → place_of parts ≡ FilePlace → HasKinds root c → Fine (file_cut path size c)
  cut-fine path parts size c at some is has = subst (λ p. Fine (file_cut p size c)) (sym at) (cut_fine parts size c some is has)

  -- ---- what is asked

  file_told : (path : PathValue) (o : Option Entry) → IsAt FilePlace o → IsTold (file_asked path o)
  file_told path None kind = tt
  file_told path (Some (FolderEntry bad)) kind = absurd kind
  file_told path (Some (FileEntry bytes)) kind = tt
  file_told path (Some LinkEntry) kind = absurd kind

  pub asked-told : (path : PathValue) (parts : List (List ℕ)) (c : Contents) → path ≡ below root parts → place_of parts ≡ FilePlace → HasKinds root c → IsTold (file_asked path (entry_at c path))
  asked-told path parts c at is has = file_told path (entry_at c path) (subst (λ p. IsAt FilePlace (entry_at c p)) (sym at) (kind_by parts FilePlace c is has))

  size_by : (r : Result (Option (List ℕ)) FileFault) → IsTold r → IsTold (size_asked r)
  size_by (Ok found) told = tt
  size_by (Err e) told = absurd told

  pub size-told : (path : PathValue) (parts : List (List ℕ)) (c : Contents) → path ≡ below root parts → place_of parts ≡ FilePlace → HasKinds root c → IsTold (size_asked (file_asked path (entry_at c path)))
  size-told path parts c at is has = size_by (file_asked path (entry_at c path)) (asked-told path parts c at is has)

  read_by : (at n : ℕ) (bytes : List ℕ) (r : Result (Option (List ℕ)) FileFault) → IsTold r → IsTold (read_of at n bytes r)
  read_by at n bytes (Ok found) told = tt
  read_by at n bytes (Err e) told = absurd told

  pub read-told : (path : PathValue) (parts : List (List ℕ)) (from n : ℕ) (c : Contents) → path ≡ below root parts → place_of parts ≡ FilePlace → HasKinds root c → IsTold (read_asked c path from n)
  read-told path parts from n c at is has = read_by from n (bytes_at c path) (file_asked path (entry_at c path)) (asked-told path parts c at is has)

  names_by : (c : Contents) (path : PathValue) (o : Option Entry) → IsAt FolderPlace o → IsTold (names_asked c path o)
  names_by c path None kind = tt
  names_by c path (Some (FolderEntry true)) kind = absurd (true≢false kind)
  names_by c path (Some (FolderEntry false)) kind = tt
  names_by c path (Some (FileEntry bytes)) kind = absurd kind
  names_by c path (Some LinkEntry) kind = absurd kind

  pub names-told : (path : PathValue) (parts : List (List ℕ)) (c : Contents) → path ≡ below root parts → place_of parts ≡ FolderPlace → HasKinds root c → IsTold (names_asked c path (entry_at c path))
  names-told path parts c at is has = names_by c path (entry_at c path) (subst (λ p. IsAt FolderPlace (entry_at c p)) (sym at) (kind_by parts FolderPlace c is has))

  -- ---- a folder of files alone that is removed with all that it holds

  full_by : (path : PathValue) (o : Option Entry) → IsAt FilePlace o → full_asked path o ≡ Ok false
  full_by path None kind = refl
  full_by path (Some (FolderEntry bad)) kind = absurd kind
  full_by path (Some (FileEntry bytes)) kind = refl
  full_by path (Some LinkEntry) kind = absurd kind

  module _ (parts : List (List ℕ)) (some : 0 < length parts) (few : length parts ≤ 2) (folder : place_of parts ≡ FolderPlace) (files : (name : List ℕ) → place_of (parts ++ name ∷ []) ≡ FilePlace) where
    child : (name : List ℕ) → below (below root parts) (name ∷ []) ≡ below root (parts ++ name ∷ [])
    child name = same_path (below (below root parts) (name ∷ [])) (below root (parts ++ name ∷ [])) refl (append_assoc root.parts parts (name ∷ []))

    entry_fine : (deeper : ℕ) → 0 < deeper → (name : List ℕ) (c : Contents) → HasKinds root c → Fine (entry_cleared deeper (below root parts) name c)
    entry_fine deeper room name c has =
        subst Fine
        (sym (entry-other deeper (below root parts) name c room
        (full_by (below (below root parts) (name ∷ [])) (entry_at c (below (below root parts) (name ∷ []))) (subst (λ p. IsAt FilePlace (entry_at c p)) (sym (child name)) (kind_by (parts ++ name ∷ []) FilePlace c (files name) has)))))
        (removed-fine (below (below root parts) (name ∷ [])) (parts ++ name ∷ []) c (child name) (omega (arith, length-append parts (name ∷ []))) (files name) has)

    cleared_fine : (deeper : ℕ) → 0 < deeper → (c : Contents) → HasKinds root c → Fine (folder_cleared deeper (below root parts) c)
    cleared_fine deeper room c has =
        told-fine (names_asked c (below root parts) (entry_at c (below root parts))) (λ names. emptied (entry_cleared deeper (below root parts)) (below root parts) names c)
        (names-told (below root parts) parts c refl folder has)
        (λ names. given-fine (in_turn (entry_cleared deeper (below root parts)) names c) (λ d. Ok (remove d (below root parts)))
        (turn-fine (entry_cleared deeper (below root parts)) (entry_fine deeper room) names c has) (λ d left. gone-kinds parts d some left))

    folder_told : (path : PathValue) (o : Option Entry) → IsAt FolderPlace o → IsTold (folder_asked path o)
    folder_told path None kind = tt
    folder_told path (Some (FolderEntry bad)) kind = tt
    folder_told path (Some (FileEntry bytes)) kind = absurd kind
    folder_told path (Some LinkEntry) kind = absurd kind

    pub tree-fine : (c : Contents) → HasKinds root c → Fine (tree_removed (below root parts) c)
    unfolding tree_removed
    tree-fine c has =
        told-fine (folder_asked (below root parts) (entry_at c (below root parts))) (λ there. if there then folder_cleared (64 - length (below root parts).parts) (below root parts) c else Ok c)
        (folder_told (below root parts) (entry_at c (below root parts)) (kind_by parts FolderPlace c folder has))
        (λ there. elim there as (λ t. Fine (if t then folder_cleared (64 - length (below root parts).parts) (below root parts) c else Ok c)) [
          | true ↦ cleared_fine (64 - length (below root parts).parts) (omega (arith, length-append root.parts parts, has.room, few)) c has
          | false ↦ has
        ])
