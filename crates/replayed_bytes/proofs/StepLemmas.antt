-- What edits of files leave of the sizes of main forks' files, and of files that tell a version.
use Rattle.std.proofs.Common.{◌≡◌, ◌≢◌, ◌⊎◌, ℕ, ◌*◌, ◌%◌, true, false, List, [], ◌∷◌, length, take, Option, None, Some, Result, Ok, inl, inr, refl, sym, ap, subst, ◌∙◌, ⊎_elim, true≢false, arith}
use Rattle.std.proofs.lemmas.List.{append_cancel_left, length-take}
use Rattle.alike_clusters.proofs.LikeLemmas.{grown-size}
use Rattle.alike_clusters.proofs.NameLemmas.{file-lies, file-no_version, file_parts}
use Rattle.alike_clusters.proofs.StorageLemmas.{padded-size, splice-size}
use Rattle.block_refs.specs.declared.names.Fork.{Fork}
use Rattle.block_refs.specs.declared.names.RelName.{RelName}
use Rattle.cluster_tree.specs.Contents.{Contents, Entry, FolderEntry, entry_at}
use Rattle.cluster_tree.specs.PathValue.{PathValue, below, path_of}
use Rattle.cluster_tree.specs.Tree.{bytes_at, bytes_in}
use Rattle.cluster_tree.specs.declared.file_fault.FileFault.{FileFault}
use Rattle.file_edits.specs.Clearing.{in_turn}
use Rattle.file_edits.specs.Edits.{file_cut, file_edited, file_removed, padded}
use Rattle.file_edits.proofs.CutLemmas.{cut-elsewhere}
use Rattle.file_edits.proofs.EditLemmas.{same_or_other}
use Rattle.file_edits.proofs.LawLemmas.{edited-elsewhere, removed-elsewhere, removed-gone}
use Rattle.file_effects.specs.Done.{for_each}
use Rattle.file_walk.specs.Actions.{is_version}
use Rattle.file_walk.specs.Relations.{relation_of}
use Rattle.relation_files.specs.Paths.{relation_file}
use Rattle.relation_files.proofs.PathLemmas.{file-is_deeper}
use Rattle.storage_laws.proofs.EditedLemmas.{bytes-here, given-done}
use Rattle.storage_laws.proofs.SweepLemmas.{cut-here}
use Rattle.storage_replay.specs.Blocks.{block_laid, grown}

abbrev pub OkFiles : Contents → Result Contents FileFault
OkFiles c = Ok c

pub one-files : (c d : Contents) → OkFiles c ≡ OkFiles d → c ≡ d
one-files c d e = cc

-- ---- whole blocks alone

abbrev pub Sized : List ℕ → Type 0
Sized bytes = length bytes % 8192 ≡ 0

pub grown-sized : (n : ℕ) (a : List ℕ) → Sized a → Sized (grown n a)
grown-sized n a sized = ⊎_elim
    (λ full. omega (arith, full))
    (λ same. ap (λ k. k % 8192) same ∙ sized)
    (grown-size n a)

pub laid-sized : (place : ℕ) (page a : List ℕ) → length page ≡ 8192 → Sized a → Sized (block_laid place page a)
laid-sized place page a size sized =
    let front : length (grown place a) % 8192 ≡ 0 = grown-sized place a sized in
    omega (arith, front, size, splice-size (padded (place * 8192) (grown place a)) (place * 8192) page, padded-size (place * 8192) (grown place a))

take-sized : (n : ℕ) (a : List ℕ) → n % 8192 ≡ 0 → Sized a → Sized (take n a)
take-sized n a whole sized = omega (arith, whole, sized, length-take n a)

-- ---- at each path

-- what stood there, or a folder that was made
abbrev pub Left : Option Entry → Option Entry → Type 0
Left o p = (p ≡ o) ⊎ (p ≡ Some (FolderEntry false))

left_then : (o m p : Option Entry) → Left o m → Left m p → Left o p
left_then o m p first (inl same) = ⊎_elim (λ left. inl (same ∙ left)) (λ made. inr (same ∙ made)) first
left_then o m p first (inr made) = inr made

left_sized : (o p : Option Entry) → Left o p → Sized (bytes_in o) → Sized (bytes_in p)
left_sized o p (inl same) sized = subst (λ e. Sized (bytes_in e)) (sym same) sized
left_sized o p (inr made) sized = subst (λ e. Sized (bytes_in e)) (sym made) refl

module _ (root : PathValue) where
  -- files of main forks that have whole blocks alone
  abbrev pub KeepsBlocks : Contents → Contents → Type 0
  KeepsBlocks c d = (parts : List (List ℕ)) (at : RelName × ℕ) → relation_of (path_of false parts) ≡ Some at → Sized (bytes_at c (below root parts)) → Sized (bytes_at d (below root parts))

  pub record Steps (c : Contents) (d : Contents) : Type 0 where
    pub blocks : KeepsBlocks c d
    pub versions : (parts : List (List ℕ)) → is_version (path_of false parts) ≡ true → Left (entry_at c (below root parts)) (entry_at d (below root parts))

  pub steps-same : (c d : Contents) → c ≡ d → Steps c d
  steps-same c d same = subst (Steps c) same (record { blocks = λ parts at is sized. sized; versions = λ parts is. inl refl })

  pub steps-then : (c d e : Contents) → Steps c d → Steps d e → Steps c e
  steps-then c d e first next = record {
    blocks = λ parts at is sized. next.blocks parts at is (first.blocks parts at is sized);
    versions = λ parts is. left_then (entry_at c (below root parts)) (entry_at d (below root parts)) (entry_at e (below root parts)) (first.versions parts is) (next.versions parts is);
  }

  -- where but one path is another, which tells no version
  pub one-path : (parts : List (List ℕ)) (path : PathValue) (c d : Contents) → path ≡ below root parts → is_version (path_of false parts) ≡ false
      → ((at : RelName × ℕ) → relation_of (path_of false parts) ≡ Some at → Sized (bytes_at c path) → Sized (bytes_at d path))
      → ((q : PathValue) → q ≢ path → Left (entry_at c q) (entry_at d q)) → Steps c d
  one-path parts path c d lies none keeps elsewhere = record {
    blocks = λ q at is sized. same_or_other (below root q) path
        (λ same.
        subst (λ p. Sized (bytes_at d p)) (sym same)
        (keeps at (ap (λ l. relation_of (path_of false l)) (sym (own q same)) ∙ is) (subst (λ p. Sized (bytes_at c p)) same sized)))
        (λ other. left_sized (entry_at c (below root q)) (entry_at d (below root q)) (elsewhere (below root q) other) sized);
    versions = λ q is. same_or_other (below root q) path
        (λ same. absurd (true≢false (sym is ∙ ap (λ l. is_version (path_of false l)) (own q same) ∙ none)))
        (λ other. elsewhere (below root q) other);
  }
    where
      own : (q : List (List ℕ)) → below root q ≡ path → q ≡ parts
      own q same = append_cancel_left root.parts q parts (ap (λ (p : PathValue). p.parts) (same ∙ lies))

  edited_left : (path q : PathValue) (edit : List ℕ → List ℕ) (c d : Contents) → file_edited root path edit c ≡ Ok d → q ≢ path → Left (entry_at c q) (entry_at d q)
  edited_left path q edit c d made other = ⊎_elim (λ same. inl same) (λ new. inr new.2) (edited-elsewhere root path edit c d q made other)

  -- a file that is none of a main fork, and tells no version
  pub plain-edited : (parts : List (List ℕ)) (path : PathValue) (edit : List ℕ → List ℕ) (c d : Contents) → path ≡ below root parts → is_version (path_of false parts) ≡ false
      → relation_of (path_of false parts) ≡ None → file_edited root path edit c ≡ Ok d → Steps c d
  plain-edited parts path edit c d lies none plain made =
      one-path parts path c d lies none (λ at is sized. let wrong : None ≡ Some at = sym plain ∙ is in absurd cc) (λ q other. edited_left path q edit c d made other)

  pub plain-removed : (parts : List (List ℕ)) (path : PathValue) (c d : Contents) → path ≡ below root parts → is_version (path_of false parts) ≡ false
      → relation_of (path_of false parts) ≡ None → file_removed path c ≡ Ok d → Steps c d
  plain-removed parts path c d lies none plain made =
      one-path parts path c d lies none (λ at is sized. let wrong : None ≡ Some at = sym plain ∙ is in absurd cc) (λ q other. inl (removed-elsewhere path c d q made other))

  -- a file of a relation
  module _ (rel : RelName) (fork : Fork) (segment : ℕ) where
    abbrev file : PathValue
    file = relation_file root rel fork segment

    one_file : (c d : Contents) → ((at : RelName × ℕ) → relation_of (path_of false (file_parts rel fork segment)) ≡ Some at → Sized (bytes_at c file) → Sized (bytes_at d file))
        → ((q : PathValue) → q ≢ file → Left (entry_at c q) (entry_at d q)) → Steps c d
    one_file c d keeps elsewhere = one-path (file_parts rel fork segment) file c d (file-lies root rel fork segment) (file-no_version rel fork segment) keeps elsewhere

    pub file-edited : (edit : List ℕ → List ℕ) (c d : Contents)
        → ((at : RelName × ℕ) → relation_of (path_of false (file_parts rel fork segment)) ≡ Some at → (a : List ℕ) → Sized a → Sized (edit a))
        → file_edited root file edit c ≡ Ok d → Steps c d
    file-edited edit c d keeps made =
        one_file c d
        (λ at is sized. subst Sized (sym (bytes-here root rel fork segment edit c d made)) (keeps at is (bytes_at c file) sized))
        (λ q other. edited_left file q edit c d made other)

    pub file-cut : (size : ℕ) (c d : Contents) → size % 8192 ≡ 0 → file_cut file size c ≡ Ok d → Steps c d
    file-cut size c d whole made =
        one_file c d
        (λ at is sized. subst Sized (sym (cut-here file size c d made)) (take-sized size (bytes_at c file) whole sized))
        (λ q other. inl (cut-elsewhere file size c d q made other))

    pub file-removed : (c d : Contents) → file_removed file c ≡ Ok d → Steps c d
    file-removed c d made =
        one_file c d
        (λ at is sized. subst (λ o. Sized (bytes_in o)) (sym (removed-gone file c d (omega (arith, file-is_deeper root file rel fork segment refl)) made)) refl)
        (λ q other. inl (removed-elsewhere file c d q made other))

  -- one after another
  pub turn-steps : (step : List ℕ → Contents → Result Contents FileFault) → ((name : List ℕ) (c d : Contents) → step name c ≡ Ok d → Steps c d) → (names : List (List ℕ)) (c d : Contents) → in_turn step names c ≡ Ok d → Steps c d
  unfolding in_turn
  turn-steps step one [] c d made = steps-same c d (one-files c d made)
  turn-steps step one (name ∷ names) c d made =
      let two = given-done (step name c) (in_turn step names) d made in
      steps-then c two.0 d (one name c two.0 two.1) (turn-steps step one names two.0 d two.2)

  pub each-steps : {A : Type 0} (step : A → Contents → Result Contents FileFault) → ((one : A) (c d : Contents) → step one c ≡ Ok d → Steps c d) → (list : List A) (c d : Contents) → for_each step list c ≡ Ok d → Steps c d
  unfolding for_each
  each-steps step one [] c d made = steps-same c d (one-files c d made)
  each-steps step one (x ∷ list) c d made =
      let two = given-done (step x c) (for_each step list) d made in
      steps-then c two.0 d (one x c two.0 two.1) (each-steps step one list two.0 d two.2)
