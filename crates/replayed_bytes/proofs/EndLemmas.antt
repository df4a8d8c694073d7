-- Databases that are made and dropped: what is left of files that tell a version.
use Rattle.std.proofs.Common.{◌≡◌, ◌⊎◌, ℕ, ◌<◌, true, false, List, [], ◌∷◌, ◌++◌, codes, decimal, length, Option, None, Some, Ok, inl, inr, refl, sym, ap, subst, ◌∙◌, ⊎_elim, append_assoc, arith}
use Rattle.std.proofs.lemmas.List.{append_cancel_left, length-append}
use Rattle.cluster_tree.specs.Apart.{is_held}
use Rattle.cluster_tree.specs.Contents.{Contents, Entry, FolderEntry, FileEntry, LinkEntry, IsTree, entry_at, is_file}
use Rattle.cluster_tree.specs.PathValue.{PathValue, below, path_of}
use Rattle.cluster_tree.specs.Tree.{bytes_at, bytes_in}
use Rattle.cluster_tree.proofs.RootLemmas.{holds-below}
use Rattle.file_edits.specs.Asking.{file_asked}
use Rattle.file_edits.specs.Edits.{file_edited, laid}
use Rattle.file_edits.proofs.ClearLemmas.{tree-elsewhere, tree-empty}
use Rattle.file_edits.proofs.EditLemmas.{same_or_other}
use Rattle.file_edits.proofs.LawLemmas.{edited-elsewhere, edited-stands}
use Rattle.file_walk.specs.Actions.{is_version}
use Rattle.file_walk.specs.Relations.{database_of, in_database, main_file, relation_of}
use Rattle.relation_files.specs.Paths.{database_parts}
use Rattle.relation_files.specs.Reading.{file_named}
use Rattle.storage_databases.specs.Databases.{database_dropped, database_folder, database_made, version_by, version_file, version_text}
use Rattle.storage_laws.proofs.EditedLemmas.{bytes-elsewhere, given-done}
use Rattle.storage_laws.proofs.NumberLemmas.{by_test}
use Rattle.wal_base.specs.Decimal.{decimal_number}
use Rattle.replayed_bytes.proofs.StepLemmas.{KeepsBlocks, Left, Sized, Steps, one-files, steps-same}

-- the bytes of a file that is made to tell the version
abbrev pub made_text : List ℕ
made_text = laid 0 0 version_text []

-- what stood there, or no file, or that file where nothing stood
abbrev pub Ended : Option Entry → Option Entry → Type 0
Ended o p = (p ≡ o) ⊎ ((is_file p ≡ false) ⊎ ((o ≡ None) × (p ≡ Some (FileEntry made_text))))

ended_left : (o p : Option Entry) → Left o p → Ended o p
ended_left o p (inl same) = inl same
ended_left o p (inr made) = inr (inl (ap is_file made))

some_none : (o : Option Entry) → o ≡ Some (FolderEntry false) → o ≡ None → ⊥
some_none o some none = absurd cc

ended_after : (o m p : Option Entry) → Left o m → Ended m p → Ended o p
ended_after o m p (inl same) ended = subst (λ e. Ended e p) same ended
ended_after o m p (inr made) (inl same) = inr (inl (ap is_file (same ∙ made)))
ended_after o m p (inr made) (inr (inl gone)) = inr (inl gone)
ended_after o m p (inr made) (inr (inr new)) = absurd (some_none m made new.0)

module _ (root : PathValue) where
  pub record Ends (c : Contents) (d : Contents) : Type 0 where
    pub blocks : KeepsBlocks root c d
    pub versions : (parts : List (List ℕ)) → is_version (path_of false parts) ≡ true → Ended (entry_at c (below root parts)) (entry_at d (below root parts))

  pub ends-steps : (c d : Contents) → Steps root c d → Ends c d
  ends-steps c d steps = record {
    blocks = steps.blocks;
    versions = λ parts is. ended_left (entry_at c (below root parts)) (entry_at d (below root parts)) (steps.versions parts is);
  }

  pub ends-after : (c d e : Contents) → Steps root c d → Ends d e → Ends c e
  ends-after c d e first next = record {
    blocks = λ parts at is sized. next.blocks parts at is (first.blocks parts at is sized);
    versions = λ parts is. ended_after (entry_at c (below root parts)) (entry_at d (below root parts)) (entry_at e (below root parts)) (first.versions parts is) (next.versions parts is);
  }

  -- ---- a database that is dropped

  gone : (parts : List (List ℕ)) (c d : Contents) → entry_at d (below root parts) ≡ None → Sized (bytes_at d (below root parts))
  gone parts c d none = subst (λ o. Sized (bytes_in o)) (sym none) refl

  module _ (database : ℕ) (c d : Contents) (tree : IsTree d) (made : database_dropped root database c ≡ Ok d) where
    abbrev folder : PathValue
    folder = database_folder root database

    inside : (parts : List (List ℕ)) → is_held folder (below root parts) ≡ true → entry_at d (below root parts) ≡ None
    inside parts held = tree-empty folder c d (below root parts) tree (omega (arith, length-append root.parts (database_parts database))) made held

    outside : (parts : List (List ℕ)) → is_held folder (below root parts) ≡ false → entry_at d (below root parts) ≡ entry_at c (below root parts)
    outside parts apart = tree-elsewhere folder c d (below root parts) made apart

    pub dropped-ends : Ends c d
    dropped-ends = record {
      blocks = λ parts at is sized. by_test (is_held folder (below root parts))
          (λ held. subst (λ o. Sized (bytes_in o)) (sym (inside parts held)) refl)
          (λ apart. subst (λ o. Sized (bytes_in o)) (sym (outside parts apart)) sized);
      versions = λ parts is. by_test (is_held folder (below root parts))
          (λ held. inr (inl (ap is_file (inside parts held))))
          (λ apart. inl (outside parts apart));
    }

  -- ---- and one that is made

  unnamed : file_named (codes "PG_VERSION") ≡ None
  unfolding file_named decimal_number
  unnamed = refl

  abbrev version_parts : ℕ → List (List ℕ)
  version_parts database = database_parts database ++ codes "PG_VERSION" ∷ []

  no_main : (database : ℕ) → relation_of (path_of false (version_parts database)) ≡ None
  unfolding relation_of
  no_main database = by (database_of (decimal database))
    where
      by : (o : Option ℕ) → in_database o (codes "PG_VERSION") ≡ None
      by None = refl
      by (Some n) = ap (main_file 1663 n) unnamed

  lies : (database : ℕ) → version_file root database ≡ below root (version_parts database)
  lies database = ap (path_of root.absolute) (append_assoc root.parts (database_parts database) (codes "PG_VERSION" ∷ []))

  deeper : (parts : List (List ℕ)) → 0 < length parts → length root.parts < length (below root parts).parts
  deeper parts some = omega (arith, some, length-append root.parts parts)

  none_there : (path : PathValue) (o : Option Entry) → file_asked path o ≡ Ok None → o ≡ None
  none_there path None e = refl
  none_there path (Some (FolderEntry bad)) e = absurd cc
  none_there path (Some (FileEntry bytes)) e = absurd cc
  none_there path (Some LinkEntry) e = absurd cc

  module _ (parts : List (List ℕ)) (some : 0 < length parts) (plain : relation_of (path_of false parts) ≡ None) (c d : Contents)
      (none : entry_at c (below root parts) ≡ None) (made : file_edited root (below root parts) (laid 0 0 version_text) c ≡ Ok d) where
    abbrev path : PathValue
    path = below root parts

    new : entry_at d path ≡ Some (FileEntry made_text)
    new = edited-stands root path (laid 0 0 version_text) c d (holds-below root parts) (deeper parts some) made ∙ ap (λ o. Some (FileEntry (laid 0 0 version_text (bytes_in o)))) none

    own : (q : List (List ℕ)) → below root q ≡ path → q ≡ parts
    own q same = append_cancel_left root.parts q parts (ap (λ (p : PathValue). p.parts) same)

    new_ends : Ends c d
    new_ends = record {
      blocks = λ q at is sized. same_or_other (below root q) path
          (λ same. let wrong : None ≡ Some at = sym plain ∙ ap (λ l. relation_of (path_of false l)) (sym (own q same)) ∙ is in absurd cc)
          (λ other. subst Sized (sym (bytes-elsewhere root path (laid 0 0 version_text) c d (below root q) made other)) sized);
      versions = λ q is. same_or_other (below root q) path
          (λ same. inr (inr (ap (entry_at c) same ∙ none, ap (entry_at d) same ∙ new)))
          (λ other. ended_left (entry_at c (below root q)) (entry_at d (below root q)) (⊎_elim (λ left. inl left) (λ fresh. inr fresh.2) (edited-elsewhere root path (laid 0 0 version_text) c d (below root q) made other)));
    }

  pub made-ends : (database : ℕ) (c d : Contents) → database_made root database c ≡ Ok d → Ends c d
  unfolding database_made
  made-ends database c d made =
      let file = version_file root database in
      let two = given-done (file_asked file (entry_at c file)) (version_by root file c) d made in
      by two.0 two.1 two.2
    where
      by : (found : Option (List ℕ)) → file_asked (version_file root database) (entry_at c (version_file root database)) ≡ Ok found → version_by root (version_file root database) c found ≡ Ok d → Ends c d
      by (Some bytes) told run = ends-steps c d (steps-same root c d (one-files c d run))
      by None told run =
          new_ends (version_parts database) (omega (arith, length-append (database_parts database) (codes "PG_VERSION" ∷ []))) (no_main database) c d
          (ap (entry_at c) (sym (lies database)) ∙ none_there (version_file root database) (entry_at c (version_file root database)) told)
          (subst (λ p. file_edited root p (laid 0 0 version_text) c ≡ Ok d) (lies database) run)
