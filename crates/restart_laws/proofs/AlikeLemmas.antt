-- With the mark and the copies laid a cluster is alike itself, and whole, as it was; and what is brought back is alike that.
use Rattle.std.proofs.Common.{◌≡◌, ℕ, ◌*◌, ◌/◌, ◌%◌, ◌==◌, Bool, true, false, ◌&&◌, nat_lt, List, [], ◌∷◌, ◌++◌, bytes_eq, codes, decimal, drop, length, take, Option, None, Some, is_some, inl, refl, ap, sym, subst, ◌∙◌, ⊎_elim, true≢false, append_assoc}
use Rattle.std.proofs.lemmas.List.{append_cancel_left}
use Rattle.std.specs.Prelude.{if◌then◌else◌}
use Rattle.std.specs.FinMap.{get}
use Rattle.alike_clusters.specs.Clusters.{AlikeClusters, is_alike}
use Rattle.alike_clusters.proofs.LikeLemmas.{like-plain, same-size}
use Rattle.alike_clusters.proofs.NameLemmas.{file-lies, file-no_version, file_parts}
use Rattle.areas_alone.specs.Alone.{areas_of}
use Rattle.block_refs.specs.declared.names.BlockName.{BlockName}
use Rattle.block_refs.specs.declared.names.Fork.{Fork}
use Rattle.block_refs.specs.declared.names.Fork.TheVariants.{Main}
use Rattle.block_refs.specs.declared.names.RelName.{RelName}
use Rattle.cluster_tree.specs.Apart.{is_held}
use Rattle.cluster_tree.specs.Contents.{Contents, Entry, FileEntry, FolderEntry, IsTree, LinkEntry, entry_at, is_folder, or_root, parent}
use Rattle.cluster_tree.specs.PathValue.{PathValue, below, path_of}
use Rattle.cluster_tree.specs.Tree.{bytes_at, bytes_in}
use Rattle.cluster_tree.proofs.HoldLemmas.{held-holds}
use Rattle.cluster_tree.proofs.RootLemmas.{held-below}
use Rattle.file_edits.specs.Alike.{AlikeEntries, Files, Folders, Links, Neither}
use Rattle.file_effects.specs.Own.{is_at}
use Rattle.file_walk.specs.Actions.{here}
use Rattle.file_walk.specs.Relations.{database_of, in_database, main_of, relation_of}
use Rattle.file_walk.proofs.RelationLemmas.{relation_read}
use Rattle.mark_lines.specs.Paths.{parts_below}
use Rattle.relation_files.specs.Names.{name_of}
use Rattle.relation_files.specs.Paths.{database_parts, global_parts, relation_file}
use Rattle.replay_areas.proofs.FoundLemmas.{area_seen}
use Rattle.replay_areas.proofs.ListLemmas.{list_is}
use Rattle.replay_copies.specs.Laid.{is_laid_at}
use Rattle.replay_laws.specs.Whole.{AreWhole}
use Rattle.replay_list.specs.declared.listed.Listed.{Listed}
use Rattle.replay_restart.proofs.PlaceLemmas.{laid-not_restored, laid-top}
use Rattle.replay_restore.specs.Listing.{is_named, is_restored_at}
use Rattle.replay_start.specs.Checked.{Start}
use Rattle.replayed_bytes.specs.Bytes.{HasWholeBlocks, HaveSameVersions}
use Rattle.replayed_bytes.proofs.WholeLemmas.{walked-whole}
use Rattle.restart_start.specs.Beginning.{without_own}
use Rattle.restored_laws.specs.Back.{IsBack, IsResized, SameBeside}
use Rattle.restored_laws.proofs.AlikeLemmas.{back-alike, back-versions}
use Rattle.restored_laws.proofs.BackLemmas.{restored-below}
use Rattle.rmgr_hooks.specs.Custom.{Extension}
use Rattle.storage_laws.specs.Names.{block_of}
use Rattle.storage_laws.specs.States.{block_in, whole_block}
use Rattle.storage_laws.proofs.TruncateLemmas.{gapless-alike}
use Rattle.restart_laws.specs.Stopped.{IsServed, WasBegun}
use Rattle.restart_laws.proofs.BegunLemmas.{named-seen, parts-seen}

-- ---- which paths are which

pub not-laid_named : (root path : PathValue) → is_restored_at root path ≡ true → is_laid_at root path ≡ false
not-laid_named root path named = by (is_laid_at root path) refl
  where
    by : (b : Bool) → is_laid_at root path ≡ b → b ≡ false
    by true is = absurd (true≢false (sym named ∙ laid-not_restored root path is))
    by false is = refl

-- at an entry of the root that is neither global nor base lies no file of a main fork
no_main : (name : List ℕ) → bytes_eq name (codes "global") ≡ false → bytes_eq name (codes "base") ≡ false → (more : List (List ℕ)) → relation_of (path_of false (name ∷ more)) ≡ None
unfolding relation_of
no_main name global base [] = refl
no_main name global base (a ∷ []) = ap (λ b. if b then main_of 1664 0 a else None) global
no_main name global base (a ∷ b ∷ []) = ap (λ t. if t then in_database (database_of a) b else None) base
no_main name global base (a ∷ b ∷ e ∷ more) = refl

-- the parts of a path at an entry of the root
pub at-parts : (root : PathValue) (parts : List (List ℕ)) (name : List ℕ) → is_at root name (below root parts) ≡ true → (more : List (List ℕ)) × (parts ≡ name ∷ more)
at-parts root parts name at =
    let more = parts_below (below root (name ∷ [])) (below root parts) in
    let is : below root parts ≡ below root (name ∷ more) = held-below (below root (name ∷ [])) (below root parts) (held-holds (below root (name ∷ [])) (below root parts) at)
    ∙ ap (path_of root.absolute) (append_assoc root.parts (name ∷ []) more) in
    (more, append_cancel_left root.parts parts (name ∷ more) (ap (λ (p : PathValue). p.parts) is))

top_main : (root : PathValue) (parts : List (List ℕ)) (name : List ℕ) → bytes_eq name (codes "global") ≡ false → bytes_eq name (codes "base") ≡ false
    → is_at root name (below root parts) ≡ true → relation_of (path_of false parts) ≡ None
top_main root parts name global base at =
    let one = at-parts root parts name at in
    ap (λ l. relation_of (path_of false l)) one.1 ∙ no_main name global base one.0

laid_main : (root : PathValue) (parts : List (List ℕ)) → is_laid_at root (below root parts) ≡ true → relation_of (path_of false parts) ≡ None
laid_main root parts laid =
    laid-top root (below root parts) laid
    (top_main root parts (codes "pg_walreplay.unfinished") refl refl) (top_main root parts (codes "pg_walreplay.shadow") refl refl)

-- files of relations lie in areas
pub file-named : (rel : RelName) (fork : Fork) (segment : ℕ) → is_named (file_parts rel fork segment) ≡ true
file-named rel fork segment = by (rel.space == 1664)
  where
    by : (t : Bool) → is_named ((if t then global_parts else database_parts rel.database) ++ name_of rel.relation fork segment ∷ []) ≡ true
    by true = refl
    by false = refl

file_seen : (c : Contents) (root : PathValue) (rel : RelName) (fork : Fork) (segment : ℕ) → entry_at (areas_of c root) (below root (file_parts rel fork segment)) ≡ entry_at c (below root (file_parts rel fork segment))
file_seen c root rel fork segment = by (rel.space == 1664)
  where
    by : (t : Bool) → entry_at (areas_of c root) (below root ((if t then global_parts else database_parts rel.database) ++ name_of rel.relation fork segment ∷ []))
        ≡ entry_at c (below root ((if t then global_parts else database_parts rel.database) ++ name_of rel.relation fork segment ∷ []))
    by true = area_seen c root (codes "global") (name_of rel.relation fork segment ∷ []) refl
    by false = area_seen c root (codes "base") (decimal rel.database ∷ name_of rel.relation fork segment ∷ []) refl

-- ---- with the mark and the copies laid

plain_own : (per : ℕ) (parts : List (List ℕ)) → relation_of (path_of false parts) ≡ None → (o : Option Entry) → AlikeEntries (is_alike per parts) o o
plain_own per parts none None = Neither
plain_own per parts none (Some (FolderEntry bad)) = Folders bad
plain_own per parts none (Some (FileEntry bytes)) = Files bytes bytes (like-plain per parts none bytes)
plain_own per parts none (Some LinkEntry) = Links

some_block : (place : ℕ) (a b : List ℕ) → length a ≡ length b → is_some (whole_block place b) ≡ is_some (whole_block place a)
some_block place a b same = told (nat_lt place (length b / 8192)) b ∙ sym (ap (λ n. nat_lt place (n / 8192)) same) ∙ sym (told (nat_lt place (length a / 8192)) a)
  where
    told : (t : Bool) (bytes : List ℕ) → is_some (if t then Some (take 8192 (drop (place * 8192) bytes)) else None) ≡ t
    told true bytes = refl
    told false bytes = refl

module _ (custom : Option Extension) (root : PathValue) (s : Start) (listed : List Listed) (c d : Contents) (begun : WasBegun custom root s listed c d) where
  abbrev e : Contents
  e = without_own c root

  first_file : (rel : RelName) (fork : Fork) (segment : ℕ) → entry_at d (below root (file_parts rel fork segment)) ≡ entry_at c (below root (file_parts rel fork segment))
  first_file rel fork segment =
      begun.laid.elsewhere (below root (file_parts rel fork segment)) (not-laid_named root (below root (file_parts rel fork segment)) (restored-below root (file_parts rel fork segment) ∙ file-named rel fork segment))

  -- as a walk found them
  pub whole-blocks : HasWholeBlocks d root
  whole-blocks parts at is =
      let of = list_is e root listed begun.may.lists in
      let file = relation_read (path_of false parts) at.0 at.1 is in
      let own : parts ≡ file_parts at.0 Main at.1 = ap (λ (p : PathValue). p.parts) (file.lies ∙ file-lies here at.0 Main at.1) in
      let path = below root (file_parts at.0 Main at.1) in
      ap (λ o. length (bytes_in o) % 8192)
      (ap (λ l. entry_at d (below root l)) own ∙ first_file at.0 Main at.1
      ∙ sym (named-seen c root path (restored-below root (file_parts at.0 Main at.1) ∙ file-named at.0 Main at.1)) ∙ sym (file_seen e root at.0 Main at.1) ∙ ap (λ l. entry_at (areas_of e root) (below root l)) (sym own))
      ∙ walked-whole (areas_of e root) root of.entries (parts-seen c root begun.proper) of.told parts at is

  module _ (per : ℕ) (served : IsServed root per c) where
    own_at : (parts : List (List ℕ)) (t : Bool) → is_laid_at root (below root parts) ≡ t → AlikeEntries (is_alike per parts) (entry_at d (below root parts)) (entry_at d (below root parts))
    own_at parts true laid = plain_own per parts (laid_main root parts laid) (entry_at d (below root parts))
    own_at parts false off = subst (λ o. AlikeEntries (is_alike per parts) o o) (sym (begun.laid.elsewhere (below root parts) off)) (served.bounded.alike parts)

    pub alike-own : AlikeClusters per d root d root
    alike-own = record {
      alike = λ parts. own_at parts (is_laid_at root (below root parts)) refl;
      deep = inl refl;
      room = served.bounded.room;
      other_room = served.bounded.other_room;
    }

    block_laid : (name : BlockName) → block_in root per name d ≡ block_in root per name c
    block_laid name =
        ap (λ o. whole_block (name.block % per) (bytes_in o))
        (ap (entry_at d) (file-lies root name.rel name.fork (name.block / per)) ∙ first_file name.rel name.fork (name.block / per) ∙ ap (entry_at c) (sym (file-lies root name.rel name.fork (name.block / per))))

    pub whole-laid : AreWhole root per d
    whole-laid = record {
      tree = begun.laid_tree;
      no_gap = λ rel fork small. gapless-alike root per rel fork c d (λ n below. ap is_some (block_laid (block_of rel fork n))) (served.whole.no_gap rel fork small);
    }

    -- ---- what has all back

    module _ (x b : Contents) (back : IsBack root d x b) (beside : SameBeside root d b) where
      pub alike-back : AlikeClusters per d root b root
      alike-back = back-alike per root d x b back alike-own

      pub versions-back : HaveSameVersions d root b root
      versions-back = back-versions per root d x b back

      size_back : (rel : RelName) (fork : Fork) (segment : ℕ) → length (bytes_at d (relation_file root rel fork segment)) ≡ length (bytes_at b (relation_file root rel fork segment))
      size_back rel fork segment =
          ap (λ p. length (bytes_at d p)) (file-lies root rel fork segment)
          ∙ by (entry_at d (below root (file_parts rel fork segment))) (entry_at b (below root (file_parts rel fork segment))) (alike-back.alike (file_parts rel fork segment))
          ∙ sym (ap (λ p. length (bytes_at b p)) (file-lies root rel fork segment))
        where
          by : (o p : Option Entry) → AlikeEntries (is_alike per (file_parts rel fork segment)) o p → length (bytes_in o) ≡ length (bytes_in p)
          by o p Neither = refl
          by o p (Folders bad) = refl
          by o p (Files a b is) = same-size per (file_parts rel fork segment) (file-no_version rel fork segment) a b is
          by o p Links = refl

      -- what is told of all files alike is told of both alike
      same_told : (f : Option Entry → Bool) → ((a b : List ℕ) → f (Some (FileEntry a)) ≡ f (Some (FileEntry b))) → (path : PathValue) → f (entry_at b path) ≡ f (entry_at d path)
      same_told f files path = by (is_held root path) refl
        where
          by : (t : Bool) → is_held root path ≡ t → f (entry_at b path) ≡ f (entry_at d path)
          by true held =
              let parts = parts_below root path in
              let is : path ≡ below root parts = held-below root path (held-holds root path held) in
              ap (λ p. f (entry_at b p)) is
              ∙ ⊎_elim (λ same. ap f same) (λ (r : IsResized root parts d x b). ap f r.has ∙ files _ r.bytes ∙ sym (ap f r.had)) (back parts)
              ∙ sym (ap (λ p. f (entry_at d p)) is)
          by false off = ap f (beside path (ap (λ t. t && is_named (parts_below root path)) off))

      some_entry : (parts : List (List ℕ)) (o : Option Entry) → is_some o ≡ true → is_some (or_root parts o) ≡ true
      some_entry parts None there = absurd (true≢false (sym there))
      some_entry parts (Some v) there = refl

      -- of what is there in a tree the folder is one
      tree_above : (absolute : Bool) (parts : List (List ℕ)) (o : Option Entry) → get d (path_of absolute parts) ≡ o → is_some (or_root parts o) ≡ true → is_folder (entry_at d (parent (path_of absolute parts))) ≡ true
      tree_above absolute parts (Some v) is there = begun.laid_tree (path_of absolute parts) (ap is_some is)
      tree_above absolute [] None is there = ap (λ o. is_folder (or_root [] o)) is
      tree_above absolute (part ∷ parts) None is there = absurd (true≢false (sym there))

      tree_back : IsTree b
      tree_back path there =
          same_told is_folder (λ a b. refl) (parent path)
          ∙ tree_above path.absolute path.parts (get d path) refl
          (sym (same_told is_some (λ a b. refl) path) ∙ some_entry path.parts (get b path) there)

      pub whole-back : AreWhole root per b
      whole-back = record {
        tree = tree_back;
        no_gap = λ rel fork small. gapless-alike root per rel fork d b
            (λ n below. some_block (n % per) (bytes_at d (relation_file root rel fork (n / per))) (bytes_at b (relation_file root rel fork (n / per))) (size_back rel fork (n / per))) (whole-laid.no_gap rel fork small);
      }
