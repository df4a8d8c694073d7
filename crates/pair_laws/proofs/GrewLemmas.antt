-- What is asked of a pair's clusters beside the logs: entries of the kinds of their places, files with no gap, and the whole copy.
use Rattle.std.proofs.Common.{◌≡◌, ℕ, ◌*◌, ◌/◌, ◌%◌, ◌==◌, ◌<◌, ◌≤◌, ◌^◌, Bool, true, false, nat_lt, List, [], ◌∷◌, ◌++◌, length, take, drop, Option, None, Some, is_some, refl, sym, ap, ap₂, ◌∙◌, true≢false, append_assoc, arith, if◌then◌else◌}
use Rattle.std.proofs.lemmas.Bool.Decides.{nat_tests}
use Rattle.alike_clusters.specs.Clusters.{is_bounded}
use Rattle.block_refs.specs.Names.{fork_number}
use Rattle.block_refs.specs.declared.names.Fork.{Fork}
use Rattle.block_refs.specs.declared.names.Fork.TheVariants.{Init}
use Rattle.block_refs.specs.declared.names.RelName.{RelName}
use Rattle.cluster_compare.specs.Same.{has_init}
use Rattle.cluster_laws.specs.Kinds.{AnyPlace, FilePlace, FolderPlace, HasKinds, IsAt, Place, place_of}
use Rattle.cluster_tree.specs.Contents.{Contents, Entry, FileEntry, FolderEntry, LinkEntry, entry_at, is_file, is_folder}
use Rattle.cluster_tree.specs.Folders.{last_part}
use Rattle.cluster_tree.specs.PathValue.{PathValue, below, path_of}
use Rattle.cluster_tree.specs.Tree.{bytes_in}
use Rattle.relation_files.specs.Names.{name_of}
use Rattle.relation_files.specs.Reading.{file_named}
use Rattle.relation_files.specs.Paths.{database_parts, folder_parts, global_parts, relation_file}
use Rattle.relation_files.specs.declared.file_name.FileName.{FileName}
use Rattle.relation_files.proofs.NameLemmas.{named-written}
use Rattle.rewound_laws.specs.Alike.{AreBounded}
use Rattle.storage_laws.specs.Forks.{HasNoGap}
use Rattle.storage_laws.specs.Names.{IsRel}
use Rattle.storage_laws.specs.States.{whole_block}
use Rattle.pair_laws.proofs.PlannedLemmas.{IsCluster}
use Rattle.pair_laws.proofs.ThereLemmas.{only_file}

-- ---- kinds

nothing_at : (p : Place) → IsAt p None
nothing_at FolderPlace = tt
nothing_at FilePlace = tt
nothing_at AnyPlace = tt

kinds_at : (p : Place) (o : Option Entry) → ((e : Entry) → o ≡ Some e → IsAt p (Some e)) → IsAt p o
kinds_at p None all = nothing_at p
kinds_at p (Some e) all = all e refl

entry_is : (one other : List ℕ) → FileEntry one ≡ FileEntry other → one ≡ other
entry_is one other h = cc h

bounded_by : (blocks size : ℕ) → blocks ≤ 4096 → size ≡ 8192 * blocks → is_bounded 131072 0 size ≡ true
bounded_by blocks size few long = rw long (by blocks few (omega arith))
  where
    by : (n : ℕ) → n ≤ 4096 → 8192 * n / 8192 ≡ n → is_bounded 131072 0 (8192 * n) ≡ true
    by n few is = rw is (grind (arith, nat_tests))

pub none-if : (b : Bool) (l : List ℕ) → b ≡ false → (if b then Some l else None) ≡ None
none-if true l h = absurd (true≢false h)
none-if false l h = refl

module _ (c : Contents) (root : PathValue) (bytes : List ℕ) (blocks : ℕ) (few : blocks ≤ 4096) (long : length bytes ≡ 8192 * blocks) (is : IsCluster c root bytes) where
  pub cluster-kinds : HasKinds root c
  cluster-kinds = record {
    room = is.room;
    there = ap is_folder is.top;
    kinds = λ parts. kinds_at (place_of parts) (entry_at c (below root parts)) (λ e there. (is.each parts e there).kind);
  }

  pub cluster-bounded : AreBounded 131072 c root
  cluster-bounded parts at its named there =
      let only = (is.each parts (FileEntry its) there).relation at named in
      let same : its ≡ bytes = entry_is its bytes only.1 in
      ap₂ (λ (a : RelName × ℕ) (l : List ℕ). is_bounded 131072 a.1 (length l)) only.0 same ∙ bounded_by blocks (length bytes) few long

  -- ---- a file with a relation file's name is the pair's relation

  last_in : (shared : Bool) (database : ℕ) (name : List ℕ) → last_part (path_of false ((if shared then global_parts else database_parts database) ++ name ∷ [])) ≡ name
  last_in true database name = refl
  last_in false database name = refl

  file_path : (rel : RelName) (fork : Fork) (segment : ℕ) → relation_file root rel fork segment ≡ below root (folder_parts rel ++ name_of rel.relation fork segment ∷ [])
  file_path rel fork segment = ap (λ l. path_of root.absolute l) (append_assoc root.parts (folder_parts rel) (name_of rel.relation fork segment ∷ []))

  pub cluster-file : (rel : RelName) (fork : Fork) (segment : ℕ) (its : List ℕ) → rel.relation < 2 ^ 32 → segment < 2 ^ 32 → entry_at c (relation_file root rel fork segment) ≡ Some (FileEntry its)
      → (◌≡◌ {A = FileName} (record { relation = rel.relation; fork = fork; segment = segment }) only_file) × (its ≡ bytes)
  cluster-file rel fork segment its low small there =
      let name = name_of rel.relation fork segment in
      let parts = folder_parts rel ++ name ∷ [] in
      let file : FileName = record { relation = rel.relation; fork = fork; segment = segment } in
      let here : entry_at c (below root parts) ≡ Some (FileEntry its) = ap (λ p. entry_at c p) (sym (file_path rel fork segment)) ∙ there in
      (is.each parts (FileEntry its) here).named file its refl (ap file_named (last_in (rel.space == 1664) rel.database name) ∙ named-written file (record { relation = low; segment = small }))

  -- no relation has an init fork
  no_init_at : (rel : RelName) → rel.relation < 2 ^ 32 → (o : Option Entry) → entry_at c (relation_file root rel Init 0) ≡ o → is_file o ≡ false
  no_init_at rel low None there = refl
  no_init_at rel low (Some (FolderEntry bad)) there = refl
  no_init_at rel low (Some (FileEntry its)) there =
      let only = cluster-file rel Init 0 its low (omega arith) there in
      let same : 3 ≡ 0 = ap (λ (f : FileName). fork_number f.fork) only.0 in
      absurd (omega (arith, same))
  no_init_at rel low (Some LinkEntry) there = refl

  pub cluster-logged : (rel : RelName) → rel.relation < 2 ^ 32 → has_init c root rel ≡ false
  cluster-logged rel low = no_init_at rel low (entry_at c (relation_file root rel Init 0)) refl

  -- ---- no gap

  none_below : (place : ℕ) → nat_lt place 0 ≡ false
  none_below place = grind (arith, nat_tests)

  pub empty-block : (place : ℕ) → whole_block place [] ≡ None
  empty-block place = none-if (nat_lt place 0) (take 8192 (drop (place * 8192) [])) (none_below place)

  -- where a block is there, its file is the relation's
  record IsThere (rel : RelName) (fork : Fork) (segment place : ℕ) : Type 0 where
    its : List ℕ
    there : entry_at c (relation_file root rel fork segment) ≡ Some (FileEntry its)
    here : is_some (whole_block place its) ≡ true

  there_by : (rel : RelName) (fork : Fork) (segment place : ℕ) (o : Option Entry) → entry_at c (relation_file root rel fork segment) ≡ o → is_some (whole_block place (bytes_in o)) ≡ true → IsThere rel fork segment place
  there_by rel fork segment place None e some = absurd (true≢false (sym some ∙ ap is_some (empty-block place)))
  there_by rel fork segment place (Some (FolderEntry bad)) e some = absurd (true≢false (sym some ∙ ap is_some (empty-block place)))
  there_by rel fork segment place (Some (FileEntry its)) e some = record { its = its; there = e; here = some }
  there_by rel fork segment place (Some LinkEntry) e some = absurd (true≢false (sym some ∙ ap is_some (empty-block place)))

  some_block : (b : Bool) (l : List ℕ) → is_some (if b then Some l else None) ≡ b
  some_block true l = refl
  some_block false l = refl

  least_file : (block next : ℕ) → block < next → next / 131072 ≡ 0 → block / 131072 ≡ 0
  least_file block next low zero = omega (arith, low, zero)

  pub cluster-no_gap : (rel : RelName) (fork : Fork) → IsRel rel → HasNoGap root 131072 rel fork c
  cluster-no_gap rel fork rels block next low most some =
      let file = next / 131072 in
      let is_there = there_by rel fork file (next % 131072) (entry_at c (relation_file root rel fork file)) refl some in
      let only = cluster-file rel fork file is_there.its rels.relation (omega (arith, most)) is_there.there in
      let zero : next / 131072 ≡ 0 = ap (λ (f : FileName). f.segment) only.0 in
      let first : block / 131072 ≡ 0 = least_file block next low zero in
      let within : nat_lt (next % 131072) (length is_there.its / 8192) ≡ true = sym (some_block (nat_lt (next % 131072) (length is_there.its / 8192)) (take 8192 (drop (next % 131072 * 8192) is_there.its))) ∙ is_there.here in
      let below_it : nat_lt (block % 131072) (length is_there.its / 8192) ≡ true = sooner (block % 131072) (next % 131072) (length is_there.its / 8192) (omega (arith, low, zero, first)) within in
      ap (λ n. is_some (whole_block (block % 131072) (bytes_in (entry_at c (relation_file root rel fork n))))) (first ∙ sym zero)
      ∙ ap (λ o. is_some (whole_block (block % 131072) (bytes_in o))) is_there.there
      ∙ some_block (nat_lt (block % 131072) (length is_there.its / 8192)) (take 8192 (drop (block % 131072 * 8192) is_there.its))
      ∙ below_it
    where
      sooner : (a b n : ℕ) → a < b → nat_lt b n ≡ true → nat_lt a n ≡ true
      sooner a b n less h = grind (arith, nat_tests)
