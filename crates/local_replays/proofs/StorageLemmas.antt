-- Forks of relations in two clusters of which the same is seen.
use Rattle.std.proofs.Common.{◌≡◌, ℕ, zero, suc, ◌+◌, ◌*◌, ◌/◌, ◌%◌, Bool, true, false, nat_lt, List, [], ◌∷◌, min, Option, None, Some, Result, Ok, Err, refl, ap, ◌∙◌}
use Rattle.std.specs.Prelude.{if◌then◌else◌}
use Rattle.block_refs.specs.declared.names.BlockName.{BlockName}
use Rattle.block_refs.specs.declared.names.Fork.{Fork}
use Rattle.block_refs.specs.declared.names.Fork.TheVariants.{Main, Visibility}
use Rattle.block_refs.specs.declared.names.RelName.{RelName}
use Rattle.cluster_tree.specs.Causes.{given}
use Rattle.cluster_tree.specs.Contents.{Contents, entry_at}
use Rattle.cluster_tree.specs.PathValue.{PathValue, below}
use Rattle.cluster_tree.specs.declared.file_fault.FileFault.{FileFault}
use Rattle.file_edits.specs.Asking.{names_asked}
use Rattle.file_edits.specs.Clearing.{in_turn}
use Rattle.file_edits.specs.Edits.{file_cut, file_edited}
use Rattle.relation_files.specs.Paths.{relation_file, relation_folder}
use Rattle.relation_files.specs.Reading.{file_named}
use Rattle.storage_replay.specs.Blocks.{block_in_file, block_laid, block_put, file_filled, files_filled, grown}
use Rattle.storage_replay.specs.Changes.{created, cuts_main, cuts_map, main_by, main_cut, map_by, truncated}
use Rattle.storage_replay.specs.Cutting.{entry_swept, files_cut, files_swept, fork_cut, is_longer, name_swept, swept}
use Rattle.storage_replay.specs.Lengths.{all_files, blocks_of, counted, file_size, fork_length, has_block, length_by, most_blocks}
use Rattle.storage_replay.specs.MapBits.{bits_edited, fill_pages, map_cut, map_cut_in_page, map_edited, map_in_file, map_page}
use Rattle.storage_replay.specs.Reading.{block_from_file, block_read, page_read}
use Rattle.storage_replay.specs.declared.found.Found.TheVariants as found
use Rattle.storage_replay.specs.declared.map_edit.MapEdit.{MapEdit}
use Rattle.storage_replay.specs.declared.map_edit.MapEdit.TheVariants.{Cut}
use Rattle.storage_replay.specs.declared.sweep.Sweep.{Sweep}
use Rattle.storage_replay.specs.declared.sweep.Sweep.TheVariants.{Remove, Empty}
use Rattle.local_replays.specs.Seen.{EndSame, Sees}
use Rattle.local_replays.proofs.EditLemmas.{cut-same, edited-same, names-told, read-told, removed-same, size-told, turn-same}
use Rattle.local_replays.proofs.PlaceLemmas.{file-place, relation-place, root-seen}
use Rattle.local_replays.proofs.SeenLemmas.{Keeps, Local, Told, if-same, then-same, told-same}

-- of the same the same is told further
given_same : {A B : Type 0} (r s : Result A FileFault) (next after : A → Result B FileFault) → s ≡ r → ((a : A) → after a ≡ next a) → given s after ≡ given r next
given_same r s next after is each = ap (λ x. given x after) is ∙ by r
  where
    by : (r : Result _ FileFault) → given r after ≡ given r next
    by (Ok a) = each a
    by (Err e) = refl

counted_same : (sizes others : ℕ → Result (Option ℕ) FileFault) → ((file : ℕ) → others file ≡ sizes file) → (per count file : ℕ) → counted others per count file ≡ counted sizes per count file
unfolding counted
counted_same sizes others each per zero file = refl
counted_same sizes others each per (suc count) file =
    given_same (sizes file) (others file)
    (λ size. if nat_lt (blocks_of per size) per then Ok (file * per + blocks_of per size) else counted sizes per count (file + 1))
    (λ size. if nat_lt (blocks_of per size) per then Ok (file * per + blocks_of per size) else counted others per count (file + 1))
    (each file)
    (λ size. ap (λ x. if nat_lt (blocks_of per size) per then Ok (file * per + blocks_of per size) else x) (counted_same sizes others each per count (file + 1)))

length_same : (sizes others : ℕ → Result (Option ℕ) FileFault) → ((file : ℕ) → others file ≡ sizes file) → (per : ℕ) (size : Option ℕ) → length_by others per size ≡ length_by sizes per size
length_same sizes others each per None = refl
length_same sizes others each per (Some size) =
    ap (λ r. given r (λ blocks. Ok (Some (min most_blocks blocks)))) (counted_same sizes others each per (all_files per) 0)

module _ (seen : PathValue → Bool) (Same : Contents → Contents → Type 0) (keeps : Keeps seen Same) (root : PathValue) (sees : Sees root seen) where
  -- ---- what is edited at a relation's file

  pub file-edited : (rel : RelName) (fork : Fork) (segment : ℕ) (edit : List ℕ → List ℕ) (c d : Contents) → Same c d
      → EndSame Same (file_edited root (relation_file root rel fork segment) edit c) (file_edited root (relation_file root rel fork segment) edit d)
  file-edited rel fork segment edit c d same =
      let place = file-place seen root sees rel fork segment in
      edited-same seen Same keeps root (relation_file root rel fork segment) (root-seen seen root sees) place.way place.own edit c d same

  -- ---- lengths

  size_same : (rel : RelName) (fork : Fork) (c d : Contents) → Same c d → (file : ℕ) → file_size root rel fork d file ≡ file_size root rel fork c file
  size_same rel fork c d same file = size-told seen Same keeps (relation_file root rel fork file) (file-place seen root sees rel fork file).own c d same

  has_same : (per : ℕ) (rel : RelName) (fork : Fork) (block : ℕ) → Told Same (has_block root per rel fork block)
  has_same per rel fork block c d same =
      ap (λ r. given r (λ blocks. Ok (nat_lt block blocks))) (counted_same (file_size root rel fork c) (file_size root rel fork d) (size_same rel fork c d same) per (block / per + 1) 0)

  fork_same : (per : ℕ) (rel : RelName) (fork : Fork) → Told Same (fork_length root per rel fork)
  fork_same per rel fork c d same =
      given_same (file_size root rel fork c 0) (file_size root rel fork d 0) (length_by (file_size root rel fork c) per) (length_by (file_size root rel fork d) per)
      (size_same rel fork c d same 0) (length_same (file_size root rel fork c) (file_size root rel fork d) (size_same rel fork c d same) per)

  -- ---- blocks that are put and read

  filled_same : (per : ℕ) (rel : RelName) (fork : Fork) (count file : ℕ) → Local Same (files_filled root per rel fork count file)
  unfolding files_filled
  filled_same per rel fork zero file c d same = same
  filled_same per rel fork (suc count) file c d same =
      then-same Same Same (file_filled root per rel fork file c) (file_filled root per rel fork file d) (files_filled root per rel fork count (file + 1)) (files_filled root per rel fork count (file + 1))
      (file-edited rel fork file (grown per) c d same) (filled_same per rel fork count (file + 1))

  pub put-same : (per : ℕ) (name : BlockName) (page : List ℕ) → Local Same (block_put root per name page)
  unfolding block_put
  put-same per name page c d same =
      then-same Same Same (files_filled root per name.rel name.fork (name.block / per) 0 c) (files_filled root per name.rel name.fork (name.block / per) 0 d)
      (block_in_file root per name page) (block_in_file root per name page)
      (filled_same per name.rel name.fork (name.block / per) 0 c d same) (file-edited name.rel name.fork (name.block / per) (block_laid (name.block % per) page))

  pub block-told : (per : ℕ) (name : BlockName) (old : List ℕ) → Told Same (λ c. block_read root per name c old)
  unfolding block_read
  block-told per name old c d same =
      ap (λ r. given r (λ there. if there then block_from_file root per name d else Ok (record { found = found.Absent; bytes = old }))) (has_same per name.rel name.fork name.block c d same)
      ∙ by (has_block root per name.rel name.fork name.block c)
    where
      by : (r : Result Bool FileFault)
          → given r (λ there. if there then block_from_file root per name d else Ok (record { found = found.Absent; bytes = old }))
          ≡ given r (λ there. if there then block_from_file root per name c else Ok (record { found = found.Absent; bytes = old }))
      by (Ok true) =
          ap page_read (read-told seen Same keeps (relation_file root name.rel name.fork (name.block / per)) (name.block % per * 8192) 8192 (file-place seen root sees name.rel name.fork (name.block / per)).own c d same)
      by (Ok false) = refl
      by (Err e) = refl

  -- ---- files that are made and swept

  pub created-same : (rel : RelName) (fork : Fork) → Local Same (created root rel fork)
  created-same rel fork c d same = file-edited rel fork 0 (λ bytes. bytes) c d same

  swept_same : (sweep : Sweep) (path : PathValue) → seen path ≡ true → Local Same (swept sweep path)
  swept_same Remove path is = removed-same seen Same keeps path is
  swept_same (Empty fork segment) path is = cut-same seen Same keeps path 0 is

  entry_same : (sweep : Sweep) (rel : RelName) (name : List ℕ) → Local Same (entry_swept sweep rel.relation (relation_folder root rel) name)
  unfolding entry_swept
  entry_same sweep rel name c d same =
      let path : PathValue = below (relation_folder root rel) (name ∷ []) in
      if-same Same (name_swept sweep rel.relation (file_named name)) (swept sweep path c) (Ok c) (swept sweep path d) (Ok d)
      (swept_same sweep path ((relation-place seen root sees rel).names name) c d same) same

  pub swept-same : (sweep : Sweep) (rel : RelName) → Local Same (files_swept root sweep rel)
  unfolding files_swept
  swept-same sweep rel c d same =
      let folder : PathValue = relation_folder root rel in
      told-same Same (names_asked c folder (entry_at c folder)) (names_asked d folder (entry_at d folder))
      (λ names. in_turn (entry_swept sweep rel.relation folder) names c) (λ names. in_turn (entry_swept sweep rel.relation folder) names d)
      (names-told seen Same keeps folder (relation-place seen root sees rel).own (relation-place seen root sees rel).names c d same)
      (λ names. turn-same seen Same keeps (entry_swept sweep rel.relation folder) (entry_same sweep rel) names c d same)

  -- ---- forks that are cut

  files_same : (per : ℕ) (rel : RelName) (fork : Fork) (blocks : ℕ) → Local Same (files_cut root per rel fork blocks)
  unfolding files_cut
  files_same per rel fork blocks c d same =
      then-same Same Same (file_cut (relation_file root rel fork (blocks / per)) (blocks % per * 8192) c) (file_cut (relation_file root rel fork (blocks / per)) (blocks % per * 8192) d)
      (files_swept root (Empty fork (blocks / per)) rel) (files_swept root (Empty fork (blocks / per)) rel)
      (cut-same seen Same keeps (relation_file root rel fork (blocks / per)) (blocks % per * 8192) (file-place seen root sees rel fork (blocks / per)).own c d same) (swept-same (Empty fork (blocks / per)) rel)

  fork_cut_same : (per : ℕ) (rel : RelName) (fork : Fork) (blocks : ℕ) → Local Same (fork_cut root per rel fork blocks)
  unfolding fork_cut
  fork_cut_same per rel fork blocks c d same =
      told-same Same (fork_length root per rel fork c) (fork_length root per rel fork d)
      (λ there. if is_longer blocks there then files_cut root per rel fork blocks c else Ok c) (λ there. if is_longer blocks there then files_cut root per rel fork blocks d else Ok d)
      (fork_same per rel fork c d same)
      (λ there. if-same Same (is_longer blocks there) (files_cut root per rel fork blocks c) (Ok c) (files_cut root per rel fork blocks d) (Ok d) (files_same per rel fork blocks c d same) same)

  -- ---- the map

  pub bits-same : (per : ℕ) (rel : RelName) (block : ℕ) (edit : MapEdit) → Local Same (map_edited root per rel block edit)
  unfolding map_edited
  bits-same per rel block edit c d same =
      told-same Same (has_block root per rel Visibility (map_page block) c) (has_block root per rel Visibility (map_page block) d)
      (λ there. if there then map_in_file root per rel block edit c else Ok c) (λ there. if there then map_in_file root per rel block edit d else Ok d)
      (has_same per rel Visibility (map_page block) c d same)
      (λ there. if-same Same there (map_in_file root per rel block edit c) (Ok c) (map_in_file root per rel block edit d) (Ok d)
      (file-edited rel Visibility (map_page block / per) (bits_edited per block edit) c d same) same)

  page_cut_same : (per : ℕ) (rel : RelName) (blocks : ℕ) → Local Same (map_cut_in_page root per rel blocks)
  unfolding map_cut_in_page
  page_cut_same per rel blocks c d same =
      then-same Same Same (map_edited root per rel blocks Cut c) (map_edited root per rel blocks Cut d) (fork_cut root per rel Visibility (map_page blocks + 1)) (fork_cut root per rel Visibility (map_page blocks + 1))
      (bits-same per rel blocks Cut c d same) (fork_cut_same per rel Visibility (map_page blocks + 1))

  map_cut_same : (per : ℕ) (rel : RelName) (blocks : ℕ) → Local Same (map_cut root per rel blocks)
  map_cut_same per rel blocks c d same =
      if-same Same (fill_pages blocks) (fork_cut root per rel Visibility (map_page blocks) c) (map_cut_in_page root per rel blocks c) (fork_cut root per rel Visibility (map_page blocks) d) (map_cut_in_page root per rel blocks d)
      (fork_cut_same per rel Visibility (map_page blocks) c d same) (page_cut_same per rel blocks c d same)

  -- ---- a relation that is cut

  main_cut_same : (per : ℕ) (rel : RelName) (blocks : ℕ) → Local Same (main_cut root per rel blocks)
  unfolding main_cut
  main_cut_same per rel blocks c d same =
      then-same Same Same (created root rel Main c) (created root rel Main d) (fork_cut root per rel Main blocks) (fork_cut root per rel Main blocks)
      (created-same rel Main c d same) (fork_cut_same per rel Main blocks)

  pub truncated-same : (per : ℕ) (rel : RelName) (blocks flags : ℕ) → Local Same (truncated root per rel blocks flags)
  unfolding truncated
  truncated-same per rel blocks flags c d same =
      then-same Same Same (main_by root per rel blocks flags c) (main_by root per rel blocks flags d) (map_by root per rel blocks flags) (map_by root per rel blocks flags)
      (if-same Same (cuts_main flags) (main_cut root per rel blocks c) (Ok c) (main_cut root per rel blocks d) (Ok d) (main_cut_same per rel blocks c d same) same)
      (λ e f left. if-same Same (cuts_map flags) (map_cut root per rel blocks e) (Ok e) (map_cut root per rel blocks f) (Ok f) (map_cut_same per rel blocks e f left) left)
