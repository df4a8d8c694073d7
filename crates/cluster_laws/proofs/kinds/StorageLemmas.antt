-- Forks and relations, where each entry is of the kind of its place.
use Rattle.std.proofs.Common.{◌≡◌, ℕ, zero, suc, ◌+◌, ◌*◌, ◌/◌, ◌%◌, ◌<◌, ◌==◌, Bool, true, false, nat_lt, List, [], ◌∷◌, ◌++◌, codes, decimal, length, take, min, Option, None, Some, Result, Ok, Err, refl, sym, ap, ◌∙◌, append_assoc, true≢false, arith}
use Rattle.std.specs.Prelude.{bytes_eq, if◌then◌else◌}
use Rattle.std.proofs.lemmas.Slice.Eq.{bytes_eq-Decides}
use Rattle.alike_clusters.proofs.NameLemmas.{decimal-free, file-lies, file_parts}
use Rattle.block_refs.specs.declared.names.BlockName.{BlockName}
use Rattle.block_refs.specs.declared.names.Fork.{Fork}
use Rattle.block_refs.specs.declared.names.Fork.TheVariants.{Main, Visibility}
use Rattle.block_refs.specs.declared.names.RelName.{RelName}
use Rattle.cluster_tree.specs.Contents.{Contents, entry_at}
use Rattle.cluster_tree.specs.PathValue.{PathValue, below, path_of}
use Rattle.cluster_tree.specs.declared.file_fault.FileFault.{FileFault}
use Rattle.file_edits.specs.Asking.{names_asked, read_asked}
use Rattle.file_edits.specs.Clearing.{in_turn}
use Rattle.file_edits.specs.Edits.{file_cut, file_edited}
use Rattle.relation_files.specs.Names.{name_of}
use Rattle.relation_files.specs.Paths.{database_parts, folder_parts, global_parts, relation_file, relation_folder}
use Rattle.relation_files.specs.Reading.{file_named}
use Rattle.relation_files.proofs.CutLemmas.{without}
use Rattle.storage_replay.specs.Blocks.{block_in_file, block_laid, block_put, file_filled, files_filled, grown}
use Rattle.storage_replay.specs.Changes.{created, cuts_main, cuts_map, main_by, main_cut, map_by, relation_dropped, truncated}
use Rattle.storage_replay.specs.Cutting.{entry_swept, files_cut, files_swept, fork_cut, is_longer, name_swept, swept}
use Rattle.storage_replay.specs.Lengths.{all_files, blocks_of, counted, file_size, fork_length, has_block, length_by, most_blocks}
use Rattle.storage_replay.specs.MapBits.{bits_edited, fill_pages, map_cut, map_cut_in_page, map_edited, map_in_file, map_page}
use Rattle.storage_replay.specs.Reading.{block_from_file, block_read, page_read}
use Rattle.storage_replay.specs.declared.found.Found.TheVariants as found
use Rattle.storage_replay.specs.declared.map_edit.MapEdit.{MapEdit}
use Rattle.storage_replay.specs.declared.map_edit.MapEdit.TheVariants.{Cut}
use Rattle.storage_replay.specs.declared.sweep.Sweep.{Sweep}
use Rattle.storage_replay.specs.declared.sweep.Sweep.TheVariants.{Remove, Empty}
use Rattle.cluster_laws.specs.Kinds.{AnyPlace, FilePlace, FolderPlace, HasKinds, place_of}
use Rattle.cluster_laws.proofs.kinds.KindLemmas.{Fine, IsFileAt, IsTold, cut-fine, edited-fine, given-fine, names-told, read-told, removed-fine, size-told, told-fine, told-told, turn-fine}

-- ---- places

tmp_marked : without 112 (codes "pgsql_tmp") ≡ false
unfolding without
tmp_marked = refl

-- no database has the name of the folder of temporary files
not_tmp : (database : ℕ) (b : Bool) → bytes_eq (decimal database) (codes "pgsql_tmp") ≡ b → b ≡ false
not_tmp database false is = refl
not_tmp database true is =
    absurd (true≢false (sym (decimal-free 112 database (omega arith)) ∙ ap (without 112) ((bytes_eq-Decides (decimal database) (codes "pgsql_tmp")).0 is) ∙ tmp_marked))

global_way : (name : List ℕ) (k : ℕ) → 0 < k → k < length (codes "global" ∷ name ∷ []) → place_of (take k (codes "global" ∷ name ∷ [])) ≡ FolderPlace
global_way name zero some l = absurd (omega (arith, some))
global_way name (suc zero) some l = refl
global_way name (suc (suc k)) some l = absurd (omega (arith, l))

base_way : (folder name : List ℕ) (k : ℕ) → 0 < k → k < length (codes "base" ∷ folder ∷ name ∷ []) → place_of (take k (codes "base" ∷ folder ∷ name ∷ [])) ≡ FolderPlace
base_way folder name zero some l = absurd (omega (arith, some))
base_way folder name (suc zero) some l = refl
base_way folder name (suc (suc zero)) some l = refl
base_way folder name (suc (suc (suc k))) some l = absurd (omega (arith, l))

-- a file in global, or in a database's folder
pub file-at : (t : Bool) (database : ℕ) (name : List ℕ) → IsFileAt ((if t then global_parts else database_parts database) ++ name ∷ [])
file-at true database name = record { place = refl; way = global_way name; some = omega arith; few = omega arith }
file-at false database name = record {
  place = ap (λ b. if b then AnyPlace else FilePlace) (not_tmp database (bytes_eq (decimal database) (codes "pgsql_tmp")) refl);
  way = base_way (decimal database) name;
  some = omega arith;
  few = omega arith;
}

folder_at : (t : Bool) (database : ℕ) → place_of (if t then global_parts else database_parts database) ≡ FolderPlace
folder_at true database = refl
folder_at false database = refl

pub relation-at : (rel : RelName) (name : List ℕ) → IsFileAt (folder_parts rel ++ name ∷ [])
relation-at rel name = file-at (rel.space == 1664) rel.database name

module _ (root : PathValue) where
  in_folder : (rel : RelName) (name : List ℕ) → below (relation_folder root rel) (name ∷ []) ≡ below root (folder_parts rel ++ name ∷ [])
  in_folder rel name = ap (path_of root.absolute) (append_assoc root.parts (folder_parts rel) (name ∷ []))

  file_fine : (rel : RelName) (fork : Fork) (segment : ℕ) (edit : List ℕ → List ℕ) (c : Contents) → HasKinds root c → Fine root (file_edited root (relation_file root rel fork segment) edit c)
  file_fine rel fork segment edit c has = edited-fine root (relation_file root rel fork segment) (file_parts rel fork segment) edit c (file-lies root rel fork segment) (relation-at rel (name_of rel.relation fork segment)) has

  -- ---- lengths

  size_told : (rel : RelName) (fork : Fork) (c : Contents) → HasKinds root c → (file : ℕ) → IsTold (file_size root rel fork c file)
  size_told rel fork c has file = size-told root (relation_file root rel fork file) (file_parts rel fork file) c (file-lies root rel fork file) (relation-at rel (name_of rel.relation fork file)).place has

  counted_told : (sizes : ℕ → Result (Option ℕ) FileFault) → ((file : ℕ) → IsTold (sizes file)) → (per count file : ℕ) → IsTold (counted sizes per count file)
  unfolding counted
  counted_told sizes each per zero file = tt
  counted_told sizes each per (suc count) file =
      told-told root (sizes file) (λ size. if nat_lt (blocks_of per size) per then Ok (file * per + blocks_of per size) else counted sizes per count (file + 1)) (each file)
      (λ size. elim (nat_lt (blocks_of per size) per) as (λ t. IsTold (if t then Ok (file * per + blocks_of per size) else counted sizes per count (file + 1))) [
        | true ↦ tt
        | false ↦ counted_told sizes each per count (file + 1)
      ])

  pub has-told : (per : ℕ) (rel : RelName) (fork : Fork) (block : ℕ) (c : Contents) → HasKinds root c → IsTold (has_block root per rel fork block c)
  has-told per rel fork block c has =
      told-told root (counted (file_size root rel fork c) per (block / per + 1) 0) (λ blocks. Ok (nat_lt block blocks)) (counted_told (file_size root rel fork c) (size_told rel fork c has) per (block / per + 1) 0) (λ blocks. tt)

  by_told : (sizes : ℕ → Result (Option ℕ) FileFault) → ((file : ℕ) → IsTold (sizes file)) → (per : ℕ) (size : Option ℕ) → IsTold (length_by sizes per size)
  by_told sizes each per None = tt
  by_told sizes each per (Some size) = told-told root (counted sizes per (all_files per) 0) (λ blocks. Ok (Some (min most_blocks blocks))) (counted_told sizes each per (all_files per) 0) (λ blocks. tt)

  length_told : (per : ℕ) (rel : RelName) (fork : Fork) (c : Contents) → HasKinds root c → IsTold (fork_length root per rel fork c)
  length_told per rel fork c has =
      told-told root (file_size root rel fork c 0) (length_by (file_size root rel fork c) per) (size_told rel fork c has 0) (by_told (file_size root rel fork c) (size_told rel fork c has) per)

  page_told : (r : Result (List ℕ) FileFault) → IsTold r → IsTold (page_read r)
  page_told (Ok page) told = tt
  page_told (Err e) told = absurd told

  pub read-block_told : (per : ℕ) (name : BlockName) (old : List ℕ) (c : Contents) → HasKinds root c → IsTold (block_read root per name c old)
  unfolding block_read
  read-block_told per name old c has =
      told-told root (has_block root per name.rel name.fork name.block c) (λ there. if there then block_from_file root per name c else Ok (record { found = found.Absent; bytes = old })) (has-told per name.rel name.fork name.block c has)
      (λ there. elim there as (λ t. IsTold (if t then block_from_file root per name c else Ok (record { found = found.Absent; bytes = old }))) [
        | true ↦ page_told (read_asked c (relation_file root name.rel name.fork (name.block / per)) (name.block % per * 8192) 8192)
            (read-told root (relation_file root name.rel name.fork (name.block / per)) (file_parts name.rel name.fork (name.block / per)) (name.block % per * 8192) 8192 c (file-lies root name.rel name.fork (name.block / per)) (relation-at name.rel (name_of name.rel.relation name.fork (name.block / per))).place has)
        | false ↦ tt
      ])

  -- ---- blocks that are put, and bits of the map

  filled_fine : (per : ℕ) (rel : RelName) (fork : Fork) (count file : ℕ) (c : Contents) → HasKinds root c → Fine root (files_filled root per rel fork count file c)
  unfolding files_filled
  filled_fine per rel fork zero file c has = has
  filled_fine per rel fork (suc count) file c has =
      given-fine root (file_filled root per rel fork file c) (files_filled root per rel fork count (file + 1)) (file_fine rel fork file (grown per) c has) (filled_fine per rel fork count (file + 1))

  pub put-fine : (per : ℕ) (name : BlockName) (page : List ℕ) (c : Contents) → HasKinds root c → Fine root (block_put root per name page c)
  unfolding block_put
  put-fine per name page c has =
      given-fine root (files_filled root per name.rel name.fork (name.block / per) 0 c) (block_in_file root per name page) (filled_fine per name.rel name.fork (name.block / per) 0 c has)
      (λ d left. file_fine name.rel name.fork (name.block / per) (block_laid (name.block % per) page) d left)

  pub created-fine : (rel : RelName) (fork : Fork) (c : Contents) → HasKinds root c → Fine root (created root rel fork c)
  created-fine rel fork c has = file_fine rel fork 0 (λ bytes. bytes) c has

  pub map-fine : (per : ℕ) (rel : RelName) (block : ℕ) (edit : MapEdit) (c : Contents) → HasKinds root c → Fine root (map_edited root per rel block edit c)
  unfolding map_edited
  map-fine per rel block edit c has =
      told-fine root (has_block root per rel Visibility (map_page block) c) (λ there. if there then map_in_file root per rel block edit c else Ok c) (has-told per rel Visibility (map_page block) c has)
      (λ there. elim there as (λ t. Fine root (if t then map_in_file root per rel block edit c else Ok c)) [ true ↦ file_fine rel Visibility (map_page block / per) (bits_edited per block edit) c has | false ↦ has ])

  -- ---- forks that are cut, and relations that are dropped

  swept_fine : (sweep : Sweep) (rel : RelName) (name : List ℕ) (c : Contents) → HasKinds root c → Fine root (swept sweep (below (relation_folder root rel) (name ∷ [])) c)
  swept_fine Remove rel name c has = removed-fine root (below (relation_folder root rel) (name ∷ [])) (folder_parts rel ++ name ∷ []) c (in_folder rel name) (relation-at rel name).some (relation-at rel name).place has
  swept_fine (Empty fork segment) rel name c has = cut-fine root (below (relation_folder root rel) (name ∷ [])) (folder_parts rel ++ name ∷ []) 0 c (in_folder rel name) (relation-at rel name).some (relation-at rel name).place has

  entry_fine : (sweep : Sweep) (rel : RelName) (name : List ℕ) (c : Contents) → HasKinds root c → Fine root (entry_swept sweep rel.relation (relation_folder root rel) name c)
  unfolding entry_swept
  entry_fine sweep rel name c has =
      elim (name_swept sweep rel.relation (file_named name)) as (λ t. Fine root (if t then swept sweep (below (relation_folder root rel) (name ∷ [])) c else Ok c)) [ true ↦ swept_fine sweep rel name c has | false ↦ has ]

  sweep_fine : (sweep : Sweep) (rel : RelName) (c : Contents) → HasKinds root c → Fine root (files_swept root sweep rel c)
  unfolding files_swept
  sweep_fine sweep rel c has =
      told-fine root (names_asked c (relation_folder root rel) (entry_at c (relation_folder root rel))) (λ names. in_turn (entry_swept sweep rel.relation (relation_folder root rel)) names c)
      (names-told root (relation_folder root rel) (folder_parts rel) c refl (folder_at (rel.space == 1664) rel.database) has)
      (λ names. turn-fine root (entry_swept sweep rel.relation (relation_folder root rel)) (entry_fine sweep rel) names c has)

  pub dropped-fine : (rel : RelName) (c : Contents) → HasKinds root c → Fine root (relation_dropped root rel c)
  dropped-fine rel c has = sweep_fine Remove rel c has

  files_fine : (per : ℕ) (rel : RelName) (fork : Fork) (blocks : ℕ) (c : Contents) → HasKinds root c → Fine root (files_cut root per rel fork blocks c)
  unfolding files_cut
  files_fine per rel fork blocks c has =
      given-fine root (file_cut (relation_file root rel fork (blocks / per)) (blocks % per * 8192) c) (files_swept root (Empty fork (blocks / per)) rel)
      (cut-fine root (relation_file root rel fork (blocks / per)) (file_parts rel fork (blocks / per)) (blocks % per * 8192) c (file-lies root rel fork (blocks / per)) (relation-at rel (name_of rel.relation fork (blocks / per))).some (relation-at rel (name_of rel.relation fork (blocks / per))).place has)
      (sweep_fine (Empty fork (blocks / per)) rel)

  fork_fine : (per : ℕ) (rel : RelName) (fork : Fork) (blocks : ℕ) (c : Contents) → HasKinds root c → Fine root (fork_cut root per rel fork blocks c)
  unfolding fork_cut
  fork_fine per rel fork blocks c has =
      told-fine root (fork_length root per rel fork c) (λ there. if is_longer blocks there then files_cut root per rel fork blocks c else Ok c) (length_told per rel fork c has)
      (λ there. elim (is_longer blocks there) as (λ t. Fine root (if t then files_cut root per rel fork blocks c else Ok c)) [ true ↦ files_fine per rel fork blocks c has | false ↦ has ])

  main_fine : (per : ℕ) (rel : RelName) (blocks : ℕ) (c : Contents) → HasKinds root c → Fine root (main_cut root per rel blocks c)
  unfolding main_cut
  main_fine per rel blocks c has = given-fine root (created root rel Main c) (fork_cut root per rel Main blocks) (created-fine rel Main c has) (fork_fine per rel Main blocks)

  map_page_fine : (per : ℕ) (rel : RelName) (blocks : ℕ) (c : Contents) → HasKinds root c → Fine root (map_cut_in_page root per rel blocks c)
  unfolding map_cut_in_page
  map_page_fine per rel blocks c has = given-fine root (map_edited root per rel blocks Cut c) (fork_cut root per rel Visibility (map_page blocks + 1)) (map-fine per rel blocks Cut c has) (fork_fine per rel Visibility (map_page blocks + 1))

  map_cut_fine : (per : ℕ) (rel : RelName) (blocks : ℕ) (c : Contents) → HasKinds root c → Fine root (map_cut root per rel blocks c)
  map_cut_fine per rel blocks c has =
      elim (fill_pages blocks) as (λ t. Fine root (if t then fork_cut root per rel Visibility (map_page blocks) c else map_cut_in_page root per rel blocks c)) [ true ↦ fork_fine per rel Visibility (map_page blocks) c has | false ↦ map_page_fine per rel blocks c has ]

  pub truncated-fine : (per : ℕ) (rel : RelName) (blocks flags : ℕ) (c : Contents) → HasKinds root c → Fine root (truncated root per rel blocks flags c)
  unfolding truncated
  truncated-fine per rel blocks flags c has =
      given-fine root (main_by root per rel blocks flags c) (map_by root per rel blocks flags)
      (elim (cuts_main flags) as (λ t. Fine root (if t then main_cut root per rel blocks c else Ok c)) [ true ↦ main_fine per rel blocks c has | false ↦ has ])
      (λ d left. elim (cuts_map flags) as (λ t. Fine root (if t then map_cut root per rel blocks d else Ok d)) [ true ↦ map_cut_fine per rel blocks d left | false ↦ left ])
