-- The states of blocks once a database is made or dropped, or a relation map written.
use Rattle.std.proofs.Common.{◌≡◌, ◌≢◌, ℕ, ◌+◌, ◌/◌, ◌%◌, ◌<◌, ◌^◌, ◌==◌, Bool, true, false, not, cond, ◌&&◌, List, [], ◌∷◌, ◌++◌, length, take, codes, decimal, Option, None, Some, Ok, refl, ap, sym, ◌∙◌, true≢false, append_assoc, arith}
use Rattle.std.specs.Prelude.{if◌then◌else◌}
use Rattle.std.proofs.lemmas.List.{append_cancel_left, length-append}
use Rattle.std.proofs.Math.Seq.{take-append-add}
use Rattle.block_refs.specs.declared.names.BlockName.{BlockName}
use Rattle.block_refs.specs.declared.names.RelName.{RelName}
use Rattle.cluster_tree.specs.Apart.{is_held}
use Rattle.cluster_tree.specs.PathValue.{PathValue, below}
use Rattle.cluster_tree.specs.Contents.{Contents, IsTree, entry_at}
use Rattle.cluster_tree.specs.Tree.{bytes_in, bytes_at}
use Rattle.cluster_tree.proofs.HoldLemmas.{held-holds, holds-held}
use Rattle.cluster_tree.proofs.RootLemmas.{holds-below}
use Rattle.file_edits.specs.Asking.{file_asked}
use Rattle.file_edits.specs.Edits.{file_edited, laid}
use Rattle.file_edits.proofs.ClearLemmas.{tree-elsewhere, tree-empty}
use Rattle.wal_base.specs.Decimal.{decimal_number}
use Rattle.record_layouts.specs.declared.relmap.RelMapUpdate.{RelMapUpdate}
use Rattle.relation_files.specs.Names.{name_of}
use Rattle.relation_files.specs.Paths.{database_parts, folder_parts, global_parts, relation_file, relation_folder}
use Rattle.relation_files.specs.Reading.{file_named}
use Rattle.relation_files.specs.declared.file_name.FileName.{FileName}
use Rattle.storage_databases.specs.Databases.{database_dropped, database_folder, database_made, version_by, version_file, version_text}
use Rattle.storage_databases.specs.RelationMap.{map_parts, map_written}
use Rattle.storage_laws.specs.After.{database_dropped_state}
use Rattle.storage_laws.specs.Names.{IsBlock, is_in_database, is_shared}
use Rattle.storage_laws.specs.States.{whole_block, block_in}
use Rattle.storage_laws.proofs.EditedLemmas.{bytes-elsewhere, given-done}
use Rattle.storage_laws.proofs.FileLemmas.{file-named, named-same, number-same}
use Rattle.storage_laws.proofs.TreeLemmas.{database-dropped_tree}
use Rattle.storage_laws.proofs.NumberLemmas.{by_test, eq-is, eq-yes, file-least}
use Rattle.storage_laws.proofs.CutLemmas.{no-block}

-- a file whose name isn't a relation's is no file of a block

other_file : (root folder : PathValue) (per : ℕ) (other : BlockName) (name : List ℕ) → 0 < per → IsBlock other → file_named name ≡ None → relation_file root other.rel other.fork (other.block / per) ≢ below folder (name ∷ [])
other_file root folder per other name some few none e =
    let to_few : other.block / per < 2 ^ 32 = omega (arith, file-least per other.block some, few.block) in
    let text = (named-same (relation_folder root other.rel) folder (name_of other.rel.relation other.fork (other.block / per)) name e).1 in
    none_some (sym none ∙ ap file_named (sym text) ∙ file-named other.rel.relation other.fork (other.block / per) few.rel.relation to_few)
  where
    none_some : {file : FileName} → None ≡ Some file → ⊥
    none_some e = absurd cc

version_unnamed : file_named (codes "PG_VERSION") ≡ None
unfolding file_named decimal_number
version_unnamed = refl

map_unnamed : file_named (codes "pg_filenode.map") ≡ None
unfolding file_named decimal_number
map_unnamed = refl

edited_beside : (root folder : PathValue) (per : ℕ) (other : BlockName) (name : List ℕ) (edit : List ℕ → List ℕ) (c d : Contents) → 0 < per → IsBlock other → file_named name ≡ None → file_edited root (below folder (name ∷ [])) edit c ≡ Ok d → block_in root per other d ≡ block_in root per other c
edited_beside root folder per other name edit c d some few none made =
    ap (whole_block (other.block % per)) (bytes-elsewhere root (below folder (name ∷ [])) edit c d (relation_file root other.rel other.fork (other.block / per)) made (other_file root folder per other name some few none))

pub made-is : (root : PathValue) (per database : ℕ) (other : BlockName) (c d : Contents) → 0 < per → IsBlock other → database_made root database c ≡ Ok d → block_in root per other d ≡ block_in root per other c
unfolding database_made
made-is root per database other c d some few made =
    let path = version_file root database in
    let two = given-done (file_asked path (entry_at c path)) (version_by root path c) d made in
    by two.0 two.2
  where
    by : (found : Option (List ℕ)) → version_by root (version_file root database) c found ≡ Ok d → block_in root per other d ≡ block_in root per other c
    by (Some bytes) run = let stays : c ≡ d = cc in ap (block_in root per other) (sym stays)
    by None run = edited_beside root (database_folder root database) per other (codes "PG_VERSION") (laid 0 0 version_text) c d some few version_unnamed run

pub map-written-is : (root : PathValue) (per : ℕ) (update : Option RelMapUpdate) (other : BlockName) (c d : Contents) → 0 < per → IsBlock other → map_written root update c ≡ Ok d → block_in root per other d ≡ block_in root per other c
map-written-is root per None other c d some few made = let stays : c ≡ d = cc in ap (block_in root per other) (sym stays)
map-written-is root per (Some update) other c d some few made = edited_beside root (below root (map_parts update.database)) per other (codes "pg_filenode.map") (λ _. update.map) c d some few map_unnamed made

-- a database's folder holds its relations' files, and no others

inside_parts : (rel : RelName) (database : ℕ) → is_in_database database rel ≡ true → folder_parts rel ≡ database_parts database
inside_parts rel database h = by (is_shared rel) h
  where
    by : (t : Bool) → (not t && (rel.database == database)) ≡ true → cond t global_parts (database_parts rel.database) ≡ database_parts database
    by true h = absurd cc
    by false h = ap database_parts (eq-is rel.database database h)

held_inside : (root : PathValue) (rel : RelName) (database : ℕ) (name : List ℕ) → is_in_database database rel ≡ true → is_held (database_folder root database) (below (relation_folder root rel) (name ∷ [])) ≡ true
held_inside root rel database name h =
    ap (λ parts. is_held (database_folder root database) (below (below root parts) (name ∷ []))) (inside_parts rel database h)
    ∙ holds-held (database_folder root database) (below (database_folder root database) (name ∷ [])) (holds-below (database_folder root database) (name ∷ []))

two_first : (xs ys : List (List ℕ)) (a b : List ℕ) → take (length (xs ++ a ∷ b ∷ [])) (xs ++ ys) ≡ xs ++ a ∷ b ∷ [] → take 2 ys ≡ a ∷ b ∷ []
two_first xs ys a b e =
    let size : length (xs ++ a ∷ b ∷ []) ≡ length xs + 2 = length-append xs (a ∷ b ∷ []) in
    append_cancel_left xs (take 2 ys) (a ∷ b ∷ []) (sym (take-append-add xs ys 2) ∙ ap (λ n. take n (xs ++ ys)) (sym size) ∙ e)

pub held_database : (root : PathValue) (rel : RelName) (database : ℕ) (name : List ℕ) → rel.database < 2 ^ 32 → database < 2 ^ 32 → is_held (database_folder root database) (below (relation_folder root rel) (name ∷ [])) ≡ true → is_in_database database rel ≡ true
held_database root rel database name small few h =
    let held = held-holds (database_folder root database) (below (relation_folder root rel) (name ∷ [])) h in
    let parts : take 2 (folder_parts rel ++ name ∷ []) ≡ database_parts database = two_first root.parts (folder_parts rel ++ name ∷ []) (codes "base") (decimal database) (ap (take (length (database_folder root database).parts)) (sym (append_assoc root.parts (folder_parts rel) (name ∷ []))) ∙ held.prefix) in
    by (is_shared rel) parts
  where
    by : (t : Bool) → take 2 (cond t global_parts (database_parts rel.database) ++ name ∷ []) ≡ database_parts database → (not t && (rel.database == database)) ≡ true
    by true e = absurd cc
    by false e = eq-yes rel.database database (number-same rel.database database small few e)

pub database-dropped-is : (root : PathValue) (per database : ℕ) (other : BlockName) (c d : Contents) → 0 < per → IsBlock other → database < 2 ^ 32 → IsTree c → database_dropped root database c ≡ Ok d → block_in root per other d ≡ database_dropped_state database other (block_in root per other c)
database-dropped-is root per database other c d some few low tree made =
    let q : PathValue = relation_file root other.rel other.fork (other.block / per) in
    let name = name_of other.rel.relation other.fork (other.block / per) in
    let old = block_in root per other c in
    by_test (is_in_database database other.rel)
    (λ so.
    no-block (other.block % per) (bytes_at d q) (ap bytes_in (tree-empty (database_folder root database) c d q (database-dropped_tree root database c d tree made) (omega (arith, length-append root.parts (database_parts database))) made (held_inside root other.rel database name so)))
    ∙ sym (ap (λ t. if t then None else old) so))
    (λ else_so.
    ap (λ o. whole_block (other.block % per) (bytes_in o)) (tree-elsewhere (database_folder root database) c d q made
    (by_test (is_held (database_folder root database) q) (λ held. absurd (true≢false (sym (held_database root other.rel database name few.rel.database low held) ∙ else_so))) (λ not_held. not_held)))
    ∙ sym (ap (λ t. if t then None else old) else_so))
