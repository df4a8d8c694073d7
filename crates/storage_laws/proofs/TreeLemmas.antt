-- Whatever is there lies in a folder, after each call too.
use Rattle.std.proofs.Common.{◌≡◌, ℕ, zero, suc, ◌+◌, ◌-◌, ◌*◌, ◌/◌, ◌%◌, ◌<◌, Bool, true, false, cond, List, [], ◌∷◌, ◌++◌, length, take, drop, codes, Option, None, Some, Result, Ok, refl, ap, sym, subst, ◌∙◌, inr, append_assoc, arith}
use Rattle.std.specs.Prelude.{if◌then◌else◌}
use Rattle.std.proofs.Math.Seq.{drop-length, drop-nil}
use Rattle.std.proofs.lemmas.List.{length-append}
use Rattle.std.specs.FinMap.{insert, remove}
use Rattle.block_refs.specs.declared.names.BlockName.{BlockName}
use Rattle.block_refs.specs.declared.names.Fork.{Fork}
use Rattle.block_refs.specs.declared.names.Fork.TheVariants.{Main, Visibility}
use Rattle.block_refs.specs.declared.names.RelName.{RelName}
use Rattle.cluster_tree.specs.PathValue.{PathValue, Holds, below, front}
use Rattle.cluster_tree.specs.Causes.{given, unless}
use Rattle.cluster_tree.specs.Contents.{Contents, Entry, FolderEntry, FileEntry, LinkEntry, IsTree, entry_at, is_folder}
use Rattle.cluster_tree.specs.Step.{CutFile, TornBytes, TornFile}
use Rattle.cluster_tree.specs.Tree.{bytes_in, bytes_at, cut_refusal, file_of, refusal_past}
use Rattle.cluster_tree.specs.declared.file_fault.FileFault.{FileFault}
use Rattle.cluster_tree.specs.declared.tree.ChangeCall.TheVariants as call
use Rattle.cluster_tree.specs.declared.tree.TreeFault.TheVariants as tree_fault
use Rattle.cluster_tree.proofs.ContentsLemmas.{entry-put, put-put, write_refusal-new}
use Rattle.cluster_tree.proofs.OrderLemmas.{same_path}
use Rattle.cluster_tree.proofs.RootLemmas.{holds-below}
use Rattle.cluster_tree.proofs.TreeLemmas.{made-tree, removed-tree, step-tree}
use Rattle.file_edits.specs.Asking.{file_asked, folder_asked, names_asked, root_refusal, size_asked}
use Rattle.file_edits.specs.Clearing.{cleared_by, emptied, entry_cleared, folder_cleared, full_asked, in_turn, tree_removed}
use Rattle.file_edits.specs.Edits.{cut_to, edited, file_cut, file_edited, file_removed, folder_made, folders_between, folders_made, laid, way_for, way_made, without}
use Rattle.file_edits.proofs.ClearLemmas.{clear-unrefused, full-is, there-is}
use Rattle.file_edits.proofs.EditLemmas.{new-unrefused, there-unrefused}
use Rattle.file_edits.proofs.WayLemmas.{by_asked, front-unrefused, made-is, root-above}
use Rattle.record_layouts.specs.declared.relmap.RelMapUpdate.{RelMapUpdate}
use Rattle.relation_files.specs.Paths.{relation_file, relation_folder}
use Rattle.relation_files.specs.Reading.{file_named}
use Rattle.relation_files.proofs.PathLemmas.{file-is_held, file-is_deeper}
use Rattle.storage_databases.specs.Databases.{database_dropped, database_folder, database_made, version_by, version_file, version_text}
use Rattle.storage_databases.specs.RelationMap.{map_parts, map_written}
use Rattle.storage_replay.specs.Blocks.{block_in_file, block_laid, block_put, file_filled, files_filled, grown}
use Rattle.storage_replay.specs.Changes.{created, cuts_main, cuts_map, main_by, main_cut, map_by, relation_dropped, truncated}
use Rattle.storage_replay.specs.Cutting.{entry_swept, files_cut, files_swept, fork_cut, is_longer, name_swept, swept}
use Rattle.storage_replay.specs.Lengths.{fork_length, has_block}
use Rattle.storage_replay.specs.MapBits.{bits_edited, fill_pages, map_cut, map_cut_in_page, map_edited, map_in_file, map_page}
use Rattle.storage_replay.specs.declared.map_edit.MapEdit.{MapEdit}
use Rattle.storage_replay.specs.declared.map_edit.MapEdit.TheVariants.{Cut}
use Rattle.storage_replay.specs.declared.sweep.Sweep.{Sweep}
use Rattle.storage_replay.specs.declared.sweep.Sweep.TheVariants.{Remove, Empty}
use Rattle.relation_files.specs.Paths.{database_parts}
use Rattle.storage_laws.proofs.EditedLemmas.{given-done}
use Rattle.storage_laws.proofs.NumberLemmas.{lt-no}

-- a file in the place of a file

torn_whole : (bytes : List ℕ) → TornBytes 0 (length bytes) [] bytes
torn_whole bytes =
    let sum : 0 + length bytes ≡ length bytes = omega arith in
    record {
      before = refl;
      after = ap (λ n. drop n bytes) sum ∙ drop-length bytes ∙ sym (drop-nil (0 + length bytes));
      no_shorter = omega arith;
      no_longer = omega arith;
    }

cut_free : (c : Contents) (path : PathValue) (old : List ℕ) → entry_at c path ≡ Some (FileEntry old) → cut_refusal c path 0 ≡ None
cut_free c path old there = ap (λ o. refusal_past (file_of o) 0) there ∙ ap (λ t. cond t (Some tree_fault.PastEnd) None) (lt-no (length old) 0 (omega arith))

put_over : (c : Contents) (path : PathValue) (old bytes : List ℕ) → IsTree c → entry_at c path ≡ Some (FileEntry old) → IsTree (insert c path (FileEntry bytes))
put_over c path old bytes tree there =
    let e : Contents = insert c path (FileEntry []) in
    let cut : CutFile path 0 c e = record { cut = []; unrefused = cut_free c path old there; range = record { no_shorter = omega arith; front = refl }; is = refl } in
    let first : IsTree e = step-tree (call.Cut path 0) c e tree (inr cut) in
    let wrote : TornFile path 0 (length bytes) e (insert e path (FileEntry bytes)) = record {
      torn = bytes;
      unrefused = write_refusal-new c path;
      range = subst (λ o. TornBytes 0 (length bytes) o bytes) (sym (ap bytes_in (entry-put c path (FileEntry [])))) (torn_whole bytes);
      is = refl;
    } in
    subst IsTree (put-put c path (FileEntry []) (FileEntry bytes)) (step-tree (call.Write path 0 (length bytes)) e (insert e path (FileEntry bytes)) first (inr wrote))

-- folders on the way

folders_tree : (k n : ℕ) (path : PathValue) (c d : Contents) → n + k < length path.parts → is_folder (entry_at c (front n path)) ≡ true → IsTree c → folders_made k (n + 1) path c ≡ Ok d → IsTree d
unfolding folders_made
folders_tree zero n path c d l folder tree made = let same : c ≡ d = cc in subst IsTree same tree
folders_tree (suc k) n path c d l folder tree made =
    let two = given-done (folder_made (front (n + 1) path) c) (folders_made k (n + 1 + 1) path) d made in
    let less : n ≡ n + 1 - 1 = omega arith in
    folders_tree k (n + 1) path two.0 d (omega (arith, l)) (made-is (front (n + 1) path) c two.0 two.1)
    (by_asked (front (n + 1) path) c two.0 two.1
    (λ there same. subst IsTree (sym same) tree)
    (λ none is. subst IsTree (sym is) (made-tree c (front (n + 1) path) (FolderEntry false) tree (front-unrefused c path (n + 1) (omega (arith, l)) none (ap (λ m. is_folder (entry_at c (front m path))) (sym less) ∙ folder)))))
    two.2

way_tree : (root path : PathValue) (c d : Contents) → Holds root path → length root.parts < length path.parts → IsTree c → way_made root path c ≡ Ok d → IsTree d
unfolding way_made
way_tree root path c d held deeper tree made = by (root_refusal root (entry_at c root)) refl made
  where
    by : (o : Option FileFault) → root_refusal root (entry_at c root) ≡ o → unless o (folders_made (folders_between root path) (length root.parts + 1) path c) ≡ Ok d → IsTree d
    by None free run =
        let less : length root.parts + 1 - 1 ≡ length root.parts = omega arith in
        folders_tree (folders_between root path) (length root.parts) path c d (omega (arith, deeper)) (ap (λ m. is_folder (entry_at c (front m path))) (sym less) ∙ root-above root path c (length root.parts) held free refl) tree run
    by (Some f) free run = absurd cc

-- files that are edited, cut and removed

pub edited_tree : (root path : PathValue) (edit : List ℕ → List ℕ) (c d : Contents) → Holds root path → length root.parts < length path.parts → IsTree c → file_edited root path edit c ≡ Ok d → IsTree d
unfolding file_edited
edited_tree root path edit c d held deeper tree made = by (entry_at c path) refl made
  where
    new : (e : Contents) → entry_at c path ≡ None → way_made root path c ≡ Ok e → IsTree (edited path edit e)
    new e none way = made-tree e path (FileEntry (edit (bytes_at e path))) (way_tree root path c e held deeper tree way) (new-unrefused root path c e held deeper (ap (λ o. size_asked (file_asked path o)) none) way)

    by : (o : Option Entry) → entry_at c path ≡ o → given (given (file_asked path o) (way_for root path c)) (λ e. Ok (edited path edit e)) ≡ Ok d → IsTree d
    by None at run =
        let two = given-done (way_made root path c) (λ e. Ok (edited path edit e)) d run in
        let last : Ok (edited path edit two.0) ≡ Ok d = two.2 in
        let same : edited path edit two.0 ≡ d = cc in
        subst IsTree same (new two.0 at two.1)
    by (Some (FolderEntry bad)) at run = absurd cc
    by (Some (FileEntry bytes)) at run = let same : edited path edit c ≡ d = cc in subst IsTree same (put_over c path bytes (edit (bytes_at c path)) tree at)
    by (Some LinkEntry) at run = absurd cc

cut_tree : (path : PathValue) (size : ℕ) (c d : Contents) → IsTree c → file_cut path size c ≡ Ok d → IsTree d
unfolding file_cut
cut_tree path size c d tree made = by (entry_at c path) refl made
  where
    by : (o : Option Entry) → entry_at c path ≡ o → given (file_asked path o) (cut_to path size c) ≡ Ok d → IsTree d
    by None at run = let same : c ≡ d = cc in subst IsTree same tree
    by (Some (FolderEntry bad)) at run = absurd cc
    by (Some (FileEntry bytes)) at run = let same : insert c path (FileEntry (take size bytes)) ≡ d = cc in subst IsTree same (put_over c path bytes (take size bytes) tree at)
    by (Some LinkEntry) at run = absurd cc

pub removed_tree : (path : PathValue) (c d : Contents) → IsTree c → file_removed path c ≡ Ok d → IsTree d
unfolding file_removed
removed_tree path c d tree made = by (entry_at c path) refl made
  where
    by : (o : Option Entry) → entry_at c path ≡ o → given (file_asked path o) (without path c) ≡ Ok d → IsTree d
    by None at run = let same : c ≡ d = cc in subst IsTree same tree
    by (Some (FolderEntry bad)) at run = absurd cc
    by (Some (FileEntry bytes)) at run = let same : remove c path ≡ d = cc in subst IsTree same (removed-tree c path tree (there-unrefused path c (length bytes) (ap (λ o. size_asked (file_asked path o)) at)))
    by (Some LinkEntry) at run = absurd cc

-- files of relations

file_tree : (root : PathValue) (rel : RelName) (fork : Fork) (segment : ℕ) (edit : List ℕ → List ℕ) (c d : Contents) → IsTree c → file_edited root (relation_file root rel fork segment) edit c ≡ Ok d → IsTree d
file_tree root rel fork segment edit c d tree made = edited_tree root (relation_file root rel fork segment) edit c d (file-is_held root (relation_file root rel fork segment) rel fork segment refl) (file-is_deeper root (relation_file root rel fork segment) rel fork segment refl) tree made

swept_tree : (sweep : Sweep) (path : PathValue) (c d : Contents) → IsTree c → swept sweep path c ≡ Ok d → IsTree d
swept_tree Remove path c d tree made = removed_tree path c d tree made
swept_tree (Empty fork segment) path c d tree made = cut_tree path 0 c d tree made

either : (t : Bool) (r : Result Contents FileFault) (c d : Contents) → IsTree c → (r ≡ Ok d → IsTree d) → (if t then r else Ok c) ≡ Ok d → IsTree d
either true r c d tree done made = done made
either false r c d tree done made = let same : c ≡ d = cc in subst IsTree same tree

-- what keeps such contents for each name keeps them for names in turn
turn_tree : (step : List ℕ → Contents → Result Contents FileFault) → ((name : List ℕ) (c d : Contents) → IsTree c → step name c ≡ Ok d → IsTree d) → (names : List (List ℕ)) (c d : Contents) → IsTree c → in_turn step names c ≡ Ok d → IsTree d
unfolding in_turn
turn_tree step each [] c d tree made = let same : c ≡ d = cc in subst IsTree same tree
turn_tree step each (name ∷ names) c d tree made =
    let two = given-done (step name c) (in_turn step names) d made in
    turn_tree step each names two.0 d (each name c two.0 tree two.1) two.2

entry_tree : (sweep : Sweep) (relation : ℕ) (folder : PathValue) (name : List ℕ) (c d : Contents) → IsTree c → entry_swept sweep relation folder name c ≡ Ok d → IsTree d
unfolding entry_swept
entry_tree sweep relation folder name c d tree made = either (name_swept sweep relation (file_named name)) (swept sweep (below folder (name ∷ [])) c) c d tree (swept_tree sweep (below folder (name ∷ [])) c d tree) made

sweep_tree : (root : PathValue) (sweep : Sweep) (rel : RelName) (c d : Contents) → IsTree c → files_swept root sweep rel c ≡ Ok d → IsTree d
unfolding files_swept
sweep_tree root sweep rel c d tree made =
    let two = given-done (names_asked c (relation_folder root rel) (entry_at c (relation_folder root rel))) (λ names. in_turn (entry_swept sweep rel.relation (relation_folder root rel)) names c) d made in
    turn_tree (entry_swept sweep rel.relation (relation_folder root rel)) (entry_tree sweep rel.relation (relation_folder root rel)) two.0 c d tree two.2

-- the calls

filled_tree : (root : PathValue) (per : ℕ) (rel : RelName) (fork : Fork) (count file : ℕ) (c d : Contents) → IsTree c → files_filled root per rel fork count file c ≡ Ok d → IsTree d
unfolding files_filled
filled_tree root per rel fork zero file c d tree made = let same : c ≡ d = cc in subst IsTree same tree
filled_tree root per rel fork (suc count) file c d tree made =
    let two = given-done (file_filled root per rel fork file c) (files_filled root per rel fork count (file + 1)) d made in
    filled_tree root per rel fork count (file + 1) two.0 d (file_tree root rel fork file (grown per) c two.0 tree two.1) two.2

pub written-tree : (root : PathValue) (per : ℕ) (name : BlockName) (page : List ℕ) (c d : Contents) → IsTree c → block_put root per name page c ≡ Ok d → IsTree d
unfolding block_put
written-tree root per name page c d tree made =
    let two = given-done (files_filled root per name.rel name.fork (name.block / per) 0 c) (block_in_file root per name page) d made in
    file_tree root name.rel name.fork (name.block / per) (block_laid (name.block % per) page) two.0 d (filled_tree root per name.rel name.fork (name.block / per) 0 c two.0 tree two.1) two.2

pub created-tree : (root : PathValue) (rel : RelName) (fork : Fork) (c d : Contents) → IsTree c → created root rel fork c ≡ Ok d → IsTree d
created-tree root rel fork c d tree made = file_tree root rel fork 0 (λ bytes. bytes) c d tree made

pub dropped-tree : (root : PathValue) (rel : RelName) (c d : Contents) → IsTree c → relation_dropped root rel c ≡ Ok d → IsTree d
dropped-tree root rel c d tree made = sweep_tree root Remove rel c d tree made

pub fork-tree : (root : PathValue) (per : ℕ) (rel : RelName) (fork : Fork) (blocks : ℕ) (c d : Contents) → IsTree c → fork_cut root per rel fork blocks c ≡ Ok d → IsTree d
unfolding fork_cut files_cut
fork-tree root per rel fork blocks c d tree made =
    let two = given-done (fork_length root per rel fork c) (λ o. if is_longer blocks o then files_cut root per rel fork blocks c else Ok c) d made in
    either (is_longer blocks two.0) (files_cut root per rel fork blocks c) c d tree cut two.2
  where
    cut : files_cut root per rel fork blocks c ≡ Ok d → IsTree d
    cut run =
        let steps = given-done (file_cut (relation_file root rel fork (blocks / per)) (blocks % per * 8192) c) (files_swept root (Empty fork (blocks / per)) rel) d run in
        sweep_tree root (Empty fork (blocks / per)) rel steps.0 d (cut_tree (relation_file root rel fork (blocks / per)) (blocks % per * 8192) c steps.0 tree steps.1) steps.2

pub map-tree : (root : PathValue) (per : ℕ) (rel : RelName) (block : ℕ) (edit : MapEdit) (c d : Contents) → IsTree c → map_edited root per rel block edit c ≡ Ok d → IsTree d
unfolding map_edited
map-tree root per rel block edit c d tree made =
    let two = given-done (has_block root per rel Visibility (map_page block) c) (λ t. if t then map_in_file root per rel block edit c else Ok c) d made in
    either two.0 (map_in_file root per rel block edit c) c d tree (file_tree root rel Visibility (map_page block / per) (bits_edited per block edit) c d tree) two.2

map_cut_tree : (root : PathValue) (per : ℕ) (rel : RelName) (blocks : ℕ) (c d : Contents) → IsTree c → map_cut root per rel blocks c ≡ Ok d → IsTree d
unfolding map_cut_in_page
map_cut_tree root per rel blocks c d tree made = by (fill_pages blocks) made
  where
    by : (t : Bool) → (if t then fork_cut root per rel Visibility (map_page blocks) c else map_cut_in_page root per rel blocks c) ≡ Ok d → IsTree d
    by true run = fork-tree root per rel Visibility (map_page blocks) c d tree run
    by false run =
        let two = given-done (map_edited root per rel blocks Cut c) (fork_cut root per rel Visibility (map_page blocks + 1)) d run in
        fork-tree root per rel Visibility (map_page blocks + 1) two.0 d (map-tree root per rel blocks Cut c two.0 tree two.1) two.2

main_cut_tree : (root : PathValue) (per : ℕ) (rel : RelName) (blocks : ℕ) (c d : Contents) → IsTree c → main_cut root per rel blocks c ≡ Ok d → IsTree d
unfolding main_cut
main_cut_tree root per rel blocks c d tree made =
    let two = given-done (created root rel Main c) (fork_cut root per rel Main blocks) d made in
    fork-tree root per rel Main blocks two.0 d (created-tree root rel Main c two.0 tree two.1) two.2

pub truncated-tree : (root : PathValue) (per : ℕ) (rel : RelName) (blocks flags : ℕ) (c d : Contents) → IsTree c → truncated root per rel blocks flags c ≡ Ok d → IsTree d
unfolding truncated
truncated-tree root per rel blocks flags c d tree made =
    let two = given-done (main_by root per rel blocks flags c) (map_by root per rel blocks flags) d made in
    let first = either (cuts_main flags) (main_cut root per rel blocks c) c two.0 tree (main_cut_tree root per rel blocks c two.0 tree) two.1 in
    either (cuts_map flags) (map_cut root per rel blocks two.0) two.0 d first (map_cut_tree root per rel blocks two.0 d first) two.2

-- databases

held_in : (root : PathValue) (parts : List (List ℕ)) (name : List ℕ) → Holds root (below (below root parts) (name ∷ []))
held_in root parts name =
    let whole : below (below root parts) (name ∷ []) ≡ below root (parts ++ name ∷ []) = same_path _ _ refl (append_assoc root.parts parts (name ∷ [])) in
    subst (Holds root) (sym whole) (holds-below root (parts ++ name ∷ []))

deeper_in : (root : PathValue) (parts : List (List ℕ)) (name : List ℕ) → length root.parts < length (below (below root parts) (name ∷ [])).parts
deeper_in root parts name = omega (arith, length-append (below root parts).parts (name ∷ []), length-append root.parts parts)

pub made-database_tree : (root : PathValue) (database : ℕ) (c d : Contents) → IsTree c → database_made root database c ≡ Ok d → IsTree d
unfolding database_made
made-database_tree root database c d tree made =
    let two = given-done (file_asked (version_file root database) (entry_at c (version_file root database))) (version_by root (version_file root database) c) d made in
    by two.0 two.2
  where
    by : (found : Option (List ℕ)) → version_by root (version_file root database) c found ≡ Ok d → IsTree d
    by (Some bytes) run = let same : c ≡ d = cc in subst IsTree same tree
    by None run = edited_tree root (version_file root database) (laid 0 0 version_text) c d (held_in root (database_parts database) (codes "PG_VERSION")) (deeper_in root (database_parts database) (codes "PG_VERSION")) tree run

-- a folder that is removed with all that it holds

folder_tree : (deeper : ℕ) (folder : PathValue) (c d : Contents) → ((name : List ℕ) (e f : Contents) → IsTree e → entry_cleared deeper folder name e ≡ Ok f → IsTree f) → 0 < length folder.parts → is_folder (entry_at c folder) ≡ true → IsTree c → cleared_by (entry_cleared deeper folder) folder c ≡ Ok d → IsTree d
folder_tree deeper folder c d each some there tree made =
    let two = given-done (names_asked c folder (entry_at c folder)) (λ names. emptied (entry_cleared deeper folder) folder names c) d made in
    let three = given-done (in_turn (entry_cleared deeper folder) two.0 c) (λ e. Ok (remove e folder)) d two.2 in
    let last : Ok (remove three.0 folder) ≡ Ok d = three.2 in
    let same : remove three.0 folder ≡ d = cc in
    subst IsTree same (removed-tree three.0 folder (turn_tree (entry_cleared deeper folder) each two.0 c three.0 tree three.1) (clear-unrefused deeper folder two.0 c three.0 some there two.1 three.1))

cleared_tree : (deeper : ℕ) (folder : PathValue) (name : List ℕ) (c d : Contents) → IsTree c → entry_cleared deeper folder name c ≡ Ok d → IsTree d
unfolding entry_cleared
cleared_tree zero folder name c d tree made = absurd cc
cleared_tree (suc deeper) folder name c d tree made =
    let path : PathValue = below folder (name ∷ []) in
    let two = given-done (full_asked path (entry_at c path)) (λ full. if full then cleared_by (entry_cleared deeper path) path c else file_removed path c) d made in
    by (λ n e f. cleared_tree deeper (below folder (name ∷ [])) n e f) two.0 two.1 two.2
  where
    by : ((n : List ℕ) (e f : Contents) → IsTree e → entry_cleared deeper (below folder (name ∷ [])) n e ≡ Ok f → IsTree f) → (full : Bool) → full_asked (below folder (name ∷ [])) (entry_at c (below folder (name ∷ []))) ≡ Ok full → (if full then cleared_by (entry_cleared deeper (below folder (name ∷ []))) (below folder (name ∷ [])) c else file_removed (below folder (name ∷ [])) c) ≡ Ok d → IsTree d
    by each true asked run = folder_tree deeper (below folder (name ∷ [])) c d each (omega (arith, length-append folder.parts (name ∷ []))) (full-is (below folder (name ∷ [])) (entry_at c (below folder (name ∷ []))) asked) tree run
    by each false asked run = removed_tree (below folder (name ∷ [])) c d tree run

pub database-dropped_tree : (root : PathValue) (database : ℕ) (c d : Contents) → IsTree c → database_dropped root database c ≡ Ok d → IsTree d
unfolding tree_removed
database-dropped_tree root database c d tree made =
    let path : PathValue = database_folder root database in
    let two = given-done (folder_asked path (entry_at c path)) (λ there. if there then folder_cleared (64 - length path.parts) path c else Ok c) d made in
    by two.0 two.1 two.2
  where
    by : (there : Bool) → folder_asked (database_folder root database) (entry_at c (database_folder root database)) ≡ Ok there → (if there then folder_cleared (64 - length (database_folder root database).parts) (database_folder root database) c else Ok c) ≡ Ok d → IsTree d
    by true asked run =
        let deeper : ℕ = 64 - length (database_folder root database).parts in
        folder_tree deeper (database_folder root database) c d (cleared_tree deeper (database_folder root database)) (omega (arith, length-append root.parts (database_parts database))) (there-is (database_folder root database) (entry_at c (database_folder root database)) asked) tree run
    by false asked run = let same : c ≡ d = cc in subst IsTree same tree

pub map-written_tree : (root : PathValue) (update : Option RelMapUpdate) (c d : Contents) → IsTree c → map_written root update c ≡ Ok d → IsTree d
map-written_tree root None c d tree made = let same : c ≡ d = cc in subst IsTree same tree
map-written_tree root (Some update) c d tree made = edited_tree root (below (below root (map_parts update.database)) (codes "pg_filenode.map" ∷ [])) (λ _. update.map) c d (held_in root (map_parts update.database) (codes "pg_filenode.map")) (deeper_in root (map_parts update.database) (codes "pg_filenode.map")) tree made
