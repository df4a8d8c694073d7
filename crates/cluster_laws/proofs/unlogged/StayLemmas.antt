-- A file that stands at a path stays one, whatever is done elsewhere, and where it is edited or cut.
use Rattle.std.proofs.Common.{◌≡◌, ℕ, zero, suc, ◌+◌, ◌*◌, ◌/◌, ◌%◌, Bool, true, false, List, [], ◌∷◌, Option, None, Some, Result, Ok, refl, ap, sym, ◌∙◌, ⊎_elim, true≢false}
use Rattle.std.specs.Prelude.{if◌then◌else◌}
use Rattle.std.specs.List.{AllByRecursion}
use Rattle.block_refs.specs.declared.names.BlockName.{BlockName}
use Rattle.block_refs.specs.declared.names.Fork.{Fork}
use Rattle.block_refs.specs.declared.names.Fork.TheVariants.{Main, Visibility}
use Rattle.block_refs.specs.declared.names.RelName.{RelName}
use Rattle.cluster_tree.specs.Causes.{given}
use Rattle.cluster_tree.specs.Contents.{Contents, Entry, FolderEntry, FileEntry, LinkEntry, entry_at, is_file}
use Rattle.cluster_tree.specs.PathValue.{PathValue, below}
use Rattle.cluster_tree.specs.Tree.{bytes_at, bytes_in}
use Rattle.cluster_tree.specs.declared.file_fault.FileFault.{FileFault}
use Rattle.cluster_tree.proofs.ContentsLemmas.{entry-put}
use Rattle.file_effects.specs.Done.{for_each}
use Rattle.file_edits.specs.Asking.{file_asked, names_asked}
use Rattle.file_edits.specs.Clearing.{in_turn}
use Rattle.file_edits.specs.Edits.{edited, file_cut, file_edited, way_for}
use Rattle.file_edits.proofs.CutLemmas.{cut-elsewhere, cut-stands}
use Rattle.file_edits.proofs.EditLemmas.{same_or_other}
use Rattle.file_edits.proofs.LawLemmas.{edited-elsewhere}
use Rattle.relation_files.specs.Paths.{relation_file, relation_folder}
use Rattle.relation_files.specs.Reading.{file_named}
use Rattle.storage_replay.specs.Blocks.{block_in_file, block_laid, block_put, file_filled, files_filled, grown}
use Rattle.storage_replay.specs.Changes.{created, cuts_main, cuts_map, main_by, main_cut, map_by, truncated}
use Rattle.storage_replay.specs.Cutting.{entry_swept, files_cut, files_swept, fork_cut, is_longer, name_swept, swept}
use Rattle.storage_replay.specs.Lengths.{fork_length, has_block}
use Rattle.storage_replay.specs.MapBits.{bits_edited, fill_pages, map_cut, map_cut_in_page, map_edited, map_in_file, map_page}
use Rattle.storage_replay.specs.declared.map_edit.MapEdit.{MapEdit}
use Rattle.storage_replay.specs.declared.map_edit.MapEdit.TheVariants.{Cut}
use Rattle.storage_replay.specs.declared.sweep.Sweep.TheVariants.{Empty}
use Rattle.storage_laws.proofs.EditedLemmas.{given-done}

abbrev pub OkFiles : Contents → Result Contents FileFault
OkFiles c = Ok c

one_files : (c d : Contents) → OkFiles c ≡ OkFiles d → c ≡ d
one_files c d e = cc

file_is : (o : Option Entry) → is_file o ≡ true → o ≡ Some (FileEntry (bytes_in o))
file_is None h = absurd (true≢false (sym h))
file_is (Some (FolderEntry bad)) h = absurd (true≢false (sym h))
file_is (Some (FileEntry bytes)) h = refl
file_is (Some LinkEntry) h = absurd (true≢false (sym h))

module _ (q : PathValue) where
  abbrev pub Stays : Contents → Contents → Type 0
  Stays c d = is_file (entry_at c q) ≡ true → is_file (entry_at d q) ≡ true

  pub stays-same : (c d : Contents) → c ≡ d → Stays c d
  stays-same c d same there = ap (λ e. is_file (entry_at e q)) (sym same) ∙ there

  pub stays-then : (c d e : Contents) → Stays c d → Stays d e → Stays c e
  stays-then c d e first next there = next (first there)

  pub stays-elsewhere : (c d : Contents) → entry_at d q ≡ entry_at c q → Stays c d
  stays-elsewhere c d same there = ap is_file same ∙ there

  -- an edit leaves a file at its path, and makes but folders elsewhere, where nothing stood
  edited_file : (root path : PathValue) (edit : List ℕ → List ℕ) (c d : Contents) → file_edited root path edit c ≡ Ok d → is_file (entry_at d path) ≡ true
  unfolding file_edited
  edited_file root path edit c d made =
      let two = given-done (given (file_asked path (entry_at c path)) (way_for root path c)) (λ e. OkFiles (edited path edit e)) d made in
      ap (λ e. is_file (entry_at e path)) (sym (one_files (edited path edit two.0) d two.2)) ∙ ap is_file (entry-put two.0 path (FileEntry (edit (bytes_at two.0 path))))

  pub edited-stays : (root path : PathValue) (edit : List ℕ → List ℕ) (c d : Contents) → file_edited root path edit c ≡ Ok d → Stays c d
  edited-stays root path edit c d made there = same_or_other q path
      (λ same. ap (λ p. is_file (entry_at d p)) same ∙ edited_file root path edit c d made)
      (λ other. ⊎_elim (λ left. ap is_file left ∙ there) (λ new. absurd (true≢false (sym there ∙ ap is_file new.1))) (edited-elsewhere root path edit c d q made other))

  pub cut-stays : (path : PathValue) (size : ℕ) (c d : Contents) → file_cut path size c ≡ Ok d → Stays c d
  cut-stays path size c d made there = same_or_other q path
      (λ same.
      let old : entry_at c path ≡ Some (FileEntry (bytes_at c path)) = file_is (entry_at c path) (ap (λ p. is_file (entry_at c p)) (sym same) ∙ there) in
      ap (λ p. is_file (entry_at d p)) same ∙ ap is_file (cut-stands path size (bytes_at c path) c d old made))
      (λ other. ap is_file (cut-elsewhere path size c d q made other) ∙ there)

  -- one after another
  pub turn-stays : (step : List ℕ → Contents → Result Contents FileFault) → ((name : List ℕ) (c d : Contents) → step name c ≡ Ok d → Stays c d) → (names : List (List ℕ)) (c d : Contents) → in_turn step names c ≡ Ok d → Stays c d
  unfolding in_turn
  turn-stays step one [] c d made = stays-same c d cc
  turn-stays step one (name ∷ names) c d made =
      let two = given-done (step name c) (in_turn step names) d made in
      stays-then c two.0 d (one name c two.0 two.1) (turn-stays step one names two.0 d two.2)

  pub each-stays : {A : Type 0} (P : A → Type 0) (step : A → Contents → Result Contents FileFault) → ((one : A) (c d : Contents) → P one → step one c ≡ Ok d → Stays c d)
      → (list : List A) (c d : Contents) → AllByRecursion P list → for_each step list c ≡ Ok d → Stays c d
  unfolding for_each
  each-stays P step one [] c d all made = stays-same c d cc
  each-stays P step one (x ∷ list) c d all made =
      let two = given-done (step x c) (for_each step list) d made in
      stays-then c two.0 d (one x c two.0 all.0 two.1) (each-stays P step one list two.0 d all.1 two.2)

-- ---- files of relations but for those that are dropped

module _ (q root : PathValue) (per : ℕ) where
  filled_stays : (rel : RelName) (fork : Fork) (count file : ℕ) (c d : Contents) → files_filled root per rel fork count file c ≡ Ok d → Stays q c d
  unfolding files_filled
  filled_stays rel fork zero file c d made = stays-same q c d cc
  filled_stays rel fork (suc count) file c d made =
      let two = given-done (file_filled root per rel fork file c) (files_filled root per rel fork count (file + 1)) d made in
      stays-then q c two.0 d (edited-stays q root (relation_file root rel fork file) (grown per) c two.0 two.1) (filled_stays rel fork count (file + 1) two.0 d two.2)

  pub put-stays : (name : BlockName) (page : List ℕ) (c d : Contents) → block_put root per name page c ≡ Ok d → Stays q c d
  unfolding block_put
  put-stays name page c d made =
      let two = given-done (files_filled root per name.rel name.fork (name.block / per) 0 c) (block_in_file root per name page) d made in
      stays-then q c two.0 d (filled_stays name.rel name.fork (name.block / per) 0 c two.0 two.1)
      (edited-stays q root (relation_file root name.rel name.fork (name.block / per)) (block_laid (name.block % per) page) two.0 d two.2)

  pub created-stays : (rel : RelName) (fork : Fork) (c d : Contents) → created root rel fork c ≡ Ok d → Stays q c d
  created-stays rel fork c d made = edited-stays q root (relation_file root rel fork 0) (λ bytes. bytes) c d made

  pub map-stays : (rel : RelName) (block : ℕ) (edit : MapEdit) (c d : Contents) → map_edited root per rel block edit c ≡ Ok d → Stays q c d
  unfolding map_edited
  map-stays rel block edit c d made =
      let two = given-done (has_block root per rel Visibility (map_page block) c) (λ there. if there then map_in_file root per rel block edit c else OkFiles c) d made in
      by two.0 two.2
    where
      by : (t : Bool) → (if t then map_in_file root per rel block edit c else OkFiles c) ≡ Ok d → Stays q c d
      by true run = edited-stays q root (relation_file root rel Visibility (map_page block / per)) (bits_edited per block edit) c d run
      by false run = stays-same q c d (one_files c d run)

  -- forks that are cut: files become shorter, or empty

  empty_stays : (fork : Fork) (segment relation : ℕ) (folder : PathValue) (name : List ℕ) (c d : Contents) → entry_swept (Empty fork segment) relation folder name c ≡ Ok d → Stays q c d
  unfolding entry_swept
  empty_stays fork segment relation folder name c d made = by (name_swept (Empty fork segment) relation (file_named name)) made
    where
      by : (t : Bool) → (if t then swept (Empty fork segment) (below folder (name ∷ [])) c else OkFiles c) ≡ Ok d → Stays q c d
      by true run = cut-stays q (below folder (name ∷ [])) 0 c d run
      by false run = stays-same q c d (one_files c d run)

  emptied_stays : (fork : Fork) (segment : ℕ) (rel : RelName) (c d : Contents) → files_swept root (Empty fork segment) rel c ≡ Ok d → Stays q c d
  unfolding files_swept
  emptied_stays fork segment rel c d made =
      let step : List ℕ → Contents → Result Contents FileFault = entry_swept (Empty fork segment) rel.relation (relation_folder root rel) in
      let two = given-done (names_asked c (relation_folder root rel) (entry_at c (relation_folder root rel))) (λ names. in_turn step names c) d made in
      turn-stays q step (empty_stays fork segment rel.relation (relation_folder root rel)) two.0 c d two.2

  files_stay : (rel : RelName) (fork : Fork) (blocks : ℕ) (c d : Contents) → files_cut root per rel fork blocks c ≡ Ok d → Stays q c d
  unfolding files_cut
  files_stay rel fork blocks c d made =
      let two = given-done (file_cut (relation_file root rel fork (blocks / per)) (blocks % per * 8192) c) (files_swept root (Empty fork (blocks / per)) rel) d made in
      stays-then q c two.0 d (cut-stays q (relation_file root rel fork (blocks / per)) (blocks % per * 8192) c two.0 two.1) (emptied_stays fork (blocks / per) rel two.0 d two.2)

  fork_stays : (rel : RelName) (fork : Fork) (blocks : ℕ) (c d : Contents) → fork_cut root per rel fork blocks c ≡ Ok d → Stays q c d
  unfolding fork_cut
  fork_stays rel fork blocks c d made =
      let two = given-done (fork_length root per rel fork c) (λ there. if is_longer blocks there then files_cut root per rel fork blocks c else OkFiles c) d made in
      by (is_longer blocks two.0) two.2
    where
      by : (t : Bool) → (if t then files_cut root per rel fork blocks c else OkFiles c) ≡ Ok d → Stays q c d
      by true run = files_stay rel fork blocks c d run
      by false run = stays-same q c d (one_files c d run)

  main_stays : (rel : RelName) (blocks : ℕ) (c d : Contents) → main_cut root per rel blocks c ≡ Ok d → Stays q c d
  unfolding main_cut
  main_stays rel blocks c d made =
      let two = given-done (created root rel Main c) (fork_cut root per rel Main blocks) d made in
      stays-then q c two.0 d (created-stays rel Main c two.0 two.1) (fork_stays rel Main blocks two.0 d two.2)

  in_page_stays : (rel : RelName) (blocks : ℕ) (c d : Contents) → map_cut_in_page root per rel blocks c ≡ Ok d → Stays q c d
  unfolding map_cut_in_page
  in_page_stays rel blocks c d made =
      let two = given-done (map_edited root per rel blocks Cut c) (fork_cut root per rel Visibility (map_page blocks + 1)) d made in
      stays-then q c two.0 d (map-stays rel blocks Cut c two.0 two.1) (fork_stays rel Visibility (map_page blocks + 1) two.0 d two.2)

  map_cut_stays : (rel : RelName) (blocks : ℕ) (c d : Contents) → map_cut root per rel blocks c ≡ Ok d → Stays q c d
  map_cut_stays rel blocks c d made = by (fill_pages blocks) made
    where
      by : (t : Bool) → (if t then fork_cut root per rel Visibility (map_page blocks) c else map_cut_in_page root per rel blocks c) ≡ Ok d → Stays q c d
      by true run = fork_stays rel Visibility (map_page blocks) c d run
      by false run = in_page_stays rel blocks c d run

  pub truncated-stays : (rel : RelName) (blocks flags : ℕ) (c d : Contents) → truncated root per rel blocks flags c ≡ Ok d → Stays q c d
  unfolding truncated
  truncated-stays rel blocks flags c d made =
      let two = given-done (main_by root per rel blocks flags c) (map_by root per rel blocks flags) d made in
      stays-then q c two.0 d (main_part (cuts_main flags) c two.0 two.1) (map_part (cuts_map flags) two.0 d two.2)
    where
      main_part : (t : Bool) (c d : Contents) → (if t then main_cut root per rel blocks c else OkFiles c) ≡ Ok d → Stays q c d
      main_part true c d run = main_stays rel blocks c d run
      main_part false c d run = stays-same q c d (one_files c d run)

      map_part : (t : Bool) (c d : Contents) → (if t then map_cut root per rel blocks c else OkFiles c) ≡ Ok d → Stays q c d
      map_part true c d run = map_cut_stays rel blocks c d run
      map_part false c d run = stays-same q c d (one_files c d run)
