-- Forks and relations: what is left of the sizes of main forks' files, and of files that tell a version.
use Rattle.std.proofs.Common.{◌≡◌, ℕ, zero, suc, ◌+◌, ◌*◌, ◌/◌, ◌%◌, Bool, true, false, List, [], ◌∷◌, length, Option, None, Some, Result, Ok, refl, sym, subst, ◌∙◌, arith}
use Rattle.std.specs.Prelude.{if◌then◌else◌}
use Rattle.alike_clusters.proofs.NameLemmas.{map-not_main}
use Rattle.block_refs.specs.declared.names.BlockName.{BlockName}
use Rattle.block_refs.specs.declared.names.Fork.{Fork}
use Rattle.block_refs.specs.declared.names.Fork.TheVariants.{Main, Visibility}
use Rattle.block_refs.specs.declared.names.RelName.{RelName}
use Rattle.cluster_tree.specs.Contents.{Contents, entry_at}
use Rattle.cluster_tree.specs.PathValue.{PathValue, below}
use Rattle.cluster_tree.specs.declared.file_fault.FileFault.{FileFault}
use Rattle.file_edits.specs.Asking.{names_asked}
use Rattle.file_edits.specs.Clearing.{in_turn}
use Rattle.file_edits.specs.Edits.{file_cut}
use Rattle.relation_files.specs.Paths.{relation_file, relation_folder}
use Rattle.relation_files.specs.Reading.{file_named}
use Rattle.relation_files.specs.declared.file_name.FileName.{FileName}
use Rattle.relation_files.proofs.NameLemmas.{written-named}
use Rattle.storage_laws.proofs.EditedLemmas.{given-done}
use Rattle.storage_replay.specs.Blocks.{block_in_file, block_laid, block_put, file_filled, files_filled, grown}
use Rattle.storage_replay.specs.Changes.{created, cuts_main, cuts_map, main_by, main_cut, map_by, relation_dropped, truncated}
use Rattle.storage_replay.specs.Cutting.{entry_swept, files_cut, files_swept, fork_cut, is_longer, name_swept, swept}
use Rattle.storage_replay.specs.Lengths.{fork_length, has_block}
use Rattle.storage_replay.specs.MapBits.{bits_edited, fill_pages, map_cut, map_cut_in_page, map_edited, map_in_file, map_page}
use Rattle.storage_replay.specs.declared.map_edit.MapEdit.{MapEdit}
use Rattle.storage_replay.specs.declared.map_edit.MapEdit.TheVariants.{Cut}
use Rattle.storage_replay.specs.declared.sweep.Sweep.{Sweep}
use Rattle.storage_replay.specs.declared.sweep.Sweep.TheVariants.{Remove, Empty}
use Rattle.replayed_bytes.proofs.StepLemmas.{OkFiles, Steps, file-cut, file-edited, file-removed, grown-sized, laid-sized, one-files, steps-same, steps-then, turn-steps}

whole_blocks : (n : ℕ) → n * 8192 % 8192 ≡ 0
whole_blocks n = omega arith

module _ (root : PathValue) (per : ℕ) where
  filled_steps : (rel : RelName) (fork : Fork) (count file : ℕ) (c d : Contents) → files_filled root per rel fork count file c ≡ Ok d → Steps root c d
  unfolding files_filled
  filled_steps rel fork zero file c d made = steps-same root c d (one-files c d made)
  filled_steps rel fork (suc count) file c d made =
      let two = given-done (file_filled root per rel fork file c) (files_filled root per rel fork count (file + 1)) d made in
      steps-then root c two.0 d (file-edited root rel fork file (grown per) c two.0 (λ at is a sized. grown-sized per a sized) two.1) (filled_steps rel fork count (file + 1) two.0 d two.2)

  pub put-steps : (name : BlockName) (page : List ℕ) (c d : Contents) → length page ≡ 8192 → block_put root per name page c ≡ Ok d → Steps root c d
  unfolding block_put
  put-steps name page c d size made =
      let two = given-done (files_filled root per name.rel name.fork (name.block / per) 0 c) (block_in_file root per name page) d made in
      steps-then root c two.0 d (filled_steps name.rel name.fork (name.block / per) 0 c two.0 two.1)
      (file-edited root name.rel name.fork (name.block / per) (block_laid (name.block % per) page) two.0 d (λ at is a sized. laid-sized (name.block % per) page a size sized) two.2)

  pub created-steps : (rel : RelName) (fork : Fork) (c d : Contents) → created root rel fork c ≡ Ok d → Steps root c d
  created-steps rel fork c d made = file-edited root rel fork 0 (λ bytes. bytes) c d (λ at is a sized. sized) made

  -- files of the map are none of a main fork
  pub map-steps : (rel : RelName) (block : ℕ) (edit : MapEdit) (c d : Contents) → map_edited root per rel block edit c ≡ Ok d → Steps root c d
  unfolding map_edited
  map-steps rel block edit c d made =
      let two = given-done (has_block root per rel Visibility (map_page block) c) (λ there. if there then map_in_file root per rel block edit c else OkFiles c) d made in
      by two.0 two.2
    where
      by : (t : Bool) → (if t then map_in_file root per rel block edit c else OkFiles c) ≡ Ok d → Steps root c d
      by true run =
          file-edited root rel Visibility (map_page block / per) (bits_edited per block edit) c d
          (λ at is a sized. let wrong : None ≡ Some at = sym (map-not_main rel (map_page block / per)) ∙ is in absurd cc) run
      by false run = steps-same root c d (one-files c d run)

  -- ---- files that are swept are a relation's

  -- the relation of a number, in the folder of another
  abbrev beside : RelName → ℕ → RelName
  beside rel number = record { space = rel.space; database = rel.database; relation = number }

  swept_steps : (sweep : Sweep) (rel : RelName) (name : List ℕ) (file : FileName) (c d : Contents) → file_named name ≡ Some file → swept sweep (below (relation_folder root rel) (name ∷ [])) c ≡ Ok d → Steps root c d
  swept_steps sweep rel name file c d is made = by sweep (subst (λ n. swept sweep (below (relation_folder root rel) (n ∷ [])) c ≡ Ok d) (written-named name file is).1 made)
    where
      by : (sweep : Sweep) → swept sweep (relation_file root (beside rel file.relation) file.fork file.segment) c ≡ Ok d → Steps root c d
      by Remove run = file-removed root (beside rel file.relation) file.fork file.segment c d run
      by (Empty fork segment) run = file-cut root (beside rel file.relation) file.fork file.segment 0 c d refl run

  entry_steps : (sweep : Sweep) (rel : RelName) (name : List ℕ) (c d : Contents) → entry_swept sweep rel.relation (relation_folder root rel) name c ≡ Ok d → Steps root c d
  unfolding entry_swept
  entry_steps sweep rel name c d made = by (file_named name) refl made
    where
      by_file : (t : Bool) (file : FileName) → file_named name ≡ Some file → (if t then swept sweep (below (relation_folder root rel) (name ∷ [])) c else OkFiles c) ≡ Ok d → Steps root c d
      by_file true file is run = swept_steps sweep rel name file c d is run
      by_file false file is run = steps-same root c d (one-files c d run)

      by : (o : Option FileName) → file_named name ≡ o → (if name_swept sweep rel.relation o then swept sweep (below (relation_folder root rel) (name ∷ [])) c else OkFiles c) ≡ Ok d → Steps root c d
      by None is run = steps-same root c d (one-files c d run)
      by (Some file) is run = by_file (name_swept sweep rel.relation (Some file)) file is run

  sweep_steps : (sweep : Sweep) (rel : RelName) (c d : Contents) → files_swept root sweep rel c ≡ Ok d → Steps root c d
  unfolding files_swept
  sweep_steps sweep rel c d made =
      let step : List ℕ → Contents → Result Contents FileFault = entry_swept sweep rel.relation (relation_folder root rel) in
      let two = given-done (names_asked c (relation_folder root rel) (entry_at c (relation_folder root rel))) (λ names. in_turn step names c) d made in
      turn-steps root step (entry_steps sweep rel) two.0 c d two.2

  pub dropped-steps : (rel : RelName) (c d : Contents) → relation_dropped root rel c ≡ Ok d → Steps root c d
  dropped-steps rel c d made = sweep_steps Remove rel c d made

  -- ---- forks that are cut

  files_steps : (rel : RelName) (fork : Fork) (blocks : ℕ) (c d : Contents) → files_cut root per rel fork blocks c ≡ Ok d → Steps root c d
  unfolding files_cut
  files_steps rel fork blocks c d made =
      let two = given-done (file_cut (relation_file root rel fork (blocks / per)) (blocks % per * 8192) c) (files_swept root (Empty fork (blocks / per)) rel) d made in
      steps-then root c two.0 d (file-cut root rel fork (blocks / per) (blocks % per * 8192) c two.0 (whole_blocks (blocks % per)) two.1) (sweep_steps (Empty fork (blocks / per)) rel two.0 d two.2)

  fork_steps : (rel : RelName) (fork : Fork) (blocks : ℕ) (c d : Contents) → fork_cut root per rel fork blocks c ≡ Ok d → Steps root c d
  unfolding fork_cut
  fork_steps rel fork blocks c d made =
      let two = given-done (fork_length root per rel fork c) (λ there. if is_longer blocks there then files_cut root per rel fork blocks c else OkFiles c) d made in
      by (is_longer blocks two.0) two.2
    where
      by : (t : Bool) → (if t then files_cut root per rel fork blocks c else OkFiles c) ≡ Ok d → Steps root c d
      by true run = files_steps rel fork blocks c d run
      by false run = steps-same root c d (one-files c d run)

  main_steps : (rel : RelName) (blocks : ℕ) (c d : Contents) → main_cut root per rel blocks c ≡ Ok d → Steps root c d
  unfolding main_cut
  main_steps rel blocks c d made =
      let two = given-done (created root rel Main c) (fork_cut root per rel Main blocks) d made in
      steps-then root c two.0 d (created-steps rel Main c two.0 two.1) (fork_steps rel Main blocks two.0 d two.2)

  in_page_steps : (rel : RelName) (blocks : ℕ) (c d : Contents) → map_cut_in_page root per rel blocks c ≡ Ok d → Steps root c d
  unfolding map_cut_in_page
  in_page_steps rel blocks c d made =
      let two = given-done (map_edited root per rel blocks Cut c) (fork_cut root per rel Visibility (map_page blocks + 1)) d made in
      steps-then root c two.0 d (map-steps rel blocks Cut c two.0 two.1) (fork_steps rel Visibility (map_page blocks + 1) two.0 d two.2)

  map_cut_steps : (rel : RelName) (blocks : ℕ) (c d : Contents) → map_cut root per rel blocks c ≡ Ok d → Steps root c d
  map_cut_steps rel blocks c d made = by (fill_pages blocks) made
    where
      by : (t : Bool) → (if t then fork_cut root per rel Visibility (map_page blocks) c else map_cut_in_page root per rel blocks c) ≡ Ok d → Steps root c d
      by true run = fork_steps rel Visibility (map_page blocks) c d run
      by false run = in_page_steps rel blocks c d run

  pub truncated-steps : (rel : RelName) (blocks flags : ℕ) (c d : Contents) → truncated root per rel blocks flags c ≡ Ok d → Steps root c d
  unfolding truncated
  truncated-steps rel blocks flags c d made =
      let two = given-done (main_by root per rel blocks flags c) (map_by root per rel blocks flags) d made in
      steps-then root c two.0 d (main_part (cuts_main flags) c two.0 two.1) (map_part (cuts_map flags) two.0 d two.2)
    where
      main_part : (t : Bool) (c d : Contents) → (if t then main_cut root per rel blocks c else OkFiles c) ≡ Ok d → Steps root c d
      main_part true c d run = main_steps rel blocks c d run
      main_part false c d run = steps-same root c d (one-files c d run)

      map_part : (t : Bool) (c d : Contents) → (if t then map_cut root per rel blocks c else OkFiles c) ≡ Ok d → Steps root c d
      map_part true c d run = map_cut_steps rel blocks c d run
      map_part false c d run = steps-same root c d (one-files c d run)
