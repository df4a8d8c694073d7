-- Forks and relations of alike clusters.
use Rattle.std.proofs.Common.{◌≡◌, ℕ, zero, suc, ◌+◌, ◌-◌, ◌*◌, ◌/◌, ◌%◌, ◌^◌, ◌⊎◌, ◌<◌, ◌≤◌, ◌==◌, Bool, true, false, nat_lt, List, [], ◌∷◌, ◌++◌, length, take, drop, replicate, min, Option, None, Some, Result, Ok, inl, inr, refl, sym, ap, subst, ◌∙◌, append_assoc, arith}
use Rattle.std.specs.Prelude.{if◌then◌else◌}
use Rattle.std.proofs.Math.Nat.{add-mul, div-add-mod', mod-lt, mul-le-mul_left, mul-le-mul_right}
use Rattle.std.proofs.lemmas.Bool.Decides.{nat_tests}
use Rattle.std.proofs.lemmas.List.{length-append, length-drop, length-replicate, length-take}
use Rattle.block_refs.specs.declared.names.BlockName.{BlockName}
use Rattle.block_refs.specs.declared.names.Fork.{Fork}
use Rattle.block_refs.specs.declared.names.Fork.TheVariants.{Main, Visibility}
use Rattle.block_refs.specs.declared.names.RelName.{RelName}
use Rattle.cluster_tree.specs.Contents.{Contents, entry_at}
use Rattle.cluster_tree.specs.PathValue.{PathValue, below, path_of}
use Rattle.cluster_tree.specs.declared.file_fault.FileFault.{FileFault}
use Rattle.layout.specs.Splice.{splice}
use Rattle.file_edits.specs.Alike.{SameAnswers}
use Rattle.file_edits.specs.Asking.{names_asked}
use Rattle.file_edits.specs.Clearing.{in_turn}
use Rattle.file_edits.specs.Edits.{file_cut, laid, padded}
use Rattle.relation_files.specs.Paths.{database_parts, folder_parts, global_parts, relation_file, relation_folder}
use Rattle.relation_files.specs.Reading.{file_named}
use Rattle.storage_replay.specs.Blocks.{block_in_file, block_laid, block_put, file_filled, files_filled, grown}
use Rattle.storage_replay.specs.Changes.{created, cuts_main, cuts_map, main_by, main_cut, map_by, relation_dropped, truncated}
use Rattle.storage_replay.specs.Cutting.{entry_swept, files_cut, files_swept, fork_cut, is_longer, name_swept, swept}
use Rattle.storage_replay.specs.Lengths.{all_files, blocks_of, counted, file_size, fork_length, has_block, length_by, most_blocks}
use Rattle.storage_replay.specs.MapBits.{bits_edited, fill_pages, map_cut, map_cut_in_page, map_edited, map_in_file, map_page}
use Rattle.storage_replay.specs.declared.map_edit.MapEdit.{MapEdit}
use Rattle.storage_replay.specs.declared.map_edit.MapEdit.TheVariants.{Cut}
use Rattle.storage_replay.specs.declared.sweep.Sweep.{Sweep}
use Rattle.storage_replay.specs.declared.sweep.Sweep.TheVariants.{Remove, Empty}
use Rattle.alike_clusters.specs.Clusters.{AlikeClusters, AreLeftAlike}
use Rattle.alike_clusters.proofs.LikeLemmas.{Bounded, BySize, Keeps, grown-size, keeps-all, like-same, same-size, sized-grown}
use Rattle.alike_clusters.proofs.NameLemmas.{file-lies, file-no_version, file_parts, map-not_main, segment-is}
use Rattle.alike_clusters.proofs.StepLemmas.{Lies, cut-left, edited-left, given-left, names-told, removed-left, size-told, sized-left, told-left, told-same, turn-left}

-- ---- sizes of what is laid

pub splice-size : (a : List ℕ) (at : ℕ) (bs : List ℕ) → length (splice a at bs) ≡ min at (length a) + length bs + (length a - (at + length bs))
unfolding splice
splice-size a at bs =
    omega (arith, length-append (take at a ++ bs) (drop (at + length bs) a), length-append (take at a) bs, length-take at a, length-drop (at + length bs) a)

pub padded-size : (size : ℕ) (a : List ℕ) → length (padded size a) ≡ length a + (size - length a)
padded-size size a = omega (arith, length-append a (replicate (size - length a) 0), length-replicate {A = ℕ} (size - length a) 0)

pub sized-laid : (size at : ℕ) (bs : List ℕ) → BySize (laid size at bs)
sized-laid size at bs a b same =
    splice-size (padded size a) at bs
    ∙ ap (λ m. min at m + length bs + (m - (at + length bs))) (padded-size size a ∙ ap (λ m. m + (size - m)) same ∙ sym (padded-size size b))
    ∙ sym (splice-size (padded size b) at bs)

sized_block : (place : ℕ) (page : List ℕ) → BySize (block_laid place page)
sized_block place page a b same = sized-laid (place * 8192) (place * 8192) page (grown place a) (grown place b) (sized-grown place a b same)

lt_is : (n m : ℕ) → nat_lt n m ≡ true → n < m
lt_is n m h = grind (arith, nat_tests, h)

lt_not : (n m : ℕ) → nat_lt n m ≡ false → m ≤ n
lt_not n m h = grind (arith, nat_tests, h)

-- a file with a block laid at its place ends behind it, or where it ended
laid_size : (place : ℕ) (page a : List ℕ) → length page ≡ 8192 → (length (block_laid place page a) ≡ place * 8192 + 8192) ⊎ (length (block_laid place page a) ≡ length a)
laid_size place page a size = by (grown-size place a)
  where
    laid_is : length (block_laid place page a) ≡ min (place * 8192) (length (padded (place * 8192) (grown place a))) + length page + (length (padded (place * 8192) (grown place a)) - (place * 8192 + length page))
    laid_is = splice-size (padded (place * 8192) (grown place a)) (place * 8192) page

    by_order : length (grown place a) ≡ length a → (t : Bool) → nat_lt (length a) (place * 8192 + 8192) ≡ t → (length (block_laid place page a) ≡ place * 8192 + 8192) ⊎ (length (block_laid place page a) ≡ length a)
    by_order same true is =
        let less : length a < place * 8192 + 8192 = lt_is (length a) (place * 8192 + 8192) is in
        inl (omega (arith, laid_is, padded-size (place * 8192) (grown place a), same, size, less))
    by_order same false is =
        let more : place * 8192 + 8192 ≤ length a = lt_not (length a) (place * 8192 + 8192) is in
        inr (omega (arith, laid_is, padded-size (place * 8192) (grown place a), same, size, more))

    by : (length (grown place a) ≡ place * 8192) ⊎ (length (grown place a) ≡ length a) → (length (block_laid place page a) ≡ place * 8192 + 8192) ⊎ (length (block_laid place page a) ≡ length a)
    by (inl full) = inl (omega (arith, laid_is, padded-size (place * 8192) (grown place a), full, size))
    by (inr same) = by_order same (nat_lt (length a) (place * 8192 + 8192)) refl

-- files that stay as long as they may be

module _ (per : ℕ) (rel : RelName) (fork : Fork) (segment : ℕ) (small : rel.relation < 2 ^ 32) (few : segment < 2 ^ 32) where
  keeps_by : (edit : List ℕ → List ℕ) → BySize edit → ((a : List ℕ) → Bounded per segment (length a) → Bounded per segment (length (edit a))) → Keeps per (file_parts rel fork segment) edit
  keeps_by edit sizes bound = record {
    sizes = sizes;
    bound = λ at of a b.
        subst (λ s. Bounded per s (length (edit a))) (sym (segment-is rel fork segment at small few of))
        (bound a (subst (λ s. Bounded per s (length a)) (segment-is rel fork segment at small few of) b));
  }

  keeps_grown : segment * per + per ≤ 2 ^ 32 - 1 → Keeps per (file_parts rel fork segment) (grown per)
  keeps_grown last = keeps_by (grown per) (sized-grown per) (λ a b. by a b (grown-size per a))
    where
      by : (a : List ℕ) → Bounded per segment (length a) → (length (grown per a) ≡ per * 8192) ⊎ (length (grown per a) ≡ length a) → Bounded per segment (length (grown per a))
      by a b (inl full) = record { few = omega (arith, full); numbered = λ some. omega (arith, full, last) }
      by a b (inr same) = subst (Bounded per segment) (sym same) b

  keeps_block : (place : ℕ) (page : List ℕ) → place < per → segment * per + place < 2 ^ 32 - 1 → length page ≡ 8192 → Keeps per (file_parts rel fork segment) (block_laid place page)
  keeps_block place page less last size = keeps_by (block_laid place page) (sized_block place page) (λ a b. by a b (laid_size place page a size))
    where
      by : (a : List ℕ) → Bounded per segment (length a) → (length (block_laid place page a) ≡ place * 8192 + 8192) ⊎ (length (block_laid place page a) ≡ length a) → Bounded per segment (length (block_laid place page a))
      by a b (inl full) = record { few = omega (arith, full, less); numbered = λ some. omega (arith, full, last) }
      by a b (inr same) = subst (Bounded per segment) (sym same) b

-- the blocks of a file before that of another come before it
files_before : (per block s : ℕ) → s < block / per → s * per + per ≤ block
files_before per block s l =
    let step : (s + 1) * per ≤ block / per * per = mul-le-mul_right per (omega (arith, l)) in
    let more : (s + 1) * per ≡ s * per + 1 * per = add-mul s 1 per in
    let whole : block / per * per + block % per ≡ block = div-add-mod' block per in
    omega (arith, step, more, whole)

-- and no more files than blocks
file_small : (per block : ℕ) → 0 < per → block / per ≤ block
file_small per block some =
    let most : block / per * 1 ≤ block / per * per = mul-le-mul_left (block / per) (omega (arith, some)) in
    let whole : block / per * per + block % per ≡ block = div-add-mod' block per in
    omega (arith, most, whole)

-- ---- where files of relations lie

folder_short : (t : Bool) (database : ℕ) → (0 < length (if t then global_parts else database_parts database)) × (length (if t then global_parts else database_parts database) ≤ 2)
folder_short true database = (omega arith, omega arith)
folder_short false database = (omega arith, omega arith)

short : (rel : RelName) → (0 < length (folder_parts rel)) × (length (folder_parts rel) ≤ 2)
short rel = folder_short (rel.space == 1664) rel.database

module _ (per : ℕ) (root other : PathValue) where
  lies_name : (rel : RelName) (name : List ℕ) → Lies root other (folder_parts rel ++ name ∷ []) (below (relation_folder root rel) (name ∷ [])) (below (relation_folder other rel) (name ∷ []))
  lies_name rel name = record {
    here = ap (path_of root.absolute) (append_assoc root.parts (folder_parts rel) (name ∷ []));
    there = ap (path_of other.absolute) (append_assoc other.parts (folder_parts rel) (name ∷ []));
    some = omega (arith, length-append (folder_parts rel) (name ∷ []));
    few = omega (arith, length-append (folder_parts rel) (name ∷ []), (short rel).1);
  }

  pub lies-file : (rel : RelName) (fork : Fork) (segment : ℕ) → Lies root other (file_parts rel fork segment) (relation_file root rel fork segment) (relation_file other rel fork segment)
  lies-file rel fork segment = record {
    here = file-lies root rel fork segment;
    there = file-lies other rel fork segment;
    some = (lies_name rel _).some;
    few = (lies_name rel _).few;
  }

  lies_folder : (rel : RelName) → Lies root other (folder_parts rel) (relation_folder root rel) (relation_folder other rel)
  lies_folder rel = record { here = refl; there = refl; some = (short rel).0; few = omega (arith, (short rel).1) }

  -- ---- lengths

  size_same : (rel : RelName) (fork : Fork) (c d : Contents) → AlikeClusters per c root d other → (file : ℕ) → SameAnswers root other (file_size root rel fork c file) (file_size other rel fork d file)
  size_same rel fork c d both file =
      size-told per root other (file_parts rel fork file) (relation_file root rel fork file) (relation_file other rel fork file) c d (lies-file rel fork file)
      (same-size per (file_parts rel fork file) (file-no_version rel fork file)) both

  counted_same : (sizes others : ℕ → Result (Option ℕ) FileFault) → ((file : ℕ) → SameAnswers root other (sizes file) (others file)) → (per count file : ℕ) → SameAnswers root other (counted sizes per count file) (counted others per count file)
  unfolding counted
  counted_same sizes others each per zero file = refl
  counted_same sizes others each per (suc count) file =
      told-same per root other (sizes file) (others file)
      (λ size. if nat_lt (blocks_of per size) per then Ok (file * per + blocks_of per size) else counted sizes per count (file + 1))
      (λ size. if nat_lt (blocks_of per size) per then Ok (file * per + blocks_of per size) else counted others per count (file + 1))
      (each file)
      (λ size. elim (nat_lt (blocks_of per size) per) as (λ t. SameAnswers root other (if t then Ok (file * per + blocks_of per size) else counted sizes per count (file + 1)) (if t then Ok (file * per + blocks_of per size) else counted others per count (file + 1))) [
        | true ↦ refl
        | false ↦ counted_same sizes others each per count (file + 1)
      ])

  pub has-same : (rel : RelName) (fork : Fork) (block : ℕ) (c d : Contents) → AlikeClusters per c root d other → SameAnswers root other (has_block root per rel fork block c) (has_block other per rel fork block d)
  has-same rel fork block c d both =
      told-same per root other (counted (file_size root rel fork c) per (block / per + 1) 0) (counted (file_size other rel fork d) per (block / per + 1) 0)
      (λ blocks. Ok (nat_lt block blocks)) (λ blocks. Ok (nat_lt block blocks))
      (counted_same (file_size root rel fork c) (file_size other rel fork d) (size_same rel fork c d both) per (block / per + 1) 0) (λ blocks. refl)

  by_same : (sizes others : ℕ → Result (Option ℕ) FileFault) → ((file : ℕ) → SameAnswers root other (sizes file) (others file)) → (per : ℕ) (size : Option ℕ) → SameAnswers root other (length_by sizes per size) (length_by others per size)
  by_same sizes others each per None = refl
  by_same sizes others each per (Some size) =
      told-same per root other (counted sizes per (all_files per) 0) (counted others per (all_files per) 0) (λ blocks. Ok (Some (min most_blocks blocks))) (λ blocks. Ok (Some (min most_blocks blocks)))
      (counted_same sizes others each per (all_files per) 0) (λ blocks. refl)

  length_same : (rel : RelName) (fork : Fork) (c d : Contents) → AlikeClusters per c root d other → SameAnswers root other (fork_length root per rel fork c) (fork_length other per rel fork d)
  length_same rel fork c d both =
      told-same per root other (file_size root rel fork c 0) (file_size other rel fork d 0) (length_by (file_size root rel fork c) per) (length_by (file_size other rel fork d) per)
      (size_same rel fork c d both 0) (by_same (file_size root rel fork c) (file_size other rel fork d) (size_same rel fork c d both) per)

  -- ---- blocks that are put

  filled_left : (rel : RelName) (fork : Fork) → rel.relation < 2 ^ 32 → (count file : ℕ) → file + count < 2 ^ 32 → ((s : ℕ) → s < file + count → s * per + per ≤ 2 ^ 32 - 1)
      → (c d : Contents) → AlikeClusters per c root d other → AreLeftAlike per root other (files_filled root per rel fork count file c) (files_filled other per rel fork count file d)
  unfolding files_filled
  filled_left rel fork small zero file few each c d both = both
  filled_left rel fork small (suc count) file few each c d both =
      given-left per root other (file_filled root per rel fork file c) (file_filled other per rel fork file d) (files_filled root per rel fork count (file + 1)) (files_filled other per rel fork count (file + 1))
      (sized-left per root other (file_parts rel fork file) (relation_file root rel fork file) (relation_file other rel fork file) (grown per) c d (lies-file rel fork file)
      (keeps_grown per rel fork file small (omega (arith, few)) (each file (omega arith))) both)
      (filled_left rel fork small count (file + 1) (omega (arith, few)) (λ s l. each s (omega (arith, l))))

  -- the same page, of 8192 bytes
  pub put-left : 0 < per → (name : BlockName) (page : List ℕ) → name.rel.relation < 2 ^ 32 → name.block < 2 ^ 32 - 1 → length page ≡ 8192
      → (c d : Contents) → AlikeClusters per c root d other → AreLeftAlike per root other (block_put root per name page c) (block_put other per name page d)
  unfolding block_put
  put-left some name page small limit size c d both =
      let few : name.block / per < 2 ^ 32 = omega (arith, file_small per name.block some, limit) in
      let whole : name.block / per * per + name.block % per ≡ name.block = div-add-mod' name.block per in
      given-left per root other (files_filled root per name.rel name.fork (name.block / per) 0 c) (files_filled other per name.rel name.fork (name.block / per) 0 d)
      (block_in_file root per name page) (block_in_file other per name page)
      (filled_left name.rel name.fork small (name.block / per) 0 (omega (arith, few)) (λ s l. let before = files_before per name.block s (omega (arith, l)) in omega (arith, before, limit)) c d both)
      (λ e f left. sized-left per root other (file_parts name.rel name.fork (name.block / per)) (relation_file root name.rel name.fork (name.block / per)) (relation_file other name.rel name.fork (name.block / per))
      (block_laid (name.block % per) page) e f (lies-file name.rel name.fork (name.block / per))
      (keeps_block per name.rel name.fork (name.block / per) small few (name.block % per) page (mod-lt name.block some) (omega (arith, whole, limit)) size) left)

  pub created-left : (rel : RelName) (fork : Fork) (c d : Contents) → AlikeClusters per c root d other → AreLeftAlike per root other (created root rel fork c) (created other rel fork d)
  created-left rel fork c d both = sized-left per root other (file_parts rel fork 0) (relation_file root rel fork 0) (relation_file other rel fork 0) (λ bytes. bytes) c d (lies-file rel fork 0) (keeps-all per (file_parts rel fork 0)) both

  -- ---- bits of the map

  pub map-left : (rel : RelName) (block : ℕ) (edit : MapEdit) (c d : Contents) → AlikeClusters per c root d other → AreLeftAlike per root other (map_edited root per rel block edit c) (map_edited other per rel block edit d)
  unfolding map_edited
  map-left rel block edit c d both =
      told-left per root other (has_block root per rel Visibility (map_page block) c) (has_block other per rel Visibility (map_page block) d)
      (λ there. if there then map_in_file root per rel block edit c else Ok c) (λ there. if there then map_in_file other per rel block edit d else Ok d)
      (has-same rel Visibility (map_page block) c d both)
      (λ there. elim there as (λ t. AreLeftAlike per root other (if t then map_in_file root per rel block edit c else Ok c) (if t then map_in_file other per rel block edit d else Ok d)) [
        | true ↦ edited-left per root other (file_parts rel Visibility (map_page block / per)) (relation_file root rel Visibility (map_page block / per)) (relation_file other rel Visibility (map_page block / per))
            (bits_edited per block edit) (bits_edited per block edit) c d (lies-file rel Visibility (map_page block / per))
            (like-same per (file_parts rel Visibility (map_page block / per)) (file-no_version rel Visibility (map_page block / per)) (map-not_main rel (map_page block / per)) (bits_edited per block edit)) both
        | false ↦ both
      ])

  -- ---- forks that are cut, and relations that are dropped

  swept_left : (sweep : Sweep) (parts : List (List ℕ)) (p q : PathValue) (c d : Contents) → Lies root other parts p q → AlikeClusters per c root d other → AreLeftAlike per root other (swept sweep p c) (swept sweep q d)
  swept_left Remove parts p q c d lies both = removed-left per root other parts p q c d lies both
  swept_left (Empty fork segment) parts p q c d lies both = cut-left per root other parts p q 0 c d lies both

  entry_left : (sweep : Sweep) (rel : RelName) (name : List ℕ) (c d : Contents) → AlikeClusters per c root d other
      → AreLeftAlike per root other (entry_swept sweep rel.relation (relation_folder root rel) name c) (entry_swept sweep rel.relation (relation_folder other rel) name d)
  unfolding entry_swept
  entry_left sweep rel name c d both =
      elim (name_swept sweep rel.relation (file_named name)) as (λ t. AreLeftAlike per root other (if t then swept sweep (below (relation_folder root rel) (name ∷ [])) c else Ok c) (if t then swept sweep (below (relation_folder other rel) (name ∷ [])) d else Ok d)) [
        | true ↦ swept_left sweep (folder_parts rel ++ name ∷ []) (below (relation_folder root rel) (name ∷ [])) (below (relation_folder other rel) (name ∷ [])) c d (lies_name rel name) both
        | false ↦ both
      ]

  sweep_left : (sweep : Sweep) (rel : RelName) (c d : Contents) → AlikeClusters per c root d other → AreLeftAlike per root other (files_swept root sweep rel c) (files_swept other sweep rel d)
  unfolding files_swept
  sweep_left sweep rel c d both =
      told-left per root other (names_asked c (relation_folder root rel) (entry_at c (relation_folder root rel))) (names_asked d (relation_folder other rel) (entry_at d (relation_folder other rel)))
      (λ names. in_turn (entry_swept sweep rel.relation (relation_folder root rel)) names c) (λ names. in_turn (entry_swept sweep rel.relation (relation_folder other rel)) names d)
      (names-told per root other (folder_parts rel) (relation_folder root rel) (relation_folder other rel) c d (lies_folder rel) both)
      (λ names. turn-left per root other (entry_swept sweep rel.relation (relation_folder root rel)) (entry_swept sweep rel.relation (relation_folder other rel)) (entry_left sweep rel) names c d both)

  pub dropped-left : (rel : RelName) (c d : Contents) → AlikeClusters per c root d other → AreLeftAlike per root other (relation_dropped root rel c) (relation_dropped other rel d)
  dropped-left rel c d both = sweep_left Remove rel c d both

  files_left : (rel : RelName) (fork : Fork) (blocks : ℕ) (c d : Contents) → AlikeClusters per c root d other → AreLeftAlike per root other (files_cut root per rel fork blocks c) (files_cut other per rel fork blocks d)
  unfolding files_cut
  files_left rel fork blocks c d both =
      given-left per root other (file_cut (relation_file root rel fork (blocks / per)) (blocks % per * 8192) c) (file_cut (relation_file other rel fork (blocks / per)) (blocks % per * 8192) d)
      (files_swept root (Empty fork (blocks / per)) rel) (files_swept other (Empty fork (blocks / per)) rel)
      (cut-left per root other (file_parts rel fork (blocks / per)) (relation_file root rel fork (blocks / per)) (relation_file other rel fork (blocks / per)) (blocks % per * 8192) c d (lies-file rel fork (blocks / per)) both)
      (sweep_left (Empty fork (blocks / per)) rel)

  fork_left : (rel : RelName) (fork : Fork) (blocks : ℕ) (c d : Contents) → AlikeClusters per c root d other → AreLeftAlike per root other (fork_cut root per rel fork blocks c) (fork_cut other per rel fork blocks d)
  unfolding fork_cut
  fork_left rel fork blocks c d both =
      told-left per root other (fork_length root per rel fork c) (fork_length other per rel fork d)
      (λ there. if is_longer blocks there then files_cut root per rel fork blocks c else Ok c) (λ there. if is_longer blocks there then files_cut other per rel fork blocks d else Ok d)
      (length_same rel fork c d both)
      (λ there. elim (is_longer blocks there) as (λ t. AreLeftAlike per root other (if t then files_cut root per rel fork blocks c else Ok c) (if t then files_cut other per rel fork blocks d else Ok d)) [
        | true ↦ files_left rel fork blocks c d both
        | false ↦ both
      ])

  main_left : (rel : RelName) (blocks : ℕ) (c d : Contents) → AlikeClusters per c root d other → AreLeftAlike per root other (main_cut root per rel blocks c) (main_cut other per rel blocks d)
  unfolding main_cut
  main_left rel blocks c d both =
      given-left per root other (created root rel Main c) (created other rel Main d) (fork_cut root per rel Main blocks) (fork_cut other per rel Main blocks)
      (created-left rel Main c d both) (fork_left rel Main blocks)

  map_page_left : (rel : RelName) (blocks : ℕ) (c d : Contents) → AlikeClusters per c root d other → AreLeftAlike per root other (map_cut_in_page root per rel blocks c) (map_cut_in_page other per rel blocks d)
  unfolding map_cut_in_page
  map_page_left rel blocks c d both =
      given-left per root other (map_edited root per rel blocks Cut c) (map_edited other per rel blocks Cut d) (fork_cut root per rel Visibility (map_page blocks + 1)) (fork_cut other per rel Visibility (map_page blocks + 1))
      (map-left rel blocks Cut c d both) (fork_left rel Visibility (map_page blocks + 1))

  map_cut_left : (rel : RelName) (blocks : ℕ) (c d : Contents) → AlikeClusters per c root d other → AreLeftAlike per root other (map_cut root per rel blocks c) (map_cut other per rel blocks d)
  map_cut_left rel blocks c d both =
      elim (fill_pages blocks) as (λ t. AreLeftAlike per root other (if t then fork_cut root per rel Visibility (map_page blocks) c else map_cut_in_page root per rel blocks c) (if t then fork_cut other per rel Visibility (map_page blocks) d else map_cut_in_page other per rel blocks d)) [
        | true ↦ fork_left rel Visibility (map_page blocks) c d both
        | false ↦ map_page_left rel blocks c d both
      ]

  pub truncated-left : (rel : RelName) (blocks flags : ℕ) (c d : Contents) → AlikeClusters per c root d other → AreLeftAlike per root other (truncated root per rel blocks flags c) (truncated other per rel blocks flags d)
  unfolding truncated
  truncated-left rel blocks flags c d both =
      given-left per root other (main_by root per rel blocks flags c) (main_by other per rel blocks flags d) (map_by root per rel blocks flags) (map_by other per rel blocks flags)
      (elim (cuts_main flags) as (λ t. AreLeftAlike per root other (if t then main_cut root per rel blocks c else Ok c) (if t then main_cut other per rel blocks d else Ok d)) [ true ↦ main_left rel blocks c d both | false ↦ both ])
      (λ e f left. elim (cuts_map flags) as (λ t. AreLeftAlike per root other (if t then map_cut root per rel blocks e else Ok e) (if t then map_cut other per rel blocks f else Ok f)) [ true ↦ map_cut_left rel blocks e f left | false ↦ left ])
