-- What a record does at a reference of it, over alike clusters.
use Rattle.std.proofs.Common.{◌≡◌, ℕ, ◌*◌, ◌/◌, ◌%◌, ◌<◌, ◌==◌, Bool, true, false, ◌&&◌, nat_lt, List, ◌++◌, length, drop, replicate, Option, None, Some, Result, Ok, Err, is_some, refl, sym, ap, subst, ◌∙◌, true≢false, arith}
use Rattle.rmgr_hooks.specs.Custom.{Extension}
use Rattle.std.specs.Prelude.{IsTrue, if◌then◌else◌}
use Rattle.std.proofs.lemmas.List.{length-append, length-replicate, length-take}
use Rattle.alike_clusters.specs.Clusters.{AlikeClusters, is_alike}
use Rattle.alike_clusters.proofs.LikeLemmas.{same-bytes}
use Rattle.alike_clusters.proofs.NameLemmas.{file-no_version, file_parts, map-not_main}
use Rattle.alike_clusters.proofs.StepLemmas.{read-told, told-same}
use Rattle.alike_clusters.proofs.StorageLemmas.{created-left, has-same, lies-file, put-left}
use Rattle.block_effects.specs.Effects.{applied, is_left, zeros}
use Rattle.block_effects.specs.Gone.{is_gone, is_main}
use Rattle.block_refs.specs.Parts.{ArePartsOf, PartsView}
use Rattle.block_refs.proofs.PlaceLemmas.{page_size as image_of_size}
use Rattle.block_refs.specs.declared.block_ref.BlockRef.{BlockRef}
use Rattle.block_refs.specs.declared.names.BlockName.{BlockName}
use Rattle.block_refs.specs.declared.names.Fork.{Fork}
use Rattle.block_refs.specs.declared.names.Fork.TheVariants.{Main, FreeSpace, Visibility, Init}
use Rattle.block_refs.specs.declared.names.RelName.{RelName}
use Rattle.block_replay.specs.Blocks.{by_act, change_at, change_skipped, changed, map_changed, redone, with_files}
use Rattle.block_replay.specs.Faults.{of_files}
use Rattle.block_replay.specs.Pages.{image_at, image_left, image_put, older_put, page_put, redone_put}
use Rattle.block_replay.specs.World.{BlockWorld, with_name}
use Rattle.block_replay.specs.declared.faults.RecordFault.{RecordFault}
use Rattle.block_replay.specs.declared.faults.RecordFault.TheVariants.{RedoFailed, File}
use Rattle.cluster_tree.specs.Causes.{given}
use Rattle.cluster_tree.specs.Contents.{Contents}
use Rattle.cluster_tree.specs.PathValue.{PathValue, path_of}
use Rattle.cluster_tree.specs.Tree.{bytes_at}
use Rattle.cluster_tree.specs.declared.file_fault.FileFault.{FileFault}
use Rattle.file_edits.specs.Alike.{SameAnswers}
use Rattle.file_edits.specs.Asking.{file_asked, filled_from, read_asked, read_of}
use Rattle.file_walk.specs.Relations.{relation_of}
use Rattle.page_layout.specs.Lsn.{lsn}
use Rattle.page_masks.specs.Kind.{is_zero}
use Rattle.page_masks.specs.Law.{Redone, is_page, stamped, view}
use Rattle.page_masks.proofs.LsnLemmas.{page_size}
use Rattle.record_effects.specs.Acts.{act_on, is_map, is_map_page, sets_map_bits, IsDone}
use Rattle.record_effects.specs.Managers.{done_by, effect_on, rules_of}
use Rattle.record_effects.specs.declared.acts.Act.{Act}
use Rattle.record_effects.specs.declared.acts.Act.TheVariants as act
use Rattle.relation_files.specs.Paths.{relation_file}
use Rattle.replay_law.specs.Effect.{Change}
use Rattle.replay_law.specs.Effect as effect
use Rattle.replay_law.specs.Premises.{IsEffect}
use Rattle.replay_laws.proofs.PageLemmas.{image-size, page-is, stamped-map_size, state-size}
use Rattle.storage_laws.specs.Forks.{HasNoGap}
use Rattle.storage_laws.specs.LengthLaws.{reading_of}
use Rattle.storage_laws.specs.Names.{IsBlock}
use Rattle.storage_laws.specs.States.{block_in}
use Rattle.storage_laws.proofs.LengthLemmas.{has-block, read-whole}
use Rattle.storage_pages.specs.MapPage.{visible_map}
use Rattle.storage_replay.specs.Blocks.{block_put}
use Rattle.storage_replay.specs.Changes.{created}
use Rattle.storage_replay.specs.Lengths.{has_block}
use Rattle.storage_replay.specs.Reading.{Reading, block_from_file, block_read, found_in, page_read}
use Rattle.storage_replay.specs.declared.found.Found.TheVariants as found
use Rattle.wal_records.specs.Reading.{LogRecord}
use Rattle.cluster_laws.specs.Agree.{AgreeOn}
use Rattle.cluster_laws.proofs.AgreeLemmas.{BothFiles, agree-given, files-agree, told-agree_is}
use Rattle.cluster_laws.proofs.KeptLemmas.{IsOwn, Kept, created-there, kept-both, kept-put, kept-same, own-entry, own-first, own-second, put-there}

-- ---- a change of a block that is there keeps paths, kinds and sizes, or is refused by redo

abbrev pub IsSized : (per : ℕ) → PathValue → Contents → Result BlockWorld RecordFault → Type 0
IsSized per root c (Ok v) = Kept per root c v.files
IsSized per root c (Err (RedoFailed start name why)) = Unit {0}
IsSized per root c (Err (File e)) = ⊥

filled_size : (at : ℕ) (bytes : List ℕ) → length (filled_from at 8192 bytes) ≡ 8192
filled_size at bytes =
    omega (arith, length-take 8192 (drop at bytes ++ replicate 8192 0), length-append (drop at bytes) (replicate 8192 0), length-replicate {A = ℕ} 8192 0)

module _ (custom : Option Extension) (root : PathValue) (per : ℕ) (some : 0 < per) (rec : LogRecord) (parts : PartsView) (block : BlockRef) (small : IsBlock block.name) (w : BlockWorld)
    (own : IsOwn per root w.files) (gapless : HasNoGap root per block.name.rel block.name.fork w.files) (there : is_some (block_in root per block.name w.files) ≡ true)
    (main : is_some (relation_of (path_of false (file_parts block.name.rel block.name.fork (block.name.block / per)))) ≡ true)
    (changes : IsEffect (view block.name.block) rec.end (Change (redone custom rec parts block))) where
  abbrev Sized : Result BlockWorld RecordFault → Type 0
  Sized r = IsSized per root w.files r

  sized_skipped : Sized (change_skipped root block.name w)
  sized_skipped =
      subst (λ (r : Result Contents FileFault). Sized (with_files (with_name block.name w.skipped) (of_files r)))
      (sym (created-there root per some block.name small w.files gapless there)) (kept-same per root w.files own)

  sized_redone : (bytes : List ℕ) (r : Redone) → IsTrue (is_page bytes) → redone custom rec parts block bytes ≡ r → Sized (with_files w.skipped (redone_put root per rec block.name r w.files))
  sized_redone bytes (Err why) page is = tt
  sized_redone bytes (Ok new) page is =
      subst (λ (r : Result Contents FileFault). Sized (with_files w.skipped (of_files r)))
      (sym (put-there root per some block.name small w.files gapless there new))
      (kept-put root per some block.name small w.files gapless there own new (page_size new (changes.page bytes new page is)) main)

  sized_older : (bytes : List ℕ) → IsTrue (is_page bytes) → Sized (with_files w.skipped (older_put root per rec block.name (redone custom rec parts block) bytes w.files))
  sized_older bytes page =
      elim (nat_lt (lsn bytes) rec.end) as (λ t. Sized (with_files w.skipped (if t then redone_put root per rec block.name (redone custom rec parts block bytes) w.files else Ok w.files))) [
        | true ↦ sized_redone bytes (redone custom rec parts block bytes) page refl
        | false ↦ kept-same per root w.files own
      ]

  sized_at : (bytes : List ℕ) (z : Bool) → length bytes ≡ 8192 → is_zero bytes ≡ z → Sized (change_at custom root per rec parts block w (if z then found.Zero else found.Page) bytes)
  sized_at bytes true size is = sized_skipped
  sized_at bytes false size is = sized_older bytes (page-is bytes size is)

  abbrev path : PathValue
  path = relation_file root block.name.rel block.name.fork (block.name.block / per)

  abbrev bytes_read : List ℕ
  bytes_read = filled_from (block.name.block % per * 8192) 8192 (bytes_at w.files path)

  read_ok : block_from_file root per block.name w.files ≡ Ok (record { found = found_in bytes_read; bytes = bytes_read })
  read_ok = ap (λ o. page_read (read_of (block.name.block % per * 8192) 8192 (bytes_at w.files path) (file_asked path o))) (own-entry root per some block.name small w.files gapless there)

  pub changed-sized : has_block root per block.name.rel block.name.fork block.name.block w.files ≡ Ok true → Sized (changed custom root per rec parts block w)
  unfolding block_read
  changed-sized has =
      let read : block_read root per block.name w.files zeros ≡ Ok (record { found = found_in bytes_read; bytes = bytes_read }) =
      ap (λ r. given r (λ there. if there then block_from_file root per block.name w.files else Ok (record { found = found.Absent; bytes = zeros }))) has ∙ read_ok in
      subst (λ (r : Result Reading FileFault). Sized (given (of_files r) (λ reading. change_at custom root per rec parts block w reading.found reading.bytes))) (sym read)
      (sized_at bytes_read (is_zero bytes_read) (filled_size (block.name.block % per * 8192) (bytes_at w.files path)) refl)

-- ---- over both

module _ (custom : Option Extension) (root other : PathValue) (per : ℕ) (some : 0 < per) (rec : LogRecord) (parts : PartsView) (of_rec : ArePartsOf rec parts) (ends : 0 < rec.end) (block : BlockRef) (small : IsBlock block.name) where
  abbrev pub BothBlocks : BlockWorld → BlockWorld → Type 0
  BothBlocks w x = AlikeClusters per w.files root x.files other

  abbrev Files : Contents → Contents → Type 0
  Files = BothFiles per root other

  abbrev p : BlockName
  p = block.name

  with_agree : (skipped names : List BlockName) (r s : Result Contents RecordFault) → AgreeOn Files root other r s → AgreeOn BothBlocks root other (with_files skipped r) (with_files names s)
  with_agree skipped names r s agree =
      agree-given per root other Files BothBlocks r s (λ c. Ok (record { files = c; skipped = skipped })) (λ d. Ok (record { files = d; skipped = names })) agree (λ c d both. both)

  sized_agree : (w x : BlockWorld) (r s : Result BlockWorld RecordFault) → BothBlocks w x → IsSized per root w.files r → IsSized per other x.files s → AgreeOn BothBlocks root other r s
  sized_agree w x (Ok v) (Ok y) both one two = kept-both per root other w.files v.files x.files y.files one two both
  sized_agree w x (Ok v) (Err (RedoFailed start name why)) both one two = tt
  sized_agree w x (Ok v) (Err (File f)) both one two = absurd two
  sized_agree w x (Err (RedoFailed start name why)) s both one two = tt
  sized_agree w x (Err (File e)) s both one two = absurd one

  put_agree : (page : List ℕ) → length page ≡ 8192 → (c d : Contents) → AlikeClusters per c root d other → AgreeOn Files root other (page_put root per p page c) (page_put other per p page d)
  put_agree page size c d both = files-agree per root other (block_put root per p page c) (block_put other per p page d) (put-left per root other some p page small.rel.relation small.block size c d both)

  redone_agree : (made : Redone) → ((page : List ℕ) → made ≡ Ok page → length page ≡ 8192) → (c d : Contents) → AlikeClusters per c root d other → AgreeOn Files root other (redone_put root per rec p made c) (redone_put other per rec p made d)
  redone_agree (Ok page) sizes c d both = put_agree page (sizes page refl) c d both
  redone_agree (Err why) sizes c d both = tt

  older_agree : (change : List ℕ → Redone) (page : List ℕ) → ((new : List ℕ) → change page ≡ Ok new → length new ≡ 8192) → (c d : Contents) → AlikeClusters per c root d other
      → AgreeOn Files root other (older_put root per rec p change page c) (older_put other per rec p change page d)
  older_agree change page sizes c d both =
      elim (nat_lt (lsn page) rec.end) as (λ t. AgreeOn Files root other (if t then redone_put root per rec p (change page) c else Ok c) (if t then redone_put other per rec p (change page) d else Ok d)) [
        | true ↦ redone_agree (change page) sizes c d both
        | false ↦ both
      ]

  image_agree : (image : Option (List ℕ)) (page : List ℕ) → image ≡ Some page → length page ≡ 8192 → (c d : Contents) → AlikeClusters per c root d other → AgreeOn Files root other (image_put root per rec p image c) (image_put other per rec p image d)
  image_agree image page is size c d both =
      subst (λ i. AgreeOn Files root other (image_put root per rec p i c) (image_put other per rec p i d)) (sym is)
      (put_agree (image_left rec.end page) (image-size rec.end page ends size) c d both)

  skipped_agree : (w x : BlockWorld) → BothBlocks w x → AgreeOn BothBlocks root other (change_skipped root p w) (change_skipped other p x)
  skipped_agree w x both =
      with_agree (with_name p w.skipped) (with_name p x.skipped) (of_files (created root p.rel p.fork w.files)) (of_files (created other p.rel p.fork x.files))
      (files-agree per root other (created root p.rel p.fork w.files) (created other p.rel p.fork x.files) (created-left per root other p.rel p.fork w.files x.files both))

  -- ---- where the block's file has the same bytes in both

  page_same : (r s : Result (List ℕ) FileFault) → SameAnswers root other r s → SameAnswers root other (page_read r) (page_read s)
  page_same (Ok a) (Ok b) same = ap (λ page. record { found = found_in page; bytes = page }) same
  page_same (Ok a) (Err f) same = absurd same
  page_same (Err e) (Ok b) same = absurd same
  page_same (Err e) (Err f) same = same

  abbrev segment : ℕ
  segment = p.block / per

  abbrev pub HasSame : Type 0
  HasSame = (a b : List ℕ) → is_alike per (file_parts p.rel p.fork segment) a b ≡ true → a ≡ b

  pub reading-same : (c d : Contents) → HasSame → AlikeClusters per c root d other → SameAnswers root other (block_read root per p c zeros) (block_read other per p d zeros)
  unfolding block_read
  reading-same c d same both =
      told-same per root other (has_block root per p.rel p.fork p.block c) (has_block other per p.rel p.fork p.block d)
      (λ there. if there then block_from_file root per p c else Ok (record { found = found.Absent; bytes = zeros }))
      (λ there. if there then block_from_file other per p d else Ok (record { found = found.Absent; bytes = zeros }))
      (has-same per root other p.rel p.fork p.block c d both)
      (λ there. elim there as (λ t. SameAnswers root other (if t then block_from_file root per p c else Ok (record { found = found.Absent; bytes = zeros })) (if t then block_from_file other per p d else Ok (record { found = found.Absent; bytes = zeros }))) [
        | true ↦ page_same (read_asked c (relation_file root p.rel p.fork segment) (p.block % per * 8192) 8192) (read_asked d (relation_file other p.rel p.fork segment) (p.block % per * 8192) 8192)
            (read-told per root other (file_parts p.rel p.fork segment) (relation_file root p.rel p.fork segment) (relation_file other p.rel p.fork segment) (p.block % per * 8192) 8192 c d
            (lies-file per root other p.rel p.fork segment) same both)
        | false ↦ refl
      ])

  zeros_size : length zeros ≡ 8192
  zeros_size = length-replicate {A = ℕ} 8192 0

  module _ (c : Contents) (gapless : HasNoGap root per p.rel p.fork c) where
    read_is : (reading : Reading) → block_read root per p c zeros ≡ Ok reading → reading ≡ reading_of zeros (block_in root per p c)
    read_is reading made = read-whole root per p c zeros reading some small gapless made

    read_size : (state : Option (List ℕ)) → block_in root per p c ≡ state → length (reading_of zeros state).bytes ≡ 8192
    read_size None there = zeros_size
    read_size (Some bytes) there = state-size root per p c bytes there

  map_agree : (c d : Contents) → HasNoGap root per p.rel p.fork c → HasSame → AlikeClusters per c root d other → AgreeOn Files root other (map_changed root per rec parts p c) (map_changed other per rec parts p d)
  map_agree c d gapless same both =
      told-agree_is per root other Files (block_read root per p c zeros) (block_read other per p d zeros)
      (λ reading. older_put root per rec p (stamped rec.end (visible_map rec parts)) reading.bytes c) (λ reading. older_put other per rec p (stamped rec.end (visible_map rec parts)) reading.bytes d)
      (reading-same c d same both)
      (λ reading made.
      let size : length reading.bytes ≡ 8192 = ap (λ (r : Reading). length r.bytes) (read_is c gapless reading made) ∙ read_size c gapless (block_in root per p c) refl in
      older_agree (stamped rec.end (visible_map rec parts)) reading.bytes (λ new made_new. stamped-map_size rec parts reading.bytes new ends size made_new) c d both)

  module _ (w x : BlockWorld) (gapless : HasNoGap root per p.rel p.fork w.files) (changes : IsEffect (view p.block) rec.end (Change (redone custom rec parts block))) (both : BothBlocks w x) where
    page_agree : (bytes : List ℕ) (z : Bool) → length bytes ≡ 8192 → is_zero bytes ≡ z
        → AgreeOn BothBlocks root other (change_at custom root per rec parts block w (if z then found.Zero else found.Page) bytes) (change_at custom other per rec parts block x (if z then found.Zero else found.Page) bytes)
    page_agree bytes true size is = skipped_agree w x both
    page_agree bytes false size is =
        with_agree w.skipped x.skipped (older_put root per rec p (redone custom rec parts block) bytes w.files) (older_put other per rec p (redone custom rec parts block) bytes x.files)
        (older_agree (redone custom rec parts block) bytes (λ new made. page_size new (changes.page bytes new (page-is bytes size is) made)) w.files x.files both)

    state_agree : (state : Option (List ℕ)) → block_in root per p w.files ≡ state
        → AgreeOn BothBlocks root other (change_at custom root per rec parts block w (reading_of zeros state).found (reading_of zeros state).bytes) (change_at custom other per rec parts block x (reading_of zeros state).found (reading_of zeros state).bytes)
    state_agree None there = skipped_agree w x both
    state_agree (Some bytes) there = page_agree bytes (is_zero bytes) (state-size root per p w.files bytes there) refl

    same_agree : HasSame → AgreeOn BothBlocks root other (changed custom root per rec parts block w) (changed custom other per rec parts block x)
    same_agree same =
        told-agree_is per root other BothBlocks (block_read root per p w.files zeros) (block_read other per p x.files zeros)
        (λ reading. change_at custom root per rec parts block w reading.found reading.bytes) (λ reading. change_at custom other per rec parts block x reading.found reading.bytes)
        (reading-same w.files x.files same both)
        (λ reading made.
        subst (λ (r : Reading). AgreeOn BothBlocks root other (change_at custom root per rec parts block w r.found r.bytes) (change_at custom other per rec parts block x r.found r.bytes))
        (sym (read_is w.files gapless reading made)) (state_agree (block_in root per p w.files) refl))

  -- ---- where it is one of a main fork: the block is there in both, or in neither

  abbrev with_has : (at : PathValue) → BlockWorld → Result Bool FileFault → Result BlockWorld RecordFault
  with_has at w r =
      given (of_files (given r (λ there. if there then block_from_file at per p w.files else Ok (record { found = found.Absent; bytes = zeros }))))
      (λ reading. change_at custom at per rec parts block w reading.found reading.bytes)

  by_has : (at : PathValue) (w : BlockWorld) (r : Result Bool FileFault) → has_block at per p.rel p.fork p.block w.files ≡ r → changed custom at per rec parts block w ≡ with_has at w r
  unfolding block_read
  by_has at w r is = ap (with_has at w) is

  module _ (w x : BlockWorld) (gapless : HasNoGap root per p.rel p.fork w.files) (other_gapless : HasNoGap other per p.rel p.fork x.files)
      (changes : IsEffect (view p.block) rec.end (Change (redone custom rec parts block))) (both : BothBlocks w x) where
    main_agree : is_some (relation_of (path_of false (file_parts p.rel p.fork segment))) ≡ true → (r s : Result Bool FileFault)
        → has_block root per p.rel p.fork p.block w.files ≡ r → has_block other per p.rel p.fork p.block x.files ≡ s → SameAnswers root other r s
        → AgreeOn BothBlocks root other (changed custom root per rec parts block w) (changed custom other per rec parts block x)
    main_agree main (Ok true) (Ok true) is so same =
        sized_agree w x (changed custom root per rec parts block w) (changed custom other per rec parts block x) both
        (changed-sized custom root per some rec parts block small w (own-first per w.files x.files root other both) gapless (has-block root per p.rel p.fork w.files some p.block is) main changes is)
        (changed-sized custom other per some rec parts block small x (own-second per w.files x.files root other both) other_gapless (has-block other per p.rel p.fork x.files some p.block so) main changes so)
    main_agree main (Ok false) (Ok false) is so same =
        subst (λ r. AgreeOn BothBlocks root other r (changed custom other per rec parts block x)) (sym (by_has root w (Ok false) is))
        (subst (λ s. AgreeOn BothBlocks root other (change_skipped root p w) s) (sym (by_has other x (Ok false) so)) (skipped_agree w x both))
    main_agree main (Ok true) (Ok false) is so same = absurd (true≢false same)
    main_agree main (Ok false) (Ok true) is so same = absurd (true≢false (sym same))
    main_agree main (Ok a) (Err f) is so same = absurd same
    main_agree main (Err e) (Ok b) is so same = absurd same
    main_agree main (Err e) (Err f) is so same =
        subst (λ r. AgreeOn BothBlocks root other r (changed custom other per rec parts block x)) (sym (by_has root w (Err e) is))
        (subst (λ s. AgreeOn BothBlocks root other (Err (File e)) s) (sym (by_has other x (Err f) so)) same)

    by_relation : (at : Option (RelName × ℕ)) → relation_of (path_of false (file_parts p.rel p.fork segment)) ≡ at → AgreeOn BothBlocks root other (changed custom root per rec parts block w) (changed custom other per rec parts block x)
    by_relation None is = same_agree w x gapless changes both (same-bytes per (file_parts p.rel p.fork segment) (file-no_version p.rel p.fork segment) is)
    by_relation (Some at) is =
        main_agree (ap is_some is) (has_block root per p.rel p.fork p.block w.files) (has_block other per p.rel p.fork p.block x.files) refl refl
        (has-same per root other p.rel p.fork p.block w.files x.files both)

    changed_agree : AgreeOn BothBlocks root other (changed custom root per rec parts block w) (changed custom other per rec parts block x)
    changed_agree = by_relation (relation_of (path_of false (file_parts p.rel p.fork segment))) refl

  -- ---- whatever is done

  second : (a b : Bool) → (a && b) ≡ true → b ≡ true
  second true b h = h
  second false b h = absurd (true≢false (sym h))

  map_chosen : (gone left image acts fresh map : Bool)
      → (if gone then act.Gone else if left then act.Nothing else if image then act.Image else if acts then (if fresh then act.Make else act.Change) else if map then act.MapPage else act.Nothing) ≡ act.MapPage → map ≡ true
  map_chosen true left image acts fresh map e = absurd cc
  map_chosen false true image acts fresh map e = absurd cc
  map_chosen false false true acts fresh map e = absurd cc
  map_chosen false false false true true map e = absurd cc
  map_chosen false false false true false map e = absurd cc
  map_chosen false false false false fresh true e = refl
  map_chosen false false false false fresh false e = absurd cc

  map_fork : (fork : Fork) → is_map fork ≡ true → fork ≡ Visibility
  map_fork Main h = absurd (true≢false (sym h))
  map_fork FreeSpace h = absurd (true≢false (sym h))
  map_fork Visibility h = refl
  map_fork Init h = absurd (true≢false (sym h))

  pub map-same : act_on custom rec parts block ≡ act.MapPage → HasSame
  map-same chosen =
      let is : is_map_page rec block ≡ true = map_chosen (is_gone rec parts p) (is_left p.fork) (is_some (applied block.image)) (is_main p.fork && (rules_of custom rec).acts rec parts block.id) ((rules_of custom rec).fresh rec parts block.id) (is_map_page rec block) chosen in
      let fork : p.fork ≡ Visibility = map_fork p.fork (second (sets_map_bits (done_by rec) && block.id == 0) (is_map p.fork) is) in
      same-bytes per (file_parts p.rel p.fork segment) (file-no_version p.rel p.fork segment)
      (subst (λ f. relation_of (path_of false (file_parts p.rel f segment)) ≡ None) (sym fork) (map-not_main p.rel segment))

  pub act-agree : (a : Act) (w x : BlockWorld) → HasNoGap root per p.rel p.fork w.files → HasNoGap other per p.rel p.fork x.files
      → act_on custom rec parts block ≡ a → IsDone custom rec parts block.id a (effect_on custom rec parts p) → IsEffect (view p.block) rec.end (effect_on custom rec parts p) → BothBlocks w x
      → AgreeOn BothBlocks root other (by_act custom root per rec parts block w a) (by_act custom other per rec parts block x a)
  act-agree act.Nothing w x gapless other_gapless is done meets both = both
  act-agree act.Gone w x gapless other_gapless is done meets both = both
  act-agree act.Image w x gapless other_gapless is done meets both =
      let size : length done.0 ≡ 8192 = rw done.1 at (image_of_size rec.body parts block.id of_rec) in
      with_agree w.skipped x.skipped (image_put root per rec p (image_at rec parts block.id) w.files) (image_put other per rec p (image_at rec parts block.id) x.files)
      (image_agree (image_at rec parts block.id) done.0 done.1 size w.files x.files both)
  act-agree act.Make w x gapless other_gapless is done meets both =
      with_agree w.skipped x.skipped (redone_put root per rec p (redone custom rec parts block zeros) w.files) (redone_put other per rec p (redone custom rec parts block zeros) x.files)
      (redone_agree (redone custom rec parts block zeros) (λ page made. page_size page (subst (λ r. IsEffect (view p.block) rec.end (effect.Init r)) made (subst (IsEffect (view p.block) rec.end) done meets)).page) w.files x.files both)
  act-agree act.Change w x gapless other_gapless is done meets both = changed_agree w x gapless other_gapless (subst (IsEffect (view p.block) rec.end) done meets) both
  act-agree act.MapPage w x gapless other_gapless is done meets both =
      with_agree w.skipped x.skipped (map_changed root per rec parts p w.files) (map_changed other per rec parts p x.files) (map_agree w.files x.files gapless (map-same is) both)
