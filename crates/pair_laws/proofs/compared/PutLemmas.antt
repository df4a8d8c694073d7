-- What a record leaves of the files whose one reference is a block of the relation that it changes.
use Rattle.std.proofs.Common.{◌≡◌, ℕ, ◌*◌, ◌/◌, ◌%◌, ◌<◌, ◌≤◌, nat_lt, Bool, true, false, List, [], ◌∷◌, ◌++◌, length, take, drop, replicate, None, Result, Ok, Err, refl, ap, sym, ◌∙◌, subst, arith}
use Rattle.std.specs.Prelude.{if◌then◌else◌}
use Rattle.std.proofs.lemmas.Grind.{common_steps}
use Rattle.std.proofs.lemmas.List.{length-replicate}
use Rattle.block_effects.specs.Effects.{zeros}
use Rattle.block_refs.specs.Parts.{PartsView}
use Rattle.block_refs.specs.declared.block_ref.BlockRef.{BlockRef}
use Rattle.block_refs.specs.declared.names.BlockName.{BlockName}
use Rattle.block_refs.specs.declared.names.Fork.TheVariants.{Main}
use Rattle.block_refs.specs.declared.placed.Placed.{Placed}
use Rattle.block_replay.specs.Blocks.{block_after, by_act, change_at, change_skipped, changed, each_after, redone}
use Rattle.block_replay.specs.Faults.{of_files, of_redo}
use Rattle.block_replay.specs.Pages.{older_put, page_put, page_there, redone_put}
use Rattle.block_replay.specs.World.{BlockWorld, with_name}
use Rattle.cluster_tree.specs.Contents.{Contents, entry_at}
use Rattle.cluster_tree.specs.PathValue.{PathValue}
use Rattle.cluster_tree.specs.Tree.{bytes_at}
use Rattle.cluster_tree.specs.declared.file_fault.FileFault.{FileFault}
use Rattle.file_edits.specs.Asking.{read_asked}
use Rattle.file_edits.proofs.LaidLemmas.{read_into}
use Rattle.page_layout.specs.Lsn.{lsn, with_lsn}
use Rattle.page_masks.specs.Law.{Redone, set_lsn_of}
use Rattle.page_masks.proofs.LsnUnshown.{lsn_tail}
use Rattle.pair_laws.proofs.EffectLemmas.{block_at}
use Rattle.pair_maker.specs.Inserts.{pair_relation}
use Rattle.record_effects.specs.Acts.{act_on}
use Rattle.record_effects.specs.Managers.{rules_of}
use Rattle.record_effects.specs.declared.acts.Act.TheVariants.{Change}
use Rattle.relation_files.specs.Paths.{relation_file}
use Rattle.replay_laws.proofs.WorldLemmas.{files-ok, given-ok, redo-ok, with-files_ok}
use Rattle.storage_laws.proofs.EditedLemmas.{given-done}
use Rattle.storage_laws.proofs.NumberLemmas.{by_test}
use Rattle.storage_replay.specs.Changes.{created}
use Rattle.storage_replay.specs.Lengths.{has_block}
use Rattle.storage_replay.specs.Reading.{Reading, block_from_file, block_read, found_in, page_read}
use Rattle.storage_replay.specs.declared.found.Found.{Found}
use Rattle.storage_replay.specs.declared.found.Found.TheVariants as found
use Rattle.wal_records.specs.Reading.{LogRecord}
use Rattle.pair_laws.proofs.compared.KeepLemmas.{HasRelation, KeepsFiles}
use Rattle.pair_laws.proofs.compared.FileLemmas.{block-keeps, created-keeps, keeps-same, same-ok}

-- ---- a block is read as 8192 bytes, whatever is found

filled_size : (xs : List ℕ) (n : ℕ) → length (take n (xs ++ replicate n 0)) ≡ n
filled_size xs n = grind (arith, common_steps)

page_long : (meant : Result (List ℕ) FileFault) (reading : Reading) → ((page : List ℕ) → meant ≡ Ok page → length page ≡ 8192) → page_read meant ≡ Ok reading → length reading.bytes ≡ 8192
page_long (Ok page) reading long made = let same : record { found = found_in page; bytes = page } ≡ reading = cc in ap (λ (r : Reading). length r.bytes) (sym same) ∙ long page refl
page_long (Err e) reading long made = absurd cc

from_long : (c : Contents) (path : PathValue) (at : ℕ) (page : List ℕ) → read_asked c path at 8192 ≡ Ok page → length page ≡ 8192
from_long c path at page made = ap length (read_into (entry_at c path) path at 8192 page made) ∙ filled_size (drop at (bytes_at c path)) 8192

read-long : (root : PathValue) (per : ℕ) (name : BlockName) (c : Contents) (old : List ℕ) (reading : Reading) → length old ≡ 8192 → block_read root per name c old ≡ Ok reading → length reading.bytes ≡ 8192
unfolding block_read
read-long root per name c old reading size made =
    let two = given-done (has_block root per name.rel name.fork name.block c) (λ there. if there then block_from_file root per name c else Ok (record { found = found.Absent; bytes = old })) reading made in
    by two.0 two.2
  where
    by : (b : Bool) → (if b then block_from_file root per name c else Ok (record { found = found.Absent; bytes = old })) ≡ Ok reading → length reading.bytes ≡ 8192
    by true run =
        let path = relation_file root name.rel name.fork (name.block / per) in
        page_long (read_asked c path (name.block % per * 8192) 8192) reading (from_long c path (name.block % per * 8192)) run
    by false run = let same : record { found = found.Absent; bytes = old } ≡ reading = cc in ap (λ (r : Reading). length r.bytes) (sym same) ∙ size

zeros_long : length zeros ≡ 8192
zeros_long = length-replicate {A = ℕ} 8192 0

-- ---- and redone as 8192 bytes, where its operation makes as many

stamped-long : (end : ℕ) (r : Redone) (page : List ℕ) → ((q : List ℕ) → r ≡ Ok q → length q ≡ 8192) → set_lsn_of end r ≡ Ok page → length page ≡ 8192
stamped-long end (Ok q) page long made = let same : with_lsn end q ≡ page = cc in ap length (sym same) ∙ (lsn_tail end q (long q refl)).size_q
stamped-long end (Err why) page long made = absurd cc

-- a reference to a block of the pair's relation, without an image
abbrev pub ref_to : ℕ → BlockRef
ref_to block = record { id = 0; name = block_at block; will_init = false; image = None }

-- a record makes 8192 bytes of 8192
abbrev pub MakesPages : LogRecord → PartsView → Type 0
MakesPages rec parts = (p q : List ℕ) → length p ≡ 8192 → (rules_of None rec).operation rec parts 0 p ≡ Ok q → length q ≡ 8192

module _ (root : PathValue) (blocks block : ℕ) (few : blocks ≤ 4096) (below : block < blocks) (rec : LogRecord) (parts : PartsView) (makes : MakesPages rec parts) where
  abbrev Keeps : BlockWorld → BlockWorld → Type 0
  Keeps w v = KeepsFiles root blocks w.files v.files

  abbrev name : BlockName
  name = block_at block

  abbrev redo : List ℕ → Redone
  redo page = redone None rec parts (ref_to block) page

  older-keeps : (bytes : List ℕ) (c d : Contents) → HasRelation root blocks c → length bytes ≡ 8192 → older_put root 131072 rec name redo bytes c ≡ Ok d → KeepsFiles root blocks c d
  older-keeps bytes c d has size made = by_test (nat_lt (lsn bytes) rec.end)
      (λ older.
      let got = given-ok (of_redo rec name (redo bytes)) (λ page. page_put root 131072 name page c) d (sym (ap (λ b. if b then redone_put root 131072 rec name (redo bytes) c else Ok c) older) ∙ made) in
      let long : length got.0 ≡ 8192 = stamped-long rec.end ((rules_of None rec).operation rec parts 0 bytes) got.0 (λ q is. makes bytes q size is) (redo-ok rec name (redo bytes) got.0 got.1) in
      block-keeps root blocks block got.0 c d few below has long (files-ok _ d got.2))
      (λ newer. keeps-same root blocks c d has (same-ok (older_put root 131072 rec name redo bytes c) c d (ap (λ b. if b then redone_put root 131072 rec name (redo bytes) c else Ok c) newer) made))

  skipped-keeps : (w v : BlockWorld) → HasRelation root blocks w.files → change_skipped root name w ≡ Ok v → Keeps w v
  skipped-keeps w v has made =
      let two = with-files_ok (with_name name w.skipped) (of_files (created root pair_relation Main w.files)) v made in
      subst (Keeps w) two.2 (created-keeps root blocks w.files two.0 has (files-ok _ two.0 two.1))

  changed-keeps : (w v : BlockWorld) → HasRelation root blocks w.files → changed None root 131072 rec parts (ref_to block) w ≡ Ok v → Keeps w v
  changed-keeps w v has made =
      let two = given-ok (page_there root 131072 name w.files) (λ reading. change_at None root 131072 rec parts (ref_to block) w reading.found reading.bytes) v made in
      by two.0.found two.0.bytes (read-long root 131072 name w.files zeros two.0 zeros_long (files-ok _ two.0 two.1)) two.2
    where
      by : (f : Found) (bytes : List ℕ) → length bytes ≡ 8192 → change_at None root 131072 rec parts (ref_to block) w f bytes ≡ Ok v → Keeps w v
      by found.Absent bytes size run = skipped-keeps w v has run
      by found.Zero bytes size run = skipped-keeps w v has run
      by found.Page bytes size run =
          let put = with-files_ok w.skipped (older_put root 131072 rec name redo bytes w.files) v run in
          subst (Keeps w) put.2 (older-keeps bytes w.files put.0 has size put.1)

  pub change-keeps : (placed : Placed) (w v : BlockWorld) → placed.block ≡ ref_to block → act_on None rec parts (ref_to block) ≡ Change → HasRelation root blocks w.files
      → each_after None root 131072 rec parts (placed ∷ []) w ≡ Ok v → Keeps w v
  unfolding each_after block_after
  change-keeps placed w v is act has made =
      let two = given-ok (by_act None root 131072 rec parts placed.block w (act_on None rec parts placed.block)) (each_after None root 131072 rec parts []) v made in
      let run : changed None root 131072 rec parts (ref_to block) w ≡ Ok v =
      ap (by_act None root 131072 rec parts (ref_to block) w) (sym act) ∙ ap (λ b. by_act None root 131072 rec parts b w (act_on None rec parts b)) (sym is) ∙ two.1 ∙ two.2 in
      changed-keeps w v has run
