-- Pages that redo puts in place have 8192 bytes, and so has each block that is read.
use Rattle.std.proofs.Common.{◌≡◌, ℕ, ◌*◌, ◌/◌, ◌%◌, ◌<◌, ◌==◌, ◌&&◌, Bool, true, false, List, length, take, drop, replicate, Option, None, Some, is_some, unwrap_or, Ok, Err, refl, ap, sym, ◌∙◌, arith}
use Rattle.std.specs.Prelude.{IsTrue, if◌then◌else◌}
use Rattle.std.proofs.lemmas.Bool.Decides.{nat_tests}
use Rattle.std.proofs.lemmas.List.{length-drop, length-set, length-take-le}
use Rattle.block_effects.specs.Effects.{put_in_place}
use Rattle.block_refs.specs.Bytes.{main_bytes}
use Rattle.block_refs.specs.Parts.{PartsView}
use Rattle.block_refs.specs.declared.names.BlockName.{BlockName}
use Rattle.block_replay.specs.Pages.{image_left}
use Rattle.cluster_tree.specs.Contents.{Contents}
use Rattle.cluster_tree.specs.PathValue.{PathValue}
use Rattle.cluster_tree.specs.Tree.{bytes_at}
use Rattle.page_laws.proofs.BtreeAnew.{empty_size, init_size}
use Rattle.page_layout.specs.Edits.{init_bytes}
use Rattle.page_layout.specs.Lsn.{with_lsn}
use Rattle.page_masks.specs.Kind.{is_zero}
use Rattle.page_masks.specs.Law.{Redone, is_page, set_lsn_of, stamped}
use Rattle.page_masks.proofs.LsnLemmas.{page_size, stamped_page}
use Rattle.record_layouts.specs.Heap2.{heap_visible_of}
use Rattle.record_layouts.specs.declared.heap2.HeapVisible.{HeapVisible}
use Rattle.redo_steps.specs.Redo.{laid_out}
use Rattle.relation_files.specs.Paths.{relation_file}
use Rattle.storage_pages.specs.MapPage.{started_map, visible_block, visible_map, with_bits}
use Rattle.storage_laws.specs.States.{block_in, page_or_none}
use Rattle.storage_laws.proofs.LengthLemmas.{whole-is}
use Rattle.wal_records.specs.Reading.{LogRecord}

-- 8192 bytes that aren't all zeros

true_is : {P : Type 0} → IsTrue false → P
true_is h = absurd cc

pub page-zero : (p : List ℕ) → IsTrue (is_page p) → is_zero p ≡ false
page-zero p h = by (length p == 8192) (is_zero p) refl h
  where
    by : (s z : Bool) → is_zero p ≡ z → IsTrue (s && (if z then false else true)) → is_zero p ≡ false
    by true false e h = e
    by true true e h = true_is h
    by false z e h = true_is h

pub page-own : (p : List ℕ) → IsTrue (is_page p) → page_or_none p ≡ Some p
page-own p h = rw (page-zero p h) refl

pub page-is : (p : List ℕ) → length p ≡ 8192 → is_zero p ≡ false → IsTrue (is_page p)
page-is p size nonzero = let long : (length p == 8192) ≡ true = grind (arith, nat_tests, size) in rw (long, nonzero) refl

-- an image as it is left

pub image-size : (end : ℕ) (page : List ℕ) → 0 < end → length page ≡ 8192 → length (image_left end page) ≡ 8192
image-size end page some size = by (is_zero page)
  where
    by : (z : Bool) → length (unwrap_or (if z then None else Some (with_lsn end page)) page) ≡ 8192
    by true = size
    by false = page_size (with_lsn end page) (stamped_page end page some size)

pub image-own : (end : ℕ) (page : List ℕ) → 0 < end → length page ≡ 8192 → page_or_none (image_left end page) ≡ put_in_place end page
image-own end page some size = by (is_zero page) refl
  where
    by : (z : Bool) → is_zero page ≡ z → page_or_none (unwrap_or (if z then None else Some (with_lsn end page)) page) ≡ (if z then None else Some (with_lsn end page))
    by true e = rw e refl
    by false e = page-own (with_lsn end page) (stamped_page end page some size)

-- a page of the map

started_size : (p : List ℕ) → length p ≡ 8192 → length (started_map p) ≡ 8192
started_size p size = by (is_zero p)
  where
    by : (z : Bool) → length (if z then init_bytes 0 else p) ≡ 8192
    by true = empty_size (replicate {A = ℕ} 8192 0) init_size 8192
    by false = size

map_size : (rec : LogRecord) (parts : PartsView) (p q : List ℕ) → length p ≡ 8192 → visible_map rec parts p ≡ Ok q → length q ≡ 8192
map_size rec parts p q size made = by (heap_visible_of (main_bytes rec.body parts)) (visible_block parts) made
  where
    by_block : (flags : ℕ) (b : Option ℕ) → laid_out b (λ block. Ok (with_bits flags block (started_map p))) ≡ Ok q → length q ≡ 8192
    by_block flags None run = absurd cc
    by_block flags (Some block) run =
        let same : with_bits flags block (started_map p) ≡ q = cc in
        ap length (sym same) ∙ length-set (started_map p) _ _ ∙ started_size p size

    by : (o : Option HeapVisible) (b : Option ℕ) → laid_out o (λ op. laid_out b (λ block. Ok (with_bits op.flags block (started_map p)))) ≡ Ok q → length q ≡ 8192
    by None b run = absurd cc
    by (Some op) b run = by_block op.flags b run

pub stamped-map_size : (rec : LogRecord) (parts : PartsView) (p q : List ℕ) → 0 < rec.end → length p ≡ 8192 → stamped rec.end (visible_map rec parts) p ≡ Ok q → length q ≡ 8192
stamped-map_size rec parts p q some size made = by (visible_map rec parts p) refl made
  where
    by : (r : Redone) → visible_map rec parts p ≡ r → set_lsn_of rec.end r ≡ Ok q → length q ≡ 8192
    by (Ok page) is run =
        let same : with_lsn rec.end page ≡ q = cc in
        ap length (sym same) ∙ page_size (with_lsn rec.end page) (stamped_page rec.end page some (map_size rec parts p page size is))
    by (Err why) is run = absurd cc

-- a block that is there has 8192 bytes
pub state-size : (root : PathValue) (per : ℕ) (name : BlockName) (c : Contents) (bytes : List ℕ) → block_in root per name c ≡ Some bytes → length bytes ≡ 8192
state-size root per name c bytes is =
    let all = bytes_at c (relation_file root name.rel name.fork (name.block / per)) in
    let place = name.block % per in
    let whole = whole-is place all (ap is_some is) in
    let same : take 8192 (drop (place * 8192) all) ≡ bytes = some_same (take 8192 (drop (place * 8192) all)) bytes (sym whole.1 ∙ is) in
    ap length (sym same) ∙ length-take-le 8192 (drop (place * 8192) all) (omega (arith, whole.0, length-drop (place * 8192) all))
  where
    some_same : (x y : List ℕ) → Some x ≡ Some y → x ≡ y
    some_same x y e = cc
