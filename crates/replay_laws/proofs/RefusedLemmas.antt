-- A record is refused at a reference only where the step of its effect on that block is.
use Rattle.std.proofs.Common.{◌≡◌, ◌⊎◌, ℕ, ◌<◌, ◌==◌, ◌&&◌, nat_lt, Bool, true, false, List, Option, None, Some, is_some, Result, Ok, Err, inl, inr, refl, ap, sym, subst, ◌∙◌, true≢false}
use Rattle.rmgr_hooks.specs.Custom.{Extension}
use Rattle.std.specs.Prelude.{not, if◌then◌else◌}
use Rattle.std.specs.Option.{option_and_then}
use Rattle.std.proofs.lemmas.Bool.{and_parts}
use Rattle.block_effects.specs.Effects.{applied, is_left, zeros}
use Rattle.block_effects.specs.Gone.{is_gone, is_main}
use Rattle.block_refs.specs.Bytes.{main_bytes}
use Rattle.block_refs.specs.Parts.{PartsView}
use Rattle.block_refs.specs.declared.block_ref.BlockRef.{BlockRef}
use Rattle.block_refs.specs.declared.names.BlockName.{BlockName}
use Rattle.block_refs.specs.declared.names.Fork.{Fork}
use Rattle.block_refs.specs.declared.names.Fork.TheVariants.{Main, FreeSpace, Visibility, Init}
use Rattle.block_replay.specs.Blocks.{by_act, change_at, change_skipped, map_changed, redone, with_files}
use Rattle.block_replay.specs.Faults.{of_files, of_redo}
use Rattle.block_replay.specs.Pages.{image_at, image_put, older_put, page_put, page_there, redone_put}
use Rattle.block_replay.specs.World.{BlockWorld, with_name}
use Rattle.block_replay.specs.declared.faults.RecordFault.{RecordFault}
use Rattle.block_replay.specs.declared.faults.RecordFault.TheVariants.{RedoFailed}
use Rattle.cluster_tree.specs.Causes.{given}
use Rattle.cluster_tree.specs.Contents.{Contents}
use Rattle.cluster_tree.specs.PathValue.{PathValue}
use Rattle.cluster_tree.specs.declared.file_fault.FileFault.{FileFault}
use Rattle.page_layout.specs.Lsn.{lsn}
use Rattle.page_layout.specs.declared.refusal.RedoWhy.{RedoWhy}
use Rattle.page_masks.specs.Kind.{is_zero}
use Rattle.page_masks.specs.Law.{Redone, set_lsn_of, stamped, view}
use Rattle.record_effects.specs.Acts.{act_on, is_map, is_map_page, sets_map_bits, IsDone}
use Rattle.record_effects.specs.Managers.{done_by, effect_on, rules_of}
use Rattle.record_effects.specs.declared.acts.Act.{Act}
use Rattle.record_effects.specs.declared.acts.Act.TheVariants as act
use Rattle.record_layouts.specs.Heap2.{heap_visible_of}
use Rattle.record_layouts.specs.Operation.{is_whole}
use Rattle.record_layouts.specs.declared.heap2.Heap2Op.TheVariants as heap2
use Rattle.record_layouts.specs.declared.heap2.HeapVisible.{HeapVisible}
use Rattle.record_layouts.specs.declared.operation.Operation.{Operation}
use Rattle.record_layouts.specs.declared.operation.Operation.TheVariants as op
use Rattle.redo_steps.specs.Redo.{laid_out}
use Rattle.replay_law.specs.Effect.{Init, Change}
use Rattle.replay_law.specs.Replay.{Held, after_change, replay_step, with_page}
use Rattle.storage_laws.specs.FileLaws.{IsProper}
use Rattle.storage_laws.specs.LengthLaws.{reading_of}
use Rattle.storage_laws.specs.Names.{IsBlock}
use Rattle.storage_laws.specs.States.{block_in, page_in, page_or_none}
use Rattle.storage_laws.proofs.LengthLemmas.{read-whole}
use Rattle.storage_laws.proofs.NumberLemmas.{by_test}
use Rattle.storage_pages.specs.MapPage.{started_map, visible_block, visible_map, with_bits}
use Rattle.storage_replay.specs.Changes.{created}
use Rattle.storage_replay.specs.Reading.{Reading, block_read}
use Rattle.wal_base.specs.declared.lsn.Lsn.{Lsn}
use Rattle.wal_records.specs.Reading.{LogRecord}
use Rattle.replay_laws.specs.Held.{IsMainBlock}
use Rattle.replay_laws.specs.Refusals.{LacksLayout}
use Rattle.replay_laws.specs.Whole.{AreWhole}
use Rattle.replay_laws.proofs.WorldLemmas.{files-ok, held_in}

-- answers that are handed on

pub given-err : {A B E : Type 0} (r : Result A E) (next : A → Result B E) (e : E) → given r next ≡ Err e → (r ≡ Err e) ⊎ ((a : A) × (r ≡ Ok a) × (next a ≡ Err e))
given-err (Ok a) next e is = inr (a, refl, is)
given-err (Err f) next e is = inl cc

-- no answer about files is a refusal of redo
pub no-redo : {A : Type 0} (r : Result A FileFault) (start : Lsn) (name : BlockName) (why : RedoWhy) → of_files r ≡ Err (RedoFailed start name why) → ⊥
no-redo (Ok a) start name why e = absurd cc
no-redo (Err fault) start name why e = absurd cc

redo_err : (rec : LogRecord) (p : BlockName) (r : Redone) (start : Lsn) (name : BlockName) (why : RedoWhy) → of_redo rec p r ≡ Err (RedoFailed start name why) → (p ≡ name) × (r ≡ Err why)
redo_err rec p (Ok page) start name why e = absurd cc
redo_err rec p (Err own) start name why e = (cc, ap OffPage same)
  where
    OffPage : RedoWhy → Redone
    OffPage w = Err w

    same : own ≡ why
    same = cc

pub with-err : (skipped : List BlockName) (files : Result Contents RecordFault) (e : RecordFault) → with_files skipped files ≡ Err e → files ≡ Err e
with-err skipped (Ok c) e is = absurd cc
with-err skipped (Err f) e is = cc

put_err : (root : PathValue) (per : ℕ) (rec : LogRecord) (p : BlockName) (r : Redone) (c : Contents) (start : Lsn) (name : BlockName) (why : RedoWhy) → redone_put root per rec p r c ≡ Err (RedoFailed start name why) → (p ≡ name) × (r ≡ Err why)
put_err root per rec p r c start name why e = by (given-err (of_redo rec p r) (λ page. page_put root per p page c) (RedoFailed start name why) e)
  where
    by : (of_redo rec p r ≡ Err (RedoFailed start name why)) ⊎ ((page : List ℕ) × (of_redo rec p r ≡ Ok page) × (page_put root per p page c ≡ Err (RedoFailed start name why))) → (p ≡ name) × (r ≡ Err why)
    by (inl own) = redo_err rec p r start name why own
    by (inr put) = absurd (no-redo _ start name why put.2)

pub older-err : (root : PathValue) (per : ℕ) (rec : LogRecord) (p : BlockName) (change : List ℕ → Redone) (bytes : List ℕ) (c : Contents) (start : Lsn) (name : BlockName) (why : RedoWhy)
    → older_put root per rec p change bytes c ≡ Err (RedoFailed start name why) → (nat_lt (lsn bytes) rec.end ≡ true) × (p ≡ name) × (change bytes ≡ Err why)
older-err root per rec p change bytes c start name why e = by (nat_lt (lsn bytes) rec.end) refl e
  where
    by : (b : Bool) → nat_lt (lsn bytes) rec.end ≡ b → (if b then redone_put root per rec p (change bytes) c else Ok c) ≡ Err (RedoFailed start name why) → (nat_lt (lsn bytes) rec.end ≡ true) × (p ≡ name) × (change bytes ≡ Err why)
    by true is run = let two = put_err root per rec p (change bytes) c start name why run in (is, two.0, two.1)
    by false is run = absurd cc

-- VISIBLE is refused on its map page where it says too little

visible_whole : (o : Operation) (main : List ℕ) → sets_map_bits o ≡ true → heap_visible_of main ≡ None → is_whole o main ≡ false
visible_whole (op.Heap2 heap2.Visible) main sets none = ap is_some none
visible_whole _ main sets none = absurd (true≢false (sym sets))

no_visible : (rec : LogRecord) (parts : PartsView) (p : List ℕ) (why : RedoWhy) → sets_map_bits (done_by rec) ≡ true → stamped rec.end (visible_map rec parts) p ≡ Err why → LacksLayout rec parts
no_visible rec parts p why sets e = by (heap_visible_of (main_bytes rec.body parts)) (visible_block parts) refl refl e
  where
    by : (o : Option HeapVisible) (b : Option ℕ) → heap_visible_of (main_bytes rec.body parts) ≡ o → visible_block parts ≡ b
        → set_lsn_of rec.end (laid_out o (λ op. laid_out b (λ block. Ok (with_bits op.flags block (started_map p))))) ≡ Err why → LacksLayout rec parts
    by None b none is run = inl (ap not (visible_whole (done_by rec) (main_bytes rec.body parts) sets none))
    by (Some op) None some none run = inr (sets, none)
    by (Some op) (Some block) some there run = absurd cc

-- what is done of a main fork, and of the map

abbrev redoes : Act → Bool
redoes act.Make = true
redoes act.Change = true
redoes _ = false

abbrev marks : Act → Bool
marks act.MapPage = true
marks _ = false

abbrev chosen : (gone left image acts fresh map : Bool) → Act
chosen gone left image acts fresh map = if gone then act.Gone else if left then act.Nothing else if image then act.Image else if acts then (if fresh then act.Make else act.Change) else if map then act.MapPage else act.Nothing

redo_acts : (gone left image acts fresh map : Bool) → redoes (chosen gone left image acts fresh map) ≡ true → acts ≡ true
redo_acts true left image acts fresh map e = absurd (true≢false (sym e))
redo_acts false true image acts fresh map e = absurd (true≢false (sym e))
redo_acts false false true acts fresh map e = absurd (true≢false (sym e))
redo_acts false false false true fresh map e = refl
redo_acts false false false false fresh true e = absurd (true≢false (sym e))
redo_acts false false false false fresh false e = absurd (true≢false (sym e))

mark_sets : (gone left image acts fresh map : Bool) → marks (chosen gone left image acts fresh map) ≡ true → map ≡ true
mark_sets true left image acts fresh map e = absurd (true≢false (sym e))
mark_sets false true image acts fresh map e = absurd (true≢false (sym e))
mark_sets false false true acts fresh map e = absurd (true≢false (sym e))
mark_sets false false false true true map e = absurd (true≢false (sym e))
mark_sets false false false true false map e = absurd (true≢false (sym e))
mark_sets false false false false fresh true e = refl
mark_sets false false false false fresh false e = absurd (true≢false (sym e))

main_is : (f : Fork) → is_main f ≡ true → f ≡ Main
main_is Main e = refl
main_is FreeSpace e = absurd (true≢false (sym e))
main_is Visibility e = absurd (true≢false (sym e))
main_is Init e = absurd (true≢false (sym e))

first_of_three : (a b c : Bool) → (a && b && c) ≡ true → a ≡ true
first_of_three true b c e = refl
first_of_three false b c e = absurd (true≢false (sym e))

module _ (custom : Option Extension) (root : PathValue) (per : ℕ) (some : 0 < per) (rec : LogRecord) (parts : PartsView) (block : BlockRef) (small : IsBlock block.name) (proper : IsProper block.name.rel) (w : BlockWorld) (whole : AreWhole root per w.files)
    (start : Lsn) (name : BlockName) (why : RedoWhy) where
  abbrev p : BlockName
  p = block.name

  abbrev before : Held
  before = held_in root per p w

  abbrev ErrHeld : RedoWhy → Result Held RedoWhy
  ErrHeld w = Err w

  -- the step of a main fork's block is refused
  pub record MainStep : Type 0 where
    pub main : IsMainBlock p
    pub refused : replay_step (view p.block) before rec.end (effect_on custom rec parts p) ≡ ErrHeld why

  -- so it is, or the record says too little
  abbrev pub Step : Type 0
  Step = LacksLayout rec parts ⊎ (IsMainBlock p × (replay_step (view p.block) before rec.end (effect_on custom rec parts p) ≡ ErrHeld why))

  abbrev Fault : RecordFault
  Fault = RedoFailed start name why

  abbrev redo : List ℕ → Redone
  redo page = redone custom rec parts block page

  of_main : act_on custom rec parts block ≡ act.Make ⊎ (act_on custom rec parts block ≡ act.Change) → IsMainBlock p
  of_main is = record { main = main_is p.fork (and_parts (is_main p.fork) ((rules_of custom rec).acts rec parts block.id) acts).0; block = small; proper = proper }
    where
      redone_so : act_on custom rec parts block ≡ act.Make ⊎ (act_on custom rec parts block ≡ act.Change) → redoes (act_on custom rec parts block) ≡ true
      redone_so (inl e) = ap redoes e
      redone_so (inr e) = ap redoes e

      acts : (is_main p.fork && (rules_of custom rec).acts rec parts block.id) ≡ true
      acts = redo_acts (is_gone rec parts p) (is_left p.fork) (is_some (applied block.image)) (is_main p.fork && (rules_of custom rec).acts rec parts block.id) ((rules_of custom rec).fresh rec parts block.id) (is_map_page rec block) (redone_so is)

  of_map : act_on custom rec parts block ≡ act.MapPage → sets_map_bits (done_by rec) ≡ true
  of_map is =
      first_of_three (sets_map_bits (done_by rec)) (block.id == 0) (is_map p.fork)
      (mark_sets (is_gone rec parts p) (is_left p.fork) (is_some (applied block.image)) (is_main p.fork && (rules_of custom rec).acts rec parts block.id) ((rules_of custom rec).fresh rec parts block.id) (is_map_page rec block) (ap marks is))

  pub image-refused : by_act custom root per rec parts block w act.Image ≡ Err Fault → ⊥
  image-refused e = by (image_at rec parts block.id) (with-err w.skipped (image_put root per rec p (image_at rec parts block.id) w.files) Fault e)
    where
      by : (image : Option (List ℕ)) → image_put root per rec p image w.files ≡ Err Fault → ⊥
      by None run = absurd cc
      by (Some page) run = no-redo _ start name why run

  skip_refused : change_skipped root p w ≡ Err Fault → ⊥
  skip_refused e = no-redo (created root p.rel p.fork w.files) start name why (with-err (with_name p w.skipped) (of_files (created root p.rel p.fork w.files)) Fault e)

  pub made-refused : act_on custom rec parts block ≡ act.Make → effect_on custom rec parts p ≡ Init (redo zeros) → by_act custom root per rec parts block w act.Make ≡ Err Fault → (p ≡ name) × MainStep
  made-refused is effect e =
      let two = put_err root per rec p (redo zeros) w.files start name why (with-err w.skipped (redone_put root per rec p (redo zeros) w.files) Fault e) in
      (two.0, record { main = of_main (inl is); refused = ap (replay_step (view p.block) before rec.end) effect ∙ ap (with_page before.skipped) two.1 })

  pub changed-refused : act_on custom rec parts block ≡ act.Change → effect_on custom rec parts p ≡ Change redo → by_act custom root per rec parts block w act.Change ≡ Err Fault → (p ≡ name) × MainStep
  changed-refused is effect e = by_read (given-err (page_there root per p w.files) (λ reading. change_at custom root per rec parts block w reading.found reading.bytes) Fault e)
    where
      older : (bytes : List ℕ) → page_in root per p w.files ≡ Some bytes → with_files w.skipped (older_put root per rec p redo bytes w.files) ≡ Err Fault → (p ≡ name) × MainStep
      older bytes there run =
          let three = older-err root per rec p redo bytes w.files start name why (with-err w.skipped (older_put root per rec p redo bytes w.files) Fault run) in (
            three.1,
            record {
              main = of_main (inr is);
              refused =
                  ap (replay_step (view p.block) before rec.end) effect
                  ∙ ap (after_change (view p.block) rec.end redo before.skipped) there
                  ∙ ap (λ b. if b then with_page before.skipped (redo bytes) else Ok (record { page = Some bytes; skipped = before.skipped })) three.0
                  ∙ ap (with_page before.skipped) three.2;
            },
          )

      by_state : (state : Option (List ℕ)) → block_in root per p w.files ≡ state → change_at custom root per rec parts block w (reading_of zeros state).found (reading_of zeros state).bytes ≡ Err Fault → (p ≡ name) × MainStep
      by_state None there run = absurd (skip_refused run)
      by_state (Some bytes) there run = by_test (is_zero bytes)
          (λ zero. absurd (skip_refused (rw zero at run)))
          (λ page. older bytes (ap (option_and_then page_or_none) there ∙ rw page refl) (rw page at run))

      by_read : (page_there root per p w.files ≡ Err Fault) ⊎ ((reading : Reading) × (page_there root per p w.files ≡ Ok reading) × (change_at custom root per rec parts block w reading.found reading.bytes ≡ Err Fault)) → (p ≡ name) × MainStep
      by_read (inl refused) = absurd (no-redo (block_read root per p w.files zeros) start name why refused)
      by_read (inr read) =
          let same : read.0 ≡ reading_of zeros (block_in root per p w.files) = read-whole root per p w.files zeros read.0 some small (whole.no_gap p.rel p.fork small.rel) (files-ok _ read.0 read.1) in
          by_state (block_in root per p w.files) refl (subst (λ (r : Reading). change_at custom root per rec parts block w r.found r.bytes ≡ Err Fault) same read.2)

  map_refused : act_on custom rec parts block ≡ act.MapPage → by_act custom root per rec parts block w act.MapPage ≡ Err Fault → (p ≡ name) × Step
  map_refused is e = by_read (given-err (page_there root per p w.files) (λ reading. older_put root per rec p (stamped rec.end (visible_map rec parts)) reading.bytes w.files) Fault (with-err w.skipped (map_changed root per rec parts p w.files) Fault e))
    where
      by_read : (page_there root per p w.files ≡ Err Fault) ⊎ ((reading : Reading) × (page_there root per p w.files ≡ Ok reading) × (older_put root per rec p (stamped rec.end (visible_map rec parts)) reading.bytes w.files ≡ Err Fault)) → (p ≡ name) × Step
      by_read (inl refused) = absurd (no-redo (block_read root per p w.files zeros) start name why refused)
      by_read (inr read) =
          let three = older-err root per rec p (stamped rec.end (visible_map rec parts)) read.0.bytes w.files start name why read.2 in
          (three.1, inl (no_visible rec parts read.0.bytes why (of_map is) three.2))

  pub refused-at : (a : Act) → act_on custom rec parts block ≡ a → IsDone custom rec parts block.id a (effect_on custom rec parts p) → by_act custom root per rec parts block w a ≡ Err Fault → (p ≡ name) × Step
  refused-at act.Nothing is done e = absurd cc
  refused-at act.Gone is done e = absurd cc
  refused-at act.Image is done e = absurd (image-refused e)
  refused-at act.Make is done e = let two = made-refused is done e in (two.0, inr (two.1.main, two.1.refused))
  refused-at act.Change is done e = let two = changed-refused is done e in (two.0, inr (two.1.main, two.1.refused))
  refused-at act.MapPage is done e = map_refused is e
