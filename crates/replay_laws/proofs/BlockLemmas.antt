-- What a record leaves at one of its references is what its effect on that block makes of what was held.
use Rattle.std.proofs.Common.{◌≡◌, ℕ, ◌<◌, ◌==◌, ◌&&◌, ◌||◌, nat_lt, Bool, true, false, List, length, Option, None, Some, is_some, Result, Ok, refl, ap, sym, subst, ◌∙◌, true≢false}
use Rattle.rmgr_hooks.specs.Custom.{Extension}
use Rattle.std.specs.Prelude.{IsTrue, if◌then◌else◌}
use Rattle.std.specs.Option.{option_and_then}
use Rattle.std.proofs.lemmas.Bool.{or_right}
use Rattle.std.proofs.lemmas.List.{length-replicate}
use Rattle.block_effects.specs.Effects.{applied, is_left, put_in_place, zeros}
use Rattle.block_effects.specs.Gone.{is_gone, is_main}
use Rattle.block_refs.specs.Bytes.{page_of}
use Rattle.block_refs.specs.Parts.{ArePartsOf, PartsView}
use Rattle.block_refs.specs.declared.block_ref.BlockRef.{BlockRef}
use Rattle.block_refs.specs.declared.names.BlockName.{BlockName}
use Rattle.block_refs.specs.declared.names.Fork.{Fork}
use Rattle.block_refs.proofs.PlaceLemmas.{page_size as image_of_size}
use Rattle.block_replay.specs.Blocks.{by_act, change_at, change_skipped, map_changed, redone, with_files}
use Rattle.block_replay.specs.Faults.{of_files, of_redo}
use Rattle.block_replay.specs.Pages.{image_at, image_left, image_put, older_put, page_put, page_there, redone_put}
use Rattle.block_replay.specs.World.{BlockWorld, with_name}
use Rattle.block_replay.specs.declared.faults.RecordFault.{RecordFault}
use Rattle.cluster_tree.specs.Contents.{Contents}
use Rattle.cluster_tree.specs.PathValue.{PathValue}
use Rattle.page_layout.specs.Lsn.{lsn}
use Rattle.page_masks.specs.Kind.{is_zero}
use Rattle.page_masks.specs.Law.{Redone, is_page, stamped, view}
use Rattle.page_masks.proofs.LsnLemmas.{page_size}
use Rattle.record_effects.specs.Acts.{act_on, is_map, is_map_page, sets_map_bits, IsDone}
use Rattle.record_effects.specs.Managers.{done_by, effect_on, rules_of}
use Rattle.record_effects.specs.declared.acts.Act.{Act}
use Rattle.record_effects.specs.declared.acts.Act.TheVariants as act
use Rattle.replay_law.specs.Effect.{Effect, Nothing, FullPageImage, Init, Change, Gone}
use Rattle.replay_law.specs.Premises.{IsEffect}
use Rattle.replay_law.specs.Replay.{Held, after_change, replay_step, with_page}
use Rattle.storage_laws.specs.FileLaws.{IsProper}
use Rattle.storage_laws.specs.LengthLaws.{reading_of}
use Rattle.storage_laws.specs.Names.{IsBlock}
use Rattle.storage_laws.specs.States.{block_in, page_in, page_or_none}
use Rattle.storage_laws.proofs.LengthLemmas.{read-whole}
use Rattle.storage_laws.proofs.NumberLemmas.{by_test}
use Rattle.storage_pages.specs.MapPage.{visible_map}
use Rattle.storage_replay.specs.Changes.{created}
use Rattle.storage_replay.specs.Reading.{Reading}
use Rattle.wal_records.specs.Reading.{LogRecord}
use Rattle.replay_laws.specs.Held.{IsMainBlock, is_among}
use Rattle.replay_laws.specs.Whole.{AreWhole}
use Rattle.replay_laws.proofs.PageLemmas.{image-own, image-size, page-is, page-own, stamped-map_size, state-size}
use Rattle.replay_laws.proofs.WorldLemmas.{OkHolding, Left, files-ok, one_world, given-ok, held_in, left-put, left-same, left-skipped, redo-ok, with-files_ok, world, or-false}

zeros_size : length zeros ≡ 8192
zeros_size = length-replicate {A = ℕ} 8192 0

abbrev OkFiles : Contents → Result Contents RecordFault
OkFiles c = Ok c

one_files : (c d : Contents) → OkFiles c ≡ OkFiles d → c ≡ d
one_files c d e = cc

-- what isn't of the map changes no page of it

pub none_so : (a b : Bool) → (a && b && false) ≡ false
none_so true true = refl
none_so true false = refl
none_so false b = refl

pub no_map_page : (gone left image acts fresh map : Bool) → map ≡ false
    → (if gone then act.Gone else if left then act.Nothing else if image then act.Image else if acts then (if fresh then act.Make else act.Change) else if map then act.MapPage else act.Nothing) ≡ act.MapPage → ⊥
no_map_page true left image acts fresh map none e = absurd cc
no_map_page false true image acts fresh map none e = absurd cc
no_map_page false false true acts fresh map none e = absurd cc
no_map_page false false false true true map none e = absurd cc
no_map_page false false false true false map none e = absurd cc
no_map_page false false false false fresh true none e = absurd (true≢false none)
no_map_page false false false false fresh false none e = absurd cc

-- the block and every other one after a call, and the step of the effect
pub record Stepped (root : PathValue) (per : ℕ) (p : BlockName) (end : ℕ) (doing : Effect) (w v : BlockWorld) : Type 0 where
  pub page : Option (List ℕ)
  pub skips : Bool
  pub left : Left root per p w v page skips
  pub step : IsMainBlock p → (doing ≡ Gone → ⊥) → replay_step (view p.block) (held_in root per p w) end doing ≡ Ok (record { page = page; skipped = is_among p w.skipped || skips })

module _ (custom : Option Extension) (root : PathValue) (per : ℕ) (some : 0 < per) (rec : LogRecord) (parts : PartsView) (of_rec : ArePartsOf rec parts) (ends : 0 < rec.end)
    (block : BlockRef) (small : IsBlock block.name) (proper : IsProper block.name.rel) (w : BlockWorld) (whole : AreWhole root per w.files) where
  abbrev p : BlockName
  p = block.name

  abbrev At : Effect → BlockWorld → Type 0
  At doing v = Stepped root per p rec.end doing w v

  abbrev now : Option (List ℕ)
  now = page_in root per p w.files

  abbrev before : Held
  before = held_in root per p w

  same_held : OkHolding before.page before.skipped ≡ OkHolding now (is_among p w.skipped || false)
  same_held = ap (OkHolding now) (sym (or-false (is_among p w.skipped)))

  -- nothing is done

  stays : (doing : Effect) (v : BlockWorld) → (IsMainBlock p → (doing ≡ Gone → ⊥) → doing ≡ Nothing) → w ≡ v → At doing v
  stays doing v nothing same = record {
    page = now;
    skips = false;
    left = left-same root per some p w whole v same;
    step = λ is not_gone. ap (replay_step (view p.block) before rec.end) (nothing is not_gone) ∙ same_held;
  }

  -- a page is put in place

  placed : (doing : Effect) (page : List ℕ) (d : Contents) (v : BlockWorld) → length page ≡ 8192 → page_put root per p page w.files ≡ Ok d → world d w.skipped ≡ v
      → (IsMainBlock p → replay_step (view p.block) before rec.end doing ≡ OkHolding (page_or_none page) before.skipped) → At doing v
  placed doing page d v size put same step = record {
    page = page_or_none page;
    skips = false;
    left = subst (λ (u : BlockWorld). Left root per p w u (page_or_none page) false) same (left-put root per some p w whole page d small proper size (files-ok _ d put));
    step = λ is not_gone. step is ∙ ap (OkHolding (page_or_none page)) (sym (or-false (is_among p w.skipped)));
  }

  image_done : (page : List ℕ) (doing : Effect) (v : BlockWorld) → page_of rec.body parts block.id ≡ Some page → doing ≡ FullPageImage (put_in_place rec.end page)
      → by_act custom root per rec parts block w act.Image ≡ Ok v → At doing v
  image_done page doing v is effect made =
      let two = with-files_ok w.skipped (image_put root per rec p (image_at rec parts block.id) w.files) v made in
      let size : length page ≡ 8192 = rw is at (image_of_size rec.body parts block.id of_rec) in
      placed doing (image_left rec.end page) two.0 v (image-size rec.end page ends size) (sym (ap (λ i. image_put root per rec p i w.files) is) ∙ two.1) two.2
      (λ main. ap (replay_step (view p.block) before rec.end) effect ∙ ap (λ o. OkHolding o before.skipped) (sym (image-own rec.end page ends size)))

  -- redo's page is put in place

  abbrev redo : List ℕ → Redone
  redo page = redone custom rec parts block page

  made_done : (doing : Effect) (v : BlockWorld) → doing ≡ Init (redo zeros) → IsEffect (view p.block) rec.end (Init (redo zeros))
      → by_act custom root per rec parts block w act.Make ≡ Ok v → At doing v
  made_done doing v effect meets made =
      let two = with-files_ok w.skipped (redone_put root per rec p (redo zeros) w.files) v made in
      let got = given-ok (of_redo rec p (redo zeros)) (λ page. page_put root per p page w.files) two.0 two.1 in
      let page : List ℕ = got.0 in
      let is : redo zeros ≡ Ok page = redo-ok rec p (redo zeros) page got.1 in
      let whole_page = subst (λ r. IsEffect (view p.block) rec.end (Init r)) is meets in
      placed doing page two.0 v (page_size page whole_page.page) got.2 two.2
      (λ main. ap (replay_step (view p.block) before rec.end) effect ∙ ap (with_page before.skipped) is ∙ ap (λ o. OkHolding o before.skipped) (sym (page-own page whole_page.page)))

  -- a change is skipped, or applied to an older page

  skipped_done : (doing : Effect) (v : BlockWorld) → doing ≡ Change redo → now ≡ None → change_skipped root p w ≡ Ok v → At doing v
  skipped_done doing v effect none made =
      let two = with-files_ok (with_name p w.skipped) (of_files (created root p.rel p.fork w.files)) v made in
      record {
        page = now;
        skips = true;
        left = subst (λ (u : BlockWorld). Left root per p w u now true) two.2 (left-skipped root per some p w whole two.0 (files-ok _ two.0 two.1));
        step = λ is not_gone.
            ap (replay_step (view p.block) before rec.end) effect
            ∙ ap (after_change (view p.block) rec.end redo before.skipped) none
            ∙ sym (ap (λ o. OkHolding o true) none)
            ∙ ap (OkHolding now) (sym (or_right (is_among p w.skipped) true refl));
      }

  older_done : (doing : Effect) (bytes : List ℕ) (v : BlockWorld) → doing ≡ Change redo → IsEffect (view p.block) rec.end (Change redo) → IsTrue (is_page bytes) → now ≡ Some bytes
      → with_files w.skipped (older_put root per rec p redo bytes w.files) ≡ Ok v → At doing v
  older_done doing bytes v effect meets is_page_bytes there made =
      let two = with-files_ok w.skipped (older_put root per rec p redo bytes w.files) v made in
      by_test (nat_lt (lsn bytes) rec.end)
      (λ older.
      let got = given-ok (of_redo rec p (redo bytes)) (λ page. page_put root per p page w.files) two.0 (sym (ap (λ b. if b then redone_put root per rec p (redo bytes) w.files else OkFiles w.files) older) ∙ two.1) in
      let page : List ℕ = got.0 in
      let is : redo bytes ≡ Ok page = redo-ok rec p (redo bytes) page got.1 in
      let whole_page = meets.page bytes page is_page_bytes is in
      placed doing page two.0 v (page_size page whole_page) got.2 two.2
      (λ main.
      changes ∙ ap (λ b. if b then with_page before.skipped (redo bytes) else OkHolding (Some bytes) before.skipped) older
      ∙ ap (with_page before.skipped) is ∙ ap (λ o. OkHolding o before.skipped) (sym (page-own page whole_page))))
      (λ newer.
      let same : w.files ≡ two.0 = one_files w.files two.0 (sym (ap (λ b. if b then redone_put root per rec p (redo bytes) w.files else OkFiles w.files) newer) ∙ two.1) in
      record {
        page = now;
        skips = false;
        left = left-same root per some p w whole v (ap (λ c. world c w.skipped) same ∙ two.2);
        step = λ is not_gone.
            changes ∙ ap (λ b. if b then with_page before.skipped (redo bytes) else OkHolding (Some bytes) before.skipped) newer
            ∙ ap (λ o. OkHolding o before.skipped) (sym there) ∙ same_held;
      })
    where
      changes : replay_step (view p.block) before rec.end doing ≡ (if nat_lt (lsn bytes) rec.end then with_page before.skipped (redo bytes) else OkHolding (Some bytes) before.skipped)
      changes = ap (replay_step (view p.block) before rec.end) effect ∙ ap (after_change (view p.block) rec.end redo before.skipped) there

  changed_done : (doing : Effect) (v : BlockWorld) → doing ≡ Change redo → IsEffect (view p.block) rec.end (Change redo) → by_act custom root per rec parts block w act.Change ≡ Ok v → At doing v
  changed_done doing v effect meets made =
      let two = given-ok (page_there root per p w.files) (λ reading. change_at custom root per rec parts block w reading.found reading.bytes) v made in
      let is : two.0 ≡ reading_of zeros (block_in root per p w.files) = read-whole root per p w.files zeros two.0 some small (whole.no_gap p.rel p.fork small.rel) (files-ok _ two.0 two.1) in
      by (block_in root per p w.files) refl (subst (λ (r : Reading). change_at custom root per rec parts block w r.found r.bytes ≡ Ok v) is two.2)
    where
      by : (state : Option (List ℕ)) → block_in root per p w.files ≡ state → change_at custom root per rec parts block w (reading_of zeros state).found (reading_of zeros state).bytes ≡ Ok v → At doing v
      by None there run = skipped_done doing v effect (ap (option_and_then page_or_none) there) run
      by (Some bytes) there run = by_test (is_zero bytes)
          (λ zero. skipped_done doing v effect (ap (option_and_then page_or_none) there ∙ rw zero refl) (rw zero at run))
          (λ page. older_done doing bytes v effect meets (page-is bytes (state-size root per p w.files bytes there) page) (ap (option_and_then page_or_none) there ∙ rw page refl) (rw page at run))

  -- bits are set in a page of the map, which is no block of a main fork

  map_done : (doing : Effect) (v : BlockWorld) → (IsMainBlock p → ⊥) → by_act custom root per rec parts block w act.MapPage ≡ Ok v → At doing v
  map_done doing v no_main made =
      let two = with-files_ok w.skipped (map_changed root per rec parts p w.files) v made in
      let read = given-ok (page_there root per p w.files) (λ reading. older_put root per rec p (stamped rec.end (visible_map rec parts)) reading.bytes w.files) two.0 two.1 in
      let is : read.0 ≡ reading_of zeros (block_in root per p w.files) = read-whole root per p w.files zeros read.0 some small (whole.no_gap p.rel p.fork small.rel) (files-ok _ read.0 read.1) in
      let bytes : List ℕ = read.0.bytes in
      let size : length bytes ≡ 8192 = ap (λ (r : Reading). length r.bytes) is ∙ bytes_size (block_in root per p w.files) refl in
      by_test (nat_lt (lsn bytes) rec.end)
      (λ older.
      let got = given-ok (of_redo rec p (stamped rec.end (visible_map rec parts) bytes)) (λ page. page_put root per p page w.files) two.0 (sym (ap (λ b. if b then redone_put root per rec p (stamped rec.end (visible_map rec parts) bytes) w.files else OkFiles w.files) older) ∙ read.2) in
      placed doing got.0 two.0 v (stamped-map_size rec parts bytes got.0 ends size (redo-ok rec p _ got.0 got.1)) got.2 two.2 (λ main. absurd (no_main main)))
      (λ newer. stays doing v (λ main not_gone. absurd (no_main main)) (ap (λ c. world c w.skipped) (one_files w.files two.0 (sym (ap (λ b. if b then redone_put root per rec p (stamped rec.end (visible_map rec parts) bytes) w.files else OkFiles w.files) newer) ∙ read.2)) ∙ two.2))
    where
      bytes_size : (state : Option (List ℕ)) → block_in root per p w.files ≡ state → length (reading_of zeros state).bytes ≡ 8192
      bytes_size None there = zeros_size
      bytes_size (Some bytes) there = state-size root per p w.files bytes there

  -- what is done at the reference

  no_map : IsMainBlock p → act_on custom rec parts block ≡ act.MapPage → ⊥
  no_map is chosen =
      no_map_page (is_gone rec parts p) (is_left p.fork) (is_some (applied block.image)) (is_main p.fork && (rules_of custom rec).acts rec parts block.id) ((rules_of custom rec).fresh rec parts block.id) (is_map_page rec block)
      (ap (λ (f : Fork). sets_map_bits (done_by rec) && block.id == 0 && is_map f) is.main ∙ none_so (sets_map_bits (done_by rec)) (block.id == 0)) chosen

  pub stepped : (a : Act) (v : BlockWorld) → act_on custom rec parts block ≡ a → IsDone custom rec parts block.id a (effect_on custom rec parts p) → IsEffect (view p.block) rec.end (effect_on custom rec parts p)
      → by_act custom root per rec parts block w a ≡ Ok v → At (effect_on custom rec parts p) v
  stepped act.Nothing v is done meets made = stays _ v (λ main not_gone. done) (one_world w v made)
  stepped act.Image v is done meets made = image_done done.0 _ v done.1 done.2 made
  stepped act.Make v is done meets made = made_done _ v done (subst (IsEffect (view p.block) rec.end) done meets) made
  stepped act.Change v is done meets made = changed_done _ v done (subst (IsEffect (view p.block) rec.end) done meets) made
  stepped act.MapPage v is done meets made = map_done _ v (λ main. no_map main is) made
  stepped act.Gone v is done meets made = stays _ v (λ main not_gone. absurd (not_gone done)) (one_world w v made)
