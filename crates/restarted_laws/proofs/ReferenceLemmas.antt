-- References of a record over two clusters in which the blocks that it changes are the same: none is refused in one of them alone.
use Rattle.std.proofs.Common.{◌≡◌, ◌⊎◌, ℕ, ◌<◌, Bool, true, false, ◌||◌, List, [], ◌∷◌, Option, Result, Ok, Err, inl, inr, refl, sym, ap, subst, ◌∙◌, true≢false}
use Rattle.std.specs.Prelude.{if◌then◌else◌}
use Rattle.rmgr_hooks.specs.Custom.{Extension, IsSound}
use Rattle.alike_clusters.specs.Clusters.{AlikeClusters}
use Rattle.block_effects.specs.Effects.{zeros}
use Rattle.block_effects.proofs.MeetLemmas.{meets}
use Rattle.block_refs.specs.Parts.{ArePartsOf, PartsView}
use Rattle.block_refs.specs.declared.names.BlockName.{BlockName}
use Rattle.block_refs.specs.declared.placed.Placed.{Placed}
use Rattle.block_replay.specs.Blocks.{block_after, by_act, each_after, map_changed, redone}
use Rattle.block_replay.specs.Pages.{older_put, page_there, redone_put}
use Rattle.block_replay.specs.World.{BlockWorld}
use Rattle.block_replay.specs.declared.faults.RecordFault.{RecordFault}
use Rattle.block_replay.specs.declared.faults.RecordFault.TheVariants.{RedoFailed}
use Rattle.cluster_laws.specs.Agree.{AgreeOn}
use Rattle.cluster_laws.proofs.ChangeLemmas.{act-agree, map-same, reading-same}
use Rattle.cluster_tree.specs.Contents.{Contents}
use Rattle.cluster_tree.specs.PathValue.{PathValue}
use Rattle.cluster_tree.specs.declared.file_fault.FileFault.{FileFault}
use Rattle.file_edits.specs.Alike.{SameAnswers}
use Rattle.page_layout.specs.declared.refusal.RedoWhy.{RedoWhy}
use Rattle.page_masks.specs.Law.{Redone, stamped, view}
use Rattle.record_effects.specs.Acts.{act_on, IsDone}
use Rattle.record_effects.specs.Managers.{effect_on, rules_of}
use Rattle.record_effects.specs.declared.acts.Act.{Act}
use Rattle.record_effects.specs.declared.acts.Act.TheVariants as act
use Rattle.replay_law.specs.Effect.{Effect, Init, Change, Gone}
use Rattle.replay_law.specs.Replay.{Held, replay_step, with_page}
use Rattle.replay_laws.specs.Held.{IsMainBlock}
use Rattle.replay_laws.specs.Whole.{AreWhole}
use Rattle.replay_laws.proofs.NameLemmas.{AreOwn, IsOwn, name-is}
use Rattle.replay_laws.proofs.RefLemmas.{AreReady, IsReady, one-stepped}
use Rattle.replay_laws.proofs.RefusedLemmas.{changed-refused, given-err, image-refused, made-refused, no-redo, older-err, with-err}
use Rattle.replay_laws.proofs.RuleLemmas.{managers_are}
use Rattle.replay_laws.proofs.WorldLemmas.{OkHeld, files-ok, given-ok, held_in, is-own, left-other, with-files_ok}
use Rattle.replay_profile.specs.Names.{is_block, is_named}
use Rattle.storage_laws.proofs.NumberLemmas.{by_test}
use Rattle.storage_pages.specs.MapPage.{visible_map}
use Rattle.storage_replay.specs.Reading.{Reading, block_read}
use Rattle.wal_base.specs.declared.lsn.Lsn.{Lsn}
use Rattle.wal_records.specs.Reading.{LogRecord}

abbrev ErrHeld : RedoWhy → Result Held RedoWhy
ErrHeld why = Err why

pub ok-or_err : (h : Held) (why : RedoWhy) → OkHeld h ≡ ErrHeld why → ⊥
ok-or_err h why e = absurd cc

-- a page that is made is made in both, or in neither
pub made-both : (s t : Bool) (made : Redone) (h : Held) (why : RedoWhy) → with_page s made ≡ OkHeld h → with_page t made ≡ ErrHeld why → ⊥
made-both s t (Ok page) h why one two = absurd cc
made-both s t (Err e) h why one two = absurd cc

or_of : (a b : Bool) → b ≡ true → (a || b) ≡ true
or_of true b h = refl
or_of false b h = h

or_first : (a b : Bool) → a ≡ true → (a || b) ≡ true
or_first true b h = refl
or_first false b h = absurd (true≢false (sym h))

module _ (custom : Option Extension) (sound : IsSound custom) (root other : PathValue) (per : ℕ) (some : 0 < per) (rec : LogRecord) (parts : PartsView) (of_rec : ArePartsOf rec parts) (ends : 0 < rec.end)
    (start : Lsn) (name : BlockName) (why : RedoWhy) where
  abbrev Fault : RecordFault
  Fault = RedoFailed start name why

  abbrev doing : BlockName → Effect
  doing p = effect_on custom rec parts p

  abbrev IsChanged : Effect → Type 0
  IsChanged what = (change : List ℕ → Redone) × (what ≡ Change change)

  -- a block that the record changes is the same in both
  abbrev IsHeld : BlockWorld → BlockWorld → BlockName → Type 0
  IsHeld w x p = IsMainBlock p → IsChanged (doing p) → held_in root per p w ≡ held_in other per p x

  -- ---- bits in the map's page are refused by what was read of it

  older_both : (p : BlockName) (change : List ℕ → Redone) (page : List ℕ) (c d e : Contents) → older_put root per rec p change page c ≡ Ok e → older_put other per rec p change page d ≡ Err Fault → ⊥
  older_both p change page c d e one two =
      let three = older-err other per rec p change page d start name why two in
      let run : redone_put root per rec p (change page) c ≡ Ok e = ap (λ b. if b then redone_put root per rec p (change page) c else Ok c) (sym three.0) ∙ one in
      by (change page) three.2 run
    where
      by : (r : Redone) → r ≡ Err why → redone_put root per rec p r c ≡ Ok e → ⊥
      by (Ok new) is run = absurd cc
      by (Err own) is run = absurd cc

  map_both : (p : BlockName) (c d e : Contents) → SameAnswers root other (block_read root per p c zeros) (block_read other per p d zeros)
      → map_changed root per rec parts p c ≡ Ok e → map_changed other per rec parts p d ≡ Err Fault → ⊥
  map_both p c d e same one two =
      let first = given-ok (page_there root per p c) (λ reading. older_put root per rec p (stamped rec.end (visible_map rec parts)) reading.bytes c) e one in
      by first.0 (files-ok (block_read root per p c zeros) first.0 first.1) first.2
      (given-err (page_there other per p d) (λ reading. older_put other per rec p (stamped rec.end (visible_map rec parts)) reading.bytes d) Fault two)
    where
      told : (r s : Result Reading FileFault) (a b : Reading) → SameAnswers root other r s → r ≡ Ok a → s ≡ Ok b → a ≡ b
      told (Ok a) (Ok b) x y same is so = let one : a ≡ x = cc in let two : b ≡ y = cc in sym one ∙ same ∙ two
      told (Ok a) (Err f) x y same is so = absurd same
      told (Err f) s x y same is so = absurd cc

      by : (a : Reading) → block_read root per p c zeros ≡ Ok a → older_put root per rec p (stamped rec.end (visible_map rec parts)) a.bytes c ≡ Ok e
          → (page_there other per p d ≡ Err Fault) ⊎ ((b : Reading) × (page_there other per p d ≡ Ok b) × (older_put other per rec p (stamped rec.end (visible_map rec parts)) b.bytes d ≡ Err Fault)) → ⊥
      by a is put (inl refused) = no-redo (block_read other per p d zeros) start name why refused
      by a is put (inr read) =
          let same_page : a ≡ read.0 = told (block_read root per p c zeros) (block_read other per p d zeros) a read.0 same is (files-ok (block_read other per p d zeros) read.0 read.1) in
          older_both p (stamped rec.end (visible_map rec parts)) a.bytes c d e put
          (subst (λ (r : Reading). older_put other per rec p (stamped rec.end (visible_map rec parts)) r.bytes d ≡ Err Fault) (sym same_page) read.2)

  -- ---- one reference

  module _ (placed : Placed) (more : List Placed) (own : IsOwn placed more) (w x v : BlockWorld) (whole : AreWhole root per w.files) (other_whole : AreWhole other per x.files)
      (both : AlikeClusters per w.files root x.files other) (ready : IsReady custom sound root per some rec parts of_rec ends placed) (same : IsHeld w x placed.block.name)
      (made : block_after custom root per rec parts placed w ≡ Ok v) where
    abbrev p : BlockName
    p = placed.block.name

    done_so : (what : Effect) → doing p ≡ what → (what ≡ Gone → ⊥) → IsMainBlock p → (h : Held) × (replay_step (view p.block) (held_in root per p w) rec.end what ≡ OkHeld h)
    done_so what is stays main =
        let one = one-stepped custom sound root per some rec parts of_rec ends placed more w v ready own whole made in
        (record { page = one.page; skipped = _ }, ap (replay_step (view p.block) (held_in root per p w) rec.end) (sym is) ∙ one.step main (λ gone. stays (sym is ∙ gone)))

    one_ends : block_after custom other per rec parts placed x ≡ Err Fault → ⊥
    unfolding block_after
    one_ends refused = by (act_on custom rec parts placed.block) refl ready.done made refused
      where
        by : (a : Act) → act_on custom rec parts placed.block ≡ a → IsDone custom rec parts placed.block.id a (doing p)
            → by_act custom root per rec parts placed.block w a ≡ Ok v → by_act custom other per rec parts placed.block x a ≡ Err Fault → ⊥
        by act.Nothing is done one two = absurd cc
        by act.Gone is done one two = absurd cc
        by act.Image is done one two = image-refused custom other per some rec parts placed.block own.block own.proper x other_whole start name why two
        by act.Make is done one two =
            let at = (made-refused custom other per some rec parts placed.block own.block own.proper x other_whole start name why is done two).1 in
            let first = done_so (doing p) refl (λ gone. absurd (no_gone gone done)) at.main in
            made-both (held_in root per p w).skipped (held_in other per p x).skipped (redone custom rec parts placed.block zeros) first.0 why
            (ap (replay_step (view p.block) (held_in root per p w) rec.end) (sym done) ∙ first.1)
            (ap (replay_step (view p.block) (held_in other per p x) rec.end) (sym done) ∙ at.refused)
          where
            no_gone : doing p ≡ Gone → doing p ≡ Init (redone custom rec parts placed.block zeros) → ⊥
            no_gone gone made_so = absurd cc
        by act.Change is done one two =
            let at = (changed-refused custom other per some rec parts placed.block own.block own.proper x other_whole start name why is done two).1 in
            let first = done_so (doing p) refl (λ gone. absurd (no_gone gone done)) at.main in
            ok-or_err first.0 why
            (sym first.1
            ∙ ap (λ h. replay_step (view p.block) h rec.end (doing p)) (same at.main (redone custom rec parts placed.block, done))
            ∙ at.refused)
          where
            no_gone : doing p ≡ Gone → doing p ≡ Change (redone custom rec parts placed.block) → ⊥
            no_gone gone changed = absurd cc
        by act.MapPage is done one two =
            let first = with-files_ok w.skipped (map_changed root per rec parts p w.files) v one in
            map_both p w.files x.files first.0
            (reading-same custom root other per some rec parts of_rec ends placed.block own.block w.files x.files (map-same custom root other per some rec parts of_rec ends placed.block own.block is) both)
            first.1 (with-err x.skipped (map_changed other per rec parts p x.files) Fault two)

  -- ---- one after another

  pub record AlikeBlocks (w : BlockWorld) (x : BlockWorld) : Type 0 where
    pub files : AlikeClusters per w.files root x.files other
    pub whole : AreWhole root per w.files
    pub other_whole : AreWhole other per x.files

  abbrev BothBlocks : BlockWorld → BlockWorld → Type 0
  BothBlocks w x = AlikeClusters per w.files root x.files other

  both_ok : (r s : Result BlockWorld RecordFault) (a b : BlockWorld) → AgreeOn BothBlocks root other r s → r ≡ Ok a → s ≡ Ok b → BothBlocks a b
  both_ok (Ok c) (Ok d) a b agree is so =
      let one : c ≡ a = cc in
      let two : d ≡ b = cc in
      subst (λ u. BothBlocks u b) one (subst (BothBlocks c) two agree)
  both_ok (Ok c) (Err f) a b agree is so = absurd cc
  both_ok (Err e) s a b agree is so = absurd cc

  differs : (q : BlockName) (placed : Placed) (more : List Placed) → is_named placed.block.name more ≡ false → is_named q more ≡ true → is_block q placed.block.name ≡ false
  differs q placed more alone named = by_test (is_block q placed.block.name)
      (λ so. absurd (true≢false (sym named ∙ ap (λ n. is_named n more) (name-is q placed.block.name so) ∙ alone)))
      (λ else_so. else_so)

  abbrev pub AreHeld : List Placed → BlockWorld → BlockWorld → Type 0
  AreHeld blocks w x = (q : BlockName) → is_named q blocks ≡ true → IsHeld w x q

  pub each-ends : (blocks : List Placed) (w x v : BlockWorld) → AreReady custom sound root per some rec parts of_rec ends blocks → AreReady custom sound other per some rec parts of_rec ends blocks → AreOwn blocks → AlikeBlocks w x → AreHeld blocks w x
      → each_after custom root per rec parts blocks w ≡ Ok v → each_after custom other per rec parts blocks x ≡ Err Fault → ⊥
  unfolding each_after block_after
  each-ends [] w x v ready other_ready own both held made refused = absurd cc
  each-ends (placed ∷ more) w x v ready other_ready own both held made refused =
      let first = given-ok (block_after custom root per rec parts placed w) (each_after custom root per rec parts more) v made in
      by first.0 first.1 (given-err (block_after custom other per rec parts placed x) (each_after custom other per rec parts more) Fault refused)
      (λ y both_left held_left run. each-ends more first.0 y v ready.1 other_ready.1 own.1 both_left held_left first.2 run)
    where
      agrees : AgreeOn BothBlocks root other (block_after custom root per rec parts placed w) (block_after custom other per rec parts placed x)
      agrees =
          act-agree custom root other per some rec parts of_rec ends placed.block own.0.block (act_on custom rec parts placed.block) w x
          (both.whole.no_gap placed.block.name.rel placed.block.name.fork own.0.block.rel) (both.other_whole.no_gap placed.block.name.rel placed.block.name.fork own.0.block.rel)
          refl ready.0.done (meets (rules_of custom rec) rec parts placed.block.name (managers_are custom sound rec) of_rec ends) both.files

      by : (mid : BlockWorld) → block_after custom root per rec parts placed w ≡ Ok mid
          → (block_after custom other per rec parts placed x ≡ Err Fault) ⊎ ((y : BlockWorld) × (block_after custom other per rec parts placed x ≡ Ok y) × (each_after custom other per rec parts more y ≡ Err Fault))
          → ((y : BlockWorld) → AlikeBlocks mid y → AreHeld more mid y → each_after custom other per rec parts more y ≡ Err Fault → ⊥) → ⊥
      by mid is (inl own_refused) later =
          one_ends placed more own.0 w x mid both.whole both.other_whole both.files ready.0 (held placed.block.name (or_first (is_block placed.block.name placed.block.name) (is_named placed.block.name more) (is-own placed.block.name))) is own_refused
      by mid is (inr next) later =
          let one = one-stepped custom sound root per some rec parts of_rec ends placed more w mid ready.0 own.0 both.whole is in
          let two = one-stepped custom sound other per some rec parts of_rec ends placed more x next.0 other_ready.0 own.0 both.other_whole next.1 in
          later next.0
          (record {
            files = both_ok (block_after custom root per rec parts placed w) (block_after custom other per rec parts placed x) mid next.0 agrees is next.1;
            whole = one.left.whole;
            other_whole = two.left.whole;
          })
          (λ q named main changed.
          let apart = differs q placed more own.0.alone named in
          left-other root per placed.block.name w mid one.page one.skips q one.left main apart
          ∙ held q (or_of (is_block q placed.block.name) (is_named q more) named) main changed
          ∙ sym (left-other other per placed.block.name x next.0 two.page two.skips q two.left main apart))
          next.2
