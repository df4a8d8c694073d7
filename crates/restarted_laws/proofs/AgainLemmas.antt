-- Records over two clusters of the same blocks, but for those that the log makes anew.
use Rattle.std.proofs.Common.{◌≡◌, ◌⊎◌, ℕ, ◌<◌, Bool, false, List, [], ◌∷◌, Option, None, Some, Result, Ok, Err, inl, inr, refl, sym, ap, ap₂, ◌∙◌}
use Rattle.rmgr_hooks.specs.Custom.{Extension, IsSound}
use Rattle.block_refs.specs.Parts.{PartsView}
use Rattle.block_refs.specs.declared.names.BlockName.{BlockName}
use Rattle.block_replay.specs.Blocks.{blocks_after}
use Rattle.block_replay.specs.World.{BlockWorld}
use Rattle.block_replay.specs.declared.faults.RecordFault.{RecordFault}
use Rattle.block_replay.specs.declared.faults.RecordFault.TheVariants.{RedoFailed, File}
use Rattle.cluster_laws.specs.Agree.{AgreeOn}
use Rattle.cluster_laws.specs.Alike.{AlikeWorlds}
use Rattle.cluster_laws.proofs.RecordLemmas.{record-agree}
use Rattle.cluster_tree.specs.Causes.{given, unless}
use Rattle.cluster_tree.specs.PathValue.{PathValue}
use Rattle.page_layout.specs.declared.refusal.RedoWhy.{RedoWhy}
use Rattle.page_masks.specs.Law.{PageView, view}
use Rattle.record_effects.specs.Managers.{effect_on}
use Rattle.replay_law.specs.Effect.{Effect, Nothing, FullPageImage, Init, Change, Gone, Step, At}
use Rattle.replay_law.specs.Replay.{Held, replay_step}
use Rattle.replay_law.specs.Stage.{BeginsAnew}
use Rattle.replay_laws.specs.Held.{IsMainBlock, held, is_among}
use Rattle.replay_laws.specs.Log.{AreTaken, IsTaken, steps}
use Rattle.replay_laws.proofs.LogLemmas.{first-taken, parts_in}
use Rattle.replay_laws.proofs.RecordLemmas.{IsRead, record-steps, taken-read}
use Rattle.replay_laws.proofs.RefLemmas.{all-ready}
use Rattle.replay_laws.proofs.RefusalLemmas.{others-free}
use Rattle.replay_laws.proofs.RefusedLemmas.{given-err}
use Rattle.replay_laws.proofs.WorldLemmas.{OkHeld, given-ok, holding, not-refused}
use Rattle.replay_world.specs.Records.{others_after, record_after, records_after, short_refusal}
use Rattle.replay_world.specs.World.{World, blocks_of}
use Rattle.storage_laws.specs.States.{page_in}
use Rattle.wal_base.specs.declared.lsn.Lsn.{Lsn}
use Rattle.wal_records.specs.Reading.{LogRecord}
use Rattle.restarted_laws.specs.Again.{EndTheSame, IsAgain}
use Rattle.restarted_laws.proofs.ReferenceLemmas.{each-ends}
use Rattle.restarted_laws.proofs.TurnedLemmas.{worlds-turned}

-- ---- one block: where its page is the same, or the log makes it anew, so it is behind a record

one_held : (a b : Held) → OkHeld a ≡ OkHeld b → a ≡ b
one_held a b e = cc

abbrev IsOn : (p q : Option (List ℕ)) → List Step → Type 0
IsOn p q log = (p ≡ q) ⊎ BeginsAnew log

abbrev GoesOn : Held → Held → List Step → Type 0
GoesOn h k log = IsOn h.page k.page log × (h.skipped ≡ k.skipped)

left_same : (a b h k : Held) (log : List Step) → OkHeld a ≡ OkHeld h → OkHeld b ≡ OkHeld k → a ≡ b → GoesOn h k log
left_same a b h k log one two same =
    let both : h ≡ k = sym (one_held a h one) ∙ same ∙ one_held b k two in
    (inl (ap (λ (x : Held). x.page) both), ap (λ (x : Held). x.skipped) both)

goes_on : (v : PageView) (end : ℕ) (done : Effect) (log : List Step) (p q : Option (List ℕ)) (s t : Bool) (h k : Held) → IsOn p q (At end done ∷ log) → s ≡ t
    → replay_step v (holding p s) end done ≡ OkHeld h → replay_step v (holding q t) end done ≡ OkHeld k → GoesOn h k log
goes_on v end done log p q s t h k (inl same) skips one two =
    let both : h ≡ k = one_held h k (sym one ∙ ap₂ (λ x y. replay_step v (holding x y) end done) same skips ∙ two) in
    (inl (ap (λ (x : Held). x.page) both), ap (λ (x : Held). x.skipped) both)
goes_on v end Nothing log p q s t h k (inr anew) skips one two =
    (inr anew, sym (ap (λ (x : Held). x.skipped) (one_held (holding p s) h one)) ∙ skips ∙ ap (λ (x : Held). x.skipped) (one_held (holding q t) k two))
goes_on v end (FullPageImage page) log p q s t h k (inr anew) skips one two = left_same (holding page s) (holding page t) h k log one two (ap (holding page) skips)
goes_on v end (Init (Ok page)) log p q s t h k (inr anew) skips one two = left_same (holding (Some page) s) (holding (Some page) t) h k log one two (ap (holding (Some page)) skips)
goes_on v end (Init (Err why)) log p q s t h k (inr anew) skips one two = absurd cc
goes_on v end (Change change) log p q s t h k (inr anew) skips one two = absurd anew
goes_on v end Gone log p q s t h k (inr anew) skips one two = left_same (holding None false) (holding None false) h k log one two refl

-- a change is made of the same page
changed_same : (end : ℕ) (what : Effect) (change : List ℕ → Result (List ℕ) RedoWhy) (log : List Step) (p q : Option (List ℕ)) → what ≡ Change change → IsOn p q (At end what ∷ log) → p ≡ q
changed_same end what change log p q is (inl same) = same
changed_same end what change log p q is (inr anew) = absurd (rw is at anew)

abbrev OkWorld : World → Result World RecordFault
OkWorld w = Ok w

module _ (custom : Option Extension) (sound : IsSound custom) (root other : PathValue) (per : ℕ) (some : 0 < per) where
  -- two clusters before the records of a log that are still to come
  pub record AreBefore (records : List LogRecord) (w : World) (x : World) : Type 0 where
    pub alike : AlikeWorlds root other per w x
    pub blocks : (name : BlockName) → IsMainBlock name → IsAgain custom root other per records w x name
    pub skips : (name : BlockName) → IsMainBlock name → is_among name w.skipped ≡ is_among name x.skipped

  module _ (rec : LogRecord) (records : List LogRecord) (w x : World) (is : IsTaken custom rec (parts_in rec)) (before : AreBefore (rec ∷ records) w x) where
    abbrev parts : PartsView
    parts = parts_in rec

    of : IsRead rec parts
    of = taken-read custom rec parts is

    next : (v y : World) → record_after custom root per rec parts w ≡ Ok v → record_after custom other per rec parts x ≡ Ok y → AlikeWorlds root other per v y → AreBefore records v y
    next v y made other_made alike = record {
      alike = alike;
      blocks = λ name main. (block name main).0;
      skips = λ name main. (block name main).1;
    }
      where
        block : (name : BlockName) → IsMainBlock name → GoesOn (held root per v name) (held other per y name) (steps custom name records)
        block name main =
            goes_on (view name.block) rec.end (effect_on custom rec parts name) (steps custom name records)
            (page_in root per name w.files) (page_in other per name x.files) (is_among name w.skipped) (is_among name x.skipped) (held root per v name) (held other per y name)
            (before.blocks name main) (before.skips name main)
            (record-steps custom sound root per rec parts w v some is before.alike.whole made name main)
            (record-steps custom sound other per rec parts x y some is before.alike.other_whole other_made name main)

    -- the record isn't refused at a block in the second cluster alone
    refused : (v : World) → record_after custom root per rec parts w ≡ Ok v → (at : Lsn) (name : BlockName) (why : RedoWhy) → record_after custom other per rec parts x ≡ Err (RedoFailed at name why) → ⊥
    unfolding record_after
    refused v made at name why failed =
        let run = not-refused (short_refusal rec parts) (given (blocks_after custom root per rec parts (blocks_of w)) (others_after root per rec parts w)) v made in
        let first = given-ok (blocks_after custom root per rec parts (blocks_of w)) (others_after root per rec parts w) v run.1 in
        by first.0 first.1
        (given-err (blocks_after custom other per rec parts (blocks_of x)) (others_after other per rec parts x) (RedoFailed at name why)
        (sym (ap (λ o. unless o (given (blocks_after custom other per rec parts (blocks_of x)) (others_after other per rec parts x))) run.0) ∙ failed))
      where
        by : (mid : BlockWorld) → blocks_after custom root per rec parts (blocks_of w) ≡ Ok mid
            → (blocks_after custom other per rec parts (blocks_of x) ≡ Err (RedoFailed at name why))
            ⊎ ((b : BlockWorld) × (blocks_after custom other per rec parts (blocks_of x) ≡ Ok b) × (others_after other per rec parts x b ≡ Err (RedoFailed at name why))) → ⊥
        by mid one (inl two) =
            each-ends custom sound root other per some rec parts of.of_rec is.ends at name why parts.blocks (blocks_of w) (blocks_of x) mid
            (all-ready custom sound root per some rec parts of.of_rec is.ends of.known) (all-ready custom sound other per some rec parts of.of_rec is.ends of.known) of.own
            (record { files = before.alike.files; whole = before.alike.whole; other_whole = before.alike.other_whole })
            (λ q named main changed.
            ap₂ holding (changed_same rec.end (effect_on custom rec parts q) changed.0 (steps custom q records) (page_in root per q w.files) (page_in other per q x.files) changed.1 (before.blocks q main)) (before.skips q main))
            one two
        by mid one (inr two) = others-free custom sound other per some at name why rec parts x is before.alike.other_whole two.0 two.2

-- ---- a record, and a log

module _ (custom : Option Extension) (sound : IsSound custom) (root other : PathValue) (per : ℕ) (some : 0 < per) where
  turned : (records : List LogRecord) (w x : World) → AreBefore custom sound root other per some records w x → AreBefore custom sound other root per some records x w
  turned records w x before = record {
    alike = worlds-turned root other per w x before.alike;
    blocks = λ name main. by name (before.blocks name main);
    skips = λ name main. sym (before.skips name main);
  }
    where
      by : (name : BlockName) → IsAgain custom root other per records w x name → IsAgain custom other root per records x w name
      by name (inl same) = inl (sym same)
      by name (inr anew) = inr anew

  page_now : (p q : Option (List ℕ)) → IsOn p q [] → p ≡ q
  page_now p q (inl same) = same
  page_now p q (inr anew) = absurd anew

  pub log-ends : (start : ℕ) (records : List LogRecord) (w x : World) → AreTaken custom start records → AreBefore custom sound root other per some records w x
      → EndTheSame root other per (records_after custom root per records w) (records_after custom other per records x)
  unfolding records_after
  log-ends start [] w x taken before = record {
    alike = before.alike;
    pages = λ name main. page_now (page_in root per name w.files) (page_in other per name x.files) (before.blocks name main);
    skips = before.skips;
  }
  log-ends start (rec ∷ records) w x taken before =
      let two = first-taken custom start rec records taken in
      by two.0 (record_after custom root per rec (parts_in rec) w) (record_after custom other per rec (parts_in rec) x) refl refl
      (record-agree custom sound root other per some rec (parts_in rec) two.0 w x before.alike)
      (λ v y left. log-ends rec.end records v y two.1 left)
    where
      by : IsTaken custom rec (parts_in rec) → (r s : Result World RecordFault) → record_after custom root per rec (parts_in rec) w ≡ r → record_after custom other per rec (parts_in rec) x ≡ s
          → AgreeOn (AlikeWorlds root other per) root other r s
          → ((v y : World) → AreBefore custom sound root other per some records v y → EndTheSame root other per (records_after custom root per records v) (records_after custom other per records y))
          → EndTheSame root other per (given r (records_after custom root per records)) (given s (records_after custom other per records))
      by is (Ok v) (Ok y) one two agree later = later v y (next custom sound root other per some rec records w x is before v y one two agree)
      by is (Ok v) (Err (RedoFailed at name why)) one two agree later = absurd (refused custom sound root other per some rec records w x is before v one at name why two)
      by is (Ok v) (Err (File f)) one two agree later = absurd agree
      by is (Err (RedoFailed at name why)) (Ok y) one two agree later =
          absurd (refused custom sound other root per some rec records x w is (turned (rec ∷ records) w x before) y two at name why one)
      by is (Err (RedoFailed at name why)) (Err f) one two agree later = tt
      by is (Err (File e)) (Ok y) one two agree later = absurd agree
      by is (Err (File e)) (Err f) one two agree later = tt
