-- Two clusters that replay one log: each block's run is one of the law of one block.
use Rattle.std.proofs.Common.{◌≡◌, ℕ, Bool, true, false, List, length, map, Option, None, Some, Result, Ok, Err, refl, ap, sym, subst, ◌∙◌}
use Rattle.rmgr_hooks.specs.Custom.{Extension, IsSound}
use Rattle.std.specs.Prelude.{if◌then◌else◌}
use Rattle.std.specs.Option.{option_and_then}
use Rattle.block_effects.specs.Lives.{IsLife}
use Rattle.block_effects.proofs.LifeLemmas.{converge}
use Rattle.block_refs.specs.declared.names.BlockName.{BlockName}
use Rattle.cluster_tree.specs.Contents.{Contents}
use Rattle.cluster_tree.specs.PathValue.{PathValue}
use Rattle.page_layout.specs.declared.refusal.RedoWhy.{RedoWhy}
use Rattle.page_masks.specs.Kind.{is_zero}
use Rattle.page_masks.specs.Law.{view}
use Rattle.record_effects.specs.Managers.{rules_of}
use Rattle.replay_laws.proofs.RuleLemmas.{managers_are}
use Rattle.replay_law.specs.Effect.{Step}
use Rattle.replay_law.specs.Law.{AreAlike, EndAlike}
use Rattle.replay_law.specs.Premises.{HasNoChange, IsState}
use Rattle.replay_law.specs.Replay.{Held, found, replay_block}
use Rattle.replay_law.specs.Stage.{stage}
use Rattle.replay_law.proofs.Anew.{without_change}
use Rattle.replay_world.specs.Records.{records_after}
use Rattle.replay_world.specs.World.{World}
use Rattle.storage_laws.specs.States.{block_in, page_in, page_or_none}
use Rattle.wal_records.specs.Reading.{LogRecord}
use Rattle.replay_laws.specs.Converging.{Begins, FitsBase}
use Rattle.replay_laws.specs.Held.{IsMainBlock, held, is_among}
use Rattle.replay_laws.specs.Log.{AreTaken, split_of, steps}
use Rattle.replay_laws.proofs.LogLemmas.{log-runs}
use Rattle.replay_laws.proofs.PageLemmas.{page-is, state-size}
use Rattle.replay_laws.proofs.WorldLemmas.{OkHeld, holding}

-- what is read off a block is a page of it, or none
page_state : (root : PathValue) (per : ℕ) (name : BlockName) (c : Contents) → IsState (view name.block) (page_in root per name c)
page_state root per name c = by (block_in root per name c) refl
  where
    by_zero : (bytes : List ℕ) (z : Bool) → block_in root per name c ≡ Some bytes → is_zero bytes ≡ z → IsState (view name.block) (if z then None else Some bytes)
    by_zero bytes true there zero = tt
    by_zero bytes false there nonzero = page-is bytes (state-size root per name c bytes there) nonzero

    by : (o : Option (List ℕ)) → block_in root per name c ≡ o → IsState (view name.block) (option_and_then page_or_none o)
    by None there = tt
    by (Some bytes) there = by_zero bytes (is_zero bytes) there refl

module _ (custom : Option Extension) (root : PathValue) (per : ℕ) (name : BlockName) (w : World) (begins : Begins root per w) where
  first_held : found (page_in root per name w.files) ≡ held root per w name
  first_held = ap (holding (page_in root per name w.files)) (sym (ap (is_among name) begins.none))

  -- the run from what replay finds
  pub found-run : (records : List LogRecord) (r : Result Held RedoWhy) → replay_block (view name.block) (held root per w name) (steps custom name records) ≡ r → replay_block (view name.block) (found (page_in root per name w.files)) (steps custom name records) ≡ r
  found-run records r is = ap (λ h. replay_block (view name.block) h (steps custom name records)) first_held ∙ is

-- two states of a block that fit one base end alike
pub fitting-alike : (custom : Option Extension) (sound : IsSound custom) (name : BlockName) (redo : ℕ) (base : Option (List ℕ)) (records : List LogRecord) (root other : PathValue) (per to : ℕ) (w x : World) → IsLife (rules_of custom) name redo base (map split_of records)
    → FitsBase custom root per name base records w → FitsBase custom other to name base records x → EndAlike (view name.block) (page_in root per name w.files) (page_in other to name x.files) (steps custom name records)
fitting-alike custom sound name redo base records root other per to w x life one two =
    converge (rules_of custom) name redo base (page_in root per name w.files) (page_in other to name x.files) (map split_of records) (managers_are custom sound) life
    (page_state root per name w.files) (page_state other to name x.files) one two

-- with runs that end so
alike_runs : (name : BlockName) (log : List Step) (a b : Option (List ℕ)) (r s : Result Held RedoWhy) → EndAlike (view name.block) a b log → replay_block (view name.block) (found a) log ≡ r → replay_block (view name.block) (found b) log ≡ s → AreAlike (view name.block) r s
alike_runs name log a b r s alike one two =
    subst (λ t. AreAlike (view name.block) t s) one (subst (AreAlike (view name.block) (replay_block (view name.block) (found a) log)) two alike)

pub blocks-converge : (custom : Option Extension) (sound : IsSound custom) (name : BlockName) (start redo : ℕ) (base : Option (List ℕ)) (records : List LogRecord) (root other : PathValue) (per to : ℕ) (w v x y : World)
    → IsMainBlock name → AreTaken custom start records → IsLife (rules_of custom) name redo base (map split_of records)
    → Begins root per w → FitsBase custom root per name base records w → Begins other to x → FitsBase custom other to name base records x
    → records_after custom root per records w ≡ Ok v → records_after custom other to records x ≡ Ok y
    → AreAlike (view name.block) (OkHeld (held root per v name)) (OkHeld (held other to y name))
blocks-converge custom sound name start redo base records root other per to w v x y main taken life one fits two also made new =
    alike_runs name (steps custom name records) (page_in root per name w.files) (page_in other to name x.files) (OkHeld (held root per v name)) (OkHeld (held other to y name))
    (fitting-alike custom sound name redo base records root other per to w x life fits also)
    (found-run custom root per name w one records (OkHeld (held root per v name)) (log-runs custom sound root per one.some start records name w v taken main one.whole made))
    (found-run custom other to name x two records (OkHeld (held other to y name)) (log-runs custom sound other to two.some start records name x y taken main two.whole new))

-- a run from a state that fits a base isn't refused
pub fitting-goes : (custom : Option Extension) (sound : IsSound custom) (root : PathValue) (per : ℕ) (name : BlockName) (redo : ℕ) (base : Option (List ℕ)) (records : List LogRecord) (w : World) (why : RedoWhy) → Begins root per w → IsLife (rules_of custom) name redo base (map split_of records) → FitsBase custom root per name base records w
    → replay_block (view name.block) (held root per w name) (steps custom name records) ≡ Err why → ⊥
fitting-goes custom sound root per name redo base records w why begins life fits refused =
    let ends = found-run custom root per name w begins records (Err why) refused in
    alike_runs name (steps custom name records) (page_in root per name w.files) (page_in root per name w.files) (Err why) (Err why) (fitting-alike custom sound name redo base records root root per per w w life fits fits) ends ends

-- ---- a block that no record changes

one_held : (a b : Held) → OkHeld a ≡ OkHeld b → a ≡ b
one_held a b e = cc

pub unchanged-ends : (custom : Option Extension) (sound : IsSound custom) (name : BlockName) (start : ℕ) (records : List LogRecord) (root : PathValue) (per : ℕ) (w v : World) → IsMainBlock name → AreTaken custom start records → HasNoChange (steps custom name records) → Begins root per w
    → records_after custom root per records w ≡ Ok v → held root per v name ≡ found (stage (page_in root per name w.files) (steps custom name records) (length (steps custom name records)))
unchanged-ends custom sound name start records root per w v main taken none begins made =
    one_held (held root per v name) (found (stage (page_in root per name w.files) (steps custom name records) (length (steps custom name records))))
    (sym (found-run custom root per name w begins records (OkHeld (held root per v name)) (log-runs custom sound root per begins.some start records name w v taken main begins.whole made))
    ∙ without_change (view name.block) (page_in root per name w.files) (steps custom name records) none)

-- its run isn't refused either
pub unchanged-goes : (custom : Option Extension) (root : PathValue) (per : ℕ) (name : BlockName) (records : List LogRecord) (w : World) (why : RedoWhy) → Begins root per w → HasNoChange (steps custom name records)
    → replay_block (view name.block) (held root per w name) (steps custom name records) ≡ Err why → ⊥
unchanged-goes custom root per name records w why begins none refused =
    let both : OkHeld (found (stage (page_in root per name w.files) (steps custom name records) (length (steps custom name records)))) ≡ Err why =
    sym (without_change (view name.block) (page_in root per name w.files) (steps custom name records) none) ∙ found-run custom root per name w begins records (Err why) refused in
    absurd cc
