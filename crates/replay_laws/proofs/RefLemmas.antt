-- What a record leaves of its references' blocks, one after another: each block that a reference names is stepped once.
use Rattle.std.proofs.Common.{◌≡◌, ℕ, zero, suc, ◌<◌, ◌&&◌, Bool, true, false, cond, List, [], ◌∷◌, Option, None, Some, Ok, refl, ap, sym, subst, ◌∙◌, true≢false}
use Rattle.rmgr_hooks.specs.Custom.{Extension, IsSound}
use Rattle.std.specs.Prelude.{if◌then◌else◌}
use Rattle.std.specs.List.{slice_get}
use Rattle.std.proofs.lemmas.Bool.{or_parts}
use Rattle.block_effects.specs.Effects.{applied, by_image_or, by_operation, by_placed, by_reference, is_left, reference_to, zeros}
use Rattle.block_effects.specs.Gone.{is_gone, is_main}
use Rattle.block_effects.specs.Rules.{BlockRules}
use Rattle.block_refs.specs.Parts.{ArePartsOf, PartsView}
use Rattle.block_refs.specs.declared.block_ref.ImageRef.{ImageRef}
use Rattle.block_refs.specs.declared.names.BlockName.{BlockName}
use Rattle.block_refs.specs.declared.placed.Placed.{Placed}
use Rattle.block_replay.specs.Blocks.{block_after, each_after}
use Rattle.block_replay.specs.World.{BlockWorld}
use Rattle.cluster_tree.specs.PathValue.{PathValue}
use Rattle.page_masks.specs.Law.{stamped, view}
use Rattle.record_effects.specs.Acts.{act_on, IsDone}
use Rattle.record_effects.specs.Managers.{effect_on, rules_of}
use Rattle.record_effects.proofs.ActLemmas.{acts_done, found_self}
use Rattle.replay_laws.proofs.RuleLemmas.{managers_are}
use Rattle.block_effects.proofs.MeetLemmas.{meets}
use Rattle.replay_law.specs.Effect.{Effect, Nothing, Init, Change, Gone}
use Rattle.replay_law.specs.Replay.{replay_step}
use Rattle.replay_profile.specs.Names.{are_known, is_block, is_named}
use Rattle.storage_laws.proofs.NumberLemmas.{by_test}
use Rattle.wal_records.specs.Reading.{LogRecord}
use Rattle.replay_laws.specs.Held.{IsMainBlock}
use Rattle.replay_laws.specs.Whole.{AreWhole}
use Rattle.replay_laws.proofs.BlockLemmas.{Stepped, stepped}
use Rattle.replay_laws.proofs.NameLemmas.{AreOwn, IsOwn, name-is}
use Rattle.replay_laws.proofs.WorldLemmas.{OkHeld, given-ok, held_in, left-other, left-own, one_world}

-- what is done at a reference doesn't take its block away

abbrev takes_away : Effect → Bool
takes_away Gone = true
takes_away _ = false

no_gone : (doing : Effect) → takes_away doing ≡ false → doing ≡ Gone → ⊥
no_gone doing kept gone = true≢false (sym (ap takes_away gone) ∙ kept)

placed_keeps : (rules : BlockRules) (rec : LogRecord) (parts : PartsView) (placed : Placed) → takes_away (by_placed rules rec parts placed) ≡ false
placed_keeps rules rec parts placed = by_left (is_left placed.block.name.fork)
  where
    by_fresh : (b : Bool) → takes_away (if b then Init (stamped rec.end (rules.operation rec parts placed.block.id) zeros) else Change (stamped rec.end (rules.operation rec parts placed.block.id))) ≡ false
    by_fresh true = refl
    by_fresh false = refl

    by_acts : (b : Bool) → takes_away (if b then by_operation rules rec parts placed.block.id else Nothing) ≡ false
    by_acts true = by_fresh (rules.fresh rec parts placed.block.id)
    by_acts false = refl

    by_image : (o : Option ImageRef) → takes_away (by_image_or rules rec parts placed o) ≡ false
    by_image None = by_acts (is_main placed.block.name.fork && rules.acts rec parts placed.block.id)
    by_image (Some image) = refl

    by_left : (b : Bool) → takes_away (if b then Nothing else by_image_or rules rec parts placed (applied placed.block.image)) ≡ false
    by_left true = refl
    by_left false = by_image (applied placed.block.image)

module _ (custom : Option Extension) (sound : IsSound custom) (root : PathValue) (per : ℕ) (some : 0 < per) (rec : LogRecord) (parts : PartsView) (of_rec : ArePartsOf rec parts) (ends : 0 < rec.end) where
  -- a reference as its record has it
  pub record IsReady (placed : Placed) : Type 0 where
    pub done : IsDone custom rec parts placed.block.id (act_on custom rec parts placed.block) (effect_on custom rec parts placed.block.name)
    pub found : reference_to placed.block.name parts.blocks ≡ Some placed

  abbrev pub AreReady : List Placed → Type 0
  AreReady [] = Unit {0}
  AreReady (placed ∷ more) = IsReady placed × AreReady more

  by_places : (blocks : List Placed) → ((at : ℕ) (placed : Placed) → slice_get blocks at ≡ Some placed → IsReady placed) → AreReady blocks
  by_places [] each = tt
  by_places (placed ∷ more) each = (each zero placed refl, by_places more (λ at other there. each (suc at) other there))

  pub all-ready : are_known parts.blocks ≡ true → AreReady parts.blocks
  all-ready known = by_places parts.blocks (λ at placed there. record { done = acts_done custom rec parts at placed of_rec known there; found = found_self parts.blocks at placed known there })

  pub one-stepped : (placed : Placed) (more : List Placed) (w v : BlockWorld) → IsReady placed → IsOwn placed more → AreWhole root per w.files → block_after custom root per rec parts placed w ≡ Ok v
      → Stepped root per placed.block.name rec.end (effect_on custom rec parts placed.block.name) w v
  unfolding block_after
  one-stepped placed more w v ready own whole made =
      stepped custom root per some rec parts of_rec ends placed.block own.block own.proper w whole (act_on custom rec parts placed.block) v refl ready.done
      (meets (rules_of custom rec) rec parts placed.block.name (managers_are custom sound rec) of_rec ends) made

  -- blocks that no reference names stay

  record AllLeft (blocks : List Placed) (w v : BlockWorld) : Type 0 where
    whole : AreWhole root per v.files
    others : (other : BlockName) → IsMainBlock other → is_named other blocks ≡ false → held_in root per other v ≡ held_in root per other w

  all_left : (blocks : List Placed) (w v : BlockWorld) → AreReady blocks → AreOwn blocks → AreWhole root per w.files → each_after custom root per rec parts blocks w ≡ Ok v → AllLeft blocks w v
  unfolding each_after
  all_left [] w v ready own whole made =
      let same : w ≡ v = one_world w v made in
      subst (λ u. AllLeft [] w u) same (record { whole = whole; others = λ other is free. refl })
  all_left (placed ∷ more) w v ready own whole made =
      let two = given-ok (block_after custom root per rec parts placed w) (each_after custom root per rec parts more) v made in
      let first = one-stepped placed more w two.0 ready.0 own.0 whole two.1 in
      let rest = all_left more two.0 v ready.1 own.1 first.left.whole two.2 in
      record {
        whole = rest.whole;
        others = λ other is free.
            let both = or_parts (is_block other placed.block.name) (is_named other more) free in
            rest.others other is both.1 ∙ left-other root per placed.block.name w two.0 first.page first.skips other first.left is both.0;
      }

  -- and of the others each is stepped once, by the reference that names it

  abbrev Steps : BlockName → List Placed → BlockWorld → BlockWorld → Type 0
  Steps name blocks w v = replay_step (view name.block) (held_in root per name w) rec.end (by_reference (rules_of custom rec) rec parts (reference_to name blocks)) ≡ OkHeld (held_in root per name v)

  own_step : (placed : Placed) (more : List Placed) (w mid v : BlockWorld) → IsReady placed → IsOwn placed more → is_gone rec parts placed.block.name ≡ false → IsMainBlock placed.block.name
      → Stepped root per placed.block.name rec.end (effect_on custom rec parts placed.block.name) w mid → AllLeft more mid v
      → replay_step (view placed.block.name.block) (held_in root per placed.block.name w) rec.end (by_placed (rules_of custom rec) rec parts placed) ≡ OkHeld (held_in root per placed.block.name v)
  own_step placed more w mid v ready own stays is first rest =
      let name = placed.block.name in
      let same : effect_on custom rec parts name ≡ by_placed (rules_of custom rec) rec parts placed = rw (stays, ready.found) refl in
      ap (replay_step (view name.block) (held_in root per name w) rec.end) (sym same)
      ∙ first.step is (no_gone (effect_on custom rec parts name) (ap takes_away same ∙ placed_keeps (rules_of custom rec) rec parts placed))
      ∙ ap OkHeld (sym (left-own root per name w mid first.page first.skips first.left is))
      ∙ ap OkHeld (sym (rest.others name is own.alone))

  steps_once : (name : BlockName) (blocks : List Placed) (w v : BlockWorld) → IsMainBlock name → is_gone rec parts name ≡ false → AreReady blocks → AreOwn blocks → AreWhole root per w.files
      → each_after custom root per rec parts blocks w ≡ Ok v → Steps name blocks w v
  unfolding each_after
  steps_once name [] w v is stays ready own whole made = ap (λ u. OkHeld (held_in root per name u)) (one_world w v made)
  steps_once name (placed ∷ more) w v is stays ready own whole made =
      let two = given-ok (block_after custom root per rec parts placed w) (each_after custom root per rec parts more) v made in
      let first = one-stepped placed more w two.0 ready.0 own.0 whole two.1 in
      by_test (is_block name placed.block.name)
      (λ so.
      let same : name ≡ placed.block.name = name-is name placed.block.name so in
      let found : reference_to name (placed ∷ more) ≡ Some placed = ap (λ b. cond b (Some placed) (reference_to name more)) so in
      ap (λ o. replay_step (view name.block) (held_in root per name w) rec.end (by_reference (rules_of custom rec) rec parts o)) found
      ∙ subst (λ n. replay_step (view n.block) (held_in root per n w) rec.end (by_placed (rules_of custom rec) rec parts placed) ≡ OkHeld (held_in root per n v)) (sym same)
      (own_step placed more w two.0 v ready.0 own.0 (sym (ap (is_gone rec parts) same) ∙ stays) (subst IsMainBlock same is) first (all_left more two.0 v ready.1 own.1 first.left.whole two.2)))
      (λ else_so.
      let later : reference_to name (placed ∷ more) ≡ reference_to name more = ap (λ b. cond b (Some placed) (reference_to name more)) else_so in
      let stood = left-other root per placed.block.name w two.0 first.page first.skips name first.left is else_so in
      ap (λ o. replay_step (view name.block) (held_in root per name w) rec.end (by_reference (rules_of custom rec) rec parts o)) later
      ∙ ap (λ h. replay_step (view name.block) h rec.end (by_reference (rules_of custom rec) rec parts (reference_to name more))) (sym stood)
      ∙ steps_once name more two.0 v is stays ready.1 own.1 first.left.whole two.2)

  pub blocks-whole : (w v : BlockWorld) → are_known parts.blocks ≡ true → AreOwn parts.blocks → AreWhole root per w.files → each_after custom root per rec parts parts.blocks w ≡ Ok v → AreWhole root per v.files
  blocks-whole w v known own whole made = (all_left parts.blocks w v (all-ready known) own whole made).whole

  pub blocks-step : (name : BlockName) (w v : BlockWorld) → IsMainBlock name → is_gone rec parts name ≡ false → are_known parts.blocks ≡ true → AreOwn parts.blocks → AreWhole root per w.files
      → each_after custom root per rec parts parts.blocks w ≡ Ok v → replay_step (view name.block) (held_in root per name w) rec.end (effect_on custom rec parts name) ≡ OkHeld (held_in root per name v)
  blocks-step name w v is stays known own whole made =
      let same : effect_on custom rec parts name ≡ by_reference (rules_of custom rec) rec parts (reference_to name parts.blocks) = rw stays refl in
      ap (replay_step (view name.block) (held_in root per name w) rec.end) same ∙ steps_once name parts.blocks w v is stays (all-ready known) own whole made
