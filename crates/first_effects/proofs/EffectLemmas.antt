-- A record behind a log: what it does to each block is what its references do, and what it takes away.
use Rattle.std.proofs.Common.{◌≡◌, refl, ◌∙◌, sym, ap, subst, ◌&&◌, ◌||◌, ℕ, zero, suc, Bool, true, false, not, List, [], ◌∷◌, ◌++◌, Option, None, Some, Result, Ok, Err, OnErr}
use Rattle.std.specs.BTreeMap.{is_at}
use Rattle.std.specs.List.{list_any, slice_get}
use Rattle.std.specs.Option.{option_map_or}
use Rattle.std.specs.Prelude.{if◌then◌else◌, is_some}
use Rattle.std.proofs.lemmas.Bool.{and_parts}
use Rattle.block_refs.specs.Order.{compared}
use Rattle.block_refs.specs.Parts.{ArePartsOf, PartsView}
use Rattle.block_refs.specs.declared.block_ref.BlockRef.{BlockRef}
use Rattle.block_refs.specs.declared.names.BlockName.{BlockName}
use Rattle.block_refs.specs.declared.placed.Placed.{Placed}
use Rattle.replay_law.specs.Effect.{Effect, Step, At}
use Rattle.replay_law.specs.Effect as effect
use Rattle.replay_profile.specs.Names.{are_known, is_block, is_known_block, is_named}
use Rattle.wal_records.specs.Reading.{LogRecord}
use Rattle.block_effects.specs.Effects.{applied, effect_by, is_left, reference_to}
use Rattle.block_effects.specs.Gone.{is_gone, is_main}
use Rattle.block_effects.specs.Lives.{Split, steps_of}
use Rattle.block_effects.specs.Rules.{BlockRules}
use Rattle.record_effects.specs.Acts.{act_at, act_on, is_map_page, IsDone}
use Rattle.record_effects.specs.Managers.{effect_on, rules_of}
use Rattle.record_effects.specs.declared.acts.Act.{Act}
use Rattle.record_effects.specs.declared.acts.Act.TheVariants.{Nothing, Image, Make, Change, MapPage, Gone}
use Rattle.record_effects.proofs.ActLemmas.{acts_done}
use Rattle.rmgr_hooks.specs.Custom.{Extension}
use Rattle.first_effects.specs.First.{IsLeastOf, IsOneOf, is_changed, is_changed_first, is_met}
use Rattle.first_effects.specs.Gathered.{FirstView, Follows, is_known, with_record}
use Rattle.first_effects.specs.References.{Gathers, changed_by, is_change, is_changed_anew, is_effect, met_by}
use Rattle.first_effects.specs.Taken.{Takes, is_taken}
use Rattle.first_effects.proofs.PlaceLemmas.{or_assoc}
use Rattle.first_effects.proofs.NameLemmas.{same_block}
use Rattle.first_effects.proofs.LeastLemmas.{least_one, least_same}

pub on_err : {A E : Type 0} (r : Result A E) (P : Type 0) → P → OnErr r P
on_err (Ok x) P p = tt
on_err (Err e) P p = p

-- effects

has : Effect → Bool
has effect.Nothing = false
has _ = true

turns : Effect → Bool
turns (effect.Change change) = true
turns _ = false

met_behind : (log : List Step) (end : ℕ) (e : Effect) → is_met (log ++ At end e ∷ []) ≡ (is_met log || has e)
unfolding has
met_behind [] end effect.Nothing = refl
met_behind [] end (effect.FullPageImage page) = refl
met_behind [] end (effect.Init made) = refl
met_behind [] end (effect.Change change) = refl
met_behind [] end effect.Gone = refl
met_behind (At at effect.Nothing ∷ log) end e = met_behind log end e
met_behind (At at (effect.FullPageImage page) ∷ log) end e = refl
met_behind (At at (effect.Init made) ∷ log) end e = refl
met_behind (At at (effect.Change change) ∷ log) end e = refl
met_behind (At at effect.Gone ∷ log) end e = refl

changed_behind : (log : List Step) (end : ℕ) (e : Effect) → is_changed_first (log ++ At end e ∷ []) ≡ (is_changed_first log || (turns e && not (is_met log)))
unfolding turns
changed_behind [] end effect.Nothing = refl
changed_behind [] end (effect.FullPageImage page) = refl
changed_behind [] end (effect.Init made) = refl
changed_behind [] end (effect.Change change) = refl
changed_behind [] end effect.Gone = refl
changed_behind (At at effect.Nothing ∷ log) end e = changed_behind log end e
changed_behind (At at (effect.FullPageImage page) ∷ log) end e = sym (and_false (turns e))
  where
    and_false : (b : Bool) → (b && false) ≡ false
    and_false true = refl
    and_false false = refl
changed_behind (At at (effect.Init made) ∷ log) end e = sym (and_false (turns e))
  where
    and_false : (b : Bool) → (b && false) ≡ false
    and_false true = refl
    and_false false = refl
changed_behind (At at (effect.Change change) ∷ log) end e = refl
changed_behind (At at effect.Gone ∷ log) end e = sym (and_false (turns e))
  where
    and_false : (b : Bool) → (b && false) ≡ false
    and_false true = refl
    and_false false = refl

steps_behind : (rules : LogRecord → BlockRules) (name : BlockName) (log : List Split) (split : Split)
    → steps_of rules name (log ++ split ∷ []) ≡ steps_of rules name log ++ At split.rec.end (effect_by (rules split.rec) split.rec split.parts name) ∷ []
steps_behind rules name [] split = refl
steps_behind rules name (s ∷ log) split = ap (λ steps. At s.rec.end (effect_by (rules s.rec) s.rec s.parts name) ∷ steps) (steps_behind rules name log split)

-- references

none_more : (p f : Placed → Bool) (xs : List Placed) → list_any p xs ≡ false → list_any (λ x. p x && f x) xs ≡ false
none_more p f [] e = refl
none_more p f (x ∷ xs) e = by_case (p x) (none_more p f xs) e
  where
    by_case : (b : Bool) → (list_any p xs ≡ false → list_any (λ x. p x && f x) xs ≡ false) → (b || list_any p xs) ≡ false → ((b && f x) || list_any (λ x. p x && f x) xs) ≡ false
    by_case true h e = cc e
    by_case false h e = h e

-- what one of the references to a block does is what the only one does
one_does : (f : BlockRef → Bool) (name : BlockName) (xs : List Placed) → are_known xs ≡ true
    → list_any (λ placed. is_block name placed.block.name && f placed.block) xs ≡ option_map_or (λ (placed : Placed). f placed.block) (reference_to name xs) false
one_does f name [] known = refl
one_does f name (x ∷ xs) known = by_case (is_block name x.block.name) refl (one_does f name xs t.1)
  where
    t : ((is_known_block x.block.name && not (is_named x.block.name xs)) ≡ true) × (are_known xs ≡ true)
    t = and_parts (is_known_block x.block.name && not (is_named x.block.name xs)) (are_known xs) known

    not_true : (b : Bool) → not b ≡ true → b ≡ false
    not_true true h = cc h
    not_true false h = refl

    once : is_named x.block.name xs ≡ false
    once = not_true (is_named x.block.name xs) (and_parts (is_known_block x.block.name) (not (is_named x.block.name xs)) t.0).1

    or_false : (b : Bool) → (b || false) ≡ b
    or_false true = refl
    or_false false = refl

    by_case : (b : Bool) → is_block name x.block.name ≡ b
        → list_any (λ placed. is_block name placed.block.name && f placed.block) xs ≡ option_map_or (λ (placed : Placed). f placed.block) (reference_to name xs) false
        → list_any (λ placed. is_block name placed.block.name && f placed.block) (x ∷ xs) ≡ option_map_or (λ (placed : Placed). f placed.block) (reference_to name (x ∷ xs)) false
    by_case true e later =
        let same : name ≡ x.block.name = same_block name x.block.name e in
        let rest : list_any (λ placed. is_block name placed.block.name && f placed.block) xs ≡ false =
        none_more (λ placed. is_block name placed.block.name) (λ placed. f placed.block) xs (ap (λ n. is_named n xs) same ∙ once) in
        rw (e, rest) (or_false (f x.block))
    by_case false e later = rw e later

-- where it stands
place_of : (name : BlockName) (xs : List Placed) (placed : Placed) → reference_to name xs ≡ Some placed → ((at : ℕ) × (slice_get xs at ≡ Some placed)) × (is_block name placed.block.name ≡ true)
place_of name [] placed e = cc e
place_of name (x ∷ xs) placed e = by_case (is_block name x.block.name) refl (place_of name xs placed) e
  where
    by_case : (b : Bool) → is_block name x.block.name ≡ b → (reference_to name xs ≡ Some placed → ((at : ℕ) × (slice_get xs at ≡ Some placed)) × (is_block name placed.block.name ≡ true))
        → (if b then Some x else reference_to name xs) ≡ Some placed → ((at : ℕ) × (slice_get (x ∷ xs) at ≡ Some placed)) × (is_block name placed.block.name ≡ true)
    by_case true is later e = let same : x ≡ placed = cc e in ((zero, ap Some same), subst (λ (p : Placed). is_block name p.block.name ≡ true) same is)
    by_case false is later e = let l = later e in ((suc l.0.0, l.0.1), l.1)

-- acts

goes : Act → Bool
goes Gone = true
goes _ = false

stays : (custom : Option Extension) (rec : LogRecord) (parts : PartsView) (block : BlockRef) → goes (act_at custom rec parts block) ≡ false
unfolding goes
stays custom rec parts block =
    by_case (is_left block.name.fork) (is_some (applied block.image)) (is_main block.name.fork && (rules_of custom rec).acts rec parts block.id) ((rules_of custom rec).fresh rec parts block.id) (is_map_page rec block)
  where
    by_case : (a b c d e : Bool) → goes (if a then Nothing else if b then Image else if c then (if d then Make else Change) else if e then MapPage else Nothing) ≡ false
    by_case true b c d e = refl
    by_case false true c d e = refl
    by_case false false true true e = refl
    by_case false false true false e = refl
    by_case false false false d true = refl
    by_case false false false d false = refl

done_means : (custom : Option Extension) (rec : LogRecord) (parts : PartsView) (id : ℕ) (act : Act) (e : Effect) → goes act ≡ false → IsDone custom rec parts id act e → (has e ≡ is_effect act) × (turns e ≡ is_change act)
unfolding goes has turns
done_means custom rec parts id Nothing e stay done = (ap has done, ap turns done)
done_means custom rec parts id Image e stay done = (ap has done.2, ap turns done.2)
done_means custom rec parts id Make e stay done = (ap has done, ap turns done)
done_means custom rec parts id Change e stay done = (ap has done, ap turns done)
done_means custom rec parts id MapPage e stay done = (ap has done, ap turns done)
done_means custom rec parts id Gone e stay done = cc stay

module _ (custom : Option Extension) (rec : LogRecord) (parts : PartsView) (of_rec : ArePartsOf rec parts) (known : are_known parts.blocks ≡ true) (name : BlockName) where
  abbrev Means : Effect → Bool → Type 0
  Means e gone = (has e ≡ (option_map_or (λ (placed : Placed). is_effect (act_on custom rec parts placed.block)) (reference_to name parts.blocks) false || gone))
      × (turns e ≡ option_map_or (λ (placed : Placed). is_change (act_on custom rec parts placed.block)) (reference_to name parts.blocks) false)

  at_none : (gone : Bool) → is_gone rec parts name ≡ gone → reference_to name parts.blocks ≡ None → Means (effect_on custom rec parts name) gone
  unfolding has turns
  at_none true e found = rw (e, found) (refl, refl)
  at_none false e found = rw (e, found) (refl, refl)

  at_some : (gone : Bool) → is_gone rec parts name ≡ gone → (placed : Placed) → reference_to name parts.blocks ≡ Some placed → Means (effect_on custom rec parts name) gone
  unfolding has turns
  at_some true e placed found =
      let at = place_of name parts.blocks placed found in
      let same : name ≡ placed.block.name = same_block name placed.block.name at.1 in
      let there : is_gone rec parts placed.block.name ≡ true = ap (λ n. is_gone rec parts n) (sym same) ∙ e in
      rw (e, found) (rw there (refl, refl))
  at_some false e placed found =
      let at = place_of name parts.blocks placed found in
      let same : name ≡ placed.block.name = same_block name placed.block.name at.1 in
      let there : is_gone rec parts placed.block.name ≡ false = ap (λ n. is_gone rec parts n) (sym same) ∙ e in
      let done : IsDone custom rec parts placed.block.id (act_on custom rec parts placed.block) (effect_on custom rec parts placed.block.name) = acts_done custom rec parts at.0.0 placed of_rec known at.0.1 in
      let act : act_on custom rec parts placed.block ≡ act_at custom rec parts placed.block = rw there refl in
      let stay : goes (act_on custom rec parts placed.block) ≡ false = ap goes act ∙ stays custom rec parts placed.block in
      let means = done_means custom rec parts placed.block.id (act_on custom rec parts placed.block) (effect_on custom rec parts placed.block.name) stay done in
      let one : effect_on custom rec parts name ≡ effect_on custom rec parts placed.block.name = ap (λ n. effect_on custom rec parts n) same in (
        ap has one ∙ means.0 ∙ or_false (is_effect (act_on custom rec parts placed.block)) ∙ ap (λ o. option_map_or (λ (placed : Placed). is_effect (act_on custom rec parts placed.block)) o false || false) (sym found),
        ap turns one ∙ means.1 ∙ ap (λ o. option_map_or (λ (placed : Placed). is_change (act_on custom rec parts placed.block)) o false) (sym found),
      )
    where
      or_false : (b : Bool) → b ≡ (b || false)
      or_false true = refl
      or_false false = refl

  at_any : (o : Option Placed) → reference_to name parts.blocks ≡ o → Means (effect_on custom rec parts name) (is_gone rec parts name)
  at_any None found = at_none (is_gone rec parts name) refl found
  at_any (Some placed) found = at_some (is_gone rec parts name) refl placed found

  -- the record has an effect on a block where a reference has, or where it takes it away
  has_by : has (effect_on custom rec parts name) ≡ (met_by custom rec parts parts.blocks name || is_gone rec parts name)
  has_by = (at_any (reference_to name parts.blocks) refl).0 ∙ ap (λ b. b || is_gone rec parts name) (sym (one_does (λ block. is_effect (act_on custom rec parts block)) name parts.blocks known))

  -- and changes it where a reference does
  turns_by : turns (effect_on custom rec parts name) ≡ changed_by custom rec parts parts.blocks name
  turns_by = (at_any (reference_to name parts.blocks) refl).1 ∙ sym (one_does (λ block. is_change (act_on custom rec parts block)) name parts.blocks known)

-- the log with the record behind it

module _ (custom : Option Extension) (rec : LogRecord) (parts : PartsView) (of_rec : ArePartsOf rec parts) (known : are_known parts.blocks ≡ true) (log : List Split) (before : FirstView) (follows : Follows custom log before) where
  steps : BlockName → List Step
  steps name = steps_of (rules_of custom) name log

  behind : (name : BlockName) → steps_of (rules_of custom) name (with_record log rec parts) ≡ steps_of (rules_of custom) name log ++ At rec.end (effect_on custom rec parts name) ∷ []
  behind name = steps_behind (rules_of custom) name log (record { rec = rec; parts = parts })

  met_then : (name : BlockName) → is_main name.fork ≡ true → is_met (steps_of (rules_of custom) name (with_record log rec parts)) ≡ ((is_known name before || met_by custom rec parts parts.blocks name) || is_gone rec parts name)
  met_then name main =
      ap is_met (behind name) ∙ met_behind (steps_of (rules_of custom) name log) rec.end (effect_on custom rec parts name)
      ∙ ap (λ b. is_met (steps_of (rules_of custom) name log) || b) (has_by custom rec parts of_rec known name)
      ∙ ap (λ b. b || (met_by custom rec parts parts.blocks name || is_gone rec parts name)) (sym (follows.known name main))
      ∙ or_assoc (is_known name before) (met_by custom rec parts parts.blocks name) (is_gone rec parts name)

  pub changed_then : (name : BlockName) → (is_changed custom log name || is_changed_anew before (changed_by custom rec parts parts.blocks) name) ≡ is_changed custom (with_record log rec parts) name
  changed_then name = by_case (is_main name.fork) refl
    where
      by_case : (b : Bool) → is_main name.fork ≡ b → (is_changed custom log name || is_changed_anew before (changed_by custom rec parts parts.blocks) name) ≡ is_changed custom (with_record log rec parts) name
      by_case false e = rw e refl
      by_case true e =
          rw e
          (ap (λ k. is_changed_first (steps_of (rules_of custom) name log) || (changed_by custom rec parts parts.blocks name && not k)) (follows.known name e)
          ∙ ap (λ c. is_changed_first (steps_of (rules_of custom) name log) || (c && not (is_met (steps_of (rules_of custom) name log)))) (sym (turns_by custom rec parts of_rec known name))
          ∙ sym (changed_behind (steps_of (rules_of custom) name log) rec.end (effect_on custom rec parts name))
          ∙ sym (ap is_changed_first (behind name)))

  -- after an error
  pub one_then : (least : Option BlockName) → IsOneOf (λ name. is_changed custom log name || is_changed_anew before (changed_by custom rec parts parts.blocks) name) least → IsOneOf (is_changed custom (with_record log rec parts)) least
  one_then None one = tt
  one_then (Some name) one = sym (changed_then name) ∙ one

  module _ (mid : FirstView) (gathers : Gathers (met_by custom rec parts parts.blocks) (changed_by custom rec parts parts.blocks) before mid) where
    pub one_mid : IsOneOf (is_changed custom (with_record log rec parts)) mid.least
    one_mid = least_one (λ name. is_changed custom log name || is_changed_anew before (changed_by custom rec parts parts.blocks) name) (is_changed custom (with_record log rec parts)) mid.least
        (λ name is. sym (changed_then name) ∙ is) (gathers.least (is_changed custom log) follows.least)

    pub follows_then : (after : FirstView) → after.met ≡ mid.met → after.least ≡ mid.least → Takes (is_gone rec parts) mid.taken after.taken → Follows custom (with_record log rec parts) after
    follows_then after met least takes = record {
      known = λ name main.
          known_after name main ∙ ap (λ b. b || is_gone rec parts name) (gathers.known name main) ∙ sym (met_then name main);
      least = subst (IsLeastOf (is_changed custom (with_record log rec parts))) (sym least)
          (least_same (λ name. is_changed custom log name || is_changed_anew before (changed_by custom rec parts parts.blocks) name) (is_changed custom (with_record log rec parts)) mid.least changed_then
          (gathers.least (is_changed custom log) follows.least));
    }
      where
        known_after : (name : BlockName) → is_main name.fork ≡ true → is_known name after ≡ (is_known name mid || is_gone rec parts name)
        known_after name main =
            rw (met, takes name main) (or_assoc (list_any (is_at (compared name)) mid.met) (is_taken name mid.taken) (is_gone rec parts name))
