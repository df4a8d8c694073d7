-- What is done at a reference is the effect on its block.
use Rattle.std.proofs.Common.{◌≡◌, ℕ, zero, suc, ◌&&◌, ◌||◌, Bool, true, false, not, List, [], ◌∷◌, Option, Some, None, refl, sym, ◌∙◌, ap, subst, arith}
use Rattle.std.specs.Prelude.{is_some, if◌then◌else◌}
use Rattle.std.specs.List.{list_any, slice_get}
use Rattle.std.proofs.lemmas.Bool.Decides.{nat_tests}
use Rattle.block_refs.specs.Bytes.{block_with, filled, page_of, stored_image}
use Rattle.block_refs.specs.Parts.{ArePartsOf, PartsView}
use Rattle.block_refs.specs.declared.block_ref.ImageRef.{ImageRef}
use Rattle.block_refs.specs.declared.names.BlockName.{BlockName}
use Rattle.block_refs.specs.declared.placed.Placed.{Placed}
use Rattle.block_refs.proofs.PartsLemmas.{has_parts}
use Rattle.block_refs.proofs.RiseLemmas.{id_names}
use Rattle.replay_law.specs.Effect.{Effect}
use Rattle.replay_profile.specs.Names.{are_known, is_block, is_known_block, is_named}
use Rattle.wal_records.specs.Reading.{LogRecord}
use Rattle.block_effects.specs.Effects.{applied, by_image_or, by_placed, by_rules, is_left, reference_to}
use Rattle.block_effects.specs.Gone.{is_gone, is_main}
use Rattle.record_effects.specs.Acts.{act_at, act_by_rules, act_on, is_map_page, IsDone}
use Rattle.record_effects.specs.Managers.{effect_on, rules_of}
use Rattle.record_effects.specs.declared.acts.Act.{Act}
use Rattle.record_effects.specs.declared.acts.Act.TheVariants.{Image}
use Rattle.rmgr_hooks.specs.Custom.{Extension}

both : (a b : Bool) → (a && b) ≡ true → (a ≡ true) × (b ≡ true)
both true b e = (refl, e)
both false b e = cc e

is_block_refl : (a : BlockName) → is_block a a ≡ true
is_block_refl a = grind (arith, nat_tests)

is_block_sym : (a b : BlockName) → is_block a b ≡ true → is_block b a ≡ true
is_block_sym a b e = grind (arith, nat_tests, e)

none_at : {A : Type 0} (p : A → Bool) (xs : List A) (at : ℕ) (x : A) → list_any p xs ≡ false → slice_get xs at ≡ Some x → p x ≡ false
none_at p [] at x none e = cc e
none_at p (y ∷ ys) at x none e = by_case (p y) at refl (λ i miss h. none_at p ys i x miss h) none e
  where
    by_case : (b : Bool) (i : ℕ) → p y ≡ b → ((k : ℕ) → list_any p ys ≡ false → slice_get ys k ≡ Some x → p x ≡ false)
        → (b || list_any p ys) ≡ false → slice_get (y ∷ ys) i ≡ Some x → p x ≡ false
    by_case true i is later miss h = cc miss
    by_case false zero is later miss h = let same : y ≡ x = cc h in ap p (sym same) ∙ is
    by_case false (suc i) is later miss h = later i miss h

-- a block that one reference names is found by its name
pub found_self : (blocks : List Placed) (at : ℕ) (placed : Placed) → are_known blocks ≡ true → slice_get blocks at ≡ Some placed → reference_to placed.block.name blocks ≡ Some placed
found_self [] at placed known e = cc e
found_self (x ∷ xs) zero placed known e =
    let same : x ≡ placed = cc e in
    subst (λ p. reference_to p.block.name (x ∷ xs) ≡ Some p) same (rw (is_block_refl x.block.name) refl)
found_self (x ∷ xs) (suc at) placed known e =
    let t = both (is_known_block x.block.name && not (is_named x.block.name xs)) (are_known xs) known in
    let u = both (is_known_block x.block.name) (not (is_named x.block.name xs)) t.0 in
    let alone : is_named x.block.name xs ≡ false = not_true (is_named x.block.name xs) u.1 in
    let other : is_block x.block.name placed.block.name ≡ false = none_at (λ p. is_block x.block.name p.block.name) xs at placed alone e in
    rw (other_way (is_block placed.block.name x.block.name) refl other) (found_self xs at placed t.1 e)
  where
    not_true : (b : Bool) → not b ≡ true → b ≡ false
    not_true true h = cc h
    not_true false h = refl

    other_way : (b : Bool) → is_block placed.block.name x.block.name ≡ b → is_block x.block.name placed.block.name ≡ false → is_block placed.block.name x.block.name ≡ false
    other_way true h differ = cc (is_block_sym placed.block.name x.block.name h, differ)
    other_way false h differ = h

module _ (custom : Option Extension) (rec : LogRecord) (parts : PartsView) (placed : Placed) (named : block_with placed.block.id parts.blocks ≡ Some placed) where
  abbrev Done : Act → Effect → Type 0
  Done act done = IsDone custom rec parts placed.block.id act done

  by_fresh : (b : Bool) → (rules_of custom rec).fresh rec parts placed.block.id ≡ b → (is_main placed.block.name.fork && (rules_of custom rec).acts rec parts placed.block.id) ≡ true
      → Done (act_by_rules custom rec parts placed.block) (by_rules (rules_of custom rec) rec parts placed)
  by_fresh true e acts = rw (acts, e) refl
  by_fresh false e acts = rw (acts, e) refl

  by_map : (b : Bool) → is_map_page rec placed.block ≡ b → (is_main placed.block.name.fork && (rules_of custom rec).acts rec parts placed.block.id) ≡ false
      → Done (act_by_rules custom rec parts placed.block) (by_rules (rules_of custom rec) rec parts placed)
  by_map true e acts = rw (acts, e) refl
  by_map false e acts = rw (acts, e) refl

  rules_done : (b : Bool) → (is_main placed.block.name.fork && (rules_of custom rec).acts rec parts placed.block.id) ≡ b → Done (act_by_rules custom rec parts placed.block) (by_rules (rules_of custom rec) rec parts placed)
  rules_done true e = by_fresh ((rules_of custom rec).fresh rec parts placed.block.id) refl e
  rules_done false e = by_map (is_map_page rec placed.block) refl e

  page_is : (image : ImageRef) → placed.block.image ≡ Some image → page_of rec.body parts placed.block.id ≡ Some (filled image (stored_image rec.body parts placed))
  page_is image is = rw (named, is) refl

  image_done : (image : Option ImageRef) → placed.block.image ≡ image
      → Done (if is_some (applied image) then Image else act_by_rules custom rec parts placed.block) (by_image_or (rules_of custom rec) rec parts placed (applied image))
  image_done None is = rules_done (is_main placed.block.name.fork && (rules_of custom rec).acts rec parts placed.block.id) refl
  image_done (Some image) is = by_case image.apply refl
    where
      by_case : (b : Bool) → image.apply ≡ b → Done (if is_some (applied (Some image)) then Image else act_by_rules custom rec parts placed.block) (by_image_or (rules_of custom rec) rec parts placed (applied (Some image)))
      by_case true e = rw e (filled image (stored_image rec.body parts placed), page_is image is, refl)
      by_case false e = rw e (rules_done (is_main placed.block.name.fork && (rules_of custom rec).acts rec parts placed.block.id) refl)

  placed_done : (b : Bool) → is_left placed.block.name.fork ≡ b → Done (act_at custom rec parts placed.block) (by_placed (rules_of custom rec) rec parts placed)
  placed_done true e = rw e refl
  placed_done false e = rw e (image_done placed.block.image refl)

  done : (b : Bool) → is_gone rec parts placed.block.name ≡ b → reference_to placed.block.name parts.blocks ≡ Some placed → Done (act_on custom rec parts placed.block) (effect_on custom rec parts placed.block.name)
  done true e found = rw e refl
  done false e found = rw (e, found) (placed_done (is_left placed.block.name.fork) refl)

pub acts_done : (custom : Option Extension) (rec : LogRecord) (parts : PartsView) (at : ℕ) (placed : Placed) → ArePartsOf rec parts → are_known parts.blocks ≡ true → slice_get parts.blocks at ≡ Some placed
    → IsDone custom rec parts placed.block.id (act_on custom rec parts placed.block) (effect_on custom rec parts placed.block.name)
acts_done custom rec parts at placed of_rec known there =
    done custom rec parts placed (id_names rec.body parts at placed (has_parts rec.body parts of_rec) there) (is_gone rec parts placed.block.name) refl (found_self parts.blocks at placed known there)
