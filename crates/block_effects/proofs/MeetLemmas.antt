-- Each effect of a record of a manager that keeps what it owes is one as the law of one block asks it.
use Rattle.std.proofs.Common.{◌≡◌, ℕ, ◌<◌, ◌&&◌, Bool, true, false, cond, List, [], ◌∷◌, length, Option, Some, None, Ok, refl, sym, ◌∙◌, ap, subst, arith}
use Rattle.std.specs.Prelude.{find}
use Rattle.std.specs.List.{position_or_len}
use Rattle.std.proofs.lemmas.Bool.Decides.{nat_tests}
use Rattle.std.proofs.lemmas.List.{length-replicate}
use Rattle.std.proofs.lemmas.List.Folds.{find_at}
use Rattle.block_refs.specs.Bytes.{block_with, filled, stored_image}
use Rattle.block_refs.specs.Parts.{ArePartsOf, PartsView}
use Rattle.block_refs.specs.declared.block_ref.ImageRef.{ImageRef}
use Rattle.block_refs.specs.declared.names.BlockName.{BlockName}
use Rattle.block_refs.specs.declared.placed.Placed.{Placed}
use Rattle.block_refs.proofs.PartsLemmas.{has_parts}
use Rattle.block_refs.proofs.PlaceLemmas.{page_size}
use Rattle.block_refs.proofs.RiseLemmas.{id_names}
use Rattle.page_masks.specs.Kind.{is_zero}
use Rattle.page_masks.specs.Law.{view, IsOperation}
use Rattle.replay_law.specs.Effect.{Effect, FullPageImage}
use Rattle.replay_law.specs.Premises.{IsEffect}
use Rattle.replay_law.proofs.StampedEffects.{change_is, image_is, init_is}
use Rattle.replay_profile.specs.Names.{is_block}
use Rattle.wal_records.specs.Reading.{LogRecord}
use Rattle.block_effects.specs.Effects.{applied, by_image_or, by_operation, by_placed, by_reference, by_rules, effect_by, is_left, put_in_place, reference_to, zeros}
use Rattle.block_effects.specs.Gone.{is_gone, is_main}
use Rattle.block_effects.specs.Rules.{AreRules, BlockRules, no_rules}

-- what is found passes the test
found_passes : {A : Type 0} (p : A → Bool) (xs : List A) (x : A) → find p xs ≡ Some x → p x ≡ true
found_passes p [] x e = cc e
found_passes p (y ∷ ys) x e = by_case (p y) refl (λ h. found_passes p ys x h) e
  where
    by_case : (b : Bool) → p y ≡ b → (find p ys ≡ Some x → p x ≡ true) → cond b (Some y) (find p ys) ≡ Some x → p x ≡ true
    by_case true is later h = let same : y ≡ x = cc h in ap p (sym same) ∙ is
    by_case false is later h = later h

block_of : (a b : BlockName) → is_block a b ≡ true → b.block ≡ a.block
block_of a b e = grind (arith, nat_tests, e)

zeros_size : length zeros ≡ 8192
zeros_size = length-replicate {A = ℕ} 8192 0

module _ (rules : BlockRules) (are : AreRules rules) (rec : LogRecord) (parts : PartsView) (of_rec : ArePartsOf rec parts) (some : 0 < rec.end) where
  module _ (placed : Placed) (named : block_with placed.block.id parts.blocks ≡ Some placed) where
    abbrev block : ℕ
    block = placed.block.name.block

    abbrev Meets : Effect → Type 0
    Meets effect = IsEffect (view block) rec.end effect

    operation_is : IsOperation (view block) (rules.operation rec parts placed.block.id)
    operation_is = are.mask rec parts placed of_rec named

    operation_meets : (b : Bool) → rules.fresh rec parts placed.block.id ≡ b → Meets (by_operation rules rec parts placed.block.id)
    operation_meets true e = rw e (init_is block rec.end (rules.operation rec parts placed.block.id) zeros some (λ q made. operation_is.page zeros q zeros_size made))
    operation_meets false e = rw e (change_is block rec.end (rules.operation rec parts placed.block.id) some operation_is)

    rules_meet : (b : Bool) → (is_main placed.block.name.fork && rules.acts rec parts placed.block.id) ≡ b → Meets (by_rules rules rec parts placed)
    rules_meet true e = rw e (operation_meets (rules.fresh rec parts placed.block.id) refl)
    rules_meet false e = rw e tt

    put_meets : (page : List ℕ) → length page ≡ 8192 → (b : Bool) → is_zero page ≡ b → Meets (FullPageImage (put_in_place rec.end page))
    put_meets page size true e = rw e tt
    put_meets page size false e = rw e (image_is block rec.end page some size)

    image_size_is : (image : ImageRef) → placed.block.image ≡ Some image → length (filled image (stored_image rec.body parts placed)) ≡ 8192
    image_size_is image is = rw is (rw (named, is) at (page_size rec.body parts placed.block.id of_rec))

    image_meets : (image : Option ImageRef) → placed.block.image ≡ image → Meets (by_image_or rules rec parts placed (applied image))
    image_meets None is = rules_meet (is_main placed.block.name.fork && rules.acts rec parts placed.block.id) refl
    image_meets (Some image) is = by_case image.apply refl
      where
        by_case : (b : Bool) → image.apply ≡ b → Meets (by_image_or rules rec parts placed (applied (Some image)))
        by_case true e = rw e (put_meets (filled image (stored_image rec.body parts placed)) (image_size_is image is) (is_zero (filled image (stored_image rec.body parts placed))) refl)
        by_case false e = rw e (rules_meet (is_main placed.block.name.fork && rules.acts rec parts placed.block.id) refl)

    placed_meets : (b : Bool) → is_left placed.block.name.fork ≡ b → Meets (by_placed rules rec parts placed)
    placed_meets true e = rw e tt
    placed_meets false e = rw e (image_meets placed.block.image refl)

  -- the reference to a block is that of its id
  found_named : (name : BlockName) (placed : Placed) → reference_to name parts.blocks ≡ Some placed → block_with placed.block.id parts.blocks ≡ Some placed
  found_named name placed e =
      id_names rec.body parts (position_or_len (λ other. is_block name other.block.name) parts.blocks) placed (has_parts rec.body parts of_rec)
      (sym (find_at (λ other. is_block name other.block.name) parts.blocks) ∙ e)

  reference_meets : (name : BlockName) (o : Option Placed) → reference_to name parts.blocks ≡ o → IsEffect (view name.block) rec.end (by_reference rules rec parts o)
  reference_meets name None e = tt
  reference_meets name (Some placed) e =
      let same : placed.block.name.block ≡ name.block = block_of name placed.block.name (found_passes (λ other. is_block name other.block.name) parts.blocks placed e) in
      subst (λ n. IsEffect (view n) rec.end (by_placed rules rec parts placed)) same (placed_meets placed (found_named name placed e) (is_left placed.block.name.fork) refl)

  effect_meets : (name : BlockName) → IsEffect (view name.block) rec.end (effect_by rules rec parts name)
  effect_meets name = by_case (is_gone rec parts name) refl
    where
      by_case : (b : Bool) → is_gone rec parts name ≡ b → IsEffect (view name.block) rec.end (effect_by rules rec parts name)
      by_case true e = rw e tt
      by_case false e = rw e (reference_meets name (reference_to name parts.blocks) refl)

pub meets : (rules : BlockRules) (rec : LogRecord) (parts : PartsView) (name : BlockName) → AreRules rules → ArePartsOf rec parts → 0 < rec.end → IsEffect (view name.block) rec.end (effect_by rules rec parts name)
meets rules rec parts name are of_rec some = effect_meets rules are rec parts of_rec some name

-- a page that stays is an operation
nothing_is : (block : ℕ) → IsOperation (view block) (λ p. Ok p)
nothing_is block = record {
  page = λ p q size e. let same : p ≡ q = cc e in ap length (sym same) ∙ size;
  mask = λ p q size_p size_q sound same. same.mask;
}

pub no_rules_are : AreRules no_rules
no_rules_are = record {
  mask = λ rec parts placed of_rec named. nothing_is placed.block.name.block;
  fresh = λ rec parts id p q e. cc e;
}
