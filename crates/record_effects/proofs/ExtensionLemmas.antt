-- A manager of an extension joins by its rules.
use Rattle.std.proofs.Common.{◌≡◌, ℕ, List, Option, Some, None, refl}
use Rattle.block_refs.specs.Bytes.{block_bytes, main_bytes}
use Rattle.page_masks.specs.Law.{IsOperation, Redone, view}
use Rattle.page_layout.specs.declared.refusal.RedoWhy.TheVariants.{Layout}
use Rattle.redo_steps.specs.Redo.{laid_out}
use Rattle.rmgr_hooks.specs.Refusals.{refusals_respect}
use Rattle.rmgr_hooks.specs.Custom.{Extension, OwesPages}
use Rattle.block_effects.specs.Rules.{AreRules}
use Rattle.record_effects.specs.Managers.{extension_rules}

same_on : (block : Option (List ℕ)) (f g : List ℕ → Redone) → ((bytes : List ℕ) → f bytes ≡ g bytes) → laid_out block f ≡ laid_out block g
same_on None f g same = refl
same_on (Some bytes) f g same = same bytes

operation_on : (n : ℕ) (block : Option (List ℕ)) (f : List ℕ → List ℕ → Redone) → ((bytes : List ℕ) → IsOperation (view n) (f bytes)) → IsOperation (view n) (λ p. laid_out block (λ bytes. f bytes p))
operation_on n None f is = refusals_respect n Layout
operation_on n (Some bytes) f is = is bytes

pub extension_keeps : (e : Extension) → OwesPages e → AreRules (extension_rules e)
extension_keeps e owes = record {
  mask = λ rec parts placed of_rec there. operation_on placed.block.name.block (block_bytes rec.body parts placed.block.id) (λ bytes p. e.change rec.header.info placed.block.id (main_bytes rec.body parts) bytes p) (owes.respects placed.block.name.block rec.header.info placed.block.id (main_bytes rec.body parts));
  fresh = λ rec parts id p q anew. same_on (block_bytes rec.body parts id) _ _ (λ bytes. owes.makes_anew rec.header.info id (main_bytes rec.body parts) bytes p q anew);
}
