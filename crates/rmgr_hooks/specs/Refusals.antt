-- A manager that refuses every page.
use Rattle.std.specs.Prelude.{ℕ, Err}
use Rattle.std.proofs.Common.{refl, rules}
use Rattle.page_layout.specs.declared.refusal.RedoWhy.{RedoWhy}
use Rattle.page_masks.specs.Law.{IsOperation, view}

-- it respects the masks
pub refusals_respect : (n : ℕ) (why : RedoWhy) → IsOperation (view n) (λ p. Err why)
refusals_respect n why = record {
  page = λ p q size refused. search rules;
  mask = λ p q sp sq sound same. refl;
}
