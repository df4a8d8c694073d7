-- Operations by cases: nothing is done, the record's bytes don't hold what is needed, one of two.
use Rattle.std.proofs.Common.{◌≡◌, ℕ, List, Bool, true, false, Option, Some, None, Err, length, refl, subst}
use Rattle.std.specs.Prelude.{if◌then◌else◌}
use Rattle.page_layout.specs.declared.refusal.RedoWhy.TheVariants.{Layout}
use Rattle.page_masks.specs.Law.{Redone, view, IsOperation}
use Rattle.redo_steps.specs.Redo.{laid_out}
use Rattle.btree_pages.proofs.ItemsLemmas.{Done}
use Rattle.btree_laws.proofs.Steps.{done_same}

module _ (b : ℕ) where
  abbrev pub Is : (List ℕ → Redone) → Type 0
  Is go = IsOperation (view b) go

  -- nothing is done
  pub left_alone : Is (λ p. Done p)
  left_alone = record { page = λ p q size e. subst (λ x. length x ≡ 8192) (done_same p q e) size; mask = λ p q size_p size_q sound same. same.mask }

  -- the record's bytes don't hold what is needed
  pub short : Is (λ p. Err Layout)
  short = record { page = λ p q size e. cc e; mask = λ p q size_p size_q sound same. refl }

  pub laid : {A : Type 0} (o : Option A) (go : A → List ℕ → Redone) → ((a : A) → Is (go a)) → Is (λ p. laid_out o (λ a. go a p))
  laid (Some a) go each = each a
  laid None go each = short

  pub pick : (c : Bool) (f g : List ℕ → Redone) → Is f → Is g → Is (λ p. if c then f p else g p)
  pick true f g is_f is_g = is_f
  pick false f g is_f is_g = is_g
