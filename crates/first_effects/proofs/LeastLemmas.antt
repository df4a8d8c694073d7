-- The least of some blocks.
use Rattle.std.proofs.Common.{◌≡◌, ◌≢◌, refl, ◌∙◌, sym, ap, subst, ◌||◌, Bool, true, false, Option, None, Some, ◌⊎◌, inl, inr}
use Rattle.std.proofs.lemmas.Bool.{or_cases, or_left, or_right}
use Rattle.std.proofs.lemmas.Cmp.{tied_itself}
use Rattle.std.specs.Prelude.{if◌then◌else◌}
use Rattle.std.specs.Ordering.{is_lt}
use Rattle.std.specs.Cmp.{IsTotalOrder}
use Rattle.std.specs.declared.cmp.Ordering.{Ordering}
use Rattle.std.specs.declared.cmp.Ordering.TheVariants.{Less, Equal, Greater}
use Rattle.block_refs.specs.Order.{compared}
use Rattle.block_refs.specs.contracts.names.BlockNameOrd.TheImpl.Laws as block_laws
use Rattle.block_refs.specs.declared.names.BlockName.{BlockName}
use Rattle.replay_profile.specs.Names.{is_block}
use Rattle.first_effects.specs.First.{IsLeastOf, IsOneOf}
use Rattle.first_effects.specs.References.{lesser}
use Rattle.first_effects.proofs.NameLemmas.{block_refl, same_block}

total : IsTotalOrder compared
total = block_laws.total-law

-- of the same blocks
pub least_same : (p q : BlockName → Bool) (o : Option BlockName) → ((n : BlockName) → p n ≡ q n) → IsLeastOf p o → IsLeastOf q o
least_same p q None same least = λ n. sym (same n) ∙ least n
least_same p q (Some m) same least = (sym (same m) ∙ least.0, λ n is. least.1 n (same n ∙ is))

-- the least is one
pub least_one : (p q : BlockName → Bool) (o : Option BlockName) → ((n : BlockName) → p n ≡ true → q n ≡ true) → IsLeastOf p o → IsOneOf q o
least_one p q None more least = tt
least_one p q (Some m) more least = more m least.0

not_below_itself : (n : BlockName) → compared n n ≢ Less
not_below_itself n e = let tied : compared n n ≡ Equal = tied_itself total n in cc

module _ (p : BlockName → Bool) (name : BlockName) where
  -- a block more
  pub least_more : (o : Option BlockName) → IsLeastOf p o → IsLeastOf (λ n. p n || is_block n name) (Some (lesser o name))
  least_more None least = (or_right (p name) (is_block name name) (block_refl name), λ n is. first n (or_cases (p n) (is_block n name) is))
    where
      first : (n : BlockName) → (p n ≡ true) ⊎ (is_block n name ≡ true) → compared n name ≢ Less
      first n (inl is) = cc (least n, is)
      first n (inr is) = subst (λ x. compared x name ≢ Less) (sym (same_block n name is)) (not_below_itself name)
  least_more (Some m) least = by_case (compared name m) refl
    where
      below : compared name m ≡ Less → (n : BlockName) → (p n ≡ true) ⊎ (is_block n name ≡ true) → compared n name ≢ Less
      below less n (inl is) = λ e. least.1 n is (total.trans n name m e less)
      below less n (inr is) = subst (λ x. compared x name ≢ Less) (sym (same_block n name is)) (not_below_itself name)

      above : compared name m ≢ Less → (n : BlockName) → (p n ≡ true) ⊎ (is_block n name ≡ true) → compared n m ≢ Less
      above differs n (inl is) = least.1 n is
      above differs n (inr is) = subst (λ x. compared x m ≢ Less) (sym (same_block n name is)) differs

      keeps : (o : Ordering) → compared name m ≡ o → is_lt o ≡ false → compared name m ≢ Less
      keeps o is low e = let same : o ≡ Less = sym is ∙ e in cc (ap is_lt same, low)

      by_case : (o : Ordering) → compared name m ≡ o → IsLeastOf (λ n. p n || is_block n name) (Some (if is_lt (compared name m) then name else m))
      by_case Less e = rw e (or_right (p name) (is_block name name) (block_refl name), λ n is. below e n (or_cases (p n) (is_block n name) is))
      by_case Equal e = rw e (or_left (p m) (is_block m name) least.0, λ n is. above (keeps Equal e refl) n (or_cases (p n) (is_block n name) is))
      by_case Greater e = rw e (or_left (p m) (is_block m name) least.0, λ n is. above (keeps Greater e refl) n (or_cases (p n) (is_block n name) is))
