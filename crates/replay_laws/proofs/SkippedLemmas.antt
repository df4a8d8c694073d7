-- Whether a block is among those whose change was skipped, once one is added or some are taken out.
use Rattle.std.proofs.Common.{◌≡◌, ℕ, ◌==◌, ◌&&◌, ◌||◌, Bool, true, false, cond, not, List, [], ◌∷◌, filter, refl, ap, sym, ◌∙◌}
use Rattle.std.specs.BTreeSet.{insert_key}
use Rattle.std.specs.FinMap.{nat_cmp-IsAntisymmetric, slice_cmp-IsAntisymmetric}
use Rattle.std.specs.List.{list_any}
use Rattle.std.specs.Ordering.{match_ordering}
use Rattle.std.specs.declared.cmp.Ordering.TheVariants.{Less, Equal, Greater}
use Rattle.std.proofs.lemmas.Bool.{and_right}
use Rattle.block_refs.specs.Names.{fork_number}
use Rattle.block_refs.specs.Order.{block_numbers, compared}
use Rattle.block_refs.specs.Parts.{PartsView}
use Rattle.block_refs.specs.declared.names.BlockName.{BlockName}
use Rattle.block_refs.proofs.OrderLemmas.{compared_by_numbers}
use Rattle.block_effects.specs.Gone.{is_gone}
use Rattle.block_replay.specs.World.{with_name, without_gone}
use Rattle.replay_profile.specs.Names.{is_block}
use Rattle.wal_records.specs.Reading.{LogRecord}
use Rattle.replay_laws.specs.Held.{is_among}
use Rattle.replay_laws.proofs.NameLemmas.{name-is}

or_assoc : (a b c : Bool) → ((a || b) || c) ≡ (a || (b || c))
or_assoc true b c = refl
or_assoc false b c = refl

or_swap : (a b : Bool) → (a || b) ≡ (b || a)
or_swap true true = refl
or_swap true false = refl
or_swap false true = refl
or_swap false false = refl

or_again : (a b : Bool) → (a || b) ≡ ((a || b) || a)
or_again true b = refl
or_again false true = refl
or_again false false = refl

-- names that compare as equal are one
equal_names : (a b : BlockName) → compared a b ≡ Equal → block_numbers a ≡ block_numbers b
equal_names a b e = slice_cmp-IsAntisymmetric nat_cmp-IsAntisymmetric _ _ (sym (compared_by_numbers a b) ∙ e)

equal_tests : (name a b : BlockName) → compared a b ≡ Equal → is_block name a ≡ is_block name b
equal_tests name a b e = ap (λ (ns : List ℕ). by_numbers ns) (equal_names a b e)
  where
    by_numbers : List ℕ → Bool
    by_numbers (s ∷ d ∷ r ∷ f ∷ n ∷ rest) = (name.rel.space == s && (name.rel.database == d && name.rel.relation == r)) && (fork_number name.fork == f && name.block == n)
    by_numbers _ = false

pub among-with : (name other : BlockName) (skipped : List BlockName) → is_among name (with_name other skipped) ≡ (is_among name skipped || is_block name other)
among-with name other [] = or_swap (is_block name other) false
among-with name other (x ∷ skipped) =
    elim (compared other x) as (λ r. compared other x ≡ r → list_any (is_block name) (match_ordering r (other ∷ x ∷ skipped) (x ∷ skipped) (x ∷ insert_key compared skipped other)) ≡ ((is_block name x || list_any (is_block name) skipped) || is_block name other)) [
      | Less ↦ λ _. or_swap (is_block name other) _
      | Equal ↦ λ same. or_again (is_block name x) (is_among name skipped) ∙ ap (λ b. (is_block name x || is_among name skipped) || b) (sym (equal_tests name other x same))
      | Greater ↦ λ _. ap (λ b. is_block name x || b) (among-with name other skipped) ∙ sym (or_assoc (is_block name x) _ _)
    ] refl

-- of names with a test those that pass
kept_any : (p t : BlockName → Bool) (name : BlockName) → ((x : BlockName) → p x ≡ true → t x ≡ t name) → (xs : List BlockName) → list_any p (filter t xs) ≡ (list_any p xs && t name)
kept_any p t name of_name [] = refl
kept_any p t name of_name (x ∷ xs) =
    elim (t x) as (λ b. t x ≡ b → list_any p (cond b (x ∷ filter t xs) (filter t xs)) ≡ ((p x || list_any p xs) && t name)) [
      | true ↦ λ so. ap (λ b. p x || b) (kept_any p t name of_name xs) ∙ both (p x) refl so
      | false ↦ λ off. kept_any p t name of_name xs ∙ none (p x) refl off
    ] refl
  where
    both : (b : Bool) → p x ≡ b → t x ≡ true → (b || (list_any p xs && t name)) ≡ ((b || list_any p xs) && t name)
    both true is so = sym (sym (of_name x is) ∙ so)
    both false is so = refl

    none : (b : Bool) → p x ≡ b → t x ≡ false → (list_any p xs && t name) ≡ ((b || list_any p xs) && t name)
    none true is off = ap (λ c. list_any p xs && c) (sym (of_name x is) ∙ off) ∙ and_right (list_any p xs) false refl ∙ sym (sym (of_name x is) ∙ off)
    none false is off = refl

pub among-without : (rec : LogRecord) (parts : PartsView) (name : BlockName) (skipped : List BlockName) → is_among name (without_gone rec parts skipped) ≡ (is_among name skipped && not (is_gone rec parts name))
among-without rec parts name skipped = kept_any (is_block name) (λ x. not (is_gone rec parts x)) name (λ x is. ap (λ n. not (is_gone rec parts n)) (sym (name-is name x is))) skipped
