-- What covers a block, and which references name it.
use Rattle.std.proofs.Common.{◌≡◌, ℕ, ◌≤◌, Bool, true, false, eqb, leb, ◌||◌, List, [], ◌∷◌, refl, sym, ap, subst, ◌∙◌, arith}
use Rattle.std.specs.Prelude.{◌↔◌}
use Rattle.std.specs.List.{Any, Contains, flat_map, list_any}
use Rattle.std.proofs.lemmas.Bool.{and_from, and_parts, eq-eqb, eqb-true, le-leb, leb-true, or_left}
use Rattle.std.proofs.lemmas.List.Folds.{Any-from_list_any, list_any-append, list_any-from_Any}
use Rattle.block_refs.specs.Parts.{PartsView}
use Rattle.block_refs.specs.declared.names.BlockName.{BlockName}
use Rattle.block_refs.specs.declared.names.Fork.{Fork}
use Rattle.block_refs.specs.declared.names.Fork.TheVariants.{Main, FreeSpace, Visibility, Init}
use Rattle.block_refs.specs.declared.names.RelName.{RelName}
use Rattle.block_refs.specs.declared.placed.Placed.{Placed}
use Rattle.touched_blocks.specs.Layouts.{References, main_block}
use Rattle.touched_blocks.specs.Named.{covers, is_rel, whole_rel}
use Rattle.touched_blocks.specs.Touched.{named_by_block, named_by_references, named_in}
use Rattle.touched_blocks.specs.declared.named.Named.{Named}
use Rattle.touched_blocks.specs.declared.named.Named.TheVariants.{BlocksFrom, AllOf}
use Rattle.touched_blocks.proofs.MarkLemmas.{same_rel}

-- ---- what covers a block

same_again : (rel : RelName) → is_rel rel rel ≡ true
same_again rel =
    and_from _ _ (eq-eqb rel.space rel.space refl) (and_from _ _ (eq-eqb rel.database rel.database refl) (eq-eqb rel.relation rel.relation refl))

only : (a : Bool) → (a || false) ≡ true → a ≡ true
only true e = refl
only false e = e

pub whole_found : (rel named : RelName) (block : ℕ) → list_any (covers rel block) (whole_rel named) ≡ true → named ≡ rel
whole_found rel named block e = same_rel named rel (and_parts _ _ (only _ e)).0

pub whole_again : (rel named : RelName) (block : ℕ) → named ≡ rel → list_any (covers rel block) (whole_rel named) ≡ true
whole_again rel named block e = rw e (or_left _ _ (and_from _ _ (same_again rel) (le-leb 0 block (omega arith))))

pub from_found : (rel named : RelName) (block from : ℕ) → list_any (covers rel block) (BlocksFrom named from ∷ []) ≡ true → (named ≡ rel) × (from ≤ block)
from_found rel named block from e =
    let a = and_parts (is_rel named rel) (leb from block) (only _ e) in
    (same_rel named rel a.0, leb-true _ _ a.1)

pub from_again : (rel named : RelName) (block from : ℕ) → named ≡ rel → from ≤ block → list_any (covers rel block) (BlocksFrom named from ∷ []) ≡ true
from_again rel named block from e le = rw e (or_left _ _ (and_from _ _ (same_again rel) (le-leb from block le)))

pub all_found : (rel : RelName) (block database : ℕ) → list_any (covers rel block) (AllOf database ∷ []) ≡ true → database ≡ rel.database
all_found rel block database e = eqb-true _ _ (only _ e)

pub all_again : (rel : RelName) (block database : ℕ) → database ≡ rel.database → list_any (covers rel block) (AllOf database ∷ []) ≡ true
all_again rel block database e = or_left _ _ (eq-eqb _ _ e)

-- ---- lists

-- some of what each of some things names
pub any_flat : {X : Type 0} (test : Named → Bool) (f : X → List Named) (xs : List X) → list_any test (flat_map f xs) ≡ list_any (λ x. list_any test (f x)) xs
any_flat test f [] = refl
any_flat test f (x ∷ xs) = list_any-append test (f x) (flat_map f xs) ∙ ap (λ b. list_any test (f x) || b) (any_flat test f xs)

any_weaker : {X : Type 0} (P Q : X → Type 0) (xs : List X) → ((x : X) → P x → Q x) → Any P xs → Any Q xs
any_weaker P Q xs h any = (any.0, any.1, any.2, any.3, h any.1 any.4)

-- a test that is a fact
pub any_view : {X : Type 0} (test : X → Bool) (P : X → Type 0) (xs : List X) → ((x : X) → (test x ≡ true) ↔ P x) → (list_any test xs ≡ true) ↔ Any P xs
any_view test P xs h = (
  λ e. any_weaker (λ x. test x ≡ true) P xs (λ x. (h x).0) (Any-from_list_any test xs e),
  λ a. list_any-from_Any test xs (any_weaker P (λ x. test x ≡ true) xs (λ x. (h x).1) a),
)

flat_view : {X : Type 0} (test : Named → Bool) (f : X → List Named) (P : X → Type 0) (xs : List X) → ((x : X) → (list_any test (f x) ≡ true) ↔ P x)
    → (list_any test (flat_map f xs) ≡ true) ↔ Any P xs
flat_view test f P xs h =
    let v = any_view (λ x. list_any test (f x)) P xs h in
    (λ e. v.0 (sym (any_flat test f xs) ∙ e), λ a. any_flat test f xs ∙ v.1 a)

-- an element is itself
contained : {X : Type 0} (x : X) (xs : List X) → Any (λ y. y ≡ x) xs → Contains xs x
contained x xs a = subst (Contains xs) a.4 (a.0, a.2, a.3)

containing : {X : Type 0} (x : X) (xs : List X) → Contains xs x → Any (λ y. y ≡ x) xs
containing x xs c = (c.0, x, c.1, c.2, refl)

-- ---- references

named_as : RelName → Fork → ℕ → BlockName
named_as rel fork block = record { rel = rel; fork = fork; block = block }

main_found : (rel : RelName) (block : ℕ) (fork : Fork) (named : RelName) (at : ℕ) → list_any (covers rel block) (named_in fork named at) ≡ true → (fork ≡ Main) × (named ≡ rel) × (at ≡ block)
main_found rel block Main named at e =
    let a = and_parts (is_rel named rel) (eqb at block) (only _ e) in
    (refl, same_rel named rel a.0, eqb-true _ _ a.1)
main_found rel block FreeSpace named at e = absurd cc
main_found rel block Visibility named at e = absurd cc
main_found rel block Init named at e = absurd cc

name_view : (rel : RelName) (block : ℕ) (name : BlockName) → (list_any (covers rel block) (named_by_block name) ≡ true) ↔ (name ≡ main_block rel block)
unfolding named_as
name_view rel block name = (
  λ e.
      let m = main_found rel block name.fork name.rel name.block e in
      ap (λ r. named_as r name.fork name.block) m.1 ∙ ap (λ f. named_as rel f name.block) m.0 ∙ ap (λ b. named_as rel Main b) m.2,
  λ e. rw e (or_left _ _ (and_from _ _ (same_again rel) (eq-eqb block block refl))),
)

pub references_view : (rel : RelName) (block : ℕ) (parts : PartsView) → (list_any (covers rel block) (named_by_references parts.blocks) ≡ true) ↔ References parts rel block
references_view rel block parts =
    flat_view (covers rel block) (λ (p : Placed). named_by_block p.block.name) (λ p. p.block.name ≡ main_block rel block) parts.blocks (λ p. name_view rel block p.block.name)

pub dropped_view : (rel : RelName) (block : ℕ) (rels : List RelName) → (list_any (covers rel block) (flat_map whole_rel rels) ≡ true) ↔ Contains rels rel
dropped_view rel block rels =
    let v = flat_view (covers rel block) whole_rel (λ r. r ≡ rel) rels (λ r. (whole_found rel r block, whole_again rel r block)) in
    (λ e. contained rel rels (v.0 e), λ c. v.1 (containing rel rels c))
