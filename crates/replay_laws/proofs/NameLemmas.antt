-- Names of blocks that replay takes: those of two references are of two blocks.
use Rattle.std.proofs.Common.{◌≡◌, ◌≢◌, ℕ, ◌-◌, ◌<◌, ◌^◌, ◌==◌, ◌&&◌, ◌||◌, Bool, true, false, not, List, [], ◌∷◌, inl, inr, refl, ap, sym, ◌∙◌, arith}
use Rattle.std.proofs.lemmas.Bool.{not-true}
use Rattle.std.proofs.lemmas.Bool.Decides.{nat_tests}
use Rattle.block_refs.specs.Names.{fork_number}
use Rattle.block_refs.specs.declared.names.BlockName.{BlockName}
use Rattle.block_refs.specs.declared.names.RelName.{RelName}
use Rattle.block_refs.specs.declared.placed.Placed.{Placed}
use Rattle.replay_profile.specs.Names.{are_known, is_block, is_known_block, is_known_place, is_known_rel, is_named, is_rel}
use Rattle.storage_laws.specs.FileLaws.{IsProper}
use Rattle.storage_laws.specs.Names.{IsBlock, same_block, same_files}
use Rattle.storage_laws.proofs.FileLemmas.{fork-is}
use Rattle.storage_laws.proofs.NumberLemmas.{and-parts, by_test, eq-is}
use Rattle.replay_laws.proofs.ReadLemmas.{AreNumbered}

-- a relation that replay knows is one as servers name it

differ : (a b : ℕ) → (a == b) ≡ false → a ≢ b
differ a b h e = grind (arith, nat_tests, h, e)

or_left : (a b : Bool) → a ≡ false → (a || b) ≡ true → b ≡ true
or_left a b off h = sym (ap (λ x. x || b) off) ∙ h

pub rel-proper : (rel : RelName) → is_known_rel rel ≡ true → IsProper rel
rel-proper rel known = by_test (rel.space == 1664 && rel.database == 0)
    (λ shared. let two = and-parts (rel.space == 1664) (rel.database == 0) shared in inl (eq-is rel.space 1664 two.0, eq-is rel.database 0 two.1))
    (λ other.
    let two = and-parts (rel.space == 1663) (not (rel.database == 0)) (or_left _ _ other (and-parts (not (rel.relation == 0)) (is_known_place rel) known).1) in
    inr (eq-is rel.space 1663 two.0, differ rel.database 0 (not-true (rel.database == 0) two.1)))

-- a reference names a block of its own

pub record IsOwn (placed : Placed) (more : List Placed) : Type 0 where
  pub block : IsBlock placed.block.name
  pub proper : IsProper placed.block.name.rel
  pub alone : is_named placed.block.name more ≡ false

abbrev pub AreOwn : List Placed → Type 0
AreOwn [] = Unit {0}
AreOwn (placed ∷ more) = IsOwn placed more × AreOwn more

below_last : (n : ℕ) → n < 2 ^ 32 → (n == 0xFFFFFFFF) ≡ false → n < 2 ^ 32 - 1
below_last n few not_last = grind (arith, nat_tests, few, not_last)

pub are-own : (blocks : List Placed) → AreNumbered blocks → are_known blocks ≡ true → AreOwn blocks
are-own [] numbered known = tt
are-own (placed ∷ more) numbered known =
    let name = placed.block.name in
    let all = and-parts (is_known_block name && not (is_named name more)) (are_known more) known in
    let first = and-parts (is_known_block name) (not (is_named name more)) all.0 in
    let parts = and-parts (is_known_rel name.rel) (not (name.block == 0xFFFFFFFF)) first.0 in (
      record {
        block = record { rel = numbered.0.rel; block = below_last name.block numbered.0.block (not-true (name.block == 0xFFFFFFFF) parts.1) };
        proper = rel-proper name.rel parts.0;
        alone = not-true (is_named name more) first.1;
      },
      are-own more numbered.1 all.1,
    )

-- of relations as servers name them those with the same files have one name

pub rel-same : (a b : RelName) → IsProper a → IsProper b → same_files a b ≡ is_rel a b
rel-same a b (inl p) (inl q) = grind (arith, nat_tests, p.0, p.1, q.0, q.1)
rel-same a b (inl p) (inr q) = grind (arith, nat_tests, p.0, p.1, q.0, q.1)
rel-same a b (inr p) (inl q) = grind (arith, nat_tests, p.0, p.1, q.0, q.1)
rel-same a b (inr p) (inr q) = grind (arith, nat_tests, p.0, p.1, q.0, q.1)

and_assoc : (a b c : Bool) → ((a && b) && c) ≡ (a && (b && c))
and_assoc true b c = refl
and_assoc false b c = refl

pub block-same : (a b : BlockName) → IsProper a.rel → IsProper b.rel → same_block a b ≡ is_block a b
block-same a b p q =
    and_assoc (same_files a.rel b.rel) (fork_number a.fork == fork_number b.fork) (a.block == b.block)
    ∙ ap (λ t. t && (fork_number a.fork == fork_number b.fork && a.block == b.block)) (rel-same a.rel b.rel p q)

-- two names of one block's numbers are one

pub name-is : (a b : BlockName) → is_block a b ≡ true → a ≡ b
name-is a b h =
    let two = and-parts (is_rel a.rel b.rel) (fork_number a.fork == fork_number b.fork && a.block == b.block) h in
    let rels = and-parts (a.rel.space == b.rel.space) (a.rel.database == b.rel.database && a.rel.relation == b.rel.relation) two.0 in
    let more = and-parts (a.rel.database == b.rel.database) (a.rel.relation == b.rel.relation) rels.1 in
    let rest = and-parts (fork_number a.fork == fork_number b.fork) (a.block == b.block) two.1 in
    let space = eq-is a.rel.space b.rel.space rels.0 in
    let database = eq-is a.rel.database b.rel.database more.0 in
    let relation = eq-is a.rel.relation b.rel.relation more.1 in
    let fork = fork-is a.fork b.fork rest.0 in
    let block = eq-is a.block b.block rest.1 in
    λ i. record { rel = record { space = space i; database = database i; relation = relation i }; fork = fork i; block = block i }
