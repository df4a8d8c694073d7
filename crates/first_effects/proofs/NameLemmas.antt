-- Names of blocks: two are one exactly where they compare as equal.
use Rattle.std.proofs.Common.{◌≡◌, refl, ◌∙◌, ap, ◌==◌, ◌&&◌, ℕ, Bool, true, arith}
use Rattle.std.proofs.lemmas.Bool.{and_parts, eqb-true}
use Rattle.std.proofs.lemmas.Bool.Decides.{nat_tests}
use Rattle.std.specs.BTreeMap.{is_at}
use Rattle.std.specs.Ordering.{is_eq, nat_cmp, ordering_then}
use Rattle.std.specs.declared.cmp.Ordering.{Ordering}
use Rattle.std.specs.declared.cmp.Ordering.TheVariants.{Less, Equal, Greater}
use Rattle.block_refs.specs.Names.{fork_number}
use Rattle.block_refs.specs.Order.{compared}
use Rattle.block_refs.specs.declared.names.BlockName.{BlockName}
use Rattle.block_refs.specs.declared.names.Fork.{Fork}
use Rattle.block_refs.specs.declared.names.Fork.TheVariants.{Main, FreeSpace, Visibility, Init}
use Rattle.block_refs.proofs.OrderLemmas.{compared_by_numbers}
use Rattle.replay_profile.specs.Names.{is_block, is_rel}

pub then_eq : (x y : Ordering) → is_eq (ordering_then x y) ≡ (is_eq x && is_eq y)
then_eq Less y = refl
then_eq Equal y = refl
then_eq Greater y = refl

pub nat_at : (a b : ℕ) → is_eq (nat_cmp a b) ≡ a == b
nat_at a b = grind (arith, nat_tests)

five : (a b c d e : Ordering) → is_eq (ordering_then a (ordering_then b (ordering_then c (ordering_then d (ordering_then e Equal))))) ≡ ((is_eq a && (is_eq b && is_eq c)) && (is_eq d && is_eq e))
five Less b c d e = refl
five Greater b c d e = refl
five Equal Less c d e = refl
five Equal Greater c d e = refl
five Equal Equal Less d e = refl
five Equal Equal Greater d e = refl
five Equal Equal Equal Less e = refl
five Equal Equal Equal Greater e = refl
five Equal Equal Equal Equal Less = refl
five Equal Equal Equal Equal Greater = refl
five Equal Equal Equal Equal Equal = refl

alike : (a b c d e a' b' c' d' e' : Bool) → a ≡ a' → b ≡ b' → c ≡ c' → d ≡ d' → e ≡ e' → ((a && (b && c)) && (d && e)) ≡ ((a' && (b' && c')) && (d' && e'))
alike a b c d e a' b' c' d' e' p q r s t = cc

-- blocks are compared as equal where they are one
pub block_at : (a b : BlockName) → is_at (compared a) b ≡ is_block a b
block_at a b =
    ap is_eq (compared_by_numbers a b)
    ∙ five (nat_cmp a.rel.space b.rel.space) (nat_cmp a.rel.database b.rel.database) (nat_cmp a.rel.relation b.rel.relation) (nat_cmp (fork_number a.fork) (fork_number b.fork)) (nat_cmp a.block b.block)
    ∙ alike _ _ _ _ _ _ _ _ _ _ (nat_at a.rel.space b.rel.space) (nat_at a.rel.database b.rel.database) (nat_at a.rel.relation b.rel.relation) (nat_at (fork_number a.fork) (fork_number b.fork)) (nat_at a.block b.block)

pub block_refl : (a : BlockName) → is_block a a ≡ true
block_refl a = grind (arith, nat_tests)

pub block_sym : (a b : BlockName) → is_block a b ≡ is_block b a
block_sym a b = grind (arith, nat_tests)

same_fork : (x y : Fork) → fork_number x ≡ fork_number y → x ≡ y
same_fork Main Main e = refl
same_fork FreeSpace FreeSpace e = refl
same_fork Visibility Visibility e = refl
same_fork Init Init e = refl
same_fork Main FreeSpace e = absurd (omega arith)
same_fork Main Visibility e = absurd (omega arith)
same_fork Main Init e = absurd (omega arith)
same_fork FreeSpace Main e = absurd (omega arith)
same_fork FreeSpace Visibility e = absurd (omega arith)
same_fork FreeSpace Init e = absurd (omega arith)
same_fork Visibility Main e = absurd (omega arith)
same_fork Visibility FreeSpace e = absurd (omega arith)
same_fork Visibility Init e = absurd (omega arith)
same_fork Init Main e = absurd (omega arith)
same_fork Init FreeSpace e = absurd (omega arith)
same_fork Init Visibility e = absurd (omega arith)

name_of : ℕ → ℕ → ℕ → Fork → ℕ → BlockName
name_of s d r f b = record { rel = record { space = s; database = d; relation = r }; fork = f; block = b }

-- then they are equal
pub same_block : (a b : BlockName) → is_block a b ≡ true → a ≡ b
unfolding name_of
same_block a b h =
    let one = and_parts (is_rel a.rel b.rel) (fork_number a.fork == fork_number b.fork && a.block == b.block) h in
    let two = and_parts (a.rel.space == b.rel.space) (a.rel.database == b.rel.database && a.rel.relation == b.rel.relation) one.0 in
    let three = and_parts (a.rel.database == b.rel.database) (a.rel.relation == b.rel.relation) two.1 in
    let four = and_parts (fork_number a.fork == fork_number b.fork) (a.block == b.block) one.1 in
    ap (λ s. name_of s a.rel.database a.rel.relation a.fork a.block) (eqb-true a.rel.space b.rel.space two.0)
    ∙ ap (λ d. name_of b.rel.space d a.rel.relation a.fork a.block) (eqb-true a.rel.database b.rel.database three.0)
    ∙ ap (λ r. name_of b.rel.space b.rel.database r a.fork a.block) (eqb-true a.rel.relation b.rel.relation three.1)
    ∙ ap (λ f. name_of b.rel.space b.rel.database b.rel.relation f a.block) (same_fork a.fork b.fork (eqb-true (fork_number a.fork) (fork_number b.fork) four.0))
    ∙ ap (λ n. name_of b.rel.space b.rel.database b.rel.relation b.fork n) (eqb-true a.block b.block four.1)
