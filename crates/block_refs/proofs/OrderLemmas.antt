-- Blocks compared field by field are compared by their numbers.
use Rattle.std.proofs.Common.{◌≡◌, refl, ◌∙◌, ap}
use Rattle.std.specs.Ordering.{nat_cmp, ordering_then}
use Rattle.std.specs.declared.cmp.Ordering.{Ordering}
use Rattle.std.specs.declared.cmp.Ordering.TheVariants.{Less, Equal, Greater}
use Rattle.block_refs.specs.Names.{fork_number}
use Rattle.block_refs.specs.Order.{block_cmp, compared}
use Rattle.block_refs.specs.contracts.names.ForkOrd.TheImpl as fork_ord
use Rattle.block_refs.specs.declared.names.BlockName.{BlockName}
use Rattle.block_refs.specs.declared.names.Fork.{Fork}
use Rattle.block_refs.specs.declared.names.Fork.TheVariants.{Main, FreeSpace, Visibility, Init}

-- three comparisons as one, and more behind them
chain : (s d r more : Ordering) → ordering_then (ordering_then s (ordering_then d r)) more ≡ ordering_then s (ordering_then d (ordering_then r more))
chain Less d r more = refl
chain Greater d r more = refl
chain Equal Less r more = refl
chain Equal Greater r more = refl
chain Equal Equal r more = refl

last : (b : Ordering) → b ≡ ordering_then b Equal
last Less = refl
last Equal = refl
last Greater = refl

forks : (x y : Fork) → (fork_ord.ghosts).cmp x y ≡ nat_cmp (fork_number x) (fork_number y)
forks Main Main = refl
forks Main FreeSpace = refl
forks Main Visibility = refl
forks Main Init = refl
forks FreeSpace Main = refl
forks FreeSpace FreeSpace = refl
forks FreeSpace Visibility = refl
forks FreeSpace Init = refl
forks Visibility Main = refl
forks Visibility FreeSpace = refl
forks Visibility Visibility = refl
forks Visibility Init = refl
forks Init Main = refl
forks Init FreeSpace = refl
forks Init Visibility = refl
forks Init Init = refl

fields : (s d r f n b : Ordering) → f ≡ n → ordering_then (ordering_then s (ordering_then d r)) (ordering_then f b) ≡ ordering_then s (ordering_then d (ordering_then r (ordering_then n (ordering_then b Equal))))
fields s d r f n b e =
    chain s d r (ordering_then f b)
    ∙ ap (λ o. ordering_then s (ordering_then d (ordering_then r (ordering_then o b)))) e
    ∙ ap (λ o. ordering_then s (ordering_then d (ordering_then r (ordering_then n o)))) (last b)

pub compared_by_numbers : (a b : BlockName) → compared a b ≡ block_cmp a b
compared_by_numbers a b =
    fields (nat_cmp a.rel.space b.rel.space) (nat_cmp a.rel.database b.rel.database) (nat_cmp a.rel.relation b.rel.relation)
    ((fork_ord.ghosts).cmp a.fork b.fork) (nat_cmp (fork_number a.fork) (fork_number b.fork)) (nat_cmp a.block b.block) (forks a.fork b.fork)
