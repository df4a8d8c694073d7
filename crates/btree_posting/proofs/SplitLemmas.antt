-- The new tuple that a record of a split holds.
use Rattle.std.proofs.Common.{◌≡◌, ℕ, ◌≤◌, true, List, Option, Some, None, Bor, length, sym, arith}
use Rattle.std.specs.Option.{IfSome, option_copied}
use Rattle.block_layouts.specs.declared.split.SplitTuples.{SplitTuples}
use Rattle.block_layouts.specs.Laws.{HoldsSplit}
use Rattle.block_layouts.specs.Split.{split_seen, split_tuples_of}
use Rattle.block_layouts.proofs.SplitLemmas.{split_found}

-- it has a header, and no more bytes than its size, rounded up to 8, can tell
pub new_size : (bytes : List ℕ) (tuples : SplitTuples) → Some (split_seen tuples) ≡ split_tuples_of true bytes → IfSome tuples.new_tuple (λ new. (8 ≤ length new.now) × (length new.now ≤ 8192))
new_size bytes tuples e = sized tuples.new_tuple tuples.high_key.now (split_found true bytes (split_seen tuples) (sym e))
  where
    sized : (new : Option (Bor (List ℕ))) (key : List ℕ) → HoldsSplit true bytes (record { new_tuple = option_copied new; high_key = key }) → IfSome new (λ new. (8 ≤ length new.now) × (length new.now ≤ 8192))
    sized None key holds = tt
    sized (Some new) key holds = let tuple = holds.each.0 in (tuple.header, omega (arith, tuple.size))
