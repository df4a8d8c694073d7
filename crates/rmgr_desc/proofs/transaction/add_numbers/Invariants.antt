use Rattle.std.proofs.Common.{◌≡◌, ◌++◌, decimal, string_bytes, take}
use Rattle.rmgr_desc.specs.Transaction.{spaced}
use Rattle.rmgr_desc.proofs.transaction.add_numbers.Given as goal

abbrev pub invariant-loop-at : goal.invariant-loop-at
invariant-loop-at l = string_bytes l.text ≡ string_bytes l.initial.text ++ spaced decimal (take l.at l.numbers)
