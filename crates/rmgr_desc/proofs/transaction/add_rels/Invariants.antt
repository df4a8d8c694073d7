use Rattle.std.proofs.Common.{◌≡◌, ◌++◌, string_bytes, take}
use Rattle.block_refs.specs.Names.{rel_text}
use Rattle.rmgr_desc.specs.Transaction.{spaced}
use Rattle.rmgr_desc.proofs.transaction.add_rels.Given as goal

abbrev pub invariant-loop-at : goal.invariant-loop-at
invariant-loop-at l = string_bytes l.text ≡ string_bytes l.initial.text ++ spaced rel_text (take l.at l.rels)
