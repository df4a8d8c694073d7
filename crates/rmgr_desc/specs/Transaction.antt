-- Texts of the manager Transaction: PostgreSQL 16, src/backend/access/rmgrdesc/xactdesc.c, xact_desc. Own: "Names and texts of operations".
use Rattle.std.specs.Prelude.{ℕ, ℤ, ◌==◌, List, [], ◌++◌, codes, decimal, length, if◌then◌else◌}
use Rattle.std.specs.Fmt.{signed_decimal}
use Rattle.std.specs.List.{flat_map}
use Rattle.record_layouts.specs.End.{end_of}
use Rattle.record_layouts.specs.Transaction.{assignment_of}
use Rattle.record_layouts.specs.declared.end.TransactionEnd.{TransactionEnd}
use Rattle.record_layouts.specs.declared.transaction.Assignment.{Assignment}
use Rattle.record_layouts.specs.declared.transaction.TransactionOp.{TransactionOp}
use Rattle.record_layouts.specs.declared.transaction.TransactionOp.TheVariants as op
use Rattle.block_refs.specs.Names.{rel_text}
use Rattle.rmgr_desc.specs.Pieces.{or_short}

-- each with a space before it
abbrev pub spaced : {A : Type 0} → (A → List ℕ) → List A → List ℕ
spaced text items = flat_map (λ one. codes " " ++ text one) items

-- a list with its title, where it has items
unfoldable pub listed : {A : Type 0} → List ℕ → (A → List ℕ) → List A → List ℕ
listed title text items = if length items == 0 then [] else title ++ spaced text items

-- when a transaction ended
unfoldable pub time_text : ℤ → List ℕ
time_text time = codes "time " ++ signed_decimal time

-- COMMIT, ABORT, COMMIT_PREPARED and ABORT_PREPARED: the time, the subtransactions, and the relations that are dropped
abbrev pub end_text : TransactionEnd → List ℕ
end_text end =
    time_text end.time ++ (listed (codes "; subxacts:") decimal end.subxacts ++ listed (codes "; rels:") rel_text end.dropped)

-- ASSIGNMENT
abbrev pub assignment_text : Assignment → List ℕ
assignment_text assignment = codes "xtop " ++ decimal assignment.top

-- the text of an operation with these main bytes
abbrev pub transaction_text : TransactionOp → List ℕ → List ℕ
transaction_text (op.End outcome prepared has_xinfo) main = or_short end_text (end_of outcome has_xinfo main)
transaction_text op.Prepare main = []
transaction_text op.Assignment main = or_short assignment_text (assignment_of main)
transaction_text op.Invalidation main = []
transaction_text (op.Unlisted number) main = []
