use Rattle.std.proofs.Common.{◌<◌, ◌+◌, ℕ, sym, ap, ◌∙◌, arith}
use Rattle.layout.specs.Readers.{u16_at}
use Rattle.block_layouts.specs.Tuple.{header_at}
use Rattle.block_layouts.proofs.TupleLemmas.{tuples_from-next}
use Rattle.block_layouts.proofs.multi_insert.HeapTuplesIterator.next.Goals as goal

pub returns-clause-steps : goal.returns-clause-steps
returns-clause-steps c =
    let list = c.self.inside in
    let bytes = list.bytes.now in
    let some : 0 < list.left = omega arith in
    let front = c.even-front.ensures in
    let size = c.from-size.ensures ∙ c.u16_at.ensures ∙ ap (λ (k : ℕ). u16_at k bytes) front in
    let header = c.header_at.ensures ∙ ap (λ (k : ℕ). header_at (k + 2) bytes) front in
    sym c.self.view_is ∙ tuples_from-next list.left bytes list.at c.even-front.result c.from-size.result c.header_at.result some front size header
