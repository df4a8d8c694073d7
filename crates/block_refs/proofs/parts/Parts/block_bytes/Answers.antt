use Rattle.std.proofs.Common.{sym, arith}
use Rattle.block_refs.proofs.PlaceLemmas.{bytes_within}
use Rattle.block_refs.proofs.parts.Parts.block_bytes.Goals as goal

pub bytes_at-requires : goal.bytes_at-requires
bytes_at-requires c =
    let within = bytes_within c.args.rec.now.body c.args.self.now c.args.id c.in-Some.placed c.requires.parts (sym c.in-Some.ensures.value) in
    omega (arith, c.from.ensures)
