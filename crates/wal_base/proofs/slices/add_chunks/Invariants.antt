use Rattle.std.proofs.Common.{◌≡◌, drop}
use Rattle.wal_base.proofs.CrcChunks.{chunks_fold}
use Rattle.wal_base.proofs.slices.add_chunks.Given as goal

abbrev pub invariant-loop-chunk : goal.invariant-loop-chunk
invariant-loop-chunk l = chunks_fold l.state (drop l.chunk-index l.chunks) ≡ chunks_fold l.fn.state l.chunks
