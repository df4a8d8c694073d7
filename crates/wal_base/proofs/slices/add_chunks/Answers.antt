use Rattle.std.proofs.Common.{◌≡◌, ℕ, ◌*◌, ◌/◌, drop, length, arith, ap, ◌∙◌, sym}
use Rattle.wal_base.specs.Crc.{crc_fold}
use Rattle.wal_base.proofs.CrcChunks.{chunks_fold, chunks_step, chunks_end, chunks_whole}
use Rattle.wal_base.proofs.slices.add_chunks.Goals as goal

pub loop-chunk-preserved : goal.loop-chunk-preserved
loop-chunk-preserved c =
    rw c.add_chunk-state.ensures (sym (chunks_step c.loop-chunk.state c.as_chunks.result.0.now c.loop-chunk.chunk-index (omega arith)) ∙ c.loop-chunk.invariant)

pub returns : goal.returns
returns c =
    let bytes = c.args.bytes.now in
    let count : ℕ = length bytes / 16 in
    let all : chunks_fold c.args.state c.as_chunks.result.0.now ≡ c.loop-chunk.state = sym c.loop-chunk.invariant ∙ chunks_end c.loop-chunk.state c.as_chunks.result.0.now c.loop-chunk.chunk-index (omega arith) in
    rw (c.add_words.ensures, c.as_chunks.ensures.back) (sym (chunks_whole c.args.state 16 count bytes ∙ ap (λ s. crc_fold s (drop (count * 16) bytes)) (ap (chunks_fold c.args.state) (sym c.as_chunks.ensures.front) ∙ all)))
