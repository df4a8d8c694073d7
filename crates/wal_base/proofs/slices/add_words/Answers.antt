use Rattle.std.proofs.Common.{◌≡◌, ℕ, ◌*◌, ◌/◌, drop, length, arith, ap, ◌∙◌, sym}
use Rattle.wal_base.specs.Crc.{crc_fold}
use Rattle.wal_base.proofs.CrcChunks.{chunks_fold, chunks_step, chunks_end, chunks_whole}
use Rattle.wal_base.proofs.slices.add_words.Goals as goal

pub loop-word-preserved : goal.loop-word-preserved
loop-word-preserved c =
    rw c.add_word-state.ensures (sym (chunks_step c.loop-word.state c.as_chunks.result.0.now c.loop-word.word-index (omega arith)) ∙ c.loop-word.invariant)

pub returns : goal.returns
returns c =
    let bytes = c.args.bytes.now in
    let count : ℕ = length bytes / 4 in
    let all : chunks_fold c.args.state c.as_chunks.result.0.now ≡ c.loop-word.state = sym c.loop-word.invariant ∙ chunks_end c.loop-word.state c.as_chunks.result.0.now c.loop-word.word-index (omega arith) in
    rw (c.add_bytes.ensures, c.as_chunks.ensures.back) (sym (chunks_whole c.args.state 4 count bytes ∙ ap (λ s. crc_fold s (drop (count * 4) bytes)) (ap (chunks_fold c.args.state) (sym c.as_chunks.ensures.front) ∙ all)))
