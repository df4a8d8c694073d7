use Rattle.std.proofs.Common.{◌≡◌, drop}
use Rattle.wal_base.proofs.CrcChunks.{chunks_fold}
use Rattle.wal_base.proofs.slices.add_words.Given as goal

abbrev pub invariant-loop-word : goal.invariant-loop-word
invariant-loop-word l = chunks_fold l.state (drop l.word-index l.words) ≡ chunks_fold l.fn.state l.words
