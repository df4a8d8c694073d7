use Rattle.std.proofs.Common.{ap}
use Rattle.std.specs.Simd.Lanes.{put_chunk}
use Rattle.wal_base.proofs.folding.place_state.Goals as goal

pub returns : goal.returns
returns c = ap (put_chunk 14 c.args.sums.now) c.to_le_bytes.ensures
