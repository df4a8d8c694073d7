use Rattle.std.proofs.Common.{ℕ, ◌++◌, List, ap, ◌∙◌}
use Rattle.byteorder.specs.Endian.{little_bytes}
use Rattle.wal_base.specs.Segment.{bytes_of}
use Rattle.wal_records.specs.Writer.{long_header}
use Rattle.wal_records.specs.Zeros.{ZeroEnded}
use Rattle.wal_records.proofs.ZerosLemmas.{with_first, with_then}
use Rattle.wal_records.proofs.new_pages.add_long.Goals as goal

pub returns : goal.returns
unfolding long_header
returns c =
    let old : ZeroEnded = c.args.into.now in
    let system : List ℕ = little_bytes 8 c.args.origin.system in
    let size : List ℕ = little_bytes 4 (bytes_of c.args.origin.size) in
    let one = with_first old c.add.new.self system c.to_le_bytes.result c.add.ensures c.to_le_bytes.ensures in
    let two = with_then old c.add.new.self c.add-2.new.self system size c.to_le_bytes-2.result one c.add-2.ensures (c.to_le_bytes-2.ensures ∙ ap (little_bytes 4) c.bytes.ensures.value) in
    with_then old c.add-2.new.self c.add-3.new.self (system ++ size) (little_bytes 4 8192) c.to_le_bytes-3.result two c.add-3.ensures c.to_le_bytes-3.ensures
