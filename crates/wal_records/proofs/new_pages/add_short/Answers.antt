use Rattle.std.proofs.Common.{ℕ, ◌++◌, List, replicate, ap, ◌∙◌, refl}
use Rattle.byteorder.specs.Endian.{little_bytes}
use Rattle.wal_base.specs.Segment.{bytes_of}
use Rattle.wal_records.specs.Writer.{page_info, short_header}
use Rattle.wal_records.specs.Zeros.{ZeroEnded}
use Rattle.wal_records.proofs.ZerosLemmas.{with_first, with_then}
use Rattle.wal_records.proofs.new_pages.add_short.Goals as goal

pub returns : goal.returns
unfolding short_header
returns c =
    let old : ZeroEnded = c.args.into.now in
    let magic : List ℕ = little_bytes 2 0xD113 in
    let info : List ℕ = little_bytes 2 (page_info (bytes_of c.args.origin.size) c.args.at c.args.remaining) in
    let tli : List ℕ = little_bytes 4 c.args.origin.tli in
    let at : List ℕ = little_bytes 8 c.args.at in
    let left : List ℕ = little_bytes 4 c.args.remaining in
    let one = with_first old c.add.new.self magic c.to_le_bytes.result c.add.ensures c.to_le_bytes.ensures in
    let two = with_then old c.add.new.self c.add-2.new.self magic info c.to_le_bytes-2.result one c.add-2.ensures (c.to_le_bytes-2.ensures ∙ ap (little_bytes 2) c.page_info.ensures) in
    let three = with_then old c.add-2.new.self c.add-3.new.self (magic ++ info) tli c.to_le_bytes-3.result two c.add-3.ensures c.to_le_bytes-3.ensures in
    let four = with_then old c.add-3.new.self c.add-4.new.self ((magic ++ info) ++ tli) at c.to_le_bytes-4.result three c.add-4.ensures c.to_le_bytes-4.ensures in
    let five = with_then old c.add-4.new.self c.add-5.new.self (((magic ++ info) ++ tli) ++ at) left c.to_le_bytes-5.result four c.add-5.ensures c.to_le_bytes-5.ensures in
    with_then old c.add-5.new.self c.pass.new.self ((((magic ++ info) ++ tli) ++ at) ++ left) (replicate 4 0) (replicate 4 0) five c.pass.ensures refl
