use Rattle.std.proofs.Common.{List, ℕ, [], ◌-◌, ◌++◌, length, ap, ◌∙◌, drop, take}
use Rattle.wal_base.specs.Crc.{crc_start, crc32c}
use Rattle.wal_records.proofs.PartLemmas.{rest_whole}
use Rattle.wal_records.proofs.header.checksum.Goals as goal

pub returns : goal.returns
returns c =
    let bytes = c.args.bytes.now in
    let body : List ℕ = take (length bytes - 24) (drop 24 bytes) in
    record {
      value =
          c.value.ensures.sum (body ++ take 20 bytes) (c.add-2.ensures.more crc_start body (c.add.ensures.more crc_start [] c.new-crc.ensures))
          ∙ ap (λ x. crc32c (x ++ take 20 bytes)) (rest_whole bytes);
    }
