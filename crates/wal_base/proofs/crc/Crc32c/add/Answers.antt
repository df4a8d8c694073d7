use Rattle.std.proofs.Common.{ap, sym, ◌∙◌}
use Rattle.wal_base.specs.Crc.{crc_fold}
use Rattle.wal_base.proofs.CrcFold.{fold_append}
use Rattle.wal_base.proofs.crc.Crc32c.add.Goals as goal

pub returns-clause-more : goal.returns-clause-more
returns-clause-more c = λ start before held.
    c.add_all-self-inside.ensures ∙ ap (λ s. crc_fold s c.args.bytes.now) (c.self.view_is ∙ held) ∙ sym (fold_append start before c.args.bytes.now)
