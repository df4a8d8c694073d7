use Rattle.std.proofs.Common.{refl}
use Rattle.tool_words.specs.Resetwal.{resetwal_table}
use Rattle.tool_words.proofs.resetwal.table.Goals as goal

pub returns : goal.returns
unfolding resetwal_table
returns c =
    rw (
      c.option.ensures,
      c.option-2.ensures,
      c.flag.ensures,
      c.option-3.ensures,
      c.option-4.ensures,
      c.flag-2.ensures,
      c.option-5.ensures,
      c.option-6.ensures,
      c.option-7.ensures,
      c.option-8.ensures,
      c.option-9.ensures,
      c.option-10.ensures,
      c.word.ensures,
    ) refl
