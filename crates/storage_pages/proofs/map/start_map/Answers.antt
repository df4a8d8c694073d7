use Rattle.std.proofs.Common.{sym, ◌∙◌}
use Rattle.storage_pages.proofs.MapLaws.{started_zero}
use Rattle.storage_pages.proofs.map.start_map.Goals as goal

pub returns-then-zero-clause-value : goal.returns-then-zero-clause-value
returns-then-zero-clause-value c = started_zero c.args.page.now c.put_init.new.page (sym c.is_zero-zero.ensures ∙ c.if-zero.true) c.put_init.ensures
