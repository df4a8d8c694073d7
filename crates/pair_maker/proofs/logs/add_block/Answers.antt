use Rattle.std.proofs.Common.{sym, ◌∙◌}
use Rattle.pair_maker.proofs.LogLemmas.{end-more, end-none, log-more, log-same}
use Rattle.pair_maker.proofs.logs.add_block.Goals as goal

pub returns-then-not-inserts_into-clause-log : goal.returns-then-not-inserts_into-clause-log
returns-then-not-inserts_into-clause-log c = log-same c.args.side c.args.seed c.args.block c.args.writer.now (sym c.inserts_into.ensures ∙ c.if-not-inserts_into.true) c.requires.at

pub returns-then-not-inserts_into-clause-end : goal.returns-then-not-inserts_into-clause-end
returns-then-not-inserts_into-clause-end c = end-none c.args.side c.args.seed c.args.block (sym c.inserts_into.ensures ∙ c.if-not-inserts_into.true)

pub returns-clause-log : goal.returns-clause-log
returns-clause-log c = log-more c.args.side c.args.seed c.args.block c.args.writer.now c.append_insert.new.writer (sym c.inserts_into.ensures ∙ c.if-not-inserts_into.false) c.requires.at c.in_ok-append_insert.ensures.more

pub returns-clause-end : goal.returns-clause-end
returns-clause-end c =
    end-more c.args.side c.args.seed c.args.block c.position.result.0 c.append_insert.new.writer (sym c.inserts_into.ensures ∙ c.if-not-inserts_into.false)
    (log-more c.args.side c.args.seed c.args.block c.args.writer.now c.append_insert.new.writer (sym c.inserts_into.ensures ∙ c.if-not-inserts_into.false) c.requires.at c.in_ok-append_insert.ensures.more) c.position.ensures.value
