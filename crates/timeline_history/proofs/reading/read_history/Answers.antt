use Rattle.timeline_history.proofs.FaultLemmas.{exact_answer}
use Rattle.timeline_history.proofs.HistoryLemmas.{last_of_spans}
use Rattle.timeline_history.proofs.reading.read_history.Goals as goal

pub returns-clause-exact : goal.returns-clause-exact
returns-clause-exact c =
    exact_answer c.args.tli c.args.bytes.now c.read_faultless.result c.read_faultless.ensures.ok c.read_faultless.ensures.spans c.read_faultless.ensures.fault

pub returns-clause-last : goal.returns-clause-last
returns-clause-last c = last_of_spans c.args.tli _ c.read_faultless.result c.read_faultless.ensures.spans
