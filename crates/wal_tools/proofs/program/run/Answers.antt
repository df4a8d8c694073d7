use Rattle.std.proofs.Common.{FitsSigned, None, map, rules, string_bytes, w64}
use Rattle.std.proofs.lemmas.Int.{to_z-of_z}
use Rattle.tool_words.specs.Command.{command_of}
use Rattle.wal_tools.proofs.RunLemmas.{runs_at}
use Rattle.wal_tools.proofs.program.run.Goals as goal

pub returns-clause-runs : goal.returns-clause-runs
returns-clause-runs g c =
    let fits : FitsSigned w64 c.args.now = search rules in
    runs_at None g.F.Tree.tells (g.F.Tree.contents c.args.tree.now) (command_of (map string_bytes c.args.words.now)) (to_z-of_z w64 c.args.now fits) c.run_with.ensures.runs
