use Rattle.std.proofs.Common.{rules, string_bytes}
use Rattle.cluster_tree.specs.PathValue.{is_part}
use Rattle.cmd_archivecleanup.specs.Archivecleanup.{path_line}
use Rattle.cmd_archivecleanup.proofs.PartLemmas.{all_at}
use Rattle.cmd_archivecleanup.proofs.PlanLemmas.{line_more}
use Rattle.cmd_archivecleanup.proofs.names.path_lines.Goals as goal

pub add_path-requires-clause-part : goal.add_path-requires-clause-part
add_path-requires-clause-part c = all_at is_part c.args.names.now c.loop-at.at c.in-Some.name.now (search rules) c.requires.parts

pub loop-at-preserved : goal.loop-at-preserved
loop-at-preserved c =
    line_more (path_line c.args.folder.now) c.args.names.now c.loop-at.at c.in-Some.name.now (string_bytes c.loop-at.text) (string_bytes c.add_path.new.text) (search rules) c.loop-at.invariant (search rules)
