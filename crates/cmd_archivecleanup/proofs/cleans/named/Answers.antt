use Rattle.std.proofs.Common.{◌∙◌, ap}
use Rattle.std.specs.List.{flat_map}
use Rattle.cmd_archivecleanup.specs.Archivecleanup.{path_line}
use Rattle.cmd_archivecleanup.proofs.FormLemmas.{dry_form}
use Rattle.cmd_archivecleanup.proofs.cleans.named.Goals as goal

pub returns-in-Ok-clause-form : goal.returns-in-Ok-clause-form
returns-in-Ok-clause-form g c =
    dry_form (g.F.Tree.contents c.args.tree.now) c.args.words.now (c.in_ok-names.ensures.listed).0 c.in-Ok.text c.requires.dry_run (c.in-Ok.ensures ∙ ap (flat_map (path_line c.args.words.now.folder)) (c.in_ok-names.ensures.listed).1)
