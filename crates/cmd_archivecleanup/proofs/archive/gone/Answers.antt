use Rattle.std.proofs.Common.{refl, rules}
use Rattle.cluster_tree.specs.PathValue.{is_part}
use Rattle.cmd_archivecleanup.proofs.GoneLemmas.{found_all, gone_listed, gone_of}
use Rattle.cmd_archivecleanup.proofs.archive.gone.Goals as goal

pub returns-in-Ok-Some-clause-exact : goal.returns-in-Ok-Some-clause-exact
returns-in-Ok-Some-clause-exact g c tells = (
  c.in-Ok.ensures.refused tells,
  gone_listed (g.F.Tree.contents c.args.tree.now) c.args.words.now c.in-Ok.names c.in-Ok-Some.gone c.args.words.now.extension (c.in-Ok.ensures.names tells) refl (search rules),
)

pub returns-in-Ok-Some-clause-parts : goal.returns-in-Ok-Some-clause-parts
returns-in-Ok-Some-clause-parts g c =
    found_all is_part c.in-Ok.names c.in-Ok-Some.gone c.args.words.now.kept c.args.words.now.extension (search rules) c.in-Ok.ensures.parts

pub returns-in-Ok-Some-clause-listed : goal.returns-in-Ok-Some-clause-listed
returns-in-Ok-Some-clause-listed g c = (c.in-Ok.names, gone_of c.args.words.now c.in-Ok.names c.in-Ok-Some.gone c.args.words.now.extension refl (search rules))
