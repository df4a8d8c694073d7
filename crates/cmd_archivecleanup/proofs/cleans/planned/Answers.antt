use Rattle.std.proofs.Common.{◌∙◌, ap, map}
use Rattle.cmd_archivecleanup.specs.Archivecleanup.{removal}
use Rattle.cmd_archivecleanup.proofs.FormLemmas.{wet_answer, wet_form}
use Rattle.cmd_archivecleanup.proofs.LeftLemmas.{paths-leaving}
use Rattle.cmd_archivecleanup.proofs.PlanLemmas.{found_files, found_stand}
use Rattle.cmd_archivecleanup.proofs.cleans.planned.Goals as goal

pub removals-requires-clause-there : goal.removals-requires-clause-there
removals-requires-clause-there g c told =
    found_stand (g.F.Tree.contents c.args.tree.now) (g.F.Tree.contents c.gone.new.tree) c.args.words.now c.in-Ok.names c.gone.ensures.reads.same ((c.in-Ok.ensures.exact told).1)

pub returns-in-Ok-removals-clause-exact : goal.returns-in-Ok-removals-clause-exact
returns-in-Ok-removals-clause-exact g c told =
    wet_answer (g.F.Tree.contents c.args.tree.now) (g.F.Tree.contents c.gone.new.tree) c.args.words.now c.in-Ok.names c.in-Ok-removals.queue.items c.gone.ensures.reads.same c.requires.wet (c.in-Ok.ensures.exact told)
    (c.in-Ok-removals.ensures.exact told) c.in-Ok-removals.ensures.made

pub returns-in-Ok-removals-clause-files : goal.returns-in-Ok-removals-clause-files
returns-in-Ok-removals-clause-files g c told =
    found_files (g.F.Tree.contents c.args.tree.now) (g.F.Tree.contents c.gone.new.tree) c.args.words.now c.in-Ok.names c.in-Ok-removals.queue.items c.gone.ensures.reads.same ((c.in-Ok.ensures.exact told).1)
    (c.in-Ok-removals.ensures.exact told) c.in-Ok-removals.ensures.made

pub returns-in-Ok-removals-clause-leaving : goal.returns-in-Ok-removals-clause-leaving
returns-in-Ok-removals-clause-leaving g c told =
    paths-leaving (g.F.Tree.contents c.args.tree.now) c.args.words.now c.in-Ok.names c.in-Ok-removals.queue.items _ c.requires.wet ((c.in-Ok.ensures.exact told).1) c.in-Ok-removals.ensures.made
    (wet_answer (g.F.Tree.contents c.args.tree.now) (g.F.Tree.contents c.gone.new.tree) c.args.words.now c.in-Ok.names c.in-Ok-removals.queue.items c.gone.ensures.reads.same c.requires.wet (c.in-Ok.ensures.exact told)
    (c.in-Ok-removals.ensures.exact told) c.in-Ok-removals.ensures.made)

pub returns-in-Ok-removals-clause-form : goal.returns-in-Ok-removals-clause-form
returns-in-Ok-removals-clause-form g c =
    wet_form c.args.words.now (c.in-Ok.ensures.listed).0 c.in-Ok-removals.queue.items c.requires.wet (c.in-Ok-removals.ensures.made ∙ ap (map (removal c.args.words.now.debug c.args.words.now.folder)) (c.in-Ok.ensures.listed).1)
