use Rattle.std.proofs.Common.{inr, ap, sym, ◌∙◌}
use Rattle.std.specs.Prelude.{Err}
use Rattle.clusters.specs.declared.fault.ClusterFault.TheVariants.{Unfinished}
use Rattle.plan_text.specs.Mark.{mark_told}
use Rattle.plan_text.specs.declared.mark.MarkText.TheVariants as told
use Rattle.resume_core.proofs.MarkLemmas.{own-read}
use Rattle.resume_core.proofs.marks.file_mark.Goals as goal

pub returns-in_ok-copy-in-Version1-clause-found : goal.returns-in_ok-copy-in-Version1-clause-found
returns-in_ok-copy-in-Version1-clause-found g c on =
    inr (own-read (g.F.Tree.contents c.args.tree.now) c.args.mark.now c.in_ok-copy.field-0 c.in_ok-read_all.field-0 c.in-Some.bytes told.Version1 c.in_ok-copy.ensures c.in-Some.is
    (c.in_ok-read_all.ensures.found on) (c.in-Version1.ensures.value ∙ ap mark_told c.deref.ensures.value) ∙ ap (λ p. Err (Unfinished p)) (sym c.in_ok-copy-in-Version1.ensures))

pub returns-in-NotComplete-clause-found : goal.returns-in-NotComplete-clause-found
returns-in-NotComplete-clause-found g c on =
    own-read (g.F.Tree.contents c.args.tree.now) c.args.mark.now c.in_ok-copy.field-0 c.in_ok-read_all.field-0 c.in-Some.bytes told.NotComplete c.in_ok-copy.ensures c.in-Some.is
    (c.in_ok-read_all.ensures.found on) (c.in-NotComplete.ensures.value ∙ ap mark_told c.deref.ensures.value)

pub returns-in-Complete-clause-found : goal.returns-in-Complete-clause-found
returns-in-Complete-clause-found g c on =
    own-read (g.F.Tree.contents c.args.tree.now) c.args.mark.now c.in_ok-copy.field-0 c.in_ok-read_all.field-0 c.in-Some.bytes told.Complete c.in_ok-copy.ensures c.in-Some.is
    (c.in_ok-read_all.ensures.found on) (c.in-Complete.ensures.value ∙ ap mark_told c.deref.ensures.value)
