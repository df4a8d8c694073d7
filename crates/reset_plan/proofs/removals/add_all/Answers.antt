use Rattle.std.proofs.Common.{[], ◌++◌, ◌∙◌, ap, arith, is_some, refl, rules, sym}
use Rattle.std.proofs.lemmas.List.{append-nil}
use Rattle.cluster_tree.specs.Contents.{entry_at}
use Rattle.cluster_tree.specs.PathValue.{is_part}
use Rattle.cluster_tree.proofs.RunLemmas.{reads_on}
use Rattle.reset_plan.specs.Removals.{going, kinds_refusal}
use Rattle.reset_plan.specs.Reset.{in_folder}
use Rattle.reset_plan.proofs.RemovalLemmas.{added-more, all-at, all-taken, kinds_none, none-more, refused-here}
use Rattle.reset_numbers.proofs.NameLemmas.{no_name}
use Rattle.reset_plan.proofs.removals.add_all.Goals as goal

pub loop-at-init : goal.loop-at-init
loop-at-init g c = record {
  added = sym (append-nil c.args.gone.now.items);
  none = λ told. kinds_none (g.F.Tree.contents c.args.tree.now) [] refl;
  reads = record { same = refl; uncalled = refl; unstopped = refl; reads = omega arith; changes = refl };
}

pub unreachable-requires : goal.unreachable-requires
unreachable-requires g c = no_name c.args.names.now c.loop-at.at (omega (arith, c.loop-at-test.true, c.len-at-end.ensures)) c.in_default.ensures

pub add-requires-clause-part : goal.add-requires-clause-part
add-requires-clause-part g c = all-at is_part c.args.names.now c.loop-at.at c.in-Some.name.now (search rules) c.requires.parts

pub add-requires-clause-there : goal.add-requires-clause-there
add-requires-clause-there g c told =
    ap (λ x. is_some (entry_at x (in_folder c.args.folder.now c.in-Some.name.now))) c.loop-at.invariant.reads.same
    ∙ all-at (λ name. is_some (entry_at (g.F.Tree.contents c.args.tree.now) (in_folder c.args.folder.now name))) c.args.names.now c.loop-at.at c.in-Some.name.now (search rules) (c.requires.there told)

pub returns-in-Err-clause-exact : goal.returns-in-Err-clause-exact
returns-in-Err-clause-exact g c told =
    refused-here (g.F.Tree.contents c.args.tree.now) (g.F.Tree.contents c.loop-at.tree) c.args.area c.args.folder.now c.args.names.now c.loop-at.at c.in-Some.name.now c.in-Err.fault c.loop-at.invariant.reads.same (search rules) (c.loop-at.invariant.none told) (c.in-Err.ensures.exact told)

pub returns-clause-exact : goal.returns-clause-exact
returns-clause-exact g c told =
    ap (λ l. kinds_refusal (g.F.Tree.contents c.args.tree.now) (going c.args.area c.args.folder.now l)) (sym (all-taken c.args.names.now c.loop-at.at (omega (arith, c.loop-at-test.false, c.loop-at.auto.at-end, c.len-at-end.ensures))))
    ∙ c.loop-at.invariant.none told

pub returns-clause-added : goal.returns-clause-added
returns-clause-added g c =
    c.loop-at.invariant.added
    ∙ ap (λ l. c.args.gone.now.items ++ going c.args.area c.args.folder.now l) (all-taken c.args.names.now c.loop-at.at (omega (arith, c.loop-at-test.false, c.loop-at.auto.at-end, c.len-at-end.ensures)))

pub loop-at-preserved : goal.loop-at-preserved
loop-at-preserved g c = record {
  added = added-more c.args.area c.args.folder.now c.args.names.now c.loop-at.at c.in-Some.name.now c.args.gone.now.items c.loop-at.gone.items c.add.new.gone.items (search rules) c.loop-at.invariant.added c.in-Ok.ensures.added;
  none = λ told. none-more (g.F.Tree.contents c.args.tree.now) (g.F.Tree.contents c.loop-at.tree) c.args.area c.args.folder.now c.args.names.now c.loop-at.at c.in-Some.name.now c.loop-at.invariant.reads.same (search rules) (c.loop-at.invariant.none told) (c.in-Ok.ensures.exact told);
  reads = reads_on g.F.Tree _ _ _ c.loop-at.invariant.reads c.in-Ok.ensures.reads;
}
