use Rattle.std.proofs.Common.{◌≡◌, ◌∙◌, Err, ap, sym}
use Rattle.cluster_tree.specs.declared.file_fault.FileFault.TheVariants as fault
use Rattle.pair_maker.proofs.MadeLemmas.{changed-of, made-beside, made-pair, made-stands, runs-unbegun}
use Rattle.pair_maker.proofs.pair.make_pair.Goals as goal

pub returns-in-Err-clause-runs : goal.returns-in-Err-clause-runs
returns-in-Err-clause-runs g c told = runs-unbegun _ _ _

pub returns-in-Err-entries_of-clause-runs : goal.returns-in-Err-entries_of-clause-runs
returns-in-Err-entries_of-clause-runs g c told = runs-unbegun _ _ _

pub returns-in-Ok-put_all-clause-made : goal.returns-in-Ok-put_all-clause-made
returns-in-Ok-put_all-clause-made g c told =
    made-stands c.args.root.now c.args.seed c.args.blocks _ _ _ _ (g.met.F.Tree.is_tree told c.args.tree.now) (c.requires.room told)
    (made-pair g.F.Tree c.args.root.now c.args.seed c.args.blocks _ _ _ _ c.in-Ok-entries_of.ensures told (g.met.F.Tree.is_tree told c.args.tree.now) (c.requires.room told) c.in-Ok-put_all.ensures.performs).runs

pub returns-in-Ok-put_all-clause-others : goal.returns-in-Ok-put_all-clause-others
returns-in-Ok-put_all-clause-others g c told =
    made-beside c.args.root.now c.args.seed c.args.blocks _ _ _ _ _
    (made-pair g.F.Tree c.args.root.now c.args.seed c.args.blocks _ _ _ _ c.in-Ok-entries_of.ensures told (g.met.F.Tree.is_tree told c.args.tree.now) (c.requires.room told) c.in-Ok-put_all.ensures.performs).runs

pub returns-in-Ok-put_all-clause-runs : goal.returns-in-Ok-put_all-clause-runs
returns-in-Ok-put_all-clause-runs g c told = (made-pair g.F.Tree c.args.root.now c.args.seed c.args.blocks _ _ _ _ c.in-Ok-entries_of.ensures told (g.met.F.Tree.is_tree told c.args.tree.now) (c.requires.room told) c.in-Ok-put_all.ensures.performs).runs

pub returns-in-Err-put_all-clause-others : goal.returns-in-Err-put_all-clause-others
returns-in-Err-put_all-clause-others g c told =
    made-beside c.args.root.now c.args.seed c.args.blocks _ _ _ _ _
    (made-pair g.F.Tree c.args.root.now c.args.seed c.args.blocks _ _ _ _ c.in-Ok-entries_of.ensures told (g.met.F.Tree.is_tree told c.args.tree.now) (c.requires.room told) c.in-Err-put_all.ensures.performs).runs

pub returns-in-Err-put_all-clause-runs : goal.returns-in-Err-put_all-clause-runs
returns-in-Err-put_all-clause-runs g c told = (made-pair g.F.Tree c.args.root.now c.args.seed c.args.blocks _ _ _ _ c.in-Ok-entries_of.ensures told (g.met.F.Tree.is_tree told c.args.tree.now) (c.requires.room told) c.in-Err-put_all.ensures.performs).runs

pub returns-in-Err-put_all-clause-changed : goal.returns-in-Err-put_all-clause-changed
returns-in-Err-put_all-clause-changed g c told p h =
    let e : c.fault_of.result ≡ fault.Changed p = cc h in
    (made-pair g.F.Tree c.args.root.now c.args.seed c.args.blocks _ _ _ _ c.in-Ok-entries_of.ensures told (g.met.F.Tree.is_tree told c.args.tree.now) (c.requires.room told) c.in-Err-put_all.ensures.performs).agreed p (ap Err (changed-of c.in-Err-put_all.fault p (sym c.fault_of.ensures ∙ e)))
