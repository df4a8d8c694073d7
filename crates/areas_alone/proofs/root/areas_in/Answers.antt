use Rattle.std.proofs.Common.{◌∙◌, codes}
use Rattle.areas_alone.proofs.RootLemmas.{all_names, one_more}
use Rattle.areas_alone.proofs.root.areas_in.Goals as goal

pub returns-clause-value : goal.returns-clause-value
returns-clause-value g c tells =
    let d = g.F.Tree.contents c.args.tree.now in
    let root = c.args.root.now in
    let one = c.in_ok-add.ensures.reads.same in
    let two = c.in_ok-add-2.ensures.reads.same ∙ one in
    let three = c.in_ok-add-3.ensures.reads.same ∙ two in
    all_names d root _ _ _ _ _ c.new-names.ensures (c.in_ok-add.ensures.value tells)
    (one_more _ d root (codes "global") _ _ one (c.in_ok-add-2.ensures.value tells))
    (one_more _ d root (codes "pg_multixact") _ _ two (c.in_ok-add-3.ensures.value tells))
    (one_more _ d root (codes "pg_xact") _ _ three (c.in_ok-add-4.ensures.value tells))
