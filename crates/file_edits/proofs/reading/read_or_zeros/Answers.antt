use Rattle.std.proofs.Common.{◌≡◌, length, replicate, rules}
use Rattle.cluster_tree.specs.Contents.{entry_at}
use Rattle.file_edits.proofs.ReadLemmas.{filled-exact}
use Rattle.file_edits.proofs.reading.read_or_zeros.Goals as goal

pub returns-clause-exact : goal.returns-clause-exact
returns-clause-exact g c told =
    let zeros : c.fill.new.self ≡ replicate (length c.args.into.now) 0 = search rules in
    let there = rw c.file_size.ensures.frame.same at (c.read_there.ensures.exact told) in
    filled-exact c.args.path.now (entry_at (g.F.Tree.contents c.args.tree.now) c.args.path.now) c.in_ok-file_size.field-0 c.args.at (length c.args.into.now) c.min-count.result _ c.fill.new.self c.read_there.new.into c.read_there.result
    (c.in_ok-file_size.ensures.exact told) (search rules) (search rules) (search rules) zeros there
