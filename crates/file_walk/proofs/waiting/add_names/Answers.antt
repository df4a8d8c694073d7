use Rattle.std.proofs.Common.{◌<◌, length, string_bytes, Global, sym, ap, ◌∙◌, add-one, arith}
use Rattle.cluster_tree.proofs.PartLemmas.{part_at}
use Rattle.file_walk.specs.Listed.{by_text}
use Rattle.file_walk.specs.Waiting.{put_name}
use Rattle.file_walk.proofs.ExcludedLemmas.{none_past}
use Rattle.file_walk.proofs.WaitLemmas.{put_more, put_none}
use Rattle.file_walk.proofs.waiting.add_names.Goals as goal

pub loop-at-init : goal.loop-at-init
loop-at-init c = put_none c.args.folder.now (by_text (string_bytes {Z = Global}) c.args.queue.now.entries) c.args.names.now

pub unreachable-requires : goal.unreachable-requires
unreachable-requires c =
    let inside : c.loop-at.at < length c.args.names.now = omega (arith, c.len-at-end.ensures) in
    none_past c.args.names.now c.loop-at.at c.in_default.ensures inside

pub add_name-requires-clause-proper : goal.add_name-requires-clause-proper
add_name-requires-clause-proper c = part_at c.args.names.now c.loop-at.at c.in-Some.name.now (sym c.in-Some.ensures) c.requires.proper

pub loop-at-preserved : goal.loop-at-preserved
loop-at-preserved c =
    rw add-one
    (c.in_ok-add_name.ensures.added
    ∙ ap (λ entries. put_name c.args.folder.now entries c.in-Some.name.now) c.loop-at.invariant
    ∙ put_more c.args.folder.now (by_text (string_bytes {Z = Global}) c.args.queue.now.entries) c.args.names.now c.loop-at.at c.in-Some.name.now c.in-Some.ensures)
