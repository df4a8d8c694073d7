use Rattle.std.proofs.Common.{Ok, ap, length, ◌∙◌}
use Rattle.cluster_tree.proofs.PartLemmas.{part_admitted}
use Rattle.areas_alone.proofs.RootLemmas.{file_there, folder_there, link_there, none_there}
use Rattle.areas_alone.proofs.root.stands.Goals as goal

pub below-requires : goal.below-requires
below-requires g c = record { room = part_admitted (length c.args.root.now.parts) c.args.name.now c.requires.room c.requires.proper }

pub returns-in-Ok-Absent-clause-value : goal.returns-in-Ok-Absent-clause-value
returns-in-Ok-Absent-clause-value g c tells =
    none_there (g.F.Tree.contents c.args.tree.now) c.args.root.now _ c.args.name.now c.in_ok-path.ensures c.requires.proper (c.in-Ok-Absent.ensures.answer tells ∙ ap Ok c.in-Ok-Absent.field-0-is)

pub returns-in-Ok-File-clause-value : goal.returns-in-Ok-File-clause-value
returns-in-Ok-File-clause-value g c tells =
    file_there (g.F.Tree.contents c.args.tree.now) c.args.root.now _ c.args.name.now c.in_ok-path.ensures c.requires.proper (c.in-Ok-File.ensures.answer tells ∙ ap Ok c.in-Ok-File.field-0-is)

pub returns-in-Ok-Folder-clause-value : goal.returns-in-Ok-Folder-clause-value
returns-in-Ok-Folder-clause-value g c tells =
    folder_there (g.F.Tree.contents c.args.tree.now) c.args.root.now _ c.args.name.now c.in_ok-path.ensures c.requires.proper (c.in-Ok-Folder.ensures.answer tells ∙ ap Ok c.in-Ok-Folder.field-0-is)

pub returns-in-Err-Link-clause-value : goal.returns-in-Err-Link-clause-value
returns-in-Err-Link-clause-value g c tells =
    link_there (g.F.Tree.contents c.args.tree.now) c.args.root.now _ c.args.name.now c.in_ok-path.ensures c.requires.proper c.in-Err-Link.field-0 c.in-Err-Link.field-0-is (c.in-Err-Link.ensures.answer tells)
