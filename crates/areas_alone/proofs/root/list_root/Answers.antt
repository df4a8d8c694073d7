use Rattle.std.proofs.Common.{Ok, ap, inr, ◌∙◌}
use Rattle.areas_alone.proofs.RootLemmas.{absent_root, file_root, folder_root, listed_so, refused_root}
use Rattle.areas_alone.proofs.root.list_root.Goals as goal

pub returns-in-Ok-Folder-clause-names : goal.returns-in-Ok-Folder-clause-names
returns-in-Ok-Folder-clause-names g c tells = listed_so _ (g.F.Tree.contents c.args.tree.now) c.args.root.now c.areas_in.result c.kind.ensures.frame.same (c.areas_in.ensures.value tells)

pub returns-in-Ok-Folder-clause-refused : goal.returns-in-Ok-Folder-clause-refused
returns-in-Ok-Folder-clause-refused g c tells =
    folder_root (g.F.Tree.contents c.args.tree.now) c.args.root.now (c.in-Ok-Folder.ensures.answer tells ∙ ap Ok c.in-Ok-Folder.field-0-is) c.areas_in.result c.areas_in.ensures.refused

pub returns-in-Ok-Absent-clause-refused : goal.returns-in-Ok-Absent-clause-refused
returns-in-Ok-Absent-clause-refused g c tells = inr (absent_root (g.F.Tree.contents c.args.tree.now) c.args.root.now (c.in-Ok-Absent.ensures.answer tells ∙ ap Ok c.in-Ok-Absent.field-0-is))

pub returns-in-Ok-File-clause-refused : goal.returns-in-Ok-File-clause-refused
returns-in-Ok-File-clause-refused g c tells = inr (file_root (g.F.Tree.contents c.args.tree.now) c.args.root.now (c.in-Ok-File.ensures.answer tells ∙ ap Ok c.in-Ok-File.field-0-is))

pub returns-in-Err-clause-refused : goal.returns-in-Err-clause-refused
returns-in-Err-clause-refused g c tells = refused_root (g.F.Tree.contents c.args.tree.now) c.args.root.now c.in-Err.fault (c.in-Err.ensures.answer tells)
