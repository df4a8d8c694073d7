use Rattle.rewind_writes.proofs.CopyLemmas.{kind-failed, kind-found, opens-absent, opens-broken, opens-other, opens-there}
use Rattle.rewind_writes.proofs.copying.open_file.Goals as goal

pub returns-in-Ok-Absent-clause-carries : goal.returns-in-Ok-Absent-clause-carries
returns-in-Ok-Absent-clause-carries g c = opens-absent g.F.Tree c.args.path.now _ _ _ _ c.in-Ok-Absent.ensures.frame (λ told. kind-found _ _ _ c.in-Ok-Absent.field-0 c.in-Ok-Absent.is c.in-Ok-Absent.field-0-is (c.kind.ensures.answer told)) c.make_file.ensures.carries

pub returns-in-Ok-File-clause-carries : goal.returns-in-Ok-File-clause-carries
returns-in-Ok-File-clause-carries g c = opens-there g.F.Tree c.args.path.now _ _ _ _ c.in-Ok-File.ensures.frame (λ told. kind-found _ _ _ c.in-Ok-File.field-0 c.in-Ok-File.is c.in-Ok-File.field-0-is (c.kind.ensures.answer told)) c.cut_file.ensures.carries

pub returns-in-Ok-Folder-clause-carries : goal.returns-in-Ok-Folder-clause-carries
returns-in-Ok-Folder-clause-carries g c = opens-other g.F.Tree c.args.path.now _ _ _ (λ told. kind-found _ _ _ c.in-Ok-Folder.field-0 c.in-Ok-Folder.is c.in-Ok-Folder.field-0-is (c.kind.ensures.answer told))

pub returns-in-Err-clause-carries : goal.returns-in-Err-clause-carries
returns-in-Err-clause-carries g c = opens-broken g.F.Tree c.args.path.now _ _ c.in-Err.fault _ c.of_look.ensures c.in-Err.ensures.frame (λ told. kind-failed _ _ c.in-Err.fault c.in-Err.is (c.kind.ensures.answer told))
