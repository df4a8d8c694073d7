use Rattle.std.proofs.Common.{◌≡◌, ap, ◌∙◌, Err}
use Rattle.cluster_tree.specs.declared.file_fault.FileFault.TheVariants as file
use Rattle.cluster_tree.specs.declared.tree.TreeFault.TheVariants as tree
use Rattle.file_walk.specs.declared.fault.WalkFault.TheVariants as fault
use Rattle.file_walk.proofs.SeeLemmas.{folder_refused, folder_unchanged, read_told, row_told}
use Rattle.file_walk.proofs.see.see_folder.Goals as goal

pub returns-in-Err-clause-seen : goal.returns-in-Err-clause-seen
returns-in-Err-clause-seen g c = λ tells.
    folder_refused (g.F.Tree.contents c.args.tree.now) c.args.place.now.own c.args.place.now.full (c.requires.there tells) c.in-Err.fault c.list_fault.result
    (c.in-Err.ensures.refused tells) c.list_fault.ensures

pub returns-in-Err-clause-changed : goal.returns-in-Err-clause-changed
returns-in-Err-clause-changed g c = λ tells p e.
    let is : c.list_fault.result ≡ fault.File (file.Changed p) = cc in
    folder_unchanged (g.F.Tree.contents c.args.tree.now) c.args.place.now.own c.args.place.now.full (c.requires.there tells) c.in-Err.fault c.list_fault.result
    (c.in-Err.ensures.refused tells) c.list_fault.ensures p is

pub returns-in-Err-clause-row : goal.returns-in-Err-clause-row
returns-in-Err-clause-row g c = λ p. row_told c.args.place.now.own c.args.place.now.full c.in-Err.fault c.list_fault.result c.list_fault.ensures p

pub returns-in-Err-clause-read_fault : goal.returns-in-Err-clause-read_fault
returns-in-Err-clause-read_fault g c = λ e.
    let is : c.list_fault.result ≡ fault.File file.ReadFault = cc in
    let failed : c.in-Err.fault ≡ tree.Failed = read_told c.args.place.now.own c.args.place.now.full c.in-Err.fault c.list_fault.result c.list_fault.ensures is in
    c.list.ensures.cause.failed (c.in-Err.is ∙ ap (λ f. Err f) failed)
