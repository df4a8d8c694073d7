use Rattle.cluster_tree.specs.PathOrder.{path_eq}
use Rattle.file_edits.proofs.SparingLemmas.{spared-own}
use Rattle.replay_restore.proofs.FillLemmas.{spared-away}
use Rattle.replay_restore.proofs.filling.fill_one.Goals as goal

pub returns-in-Folder-clause-own : goal.returns-in-Folder-clause-own
returns-in-Folder-clause-own g c told = rw c.in-Folder.is (c.fill_folder.ensures.own told)

pub returns-in-Page-clause-own : goal.returns-in-Page-clause-own
returns-in-Page-clause-own g c told = rw c.in-Page.is (c.fill_page.ensures.own told)

pub returns-in-File-clause-own : goal.returns-in-File-clause-own
returns-in-File-clause-own g c told = rw c.in-File.is (c.fill_file.ensures.own told)

pub returns-in-Folder-clause-spares : goal.returns-in-Folder-clause-spares
returns-in-Folder-clause-spares g c told can piece is = c.fill_folder.ensures.spares told piece

pub returns-in-Page-clause-spares : goal.returns-in-Page-clause-spares
returns-in-Page-clause-spares g c told can piece is =
    let here = rw c.in-Page.is at can in
    c.fill_page.ensures.spares told piece here.fits here.above (rw c.in-Page.is at is)

pub returns-in-File-clause-spares : goal.returns-in-File-clause-spares
returns-in-File-clause-spares g c told can piece is =
    spared-own g.F.Tree (λ q. path_eq q c.in-File.path) piece _ _ (spared-away piece c.in-File.path (rw c.in-File.is at is)) c.fill_file.ensures.frame (c.fill_file.ensures.own told)
