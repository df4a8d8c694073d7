use Rattle.file_edits.proofs.CutLemmas.{cut-stands, cut-none, cut-elsewhere}
use Rattle.file_edits.proofs.LawLemmas.{edited-stands, edited-elsewhere, removed-gone, removed-elsewhere, way_left}
use Rattle.file_edits.proofs.WayLemmas.{way-ready}
use Rattle.file_edits.proofs.ClearLemmas.{tree-empty, tree-elsewhere}
use Rattle.file_edits.proofs.laws.edit_laws.Goals as goal

pub returns-clause-edited : goal.returns-clause-edited
returns-clause-edited c = edited-stands

pub returns-clause-edited_elsewhere : goal.returns-clause-edited_elsewhere
returns-clause-edited_elsewhere c = edited-elsewhere

pub returns-clause-removed : goal.returns-clause-removed
returns-clause-removed c = removed-gone

pub returns-clause-removed_elsewhere : goal.returns-clause-removed_elsewhere
returns-clause-removed_elsewhere c = removed-elsewhere

pub returns-clause-tree : goal.returns-clause-tree
returns-clause-tree c = tree-empty

pub returns-clause-tree_elsewhere : goal.returns-clause-tree_elsewhere
returns-clause-tree_elsewhere c = tree-elsewhere

pub returns-clause-way : goal.returns-clause-way
returns-clause-way c = way-ready

pub returns-clause-way_elsewhere : goal.returns-clause-way_elsewhere
returns-clause-way_elsewhere c = way_left

pub returns-clause-cut : goal.returns-clause-cut
returns-clause-cut c = cut-stands

pub returns-clause-cut_none : goal.returns-clause-cut_none
returns-clause-cut_none c = cut-none

pub returns-clause-cut_elsewhere : goal.returns-clause-cut_elsewhere
returns-clause-cut_elsewhere c = cut-elsewhere
