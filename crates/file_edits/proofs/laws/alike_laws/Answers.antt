use Rattle.file_edits.proofs.AlikeLemmas.{way_alike, edited-alike, cut-alike, removed-alike, folder-same, size-same, names-alike, read-alike}
use Rattle.file_edits.proofs.ClearAlikeLemmas.{tree-alike, tree-answers}
use Rattle.file_edits.proofs.laws.alike_laws.Goals as goal

pub returns-clause-edited : goal.returns-clause-edited
returns-clause-edited c = edited-alike

pub returns-clause-removed : goal.returns-clause-removed
returns-clause-removed c = removed-alike

pub returns-clause-names : goal.returns-clause-names
returns-clause-names c = names-alike

pub returns-clause-read : goal.returns-clause-read
returns-clause-read c = read-alike

pub returns-clause-tree : goal.returns-clause-tree
returns-clause-tree c = tree-alike

pub returns-clause-tree_answers : goal.returns-clause-tree_answers
returns-clause-tree_answers c = tree-answers

pub returns-clause-way : goal.returns-clause-way
returns-clause-way c = way_alike

pub returns-clause-folder : goal.returns-clause-folder
returns-clause-folder c = folder-same

pub returns-clause-size : goal.returns-clause-size
returns-clause-size c = size-same

pub returns-clause-cut : goal.returns-clause-cut
returns-clause-cut c = cut-alike
