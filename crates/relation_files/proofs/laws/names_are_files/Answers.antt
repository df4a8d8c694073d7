use Rattle.std.proofs.Common.{◌∙◌, ap}
use Rattle.relation_files.specs.Reading.{file_named}
use Rattle.relation_files.proofs.NameLemmas.{named-written, written-named}
use Rattle.relation_files.proofs.laws.names_are_files.Goals as goal

pub returns : goal.returns
returns c = λ name file. (written-named name file, λ h. ap file_named h.1 ∙ named-written file h.0)
