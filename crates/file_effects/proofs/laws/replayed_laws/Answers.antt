use Rattle.file_edits.proofs.LawLemmas.{own-elsewhere}
use Rattle.file_effects.specs.Own.{is_replayed}
use Rattle.file_effects.proofs.ApartLemmas.{control-not-replayed, others-not-replayed, root-not-replayed}
use Rattle.file_effects.proofs.OwnLemmas.{area-replayed, database-replayed, map-replayed, multis-replayed, relation-replayed, version-replayed}
use Rattle.file_effects.proofs.laws.replayed_laws.Goals as goal

pub returns-clause-relation : goal.returns-clause-relation
returns-clause-relation c = relation-replayed

pub returns-clause-area : goal.returns-clause-area
returns-clause-area c = area-replayed

pub returns-clause-multis : goal.returns-clause-multis
returns-clause-multis c = multis-replayed

pub returns-clause-version : goal.returns-clause-version
returns-clause-version c = version-replayed

pub returns-clause-database : goal.returns-clause-database
returns-clause-database c = database-replayed

pub returns-clause-map : goal.returns-clause-map
returns-clause-map c = map-replayed

pub returns-clause-root : goal.returns-clause-root
returns-clause-root c = root-not-replayed

pub returns-clause-control : goal.returns-clause-control
returns-clause-control c = control-not-replayed

pub returns-clause-others : goal.returns-clause-others
returns-clause-others c = others-not-replayed

pub returns-clause-elsewhere : goal.returns-clause-elsewhere
returns-clause-elsewhere c root = own-elsewhere (is_replayed root)
