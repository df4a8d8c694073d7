use Rattle.gated_marks.proofs.BeginLemmas.{begun-after, begun-allowed}
use Rattle.gated_marks.proofs.ByteLemmas.{torn-byte, whole-read}
use Rattle.gated_marks.proofs.UnderLemmas.{begun-told, synced-told}
use Rattle.gated_marks.proofs.laws.mark_laws.Goals as goal

pub returns-clause-read : goal.returns-clause-read
returns-clause-read c = whole-read

pub returns-clause-whole : goal.returns-clause-whole
returns-clause-whole c = begun-after

pub returns-clause-unrefused : goal.returns-clause-unrefused
returns-clause-unrefused c = begun-allowed

pub returns-clause-told : goal.returns-clause-told
returns-clause-told c = begun-told

pub returns-clause-synced : goal.returns-clause-synced
returns-clause-synced c = synced-told

pub returns-clause-byte : goal.returns-clause-byte
returns-clause-byte c = torn-byte
