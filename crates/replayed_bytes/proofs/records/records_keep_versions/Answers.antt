use Rattle.replayed_bytes.proofs.RecordLemmas.{record-ends}
use Rattle.replayed_bytes.proofs.SameLemmas.{versions-kept}
use Rattle.replayed_bytes.proofs.records.records_keep_versions.Goals as goal

pub returns : goal.returns
returns g = λ custom sound root other per_file rec parts w v x y some is whole other_whole made other_made before after same.
    versions-kept root other per_file w.files x.files v.files y.files before after same
    (record-ends custom sound root per_file some rec parts w v is whole made) (record-ends custom sound other per_file some rec parts x y is other_whole other_made)
