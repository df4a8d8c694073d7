use Rattle.wal_pages.proofs.ValidLemmas.{unbroken_valid, valid_unbroken}
use Rattle.wal_pages.proofs.LogLemmas.{is_read, read_length, read_bytes, read_payload}
use Rattle.wal_pages.proofs.laws.page_laws.Goals as goal

pub returns-clause-unbroken : goal.returns-clause-unbroken
returns-clause-unbroken c = λ log at page. (unbroken_valid log at page, valid_unbroken log at page)

pub returns-clause-valid : goal.returns-clause-valid
returns-clause-valid c = λ log files at page h.
    let r = is_read log files at page h in
    (read_length log files at page r, unbroken_valid log at page r.unbroken)

pub returns-clause-bytes : goal.returns-clause-bytes
returns-clause-bytes c = λ log files at page p h. read_bytes log files at page p (is_read log files at page h)

pub returns-clause-payload : goal.returns-clause-payload
returns-clause-payload c = λ log files at page p h. read_payload log files at page p (is_read log files at page h)
