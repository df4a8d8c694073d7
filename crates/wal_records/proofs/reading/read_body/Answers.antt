use Rattle.std.proofs.Common.{◌≡◌, ℕ, ◌+◌, ◌*◌, length, Some, None, ap, sym, ◌∙◌, arith}
use Rattle.wal_base.specs.Segment.{bytes_of}
use Rattle.wal_records.specs.Header.{header_of, header_fault}
use Rattle.wal_records.specs.Further.{pages_of, further, gathered}
use Rattle.wal_records.specs.Reading.{seal_fault, sealed_end, record_of, Spelled}
use Rattle.wal_records.proofs.ReadingLemmas.{body_fault, body_on, rest_stops, rest_sealed}
use Rattle.wal_records.proofs.PartLemmas.{part_grows, all_there, link_kept}
use Rattle.wal_records.proofs.reading.read_body.Goals as goal

pub returns-in-Some-clause-read : goal.returns-in-Some-clause-read
returns-in-Some-clause-read g c = λ tells knows.
    let log = c.args.pages.now.log in
    let bytes = c.args.bytes.now.items in
    let rest = further (bytes_of log.size) (c.args.number * 8192) c.args.left in
    let fault : header_fault c.args.before c.args.place (header_of bytes) ≡ Some c.in-Some.why =
    sym (c.header_fault.ensures.value ∙ ap (header_fault c.args.before c.args.place) (c.header_of.ensures.value ∙ ap header_of c.deref.ensures.value)) ∙ c.in-Some.is in
    body_fault (pages_of log (g.F.Tree.contents c.args.tree.now)) (bytes_of log.size) c.args.place (length bytes + c.args.left) c.args.before rest bytes c.in-Some.why fault

pub returns-in-Some-2-clause-read : goal.returns-in-Some-2-clause-read
returns-in-Some-2-clause-read g c = λ tells knows.
    let log = c.args.pages.now.log in
    let pages = pages_of log (g.F.Tree.contents c.args.tree.now) in
    let bytes = c.args.bytes.now.items in
    let rest = further (bytes_of log.size) (c.args.number * 8192) c.args.left in
    let fault : header_fault c.args.before c.args.place (header_of bytes) ≡ None =
    sym (c.header_fault.ensures.value ∙ ap (header_fault c.args.before c.args.place) (c.header_of.ensures.value ∙ ap header_of c.deref.ensures.value)) ∙ c.in-None.is in
    let stopped = rw c.in-Some-2.is at (c.in_ok-stop.ensures.gathered tells knows) in
    body_on pages (bytes_of log.size) c.args.place (length bytes + c.args.left) c.args.before rest bytes fault
    ∙ rest_stops (bytes_of log.size) c.args.place (length bytes + c.args.left) (gathered pages (bytes_of log.size) bytes rest) c.in-Some-2.stop stopped

pub returns-in-Ok-clause-read : goal.returns-in-Ok-clause-read
returns-in-Ok-clause-read g c = λ tells knows.
    let log = c.args.pages.now.log in
    let pages = pages_of log (g.F.Tree.contents c.args.tree.now) in
    let bytes = c.args.bytes.now.items in
    let all = c.add_rest.new.bytes.items in
    let total : ℕ = length bytes + c.args.left in
    let rest = further (bytes_of log.size) (c.args.number * 8192) c.args.left in
    let fault : header_fault c.args.before c.args.place (header_of bytes) ≡ None =
    sym (c.header_fault.ensures.value ∙ ap (header_fault c.args.before c.args.place) (c.header_of.ensures.value ∙ ap header_of c.deref.ensures.value)) ∙ c.in-None.is in
    let gathered_all = rw c.in-None-2.is at (c.in_ok-stop.ensures.gathered tells knows) in
    let len_is : c.len.result ≡ length bytes = omega (arith, c.len.ensures) in
    let same : seal_fault (bytes_of c.size-size.result) c.args.place (c.len.result + c.args.left) c.deref-2.result.now ≡ seal_fault (bytes_of log.size) c.args.place total all =
    ap (λ s. seal_fault (bytes_of s) c.args.place (c.len.result + c.args.left) c.deref-2.result.now) c.size-size.ensures.value
    ∙ ap (λ n. seal_fault (bytes_of log.size) c.args.place (n + c.args.left) c.deref-2.result.now) len_is
    ∙ ap (seal_fault (bytes_of log.size) c.args.place total) c.deref-2.ensures.value in
    let none : seal_fault (bytes_of log.size) c.args.place total all ≡ None = sym same ∙ c.in-Ok.ensures.ok in
    let end : c.in-Ok.end ≡ sealed_end (bytes_of log.size) c.args.place total all =
    c.in-Ok.ensures.end
    ∙ ap (λ s. sealed_end (bytes_of s) c.args.place (c.len.result + c.args.left) c.deref-2.result.now) c.size-size.ensures.value
    ∙ ap (λ n. sealed_end (bytes_of log.size) c.args.place (n + c.args.left) c.deref-2.result.now) len_is
    ∙ ap (sealed_end (bytes_of log.size) c.args.place total) c.deref-2.ensures.value in
    body_on pages (bytes_of log.size) c.args.place total c.args.before rest bytes fault
    ∙ rest_sealed (bytes_of log.size) c.args.place total (gathered pages (bytes_of log.size) bytes rest) all None gathered_all none
    ∙ ap (λ e. Spelled (record_of c.args.place e all)) (sym end)

pub returns-in-Ok-clause-fits : goal.returns-in-Ok-clause-fits
returns-in-Ok-clause-fits g c =
    let bytes = c.args.bytes.now.items in
    let all = c.add_rest.new.bytes.items in
    let total : ℕ = length bytes + c.args.left in
    let grows = c.in_ok-stop.ensures.grows c.in-None-2.is in
    record {
      all = all_there c.args.place c.in-Ok.end total all (part_grows total c.args.left bytes all c.requires.part grows) grows.size (omega (arith, c.in-Ok.ensures.up, c.len.ensures));
      linked = link_kept c.args.before c.args.place bytes all c.header_of.result grows.front c.requires.whole
          (c.header_of.ensures.value ∙ ap header_of c.deref.ensures.value) c.in-None.ensures.linked;
    }

pub returns-in-Err-clause-read : goal.returns-in-Err-clause-read
returns-in-Err-clause-read g c = λ tells knows.
    let log = c.args.pages.now.log in
    let pages = pages_of log (g.F.Tree.contents c.args.tree.now) in
    let bytes = c.args.bytes.now.items in
    let all = c.add_rest.new.bytes.items in
    let total : ℕ = length bytes + c.args.left in
    let rest = further (bytes_of log.size) (c.args.number * 8192) c.args.left in
    let fault : header_fault c.args.before c.args.place (header_of bytes) ≡ None =
    sym (c.header_fault.ensures.value ∙ ap (header_fault c.args.before c.args.place) (c.header_of.ensures.value ∙ ap header_of c.deref.ensures.value)) ∙ c.in-None.is in
    let gathered_all = rw c.in-None-2.is at (c.in_ok-stop.ensures.gathered tells knows) in
    let len_is : c.len.result ≡ length bytes = omega (arith, c.len.ensures) in
    let same : seal_fault (bytes_of c.size-size.result) c.args.place (c.len.result + c.args.left) c.deref-2.result.now ≡ seal_fault (bytes_of log.size) c.args.place total all =
    ap (λ s. seal_fault (bytes_of s) c.args.place (c.len.result + c.args.left) c.deref-2.result.now) c.size-size.ensures.value
    ∙ ap (λ n. seal_fault (bytes_of log.size) c.args.place (n + c.args.left) c.deref-2.result.now) len_is
    ∙ ap (seal_fault (bytes_of log.size) c.args.place total) c.deref-2.ensures.value in
    let sealing : seal_fault (bytes_of log.size) c.args.place total all ≡ Some c.in-Err.why = sym same ∙ c.in-Err.ensures.err in
    body_on pages (bytes_of log.size) c.args.place total c.args.before rest bytes fault
    ∙ rest_sealed (bytes_of log.size) c.args.place total (gathered pages (bytes_of log.size) bytes rest) all (Some c.in-Err.why) gathered_all sealing
