-- A record that lies on its page, from the page's bytes.
use Rattle.std.proofs.Common.{◌≡◌, ℕ, ◌+◌, ◌-◌, ◌*◌, ◌/◌, ◌%◌, ◌≤◌, Bool, true, false, cond, List, length, Option, Some, None, Ok, IfSome, refl, sym, ap, subst, ◌∙◌, arith, eq-eqb}
use Rattle.std.proofs.lemmas.Bool.{le-leb}
use Rattle.layout.specs.Readers.{u32_at}
use Rattle.cluster_tree.specs.Contents.{Contents}
use Rattle.wal_pages.specs.Cursor.{PageView, Knows}
use Rattle.wal_pages.specs.Header.{header_of as page_header, header_size, page_of}
use Rattle.wal_records.specs.Place.{is_place, segment_end_at}
use Rattle.wal_records.specs.Header.{header_of}
use Rattle.wal_records.specs.Further.{Pages, pages_of, further, gathered}
use Rattle.wal_records.specs.Extent.{behind_of, is_switch, end_of}
use Rattle.wal_records.specs.Reading.{Spelled, reading, continues_at, record_of, sealed_end}
use Rattle.wal_records.specs.Steps.{IsWithin, EndsWithin, IsLinkedAll}
use Rattle.wal_records.proofs.FurtherLemmas.{header_short, gathered_end}
use Rattle.wal_records.proofs.ExtentLemmas.{behind_done}
use Rattle.wal_records.proofs.FactLemmas.{and_true, fresh_is, header_of_none, seal_none_is}
use Rattle.wal_records.proofs.PartLemmas.{word_taken}
use Rattle.wal_records.proofs.ReadingLemmas.{read_first, first_whole, body_on, rest_sealed}
use Rattle.wal_records.proofs.RelationLemmas.{length_fits}

-- a page that is held is the log's where the cursor knows it
pub known_at : (cursor : PageView) (contents : Contents) (at : ℕ) → cursor.held ≡ Some at → Knows cursor contents → pages_of cursor.log contents at ≡ Ok cursor.page
known_at cursor contents at held known = subst (λ (h : Option ℕ). IfSome h (λ p. pages_of cursor.log contents p ≡ Ok cursor.page)) held known

-- its last byte is followed on the page
behind_within : (size place total : ℕ) → place % 8192 + total ≤ 8192 → behind_of size place total ≡ place + total
unfolding behind_of
behind_within size place total fits = behind_done size _ _ _ (omega arith) ∙ omega arith

plain_end : (b : Bool) (x y : ℕ) → b ≡ false → cond b x y ≡ y
plain_end true x y e = absurd cc
plain_end false x y e = refl

end_is : (size place end : ℕ) (before : Option ℕ) (page bytes : List ℕ) → IsWithin page place bytes → EndsWithin before place bytes end → sealed_end size place (length bytes) bytes ≡ end
end_is size place end before page bytes within ends =
    ap (end_of size (header_of bytes)) (behind_within size place (length bytes) within.fits)
    ∙ plain_end (is_switch (header_of bytes)) (segment_end_at size (place + length bytes - 1)) ((place + length bytes + 7) / 8 * 8) ends.plain
    ∙ sym ends.at

pub within_read : (pages : Pages) (size place end : ℕ) (before : Option ℕ) (page bytes : List ℕ) → pages (page_of place) ≡ Ok page → IsWithin page place bytes → EndsWithin before place bytes end
    → reading pages size before place ≡ Spelled (record_of place end bytes)
within_read pages size place end before page bytes held within ends =
    let total : ℕ = length bytes in
    let short = header_short size (page_of place) in
    let here : is_place size place ≡ true = and_true _ _ (eq-eqb (place % 8) 0 within.aligned) (le-leb (header_size size (page_of place)) (place % 8192) (omega (arith, short, within.behind))) in
    let fresh : continues_at size place (page_header page).info ≡ false = fresh_is size place (page_header page).info (λ at. absurd (omega (arith, at, short, within.behind))) in
    let end_at = end_is size place end before page bytes within ends in
    let rest = further size (page_of place + 8192) 0 in
    read_first pages size place before page total bytes here held fresh (length_fits total within.least (omega (arith, within.fits))) (sym within.total) within.part
    ∙ first_whole pages size place total (page_of place + 8192) 0 before bytes within.least refl (omega arith)
    ∙ body_on pages size place total before rest bytes ends.header
    ∙ rest_sealed size place total (gathered pages size bytes rest) bytes None (gathered_end pages size (page_of place + 8192) 0 bytes refl)
    (seal_none_is size place total bytes (omega (arith, end_at, ends.low)) ends.sum)
    ∙ ap (λ e. Spelled (record_of place e bytes)) end_at

pub within_all : (place end : ℕ) (before : Option ℕ) (page bytes : List ℕ) → IsWithin page place bytes → EndsWithin before place bytes end → IsLinkedAll before place end bytes
within_all place end before page bytes within ends =
    record {
      all = record {
        least = within.least;
        greatest = omega (arith, within.fits);
        total = ap (u32_at 0) within.part ∙ word_taken (place % 8192) (length bytes) page (omega (arith, within.least, ap length within.part)) ∙ within.total;
        longer = omega (arith, ends.at, within.least);
      };
      linked = (header_of_none before place (header_of bytes) ends.header).1;
    }
