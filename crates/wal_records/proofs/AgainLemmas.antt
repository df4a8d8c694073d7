-- What was written is read again: numbers, the header of a record, and the header of a page.
use Rattle.std.proofs.Common.{◌≡◌, ℕ, ◌+◌, ◌%◌, ◌^◌, ◌<◌, ◌≤◌, ◌++◌, Bool, true, false, nat_eq, List, [], ◌∷◌, take, drop, length, replicate, Option, Some, None, refl, sym, ap, ◌∙◌, append_assoc, arith, inl, inr, cond, subst, length-append}
use Rattle.std.proofs.lemmas.List.{drop_at, take_at, get_or-append_right}
use Rattle.std.proofs.lemmas.Bool.{cases_eq}
use Rattle.std.proofs.lemmas.Bool.Decides.{nat_tests}
use Rattle.byteorder.specs.Endian.{little_bytes, little_number}
use Rattle.byteorder.specs.Numbers.{little_number-reads_back}
use Rattle.layout.specs.Readers.{u8_at, u16_at, u32_at, u64_at}
use Rattle.wal_base.specs.Crc.{crc32c}
use Rattle.wal_base.proofs.CrcFold.{crc32c_below}
use Rattle.wal_base.specs.Segment.{bytes_of}
use Rattle.wal_pages.specs.Header.{has_bit}
use Rattle.wal_records.specs.declared.header.RecordHeader.{RecordHeader}
use Rattle.wal_records.specs.declared.log_origin.LogOrigin.{LogOrigin}
use Rattle.wal_records.specs.Header.{header_of, header_fault, is_no_manager, is_linked}
use Rattle.wal_records.specs.Writer.{NewRecord, page_info, short_header, long_header, page_header, link_to, record_front, record_bytes}
use Rattle.wal_pages.specs.declared.log_path.LogPath.{LogPath}
use Rattle.wal_pages.specs.ValidPage.{IsValidPage, is_first}
use Rattle.wal_records.specs.Again.{IsNew, header_given, IsReadAgain, PageIsReadAgain, IsLogOf}
use Rattle.wal_records.proofs.WriterLemmas.{length-record_front, length_record_bytes, length-short_header, long_page_header, short_page_header}

-- a number of two, four or eight bytes, and a byte, behind so many others
pub half_in : (pre post : List ℕ) (n at : ℕ) → n < 2 ^ 16 → length pre ≡ at → u16_at at (pre ++ (little_bytes 2 n ++ post)) ≡ n
unfolding u16_at
half_in pre post n at fits e = ap (little_number 2) (drop_at pre (little_bytes 2 n ++ post) at e) ∙ little_number-reads_back 2 n post fits

pub word_in : (pre post : List ℕ) (n at : ℕ) → n < 2 ^ 32 → length pre ≡ at → u32_at at (pre ++ (little_bytes 4 n ++ post)) ≡ n
unfolding u32_at
word_in pre post n at fits e = ap (little_number 4) (drop_at pre (little_bytes 4 n ++ post) at e) ∙ little_number-reads_back 4 n post fits

pub long_in : (pre post : List ℕ) (n at : ℕ) → n < 2 ^ 64 → length pre ≡ at → u64_at at (pre ++ (little_bytes 8 n ++ post)) ≡ n
unfolding u64_at
long_in pre post n at fits e = ap (little_number 8) (drop_at pre (little_bytes 8 n ++ post) at e) ∙ little_number-reads_back 8 n post fits

pub byte_in : (pre post : List ℕ) (n at : ℕ) → length pre ≡ at → u8_at at (pre ++ (n ∷ post)) ≡ n
unfolding u8_at
byte_in pre post n at e = grind (arith, get_or-append_right pre (n ∷ post) at at 0 e (omega arith))

six : (a b d e f g : List ℕ) → ((((a ++ b) ++ d) ++ e) ++ f) ++ g ≡ a ++ (b ++ (d ++ (e ++ (f ++ g))))
six a b d e f g = simp append_assoc

-- the bytes of a record, field by field
abbrev parts : Option ℕ → NewRecord → List ℕ
parts before r =
    little_bytes 4 (24 + length r.body) ++ (little_bytes 4 r.xid ++ (little_bytes 8 (link_to before) ++ ((r.info ∷ r.manager ∷ 0 ∷ 0 ∷ []) ++ (little_bytes 4 (crc32c (r.body ++ record_front before r)) ++ r.body))))

in_parts : (before : Option ℕ) (r : NewRecord) → record_bytes before r ≡ parts before r
unfolding record_bytes record_front
in_parts before r =
    six (little_bytes 4 (24 + length r.body)) (little_bytes 4 r.xid) (little_bytes 8 (link_to before)) (r.info ∷ r.manager ∷ 0 ∷ 0 ∷ []) (little_bytes 4 (crc32c (r.body ++ record_front before r))) r.body

header_is : (t x p i m c u y q j n d : ℕ) → t ≡ u → x ≡ y → p ≡ q → i ≡ j → m ≡ n → c ≡ d
    → ◌≡◌ {A = RecordHeader} (record { total = t; xid = x; prev = record { 0 = p }; info = i; manager = m; crc = c }) (record { total = u; xid = y; prev = record { 0 = q }; info = j; manager = n; crc = d })
header_is t x p i m c u y q j n d e f g h k l = cc

-- each field of a record's header
header_in : (t x p s body : List ℕ) (total xid prev info manager crc : ℕ) → total < 2 ^ 32 → xid < 2 ^ 32 → prev < 2 ^ 64 → crc < 2 ^ 32
    → t ≡ little_bytes 4 total → x ≡ little_bytes 4 xid → p ≡ little_bytes 8 prev → s ≡ little_bytes 4 crc
    → header_of (t ++ (x ++ (p ++ ((info ∷ manager ∷ 0 ∷ 0 ∷ []) ++ (s ++ body)))))
    ≡ record { total = total; xid = xid; prev = record { 0 = prev }; info = info; manager = manager; crc = crc }
header_in t x p s body total xid prev info manager crc ft fx fp fc et ex ep es =
    let d : List ℕ = info ∷ manager ∷ 0 ∷ 0 ∷ [] in
    let whole : List ℕ = t ++ (x ++ (p ++ (d ++ (s ++ body)))) in
    let lt : length t ≡ 4 = ap length et in
    let lx : length x ≡ 4 = ap length ex in
    let lp : length p ≡ 8 = ap length ep in
    let two : whole ≡ (t ++ x) ++ (p ++ (d ++ (s ++ body))) = sym (append_assoc t x (p ++ (d ++ (s ++ body)))) in
    let three : whole ≡ ((t ++ x) ++ p) ++ (d ++ (s ++ body)) = two ∙ sym (append_assoc (t ++ x) p (d ++ (s ++ body))) in
    let four : whole ≡ (((t ++ x) ++ p) ++ d) ++ (s ++ body) = three ∙ sym (append_assoc ((t ++ x) ++ p) d (s ++ body)) in
    let three_b : whole ≡ (((t ++ x) ++ p) ++ (info ∷ [])) ++ (manager ∷ 0 ∷ 0 ∷ (s ++ body)) = three ∙ sym (append_assoc ((t ++ x) ++ p) (info ∷ []) (manager ∷ 0 ∷ 0 ∷ (s ++ body))) in
    let l2 : length (t ++ x) ≡ 8 = omega (arith, length-append t x, lt, lx) in
    let l3 : length ((t ++ x) ++ p) ≡ 16 = omega (arith, length-append (t ++ x) p, l2, lp) in
    let l3b : length (((t ++ x) ++ p) ++ (info ∷ [])) ≡ 17 = omega (arith, length-append ((t ++ x) ++ p) (info ∷ []), l3) in
    let l4 : length (((t ++ x) ++ p) ++ d) ≡ 20 = omega (arith, length-append ((t ++ x) ++ p) d, l3) in
    header_is (u32_at 0 whole) (u32_at 4 whole) (u64_at 8 whole) (u8_at 16 whole) (u8_at 17 whole) (u32_at 20 whole) total xid prev info manager crc
    (ap (λ (w : List ℕ). u32_at 0 (w ++ (x ++ (p ++ (d ++ (s ++ body)))))) et ∙ word_in [] (x ++ (p ++ (d ++ (s ++ body)))) total 0 ft refl)
    (ap (λ (w : List ℕ). u32_at 4 (t ++ (w ++ (p ++ (d ++ (s ++ body)))))) ex ∙ word_in t (p ++ (d ++ (s ++ body))) xid 4 fx lt)
    (ap (u64_at 8) two ∙ ap (λ (w : List ℕ). u64_at 8 ((t ++ x) ++ (w ++ (d ++ (s ++ body))))) ep ∙ long_in (t ++ x) (d ++ (s ++ body)) prev 8 fp l2)
    (ap (u8_at 16) three ∙ byte_in ((t ++ x) ++ p) (manager ∷ 0 ∷ 0 ∷ (s ++ body)) info 16 l3)
    (ap (u8_at 17) three_b ∙ byte_in (((t ++ x) ++ p) ++ (info ∷ [])) (0 ∷ 0 ∷ (s ++ body)) manager 17 l3b)
    (ap (u32_at 20) four ∙ ap (λ (w : List ℕ). u32_at 20 ((((t ++ x) ++ p) ++ d) ++ (w ++ body))) es ∙ word_in (((t ++ x) ++ p) ++ d) body crc 20 fc l4)

header_again : (before : Option ℕ) (r : NewRecord) → IsNew before r → header_of (record_bytes before r) ≡ header_given before r
header_again before r n =
    ap header_of (in_parts before r)
    ∙ header_in (little_bytes 4 (24 + length r.body)) (little_bytes 4 r.xid) (little_bytes 8 (link_to before)) (little_bytes 4 (crc32c (r.body ++ record_front before r))) r.body
    (24 + length r.body) r.xid (link_to before) r.info r.manager (crc32c (r.body ++ record_front before r))
    (omega (arith, n.size)) n.xid n.link (crc32c_below (r.body ++ record_front before r)) refl refl refl refl

sum_split : (front sum body : List ℕ) → length front ≡ 20 → length sum ≡ 4 → (drop 24 ((front ++ sum) ++ body) ≡ body) × (take 20 ((front ++ sum) ++ body) ≡ front)
sum_split front sum body f s = (
  drop_at (front ++ sum) body 24 (omega (arith, length-append front sum, f, s)),
  ap (take 20) (append_assoc front sum body) ∙ take_at front (sum ++ body) 20 f,
)

split_again : (before : Option ℕ) (r : NewRecord) → (drop 24 (record_bytes before r) ≡ r.body) × (take 20 (record_bytes before r) ≡ record_front before r)
unfolding record_bytes
split_again before r = sum_split (record_front before r) (little_bytes 4 (crc32c (r.body ++ record_front before r))) r.body (length-record_front before r) refl

link_again : (before : Option ℕ) (place : ℕ) → 0 < place → is_linked before place (link_to before) ≡ true
link_again None place some = grind arith
link_again (Some before) place some = grind arith

manager_again : (manager : ℕ) → (22 ≤ manager → 128 ≤ manager) → is_no_manager manager ≡ false
manager_again manager h = grind (arith, h)

fault_none : (before : Option ℕ) (place : ℕ) (header : RecordHeader) → is_no_manager header.manager ≡ false → is_linked before place header.prev.0 ≡ true → header_fault before place header ≡ None
fault_none before place header m l = rw (m, l) refl

pub records_again : (before : Option ℕ) (r : NewRecord) → IsNew before r → IsReadAgain before r
records_again before r n =
    let header = header_again before r n in
    let split = split_again before r in
    record {
      size = length_record_bytes before r;
      header = header;
      body = split.0;
      sum =
          ap (λ (b : List ℕ). crc32c (b ++ take 20 (record_bytes before r))) split.0
          ∙ ap (λ (f : List ℕ). crc32c (r.body ++ f)) split.1
          ∙ sym (ap (λ (h : RecordHeader). h.crc) header);
      linked = λ place some.
          ap (header_fault before place) header
          ∙ fault_none before place (header_given before r) (manager_again r.manager n.manager) (link_again before place some);
    }

page_info_low : (size at remaining : ℕ) → page_info size at remaining < 4
page_info_low size at remaining = grind arith

-- each field of a page's header
short_parts : (m i t a r z rest : List ℕ) → (((((m ++ i) ++ t) ++ a) ++ r) ++ z) ++ rest ≡ m ++ (i ++ (t ++ (a ++ (r ++ (z ++ rest)))))
short_parts m i t a r z rest = simp append_assoc

pub record ShortFields (origin : LogOrigin) (at left : ℕ) (page : List ℕ) : Type 0 where
  pub magic : u16_at 0 page ≡ 0xD113
  pub info : u16_at 2 page ≡ page_info (bytes_of origin.size) at left
  pub tli : u32_at 4 page ≡ origin.tli
  pub address : u64_at 8 page ≡ at
  pub remaining : u32_at 16 page ≡ left

fields_in : (origin : LogOrigin) (at left : ℕ) (m i t a r rest page : List ℕ) → origin.tli < 2 ^ 32 → at < 2 ^ 64 → left < 2 ^ 32
    → m ≡ little_bytes 2 0xD113 → i ≡ little_bytes 2 (page_info (bytes_of origin.size) at left) → t ≡ little_bytes 4 origin.tli → a ≡ little_bytes 8 at → r ≡ little_bytes 4 left
    → page ≡ m ++ (i ++ (t ++ (a ++ (r ++ rest)))) → ShortFields origin at left page
fields_in origin at left m i t a r rest page ft fa fr em ei et ea er whole =
    let info : ℕ = page_info (bytes_of origin.size) at left in
    let lm : length m ≡ 2 = ap length em in
    let li : length i ≡ 2 = ap length ei in
    let lt : length t ≡ 4 = ap length et in
    let la : length a ≡ 8 = ap length ea in
    let two : page ≡ (m ++ i) ++ (t ++ (a ++ (r ++ rest))) = whole ∙ sym (append_assoc m i (t ++ (a ++ (r ++ rest)))) in
    let three : page ≡ ((m ++ i) ++ t) ++ (a ++ (r ++ rest)) = two ∙ sym (append_assoc (m ++ i) t (a ++ (r ++ rest))) in
    let four : page ≡ (((m ++ i) ++ t) ++ a) ++ (r ++ rest) = three ∙ sym (append_assoc ((m ++ i) ++ t) a (r ++ rest)) in
    let l2 : length (m ++ i) ≡ 4 = omega (arith, length-append m i, lm, li) in
    let l3 : length ((m ++ i) ++ t) ≡ 8 = omega (arith, length-append (m ++ i) t, l2, lt) in
    let l4 : length (((m ++ i) ++ t) ++ a) ≡ 16 = omega (arith, length-append ((m ++ i) ++ t) a, l3, la) in
    record {
      magic = ap (u16_at 0) whole ∙ ap (λ (w : List ℕ). u16_at 0 (w ++ (i ++ (t ++ (a ++ (r ++ rest)))))) em ∙ half_in [] (i ++ (t ++ (a ++ (r ++ rest)))) 0xD113 0 (omega arith) refl;
      info = ap (u16_at 2) whole ∙ ap (λ (w : List ℕ). u16_at 2 (m ++ (w ++ (t ++ (a ++ (r ++ rest)))))) ei ∙ half_in m (t ++ (a ++ (r ++ rest))) info 2 (omega (arith, page_info_low (bytes_of origin.size) at left)) lm;
      tli = ap (u32_at 4) two ∙ ap (λ (w : List ℕ). u32_at 4 ((m ++ i) ++ (w ++ (a ++ (r ++ rest))))) et ∙ word_in (m ++ i) (a ++ (r ++ rest)) origin.tli 4 ft l2;
      address = ap (u64_at 8) three ∙ ap (λ (w : List ℕ). u64_at 8 (((m ++ i) ++ t) ++ (w ++ (r ++ rest)))) ea ∙ long_in ((m ++ i) ++ t) (r ++ rest) at 8 fa l3;
      remaining = ap (u32_at 16) four ∙ ap (λ (w : List ℕ). u32_at 16 ((((m ++ i) ++ t) ++ a) ++ (w ++ rest))) er ∙ word_in (((m ++ i) ++ t) ++ a) rest left 16 fr l4;
    }

short_again : (origin : LogOrigin) (at left : ℕ) (rest : List ℕ) → origin.tli < 2 ^ 32 → at < 2 ^ 64 → left < 2 ^ 32 → ShortFields origin at left (short_header origin at left ++ rest)
unfolding short_header
short_again origin at left rest ft fa fr =
    let m : List ℕ = little_bytes 2 0xD113 in
    let i : List ℕ = little_bytes 2 (page_info (bytes_of origin.size) at left) in
    let t : List ℕ = little_bytes 4 origin.tli in
    let a : List ℕ = little_bytes 8 at in
    let r : List ℕ = little_bytes 4 left in
    fields_in origin at left m i t a r (replicate 4 0 ++ rest) _ ft fa fr refl refl refl refl refl (short_parts m i t a r (replicate 4 0) rest)

-- and what a segment's first page has besides
pub record LongFields (origin : LogOrigin) (page : List ℕ) : Type 0 where
  pub system : u64_at 24 page ≡ origin.system
  pub segment_size : u32_at 32 page ≡ bytes_of origin.size
  pub block_size : u32_at 36 page ≡ 8192

long_parts : (h s z b rest : List ℕ) → (h ++ ((s ++ z) ++ b)) ++ rest ≡ h ++ (s ++ (z ++ (b ++ rest)))
long_parts h s z b rest = simp append_assoc

long_in_fields : (origin : LogOrigin) (h s z b rest page : List ℕ) → length h ≡ 24 → origin.system < 2 ^ 64
    → s ≡ little_bytes 8 origin.system → z ≡ little_bytes 4 (bytes_of origin.size) → b ≡ little_bytes 4 8192 → page ≡ h ++ (s ++ (z ++ (b ++ rest))) → LongFields origin page
long_in_fields origin h s z b rest page lh fs es ez eb whole =
    let ls : length s ≡ 8 = ap length es in
    let lz : length z ≡ 4 = ap length ez in
    let two : page ≡ (h ++ s) ++ (z ++ (b ++ rest)) = whole ∙ sym (append_assoc h s (z ++ (b ++ rest))) in
    let three : page ≡ ((h ++ s) ++ z) ++ (b ++ rest) = two ∙ sym (append_assoc (h ++ s) z (b ++ rest)) in
    let l2 : length (h ++ s) ≡ 32 = omega (arith, length-append h s, lh, ls) in
    let l3 : length ((h ++ s) ++ z) ≡ 36 = omega (arith, length-append (h ++ s) z, l2, lz) in
    record {
      system = ap (u64_at 24) whole ∙ ap (λ (w : List ℕ). u64_at 24 (h ++ (w ++ (z ++ (b ++ rest))))) es ∙ long_in h (z ++ (b ++ rest)) origin.system 24 fs lh;
      segment_size = ap (u32_at 32) two ∙ ap (λ (w : List ℕ). u32_at 32 ((h ++ s) ++ (w ++ (b ++ rest)))) ez ∙ word_in (h ++ s) (b ++ rest) (bytes_of origin.size) 32 (omega (arith, origin.size.is_size.greatest)) l2;
      block_size = ap (u32_at 36) three ∙ ap (λ (w : List ℕ). u32_at 36 (((h ++ s) ++ z) ++ (w ++ rest))) eb ∙ word_in ((h ++ s) ++ z) rest 8192 36 (omega arith) l3;
    }

long_again : (origin : LogOrigin) (at left : ℕ) (rest : List ℕ) → origin.system < 2 ^ 64 → LongFields origin ((short_header origin at left ++ long_header origin) ++ rest)
unfolding long_header
long_again origin at left rest fs =
    let h : List ℕ = short_header origin at left in
    let s : List ℕ = little_bytes 8 origin.system in
    let z : List ℕ = little_bytes 4 (bytes_of origin.size) in
    let b : List ℕ = little_bytes 4 8192 in
    long_in_fields origin h s z b rest _ (length-short_header origin at left) fs refl refl refl (long_parts h s z b rest)

bit_two : (none first : Bool) → has_bit (cond none 0 1 + cond first 2 0) 2 ≡ first
bit_two true true = refl
bit_two true false = refl
bit_two false true = refl
bit_two false false = refl

-- a segment's first page, and no other, has the bit of the long header
long_bit : (size at left : ℕ) → has_bit (page_info size at left) 2 ≡ nat_eq (at % size) 0
long_bit size at left = bit_two (nat_eq left 0) (nat_eq (at % size) 0)

first_zero : (n : ℕ) → nat_eq n 0 ≡ true → n ≡ 0
first_zero n e = grind (arith, nat_tests)

valid_of : (log : LogPath) (origin : LogOrigin) (at left : ℕ) (page : List ℕ) → IsLogOf log origin at → ShortFields origin at left page
    → (at % bytes_of origin.size ≡ 0 → LongFields origin page) → IsValidPage log at page
valid_of log origin at left page of short long =
    let size : bytes_of log.size ≡ bytes_of origin.size = ap bytes_of of.size in
    let first = λ (h : is_first log at ≡ true). long (ap (λ (n : ℕ). at % n) (sym size) ∙ first_zero (at % bytes_of log.size) h) in
    record {
      magic = short.magic;
      known_bits = omega (arith, short.info, page_info_low (bytes_of origin.size) at left);
      long = ap (λ (n : ℕ). has_bit n 2) short.info ∙ long_bit (bytes_of origin.size) at left ∙ ap (λ (n : ℕ). nat_eq (at % n) 0) (sym size);
      timeline = (omega (arith, short.tli, of.timeline), omega (arith, short.tli, of.span));
      address = short.address;
      system = λ h wanted e. (first h).system ∙ sym (of.system wanted e);
      segment_size = λ h. (first h).segment_size ∙ sym size;
      block_size = λ h. (first h).block_size;
    }

fields_again : (origin : LogOrigin) (at left : ℕ) (rest : List ℕ) → origin.tli < 2 ^ 32 → at < 2 ^ 64 → left < 2 ^ 32 → ShortFields origin at left (page_header origin at left ++ rest)
fields_again origin at left rest ft fa fr =
    elim (cases_eq (at % bytes_of origin.size) 0) [
      | inl first ↦
          subst (ShortFields origin at left) (sym (ap (λ (h : List ℕ). h ++ rest) (long_page_header origin at left first) ∙ append_assoc (short_header origin at left) (long_header origin) rest))
          (short_again origin at left (long_header origin ++ rest) ft fa fr)
      | inr other ↦ subst (ShortFields origin at left) (sym (ap (λ (h : List ℕ). h ++ rest) (short_page_header origin at left other))) (short_again origin at left rest ft fa fr)
    ]

pub pages_again : (log : LogPath) (origin : LogOrigin) (at left : ℕ) (rest : List ℕ) → at < 2 ^ 64 → left < 2 ^ 32 → IsLogOf log origin at → PageIsReadAgain log origin at left (page_header origin at left ++ rest)
pages_again log origin at left rest fa fr of =
    let short = fields_again origin at left rest of.low fa fr in
    record {
      valid = valid_of log origin at left (page_header origin at left ++ rest) of short
          (λ first. subst (LongFields origin) (sym (ap (λ (h : List ℕ). h ++ rest) (long_page_header origin at left first))) (long_again origin at left rest of.known));
      info = short.info;
      remaining = short.remaining;
    }
