-- Segment files that have the bytes of a log hold its pages.
use Rattle.std.proofs.Common.{◌≡◌, ℕ, ◌+◌, ◌-◌, ◌*◌, ◌/◌, ◌%◌, ◌^◌, ◌<◌, ◌≤◌, ◌++◌, Bool, true, false, nat_lt, List, [], ◌∷◌, take, drop, length, replicate, Option, Some, None, Ok, Err, refl, sym, ap, ◌∙◌, arith, mul_assoc, subst}
use Rattle.std.specs.Prelude.{if◌then◌else◌}
use Rattle.std.proofs.Math.Nat.{mul-le-mul_right, div-mul-le_self}
use Rattle.std.proofs.lemmas.Nat.{le-div, mod_below, div-add-mod'}
use Rattle.std.proofs.lemmas.Bool.Decides.{nat_tests}
use Rattle.cluster_tree.specs.Contents.{Contents, FileEntry, entry_at}
use Rattle.cluster_tree.specs.PathValue.{below}
use Rattle.wal_base.proofs.SizeLemmas.{size_facts}
use Rattle.wal_base.specs.Segment.{bytes_of, name_of}
use Rattle.wal_base.specs.declared.segment.Segment.{Segment}
use Rattle.wal_pages.specs.declared.log_path.LogPath.{LogPath}
use Rattle.wal_pages.specs.Folder.{file_in, folder_of}
use Rattle.wal_pages.specs.LogBytes.{segment_at, segment_bytes}
use Rattle.wal_pages.specs.Page.{Short, bytes_from}
use Rattle.wal_records.specs.declared.log_origin.LogOrigin.{LogOrigin}
use Rattle.wal_records.specs.Again.{IsLogFrom, Holds}
use Rattle.wal_records.specs.Stored.{IsPathOf, IsStored, segment_part}
use Rattle.wal_records.proofs.AppendLemmas.{size_some}
use Rattle.wal_records.proofs.PaddedLemmas.{padded_more, part_of_part, length_part}

-- a later position is of a later segment
div_up : (a b size : ℕ) → 0 < size → a ≤ b → a / size ≤ b / size
div_up a b size some h = le-div (a / size) b size some (omega (arith, div-mul-le_self a size, h))

in_range : (b : Bool) (x : Option (List ℕ)) → b ≡ true → (if b then x else None) ≡ x
in_range b x e = rw e refl

long_enough : (segment : Segment) (offset : ℕ) (bytes : List ℕ) → offset + 8192 ≤ length bytes → bytes_from segment offset (Some bytes) ≡ Ok (take 8192 (drop offset bytes))
long_enough segment offset bytes h =
    let no : nat_lt (length bytes) (offset + 8192) ≡ false = grind (arith, nat_tests, h) in
    ap (λ (b : Bool). if b then Err (Short segment) else Ok (take 8192 (drop offset bytes))) no

-- where a page lies in its segment
pub record PagePlace (size start at : ℕ) : Type 0 where
  pub fits : at % size + 8192 ≤ size
  pub behind : at / size * size - start + at % size ≡ at - start

page_place : (o : LogOrigin) (at : ℕ) → o.start % bytes_of o.size ≡ 0 → at % 8192 ≡ 0 → o.start ≤ at → PagePlace (bytes_of o.size) o.start at
page_place o at s p from =
    let size : ℕ = bytes_of o.size in
    let f = size_facts o.size.bytes o.size.is_size in
    let whole : at / size * size + at % size ≡ at = div-add-mod' at size in
    let first : o.start / size * size + o.start % size ≡ o.start = div-add-mod' o.start size in
    let parts : at / size * size ≡ at / size * f.mebibytes * 2 ^ 20 = ap (λ n. at / size * n) f.whole ∙ sym (mul_assoc (at / size) f.mebibytes (2 ^ 20)) in
    let below = mod_below at size (size_some o) in
    let up = mul-le-mul_right size (div_up o.start at size (size_some o) from) in
    record {
      fits = omega (arith, whole, parts, below, f.whole, p);
      behind = omega (arith, whole, first, s, up, from);
    }

-- the file of the segment that a page lies in
file_of_page : (log : LogPath) (contents : Contents) (at : ℕ) (bytes : List ℕ) → at < 2 ^ 64
    → entry_at contents (below log.folder (name_of (segment_at log at) ∷ [])) ≡ Some (FileEntry bytes) → segment_bytes log (folder_of contents log.folder) at ≡ Some bytes
file_of_page log contents at bytes low e =
    let yes : nat_lt at (2 ^ 64) ≡ true = grind (arith, nat_tests, low) in
    in_range (nat_lt at (2 ^ 64)) (folder_of contents log.folder (name_of (segment_at log at))) yes ∙ ap file_in e

-- the pages up to an end
pub stored_holds : (log : LogPath) (contents : Contents) (o : LogOrigin) (bytes : List ℕ) (zeros end : ℕ) → log.size ≡ o.size → o.start % bytes_of o.size ≡ 0 → end < 2 ^ 63
    → ((at : ℕ) → at % 8192 ≡ 0 → at ≤ o.start + length bytes → at ≤ end) → IsStored log contents o.start end (bytes ++ replicate zeros 0)
    → Holds log (folder_of contents log.folder) o.start bytes
stored_holds log contents o bytes zeros end same s low reach stored =
    record {
      page = λ at p from within.
          let size : ℕ = bytes_of log.size in
          let is : bytes_of log.size ≡ bytes_of o.size = ap bytes_of same in
          let some : 0 < size = omega (arith, size_some o, is) in
          let last : at ≤ end = reach at p within in
          let number : ℕ = at / size in
          let offset : ℕ = at % size in
          let all : List ℕ = bytes ++ replicate zeros 0 in
          let part : List ℕ = segment_part size o.start all number in
          let place : PagePlace size o.start at = subst (λ (n : ℕ). PagePlace n o.start at) (sym is) (page_place o at s p from) in
          let file = file_of_page log contents at part (omega (arith, last, low)) (stored.file number (div_up o.start at size some from) (div_up at end size some last)) in
          let long : offset + 8192 ≤ length part = omega (arith, place.fits, length_part all (number * size - o.start) size) in
          ap (bytes_from (segment_at log at) offset) file
          ∙ long_enough (segment_at log at) offset part long
          ∙ ap (λ (t : List ℕ). Ok t)
          (part_of_part all (number * size - o.start) offset 8192 size place.fits
          ∙ ap (λ (n : ℕ). take 8192 (drop n all ++ replicate 8192 0)) place.behind
          ∙ padded_more bytes (at - o.start) zeros 8192);
    }

-- a path of an origin's log reads it from where it begins on
pub path_from : (log : LogPath) (o : LogOrigin) → o.tli < 2 ^ 32 → o.system < 2 ^ 64 → IsPathOf log o → IsLogFrom log o
path_from log o low known of = λ at from.
    let is : bytes_of log.size ≡ bytes_of o.size = ap bytes_of of.size in
    let up : o.start / bytes_of o.size ≤ at / bytes_of log.size = omega (arith, div_up o.start at (bytes_of o.size) (size_some o) from, ap (λ (n : ℕ). at / n) is) in
    record {
      size = of.size;
      timeline = of.timeline;
      low = low;
      span = of.later (at / bytes_of log.size) up;
      system = of.system;
      known = known;
    }
