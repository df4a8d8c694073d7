-- A data page: PostgreSQL 16, src/include/storage/bufpage.h, PageHeaderData, and itemid.h, ItemIdData.
use Rattle.std.specs.Prelude.{ℕ, zero, suc, ◌≡◌, ◌+◌, ◌-◌, ◌*◌, ◌/◌, ◌%◌, ◌≤◌, ◌==◌, ◌&&◌, ◌||◌, List, Bool, true, nat_le, nat_lt, length, if◌then◌else◌}
use Rattle.page_layout.specs.Bytes.{u16_at, cut, up8}
use Rattle.page_layout.specs.declared.line.Line.{Line}
use Rattle.page_layout.specs.declared.line.Line.TheVariants.{Unused, Normal, Redirect, Dead}

-- where the lines end
unfoldable pub pd_lower : List ℕ → ℕ
pd_lower p = u16_at p 12

-- where the items begin
unfoldable pub pd_upper : List ℕ → ℕ
pd_upper p = u16_at p 14

-- where the special space begins
unfoldable pub pd_special : List ℕ → ℕ
pd_special p = u16_at p 16

-- how many lines the array has
abbrev pub count : List ℕ → ℕ
count p = (pd_lower p - 24) / 4

-- is there a line at this place, counted from 1
abbrev pub is_place : List ℕ → ℕ → Bool
is_place p place = nat_lt 0 place && nat_le place (count p)

-- of the line at index k, counted from 0: where its item lies
unfoldable pub lp_off : List ℕ → ℕ → ℕ
lp_off p k = u16_at p (24 + 4 * k) % 32768

-- .. its kind: 0 unused, 1 normal, 2 redirect, 3 dead
unfoldable pub lp_flags : List ℕ → ℕ → ℕ
lp_flags p k = u16_at p (24 + 4 * k) / 32768 % 2 + 2 * (u16_at p (26 + 4 * k) % 2)

-- .. and its item's length
unfoldable pub lp_len : List ℕ → ℕ → ℕ
lp_len p k = u16_at p (26 + 4 * k) / 2

-- 24 <= lower <= upper <= special <= 8192, aligned, of layout 4 and 8192 bytes
unfoldable pub header_fits : List ℕ → Bool
header_fits p =
    nat_le 24 (pd_lower p) && nat_le (pd_lower p) (pd_upper p)
    && nat_le (pd_upper p) (pd_special p) && nat_le (pd_special p) 8192
    && pd_lower p % 4 == 0 && pd_upper p % 8 == 0 && pd_special p % 8 == 0 && u16_at p 18 == 8196

-- the header of a well formed page
pub record Head (p : List ℕ) : Type 0 where
  pub low : 24 ≤ pd_lower p
  pub mid : pd_lower p ≤ pd_upper p
  pub high : pd_upper p ≤ pd_special p
  pub top : pd_special p ≤ 8192
  pub by4 : pd_lower p % 4 ≡ 0
  pub by8 : pd_upper p % 8 ≡ 0
  pub special8 : pd_special p % 8 ≡ 0
  pub layout : u16_at p 18 ≡ 8196

-- a line of length 0 points nowhere; another points to bytes between upper and special
unfoldable pub line_fits : List ℕ → ℕ → Bool
line_fits p k = lp_len p k == 0
    || (nat_le (pd_upper p) (lp_off p k) && nat_le (lp_off p k + lp_len p k) (pd_special p) && lp_off p k % 8 == 0)

-- where the item of a line lies
pub record ItemIn (p : List ℕ) (k : ℕ) : Type 0 where
  pub from : pd_upper p ≤ lp_off p k
  pub to : lp_off p k + lp_len p k ≤ pd_special p
  pub by8 : lp_off p k % 8 ≡ 0
  pub held : lp_off p k + up8 (lp_len p k) ≤ pd_special p

-- each of the first n lines does
abbrev pub lines_fit : List ℕ → ℕ → Bool
lines_fit p zero = true
lines_fit p (suc n) = lines_fit p n && line_fits p n

-- a well formed page
abbrev pub well_formed : List ℕ → Bool
well_formed p = header_fits p && lines_fit p (count p)

-- the same of 8192 bytes, as a fact
pub record IsFormed (p : List ℕ) : Type 0 where
  pub size : length p ≡ 8192
  pub head : Head p
  pub lines : lines_fit p (count p) ≡ true

-- the line as a value
abbrev pub line_of : ℕ → ℕ → ℕ → Line
line_of flags at len =
    if flags == 0 then Unused
    else if flags == 1 then Normal at len
    else if flags == 2 then Redirect at
    else Dead at len

-- the line at index k
abbrev pub line_at : List ℕ → ℕ → Line
line_at p k = line_of (lp_flags p k) (lp_off p k) (lp_len p k)

-- the bytes that a line points to
abbrev pub item : List ℕ → ℕ → List ℕ
item p k = cut p (lp_off p k) (lp_len p k)
