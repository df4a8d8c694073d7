-- Items laid anew from the special space downwards: PostgreSQL 16, src/backend/storage/page/bufpage.c, PageRepairFragmentation.
use Rattle.std.specs.Prelude.{ℕ, zero, suc, ◌+◌, ◌-◌, ◌==◌, List, Bool, nat_le, replicate, Result, Ok, Option, Some, None, if◌then◌else◌}
use Rattle.layout.specs.Splice.{splice}
use Rattle.page_layout.specs.Bytes.{with_u16, up8}
use Rattle.page_layout.specs.Page.{pd_lower, pd_special, count, lp_flags, lp_len, item, well_formed}
use Rattle.page_layout.specs.Edits.{with_pointer, with_item, refuse_or}
use Rattle.page_layout.specs.declared.refusal.PageRefusal.{PageRefusal}
use Rattle.page_layout.specs.declared.refusal.PageRefusal.TheVariants.{NoRoom, BadPage}

-- how many bytes the items of the first n lines take, each rounded up to 8
abbrev pub total : List ℕ → ℕ → ℕ
total p zero = 0
total p (suc n) = total p n + up8 (lp_len p n)

-- where the item of line k comes to lie
abbrev pub packed_off : List ℕ → ℕ → ℕ
packed_off p k = pd_special p - total p (suc k)

-- line k and its item, over what stands there
abbrev pub with_packed : List ℕ → ℕ → List ℕ → List ℕ
with_packed p k page =
    if lp_len p k == 0 then page
    else with_pointer (with_item page (item p k) (packed_off p k)) k (packed_off p k) (lp_flags p k) (lp_len p k)

-- the first n lines and their items, over what stands there
abbrev pub packed_lines : List ℕ → List ℕ → ℕ → List ℕ
packed_lines p page zero = page
packed_lines p page (suc n) = with_packed p n (packed_lines p page n)

-- all bytes between lower and special cleared
abbrev pub emptied : List ℕ → List ℕ
emptied p = splice p (pd_lower p) (replicate (pd_special p - pd_lower p) 0)

-- all lines and items laid anew, and upper
abbrev pub packed : List ℕ → List ℕ
packed p = with_u16 (packed_lines p (emptied p) (count p)) 14 (pd_special p - total p (count p))

-- do the items fit between lower and special
abbrev pub has_room : List ℕ → Bool
has_room p = nat_le (pd_lower p + total p (count p)) (pd_special p)

-- why a well formed page can't be packed
abbrev pub room_refusal : List ℕ → Option PageRefusal
room_refusal p = if has_room p then None else Some NoRoom

-- why the page can't be packed
abbrev pub pack_refusal : List ℕ → Option PageRefusal
pack_refusal p = if well_formed p then room_refusal p else Some BadPage

-- pack
abbrev pub pack : List ℕ → Result (List ℕ) PageRefusal
pack p = refuse_or (pack_refusal p) (Ok (packed p))
