-- Pages on which redo can't go astray: PostgreSQL 16, src/include/access/htup_details.h, t_hoff. Own: "Sound pages".
use Rattle.std.specs.Prelude.{ℕ, zero, suc, ◌+◌, ◌==◌, ◌&&◌, List, Bool, true, nat_le, if◌then◌else◌}
use Rattle.page_layout.specs.Bytes.{byte}
use Rattle.page_layout.specs.Page.{count, lp_off, lp_flags, lp_len}
use Rattle.page_layout.specs.Deletes.{all_apart}
use Rattle.page_masks.specs.Kind.{kind_of}
use Rattle.page_masks.specs.declared.kind.PageKind.{PageKind}
use Rattle.page_masks.specs.declared.kind.PageKind.TheVariants.{Zero, Heap, Btree, Sequence, Other}

-- a normal item of 23 bytes or more has its header's length from 23 to its own
abbrev pub has_good_hoff : List ℕ → ℕ → Bool
has_good_hoff p k =
    if lp_flags p k == 1 && nat_le 23 (lp_len p k)
    then nat_le 23 (byte p (lp_off p k + 22)) && nat_le (byte p (lp_off p k + 22)) (lp_len p k)
    else true

-- so have those of the first n lines
abbrev pub have_good_hoffs : List ℕ → ℕ → Bool
have_good_hoffs p zero = true
have_good_hoffs p (suc n) = have_good_hoffs p n && has_good_hoff p n

-- a heap page's and a B-tree page's items don't overlap, and a heap page's headers fit; other pages always are
abbrev pub sound_as : PageKind → List ℕ → Bool
sound_as Zero p = true
sound_as Heap p = all_apart p (count p) && have_good_hoffs p (count p)
sound_as Btree p = all_apart p (count p)
sound_as Sequence p = true
sound_as Other p = true

-- a sound page
unfoldable pub is_sound : List ℕ → Bool
is_sound p = sound_as (kind_of p) p
