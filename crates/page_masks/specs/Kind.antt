-- What sort of page this is, told by its special space.
use Rattle.std.specs.Prelude.{ℕ, ◌==◌, ◌&&◌, List, Bool, nat_le, if◌then◌else◌}
use Rattle.std.specs.List.{list_all}
use Rattle.page_layout.specs.Bytes.{u16_at, u32_at}
use Rattle.page_layout.specs.Page.{pd_special, well_formed}
use Rattle.page_masks.specs.declared.kind.PageKind.{PageKind}
use Rattle.page_masks.specs.declared.kind.PageKind.TheVariants.{Zero, Heap, Btree, Sequence, Other}

abbrev pub is_zero : List ℕ → Bool
is_zero p = list_all (λ b. b == 0) p

abbrev pub kind_by_special : List ℕ → PageKind
kind_by_special p =
    if pd_special p == 8192 then Heap
    else if pd_special p == 8176 && nat_le (u16_at p 8190) 0xFF7F then Btree
    else if pd_special p == 8184 && u32_at p 8184 == 0x1717 then Sequence
    else Other

unfoldable pub kind_of : List ℕ → PageKind
kind_of p = if is_zero p then Zero else if well_formed p then kind_by_special p else Other
