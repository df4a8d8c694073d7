-- A B-tree page made anew has no line.
use Rattle.std.proofs.Common.{◌≡◌, ℕ, ◌+◌, ◌-◌, ◌/◌, ◌≤◌, List, length, ◌∙◌, ap, arith}
use Rattle.std.specs.Prelude.{replicate}
use Rattle.layout.proofs.SpliceLemmas.{byte-splice_below}
use Rattle.page_layout.specs.Bytes.{up8, cut}
use Rattle.page_layout.specs.Page.{pd_lower, count}
use Rattle.page_layout.specs.Edits.{init_bytes}
use Rattle.page_layout.proofs.BytesLemmas.{length-cut}
use Rattle.page_layout.proofs.Front as Front
use Rattle.page_layout.proofs.Front.{SameFront}
use Rattle.page_layout.proofs.ReadLemmas.{lower_u16}
use Rattle.page_laws.specs.Btree.{made_anew}
use Rattle.page_laws.proofs.BtreeAnew.{init_size, init_page, empty_lower}

init_lower : pd_lower (init_bytes 16) ≡ 24
init_lower = lower_u16 (init_bytes 16) ∙ empty_lower (replicate 8192 0) init_size (8192 - up8 16)

pub anew_count : (p : List ℕ) → length p ≡ 8192 → count (made_anew p) ≡ 0
anew_count p size =
    let x = cut p 8176 16 in
    let part = length-cut p 8176 16 (omega (arith, size)) in
    let fits : 8176 + length x ≤ length (init_bytes 16) = omega (arith, part, init_page.page.size) in
    let same : SameFront (init_bytes 16) (made_anew p) = record {
      head = λ i le lt. byte-splice_below (init_bytes 16) 8176 x i fits (omega (arith, lt));
      lines = λ i le lt. byte-splice_below (init_bytes 16) 8176 x i fits (omega (arith, lt, init_lower));
    } in
    Front.count_same (init_bytes 16) (made_anew p) init_page.page.head same ∙ ap (λ n. (n - 24) / 4) init_lower
