-- The special space of a page, written back.
use Rattle.std.proofs.Common.{◌≡◌, ℕ, ◌+◌, ◌≤◌, List, length, take, drop, sym, ◌∙◌, ap, subst, arith}
use borrow.Rule.Slice.PartMut.{put_mid}
use Rattle.layout.specs.Splice.{splice}
use Rattle.layout.proofs.SpliceLemmas.{length-splice, byte-splice_below}
use Rattle.page_layout.specs.Bytes.{cut}
use Rattle.page_layout.specs.Page.{pd_special, count, lines_fit, IsFormed}
use Rattle.page_layout.specs.Edits.{init_bytes}
use Rattle.page_layout.proofs.BytesLemmas.{length-cut, put_mid-splice}
use Rattle.page_layout.proofs.Front as Front
use Rattle.page_layout.proofs.Front.{SameFront}
use Rattle.page_laws.specs.Btree.{made_anew, with_special}
use Rattle.page_laws.proofs.BtreeAdd.{btree_formed}
use Rattle.page_laws.proofs.BtreeAnew.{init_page}

-- a well formed page with 16 bytes of special space
pub record HasSpecial (p : List ℕ) : Type 0 where
  pub formed : IsFormed p
  pub special : pd_special p ≡ 8176

pub written : (change : List ℕ → List ℕ) (p new : List ℕ) → new ≡ change (take 16 (drop 8176 p)) → length new ≡ 16 → put_mid 8176 16 p new ≡ with_special change p
unfolding cut
written change p new is size = put_mid-splice 8176 16 p new size ∙ ap (splice p 8176) is

-- other bytes there
pub spliced : (p x : List ℕ) → HasSpecial p → length x ≡ 16 → HasSpecial (splice p 8176 x)
spliced p x s size =
    let f = s.formed in
    let h = s.formed.head in
    let fits : 8176 + length x ≤ length p = omega (arith, size, f.size) in
    let same : SameFront p (splice p 8176 x) = record {
      head = λ i le lt. byte-splice_below p 8176 x i fits (omega (arith, lt));
      lines = λ i le lt. byte-splice_below p 8176 x i fits (omega (arith, lt, h.mid, h.high, s.special));
    } in
    record {
      formed = record {
        size = length-splice p 8176 x fits ∙ f.size;
        head = Front.head_stays p (splice p 8176 x) h same;
        lines = ap (lines_fit (splice p 8176 x)) (Front.count_same p (splice p 8176 x) h same) ∙ Front.lines_fit_same p (splice p 8176 x) h same (count p) (omega arith) ∙ f.lines;
      };
      special = Front.special_same p (splice p 8176 x) h same ∙ s.special;
    }

pub written_has : (p new : List ℕ) → HasSpecial p → length new ≡ 16 → HasSpecial (put_mid 8176 16 p new)
written_has p new s size = subst HasSpecial (sym (put_mid-splice 8176 16 p new size)) (spliced p new s size)

-- an empty page, and one made anew
pub init_has : HasSpecial (init_bytes 16)
init_has = record { formed = btree_formed (init_bytes 16) init_page; special = init_page.page.special }

pub anew_has : (p : List ℕ) → length p ≡ 8192 → HasSpecial (made_anew p)
anew_has p size = spliced (init_bytes 16) (cut p 8176 16) init_has (length-cut p 8176 16 (omega (arith, size)))

pub part_anew : (p : List ℕ) → length p ≡ 8192 → IsFormed (splice (init_bytes 16) 8176 (take 16 (drop 8176 p)))
unfolding cut
part_anew p size = let has = anew_has p size in has.formed
