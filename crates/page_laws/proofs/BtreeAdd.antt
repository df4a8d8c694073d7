-- Adding an item to B-tree pages, the later lines moved up: the same refusal, or pages that the mask can't tell apart.
use Rattle.std.proofs.Common.{◌≡◌, ℕ, ◌+◌, ◌-◌, ◌*◌, ◌/◌, ◌%◌, ◌<◌, ◌≤◌, ◌==◌, inl, inr, ⊎_elim, List, ◌++◌, true, false, length, sym, ◌∙◌, ap, subst, arith}
use Rattle.std.specs.Prelude.{nat_le, replicate}
use Rattle.std.proofs.lemmas.Bool.Decides.{leb_tells}
use Rattle.page_layout.specs.Bytes.{byte, u16_bytes, up8}
use Rattle.page_layout.specs.Page.{pd_lower, pd_upper, pd_special, IsFormed}
use Rattle.page_layout.specs.Edits.{opened_at, added_at, added, add_refusal, add_item}
use Rattle.page_layout.proofs.LineViews.{line_bytes}
use Rattle.page_masks.specs.Mask.{mask, is_leaf, shown_line, shown_flags}
use Rattle.page_laws.specs.Btree.{BtreePage}
use Rattle.page_laws.specs.Results.{SameResults}
use Rattle.page_laws.specs.Views.{InsertsItem}
use Rattle.page_laws.proofs.Refused.{OkPage, NotRefused, allowed, accepted, same_refusals, same_add_refusal}
use Rattle.page_laws.proofs.BtreeAlike.{BtreeAlike, lower_same, upper_same, btree_masks, btree_alike}
use Rattle.page_laws.proofs.BtreeLines.{shown_next}
use Rattle.page_laws.proofs.InsertViews.{Inserts, inserted_head, inserted_bound, inserted_top, inserted_before, inserted_line, inserted_after, inserted_item_byte, inserted_back, inserted_lower, inserted_upper, inserted_special}
use Rattle.page_laws.proofs.InsertLines.{inserted_formed, inserts_item}

pub btree_formed : (p : List ℕ) → BtreePage p → IsFormed p
btree_formed p h = record { size = h.page.size; head = h.page.head; lines = h.page.lines }

-- a well formed page with a B-tree page's special space is one
pub btree_page : (p r : List ℕ) → BtreePage p → IsFormed r → pd_special r ≡ pd_special p → ((i : ℕ) → 8176 ≤ i → byte r i ≡ byte p i) → BtreePage r
btree_page p r h f special back = record {
  page = record { size = f.size; head = f.head; lines = f.lines; special = special ∙ h.page.special };
  cycle = omega (arith, back 8190 (omega arith), back 8191 (omega arith), h.cycle);
}

module _ (p q bytes : List ℕ) (k : ℕ) (ip : Inserts p bytes k) (iq : Inserts q bytes k) (hp : BtreePage p) (hq : BtreePage q) (a : BtreeAlike p q) where
  abbrev len : ℕ
  len = length bytes

  abbrev upper : ℕ
  upper = pd_upper p - up8 len

  abbrev new_p : List ℕ
  new_p = added_at (opened_at p k) bytes k (pd_lower p + 4) (pd_upper p - up8 len)

  abbrev new_q : List ℕ
  new_q = added_at (opened_at q k) bytes k (pd_lower q + 4) (pd_upper q - up8 len)

  lowers : pd_lower p ≡ pd_lower q
  lowers = lower_same p q a

  uppers : pd_upper p ≡ pd_upper q
  uppers = upper_same p q a

  back_p : (i : ℕ) → 8176 ≤ i → byte new_p i ≡ byte p i
  back_p i le = inserted_back p bytes k ip i (omega (arith, le, hp.page.head.high, hp.page.special))

  back_q : (i : ℕ) → 8176 ≤ i → byte new_q i ≡ byte q i
  back_q i le = inserted_back q bytes k iq i (omega (arith, le, hq.page.head.high, hq.page.special))

  line : (i : ℕ) → 24 ≤ i → i < pd_lower p + 4 → shown_line (is_leaf p) i (byte new_p i) ≡ shown_line (is_leaf p) i (byte new_q i)
  line i le lt = ⊎_elim
      (λ (x : (nat_le (24 + 4 * k) i ≡ true) × (24 + 4 * k ≤ i)). ⊎_elim
      (λ (y : (nat_le (28 + 4 * k) i ≡ true) × (28 + 4 * k ≤ i)).
      let on : i - 4 + 4 ≡ i = omega (arith, le) in
      ap (shown_line (is_leaf p) i) (inserted_after p bytes k ip i y.1 lt) ∙ ap (λ j. shown_line (is_leaf p) j (byte p (i - 4))) (sym on) ∙ shown_next (is_leaf p) (i - 4) (byte p (i - 4))
      ∙ a.lines (i - 4) (omega (arith, y.1)) (omega (arith, lt, le)) ∙ sym (shown_next (is_leaf p) (i - 4) (byte q (i - 4))) ∙ ap (λ j. shown_line (is_leaf p) j (byte q (i - 4))) on
      ∙ ap (shown_line (is_leaf p) i) (sym (inserted_after q bytes k iq i y.1 (omega (arith, lt, lowers)))))
      (λ (z : (nat_le (28 + 4 * k) i ≡ false) × (i < 28 + 4 * k)). ap (shown_line (is_leaf p) i)
      (inserted_line p bytes k ip i x.1 z.1 ∙ ap (λ u. byte (line_bytes (u - up8 len) 1 len) (i - (24 + 4 * k))) uppers ∙ sym (inserted_line q bytes k iq i x.1 z.1)))
      (leb_tells (28 + 4 * k) i))
      (λ (y : (nat_le (24 + 4 * k) i ≡ false) × (i < 24 + 4 * k)). ap (shown_line (is_leaf p) i) (inserted_before p bytes k ip i le y.1) ∙ a.lines i le (omega (arith, y.1, ip.place, hp.page.head.low, hp.page.head.by4))
      ∙ ap (shown_line (is_leaf p) i) (sym (inserted_before q bytes k iq i le y.1)))
      (leb_tells (24 + 4 * k) i)

  inserted_alike : BtreeAlike new_p new_q
  inserted_alike = record {
    ten = (λ t. inserted_head p bytes k ip 10 (inl (omega arith)) (omega arith) t / 8 * 8) ∙ a.ten ∙ (λ t. sym (inserted_head q bytes k iq 10 (inl (omega arith)) (omega arith)) t / 8 * 8);
    head = λ i le lt. ⊎_elim
        (λ (x : (nat_le 16 i ≡ true) × (16 ≤ i)). inserted_head p bytes k ip i (inr x.1) (omega (arith, lt)) ∙ a.head i le lt ∙ sym (inserted_head q bytes k iq i (inr x.1) (omega (arith, lt))))
        (λ (f : (nat_le 16 i ≡ false) × (i < 16)). ⊎_elim
        (λ (x : (nat_le 14 i ≡ true) × (14 ≤ i)). inserted_top p bytes k ip i x.1 f.1 ∙ ap (λ u. byte (u16_bytes (u - up8 len)) (i - 14)) uppers ∙ sym (inserted_top q bytes k iq i x.1 f.1))
        (λ (g : (nat_le 14 i ≡ false) × (i < 14)). ⊎_elim
        (λ (x : (nat_le 12 i ≡ true) × (12 ≤ i)). inserted_bound p bytes k ip i x.1 g.1 ∙ ap (λ n. byte (u16_bytes (n + 4)) (i - 12)) lowers ∙ sym (inserted_bound q bytes k iq i x.1 g.1))
        (λ (l : (nat_le 12 i ≡ false) × (i < 12)). inserted_head p bytes k ip i (inl l.1) (omega (arith, l.1)) ∙ a.head i le lt ∙ sym (inserted_head q bytes k iq i (inl l.1) (omega (arith, l.1))))
        (leb_tells 12 i))
        (leb_tells 14 i))
        (leb_tells 16 i);
    lines = λ i le lt. ap (λ n. shown_line (n % 2 == 1) i (byte new_p i)) (back_p 8188 (omega arith)) ∙ line i le (omega (arith, lt, inserted_lower p bytes k ip)) ∙ ap (λ n. shown_line (n % 2 == 1) i (byte new_q i)) (sym (back_p 8188 (omega arith)));
    items = λ i le lt. ⊎_elim
        (λ (x : (nat_le (pd_upper p) i ≡ true) × (pd_upper p ≤ i)). inserted_back p bytes k ip i x.1 ∙ a.items i x.1 lt ∙ sym (inserted_back q bytes k iq i (omega (arith, x.1, uppers))))
        (λ (f : (nat_le (pd_upper p) i ≡ false) × (i < pd_upper p)).
        inserted_item_byte p bytes k ip i (omega (arith, le, inserted_upper p bytes k ip)) f.1 ∙ ap (λ u. byte (bytes ++ replicate (up8 len - len) 0) (i - (u - up8 len))) uppers
        ∙ sym (inserted_item_byte q bytes k iq i (omega (arith, le, inserted_upper p bytes k ip, uppers)) (omega (arith, f.1, uppers))))
        (leb_tells (pd_upper p) i);
    flags = ap shown_flags (back_p 8188 (omega arith)) ∙ a.flags ∙ ap shown_flags (sym (back_q 8188 (omega arith)));
    last = back_p 8189 (omega arith) ∙ a.last ∙ sym (back_q 8189 (omega arith));
  }

  pub inserted_page : BtreePage new_p
  inserted_page = btree_page p new_p hp (inserted_formed p bytes k ip) (inserted_special p bytes k ip) back_p

  inserted_page_q : BtreePage new_q
  inserted_page_q = btree_page q new_q hq (inserted_formed q bytes k iq) (inserted_special q bytes k iq) back_q

  pub inserted_masks : (block : ℕ) → mask block new_p ≡ mask block new_q
  inserted_masks block = btree_masks block new_p new_q inserted_page inserted_page_q inserted_alike

pub inserts : (p bytes : List ℕ) (place : ℕ) → IsFormed p → add_refusal p (length bytes) place false ≡ NotRefused → Inserts p bytes (place - 1)
inserts p bytes place f none = let a = allowed p (length bytes) place false none in record { formed = f; place = omega (arith, a.near); room = a.room }

pub add_respects : (block place : ℕ) (p q bytes : List ℕ) → BtreePage p → BtreePage q → mask block p ≡ mask block q → SameResults block (add_item p bytes place false) (add_item q bytes place false)
add_respects block place p q bytes hp hq same =
    let a = btree_alike block p q hp hq same in
    let alike = same_add_refusal p q (length bytes) place false (btree_formed p hp) (btree_formed q hq) (lower_same p q a) (upper_same p q a) (λ k e. cc e) in
    same_refusals block (add_refusal p (length bytes) place false) (add_refusal q (length bytes) place false) (OkPage (added p bytes place false)) (OkPage (added q bytes place false)) alike
    (λ none. inserted_masks p q bytes (place - 1) (inserts p bytes place (btree_formed p hp) none) (inserts q bytes place (btree_formed q hq) (sym alike ∙ none)) hp hq a block)

pub add_keeps_page : (place : ℕ) (p bytes r : List ℕ) → BtreePage p → add_item p bytes place false ≡ OkPage r → BtreePage r
add_keeps_page place p bytes r h e =
    let t = accepted (add_refusal p (length bytes) place false) (added p bytes place false) r e in
    let i = inserts p bytes place (btree_formed p h) t.0 in
    subst BtreePage t.1 (btree_page p (added p bytes place false) h (inserted_formed p bytes (place - 1) i) (inserted_special p bytes (place - 1) i)
    (λ j le. inserted_back p bytes (place - 1) i j (omega (arith, le, h.page.head.high, h.page.special))))

-- the same of any well formed page, as lines and items
pub insert_keeps : (p bytes r : List ℕ) (place : ℕ) → IsFormed p → add_item p bytes place false ≡ OkPage r → InsertsItem p (place - 1) bytes r
insert_keeps p bytes r place f e =
    let t = accepted (add_refusal p (length bytes) place false) (added p bytes place false) r e in
    subst (InsertsItem p (place - 1) bytes) t.1 (inserts_item p bytes (place - 1) (inserts p bytes place f t.0))
