-- Bytes read after others were laid over them.
use Rattle.std.proofs.Common.{◌≡◌, ℕ, ◌+◌, ◌-◌, ◌<◌, ◌≤◌, ◌&&◌, ◌⊎◌, inl, inr, ⊎_elim, List, ◌++◌, Bool, true, false, length, take, drop, get_or, refl, sym, ◌∙◌, ap, arith, append_assoc}
use Rattle.std.specs.Prelude.{if◌then◌else◌, nat_lt, nat_le, slice_index}
use Rattle.std.proofs.lemmas.Bool.Decides.{leb_tells, nat_tests}
use Rattle.std.proofs.lemmas.List.{ext_get_or, length-append, length-take-le, length-drop, get_or_append_left, get_or-append_right, get_or-take, get_or-drop, drop_at, take_at, drop-drop}
use Rattle.layout.specs.Splice.{splice}

pub length-splice : (p : List ℕ) (at : ℕ) (bs : List ℕ) → at + length bs ≤ length p → length (splice p at bs) ≡ length p
unfolding splice
length-splice p at bs fits = omega (arith, length-append (take at p ++ bs) (drop (at + length bs) p), length-append (take at p) bs, length-take-le at p (omega arith), length-drop (at + length bs) p)

pub byte-splice_below : (p : List ℕ) (at : ℕ) (bs : List ℕ) (i : ℕ) → at + length bs ≤ length p → i < at → slice_index (splice p at bs) i ≡ slice_index p i
unfolding splice
byte-splice_below p at bs i fits lt =
    let front = length-take-le at p (omega arith) in
    get_or_append_left (take at p ++ bs) (drop (at + length bs) p) 0 i (omega (arith, length-append (take at p) bs))
    ∙ get_or_append_left (take at p) bs 0 i (omega arith)
    ∙ get_or-take at p i 0 lt

pub byte-splice_in : (p : List ℕ) (at : ℕ) (bs : List ℕ) (i : ℕ) → at + length bs ≤ length p → at ≤ i → i < at + length bs → slice_index (splice p at bs) i ≡ slice_index bs (i - at)
unfolding splice
byte-splice_in p at bs i fits le lt =
    let front = length-take-le at p (omega arith) in
    get_or_append_left (take at p ++ bs) (drop (at + length bs) p) 0 i (omega (arith, length-append (take at p) bs))
    ∙ get_or-append_right (take at p) bs at i 0 front le

pub byte-splice_above : (p : List ℕ) (at : ℕ) (bs : List ℕ) (i : ℕ) → at + length bs ≤ length p → at + length bs ≤ i → slice_index (splice p at bs) i ≡ slice_index p i
unfolding splice
byte-splice_above p at bs i fits le =
    let front = length-take-le at p (omega arith) in
    let both : length (take at p ++ bs) ≡ at + length bs = omega (arith, length-append (take at p) bs) in
    let here : at + length bs + (i - (at + length bs)) ≡ i = omega arith in
    get_or-append_right (take at p ++ bs) (drop (at + length bs) p) (at + length bs) i 0 both le
    ∙ get_or-drop (at + length bs) p (i - (at + length bs)) 0
    ∙ ap (slice_index p) here

-- every byte outside
pub byte-splice_out : (p : List ℕ) (at : ℕ) (bs : List ℕ) (i : ℕ) → at + length bs ≤ length p → (i < at) ⊎ (at + length bs ≤ i) → slice_index (splice p at bs) i ≡ slice_index p i
byte-splice_out p at bs i fits out = ⊎_elim (λ lt. byte-splice_below p at bs i fits lt) (λ le. byte-splice_above p at bs i fits le) out

-- one after the other
pub splice-splice : (p : List ℕ) (at : ℕ) (bs cs : List ℕ) (j : ℕ) → at + length bs ≡ j → j ≤ length p → splice (splice p at bs) j cs ≡ splice p at (bs ++ cs)
unfolding splice
splice-splice p at bs cs j e fits =
    let front = length-take-le at p (omega arith) in
    let both : length (take at p ++ bs) ≡ j = omega (arith, length-append (take at p) bs) in
    let a = take_at (take at p ++ bs) (drop (at + length bs) p) j both in
    let b : drop (j + length cs) (take at p ++ bs ++ drop (at + length bs) p) ≡ drop (length cs) (drop j (take at p ++ bs ++ drop (at + length bs) p)) = sym (drop-drop (length cs) j (take at p ++ bs ++ drop (at + length bs) p)) in
    let d = drop_at (take at p ++ bs) (drop (at + length bs) p) j both in
    let f = drop-drop (length cs) (at + length bs) p in
    let n : at + length bs + length cs ≡ at + length (bs ++ cs) = omega (arith, length-append bs cs) in
    (λ t. a t ++ cs ++ b t) ∙ ap (λ x. take at p ++ bs ++ cs ++ drop (length cs) x) d ∙ ap (λ x. take at p ++ bs ++ cs ++ x) f
    ∙ ap (λ k. take at p ++ bs ++ cs ++ drop k p) n ∙ ap (λ x. x ++ drop (at + length (bs ++ cs)) p) (append_assoc (take at p) bs cs)

pub splice-over : (p : List ℕ) (at : ℕ) (bs cs ds : List ℕ) → length ds ≡ length bs → at + length (bs ++ cs) ≤ length p → splice (splice p at (bs ++ cs)) at ds ≡ splice p at (ds ++ cs)
splice-over p at bs cs ds size fits =
    let b = length-append bs cs in
    let d = length-append ds cs in
    let one = length-splice p at (bs ++ cs) fits in
    let two = length-splice (splice p at (bs ++ cs)) at ds (omega arith) in
    let three = length-splice p at (ds ++ cs) (omega arith) in
    ext_get_or 0 (splice (splice p at (bs ++ cs)) at ds) (splice p at (ds ++ cs)) (omega arith) (λ i lt. ⊎_elim
    (λ (out : (i < at) ⊎ (at + length ds ≤ i)). byte-splice_out (splice p at (bs ++ cs)) at ds i (omega arith) out ∙ ⊎_elim
    (λ (below : i < at). byte-splice_below p at (bs ++ cs) i fits below ∙ sym (byte-splice_below p at (ds ++ cs) i (omega arith) below))
    (λ (past : at + length ds ≤ i). ⊎_elim
    (λ (far : at + length (bs ++ cs) ≤ i). byte-splice_above p at (bs ++ cs) i fits far ∙ sym (byte-splice_above p at (ds ++ cs) i (omega arith) (omega arith)))
    (λ (near : i < at + length (bs ++ cs)).
    let same : i - at - length bs ≡ i - at - length ds = omega arith in
    byte-splice_in p at (bs ++ cs) i fits (omega arith) near ∙ get_or-append_right bs cs (length bs) (i - at) 0 refl (omega arith) ∙ ap (slice_index cs) same
    ∙ sym (byte-splice_in p at (ds ++ cs) i (omega arith) (omega arith) (omega arith) ∙ get_or-append_right ds cs (length ds) (i - at) 0 refl (omega arith)))
    (split (at + length (bs ++ cs)) i))
    out)
    (λ (inside : (at ≤ i) × (i < at + length ds)). byte-splice_in (splice p at (bs ++ cs)) at ds i (omega arith) inside.0 inside.1
    ∙ sym (byte-splice_in p at (ds ++ cs) i (omega arith) inside.0 (omega arith) ∙ get_or_append_left ds cs 0 (i - at) (omega arith)))
    (outside at (length ds) i))
  where
    split : (m i : ℕ) → (m ≤ i) ⊎ (i < m)
    split m i = ⊎_elim (λ t. inl t.1) (λ f. inr f.1) (leb_tells m i)

    outside : (a n i : ℕ) → ((i < a) ⊎ (a + n ≤ i)) ⊎ ((a ≤ i) × (i < a + n))
    outside a n i = ⊎_elim
        (λ (le : a ≤ i). ⊎_elim (λ (far : a + n ≤ i). inl (inr far)) (λ (near : i < a + n). inr (le, near)) (split (a + n) i))
        (λ (lt : i < a). inl (inl lt)) (split a i)

pub byte-splice : (p : List ℕ) (at : ℕ) (bs : List ℕ) (i : ℕ) → at + length bs ≤ length p
    → slice_index (splice p at bs) i ≡ (if nat_le at i && nat_lt i (at + length bs) then slice_index bs (i - at) else slice_index p i)
byte-splice p at bs i fits = by_case (nat_le at i && nat_lt i (at + length bs)) refl
  where
    by_case : (b : Bool) → (nat_le at i && nat_lt i (at + length bs)) ≡ b → slice_index (splice p at bs) i ≡ (if b then slice_index bs (i - at) else slice_index p i)
    by_case true e = byte-splice_in p at bs i fits (grind (arith, nat_tests)) (grind (arith, nat_tests))
    by_case false e = byte-splice_out p at bs i fits (⊎_elim (λ (t : (nat_le at i ≡ true) × (at ≤ i)). inr (grind (arith, nat_tests, t.0, t.1))) (λ f. inl f.1) (leb_tells at i))

-- these bytes stand at this offset
abbrev pub Stands : ℕ → List ℕ → List ℕ → Type 0
Stands at new bytes = (i : ℕ) → i < length new → get_or bytes (at + i) 0 ≡ get_or new i 0

pub splice-stands : (old : List ℕ) (at : ℕ) (new : List ℕ) → at + length new ≤ length old → Stands at new (splice old at new)
splice-stands old at new room i lt = byte-splice_in old at new (at + i) room (omega arith) (omega arith) ∙ ap (slice_index new) (omega arith)

-- what stands before the place is kept
pub splice-keeps : (at : ℕ) (new old : List ℕ) (to : ℕ) (more : List ℕ) → at + length new ≤ to → to + length more ≤ length old → Stands at new old → Stands at new (splice old to more)
splice-keeps at new old to more before room stands i lt = byte-splice_below old to more (at + i) room (omega arith) ∙ stands i lt

pub take-splice : (old : List ℕ) (at : ℕ) (new : List ℕ) → at ≤ length old → take at (splice old at new) ≡ take at old
unfolding splice
take-splice old at new le =
    ap (take at) (append_assoc (take at old) new (drop (at + length new) old)) ∙ take_at (take at old) (new ++ drop (at + length new) old) at (length-take-le at old le)
