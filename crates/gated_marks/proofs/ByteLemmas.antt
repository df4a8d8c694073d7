-- The bytes of a mark that holds a text behind a head.
use Rattle.std.proofs.Common.{◌≡◌, ℕ, ◌+◌, ◌-◌, ◌<◌, ◌≤◌, true, false, Bool, List, [], ◌∷◌, ◌++◌, length, take, drop, get_or, refl, ap, sym, ◌∙◌, inl, inr, ⊎_elim, arith, append_assoc, add-one, length-take}
use Rattle.std.proofs.lemmas.Bool.{cases_lt}
use Rattle.std.proofs.lemmas.List.{append-nil, drop_all, drop_at, get_or-take, get_or_append_left, get_or_past, length-append, length-drop, take-append-drop, take-append-le, drop-append-le, take-take, take_all}
use Rattle.std.proofs.Math.Seq.{drop-cons}
use Rattle.layout.specs.Splice.{splice}
use Rattle.layout.proofs.SpliceLemmas.{byte-splice_in, length-splice, take-splice}
use Rattle.cluster_tree.specs.Step.{TornBytes}
use Rattle.gated_marks.specs.Gates.{IsComplete, IsReady, IsShut, IsTold, plus, whole_mark}
use Rattle.gated_marks.specs.Laws.{IsReadBack}
use Rattle.gated_marks.specs.Left.{IsEmptying, IsMark}

-- ---- what is written whole

-- a text behind a head
pub splice-behind : (head text : List ℕ) → splice head (length head) text ≡ head ++ text
unfolding splice
splice-behind head text =
    ap (λ x. x ++ text ++ drop (length head + length text) head) (take_all (length head) head (omega arith))
    ∙ ap (λ x. head ++ text ++ x) (drop_all (length head + length text) head (omega arith))
    ∙ append-nil (head ++ text)

-- a byte of the head
pub splice-head : (head text : List ℕ) (gate b : ℕ) → gate < length head → splice (head ++ text) gate (b ∷ []) ≡ splice head gate (b ∷ []) ++ text
unfolding splice
splice-head head text gate b inside =
    ap (λ x. x ++ (b ∷ []) ++ drop (gate + 1) (head ++ text)) (take-append-le gate head text (omega (arith, inside)))
    ∙ ap (λ x. take gate head ++ (b ∷ []) ++ x) (drop-append-le (gate + 1) head text (omega (arith, inside)))
    ∙ sym (append_assoc (take gate head ++ (b ∷ [])) (drop (gate + 1) head) text)

-- ---- what is torn

-- over nothing, it is no more than was to be written
pub torn-new : (n : ℕ) (new : List ℕ) → TornBytes 0 n [] new → length new ≤ n
torn-new n new t = omega (arith, t.no_longer)

-- over what stood there, the rest stays
pub torn-rest : (n : ℕ) (old new : List ℕ) → TornBytes 0 n old new → drop n new ≡ drop n old
torn-rest n old new t = let e : 0 + n ≡ n = omega arith in ap (λ k. drop k new) (sym e) ∙ t.after ∙ ap (λ k. drop k old) e

-- behind the head, its gate stays
pub torn-shut : (head new : List ℕ) (gate n : ℕ) → gate < length head → TornBytes (length head) n head new → get_or new gate 0 ≡ get_or head gate 0
torn-shut head new gate n inside t =
    sym (get_or-take (length head) new gate 0 inside) ∙ ap (λ l. get_or l gate 0) (t.before ∙ take_all (length head) head (omega arith))

-- a byte among bytes
in-three : (bytes : List ℕ) (i b : ℕ) → i < length bytes → get_or bytes i 0 ≡ b → bytes ≡ take i bytes ++ b ∷ drop (i + 1) bytes
in-three bytes i b inside is = sym (take-append-drop i bytes) ∙ ap (λ x. take i bytes ++ x) (drop-cons bytes i 0 inside ∙ ap (λ k. get_or bytes i 0 ∷ drop k bytes) (sym (add-one i)) ∙ ap (λ x. x ∷ drop (i + 1) bytes) is)

-- one byte is some byte
pub torn-byte : (at : ℕ) (old new : List ℕ) → at < length old → TornBytes at 1 old new → new ≡ splice old at (get_or new at 0 ∷ [])
unfolding splice
torn-byte at old new inside t =
    let b = get_or new at 0 in
    in-three new at b (omega (arith, inside, t.no_shorter)) refl
    ∙ ap (λ x. x ++ b ∷ drop (at + 1) new) t.before
    ∙ ap (λ x. take at old ++ b ∷ x) t.after
    ∙ sym (append_assoc (take at old) (b ∷ []) (drop (at + 1) old))

-- and where that opens the gate, the mark is whole
pub torn-gate : (head text new : List ℕ) (gate : ℕ) → gate < length head → TornBytes gate 1 (head ++ text) new → get_or new gate 0 ≡ plus → new ≡ whole_mark head gate text
torn-gate head text new gate inside t is =
    torn-byte gate (head ++ text) new (omega (arith, inside, length-append head text)) t ∙ ap (λ b. splice (head ++ text) gate (b ∷ [])) is ∙ splice-head head text gate plus inside

-- ---- what reads as complete

-- no more than a head doesn't
pub short-incomplete : (head : List ℕ) (gate : ℕ) (bytes : List ℕ) → length bytes ≤ length head → IsComplete head gate bytes → ⊥
short-incomplete head gate bytes short whole = omega (arith, short, whole.longer)

-- nor where the gate isn't open
pub shut-incomplete : (head : List ℕ) (gate : ℕ) (bytes : List ℕ) → IsShut head gate bytes → IsComplete head gate bytes → ⊥
shut-incomplete head gate bytes (inl short) whole = short-incomplete head gate bytes short whole
shut-incomplete head gate bytes (inr shut) whole = shut whole.is_open

gate-inside : (bytes : List ℕ) (gate : ℕ) → get_or bytes gate 0 ≡ plus → gate < length bytes
gate-inside bytes gate is = ⊎_elim (λ (lt : gate < length bytes). lt) (λ (past : length bytes ≤ gate). absurd (omega (arith, is, get_or_past bytes gate 0 past))) (cases_lt gate (length bytes))

-- nor a first part of what doesn't
pub part-complete : (head : List ℕ) (gate : ℕ) (old new : List ℕ) → take (length new) old ≡ new → IsComplete head gate new → IsComplete head gate old
part-complete head gate old new part whole =
    let size : length new ≤ length old = omega (arith, ap length part, length-take (length new) old) in
    let inside = gate-inside new gate whole.is_open in
    record {
      front = sym (take-take gate (length new) old (omega (arith, inside))) ∙ ap (take gate) part ∙ whole.front;
      is_open = sym (get_or-take (length new) old gate 0 inside) ∙ ap (λ l. get_or l gate 0) part ∙ whole.is_open;
      longer = omega (arith, size, whole.longer);
    }

rest-short : (n : ℕ) (old new : List ℕ) → drop n new ≡ drop n old → length old ≤ n → length new ≤ n
rest-short n old new same short = omega (arith, short, ap length same, length-drop n new, length-drop n old)

emptying-incomplete : (stood : Bool) (head : List ℕ) (gate : ℕ) (old new : List ℕ) → IsReady stood head gate old → IsEmptying stood (length head) old new → IsComplete head gate new → ⊥
emptying-incomplete true head gate old new ready part whole = ready (part-complete head gate old new part whole)
emptying-incomplete false head gate old new ready same whole = short-incomplete head gate new (rest-short (length head) old new same ready) whole

pub mark-told : (stood : Bool) (head : List ℕ) (gate : ℕ) (text old new : List ℕ) → IsReady stood head gate old → IsMark stood head gate text old new → IsTold head gate text new
mark-told stood head gate text old new ready (inl emptying) = inl (emptying-incomplete stood head gate old new ready emptying)
mark-told stood head gate text old new ready (inr (inl shut)) = inl (shut-incomplete head gate new shut)
mark-told stood head gate text old new ready (inr (inr is)) = inr is

-- ---- a whole mark

-- its head is as long, and begins so
pub whole-read : (head : List ℕ) (gate : ℕ) (text : List ℕ) → gate < length head → IsReadBack head gate text
unfolding splice
whole-read head gate text inside =
    let laid = splice head gate (plus ∷ []) in
    let size : length laid ≡ length head = length-splice head gate (plus ∷ []) (omega (arith, inside)) in
    let none : gate - gate ≡ 0 = omega arith in
    record {
      complete = λ some. record {
        front = take-append-le gate laid text (omega (arith, inside, size)) ∙ take-splice head gate (plus ∷ []) (omega (arith, inside));
        is_open = get_or_append_left laid text 0 gate (omega (arith, inside, size)) ∙ byte-splice_in head gate (plus ∷ []) gate (omega (arith, inside)) (omega arith) (omega arith) ∙ ap (λ k. get_or (plus ∷ []) k 0) none;
        longer = omega (arith, some, size, length-append laid text);
      };
      read = ap (λ k. drop k (laid ++ text)) (sym size) ∙ drop_at laid text (length laid) refl;
    }
