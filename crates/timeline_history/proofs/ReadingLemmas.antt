-- Reading the lines of a file, one after another.
use Rattle.std.proofs.Common.{◌≡◌, ℕ, zero, suc, ◌+◌, ◌-◌, ◌<◌, ◌≤◌, Bool, true, false, List, [], ◌∷◌, ◌++◌, Option, Some, None, length, take, drop, refl, sym, ap, subst, ◌∙◌, arith, add-one, below_more, inl, inr}
use Rattle.std.proofs.lemmas.Bool.{cases_lt}
use Rattle.std.proofs.lemmas.List.{append-nil, take_all}
use Rattle.std.proofs.lemmas.List.Elements.{filter_map-append}
use Rattle.std.proofs.lemmas.Option.{slice_get_past}
use Rattle.std.specs.List.{slice_get, cons_option, last_or, before_first, after_first}
use Rattle.std.specs.Option.{option_to_list, option_and_then}
use Rattle.memchr.specs.Find.{is_byte}
use Rattle.timeline_history.specs.declared.fault.HistoryFault.{HistoryFault}
use Rattle.timeline_history.specs.declared.line.Entry.{Entry}
use Rattle.timeline_history.specs.declared.line.Line.{Line}
use Rattle.timeline_history.specs.declared.line.Line.TheVariants.{Skipped, Ends, Bad}
use Rattle.timeline_history.specs.Lines.{newline, lines_of}
use Rattle.timeline_history.specs.Line.{reading_of, entry_in}
use Rattle.timeline_history.specs.History.{entries_of, is_rising, fault_of, fault_at, IsFirstFault, IsFaultless, AreRising}
use Rattle.timeline_history.proofs.PieceLemmas.{lines_next, lines_nil, after_shorter}

last_from : (o : Option Entry) (x : Entry) (xs : List Entry) → slice_get (x ∷ xs) (length xs) ≡ last_or o (x ∷ xs)
last_from o x [] = refl
last_from o x (y ∷ ys) = last_from (Some x) y ys

less_one : (x : Entry) (xs : List Entry) → length (x ∷ xs) - 1 ≡ length xs
less_one x xs = omega arith

-- the last of some entries, as a slice tells it
pub last_is : (xs : List Entry) → slice_get xs (length xs - 1) ≡ last_or None xs
last_is [] = refl
last_is (x ∷ xs) = ap (slice_get (x ∷ xs)) (less_one x xs) ∙ last_from None x xs

-- one more entry that rises
rising_push : (tli : ℕ) (before : Option Entry) (entries : List Entry) (entry : Entry) → AreRising tli before entries
    → is_rising tli (last_or before entries) entry ≡ true → AreRising tli before (entries ++ entry ∷ [])
rising_push tli before [] entry rising h = (h, tt)
rising_push tli before (e ∷ es) entry rising h = (rising.0, rising_push tli (Some e) es entry rising.1 h)

rising_more : (tli number : ℕ) (entries : List Entry) (line : Line) → AreRising tli None entries
    → fault_of tli (last_or None entries) number line ≡ None → AreRising tli None (entries ++ option_to_list (entry_in line))
rising_more tli number entries Skipped rising h = subst (AreRising tli None) (sym (append-nil entries)) rising
rising_more tli number entries Bad rising h = absurd cc
rising_more tli number entries (Ends entry) rising h = by (is_rising tli (last_or None entries) entry) refl
  where
    by : (b : Bool) → is_rising tli (last_or None entries) entry ≡ b → AreRising tli None (entries ++ entry ∷ [])
    by true e = rising_push tli None entries entry rising e
    by false e = let none = rw e at h in absurd cc

one_entry : (o : Option Entry) → cons_option o [] ≡ option_to_list o
one_entry None = refl
one_entry (Some e) = refl

-- the element at a place, and what stands before and after it
record StandsAt (lines : List (List ℕ)) (at : ℕ) (line : List ℕ) (later : List (List ℕ)) : Type 0 where
  here : slice_get lines at ≡ Some line
  upto : take (suc at) lines ≡ take at lines ++ line ∷ []
  past : drop (suc at) lines ≡ later

stands_at : (lines : List (List ℕ)) (at : ℕ) (line : List ℕ) (later : List (List ℕ)) → drop at lines ≡ line ∷ later → StandsAt lines at line later
stands_at [] zero line later e = absurd cc
stands_at [] (suc at) line later e = absurd cc
stands_at (x ∷ xs) zero line later e =
    let same : x ≡ line = cc in
    record { here = ap Some same; upto = ap (λ y. y ∷ []) same; past = cc }
stands_at (x ∷ xs) (suc at) line later e =
    let h = stands_at xs at line later e in
    record { here = h.here; upto = ap (λ ys. x ∷ ys) h.upto; past = h.past }

-- so many lines of a file were read, without a fault, into these entries, and this is left
pub record IsRead (tli : ℕ) (bytes left : List ℕ) (number : ℕ) (entries : List Entry) : Type 0 where
  pub later : drop number (lines_of bytes) ≡ lines_of left
  pub earlier : entries ≡ entries_of (take number (lines_of bytes))
  pub passed : (k : ℕ) → k < number → fault_at tli (lines_of bytes) k ≡ None
  pub rising : AreRising tli None entries
  pub room : number + length left ≤ length bytes

pub nothing_read : (tli : ℕ) (bytes : List ℕ) → IsRead tli bytes bytes 0 []
nothing_read tli bytes = record { later = refl; earlier = refl; passed = λ k l. absurd (omega arith); rising = tt; room = omega arith }

module _ (tli : ℕ) (bytes left : List ℕ) (number : ℕ) (entries : List Entry) (so_far : IsRead tli bytes left number entries)
    (line after : List ℕ) (more : 0 < length left) (line_is : line ≡ before_first (is_byte newline) left) (after_is : after ≡ after_first (is_byte newline) left) where
  stands : StandsAt (lines_of bytes) number line (lines_of after)
  stands = stands_at (lines_of bytes) number line (lines_of after) (so_far.later ∙ lines_next left line after more line_is after_is)

  fault_here : fault_at tli (lines_of bytes) number ≡ fault_of tli (last_or None entries) (number + 1) (reading_of line)
  unfolding fault_at
  fault_here =
      ap (option_and_then (λ line. fault_of tli (last_or None (entries_of (take number (lines_of bytes)))) (number + 1) (reading_of line))) stands.here
      ∙ ap (λ es. fault_of tli (last_or None es) (number + 1) (reading_of line)) (sym so_far.earlier)

  pub first_fault : (fault : HistoryFault) → fault_of tli (last_or None entries) (number + 1) (reading_of line) ≡ Some fault → IsFirstFault tli (lines_of bytes) fault
  first_fault fault h = record { at = number; here = fault_here ∙ h; before = so_far.passed }

  pub one_more_read : (entries' : List Entry) → fault_of tli (last_or None entries) (number + 1) (reading_of line) ≡ None
      → entries' ≡ entries ++ option_to_list (entry_in (reading_of line)) → IsRead tli bytes after (number + 1) entries'
  one_more_read entries' h added =
      let shorter = after_shorter (is_byte newline) left more in
      record {
        later = rw add-one stands.past;
        earlier =
            added
            ∙ ap (λ es. es ++ option_to_list (entry_in (reading_of line))) so_far.earlier
            ∙ ap (λ es. entries_of (take number (lines_of bytes)) ++ es) (sym (one_entry (entry_in (reading_of line))))
            ∙ sym (filter_map-append (λ line. entry_in (reading_of line)) (take number (lines_of bytes)) (line ∷ []))
            ∙ ap entries_of (sym stands.upto)
            ∙ ap (λ k. entries_of (take k (lines_of bytes))) (sym (add-one number));
        passed = below_more _ _ so_far.passed (fault_here ∙ h);
        rising = subst (AreRising tli None) (sym added) (rising_more tli (number + 1) entries (reading_of line) so_far.rising h);
        room = omega (arith, so_far.room, shorter, ap length after_is);
      }

module _ (tli : ℕ) (bytes left : List ℕ) (number : ℕ) (entries : List Entry) (so_far : IsRead tli bytes left number entries) (none : length left ≡ 0) where
  nothing_left : drop number (lines_of bytes) ≡ []
  nothing_left = so_far.later ∙ lines_nil left none

  past_end : (lines : List (List ℕ)) (n : ℕ) → drop n lines ≡ [] → length lines ≤ n
  past_end [] n e = omega arith
  past_end (x ∷ xs) zero e = absurd cc
  past_end (x ∷ xs) (suc n) e = omega (arith, past_end xs n e)

  pub all_read : entries ≡ entries_of (lines_of bytes)
  all_read = so_far.earlier ∙ ap entries_of (take_all number (lines_of bytes) (past_end (lines_of bytes) number nothing_left))

  pub all_passed : IsFaultless tli (lines_of bytes)
  unfolding fault_at
  all_passed k = elim (cases_lt k number) [
    | inl below ↦ so_far.passed k below
    | inr above ↦ ap (option_and_then (λ line. fault_of tli (last_or None (entries_of (take k (lines_of bytes)))) (k + 1) (reading_of line)))
        (slice_get_past (lines_of bytes) k (omega (arith, past_end (lines_of bytes) number nothing_left)))
  ]
