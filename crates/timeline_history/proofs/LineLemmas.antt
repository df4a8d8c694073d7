-- What the lines of a text are, and which lines name an entry.
use Rattle.std.proofs.Common.{◌≡◌, ◌^◌, ◌≢◌, ◌==◌, ℕ, suc, ◌+◌, ◌<◌, Bool, true, false, not, cond, ◌⊎◌, inl, inr, List, [], ◌∷◌, ◌++◌, Option, Some, None, length, take, drop, refl, sym, ap, ◌∙◌, arith, eqb-true, option_map, option_and_then, drop-cons}
use Rattle.std.proofs.lemmas.Bool.{cases_lt}
use Rattle.std.proofs.lemmas.Bool.Decides.{nat_tests}
use Rattle.std.proofs.lemmas.List.{drop_all, take-append-drop, append-nil}
use Rattle.std.proofs.lemmas.List.Folds.{list_all-append}
use Rattle.std.proofs.lemmas.List.Sums.{split_at_first, passes_at_first}
use Rattle.std.proofs.Math.Seq.{take-append_seam, drop-append-add}
use Rattle.std.specs.Char.{is_ascii_digit, is_ascii_hexdigit}
use Rattle.std.specs.List.{AllByRecursion, list_all, position_or_len, before_first, after_first}
use Rattle.wal_base.proofs.HexDigits.{and_parts, and_both}
use Rattle.wal_base.proofs.LsnLemmas.{named_by_reading, no_slash}
use Rattle.wal_base.specs.declared.lsn.Lsn.{Lsn}
use Rattle.wal_base.specs.Hex.{is_hex_word}
use Rattle.wal_base.specs.Lsn.{slash, lsn_of}
use Rattle.timeline_history.specs.declared.line.Entry.{Entry}
use Rattle.timeline_history.specs.declared.line.Line.TheVariants.{Skipped, Ends}
use Rattle.wal_base.proofs.DecimalLemmas.{digits_read}
use Rattle.timeline_history.specs.Lines.{newline, at_front, lines_of, IsLine, text_of}
use Rattle.timeline_history.specs.Line.{is_blank, tab, is_tab, without_blanks, is_skipped, timeline_of, entry_with, entry_of, with_entry, reading_of, NamesEntry}

-- ---- lines

front_is_line : (byte : ℕ) (lines : List (List ℕ)) → (byte == newline) ≡ false → AllByRecursion IsLine lines → AllByRecursion IsLine (at_front byte lines)
front_is_line byte [] e h = (rw e refl, tt)
front_is_line byte (line ∷ lines) e h = (rw e h.0, h.1)

pub lines_are_lines : (text : List ℕ) → AllByRecursion IsLine (lines_of text)
unfolding lines_of
lines_are_lines [] = tt
lines_are_lines (byte ∷ bytes) = by (byte == newline) refl (lines_are_lines bytes)
  where
    by : (b : Bool) → (byte == newline) ≡ b → AllByRecursion IsLine (lines_of bytes) → AllByRecursion IsLine (cond b ([] ∷ lines_of bytes) (at_front byte (lines_of bytes)))
    by true e h = (refl, h)
    by false e h = front_is_line byte (lines_of bytes) e h

front_text : (byte : ℕ) (lines : List (List ℕ)) (text : List ℕ) → text_of lines ≡ text ++ newline ∷ [] → text_of (at_front byte lines) ≡ byte ∷ text ++ newline ∷ []
front_text byte [] [] h = absurd cc
front_text byte [] (c ∷ cs) h = absurd cc
front_text byte (line ∷ lines) text h = ap (λ bytes. byte ∷ bytes) h

pub text_is_lines : (text : List ℕ) → text_of (lines_of (text ++ newline ∷ [])) ≡ text ++ newline ∷ []
unfolding lines_of
text_is_lines [] = refl
text_is_lines (byte ∷ bytes) = by (byte == newline) refl (text_is_lines bytes)
  where
    by : (b : Bool) → (byte == newline) ≡ b → text_of (lines_of (bytes ++ newline ∷ [])) ≡ bytes ++ newline ∷ []
        → text_of (cond b ([] ∷ lines_of (bytes ++ newline ∷ [])) (at_front byte (lines_of (bytes ++ newline ∷ [])))) ≡ byte ∷ bytes ++ newline ∷ []
    by true e h = ap (λ text. newline ∷ text) h ∙ ap (λ c. c ∷ bytes ++ newline ∷ []) (sym (eqb-true byte newline e))
    by false e h = front_text byte (lines_of (bytes ++ newline ∷ [])) bytes h

not_newline : (byte : ℕ) → byte ≢ newline → (byte == newline) ≡ false
not_newline byte h = grind (arith, nat_tests)

pub newline_left_out : (text : List ℕ) (byte : ℕ) → byte ≢ newline → lines_of (text ++ byte ∷ []) ≡ lines_of (text ++ byte ∷ newline ∷ [])
unfolding lines_of
newline_left_out [] byte h = rw (not_newline byte h) refl
newline_left_out (c ∷ cs) byte h = ap (λ lines. cond (c == newline) ([] ∷ lines) (at_front c lines)) (newline_left_out cs byte h)

-- ---- the bytes of fields

weaker : (p q : ℕ → Bool) → ((c : ℕ) → p c ≡ true → q c ≡ true) → (bytes : List ℕ) → list_all p bytes ≡ true → list_all q bytes ≡ true
weaker p q f [] h = refl
weaker p q f (c ∷ cs) h =
    let e = and_parts (p c) (list_all p cs) h in
    and_both (q c) (list_all q cs) (f c e.0) (weaker p q f cs e.1)

abbrev no_tab : ℕ → Bool
no_tab c = not (is_tab c)

digit_no_tab : (c : ℕ) → is_ascii_digit c ≡ true → no_tab c ≡ true
digit_no_tab c h = grind (arith, nat_tests)

hexdigit_no_tab : (c : ℕ) → is_ascii_hexdigit c ≡ true → no_tab c ≡ true
hexdigit_no_tab c h = grind (arith, nat_tests)

timeline_no_tab : (text : List ℕ) (tli : ℕ) → timeline_of text ≡ Some tli → list_all no_tab text ≡ true
timeline_no_tab text tli h = weaker is_ascii_digit no_tab digit_no_tab text (digits_read (2 ^ 32) tli text h).1

hex_word_no_tab : (text : List ℕ) → is_hex_word text ≡ true → list_all no_tab text ≡ true
hex_word_no_tab text h =
    let digits : list_all is_ascii_hexdigit text ≡ true = grind (arith, nat_tests) in
    weaker is_ascii_hexdigit no_tab hexdigit_no_tab text digits

position_no_tab : (text : List ℕ) (at : Lsn) → lsn_of text ≡ Some at → list_all no_tab text ≡ true
position_no_tab text at h =
    let n = named_by_reading text at h in
    ap (list_all no_tab) n.whole
    ∙ list_all-append no_tab n.high (slash ∷ n.low)
    ∙ and_both (list_all no_tab n.high) (list_all no_tab (slash ∷ n.low)) (hex_word_no_tab n.high n.high_word) (hex_word_no_tab n.low n.low_word)

-- ---- around the first tab

tab_after : (front rest : List ℕ) → list_all no_tab front ≡ true → position_or_len is_tab (front ++ tab ∷ rest) ≡ length front
tab_after [] rest h = refl
tab_after (c ∷ cs) rest h =
    let e = and_parts (no_tab c) (list_all no_tab cs) h in
    rw e.0 (ap (λ k. 1 + k) (tab_after cs rest e.1) ∙ omega arith)

before_tab : (front rest : List ℕ) → list_all no_tab front ≡ true → before_first is_tab (front ++ tab ∷ rest) ≡ front
before_tab front rest h = ap (λ k. take k (front ++ tab ∷ rest)) (tab_after front rest h) ∙ take-append_seam front (tab ∷ rest)

after_tab : (front rest : List ℕ) → list_all no_tab front ≡ true → after_first is_tab (front ++ tab ∷ rest) ≡ rest
after_tab front rest h = ap (λ k. drop (k + 1) (front ++ tab ∷ rest)) (tab_after front rest h) ∙ drop-append-add front (tab ∷ rest) 1

one_more : (k : ℕ) → 1 + k ≡ suc k
one_more k = omega arith

before_none : (front : List ℕ) → list_all no_tab front ≡ true → before_first is_tab front ≡ front
before_none [] h = refl
before_none (c ∷ cs) h =
    let e = and_parts (no_tab c) (list_all no_tab cs) h in
    rw (e.0, one_more) (ap (λ bytes. c ∷ bytes) (before_none cs e.1))

before_reason : (front rest : List ℕ) → list_all no_tab front ≡ true → (rest ≡ []) ⊎ ((text : List ℕ) × (rest ≡ tab ∷ text)) → before_first is_tab (front ++ rest) ≡ front
before_reason front rest h (inl nothing) = ap (λ r. before_first is_tab (front ++ r)) nothing ∙ ap (before_first is_tab) (append-nil front) ∙ before_none front h
before_reason front rest h (inr more) = ap (λ r. before_first is_tab (front ++ r)) more.1 ∙ before_tab front more.0 h

-- ---- blanks

abbrev is_text : ℕ → Bool
is_text byte = not (is_blank byte)

blanks_before : (line : List ℕ) → list_all is_blank (take (position_or_len is_text line) line) ≡ true
blanks_before [] = refl
blanks_before (c ∷ cs) = by (is_blank c) refl (blanks_before cs)
  where
    by : (b : Bool) → is_blank c ≡ b → list_all is_blank (take (position_or_len is_text cs) cs) ≡ true
        → list_all is_blank (take (cond (not (not (is_blank c))) (1 + position_or_len is_text cs) 0) (c ∷ cs)) ≡ true
    by true e h = rw (e, one_more) (rw e h)
    by false e h = rw e refl

blanks_skipped : (blanks : List ℕ) (c : ℕ) (cs : List ℕ) → list_all is_blank blanks ≡ true → is_blank c ≡ false → without_blanks (blanks ++ c ∷ cs) ≡ c ∷ cs
blanks_skipped [] c cs h e = rw e refl
blanks_skipped (b ∷ bs) c cs h e =
    let both = and_parts (is_blank b) (list_all is_blank bs) h in
    rw (both.0, one_more) (blanks_skipped bs c cs both.1 e)

-- ---- entries

both_fields : (o : Option ℕ) (p : Option Lsn) (entry : Entry) → option_and_then (λ tli. option_map (entry_with tli) p) o ≡ Some entry → (o ≡ Some entry.tli) × (p ≡ Some entry.end)
both_fields None p entry h = absurd cc
both_fields (Some tli) None entry h = absurd cc
both_fields (Some tli) (Some end) entry h =
    let same : entry_with tli end ≡ entry = cc in
    (ap (λ (e : Entry). Some e.tli) same, ap (λ (e : Entry). Some e.end) same)

entry_read : (line : List ℕ) (entry : Entry) → reading_of line ≡ Ends entry → entry_of (without_blanks line) ≡ Some entry
unfolding reading_of
entry_read line entry h = by (is_skipped (without_blanks line)) (entry_of (without_blanks line)) h
  where
    by : (b : Bool) (o : Option Entry) → cond b Skipped (with_entry o) ≡ Ends entry → o ≡ Some entry
    by true o h = absurd cc
    by false None h = absurd cc
    by false (Some e) h = let same : e ≡ entry = cc in ap Some same

tab_is_there : (text : List ℕ) (at : Lsn) → lsn_of (before_first is_tab (after_first is_tab text)) ≡ Some at → position_or_len is_tab text < length text
tab_is_there text at h = elim (cases_lt (position_or_len is_tab text) (length text)) [
  | inl below ↦ below
  | inr past ↦
      let nothing : after_first is_tab text ≡ [] = drop_all (position_or_len is_tab text + 1) text (omega arith) in
      let none = sym (no_slash [] refl) ∙ ap (λ bytes. lsn_of (before_first is_tab bytes)) (sym nothing) ∙ h in
      absurd cc
]

split_at_tab : (text : List ℕ) → position_or_len is_tab text < length text → text ≡ before_first is_tab text ++ tab ∷ after_first is_tab text
split_at_tab text h =
    split_at_first is_tab text 0 h ∙ ap (λ c. before_first is_tab text ++ c ∷ after_first is_tab text) (eqb-true _ _ (passes_at_first is_tab text 0 h))

reason_of : (text : List ℕ) → let rest : List ℕ = drop (position_or_len is_tab text) text in (rest ≡ []) ⊎ ((more : List ℕ) × (rest ≡ tab ∷ more))
reason_of text = elim (cases_lt (position_or_len is_tab text) (length text)) [
  | inl below ↦ inr (
    drop (suc (position_or_len is_tab text)) text,
    drop-cons text (position_or_len is_tab text) 0 below
        ∙ ap (λ c. c ∷ drop (suc (position_or_len is_tab text)) text) (eqb-true _ _ (passes_at_first is_tab text 0 below)),
  )
  | inr past ↦ inl (drop_all (position_or_len is_tab text) text past)
]

pub names_what_it_reads : (line : List ℕ) (entry : Entry) → reading_of line ≡ Ends entry → NamesEntry line entry
unfolding entry_of
names_what_it_reads line entry h =
    let text : List ℕ = without_blanks line in
    let after : List ℕ = after_first is_tab text in
    let fields = both_fields (timeline_of (before_first is_tab text)) (lsn_of (before_first is_tab after)) entry (entry_read line entry h) in
    record {
      blanks = take (position_or_len is_text line) line;
      timeline = before_first is_tab text;
      position = before_first is_tab after;
      rest = drop (position_or_len is_tab after) after;
      whole =
          sym (take-append-drop (position_or_len is_text line) line)
          ∙ ap (λ bytes. take (position_or_len is_text line) line ++ bytes)
          (split_at_tab text (tab_is_there text entry.end fields.1)
          ∙ ap (λ bytes. before_first is_tab text ++ tab ∷ bytes) (sym (take-append-drop (position_or_len is_tab after) after)));
      blank = blanks_before line;
      tli = fields.0;
      end = fields.1;
      reason = reason_of after;
    }

no_blank : (c : ℕ) → is_ascii_digit c ≡ true → is_blank c ≡ false
no_blank c h = grind (arith, nat_tests)

no_comment : (c : ℕ) (cs : List ℕ) → is_ascii_digit c ≡ true → is_skipped (c ∷ cs) ≡ false
no_comment c cs h = grind (arith, nat_tests)

reads_digits : (c : ℕ) (cs : List ℕ) (blanks rest : List ℕ) (entry : Entry) → list_all is_blank blanks ≡ true → is_ascii_digit c ≡ true
    → entry_of (c ∷ cs) ≡ Some entry → reading_of (blanks ++ c ∷ cs) ≡ Ends entry
unfolding reading_of
reads_digits c cs blanks rest entry h digit e =
    rw (blanks_skipped blanks c cs h (no_blank c digit), no_comment c cs digit, e) refl

entry_of_fields : (timeline position rest : List ℕ) (entry : Entry) → timeline_of timeline ≡ Some entry.tli → lsn_of position ≡ Some entry.end
    → (rest ≡ []) ⊎ ((text : List ℕ) × (rest ≡ tab ∷ text)) → entry_of (timeline ++ tab ∷ (position ++ rest)) ≡ Some entry
unfolding entry_of
entry_of_fields timeline position rest entry t p r =
    let clean = timeline_no_tab timeline entry.tli t in
    let front : before_first is_tab (timeline ++ tab ∷ (position ++ rest)) ≡ timeline = before_tab timeline (position ++ rest) clean in
    let back : before_first is_tab (after_first is_tab (timeline ++ tab ∷ (position ++ rest))) ≡ position =
    ap (before_first is_tab) (after_tab timeline (position ++ rest) clean) ∙ before_reason position rest (position_no_tab position entry.end p) r in
    let tli = ap timeline_of front ∙ t in
    let end = ap lsn_of back ∙ p in
    rw (tli, end) refl

reads_fields : (blanks timeline position rest : List ℕ) (entry : Entry) → list_all is_blank blanks ≡ true → timeline_of timeline ≡ Some entry.tli → lsn_of position ≡ Some entry.end
    → (rest ≡ []) ⊎ ((text : List ℕ) × (rest ≡ tab ∷ text)) → reading_of (blanks ++ (timeline ++ tab ∷ (position ++ rest))) ≡ Ends entry
reads_fields blanks [] position rest entry h t p r = absurd (omega (arith, (digits_read (2 ^ 32) entry.tli [] t).0))
reads_fields blanks (c ∷ cs) position rest entry h t p r =
    let digits = (digits_read (2 ^ 32) entry.tli (c ∷ cs) t).1 in
    let first = (and_parts (is_ascii_digit c) (list_all is_ascii_digit cs) digits).0 in
    reads_digits c (cs ++ tab ∷ (position ++ rest)) blanks rest entry h first (entry_of_fields (c ∷ cs) position rest entry t p r)

pub reads_what_it_names : (line : List ℕ) (entry : Entry) → NamesEntry line entry → reading_of line ≡ Ends entry
reads_what_it_names line entry n = ap reading_of n.whole ∙ reads_fields n.blanks n.timeline n.position n.rest entry n.blank n.tli n.end n.reason
