-- A label is read as it is written.
use Rattle.std.proofs.Common.{◌≡◌, ◌==◌, ℕ, zero, suc, ◌+◌, ◌/◌, ◌%◌, ◌^◌, ◌<◌, Bool, true, false, cond, ◌&&◌, ◌||◌, List, [], ◌∷◌, ◌++◌, Some, None, Ok, codes, get_or, length, take, drop, refl, sym, ap, ap₂, ◌∙◌, arith, append_assoc, option_and_then, eqb-true}
use Rattle.std.proofs.lemmas.Bool.Decides.{nat_tests}
use Rattle.std.proofs.lemmas.Grind.{common_steps}
use Rattle.std.proofs.lemmas.List.Folds.{list_any-append}
use Rattle.std.proofs.Math.Seq.{take-append_seam, drop-append_seam, drop-append-add}
use Rattle.std.specs.Char.{is_ascii_hexdigit}
use Rattle.std.specs.Cmp.Lexicographic.{bytes_decides}
use Rattle.std.specs.List.{after_first, before_first, list_all, list_any, position_or_len}
use Rattle.memchr.specs.Find.{is_byte, IsFirstByte}
use Rattle.timeline_history.proofs.PieceLemmas.{before_found}
use Rattle.wal_base.specs.declared.segment.Segment.{Segment}
use Rattle.wal_base.specs.Hex.{hex_text, is_hex_word, is_long_name, is_upper_hex}
use Rattle.wal_base.specs.Lsn.{lsn_of, lsn_text, slash}
use Rattle.wal_base.specs.Segment.{segment_named}
use Rattle.wal_base.proofs.HexDigits.{and_parts}
use Rattle.wal_base.proofs.HexText.{is_hex_word-hex_text}
use Rattle.wal_base.proofs.LsnLemmas.{lsn_of-lsn_text}
use Rattle.wal_base.proofs.SegmentLemmas.{no_long_name}
use Rattle.backup_label.specs.declared.label.Label.{Label}
use Rattle.backup_label.specs.Time.{label_time}
use Rattle.backup_label.specs.Text.{line, start_file, start_line, checkpoint_line, other_lines, label_text, places_of}
use Rattle.backup_label.specs.Reading.{is_newline, is_space, whole_line, behind, is_file, start_named, start_in, checkpoint_in, with_places, label_of}

-- ---- up to a byte that comes only then, and behind it

module _ (test : ℕ → Bool) where
  or_parts : (a b : Bool) → (a || b) ≡ false → (a ≡ false) × (b ≡ false)
  or_parts true b h = absurd cc
  or_parts false b h = (refl, h)

  place : (xs : List ℕ) (y : ℕ) (ys : List ℕ) → list_any test xs ≡ false → test y ≡ true → position_or_len test (xs ++ y ∷ ys) ≡ length xs
  place [] y ys free h = rw h refl
  place (x ∷ xs) y ys free h =
      let e = or_parts (test x) (list_any test xs) free in
      rw e.0 (ap (λ k. 1 + k) (place xs y ys e.1 h) ∙ omega arith)

  pub before_it : (xs : List ℕ) (y : ℕ) (ys : List ℕ) → list_any test xs ≡ false → test y ≡ true → before_first test (xs ++ y ∷ ys) ≡ xs
  before_it xs y ys free h = ap (λ k. take k (xs ++ y ∷ ys)) (place xs y ys free h) ∙ take-append_seam xs (y ∷ ys)

  pub after_it : (xs : List ℕ) (y : ℕ) (ys : List ℕ) → list_any test xs ≡ false → test y ≡ true → after_first test (xs ++ y ∷ ys) ≡ ys
  after_it xs y ys free h = ap (λ k. drop (k + 1) (xs ++ y ∷ ys)) (place xs y ys free h) ∙ drop-append-add xs (y ∷ ys) 1

  or_true : (a b : Bool) → b ≡ true → (a || b) ≡ true
  or_true true b h = refl
  or_true false b h = h

  pub any_there : (xs : List ℕ) (y : ℕ) (ys : List ℕ) → test y ≡ true → list_any test (xs ++ y ∷ ys) ≡ true
  any_there [] y ys h = ap (λ b. b || list_any test ys) h
  any_there (x ∷ xs) y ys h = or_true (test x) _ (any_there xs y ys h)

  any_at : (xs : List ℕ) (i : ℕ) → i < length xs → test (get_or xs i 0) ≡ true → list_any test xs ≡ true
  any_at [] i l h = absurd (omega arith)
  any_at (x ∷ xs) zero l h = ap (λ b. b || list_any test xs) h
  any_at (x ∷ xs) (suc i) l h = or_true (test x) _ (any_at xs i (omega arith) h)

  not_true : (b : Bool) → (b ≡ true → ⊥) → b ≡ false
  not_true true h = absurd (h refl)
  not_true false h = refl

  none_at : (xs : List ℕ) → ((k : ℕ) → k < length xs → test (get_or xs k 0) ≡ true → ⊥) → list_any test xs ≡ false
  none_at [] h = refl
  none_at (x ∷ xs) h = ap₂ (λ a b. a || b) (not_true (test x) (h 0 (omega arith))) (none_at xs (λ k l. h (suc k) (omega arith)))

  -- where no byte of a kind passes
  pub free_of : (kind : ℕ → Bool) → ((c : ℕ) → kind c ≡ true → test c ≡ false) → (xs : List ℕ) → list_all kind xs ≡ true → list_any test xs ≡ false
  free_of kind h [] all = refl
  free_of kind h (x ∷ xs) all =
      let e = and_parts (kind x) (list_all kind xs) all in
      ap (λ b. b || list_any test xs) (h x e.0) ∙ free_of kind h xs e.1

  free_both : (xs ys : List ℕ) → list_any test xs ≡ false → list_any test ys ≡ false → list_any test (xs ++ ys) ≡ false
  free_both xs ys h k = list_any-append test xs ys ∙ ap (λ b. b || list_any test ys) h ∙ k

  hex_digits_of : (n : ℕ) → n < 2 ^ 32 → list_all is_ascii_hexdigit (hex_text n) ≡ true
  hex_digits_of n h = let word : is_hex_word (hex_text n) ≡ true = is_hex_word-hex_text n h in grind (arith, nat_tests)

  pub lsn_free : (at : ℕ) → at < 2 ^ 64 → ((c : ℕ) → is_ascii_hexdigit c ≡ true → test c ≡ false) → test slash ≡ false → list_any test (lsn_text at) ≡ false
  lsn_free at h hex other =
      let high : at / 2 ^ 32 < 2 ^ 32 = omega arith in
      let low : at % 2 ^ 32 < 2 ^ 32 = omega arith in
      free_both (hex_text (at / 2 ^ 32)) (slash ∷ hex_text (at % 2 ^ 32)) (free_of is_ascii_hexdigit hex (hex_text (at / 2 ^ 32)) (hex_digits_of (at / 2 ^ 32) high))
      (ap (λ b. b || list_any test (hex_text (at % 2 ^ 32))) other ∙ free_of is_ascii_hexdigit hex (hex_text (at % 2 ^ 32)) (hex_digits_of (at % 2 ^ 32) low))

hex_newline : (c : ℕ) → is_ascii_hexdigit c ≡ true → is_newline c ≡ false
hex_newline c h = grind (arith, nat_tests)

hex_space : (c : ℕ) → is_ascii_hexdigit c ≡ true → is_space c ≡ false
hex_space c h = grind (arith, nat_tests)

upper_newline : (c : ℕ) → is_upper_hex c ≡ true → is_newline c ≡ false
upper_newline c h = grind (arith, nat_tests)

-- ---- lines

line_read : (text rest : List ℕ) → list_any is_newline text ≡ false → whole_line (line text ++ rest) ≡ Some text
line_read text rest free =
    ap whole_line (append_assoc text (10 ∷ []) rest)
    ∙ ap (λ b. cond b (Some (before_first is_newline (text ++ 10 ∷ rest))) None) (any_there is_newline text 10 rest refl)
    ∙ ap (λ t. Some t) (before_it is_newline text 10 rest free refl)

rest_read : (text rest : List ℕ) → list_any is_newline text ≡ false → after_first is_newline (line text ++ rest) ≡ rest
rest_read text rest free = ap (after_first is_newline) (append_assoc text (10 ∷ []) rest) ∙ after_it is_newline text 10 rest free refl

behind_front : (front rest : List ℕ) → behind front (front ++ rest) ≡ Some rest
behind_front front rest =
    ap₂ (λ b (t : List ℕ). cond b (Some t) None) ((bytes_decides (take (length front) (front ++ rest)) front).1 (take-append_seam front rest)) (drop-append_seam front rest)

-- ---- the segment file

pub long_name : (segment : Segment) (name : List ℕ) → segment_named segment.size name ≡ Some segment → is_long_name name ≡ true
long_name segment name named = by (is_long_name name) refl
  where
    by : (b : Bool) → is_long_name name ≡ b → b ≡ true
    by true e = refl
    by false e = absurd (let none = no_long_name segment.size name e in cc)

pub name_size : (name : List ℕ) → is_long_name name ≡ true → length name ≡ 24
name_size name h = eqb-true (length name) 24 (and_parts (length name == 24) (list_all is_upper_hex name) h).0

file_read : (name : List ℕ) → is_long_name name ≡ true → is_file (codes "(file " ++ (name ++ codes ")")) ≡ true
file_read name h =
    let size : length name ≡ 24 = name_size name h in
    let all : length (codes "(file " ++ (name ++ codes ")")) ≡ 31 = grind (arith, common_steps) in
    let inner : take 24 (name ++ codes ")") ≡ name = ap (λ k. take k (name ++ codes ")")) (sym size) ∙ take-append_seam name (codes ")") in
    let last : get_or (name ++ codes ")") 24 0 ≡ 41 = grind (arith, common_steps) in
    ap₂ (λ n (t : List ℕ). (n == 31) && true && is_long_name t && (get_or (name ++ codes ")") 24 0 == 41)) all inner ∙ ap₂ (λ b n. true && true && b && (n == 41)) h last

-- ---- the first line

pub line_found : (bytes : List ℕ) (at : ℕ) → IsFirstByte (is_byte 10) bytes (Some at) → Some (take at bytes) ≡ whole_line bytes
line_found bytes at h =
    let first = h.0 in
    let high : at < length bytes = first.high in
    sym (ap₂ (λ b (t : List ℕ). cond b (Some t) None) (any_at is_newline bytes at high h.1) (sym (before_found is_newline bytes at h)))

pub no_line : (bytes : List ℕ) → IsFirstByte (is_byte 10) bytes None → None ≡ whole_line bytes
no_line bytes h = sym (ap (λ b. cond b (Some (before_first is_newline bytes)) None) (none_at is_newline bytes (λ k l. h k (omega arith) l)))

-- ---- the whole label

regroup : (s lsn f file b ck cp m fr st time : List ℕ) → line (s ++ (lsn ++ (f ++ (file ++ b)))) ++ (line (ck ++ cp) ++ (line m ++ line fr ++ line (st ++ time)))
    ≡ s ++ (lsn ++ (f ++ (file ++ (b ++ (10 ∷ (ck ++ (cp ++ (10 ∷ (m ++ (10 ∷ (fr ++ (10 ∷ (st ++ (time ++ 10 ∷ []))))))))))))))
regroup s lsn f file b ck cp m fr st time = simp append_assoc

-- as a format writes it
pub label_shape : (l : Label) → label_text l ≡ codes "START WAL LOCATION: " ++ (lsn_text l.start.0 ++ (codes " (file " ++ (start_file l ++ (41 ∷ 10 ∷ (codes "CHECKPOINT LOCATION: " ++ (lsn_text l.checkpoint.0 ++ (10 ∷ (codes "BACKUP METHOD: pg_rewind" ++ (10 ∷ (codes "BACKUP FROM: standby" ++ (10 ∷ (codes "START TIME: " ++ (label_time l.time ++ 10 ∷ [])))))))))))))
unfolding label_text start_line checkpoint_line other_lines
label_shape l =
    regroup (codes "START WAL LOCATION: ") (lsn_text l.start.0) (codes " (file ") (start_file l) (codes ")") (codes "CHECKPOINT LOCATION: ") (lsn_text l.checkpoint.0)
    (codes "BACKUP METHOD: pg_rewind") (codes "BACKUP FROM: standby") (codes "START TIME: ") (label_time l.time)

start_text : Label → List ℕ
start_text l = lsn_text l.start.0 ++ (codes " (file " ++ (start_file l ++ codes ")"))

start_text_read : (l : Label) → l.start.0 < 2 ^ 64 → is_long_name (start_file l) ≡ true → start_named (start_text l) ≡ Some l.start
unfolding start_text
start_text_read l h name =
    let behind_space : after_first is_space (lsn_text l.start.0 ++ (codes " (file " ++ (start_file l ++ codes ")"))) ≡ codes "(file " ++ (start_file l ++ codes ")") =
    after_it is_space (lsn_text l.start.0) 32 (codes "(file " ++ (start_file l ++ codes ")")) (lsn_free is_space l.start.0 h hex_space refl) refl in
    let before_space : before_first is_space (lsn_text l.start.0 ++ (codes " (file " ++ (start_file l ++ codes ")"))) ≡ lsn_text l.start.0 =
    before_it is_space (lsn_text l.start.0) 32 (codes "(file " ++ (start_file l ++ codes ")")) (lsn_free is_space l.start.0 h hex_space refl) refl in
    ap₂ (λ t (u : List ℕ). cond (is_file t) (lsn_of u) None) behind_space before_space
    ∙ ap (λ b. cond b (lsn_of (lsn_text l.start.0)) None) (file_read (start_file l) name)
    ∙ lsn_of-lsn_text l.start.0 h

start_free : (l : Label) → l.start.0 < 2 ^ 64 → is_long_name (start_file l) ≡ true → list_any is_newline (codes "START WAL LOCATION: " ++ start_text l) ≡ false
unfolding start_text
start_free l h name =
    let upper : list_all is_upper_hex (start_file l) ≡ true = (and_parts (length (start_file l) == 24) (list_all is_upper_hex (start_file l)) name).1 in
    free_both is_newline (codes "START WAL LOCATION: ") (start_text l) refl
    (free_both is_newline (lsn_text l.start.0) (codes " (file " ++ (start_file l ++ codes ")")) (lsn_free is_newline l.start.0 h hex_newline refl)
    (free_both is_newline (codes " (file ") (start_file l ++ codes ")") refl
    (free_both is_newline (start_file l) (codes ")") (free_of is_newline is_upper_hex upper_newline (start_file l) upper) refl)))

start_read : (l : Label) (rest : List ℕ) → l.start.0 < 2 ^ 64 → is_long_name (start_file l) ≡ true → start_in (start_line l ++ rest) ≡ Some l.start
unfolding start_in start_line start_text
start_read l rest h name =
    ap (λ o. option_and_then start_named (option_and_then (behind (codes "START WAL LOCATION: ")) o)) (line_read (codes "START WAL LOCATION: " ++ start_text l) rest (start_free l h name))
    ∙ ap (option_and_then start_named) (behind_front (codes "START WAL LOCATION: ") (start_text l))
    ∙ start_text_read l h name

rest_of_start : (l : Label) (rest : List ℕ) → l.start.0 < 2 ^ 64 → is_long_name (start_file l) ≡ true → after_first is_newline (start_line l ++ rest) ≡ rest
unfolding start_line start_text
rest_of_start l rest h name = rest_read (codes "START WAL LOCATION: " ++ start_text l) rest (start_free l h name)

checkpoint_read : (l : Label) (rest : List ℕ) → l.checkpoint.0 < 2 ^ 64 → checkpoint_in (checkpoint_line l ++ rest) ≡ Some l.checkpoint
unfolding checkpoint_in checkpoint_line
checkpoint_read l rest h =
    ap (λ o. option_and_then lsn_of (option_and_then (behind (codes "CHECKPOINT LOCATION: ")) o))
    (line_read (codes "CHECKPOINT LOCATION: " ++ lsn_text l.checkpoint.0) rest (free_both is_newline (codes "CHECKPOINT LOCATION: ") (lsn_text l.checkpoint.0) refl (lsn_free is_newline l.checkpoint.0 h hex_newline refl)))
    ∙ ap (option_and_then lsn_of) (behind_front (codes "CHECKPOINT LOCATION: ") (lsn_text l.checkpoint.0))
    ∙ lsn_of-lsn_text l.checkpoint.0 h

-- what is written is read again
pub label_read : (l : Label) → l.start.0 < 2 ^ 64 → l.checkpoint.0 < 2 ^ 64 → is_long_name (start_file l) ≡ true → label_of (label_text l) ≡ Ok (places_of l)
unfolding label_of label_text
label_read l h k name =
    ap₂ with_places (start_read l (checkpoint_line l ++ other_lines l) h name)
    (ap checkpoint_in (rest_of_start l (checkpoint_line l ++ other_lines l) h name) ∙ checkpoint_read l (other_lines l) k)
