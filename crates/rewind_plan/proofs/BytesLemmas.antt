-- The bytes that the changes of a file of blocks leave.
use Rattle.std.proofs.Common.{◌≡◌, ◌⊎◌, ℕ, zero, suc, ◌+◌, ◌*◌, ◌-◌, ◌/◌, ◌%◌, ◌<◌, ◌≤◌, ◌==◌, Bool, true, false, ◌||◌, ◌&&◌, cond, nat_lt, List, [], ◌∷◌, ◌++◌, length, map, take, drop, get_or, Option, Some, inl, inr, refl, sym, ap, ◌∙◌, true≢false, arith}
use Rattle.std.specs.Prelude.{nat_le}
use Rattle.std.proofs.lemmas.List.{append-nil, ext_get_or, get_or-append_right, get_or-drop, get_or-take, get_or_append_left, length-append, length-drop, length-take-le, take-append-drop}
use Rattle.std.proofs.lemmas.List.FromFn.{get_or-map-range_with_len, length-map-range_with_len}
use Rattle.layout.specs.Splice.{splice}
use Rattle.cluster_tree.specs.PathValue.{PathValue}
use Rattle.cluster_tree.specs.Contents.{Contents, Entry, FileEntry}
use Rattle.cluster_tree.specs.Change.{Change, entry_after}
use Rattle.cluster_tree.specs.Tree.{bytes_at}
use Rattle.marked_runs.specs.Runs.{writes_at}
use Rattle.rewind_writes.specs.Steps.{part_of, steps_changes}
use Rattle.rewind_writes.specs.declared.step.Step.TheVariants.{Cut}
use Rattle.rewound_tree.specs.Mixed.{mixed, mixed_byte}
use Rattle.rewind_plan.specs.Blocks.{AllEnd, block_steps, is_copied, onto_runs, range_step, runs_of}
use Rattle.rewind_plan.specs.declared.runs.Run.{Run}
use Rattle.rewind_plan.proofs.Jobs.{made_of}
use Rattle.rewind_plan.proofs.FileLemmas.{AllWithin, begin_within, runs_begin, runs_below}
use Rattle.rewind_plan.proofs.InRunLemmas.{in_run, in_runs, same_test, and_parts, both_true, le_of, lt_of, of_le, of_lt, not_le, not_lt, eq_of, in_run_of, run_bounds, or_cases, or_two, longer, in-runs}

-- ---- what a write leaves of each byte

-- the byte of a write at a place, else what stood there
splice_at : (old : List ℕ) (at : ℕ) (bytes : List ℕ) (i : ℕ) → at ≤ length old → get_or (splice old at bytes) i 0 ≡ cond (nat_le at i && nat_lt i (at + length bytes)) (get_or bytes (i - at) 0) (get_or old i 0)
unfolding splice
splice_at old at bytes i l = by (nat_le at i) (nat_lt i (at + length bytes)) refl refl
  where
    front : length (take at old) ≡ at
    front = length-take-le at old l

    both : length (take at old ++ bytes) ≡ at + length bytes
    both = length-append (take at old) bytes ∙ ap (λ n. n + length bytes) front

    by : (a b : Bool) → nat_le at i ≡ a → nat_lt i (at + length bytes) ≡ b → get_or (take at old ++ bytes ++ drop (at + length bytes) old) i 0 ≡ cond (a && b) (get_or bytes (i - at) 0) (get_or old i 0)
    by true true e h =
        let low = le_of at i e in let high = lt_of i (at + length bytes) h in
        get_or_append_left (take at old ++ bytes) (drop (at + length bytes) old) 0 i (omega (arith, high, both))
        ∙ get_or-append_right (take at old) bytes at i 0 front low
    by true false e h =
        let high = not_lt i (at + length bytes) h in
        get_or-append_right (take at old ++ bytes) (drop (at + length bytes) old) (at + length bytes) i 0 both high
        ∙ get_or-drop (at + length bytes) old (i - (at + length bytes)) 0
        ∙ ap (λ n. get_or old n 0) (omega (arith, high))
    by false b e h =
        let low = not_le at i e in
        get_or_append_left (take at old ++ bytes) (drop (at + length bytes) old) 0 i (omega (arith, low, both))
        ∙ get_or_append_left (take at old) bytes 0 i (omega (arith, low, front))
        ∙ get_or-take at old i 0 low

splice_length : (old : List ℕ) (at : ℕ) (bytes : List ℕ) → at ≤ length old → (length old ≤ length (splice old at bytes)) × (at + length bytes ≤ length (splice old at bytes))
    × ((n : ℕ) → length old ≤ n → at + length bytes ≤ n → length (splice old at bytes) ≤ n)
unfolding splice
splice_length old at bytes l =
    let whole : length (take at old ++ bytes ++ drop (at + length bytes) old) ≡ at + length bytes + (length old - (at + length bytes)) =
    length-append (take at old ++ bytes) (drop (at + length bytes) old) ∙ ap (λ n. n + length (drop (at + length bytes) old)) (length-append (take at old) bytes ∙ ap (λ n. n + length bytes) (length-take-le at old l)) ∙ ap (λ n. at + length bytes + n) (length-drop (at + length bytes) old) in
    (omega (arith, whole), omega (arith, whole), λ n a b. omega (arith, whole, a, b))

-- ---- a run of blocks

abbrev run_bytes : List ℕ → Run → List ℕ
run_bytes new run = take (run.count * 8192) (drop (run.first * 8192) new)

abbrev pub put_runs : List ℕ → List Run → List ℕ → List ℕ
put_runs new [] old = old
put_runs new (run ∷ runs) old = put_runs new runs (splice old (run.first * 8192) (run_bytes new run))

-- a run lies in a file
abbrev Inside : ℕ → Run → Type 0
Inside size run = run.first * 8192 + run.count * 8192 ≤ size

run_length : (new : List ℕ) (run : Run) → Inside (length new) run → length (run_bytes new run) ≡ run.count * 8192
run_length new run l = length-take-le (run.count * 8192) (drop (run.first * 8192) new) (omega (arith, length-drop (run.first * 8192) new, l))

in_bytes : (run : Run) (i : ℕ) → (nat_le (run.first * 8192) i && nat_lt i (run.first * 8192 + run.count * 8192)) ≡ in_run (i / 8192) run
in_bytes run i = same_test _ _
    (λ h. let two = and_parts (nat_le (run.first * 8192) i) (nat_lt i (run.first * 8192 + run.count * 8192)) h in
    let low = le_of (run.first * 8192) i two.0 in let high = lt_of i (run.first * 8192 + run.count * 8192) two.1 in
    in_run_of (i / 8192) run (omega (arith, low)) (omega (arith, high)))
    (λ h. let bounds = run_bounds (i / 8192) run h in
    both_true (nat_le (run.first * 8192) i) (nat_lt i (run.first * 8192 + run.count * 8192)) (of_le (run.first * 8192) i (omega (arith, bounds.0))) (of_lt i (run.first * 8192 + run.count * 8192) (omega (arith, bounds.1))))

run_at : (old new : List ℕ) (run : Run) (i : ℕ) → run.first * 8192 ≤ length old → Inside (length new) run
    → get_or (splice old (run.first * 8192) (run_bytes new run)) i 0 ≡ cond (in_run (i / 8192) run) (get_or new i 0) (get_or old i 0)
run_at old new run i l inside =
    splice_at old (run.first * 8192) (run_bytes new run) i l
    ∙ ap (λ n. cond (nat_le (run.first * 8192) i && nat_lt i (run.first * 8192 + n)) (get_or (run_bytes new run) (i - run.first * 8192) 0) (get_or old i 0)) (run_length new run inside)
    ∙ by (in_run (i / 8192) run) (in_bytes run i)
  where
    by : (b : Bool) → (nat_le (run.first * 8192) i && nat_lt i (run.first * 8192 + run.count * 8192)) ≡ b
        → cond (nat_le (run.first * 8192) i && nat_lt i (run.first * 8192 + run.count * 8192)) (get_or (run_bytes new run) (i - run.first * 8192) 0) (get_or old i 0) ≡ cond b (get_or new i 0) (get_or old i 0)
    by true e =
        let two = and_parts (nat_le (run.first * 8192) i) (nat_lt i (run.first * 8192 + run.count * 8192)) e in
        let low = le_of (run.first * 8192) i two.0 in let high = lt_of i (run.first * 8192 + run.count * 8192) two.1 in
        ap (λ b. cond b (get_or (run_bytes new run) (i - run.first * 8192) 0) (get_or old i 0)) e
        ∙ get_or-take (run.count * 8192) (drop (run.first * 8192) new) (i - run.first * 8192) 0 (omega (arith, low, high))
        ∙ get_or-drop (run.first * 8192) new (i - run.first * 8192) 0
        ∙ ap (λ n. get_or new n 0) (omega (arith, low))
    by false e = ap (λ b. cond b (get_or (run_bytes new run) (i - run.first * 8192) 0) (get_or old i 0)) e

-- runs whose firsts lie within a file, and which lie inside another one
abbrev pub Fine : (within inside : ℕ) → List Run → Type 0
Fine within inside [] = Unit {0}
Fine within inside (run ∷ runs) = (run.first * 8192 ≤ within) × Inside inside run × Fine within inside runs

cond_or : (a b : Bool) (x y : ℕ) → cond b x (cond a x y) ≡ cond (a || b) x y
cond_or true true x y = refl
cond_or true false x y = refl
cond_or false b x y = refl

pub put-runs-at : (new : List ℕ) (size : ℕ) (runs : List Run) (old : List ℕ) (i : ℕ) → size ≤ length old → Fine size (length new) runs
    → get_or (put_runs new runs old) i 0 ≡ cond (in_runs (i / 8192) runs) (get_or new i 0) (get_or old i 0)
put-runs-at new size [] old i l fine = refl
put-runs-at new size (run ∷ runs) old i l fine =
    let next = splice old (run.first * 8192) (run_bytes new run) in
    let low : run.first * 8192 ≤ length old = omega (arith, l, fine.0) in
    put-runs-at new size runs next i (omega (arith, l, (splice_length old (run.first * 8192) (run_bytes new run) low).0)) fine.2
    ∙ ap (λ x. cond (in_runs (i / 8192) runs) (get_or new i 0) x) (run_at old new run i low fine.1)
    ∙ cond_or (in_run (i / 8192) run) (in_runs (i / 8192) runs) (get_or new i 0) (get_or old i 0)

-- it grows to the end of each run, and no further
pub put-runs-length : (new : List ℕ) (size : ℕ) (runs : List Run) (old : List ℕ) → size ≤ length old → length old ≤ length new → Fine size (length new) runs
    → (length old ≤ length (put_runs new runs old)) × (length (put_runs new runs old) ≤ length new) × ((block : ℕ) → in_runs block runs ≡ true → block * 8192 + 8192 ≤ length (put_runs new runs old))
put-runs-length new size [] old l m fine = (omega arith, m, λ block h. absurd (true≢false (sym h)))
put-runs-length new size (run ∷ runs) old l m fine =
    let low : run.first * 8192 ≤ length old = omega (arith, l, fine.0) in
    let next = splice old (run.first * 8192) (run_bytes new run) in
    let sizes = splice_length old (run.first * 8192) (run_bytes new run) low in
    let own = run_length new run fine.1 in
    let rest = put-runs-length new size runs next (omega (arith, l, sizes.0)) (sizes.2 (length new) m (omega (arith, own, fine.1))) fine.2 in (
      omega (arith, sizes.0, rest.0),
      rest.1,
      λ block h. by block (or_cases (in_run block run) (in_runs block runs) h) rest.0 rest.2 sizes.1 own,
    )
  where
    by : (block : ℕ) → (in_run block run ≡ true) ⊎ (in_runs block runs ≡ true) → length (splice old (run.first * 8192) (run_bytes new run)) ≤ length (put_runs new runs (splice old (run.first * 8192) (run_bytes new run)))
        → ((b : ℕ) → in_runs b runs ≡ true → b * 8192 + 8192 ≤ length (put_runs new runs (splice old (run.first * 8192) (run_bytes new run))))
        → run.first * 8192 + length (run_bytes new run) ≤ length (splice old (run.first * 8192) (run_bytes new run)) → length (run_bytes new run) ≡ run.count * 8192
        → block * 8192 + 8192 ≤ length (put_runs new runs (splice old (run.first * 8192) (run_bytes new run)))
    by block (inl h) longer rest reach own = let bounds = run_bounds block run h in omega (arith, bounds.0, bounds.1, longer, reach, own)
    by block (inr h) longer rest reach own = rest block h

-- ---- a file of blocks

end_with : (block end : ℕ) (runs : List Run) → block < end → AllEnd end runs → AllEnd end (onto_runs block runs)
end_with block end [] l more = (omega (arith, l), tt)
end_with block end (run ∷ runs) l more = by (run.first == block + 1) refl
  where
    by : (b : Bool) → run.first == block + 1 ≡ b → AllEnd end (cond b (record { first = block; count = run.count + 1 } ∷ runs) (record { first = block; count = 1 } ∷ run ∷ runs))
    by true is = let same = eq_of run.first (block + 1) is in (omega (arith, same, more.0), more.1)
    by false is = (omega (arith, l), more)

pub runs_end : (p : ℕ → Bool) (block count end : ℕ) → block + count ≤ end → AllEnd end (runs_of p block count)
runs_end p block zero end l = tt
runs_end p block (suc count) end l = by (p block) (runs_end p (block + 1) count end (omega (arith, l)))
  where
    by : (b : Bool) → AllEnd end (runs_of p (block + 1) count) → AllEnd end (cond b (onto_runs block (runs_of p (block + 1) count)) (runs_of p (block + 1) count))
    by true more = end_with block end (runs_of p (block + 1) count) (omega (arith, l)) more
    by false more = more

all_fine : (size end inside : ℕ) (runs : List Run) → end * 8192 ≤ inside → AllWithin size runs → AllEnd end runs → Fine size inside runs
all_fine size end inside [] l within ends = tt
all_fine size end inside (run ∷ runs) l within ends = (within.0, omega (arith, ends.0, l), all_fine size end inside runs l within.1 ends.1)

fold_both : (o : Option Entry) (xs ys : List Change) → made_of o (xs ++ ys) ≡ made_of (made_of o xs) ys
fold_both o [] ys = refl
fold_both o (x ∷ xs) ys = fold_both (entry_after o x) xs ys

spliced_none : (old : List ℕ) (at : ℕ) → splice old at [] ≡ old
unfolding splice
spliced_none old at = ap (λ x. x ++ drop (at + 0) old) (append-nil (take at old)) ∙ ap (λ n. take at old ++ drop n old) (omega arith) ∙ take-append-drop at old

pub write_made : (to : PathValue) (at : ℕ) (bytes old : List ℕ) → made_of (Some (FileEntry old)) (writes_at to at bytes) ≡ Some (FileEntry (splice old at bytes))
write_made to at [] old = ap (λ b. Some (FileEntry b)) (sym (spliced_none old at))
write_made to at (x ∷ bytes) old = refl

ranges_made : (c : Contents) (from to : PathValue) (runs : List Run) (old : List ℕ) → made_of (Some (FileEntry old)) (steps_changes c (map (range_step from to) runs)) ≡ Some (FileEntry (put_runs (bytes_at c from) runs old))
ranges_made c from to [] old = refl
ranges_made c from to (run ∷ runs) old =
    fold_both (Some (FileEntry old)) (writes_at to (run.first * 8192) (part_of c from (run.first * 8192) (run.count * 8192))) (steps_changes c (map (range_step from to) runs))
    ∙ ap (λ o. made_of o (steps_changes c (map (range_step from to) runs))) (write_made to (run.first * 8192) (part_of c from (run.first * 8192) (run.count * 8192)) old)
    ∙ ranges_made c from to runs (splice old (run.first * 8192) (part_of c from (run.first * 8192) (run.count * 8192)))

module _ (wanted : ℕ → Bool) (old new : List ℕ) (whole : length old % 8192 ≡ 0) (whole_new : length new % 8192 ≡ 0) where
  abbrev copied : ℕ → Bool
  copied = is_copied wanted (length old)

  abbrev blocks : List Run
  blocks = runs_of copied 0 (length new / 8192)

  -- a block of the source's file is in a run exactly where it is copied
  copied_in : (block : ℕ) → block < length new / 8192 → in_runs block blocks ≡ copied block
  copied_in block l =
      in-runs copied block 0 (length new / 8192)
      ∙ ap (λ b. b && copied block) (both_true (nat_le 0 block) (nat_lt block (0 + length new / 8192)) (of_le 0 block (omega arith)) (of_lt block (0 + length new / 8192) (omega (arith, l))))

  past_old : (i : ℕ) → nat_le (length old) i ≡ nat_le (length old / 8192) (i / 8192)
  past_old i = same_test _ _ (λ h. let l = le_of (length old) i h in of_le (length old / 8192) (i / 8192) (omega (arith, l)))
      (λ h. let l = le_of (length old / 8192) (i / 8192) h in of_le (length old) i (omega (arith, l, whole)))

  mixed_is : (i : ℕ) → i < length new → get_or (mixed wanted old new) i 0 ≡ cond (copied (i / 8192)) (get_or new i 0) (get_or old i 0)
  unfolding mixed
  mixed_is i l =
      get_or-map-range_with_len (mixed_byte wanted old new) 0 (length new) i i 0 l (omega arith)
      ∙ ap (λ b. cond (wanted (i / 8192) || b) (get_or new i 0) (get_or old i 0)) (past_old i)

  mixed_long : length (mixed wanted old new) ≡ length new
  unfolding mixed
  mixed_long = length-map-range_with_len (mixed_byte wanted old new) 0 (length new)

  -- from a file that is no longer than the source's, and has the target's bytes before its end
  runs_mix : (start : List ℕ) (size : ℕ) → size ≤ length start → length start ≤ length new → Fine size (length new) blocks → (length start ≡ length new) ⊎ ((length old < length new) × (length start ≡ length old))
      → ((i : ℕ) → i < length start → get_or start i 0 ≡ get_or old i 0) → (length old ≤ length start) ⊎ (length new ≡ length start) → put_runs new blocks start ≡ mixed wanted old new
  runs_mix start size l m fine ends same kept =
      ext_get_or 0 (put_runs new blocks start) (mixed wanted old new) (long ∙ sym mixed_long)
      (λ i h. put-runs-at new size blocks start i l fine ∙ byte i (omega (arith, h, long)) ∙ sym (mixed_is i (omega (arith, h, long))))
    where
      sizes : (length start ≤ length (put_runs new blocks start)) × (length (put_runs new blocks start) ≤ length new) × ((block : ℕ) → in_runs block blocks ≡ true → block * 8192 + 8192 ≤ length (put_runs new blocks start))
      sizes = put-runs-length new size blocks start l m fine

      reached : (length start ≡ length new) ⊎ ((length old < length new) × (length start ≡ length old)) → length new ≤ length (put_runs new blocks start)
      reached (inl e) = omega (arith, e, sizes.0)
      reached (inr (less, e)) =
          let last : ℕ = length new / 8192 - 1 in
          let some : 0 < length new / 8192 = omega (arith, less, whole_new) in
          let before : last < length new / 8192 = omega (arith, some) in
          let there : in_runs last blocks ≡ true = copied_in last before ∙ or_two (wanted last) (nat_le (length old / 8192) last) (of_le (length old / 8192) last (omega (arith, less, whole, whole_new))) in
          omega (arith, sizes.2 last there, some, whole_new)

      long : length (put_runs new blocks start) ≡ length new
      long = omega (arith, sizes.1, reached ends)

      byte : (i : ℕ) → i < length new → cond (in_runs (i / 8192) blocks) (get_or new i 0) (get_or start i 0) ≡ cond (copied (i / 8192)) (get_or new i 0) (get_or old i 0)
      byte i h = ap (λ b. cond b (get_or new i 0) (get_or start i 0)) (copied_in (i / 8192) (omega (arith, h, whole_new))) ∙ by (copied (i / 8192)) refl
        where
          by : (b : Bool) → copied (i / 8192) ≡ b → cond b (get_or new i 0) (get_or start i 0) ≡ cond b (get_or new i 0) (get_or old i 0)
          by true e = refl
          by false e = same i (inside (nat_le (length old / 8192) (i / 8192)) refl)
            where
              inside : (b : Bool) → nat_le (length old / 8192) (i / 8192) ≡ b → i < length start
              inside true k = absurd (true≢false (sym (or_two (wanted (i / 8192)) (nat_le (length old / 8192) (i / 8192)) k) ∙ e))
              inside false k = let below = not_le (length old / 8192) (i / 8192) k in enough kept below
                where
                  enough : (length old ≤ length start) ⊎ (length new ≡ length start) → i / 8192 < length old / 8192 → i < length start
                  enough (inl more) below = omega (arith, more, below)
                  enough (inr more) below = omega (arith, more, h)

  pub blocks-mix : (c : Contents) (from to : PathValue) → bytes_at c from ≡ new → made_of (Some (FileEntry old)) (steps_changes c (block_steps from to wanted (length old) (length new))) ≡ Some (FileEntry (mixed wanted old new))
  blocks-mix c from to is = by (nat_lt (length new) (length old)) refl
    where
      ends : AllEnd (length new / 8192) blocks
      ends = runs_end copied 0 (length new / 8192) (length new / 8192) (omega arith)

      within_both : (size : ℕ) → ((n : ℕ) → n * 8192 ≤ length old → n < length new / 8192 → n * 8192 ≤ size) → Fine size (length new) blocks
      within_both size fits = all_fine size (length new / 8192) (length new) blocks (omega arith) (begin_within wanted (length old) size (length new / 8192) blocks whole fits (runs_begin copied 0 (length new / 8192)) (runs_below copied 0 (length new / 8192) (length new / 8192) (omega arith))) ends

      by : (b : Bool) → nat_lt (length new) (length old) ≡ b → made_of (Some (FileEntry old)) (steps_changes c (cond b (Cut to (length new) ∷ []) [] ++ map (range_step from to) blocks)) ≡ Some (FileEntry (mixed wanted old new))
      by true h =
          let l = lt_of (length new) (length old) h in
          let cut : length (take (length new) old) ≡ length new = length-take-le (length new) old (omega (arith, l)) in
          ranges_made c from to blocks (take (length new) old)
          ∙ ap (λ b. Some (FileEntry (put_runs b blocks (take (length new) old)))) is
          ∙ ap (λ b. Some (FileEntry b)) (runs_mix (take (length new) old) (length new) (omega (arith, cut)) (omega (arith, cut)) (within_both (length new) (λ n inside before. omega (arith, before, whole_new))) (inl cut)
          (λ i inside. get_or-take (length new) old i 0 (omega (arith, inside, cut))) (inr (sym cut)))
      by false h =
          let l = not_lt (length new) (length old) h in
          ranges_made c from to blocks old
          ∙ ap (λ b. Some (FileEntry (put_runs b blocks old))) is
          ∙ ap (λ b. Some (FileEntry b)) (runs_mix old (length old) (omega arith) l (within_both (length old) (λ n inside before. inside)) (grown (nat_lt (length old) (length new)) refl l) (λ i inside. refl) (inl (omega arith)))
        where
          grown : (b : Bool) → nat_lt (length old) (length new) ≡ b → length old ≤ length new → (length old ≡ length new) ⊎ ((length old < length new) × (length old ≡ length old))
          grown true k l = inr (lt_of (length old) (length new) k, refl)
          grown false k l = let more = not_lt (length old) (length new) k in inl (omega (arith, more, l))
