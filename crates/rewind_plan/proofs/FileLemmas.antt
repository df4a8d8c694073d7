-- The changes of one file fit what stands there.
use Rattle.std.proofs.Common.{◌≡◌, ◌⊎◌, ℕ, zero, suc, ◌+◌, ◌*◌, ◌-◌, ◌/◌, ◌%◌, ◌<◌, ◌≤◌, ◌==◌, Bool, true, false, ◌||◌, ◌&&◌, cond, nat_lt, List, [], ◌∷◌, ◌++◌, length, map, take, drop, Option, None, Some, inl, inr, refl, sym, ap, ◌∙◌, subst, true≢false, arith, rules}
use Rattle.std.specs.Prelude.{nat_le}
use Rattle.std.specs.List.{list_all}
use Rattle.std.proofs.lemmas.List.{append-nil, length-append, length-drop, length-take-le}
use Rattle.layout.specs.Splice.{splice}
use Rattle.cluster_tree.specs.PathValue.{PathValue}
use Rattle.cluster_tree.specs.PathOrder.{path_eq}
use Rattle.cluster_tree.specs.Contents.{Contents, Entry, FileEntry, entry_at, is_file}
use Rattle.cluster_tree.specs.Change.{Change, Cuts, MakesFile, Writes}
use Rattle.cluster_tree.specs.Tree.{file_of, refusal_past}
use Rattle.cluster_tree.specs.declared.tree.TreeFault.TheVariants as fault
use Rattle.cluster_tree.proofs.OrderLemmas.{path_eq-own}
use Rattle.marked_runs.specs.Runs.{writes_at}
use Rattle.rewind_writes.specs.Steps.{opened, part_of, steps_changes}
use Rattle.rewind_writes.specs.declared.step.Step.TheVariants.{Cut, Whole}
use Rattle.rewind_plan.specs.Blocks.{block_steps, is_copied, onto_runs, range_step, runs_of}
use Rattle.rewind_plan.specs.declared.runs.Run.{Run}
use Rattle.rewind_plan.proofs.Jobs.{AllFit, is_own}
use Rattle.rewind_plan.proofs.FileItems.{all_folders}

-- ---- a write

not_less : (n m : ℕ) → m ≤ n → nat_lt n m ≡ false
not_less n m l = grind (arith, rules, l)

pub within : (bytes : List ℕ) (at : ℕ) → at ≤ length bytes → refusal_past (file_of (Some (FileEntry bytes))) at ≡ None
within bytes at l = ap (λ b. cond b (Some fault.PastEnd) None) (not_less (length bytes) at l)

pub splice-longer : (old : List ℕ) (at : ℕ) (bytes : List ℕ) → at ≤ length old → length old ≤ length (splice old at bytes)
unfolding splice
splice-longer old at bytes l =
    omega (arith, length-append (take at old ++ bytes) (drop (at + length bytes) old), length-append (take at old) bytes, length-take-le at old l, length-drop (at + length bytes) old)

and_true : (b : Bool) → b ≡ true → (b && true) ≡ true
and_true true h = refl
and_true false h = h

pub write-own : (to : PathValue) (at : ℕ) (bytes : List ℕ) → list_all (is_own to) (writes_at to at bytes) ≡ true
write-own to at [] = refl
write-own to at (x ∷ bytes) = and_true (path_eq to to) (path_eq-own to)

all_and : (b e : Bool) → b ≡ true → e ≡ true → (b && e) ≡ true
all_and true e h k = k
all_and false e h k = h

pub own-both : (to : PathValue) (xs ys : List Change) → list_all (is_own to) xs ≡ true → list_all (is_own to) ys ≡ true → list_all (is_own to) (xs ++ ys) ≡ true
own-both to [] ys one other = other
own-both to (x ∷ xs) ys one other = by (is_own to x) (list_all (is_own to) xs) one (own-both to xs ys)
  where
    by : (b e : Bool) → (b && e) ≡ true → (e ≡ true → list_all (is_own to) ys ≡ true → list_all (is_own to) (xs ++ ys) ≡ true) → (b && list_all (is_own to) (xs ++ ys)) ≡ true
    by true e h rest = rest h other
    by false e h rest = h

-- ---- a whole file

whole_own : (c : Contents) (to : PathValue) (bytes : List ℕ) (file : Bool) → list_all (is_own to) (cond file (Cuts to 0) (MakesFile to) ∷ writes_at to 0 bytes) ≡ true
whole_own c to bytes true = all_and (path_eq to to) (list_all (is_own to) (writes_at to 0 bytes)) (path_eq-own to) (write-own to 0 bytes)
whole_own c to bytes false = all_and (path_eq to to) (list_all (is_own to) (writes_at to 0 bytes)) (path_eq-own to) (write-own to 0 bytes)

pub whole-own : (c : Contents) (from to : PathValue) (size : ℕ) → list_all (is_own to) (steps_changes c (Whole from to size ∷ [])) ≡ true
whole-own c from to size = ap (list_all (is_own to)) (append-nil (opened c to ∷ writes_at to 0 (part_of c from 0 size))) ∙ whole_own c to (part_of c from 0 size) (is_file (entry_at c to))

fresh_fits : (to : PathValue) (empty bytes : List ℕ) → AllFit all_folders to (Some (FileEntry empty)) (writes_at to 0 bytes)
fresh_fits to empty [] = tt
fresh_fits to empty (x ∷ bytes) = (within empty 0 (omega arith), tt)

-- it is made, or emptied
pub whole-fits : (c : Contents) (from to : PathValue) (size : ℕ) → (entry_at c to ≡ None) ⊎ ((bytes : List ℕ) × (entry_at c to ≡ Some (FileEntry bytes))) → AllFit all_folders to (entry_at c to) (steps_changes c (Whole from to size ∷ []))
whole-fits c from to size how = subst (AllFit all_folders to (entry_at c to)) (sym (append-nil (opened c to ∷ writes_at to 0 (part_of c from 0 size)))) (by how)
  where
    by : (entry_at c to ≡ None) ⊎ ((bytes : List ℕ) × (entry_at c to ≡ Some (FileEntry bytes))) → AllFit all_folders to (entry_at c to) (opened c to ∷ writes_at to 0 (part_of c from 0 size))
    by (inl none) = subst (λ o. AllFit all_folders to o (cond (is_file o) (Cuts to 0) (MakesFile to) ∷ writes_at to 0 (part_of c from 0 size))) (sym none) ((refl, refl), fresh_fits to [] (part_of c from 0 size))
    by (inr (bytes, some)) = subst (λ o. AllFit all_folders to o (cond (is_file o) (Cuts to 0) (MakesFile to) ∷ writes_at to 0 (part_of c from 0 size))) (sym some) (within bytes 0 (omega arith), fresh_fits to (take 0 bytes) (part_of c from 0 size))

-- ---- runs of blocks

-- a run begins behind a block that isn't wanted
abbrev pub Starts : (ℕ → Bool) → Run → Type 0
Starts p run = (0 < run.first) × (p (run.first - 1) ≡ false)

abbrev pub AllStart : (ℕ → Bool) → List Run → Type 0
AllStart p [] = Unit {0}
AllStart p (run ∷ runs) = Starts p run × AllStart p runs

-- but the first one at the first block
abbrev pub Begin : (ℕ → Bool) → ℕ → List Run → Type 0
Begin p block [] = Unit {0}
Begin p block (run ∷ runs) = ((run.first ≡ block) ⊎ Starts p run) × AllStart p runs

back_one : (n : ℕ) → n + 1 - 1 ≡ n
back_one n = omega arith

begins_on : (p : ℕ → Bool) (block : ℕ) (runs : List Run) → p block ≡ false → Begin p (block + 1) runs → Begin p block runs
begins_on p block [] off more = tt
begins_on p block (run ∷ runs) off (inl first, rest) = (inr (omega (arith, first), ap (λ n. p (n - 1)) first ∙ ap p (back_one block) ∙ off), rest)
begins_on p block (run ∷ runs) off (inr starts, rest) = (inr starts, rest)

equal_one : (n m : ℕ) → n ≡ m → n == m ≡ true
equal_one n m e = grind (arith, rules, e)

begins_with : (p : ℕ → Bool) (block : ℕ) (runs : List Run) → Begin p (block + 1) runs → Begin p block (onto_runs block runs)
begins_with p block [] more = (inl refl, tt)
begins_with p block (run ∷ runs) more = by (run.first == block + 1) refl more
  where
    by : (b : Bool) → run.first == block + 1 ≡ b → Begin p (block + 1) (run ∷ runs) → Begin p block (cond b (record { first = block; count = run.count + 1 } ∷ runs) (record { first = block; count = 1 } ∷ run ∷ runs))
    by true is more = (inl refl, more.1)
    by false is (inl first, rest) = absurd (true≢false (sym (equal_one run.first (block + 1) first) ∙ is))
    by false is (inr starts, rest) = (inl refl, (starts, rest))

pub runs_begin : (p : ℕ → Bool) (block count : ℕ) → Begin p block (runs_of p block count)
runs_begin p block zero = tt
runs_begin p block (suc count) = by (p block) refl (runs_begin p (block + 1) count)
  where
    by : (b : Bool) → p block ≡ b → Begin p (block + 1) (runs_of p (block + 1) count) → Begin p block (cond b (onto_runs block (runs_of p (block + 1) count)) (runs_of p (block + 1) count))
    by true is more = begins_with p block (runs_of p (block + 1) count) more
    by false is more = begins_on p block (runs_of p (block + 1) count) is more

-- each begins before an end
abbrev pub AllBelow : ℕ → List Run → Type 0
AllBelow end [] = Unit {0}
AllBelow end (run ∷ runs) = (run.first < end) × AllBelow end runs

below_with : (block end : ℕ) (runs : List Run) → block < end → AllBelow end runs → AllBelow end (onto_runs block runs)
below_with block end [] l more = (l, tt)
below_with block end (run ∷ runs) l more = by (run.first == block + 1)
  where
    by : (b : Bool) → AllBelow end (cond b (record { first = block; count = run.count + 1 } ∷ runs) (record { first = block; count = 1 } ∷ run ∷ runs))
    by true = (l, more.1)
    by false = (l, more)

pub runs_below : (p : ℕ → Bool) (block count end : ℕ) → block + count ≤ end → AllBelow end (runs_of p block count)
runs_below p block zero end l = tt
runs_below p block (suc count) end l = by (p block) (runs_below p (block + 1) count end (omega (arith, l)))
  where
    by : (b : Bool) → AllBelow end (runs_of p (block + 1) count) → AllBelow end (cond b (onto_runs block (runs_of p (block + 1) count)) (runs_of p (block + 1) count))
    by true more = below_with block end (runs_of p (block + 1) count) (omega (arith, l)) more
    by false more = more

-- ---- the blocks of a file

abbrev pub AllWithin : ℕ → List Run → Type 0
AllWithin size [] = Unit {0}
AllWithin size (run ∷ runs) = (run.first * 8192 ≤ size) × AllWithin size runs

or_off : (a b : Bool) → (a || b) ≡ false → b ≡ false
or_off true b h = absurd (true≢false h)
or_off false b h = h

less_of : (n m : ℕ) → nat_le n m ≡ false → m < n
less_of n m h = grind (arith, rules, h)

starts_within : (wanted : ℕ → Bool) (old : ℕ) (run : Run) → old % 8192 ≡ 0 → Starts (is_copied wanted old) run → run.first * 8192 ≤ old
starts_within wanted old run whole starts =
    let l : run.first - 1 < old / 8192 = less_of (old / 8192) (run.first - 1) (or_off (wanted (run.first - 1)) (nat_le (old / 8192) (run.first - 1)) starts.1) in
    omega (arith, l, starts.0, whole)

all_within : (wanted : ℕ → Bool) (old size end : ℕ) (runs : List Run) → old % 8192 ≡ 0 → ((n : ℕ) → n * 8192 ≤ old → n < end → n * 8192 ≤ size) → AllStart (is_copied wanted old) runs → AllBelow end runs → AllWithin size runs
all_within wanted old size end [] whole fits start below = tt
all_within wanted old size end (run ∷ runs) whole fits start below =
    (fits run.first (starts_within wanted old run whole start.0) below.0, all_within wanted old size end runs whole fits start.1 below.1)

pub begin_within : (wanted : ℕ → Bool) (old size end : ℕ) (runs : List Run) → old % 8192 ≡ 0 → ((n : ℕ) → n * 8192 ≤ old → n < end → n * 8192 ≤ size) → Begin (is_copied wanted old) 0 runs → AllBelow end runs → AllWithin size runs
begin_within wanted old size end [] whole fits begin below = tt
begin_within wanted old size end (run ∷ runs) whole fits (inl first, start) below = (omega (arith, first), all_within wanted old size end runs whole fits start below.1)
begin_within wanted old size end (run ∷ runs) whole fits (inr starts, start) below =
    (fits run.first (starts_within wanted old run whole starts) below.0, all_within wanted old size end runs whole fits start below.1)

range_own : (c : Contents) (from to : PathValue) (runs : List Run) → list_all (is_own to) (steps_changes c (map (range_step from to) runs)) ≡ true
range_own c from to [] = refl
range_own c from to (run ∷ runs) = own-both to (writes_at to (run.first * 8192) (part_of c from (run.first * 8192) (run.count * 8192))) (steps_changes c (map (range_step from to) runs)) (write-own to (run.first * 8192) (part_of c from (run.first * 8192) (run.count * 8192))) (range_own c from to runs)

fit-both : (to : PathValue) (o : Option Entry) (at : ℕ) (bytes : List ℕ) (rest : List Change) (old : List ℕ) → o ≡ Some (FileEntry old) → at ≤ length old
    → ((new : List ℕ) → length old ≤ length new → AllFit all_folders to (Some (FileEntry new)) rest) → AllFit all_folders to o (writes_at to at bytes ++ rest)
fit-both to o at [] rest old is l more = subst (λ e. AllFit all_folders to e rest) (sym is) (more old (omega arith))
fit-both to o at (x ∷ bytes) rest old is l more =
    subst (λ e. AllFit all_folders to e (Writes to at (x ∷ bytes) ∷ rest)) (sym is) (within old at l, more (splice old at (x ∷ bytes)) (splice-longer old at (x ∷ bytes) l))

ranges_fit : (c : Contents) (from to : PathValue) (size : ℕ) (runs : List Run) (old : List ℕ) → size ≤ length old → AllWithin size runs → AllFit all_folders to (Some (FileEntry old)) (steps_changes c (map (range_step from to) runs))
ranges_fit c from to size [] old l within = tt
ranges_fit c from to size (run ∷ runs) old l within =
    fit-both to (Some (FileEntry old)) (run.first * 8192) (part_of c from (run.first * 8192) (run.count * 8192)) (steps_changes c (map (range_step from to) runs)) old refl (omega (arith, l, within.0))
    (λ new longer. ranges_fit c from to size runs new (omega (arith, l, longer)) within.1)

pub blocks-own : (c : Contents) (from to : PathValue) (wanted : ℕ → Bool) (old new : ℕ) → list_all (is_own to) (steps_changes c (block_steps from to wanted old new)) ≡ true
blocks-own c from to wanted old new = by (nat_lt new old)
  where
    by : (b : Bool) → list_all (is_own to) (steps_changes c (cond b (Cut to new ∷ []) [] ++ map (range_step from to) (runs_of (is_copied wanted old) 0 (new / 8192)))) ≡ true
    by true = all_and (path_eq to to) _ (path_eq-own to) (range_own c from to (runs_of (is_copied wanted old) 0 (new / 8192)))
    by false = range_own c from to (runs_of (is_copied wanted old) 0 (new / 8192))

-- a file of whole blocks is cut, and blocks within it or at its end are written
pub blocks-fit : (c : Contents) (from to : PathValue) (wanted : ℕ → Bool) (bytes : List ℕ) (old new : ℕ) → length bytes ≡ old → old % 8192 ≡ 0 → new % 8192 ≡ 0
    → AllFit all_folders to (Some (FileEntry bytes)) (steps_changes c (block_steps from to wanted old new))
blocks-fit c from to wanted bytes old new size whole whole_new = by (nat_lt new old) refl
  where
    runs : List Run
    runs = runs_of (is_copied wanted old) 0 (new / 8192)

    within_both : (size : ℕ) → size ≤ old → ((n : ℕ) → n * 8192 ≤ old → n < new / 8192 → n * 8192 ≤ size) → AllWithin size runs
    within_both size l fits = begin_within wanted old size (new / 8192) runs whole fits (runs_begin (is_copied wanted old) 0 (new / 8192)) (runs_below (is_copied wanted old) 0 (new / 8192) (new / 8192) (omega arith))

    by : (b : Bool) → nat_lt new old ≡ b → AllFit all_folders to (Some (FileEntry bytes)) (steps_changes c (cond b (Cut to new ∷ []) [] ++ map (range_step from to) runs))
    by true is =
        let l : new < old = grind (arith, rules, is) in (
          within bytes new (omega (arith, l, size)),
          ranges_fit c from to new runs (take new bytes) (omega (arith, length-take-le new bytes (omega (arith, l, size)))) (within_both new (omega (arith, l)) (λ n inside before. omega (arith, before, whole_new))),
        )
    by false is = ranges_fit c from to old runs bytes (omega (arith, size)) (within_both old (omega arith) (λ n inside before. inside))
