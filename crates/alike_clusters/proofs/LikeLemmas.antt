-- Files that are alike, and what keeps them so.
use Rattle.std.proofs.Common.{◌≡◌, ◌⊎◌, ℕ, ◌+◌, ◌-◌, ◌*◌, ◌/◌, ◌^◌, ◌<◌, ◌≤◌, ◌==◌, Bool, true, false, ◌&&◌, ◌||◌, nat_le, nat_lt, List, [], ◌++◌, length, take, replicate, min, Option, None, Some, inl, inr, refl, sym, ap, ap₂, ◌∙◌, true≢false, arith}
use Rattle.std.proofs.lemmas.Bool.Decides.{nat_tests}
use Rattle.std.proofs.lemmas.Slice.Eq.{bytes_eq-Decides}
use Rattle.std.proofs.lemmas.List.{length-append, length-replicate, length-take}
use Rattle.std.specs.Prelude.{if◌then◌else◌}
use Rattle.block_refs.specs.declared.names.RelName.{RelName}
use Rattle.cluster_tree.specs.PathValue.{path_of}
use Rattle.file_walk.specs.Actions.{is_version}
use Rattle.file_walk.specs.Relations.{relation_of}
use Rattle.storage_replay.specs.Blocks.{grown}
use Rattle.alike_clusters.specs.Clusters.{is_alike, is_alike_file, is_bounded}

eq_is : (n m : ℕ) → (n == m) ≡ true → n ≡ m
eq_is n m h = grind (arith, nat_tests, h)

eq_yes : (n m : ℕ) → n ≡ m → (n == m) ≡ true
eq_yes n m h = grind (arith, nat_tests, h)

or_by : (v b : Bool) → b ≡ true → (v || b) ≡ true
or_by true b h = refl
or_by false b h = h

or_rest : (v b : Bool) → v ≡ false → (v || b) ≡ true → b ≡ true
or_rest true b off h = absurd (true≢false off)
or_rest false b off h = h

and_parts : (a b : Bool) → (a && b) ≡ true → (a ≡ true) × (b ≡ true)
and_parts true b h = (refl, h)
and_parts false b h = absurd (true≢false (sym h))

and_both : (a b : Bool) → a ≡ true → b ≡ true → (a && b) ≡ true
and_both true b h k = k
and_both false b h k = absurd (true≢false (sym h))

-- ---- files with no more blocks than they may have

pub record Bounded (per segment size : ℕ) : Type 0 where
  pub few : size / 8192 ≤ per
  pub numbered : 0 < size / 8192 → segment * per + size / 8192 ≤ 2 ^ 32 - 1

le_is : (n m : ℕ) → nat_le n m ≡ true → n ≤ m
le_is n m h = grind (arith, nat_tests, h)

le_yes : (n m : ℕ) → n ≤ m → nat_le n m ≡ true
le_yes n m h = grind (arith, nat_tests, h)

some_is : (n : ℕ) → (n == 0) ≡ false → 0 < n
some_is n h = grind (arith, nat_tests, h)

numbered_is : (per segment blocks : ℕ) (z : Bool) → (blocks == 0) ≡ z → (z || nat_le (segment * per + blocks) (2 ^ 32 - 1)) ≡ true → 0 < blocks → segment * per + blocks ≤ 2 ^ 32 - 1
numbered_is per segment blocks true none h some = let zero_is : blocks ≡ 0 = eq_is blocks 0 none in absurd (omega (arith, zero_is, some))
numbered_is per segment blocks false none h some = le_is (segment * per + blocks) (2 ^ 32 - 1) h

numbered_yes : (per segment blocks : ℕ) (z : Bool) → (blocks == 0) ≡ z → (0 < blocks → segment * per + blocks ≤ 2 ^ 32 - 1) → (z || nat_le (segment * per + blocks) (2 ^ 32 - 1)) ≡ true
numbered_yes per segment blocks true none h = refl
numbered_yes per segment blocks false none h = le_yes (segment * per + blocks) (2 ^ 32 - 1) (h (some_is blocks none))

pub bounded-is : (per segment size : ℕ) → is_bounded per segment size ≡ true → Bounded per segment size
bounded-is per segment size h =
    let two = and_parts (nat_le (size / 8192) per) (size / 8192 == 0 || nat_le (segment * per + size / 8192) (2 ^ 32 - 1)) h in
    record { few = le_is (size / 8192) per two.0; numbered = numbered_is per segment (size / 8192) (size / 8192 == 0) refl two.1 }

bounded_yes : (per segment size : ℕ) → Bounded per segment size → is_bounded per segment size ≡ true
bounded_yes per segment size b =
    and_both (nat_le (size / 8192) per) (size / 8192 == 0 || nat_le (segment * per + size / 8192) (2 ^ 32 - 1))
    (le_yes (size / 8192) per b.few) (numbered_yes per segment (size / 8192) (size / 8192 == 0) refl b.numbered)

bounded_less : (per segment m n : ℕ) → m ≤ n → Bounded per segment n → Bounded per segment m
bounded_less per segment m n l b = record {
  few = omega (arith, l, b.few);
  numbered = λ some. omega (arith, l, b.numbered (omega (arith, l, some)));
}

none_bounded : (per segment : ℕ) → Bounded per segment 0
none_bounded per segment = record { few = omega arith; numbered = λ some. absurd (omega (arith, some)) }

-- ---- files that are alike

none_file : (per : ℕ) (at : Option (RelName × ℕ)) → is_alike_file per at [] [] ≡ true
none_file per None = (bytes_eq-Decides [] []).1 refl
none_file per (Some at) = and_both (0 == 0) (is_bounded per at.1 0) refl (bounded_yes per at.1 0 (none_bounded per at.1))

-- two files of no bytes are alike
pub like-none : (per : ℕ) (parts : List (List ℕ)) → is_alike per parts [] [] ≡ true
like-none per parts = or_by (is_version (path_of false parts)) (is_alike_file per (relation_of (path_of false parts)) [] []) (none_file per (relation_of (path_of false parts)))

-- and each file that is none of a main fork is like itself
pub like-plain : (per : ℕ) (parts : List (List ℕ)) → relation_of (path_of false parts) ≡ None → (a : List ℕ) → is_alike per parts a a ≡ true
like-plain per parts none a =
    or_by (is_version (path_of false parts)) (is_alike_file per (relation_of (path_of false parts)) a a) (ap (λ at. is_alike_file per at a a) none ∙ (bytes_eq-Decides a a).1 refl)

-- an edit whose result is as long as the bytes and its own numbers say
abbrev pub BySize : (List ℕ → List ℕ) → Type 0
BySize edit = (a b : List ℕ) → length a ≡ length b → length (edit a) ≡ length (edit b)

-- and that leaves a file of a main fork no longer than it may be
pub record Keeps (per : ℕ) (parts : List (List ℕ)) (edit : List ℕ → List ℕ) : Type 0 where
  pub sizes : BySize edit
  pub bound : (at : RelName × ℕ) → relation_of (path_of false parts) ≡ Some at → (a : List ℕ) → Bounded per at.1 (length a) → Bounded per at.1 (length (edit a))

edit_file : (per : ℕ) (parts : List (List ℕ)) (at : Option (RelName × ℕ)) (edit : List ℕ → List ℕ) (a b : List ℕ) → Keeps per parts edit → relation_of (path_of false parts) ≡ at
    → is_alike_file per at a b ≡ true → is_alike_file per at (edit a) (edit b) ≡ true
edit_file per parts None edit a b keeps of is = (bytes_eq-Decides (edit a) (edit b)).1 (ap edit ((bytes_eq-Decides a b).0 is))
edit_file per parts (Some at) edit a b keeps of is =
    let two = and_parts (length a == length b) (is_bounded per at.1 (length a)) is in
    and_both (length (edit a) == length (edit b)) (is_bounded per at.1 (length (edit a)))
    (eq_yes (length (edit a)) (length (edit b)) (keeps.sizes a b (eq_is (length a) (length b) two.0)))
    (bounded_yes per at.1 (length (edit a)) (keeps.bound at of a (bounded-is per at.1 (length a) two.1)))

edit_by : (v x y : Bool) → (x ≡ true → y ≡ true) → (v || x) ≡ true → (v || y) ≡ true
edit_by true x y h is = refl
edit_by false x y h is = h is

pub like-edited : (per : ℕ) (parts : List (List ℕ)) (edit : List ℕ → List ℕ) → Keeps per parts edit → (a b : List ℕ) → is_alike per parts a b ≡ true → is_alike per parts (edit a) (edit b) ≡ true
like-edited per parts edit keeps a b is =
    edit_by (is_version (path_of false parts)) (is_alike_file per (relation_of (path_of false parts)) a b) (is_alike_file per (relation_of (path_of false parts)) (edit a) (edit b))
    (edit_file per parts (relation_of (path_of false parts)) edit a b keeps refl) is

-- where a file tells no version and is none of a main fork, alike ones are the same
pub same-bytes : (per : ℕ) (parts : List (List ℕ)) → is_version (path_of false parts) ≡ false → relation_of (path_of false parts) ≡ None → (a b : List ℕ) → is_alike per parts a b ≡ true → a ≡ b
same-bytes per parts off none a b is =
    (bytes_eq-Decides a b).0 (ap (λ at. is_alike_file per at a b) (sym none) ∙ or_rest (is_version (path_of false parts)) (is_alike_file per (relation_of (path_of false parts)) a b) off is)

-- so what is made of the same is the same
pub like-same : (per : ℕ) (parts : List (List ℕ)) → is_version (path_of false parts) ≡ false → relation_of (path_of false parts) ≡ None → (edit : List ℕ → List ℕ) (a b : List ℕ) → is_alike per parts a b ≡ true → is_alike per parts (edit a) (edit b) ≡ true
like-same per parts off none edit a b is = ap (λ x. is_alike per parts (edit a) (edit x)) (sym (same-bytes per parts off none a b is)) ∙ like-plain per parts none (edit a)

size_file : (per : ℕ) (at : Option (RelName × ℕ)) (a b : List ℕ) → is_alike_file per at a b ≡ true → length a ≡ length b
size_file per None a b is = ap length ((bytes_eq-Decides a b).0 is)
size_file per (Some at) a b is = eq_is (length a) (length b) (and_parts (length a == length b) (is_bounded per at.1 (length a)) is).0

-- where it tells no version, they have one size
pub same-size : (per : ℕ) (parts : List (List ℕ)) → is_version (path_of false parts) ≡ false → (a b : List ℕ) → is_alike per parts a b ≡ true → length a ≡ length b
same-size per parts off a b is = size_file per (relation_of (path_of false parts)) a b (or_rest (is_version (path_of false parts)) (is_alike_file per (relation_of (path_of false parts)) a b) off is)

-- ---- sizes of what is edited

sized_take : (n : ℕ) → BySize (take n)
sized_take n a b same = length-take n a ∙ ap (min n) same ∙ sym (length-take n b)

pub keeps-take : (per : ℕ) (parts : List (List ℕ)) (n : ℕ) → Keeps per parts (take n)
keeps-take per parts n = record {
  sizes = sized_take n;
  bound = λ at of a b. bounded_less per at.1 (length (take n a)) (length a) (omega (arith, length-take n a)) b;
}

pub keeps-all : (per : ℕ) (parts : List (List ℕ)) → Keeps per parts (λ bytes. bytes)
keeps-all per parts = record { sizes = λ a b same. same; bound = λ at of a b. b }

lt_is : (n m : ℕ) → nat_lt n m ≡ true → n < m
lt_is n m h = grind (arith, nat_tests, h)

grown_by : (t : Bool) (n : ℕ) (a b : List ℕ) → length a ≡ length b
    → length (if t then take (length a / 8192 * 8192) a ++ replicate ((n - length a / 8192) * 8192) 0 else a)
    ≡ length (if t then take (length b / 8192 * 8192) b ++ replicate ((n - length b / 8192) * 8192) 0 else b)
grown_by false n a b same = same
grown_by true n a b same =
    length-append (take (length a / 8192 * 8192) a) (replicate ((n - length a / 8192) * 8192) 0)
    ∙ ap₂ (λ x y. x + y) (length-take (length a / 8192 * 8192) a) (length-replicate ((n - length a / 8192) * 8192) 0)
    ∙ ap (λ m. min (m / 8192 * 8192) m + (n - m / 8192) * 8192) same
    ∙ sym (length-append (take (length b / 8192 * 8192) b) (replicate ((n - length b / 8192) * 8192) 0)
    ∙ ap₂ (λ x y. x + y) (length-take (length b / 8192 * 8192) b) (length-replicate ((n - length b / 8192) * 8192) 0))

pub sized-grown : (n : ℕ) → BySize (grown n)
sized-grown n a b same =
    grown_by (nat_lt (length a / 8192) n) n a b same
    ∙ ap (λ t. length (if t then take (length b / 8192 * 8192) b ++ replicate ((n - length b / 8192) * 8192) 0 else b)) (ap (λ m. nat_lt (m / 8192) n) same)

-- a file that is grown has so many blocks, or stays
pub grown-size : (n : ℕ) (a : List ℕ) → (length (grown n a) ≡ n * 8192) ⊎ (length (grown n a) ≡ length a)
grown-size n a = by (nat_lt (length a / 8192) n) refl
  where
    by : (t : Bool) → nat_lt (length a / 8192) n ≡ t
        → (length (if t then take (length a / 8192 * 8192) a ++ replicate ((n - length a / 8192) * 8192) 0 else a) ≡ n * 8192) ⊎ (length (if t then take (length a / 8192 * 8192) a ++ replicate ((n - length a / 8192) * 8192) 0 else a) ≡ length a)
    by false is = inr refl
    by true is =
        let less : length a / 8192 < n = lt_is (length a / 8192) n is in
        inl (omega (arith, less, length-append (take (length a / 8192 * 8192) a) (replicate ((n - length a / 8192) * 8192) 0), length-take (length a / 8192 * 8192) a, length-replicate {A = ℕ} ((n - length a / 8192) * 8192) 0))
