-- What a server writes is read again, part by part.
use Rattle.std.proofs.Common.{true, ◌≡◌, ◌<◌, ◌≤◌, ◌+◌, ◌*◌, ◌^◌, ◌++◌, ℕ, List, [], ◌∷◌, length, map, Some, refl, ◌∙◌, ap, sym, arith, append_assoc, length-append, add_comm, add-one}
use Rattle.std.specs.Prelude.{ℤ, pos, nat_lt}
use Rattle.std.specs.List.{AllByRecursion, flat_map, range_with_len}
use Rattle.std.proofs.Math.Nat.{mul-suc, mul-zero}
use Rattle.std.proofs.lemmas.Bool.{le-ltb}
use Rattle.std.proofs.lemmas.List.{drop_at}
use Rattle.std.proofs.lemmas.Bool.Decides.{nat_tests}
use Rattle.layout.specs.declared.value.Value.{Value}
use Rattle.layout.specs.declared.value.Value.TheVariants.{Byte, Half, Word, Long, Signed, Raw}
use Rattle.layout.specs.Readers.{u32_at, u64_at, i64_at}
use Rattle.layout.specs.Values.{ValueFits, number}
use Rattle.layout.specs.Writing.{value_bytes}
use Rattle.layout.proofs.PutLemmas.{length-value_bytes}
use Rattle.layout_readers.proofs.ValueLemmas.{value_in}
use Rattle.record_layouts.specs.Fields.{taken, word, long, signed, count}
use Rattle.record_layouts.specs.Items.{items, item_list}
use Rattle.record_layouts.specs.Spelling.{word_bytes, list_bytes}

-- what stands at the front is taken, and leaves what stands behind it
pub taken_again : {A : Type 0} (size : ℕ) (front rest : List ℕ) (read value : A) → length front ≡ size → read ≡ value → taken size (front ++ rest) read ≡ Some record { value = value; rest = rest }
taken_again size front rest read value len e =
    let room : size ≤ length (front ++ rest) = omega (arith, length-append front rest) in
    rw (le-ltb (length (front ++ rest)) size room, drop_at front rest size len, e) refl

pub word_in : (n : ℕ) (before after : List ℕ) → n < 2 ^ 32 → u32_at (length before) (before ++ (word_bytes n ++ after)) ≡ n
word_in n before after fits = ap number (value_in (Word n) before after fits)

long_in : (n : ℕ) (after : List ℕ) → n < 2 ^ 64 → u64_at 0 (value_bytes (Long n) ++ after) ≡ n
long_in n after fits = ap number (value_in (Long n) [] after fits)

signed_of : Value → ℤ
signed_of (Signed z) = z
signed_of (Byte n) = pos n
signed_of (Half n) = pos n
signed_of (Word n) = pos n
signed_of (Long n) = pos n
signed_of (Raw bytes) = pos 0

signed_in : (z : ℤ) (after : List ℕ) → ValueFits (Signed z) → i64_at 0 (value_bytes (Signed z) ++ after) ≡ z
unfolding signed_of
signed_in z after fits = ap signed_of (value_in (Signed z) [] after fits)

-- numbers from the front
pub word_again : (n : ℕ) (rest : List ℕ) → n < 2 ^ 32 → word (word_bytes n ++ rest) ≡ Some record { value = n; rest = rest }
unfolding word
word_again n rest fits = taken_again 4 (word_bytes n) rest (u32_at 0 (word_bytes n ++ rest)) n (length-value_bytes (Word n) fits) (word_in n [] rest fits)

pub long_again : (n : ℕ) (rest : List ℕ) → n < 2 ^ 64 → long (value_bytes (Long n) ++ rest) ≡ Some record { value = n; rest = rest }
unfolding long
long_again n rest fits = taken_again 8 (value_bytes (Long n)) rest (u64_at 0 (value_bytes (Long n) ++ rest)) n (length-value_bytes (Long n) fits) (long_in n rest fits)

pub signed_again : (z : ℤ) (rest : List ℕ) → ValueFits (Signed z) → signed (value_bytes (Signed z) ++ rest) ≡ Some record { value = z; rest = rest }
unfolding signed
signed_again z rest fits = taken_again 8 (value_bytes (Signed z)) rest (i64_at 0 (value_bytes (Signed z) ++ rest)) z (length-value_bytes (Signed z) fits) (signed_in z rest fits)

pub count_again : (n : ℕ) (rest : List ℕ) → n < 2 ^ 31 → count (word_bytes n ++ rest) ≡ Some record { value = n; rest = rest }
unfolding count
count_again n rest few =
    let below : nat_lt n 0x80000000 ≡ true = grind (arith, nat_tests) in
    rw (word_again n rest (omega arith), below) refl

-- how an item is written: its bytes, from which it is read again wherever they stand
pub record Writes {A : Type 0} (size : ℕ) (item : ℕ → List ℕ → A) (bytes_of : A → List ℕ) (x : A) : Type 0 where
  pub len : length (bytes_of x) ≡ size
  pub again : (before after : List ℕ) → item (length before) (before ++ (bytes_of x ++ after)) ≡ x

items_from : {A : Type 0} (size : ℕ) (item : ℕ → List ℕ → A) (f : A → List ℕ) (before rest bytes : List ℕ) (k : ℕ) (xs : List A) → bytes ≡ before ++ (flat_map f xs ++ rest) → length before ≡ size * k → AllByRecursion (Writes size item f) xs → map (λ i. item (size * i) bytes) (range_with_len k (length xs)) ≡ xs
items_from size item f before rest bytes k [] e len each = refl
items_from size item f before rest bytes k (x ∷ xs) e len each =
    let w = each.0 in
    let here : bytes ≡ before ++ (f x ++ (flat_map f xs ++ rest)) = e ∙ ap (λ (b : List ℕ). before ++ b) (append_assoc (f x) (flat_map f xs) rest) in
    let next : bytes ≡ (before ++ f x) ++ (flat_map f xs ++ rest) = here ∙ sym (append_assoc before (f x) (flat_map f xs ++ rest)) in
    let size_of : length (f x) ≡ size = w.len in
    let on : length (before ++ f x) ≡ size * (k + 1) = length-append before (f x) ∙ ap (λ (n : ℕ). n + length (f x)) len ∙ ap (λ (n : ℕ). size * k + n) size_of ∙ sym (ap (λ (n : ℕ). size * n) (add-one k) ∙ mul-suc size k) in
    let first : item (size * k) bytes ≡ x = ap (λ (b : List ℕ). item (size * k) b) here ∙ ap (λ (n : ℕ). item n (before ++ (f x ++ (flat_map f xs ++ rest)))) (sym len) ∙ w.again before (flat_map f xs ++ rest) in
    let others = items_from size item f (before ++ f x) rest bytes (k + 1) xs next on each.1 in
    ap (λ (y : _). y ∷ map (λ i. item (size * i) bytes) (range_with_len (k + 1) (length xs))) first ∙ ap (λ (ys : List _). x ∷ ys) others

length_items : {A : Type 0} (size : ℕ) (item : ℕ → List ℕ → A) (f : A → List ℕ) (xs : List A) → AllByRecursion (Writes size item f) xs → length (flat_map f xs) ≡ size * length xs
length_items size item f [] each = sym (mul-zero size)
length_items size item f (x ∷ xs) each =
    let size_of : length (f x) ≡ size = each.0.len in
    let others : length (flat_map f xs) ≡ size * length xs = length_items size item f xs each.1 in
    length-append (f x) (flat_map f xs) ∙ ap (λ (n : ℕ). n + length (flat_map f xs)) size_of ∙ ap (λ (n : ℕ). size + n) others ∙ add_comm size (size * length xs) ∙ sym (mul-suc size (length xs))

pub list_again : {A : Type 0} (size : ℕ) (item : ℕ → List ℕ → A) (f : A → List ℕ) (xs : List A) (rest : List ℕ) → length xs < 2 ^ 31 → AllByRecursion (Writes size item f) xs → item_list size item (list_bytes f xs ++ rest) ≡ Some record { value = xs; rest = rest }
list_again size item f xs rest few each =
    let bytes = flat_map f xs ++ rest in
    let read = items_from size item f [] rest bytes 0 xs refl (sym (mul-zero size)) each in
    rw (append_assoc (word_bytes (length xs)) (flat_map f xs) rest, count_again (length xs) bytes few)
    (taken_again (size * length xs) (flat_map f xs) rest (items size item (length xs) bytes) xs (length_items size item f xs each) read)
