-- Lists by index.
use Rattle.std.proofs.Common.{Bool, true, false, ◌≡◌, ◌<◌, ◌≤◌, ◌+◌, ◌*◌, ℕ, List, length, map, slice_get, Some, None, zero-add, ◌∙◌, ap, sym, arith}
use Rattle.std.specs.List.{range_with_len}
use Rattle.std.proofs.lemmas.List.FromFn.{length-map-range_with_len, get_or-map-range_with_len, length-range_with_len, get_or-range_with_len}
use Rattle.std.proofs.lemmas.Option.{slice_get_past, slice_get-get_or}
use Rattle.layout.specs.Readers.{u16_at}
use Rattle.record_layouts.specs.Items.{items, listed_places}

pub length_items : {X : Type 0} (item : ℕ → List ℕ → X) (size n : ℕ) (bytes : List ℕ) → length (items size item n bytes) ≡ n
length_items item size n bytes = length-map-range_with_len (λ i. item (size * i) bytes) 0 n

pub none_past : {X : Type 0} (f : ℕ → X) (n i : ℕ) → n ≤ i → None ≡ slice_get (map f (range_with_len 0 n)) i
none_past f n i le = sym (slice_get_past (map f (range_with_len 0 n)) i (rw (length-map-range_with_len f 0 n) le))

pub some_below : {X : Type 0} (f : ℕ → X) (n i : ℕ) (x : X) → i < n → x ≡ f i → Some x ≡ slice_get (map f (range_with_len 0 n)) i
some_below f n i x lt e =
    let xs = map f (range_with_len 0 n) in
    let within : i < length xs = rw (length-map-range_with_len f 0 n) lt in
    sym (slice_get-get_or xs i x within ∙ ap Some (get_or-map-range_with_len f 0 n i i x lt (zero-add i) ∙ sym e))

pub length_places : (in_turn : Bool) (n : ℕ) (bytes : List ℕ) → length (listed_places in_turn n bytes) ≡ n
length_places true n bytes = length-range_with_len 1 n
length_places false n bytes = length_items u16_at 2 n bytes

pub no_place : (in_turn : Bool) (n i : ℕ) (bytes : List ℕ) → n ≤ i → None ≡ slice_get (listed_places in_turn n bytes) i
no_place in_turn n i bytes le = sym (slice_get_past (listed_places in_turn n bytes) i (rw (length_places in_turn n bytes) le))

pub place_in_turn : (in_turn : Bool) (n i : ℕ) (bytes : List ℕ) → in_turn ≡ true → i < n → Some (i + 1) ≡ slice_get (listed_places in_turn n bytes) i
place_in_turn true n i bytes is lt =
    let within : i < length (range_with_len 1 n) = rw (length-range_with_len 1 n) lt in
    sym (slice_get-get_or (range_with_len 1 n) i 0 within ∙ ap Some (get_or-range_with_len 1 n i 0 lt ∙ omega arith))
place_in_turn false n i bytes is lt = absurd cc

pub listed_place : (in_turn : Bool) (n i place : ℕ) (bytes : List ℕ) → in_turn ≡ false → i < n → place ≡ u16_at (2 * i) bytes → Some place ≡ slice_get (listed_places in_turn n bytes) i
listed_place true n i place bytes is lt e = absurd cc
listed_place false n i place bytes is lt e = some_below (λ k. u16_at (2 * k) bytes) n i place lt e
