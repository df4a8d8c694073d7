-- What waits is sound over every tree: a place is below its folder, and its text is that of its path.
use Rattle.std.proofs.Common.{◌≡◌, ℕ, ◌+◌, ◌≤◌, Bool, true, false, cond, ◌&&◌, nat_lt, List, [], ◌∷◌, ◌++◌, length, refl, ap, sym, subst, ◌∙◌, arith}
use Rattle.std.proofs.lemmas.List.{length-append}
use Rattle.std.proofs.lemmas.List.Folds.{list_all-append}
use Rattle.std.specs.declared.cmp.Ordering.{Ordering}
use Rattle.std.specs.declared.cmp.Ordering.TheVariants.{Less, Equal, Greater}
use Rattle.std.specs.BTreeMap.{insert_entry}
use Rattle.std.specs.FinMap.{nat_cmp-IsAntisymmetric, slice_cmp-IsAntisymmetric}
use Rattle.std.specs.List.{list_all}
use Rattle.std.specs.Ordering.{match_ordering}
use Rattle.cluster_tree.specs.PathValue.{PathValue, below, front, is_part}
use Rattle.file_walk.specs.declared.place.Place.{Place}
use Rattle.file_walk.specs.declared.waiting.Waiting.{Waiting}
use Rattle.file_walk.specs.declared.waiting.Waiting.TheVariants.{At, TooDeep}
use Rattle.file_walk.specs.Actions.{here}
use Rattle.file_walk.specs.Waiting.{AllSound, AreProper, AreSound, IsPlace, IsSoundAt, child_place, put_name, put_names, text_at, waiting_at}
use Rattle.file_walk.proofs.QueueLemmas.{text_cmp}

-- the root's own place
pub root_place : (place : Place) → place.own ≡ here → IsPlace place
root_place place own =
    let none : length place.own.parts ≡ 0 = ap (λ (p : PathValue). length p.parts) own in
    (ap (λ (p : PathValue). p.absolute) own, omega arith)

pub root_proper : (place : Place) → place.own ≡ here → list_all is_part place.own.parts ≡ true
root_proper place own = ap (λ (p : PathValue). list_all is_part p.parts) own

pub place_sound : (text : List ℕ) (w : Waiting) → IsSoundAt text w → AreSound w
place_sound text (At place) h = h.0
place_sound text (TooDeep path) h = tt

pub place_proper : (text : List ℕ) (w : Waiting) → IsSoundAt text w → AreProper w
place_proper text (At place) h = h.1
place_proper text (TooDeep path) h = tt

keep_key : (o : Ordering) (e : List ℕ × Waiting) (es more : List (List ℕ × Waiting)) (text : List ℕ) (w : Waiting) → text_cmp text e.0 ≡ o
    → IsSoundAt text w → IsSoundAt e.0 e.1 → AllSound es → AllSound more → AllSound (match_ordering o ((text, w) ∷ e ∷ es) ((e.0, w) ∷ es) (e ∷ more))
keep_key Less e es more text w is new old rest after = (new, (old, rest))
keep_key Equal e es more text w is new old rest after =
    (subst (λ t. IsSoundAt t w) (slice_cmp-IsAntisymmetric nat_cmp-IsAntisymmetric text e.0 is) new, rest)
keep_key Greater e es more text w is new old rest after = (old, after)

insert_sound : (es : List (List ℕ × Waiting)) (text : List ℕ) (w : Waiting) → IsSoundAt text w → AllSound es → AllSound (insert_entry text_cmp es text w)
insert_sound [] text w new h = (new, tt)
insert_sound (e ∷ es) text w new h =
    keep_key (text_cmp text e.0) e es (insert_entry text_cmp es text w) text w refl new h.0 h.1 (insert_sound es text w new h.1)

both : (a b : Bool) → a ≡ true → b ≡ true → (a && b) ≡ true
both a b h k = ap (λ x. x && b) h ∙ k

one_proper : (name : List ℕ) → is_part name ≡ true → list_all is_part (name ∷ []) ≡ true
one_proper name h = both (is_part name) true h refl

child_sound : (folder : Place) (name : List ℕ) → IsPlace folder → list_all is_part folder.own.parts ≡ true → is_part name ≡ true
    → IsSoundAt (text_at folder name) (At (child_place folder name))
child_sound folder name place proper part =
    let own : length (folder.own.parts ++ name ∷ []) ≡ length folder.own.parts + 1 = length-append folder.own.parts (name ∷ []) in
    let full : length (folder.full.parts ++ name ∷ []) ≡ length folder.full.parts + 1 = length-append folder.full.parts (name ∷ []) in
    let short : length folder.own.parts ≤ length folder.full.parts = place.1 in
    let more : length (folder.own.parts ++ name ∷ []) ≤ length (folder.full.parts ++ name ∷ []) = omega arith in (
      (place.0, more),
      (list_all-append is_part folder.own.parts (name ∷ []) ∙ both (list_all is_part folder.own.parts) (list_all is_part (name ∷ [])) proper (one_proper name part)),
      refl,
    )

name_sound : (b : Bool) (folder : Place) (name : List ℕ) → IsPlace folder → list_all is_part folder.own.parts ≡ true → is_part name ≡ true
    → IsSoundAt (text_at folder name) (cond b (At (child_place folder name)) (TooDeep (front 64 (below folder.own (name ∷ [])))))
name_sound true folder name place proper part = child_sound folder name place proper part
name_sound false folder name place proper part = tt

and_both : (a b : Bool) → (a && b) ≡ true → (a ≡ true) × (b ≡ true)
and_both true b h = (refl, h)
and_both false b h = absurd (let wrong : true ≡ false = sym h in cc)

-- so what waits stays sound where the names of a folder are put into it
pub names_sound : (folder : Place) → IsPlace folder → list_all is_part folder.own.parts ≡ true
    → (names : List (List ℕ)) → list_all is_part names ≡ true → (es : List (List ℕ × Waiting)) → AllSound es → AllSound (put_names folder es names)
unfolding put_names
names_sound folder place proper [] parts es h = h
names_sound folder place proper (name ∷ names) parts es h =
    let two = and_both (is_part name) (list_all is_part names) parts in
    names_sound folder place proper names two.1 (put_name folder es name)
    (insert_sound es (text_at folder name) (waiting_at folder name) (name_sound (nat_lt (length folder.full.parts) 64) folder name place proper two.0) h)
