-- The first parts of a text, which are joined one by one.
use Rattle.std.proofs.Common.{◌≡◌, ◌∙◌, ◌==◌, ◌||◌, nat_lt, ◌+◌, ◌<◌, length, get_or, Bool, true, false, ℕ, List, [], ◌∷◌, filter, take, cond, Option, Some, Result, Ok, Err, Bor, map, refl, ap, ap₂, sym, subst, arith, take-take}
use Rattle.std.specs.List.{All, AllByRecursion, flat_map, list_any}
use Rattle.std.specs.Iterator.{Yields}
use Rattle.std.proofs.lemmas.Bool.Decides.{nat_tests}
use Rattle.std.proofs.lemmas.Iterator.{YieldsList}
use Rattle.std.proofs.lemmas.Iterator.Consumers.{YieldsList-so_far, YieldsList-turn}
use Rattle.std.proofs.lemmas.List.{length-take, get_or-take}
use Rattle.std.proofs.lemmas.List.Elements.{All-from_recursion}
use Rattle.std.proofs.lemmas.List.Splits.{slice_split_none}
use Rattle.cluster_tree.specs.PathValue.{pieces, is_kept, is_dot_dot, kept_parts}
use Rattle.cluster_tree.specs.Paths.{checked}
use Rattle.cluster_tree.specs.declared.path_fault.PathFault.{PathFault}
use Rattle.cluster_tree.specs.declared.path_fault.PathFault.TheVariants as fault
use Rattle.tool_words.proofs.PieceLemmas.{Clean, pieces-clean, front-again}

-- a part of a text that has no part `..`
record IsPart (part : List ℕ) : Type 0 where
  kept : is_kept part ≡ true
  alone : pieces part ≡ part ∷ []
  plain : is_dot_dot part ≡ false

-- what the text is refused for, by whether it has a part `..`
abbrev refusal : List ℕ → Bool → Result (Unit {0}) PathFault
refusal text t = cond t (Err fault.DotDot) (cond (nat_lt 64 (0 + length (kept_parts text))) (Err fault.TooDeep) (Ok tt))

dots : (text : List ℕ) (t : Bool) → refusal text t ≡ Err fault.TooDeep → t ≡ false
dots text true h = absurd (let no : ◌≡◌ {A = Result (Unit {0}) PathFault} (Err fault.DotDot) (Err fault.TooDeep) = h in cc)
dots text false h = refl

no_dots : (text : List ℕ) → checked 0 text ≡ Err fault.TooDeep → list_any is_dot_dot (pieces text) ≡ false
no_dots [] h = refl
no_dots (b ∷ bs) h = dots (b ∷ bs) (list_any is_dot_dot (pieces (b ∷ bs))) h

or_none : (a b : Bool) → a || b ≡ false → (a ≡ false) × (b ≡ false)
or_none true b h = absurd (let no : true ≡ false = h in cc)
or_none false b h = (refl, h)

parts_of : (parts : List (List ℕ)) → AllByRecursion (Clean (λ b. b == 47)) parts → list_any is_dot_dot parts ≡ false → AllByRecursion IsPart (filter is_kept parts)
parts_of [] h none = tt
parts_of (part ∷ parts) h none =
    let apart = or_none (is_dot_dot part) (list_any is_dot_dot parts) none in
    elim (is_kept part) as (λ t. is_kept part ≡ t → AllByRecursion IsPart (cond t (part ∷ filter is_kept parts) (filter is_kept parts))) [
      | true ↦ λ e. (record { kept = e; alone = slice_split_none (λ b. b == 47) part h.0; plain = apart.0 }, parts_of parts h.1 apart.1)
      | false ↦ λ e. parts_of parts h.1 apart.1
    ] refl

room : (have n : ℕ) → have < 64 → n ≡ 1 → nat_lt 64 (have + n) ≡ false
room have n h is = grind (arith, nat_tests)

one_part : (part : List ℕ) → IsPart part → length (kept_parts part) ≡ 1
one_part part is = ap (λ l. length (filter is_kept l)) is.alone ∙ ap (λ t. length (cond t (part ∷ []) [])) is.kept

-- a part is joined to fewer than 64
fits : (have : ℕ) (part : List ℕ) → IsPart part → have < 64 → checked have part ≡ Ok tt
fits have [] is h = absurd (let no : false ≡ true = is.kept in cc)
fits have (b ∷ bs) is h =
    let part : List ℕ = b ∷ bs in
    let none : list_any is_dot_dot (pieces part) ≡ false = ap (list_any is_dot_dot) is.alone ∙ ap (λ t. t || false) is.plain in
    let deep : nat_lt 64 (have + length (kept_parts part)) ≡ false = room have (length (kept_parts part)) h (one_part part is) in
    ap₂ (λ t u. cond t (Err fault.DotDot) (cond u (Err fault.TooDeep) (Ok tt))) none deep

-- the parts before the one at n are n, so it is joined to them
next_fits : (text : List ℕ) (seen : List (List ℕ)) (n : ℕ) (part : List ℕ) → checked 0 text ≡ Err fault.TooDeep → seen ≡ take n (take 64 (kept_parts text))
    → n < length (take 64 (kept_parts text)) → part ≡ get_or (take 64 (kept_parts text)) n part → checked (length (flat_map kept_parts seen)) part ≡ Ok tt
next_fits text seen n part h is below at =
    let parts : List (List ℕ) = kept_parts text in
    let long = length-take 64 parts in
    let few : n < 64 = omega (arith, below, long) in
    let there : n < length parts = omega (arith, below, long) in
    let here : part ≡ get_or parts n part = at ∙ get_or-take 64 parts n part few in
    let are : All IsPart parts = All-from_recursion IsPart parts (parts_of (pieces text) (pieces-clean (λ b. b == 47) text) (no_dots text h)) in
    let this : IsPart part = subst IsPart (sym here) (are n part there) in
    let again : flat_map kept_parts seen ≡ take n parts = ap (flat_map kept_parts) (is ∙ take-take n 64 parts (omega (arith, few))) ∙ front-again n text in
    let size : length (flat_map kept_parts seen) < 64 = omega (arith, few, ap length again, length-take n parts) in
    fits (length (flat_map kept_parts seen)) part this size

-- the part that comes next is joined to those that came
pub next_joins : {S : Type 0} {steps : S → Option (Bor (List ℕ)) → S → Type 0} {s : S} (text : List ℕ) → checked 0 text ≡ Err fault.TooDeep → YieldsList steps (λ x. x.now) s (take 64 (kept_parts text))
    → (xs : List (Bor (List ℕ))) (t : S) → Yields steps s xs t → (r : Option (Bor (List ℕ))) (u : S) (x : Bor (List ℕ)) → r ≡ Some x → steps t r u
    → checked (length (flat_map kept_parts (map (λ y. y.now) xs))) x.now ≡ Ok tt
next_joins text h runs xs t came r u x is step =
    let turn = YieldsList-turn runs xs t came r u x is step in
    next_fits text (map (λ y. y.now) xs) (length xs) x.now h (YieldsList-so_far runs xs t came) turn.0 turn.1
