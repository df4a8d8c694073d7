-- The list of resource managers, name by name.
use Rattle.std.proofs.Common.{◌≡◌, ℕ, suc, ◌+◌, ◌<◌, true, nat_lt, List, [], ◌∷◌, ◌++◌, codes, get_or, take, refl, ap, sym, ◌∙◌, arith, append_assoc, append-nil}
use Rattle.std.specs.List.{flat_map}
use Rattle.std.proofs.Math.Seq.{take-suc}
use Rattle.std.proofs.lemmas.Grind.{flat_map-append}
use Rattle.std.proofs.lemmas.Bool.Decides.{nat_tests}
use Rattle.rmgr_desc.specs.Managers.{manager_name_of, manager_names}
use Rattle.cmd_waldump.specs.Waldump.{manager_line, manager_list}

name_at : (n : ℕ) → n < 22 → manager_name_of n ≡ get_or manager_names n []
unfolding manager_name_of
name_at n h = let test : nat_lt n 22 ≡ true = grind (arith, nat_tests) in rw test refl

abbrev lines : ℕ → List ℕ
lines n = flat_map manager_line (take n manager_names)

more : (n : ℕ) → n < 22 → lines (suc n) ≡ lines n ++ manager_line (get_or manager_names n [])
more n h =
    ap (flat_map manager_line) (take-suc manager_names n [] h)
    ∙ flat_map-append manager_line (take n manager_names) (get_or manager_names n [] ∷ [])
    ∙ ap (λ l. lines n ++ l) (append-nil (manager_line (get_or manager_names n [])))

one_more : (n : ℕ) → suc n ≡ n + 1
one_more n = omega arith

-- a name and a line's end behind the lines so far
pub next_line : (n : ℕ) (text named ended : List ℕ) → n < 22 → text ≡ flat_map manager_line (take n manager_names)
    → named ≡ text ++ manager_name_of n → ended ≡ named ++ codes "\n" → ended ≡ flat_map manager_line (take (n + 1) manager_names)
next_line n text named ended h so_far is last =
    last ∙ ap (λ l. l ++ codes "\n") (is ∙ ap (λ l. l ++ manager_name_of n) so_far ∙ ap (λ l. lines n ++ l) (name_at n h))
    ∙ append_assoc (lines n) (get_or manager_names n []) (codes "\n") ∙ sym (more n h) ∙ ap lines (one_more n)

-- the lines of all names are the list
pub all_lines : (n : ℕ) (text : List ℕ) → n ≡ 22 → text ≡ flat_map manager_line (take n manager_names) → text ≡ manager_list
unfolding manager_list
all_lines n text all is = is ∙ ap lines all

pub ruleset list_steps = (next_line)
