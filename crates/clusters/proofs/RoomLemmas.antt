-- A root of at most 61 parts leaves room for the files at fixed places below it.
use Rattle.std.proofs.Common.{◌≡◌, ◌≤◌, ◌<◌, ◌^◌, ◌+◌, ◌==◌, ◌&&◌, ℕ, Bool, true, false, not, cond, nat_lt, List, [], ◌∷◌, ◌++◌, length, Some, Ok, Err, refl, ap, ap₂, sym, ◌∙◌, arith, rules, codes}
use Rattle.std.proofs.lemmas.Bool.Decides.{nat_tests}
use Rattle.std.proofs.lemmas.List.{length-append}
use Rattle.std.specs.List.{list_all}
use Rattle.cluster_tree.specs.PathValue.{PathValue, below, no_slash, is_kept, is_dot_dot, is_part, kept_parts}
use Rattle.cluster_tree.specs.Paths.{checked}
use Rattle.cluster_tree.specs.declared.path_fault.PathFault.TheVariants.{TooDeep}
use Rattle.cluster_tree.proofs.PartLemmas.{part_of, part_kept, part_admitted}
use Rattle.control_file.specs.Admission.{IsControl}
use Rattle.control_file.specs.declared.control.Control.{Control}
use Rattle.control_file.proofs.ShapeLemmas.{shaped}
use Rattle.wal_base.specs.Hex.{is_upper_hex, hex8, upper_hex}
use Rattle.wal_base.specs.SegSize.{IsSegSize}
use Rattle.wal_base.proofs.HexText.{padded_digits}
use Rattle.wal_base.proofs.HexDigits.{length-hex_digits, upper-hex_digits}
use Rattle.clusters.specs.Roots.{history_name, history_path}

not_deep : (have n : ℕ) → have ≤ 61 → n ≤ 3 → nat_lt 64 (have + n) ≡ false
not_deep have n h k = grind (arith, rules)

pub room_for_control : (have : ℕ) → have ≤ 61 → checked have (codes "global/pg_control") ≡ Ok tt
room_for_control have h = ap (λ b. cond b (Err TooDeep) (Ok tt)) (not_deep have 2 h (omega arith))

pub room_for_wal : (have : ℕ) → have ≤ 61 → checked have (codes "pg_wal") ≡ Ok tt
room_for_wal have h = ap (λ b. cond b (Err TooDeep) (Ok tt)) (not_deep have 1 h (omega arith))

-- ---- the name of a history is one part of a path

and_parts : (a b : Bool) → (a && b) ≡ true → (a ≡ true) × (b ≡ true)
and_parts true b h = (refl, h)
and_parts false b h = absurd cc

not_slash : (b : ℕ) → is_upper_hex b ≡ true → (b == 47) ≡ false
not_slash b h = grind (arith, nat_tests)

digits_free : (bs end : List ℕ) → list_all is_upper_hex bs ≡ true → list_all no_slash end ≡ true → list_all no_slash (bs ++ end) ≡ true
digits_free [] end h e = e
digits_free (b ∷ bs) end h e =
    let two = and_parts (is_upper_hex b) (list_all is_upper_hex bs) h in
    ap₂ (λ x y. not x && y) (not_slash b two.0) (digits_free bs end two.1 e)

long_kept : (name : List ℕ) → 3 ≤ length name → is_kept name ≡ true
long_kept [] n = absurd (omega (arith, n))
long_kept (a ∷ []) n = absurd (omega (arith, n))
long_kept (a ∷ b ∷ rest) n = grind arith

no_dots : (name : List ℕ) → 3 ≤ length name → is_dot_dot name ≡ false
no_dots [] n = absurd (omega (arith, n))
no_dots (a ∷ []) n = absurd (omega (arith, n))
no_dots (a ∷ b ∷ []) n = absurd (omega (arith, n))
no_dots (a ∷ b ∷ c ∷ rest) n = grind arith

history_part : (tli : ℕ) → is_part (history_name tli) ≡ true
unfolding history_name
history_part tli =
    let long : 3 ≤ length (hex8 tli ++ codes ".history") = omega (arith, length-append (hex8 tli) (codes ".history"), length-hex_digits 8 tli) in
    part_of (history_name tli) (record { kept = long_kept (history_name tli) long; other = no_dots (history_name tli) long; free = digits_free (hex8 tli) (codes ".history") (upper-hex_digits 8 tli) refl })

room_for_history : (have tli : ℕ) → have ≤ 63 → checked have (history_name tli) ≡ Ok tt
room_for_history have tli room = part_admitted have (history_name tli) room (history_part tli)

history_kept : (tli : ℕ) → kept_parts (history_name tli) ≡ history_name tli ∷ []
history_kept tli = part_kept (history_name tli) (history_part tli)

pub ruleset room_steps = (room_for_control, room_for_wal)

shown : (tli : ℕ) → tli < 2 ^ 32 → upper_hex 8 tli ++ codes ".history" ≡ history_name tli
unfolding history_name
shown tli fits = ap (λ l. l ++ codes ".history") (padded_digits 8 tli (omega arith) (omega (arith, fits)) (omega (arith, fits)))

pub room_for_name : (folder root : PathValue) (name : List ℕ) (tli : ℕ) → folder ≡ below root (codes "pg_wal" ∷ []) → length root.parts ≤ 61 → name ≡ upper_hex 8 tli ++ codes ".history" → tli < 2 ^ 32 → checked (length folder.parts) name ≡ Ok tt
room_for_name folder root name tli is room e fits =
    ap (checked (length folder.parts)) (e ∙ shown tli fits)
    ∙ room_for_history (length folder.parts) tli (omega (arith, room, length-append root.parts (codes "pg_wal" ∷ []), ap (λ (p : PathValue). length p.parts) is))

pub named_history : (path folder root : PathValue) (name : List ℕ) (tli : ℕ) → path ≡ below folder (kept_parts name) → folder ≡ below root (codes "pg_wal" ∷ []) → name ≡ upper_hex 8 tli ++ codes ".history" → tli < 2 ^ 32 → path ≡ history_path root tli
named_history path folder root name tli is at e fits =
    is ∙ ap (λ f. below f (kept_parts name)) at ∙ ap (λ l. below (below root (codes "pg_wal" ∷ [])) (kept_parts l)) (e ∙ shown tli fits)
    ∙ ap (below (below root (codes "pg_wal" ∷ []))) (history_kept tli)

-- ---- the size of segments

pub size_said : (c : Control) → IsControl c → IsSegSize c.walSegSize
size_said c is = (shaped c is.shape).size

pub ruleset size_steps = (size_said)
