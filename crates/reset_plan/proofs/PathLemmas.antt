-- Paths below a root, and names in a folder, that can't be refused.
use Rattle.std.proofs.Common.{◌≡◌, ◌≤◌, ◌+◌, ℕ, true, false, cond, nat_lt, List, Ok, Err, ap, arith, rules, codes}
use Rattle.cluster_tree.specs.PathValue.{is_part}
use Rattle.cluster_tree.specs.Paths.{checked}
use Rattle.cluster_tree.specs.declared.path_fault.PathFault.TheVariants.{TooDeep}
use Rattle.cluster_tree.proofs.PartLemmas.{part_kept, part_admitted}
use Rattle.wal_pages.proofs.PartLemmas.{named_admitted, named_kept}

pub name_admitted : (have : ℕ) (name : List ℕ) → is_part name ≡ true → have ≤ 63 → checked have name ≡ Ok tt
name_admitted have name h room = part_admitted have name room h

pub ruleset part_steps = (name_admitted, part_kept, named_admitted, named_kept)

not_deep : (have n : ℕ) → have ≤ 62 → n ≤ 2 → nat_lt 64 (have + n) ≡ false
not_deep have n h k = grind (arith, rules)

pub room_for_control : (have : ℕ) → have ≤ 61 → checked have (codes "global/pg_control") ≡ Ok tt
room_for_control have h = ap (λ b. cond b (Err TooDeep) (Ok tt)) (not_deep have 2 (omega (arith, h)) (omega arith))

pub room_for_status : (have : ℕ) → have ≤ 62 → checked have (codes "archive_status") ≡ Ok tt
room_for_status have h = ap (λ b. cond b (Err TooDeep) (Ok tt)) (not_deep have 1 h (omega arith))

pub room_for_mark : (have : ℕ) → have ≤ 61 → checked have (codes "pg_resetwal.unfinished") ≡ Ok tt
room_for_mark have h = ap (λ b. cond b (Err TooDeep) (Ok tt)) (not_deep have 1 (omega (arith, h)) (omega arith))

pub ruleset room_steps = (room_for_control, room_for_status, room_for_mark)
