-- A root of at most 61 parts leaves room for what a rewind writes below it.
use Rattle.std.proofs.Common.{◌≡◌, ◌≤◌, ◌+◌, ℕ, false, cond, nat_lt, Ok, Err, ap, arith, rules, codes}
use Rattle.cluster_tree.specs.Paths.{checked}
use Rattle.cluster_tree.specs.declared.path_fault.PathFault.TheVariants.{TooDeep}

not_deep : (have n : ℕ) → have ≤ 61 → n ≤ 2 → nat_lt 64 (have + n) ≡ false
not_deep have n h k = grind (arith, rules)

pub room_for_control : (have : ℕ) → have ≤ 61 → checked have (codes "global/pg_control") ≡ Ok tt
room_for_control have h = ap (λ b. cond b (Err TooDeep) (Ok tt)) (not_deep have 2 h (omega arith))

pub room_for_label : (have : ℕ) → have ≤ 61 → checked have (codes "backup_label") ≡ Ok tt
room_for_label have h = ap (λ b. cond b (Err TooDeep) (Ok tt)) (not_deep have 1 h (omega arith))

pub room_for_mark : (have : ℕ) → have ≤ 61 → checked have (codes "pg_rewind.unfinished") ≡ Ok tt
room_for_mark have h = ap (λ b. cond b (Err TooDeep) (Ok tt)) (not_deep have 1 h (omega arith))

pub ruleset room_steps = (room_for_control, room_for_label, room_for_mark)
