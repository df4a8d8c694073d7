-- A root leaves room for the files at fixed places below it.
use Rattle.std.proofs.Common.{◌≡◌, ◌≤◌, ◌+◌, ℕ, false, cond, nat_lt, Ok, Err, ap, arith, rules, codes}
use Rattle.cluster_tree.specs.Paths.{checked}
use Rattle.cluster_tree.specs.declared.path_fault.PathFault.TheVariants.{TooDeep}

not_deep : (have n : ℕ) → have ≤ 61 → n ≤ 3 → nat_lt 64 (have + n) ≡ false
not_deep have n h k = grind (arith, rules)

pub room_for_base : (have : ℕ) → have ≤ 61 → checked have (codes "base") ≡ Ok tt
room_for_base have h = ap (λ b. cond b (Err TooDeep) (Ok tt)) (not_deep have 1 h (omega arith))

pub room_for_database : (have : ℕ) → have ≤ 61 → checked have (codes "base/5") ≡ Ok tt
room_for_database have h = ap (λ b. cond b (Err TooDeep) (Ok tt)) (not_deep have 2 h (omega arith))

pub room_for_global : (have : ℕ) → have ≤ 61 → checked have (codes "global") ≡ Ok tt
room_for_global have h = ap (λ b. cond b (Err TooDeep) (Ok tt)) (not_deep have 1 h (omega arith))

pub room_for_wal : (have : ℕ) → have ≤ 61 → checked have (codes "pg_wal") ≡ Ok tt
room_for_wal have h = ap (λ b. cond b (Err TooDeep) (Ok tt)) (not_deep have 1 h (omega arith))

pub room_for_version : (have : ℕ) → have ≤ 61 → checked have (codes "PG_VERSION") ≡ Ok tt
room_for_version have h = ap (λ b. cond b (Err TooDeep) (Ok tt)) (not_deep have 1 h (omega arith))

pub room_for_database_version : (have : ℕ) → have ≤ 61 → checked have (codes "base/5/PG_VERSION") ≡ Ok tt
room_for_database_version have h = ap (λ b. cond b (Err TooDeep) (Ok tt)) (not_deep have 3 h (omega arith))

pub room_for_relation : (have : ℕ) → have ≤ 61 → checked have (codes "base/5/16384") ≡ Ok tt
room_for_relation have h = ap (λ b. cond b (Err TooDeep) (Ok tt)) (not_deep have 3 h (omega arith))

pub room_for_control : (have : ℕ) → have ≤ 61 → checked have (codes "global/pg_control") ≡ Ok tt
room_for_control have h = ap (λ b. cond b (Err TooDeep) (Ok tt)) (not_deep have 2 h (omega arith))

pub room_for_first : (have : ℕ) → have ≤ 61 → checked have (codes "pg_wal/000000010000000000000001") ≡ Ok tt
room_for_first have h = ap (λ b. cond b (Err TooDeep) (Ok tt)) (not_deep have 2 h (omega arith))

pub room_for_second : (have : ℕ) → have ≤ 61 → checked have (codes "pg_wal/000000020000000000000001") ≡ Ok tt
room_for_second have h = ap (λ b. cond b (Err TooDeep) (Ok tt)) (not_deep have 2 h (omega arith))

pub room_for_history : (have : ℕ) → have ≤ 61 → checked have (codes "pg_wal/00000002.history") ≡ Ok tt
room_for_history have h = ap (λ b. cond b (Err TooDeep) (Ok tt)) (not_deep have 2 h (omega arith))

pub room_for_label : (have : ℕ) → have ≤ 61 → checked have (codes "backup_label") ≡ Ok tt
room_for_label have h = ap (λ b. cond b (Err TooDeep) (Ok tt)) (not_deep have 1 h (omega arith))

pub room_for_target : (have : ℕ) → have ≤ 60 → checked have (codes "t") ≡ Ok tt
room_for_target have h = ap (λ b. cond b (Err TooDeep) (Ok tt)) (not_deep have 1 (omega (arith, h)) (omega arith))

pub room_for_source : (have : ℕ) → have ≤ 60 → checked have (codes "s") ≡ Ok tt
room_for_source have h = ap (λ b. cond b (Err TooDeep) (Ok tt)) (not_deep have 1 (omega (arith, h)) (omega arith))

pub room_for_copy : (have : ℕ) → have ≤ 60 → checked have (codes "c") ≡ Ok tt
room_for_copy have h = ap (λ b. cond b (Err TooDeep) (Ok tt)) (not_deep have 1 (omega (arith, h)) (omega arith))

pub ruleset room_steps = (room_for_base, room_for_database, room_for_global, room_for_wal, room_for_version, room_for_database_version, room_for_relation, room_for_control, room_for_first, room_for_second, room_for_history, room_for_label, room_for_target, room_for_source, room_for_copy)
