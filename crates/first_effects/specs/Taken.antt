-- Blocks of main forks that were taken away: those from one on of relations, and those of databases. Own: "Blocks that are
-- changed first".
use Rattle.std.specs.Prelude.{ℕ, ◌≡◌, ◌||◌, Bool, true, false, List, Option, Some, None, nat_le, min}
use Rattle.std.specs.declared.cmp.Ordering.{Ordering}
use Rattle.std.specs.BTreeMap.{is_at}
use Rattle.std.specs.List.{list_any}
use Rattle.std.specs.Map.{lookup}
use Rattle.std.specs.Ordering.{nat_cmp}
use Rattle.block_refs.specs.contracts.names.RelNameOrd.TheImpl as rel_ord
use Rattle.block_refs.specs.declared.names.BlockName.{BlockName}
use Rattle.block_refs.specs.declared.names.RelName.{RelName}
use Rattle.block_effects.specs.Gone.{is_main}

-- the first block that was taken away of relations, each once, and the databases, each once
pub record TakenView : Type 0 where
  pub cuts : List (RelName × ℕ)
  pub databases : List ℕ

-- the order of relations
abbrev pub rel_cmp : RelName → RelName → Ordering
rel_cmp = (rel_ord.ghosts).cmp

-- what stands at a relation
abbrev pub cut_at : List (RelName × ℕ) → RelName → Option ℕ
cut_at cuts rel = lookup (is_at (rel_cmp rel)) cuts

-- a block at or behind a cut that may be missing
abbrev pub is_behind : Option ℕ → ℕ → Bool
is_behind None block = false
is_behind (Some cut) block = nat_le cut block

-- the lower one of a cut that may be missing and another
abbrev pub lower : Option ℕ → ℕ → ℕ
lower None from = from
lower (Some cut) from = min from cut

abbrev pub is_among : List ℕ → ℕ → Bool
is_among databases database = list_any (is_at (nat_cmp database)) databases

-- a block of a main fork was taken away
abbrev pub is_taken : BlockName → TakenView → Bool
is_taken name taken = is_behind (cut_at taken.cuts name.rel) name.block || is_among taken.databases name.rel.database

-- these blocks of main forks are taken away too, and no others
abbrev pub Takes : (BlockName → Bool) → TakenView → TakenView → Type 0
Takes gone before after = (name : BlockName) → is_main name.fork ≡ true → is_taken name after ≡ (is_taken name before || gone name)
