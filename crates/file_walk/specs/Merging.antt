-- How the pairs of two walks are put together, path by path. Own: "The order of a walk".
use Rattle.std.specs.Prelude.{◌≡◌, ℕ, true, List, [], ◌∷◌, map, Option, None, Some}
use Rattle.std.specs.FinMap.{FinMap, entries, get, insert}
use Rattle.cluster_tree.specs.PathValue.{PathValue, path_cmp, path_text}
use Rattle.file_walk.specs.declared.entry.Entry.{Entry}
use Rattle.file_walk.specs.declared.entry.EntryKind.{EntryKind}
use Rattle.file_walk.specs.declared.pair.Pair.{Pair}
use Rattle.file_walk.specs.Listed.{is_relative}

-- pairs by their paths
abbrev pub PairMap : Type 0
PairMap = FinMap path_cmp Pair

abbrev pub pair_of : PathValue → (target source : Option EntryKind) → Pair
pair_of path target source = record { path = path; target = target; source = source }

-- a pair of the target alone, and one with what the target has there
abbrev pub of_target : Entry → Pair
of_target entry = pair_of entry.path (Some entry.kind) None

abbrev pub target_in : Option Pair → Option EntryKind
target_in None = None
target_in (Some pair) = pair.target

abbrev pub of_source : Option Pair → Entry → Pair
of_source old entry = pair_of entry.path (target_in old) (Some entry.kind)

-- with the entries of a target, and of a source
unfoldable pub with_targets : PairMap → List Entry → PairMap
with_targets m [] = m
with_targets m (entry ∷ rest) = with_targets (insert m entry.path (of_target entry)) rest

unfoldable pub with_sources : PairMap → List Entry → PairMap
with_sources m [] = m
with_sources m (entry ∷ rest) = with_sources (insert m entry.path (of_source (get m entry.path) entry)) rest

-- the same by texts
abbrev pub texted : List (PathValue × Pair) → List (List ℕ × Pair)
texted es = map (λ e. (path_text e.0, e.1)) es

-- paths from a root on
abbrev pub AreKeys : List (PathValue × Pair) → Type 0
AreKeys [] = Unit {0}
AreKeys (e ∷ es) = (is_relative e.0 ≡ true) × AreKeys es

-- what is kept by texts is what a map has by paths
pub record IsMerged (m : PairMap) (kept : List (List ℕ × Pair)) : Type 0 where
  pub told : kept ≡ texted (entries m)
  pub relative : AreKeys (entries m)
