-- What a rewind finds out of a pair, and what it has to do: PostgreSQL 16, src/bin/pg_rewind/pg_rewind.c, main and perform_rewind. Own: "A pair from a number".
use Rattle.std.specs.Prelude.{◌≡◌, ℕ, ℤ, List, Ok}
use Rattle.std.specs.List.{filter_map}
use Rattle.cluster_tree.specs.Contents.{Contents}
use Rattle.cluster_tree.specs.PathValue.{PathValue}
use Rattle.file_walk.specs.Pairs.{pairs_of}
use Rattle.file_walk.specs.Walk.{found_below, walked}
use Rattle.file_walk.specs.declared.pair.Pair.{Pair}
use Rattle.log_walk.specs.declared.checkpoint.CommonCheckpoint.{CommonCheckpoint}
use Rattle.rewind_core.specs.Planned.{Aim, Needing, Needs, aim_of, planned_of}
use Rattle.rewind_survey.specs.Survey.{Parted, Parting, survey_of, told_of}
use Rattle.timeline_history.specs.declared.ancestor.Divergence.{Divergence}
use Rattle.pair_maker.specs.Files.{control_of}
use Rattle.pair_maker.specs.Logs.{common_checkpoint, common_place, megabyte}
use Rattle.pair_maker.specs.declared.side.Side.TheVariants.{Target, Source}
use Rattle.pair_laws.specs.Life.{side_records}
use Rattle.pair_laws.specs.Stands.{HasPair, source_of, target_of}

-- the source left timeline 1 where the common checkpoint ends
abbrev pub pair_fork : Divergence
pair_fork = record { tli = 1; at = record { 0 = 0x10_00A0 } }

-- the last common checkpoint, and where its record stands
abbrev pub pair_checkpoint : CommonCheckpoint
pair_checkpoint = record { start = record { 0 = common_place }; checkpoint = common_checkpoint }

-- of the target's log all records from that checkpoint on are read
abbrev pub pair_parting : (seed blocks : ℕ) → Parting
pair_parting seed blocks = record { told = told_of pair_fork pair_checkpoint; redo = common_place; records = side_records Target seed blocks }

-- a survey finds that the two have parted so
abbrev pub PairHasParted : Type 0
PairHasParted = (root : PathValue) (seed blocks : ℕ) (c : Contents) → HasPair root seed blocks c → survey_of c (target_of root) (source_of root) ≡ Ok (Parted (pair_parting seed blocks))

-- what its rewind is for, and all paths of both clusters side by side
abbrev pub pair_aim : PathValue → (seed blocks : ℕ) → ℤ → Aim
pair_aim root seed blocks now = aim_of (target_of root) (source_of root) (pair_parting seed blocks) (control_of Target seed blocks) (control_of Source seed blocks) megabyte now

abbrev pub pair_pairs : PathValue → Contents → List Pair
pair_pairs root c = pairs_of (filter_map walked (found_below c (target_of root))) (filter_map walked (found_below c (source_of root)))

abbrev pub pair_needing : PathValue → (seed blocks : ℕ) → Contents → ℤ → Needing
pair_needing root seed blocks c now = record { aim = pair_aim root seed blocks now; pairs = pair_pairs root c }

-- the rewind is needed, and nothing refuses it
abbrev pub PairIsNeeded : Type 0
PairIsNeeded = (root : PathValue) (seed blocks : ℕ) (c : Contents) (now : ℤ) → HasPair root seed blocks c
    → planned_of c (target_of root) (source_of root) now ≡ Ok (Needs (pair_needing root seed blocks c now))
