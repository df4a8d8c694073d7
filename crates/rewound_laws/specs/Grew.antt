-- Two clusters that grew from one state: PostgreSQL 16 manual, reference page of pg_rewind (wal_log_hints, full_page_writes), sections "Reliability" and
-- "Database File Layout". Own: "Clusters that grew from one state".
use Rattle.std.specs.Prelude.{◌≡◌, ℕ, true, false, List, map, Option, Ok, is_some}
use Rattle.rmgr_hooks.specs.Custom.{Extension}
use Rattle.block_effects.specs.Lives.{IsLife}
use Rattle.block_refs.specs.declared.names.BlockName.{BlockName}
use Rattle.block_refs.specs.declared.names.Fork.{Fork}
use Rattle.block_refs.specs.declared.names.RelName.{RelName}
use Rattle.cluster_compare.specs.Same.{has_init}
use Rattle.cluster_laws.specs.Kinds.{HasKinds}
use Rattle.cluster_tree.specs.Contents.{Contents, IsTree}
use Rattle.cluster_tree.specs.PathValue.{PathValue}
use Rattle.page_masks.specs.Law.{view}
use Rattle.record_effects.specs.Managers.{rules_of}
use Rattle.replay_law.specs.Premises.{HasNoChange}
use Rattle.replay_law.specs.Stage.{Fits, Matches}
use Rattle.replay_laws.specs.Held.{IsMainBlock}
use Rattle.replay_laws.specs.Log.{HoldsBytes, split_of, steps}
use Rattle.replay_laws.specs.Refusals.{SomeLacksLayout}
use Rattle.replay_start.specs.Checked.{Start, start_of}
use Rattle.rewind_core.specs.Planned.{Needing}
use Rattle.rewind_plan.specs.Planned.{Between}
use Rattle.storage_laws.specs.Forks.{HasNoGap}
use Rattle.storage_laws.specs.Names.{IsRel}
use Rattle.storage_laws.specs.States.{block_in, page_in}
use Rattle.rewound_laws.specs.Alike.{IsRoomy}

-- The log that a whole copy of the source replays. The copy stands in a tree of files, whose log's files hold bytes, as every file does, and passes every
-- check before a replay: hints were logged, pages have no checksums, and the log is of the profile, has the common checkpoint and doesn't end too soon.
-- Its records say enough.
pub record HasLog (custom : Option Extension) (d : Contents) (other : PathValue) (s : Start) : Type 0 where
  pub tree : IsTree d
  pub bytes : HoldsBytes d other
  pub starts : start_of custom d other ≡ Ok s
  pub enough : ¬ (SomeLacksLayout s.records)

-- The source's files are as servers leave them: entries of the kinds of their places, and no fork with a gap.
pub record HasFiles (c : Contents) (w : Between) : Type 0 where
  pub kinds : HasKinds w.source c
  pub no_gap : (rel : RelName) (fork : Fork) → IsRel rel → HasNoGap w.source w.per_file rel fork c

-- A block of a main fork, and its state when the common checkpoint began: the base. The source's log is a life of the block from there on,
-- as a server with full-page images and logged hints writes it. The source's page is one of that life, or the log makes the block anew.
-- The target's page, where it has the block and its own log didn't touch it since, is the base's but for what the masks leave out.
pub record GrewFrom (custom : Option Extension) (base : Option (List ℕ)) (c : Contents) (w : Between) (s : Start) (name : BlockName) : Type 0 where
  pub life : IsLife (rules_of custom) name s.label.start.0 base (map split_of s.records)
  pub source : Fits (view name.block) base (page_in w.source w.per_file name c) (steps custom name s.records)
  pub target : is_some (block_in w.target w.per_file name c) ≡ true → w.wanted name.rel name.block ≡ false
      → Matches (view name.block) base (page_in w.target w.per_file name c)

-- Target and source of a rewind grew from one state of blocks. The blocks of relations with an init fork in the source, which aren't logged,
-- needn't: the source's log doesn't change them.
pub record GrewFromOneState (custom : Option Extension) (base : BlockName → Option (List ℕ)) (c : Contents) (n : Needing) (d : Contents) (other : PathValue) (s : Start) : Type 0 where
  pub log : HasLog custom d other s
  pub files : HasFiles c n.aim.between
  pub room : IsRoomy c n.aim.between d other
  pub logged : (name : BlockName) → IsMainBlock name → has_init c n.aim.between.source name.rel ≡ false → GrewFrom custom (base name) c n.aim.between s name
  pub unlogged : (name : BlockName) → IsMainBlock name → has_init c n.aim.between.source name.rel ≡ true → HasNoChange (steps custom name s.records)
