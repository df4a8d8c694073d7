-- What a stopped replay leaves of a block on which the log has no effect. Own: "Calls that spare bytes", "A replay that is begun again".
use Rattle.std.specs.Prelude.{Option, ◌≡◌, ℕ, List, Ok}
use Rattle.rmgr_hooks.specs.Custom.{Extension}
use Rattle.block_refs.specs.declared.names.BlockName.{BlockName}
use Rattle.cluster_tree.specs.PathValue.{PathValue}
use Rattle.cluster_tree.specs.Run.{Moment}
use Rattle.replay_core.specs.Sparing.{LeavesUntouched, StandsThere, StaysThrough}
use Rattle.replay_laws.specs.Held.{IsMainBlock}
use Rattle.replay_laws.specs.Log.{HoldsBytes, steps}
use Rattle.replay_laws.specs.Touched.{HaveNoEffect}
use Rattle.replay_start.specs.Checked.{Start, start_of}

-- between two moments of a replay, as `replay` of replay_core says it: a block of a main fork on which no record of the log has
-- an effect keeps the page that stands there at the first, through to the last and in all that a stop between may leave
abbrev pub NoEffectStands : Type 0
NoEffectStands = (custom : Option Extension) (root : PathValue) (s : Start) (first last : Moment) (name : BlockName) (page : List ℕ)
    → HoldsBytes first.state.contents root → start_of custom first.state.contents root ≡ Ok s → LeavesUntouched custom root s first last
    → IsMainBlock name → HaveNoEffect (steps custom name s.records)
    → StandsThere root s.control.relseg name page first → StaysThrough root s.control.relseg name page first last
