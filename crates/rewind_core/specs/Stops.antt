-- What a stop at any moment of a rewind may leave, and once it is done. Own: "What a stop may leave", "Changes under a mark".
use Rattle.std.specs.Prelude.{◌≡◌, ◌⊎◌, Result, Ok}
use Rattle.cluster_tree.specs.Contents.{Contents}
use Rattle.cluster_tree.specs.Marks.{marks_of}
use Rattle.cluster_tree.specs.PathValue.{PathValue}
use Rattle.cluster_tree.specs.Run.{Moment}
use Rattle.marked_runs.specs.Moments.{IsMarked, IsUntouched, StandsSynced}
use Rattle.rewind_survey.specs.declared.fault.RewindFault.{RewindFault}
use Rattle.rewind_core.specs.Fits.{IsRewound}
use Rattle.rewind_core.specs.Planned.{Meant, Needing, Needs}
use Rattle.rewind_core.specs.declared.outcome.RewindDone.{RewindDone}
use Rattle.rewind_core.specs.declared.outcome.RewindDone.TheVariants as done

-- the target is marked, or rewound from these contents
abbrev pub IsUnderway : (target : PathValue) → Contents → Needing → Contents → Type 0
IsUnderway target old n c = IsMarked (marks_of target).rewind c ⊎ IsRewound old n c

-- of a rewind that is needed for what was seen, from this moment on: untouched, marked or rewound
abbrev pub IsLeftBy : (seen : Contents) → Needing → Moment → Contents → Type 0
IsLeftBy seen n first c = IsUntouched first c ⊎ IsUnderway n.aim.between.target seen n c

-- of any: untouched, and only where a rewind is needed marked or rewound
abbrev pub IsLeft : Result Meant RewindFault → (target : PathValue) → Moment → Contents → Type 0
IsLeft meant target first c = IsUntouched first c ⊎ ((n : Needing) × (meant ≡ Ok (Needs n)) × IsUnderway target first.state.contents n c)

-- once a target is rewound, a stop leaves what stands
abbrev pub IsSyncedBy : RewindDone → Moment → Type 0
IsSyncedBy (done.NotNeeded fork) moment = Unit {0}
IsSyncedBy (done.Rewound told) moment = StandsSynced moment.state.contents moment
