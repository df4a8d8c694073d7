-- Replay of one log over a rewound target and over a whole copy of its source.
use Rattle.std.proofs.Common.{◌≡◌, ℕ, ℤ, List, Option, Ok, sym, subst}
use Rattle.rmgr_hooks.specs.Custom.{Extension, IsSound}
use Rattle.alike_clusters.specs.Clusters.{AlikeClusters}
use Rattle.block_refs.specs.declared.names.BlockName.{BlockName}
use Rattle.cluster_laws.proofs.BothLemmas.{both-end}
use Rattle.cluster_laws.specs.Converging.{IsBased}
use Rattle.cluster_laws.specs.Replays.{BothEnd}
use Rattle.cluster_tree.specs.Contents.{Contents}
use Rattle.cluster_tree.specs.PathValue.{PathValue}
use Rattle.replay_core.specs.Replayed.{first_world}
use Rattle.replay_start.specs.Checked.{Start}
use Rattle.rewind_core.specs.Fits.{IsRewound}
use Rattle.rewind_core.specs.Planned.{Needing, Needs, planned_of}
use Rattle.rewind_plan.specs.Sides.{Sides}
use Rattle.rewound_laws.proofs.AlikeWhole.{rewound-alike}
use Rattle.rewound_laws.proofs.BlockLemmas.{blocks-fit, copy-kinds}
use Rattle.rewound_laws.proofs.NeededLemmas.{needed-target, planned-needed}
use Rattle.rewound_laws.specs.Blocks.{AreReady}
use Rattle.rewound_laws.specs.Converge.{RewoundConverges}
use Rattle.rewound_laws.specs.Copy.{IsWholeCopy}
use Rattle.rewound_laws.specs.Grew.{GrewFromOneState}
use Rattle.rewound_laws.specs.Needed.{IsNeeded}

module _ (custom : Option Extension) (sound : IsSound custom) (base : BlockName → Option (List ℕ)) (c c' d : Contents) (target source other : PathValue) (now : ℤ) (n : Needing) (s : Start)
    (planned : planned_of c target source now ≡ Ok (Needs n)) (sides : Sides c n.aim.between n.pairs) (left : IsRewound c n c') (copied : IsWholeCopy c n d other)
    (grew : GrewFromOneState custom base c n d other s) where
  abbrev per : ℕ
  per = s.control.relseg

  needed : IsNeeded c target source now n
  needed = planned-needed c target source now n planned

  ready : AreReady custom base n c' d other s
  ready = blocks-fit custom base c c' d target source other now n s planned sides left copied grew

  alike : AlikeClusters per d other c' target
  alike =
      subst (λ per_file. AlikeClusters per_file d other c' target) (sym ready.relseg)
      (rewound-alike c c' d target source other now n needed sides left copied grew.room)

  rewound-converges : BothEnd custom d other c' target s
  rewound-converges =
      both-end custom sound base s.label.start.0 d c' other target s alike grew.log.bytes (copy-kinds c d n other copied grew.files.kinds grew.room.other_room) grew.log.starts grew.log.enough
      ready.copy
      (subst (λ root. IsBased custom base s.label.start.0 s.records root per (first_world c' root s)) (needed-target c target source now n needed) ready.rewound)

pub follows : RewoundConverges
follows custom sound c c' target source now n planned left base d other s copied grew = rewound-converges custom sound base c c' d target source other now n s planned left.sides left copied grew
