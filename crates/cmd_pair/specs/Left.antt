-- What a stop at any moment of pair may leave. Own: "What a stop may leave".
use Rattle.cluster_tree.specs.Contents.{Contents}
use Rattle.cluster_tree.specs.Run.{Moment}
use Rattle.commands.specs.declared.pair.PairWords.{PairWords}
use Rattle.marked_runs.specs.Moments.{IsUntouched}
use Rattle.pair_maker.specs.Pair.{StaysBeside}

-- what a stop at any moment of pair may leave: what it might have left before, but for the three clusters
abbrev pub IsLeftByPair : PairWords → Moment → Contents → Type 0
IsLeftByPair words first c = (before : Contents) × IsUntouched first before × StaysBeside words.root before c
