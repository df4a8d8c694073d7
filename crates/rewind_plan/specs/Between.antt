-- Two clusters by their code. Own: "The plan of a rewind".
use Rattle.touched_blocks.specs.Set.{has_in}
use Rattle.rewind_plan.specs.Planned.{Between}
use Rattle.rewind_plan.specs.declared.roots.Clusters.{Clusters}

-- the blocks that are wanted are those of the set
abbrev pub between : Clusters → Between
between clusters = record { target = clusters.target.now; source = clusters.source.now; per_file = clusters.per_file; wanted = has_in clusters.touched.now }
