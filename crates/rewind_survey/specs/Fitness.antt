-- What two control files must meet for a rewind: PostgreSQL 16, src/bin/pg_rewind/pg_rewind.c, sanityChecks.
use Rattle.std.specs.Prelude.{◌==◌, ◌||◌, not, if◌then◌else◌, List, [], ◌∷◌, Option, None, Some}
use Rattle.cluster_tree.specs.PathValue.{PathValue}
use Rattle.control_file.specs.declared.control.Control.{Control}
use Rattle.control_file.specs.declared.field.Field.TheVariants as field
use Rattle.clusters.specs.declared.fault.ClusterFault.TheVariants as cluster
use Rattle.rewind_survey.specs.declared.fault.RewindFault.{RewindFault}
use Rattle.rewind_survey.specs.declared.fault.RewindFault.TheVariants as fault

-- the source's relation files or log segments are cut at another size than the target's
unfoldable pub other_sizes : PathValue → Control → Control → Option RewindFault
other_sizes source t s =
    if s.relseg == t.relseg
    then (if s.walSegSize == t.walSegSize then None else Some (fault.Cluster (cluster.Shape source field.WalSegSize s.walSegSize)))
    else Some (fault.Cluster (cluster.Shape source field.Relseg s.relseg))

-- they aren't of one system
unfoldable pub systems_differ : Control → Control → Option RewindFault
systems_differ t s = if t.sysid == s.sysid then None else Some (fault.SystemsDiffer t.sysid s.sysid)

-- hints of the target's pages were logged neither by wal_log_hints nor for checksums
unfoldable pub no_hints : PathValue → Control → Option RewindFault
no_hints target t = if not (t.walLogHints == 0) || (t.checksumVersion == 1) then None else Some (fault.NoHints target)

-- a cluster was shut down neither in production (1) nor in recovery (2)
unfoldable pub not_clean : PathValue → Control → Option RewindFault
not_clean root c = if (c.state == 1) || (c.state == 2) then None else Some (fault.NotClean root c.state)

-- what the target's control file t and the source's s must meet, in order
abbrev pub pair_points : PathValue → PathValue → Control → Control → List (Option RewindFault)
pair_points target source t s =
    other_sizes source t s
    ∷ systems_differ t s
    ∷ no_hints target t
    ∷ not_clean target t
    ∷ not_clean source s ∷ []
