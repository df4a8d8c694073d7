use Rattle.std.proofs.Common.{◌≡◌, string_bytes, take}
use Rattle.std.specs.List.{flat_map}
use Rattle.cmd_archivecleanup.specs.Archivecleanup.{path_line}
use Rattle.cmd_archivecleanup.proofs.names.path_lines.Given as goal

abbrev pub invariant-loop-at : goal.invariant-loop-at
invariant-loop-at l = string_bytes l.text ≡ flat_map (path_line l.folder) (take l.at l.names)
