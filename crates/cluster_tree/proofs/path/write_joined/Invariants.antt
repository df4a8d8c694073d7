use Rattle.std.proofs.Common.{◌∷◌, map, take, string_bytes}
use Rattle.std.specs.Fmt.{HasWritten, IsPlainFormatter}
use Rattle.std.specs.List.{join_with_byte}
use Rattle.cluster_tree.proofs.path.write_joined.Given as goal

abbrev pub invariant-loop-part : goal.invariant-loop-part
invariant-loop-part g l =
    IsPlainFormatter l.fn.f → HasWritten g.W.Write.write_str_gives l.fn.f (join_with_byte 47 (l.first ∷ map string_bytes (take l.part-index l.rest))) l.f
