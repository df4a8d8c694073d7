use Rattle.std.proofs.Common.{◌≡◌, ◌++◌, string_bytes, take}
use Rattle.std.specs.List.{flat_map}
use Rattle.waldump_core.specs.Refs.{short_text}
use Rattle.waldump_core.proofs.refs.add_short_refs.Given as goal

abbrev pub invariant-loop-at : goal.invariant-loop-at
invariant-loop-at l = string_bytes l.text ≡ string_bytes l.initial.text ++ flat_map short_text (take l.at l.parts.blocks)
