use Rattle.std.proofs.Common.{◌≡◌, ◌++◌, map, string_bytes, take}
use Rattle.rmgr_desc.specs.Xlog.{shown}
use Rattle.rmgr_desc.proofs.xlog.add_name.Given as goal

abbrev pub invariant-loop-byte : goal.invariant-loop-byte
invariant-loop-byte l = string_bytes l.text ≡ string_bytes l.initial.text ++ map shown (take l.byte-index l.name)
