use Rattle.std.proofs.Common.{◌≡◌, string_bytes, take}
use Rattle.std.specs.List.{flat_map}
use Rattle.rmgr_desc.specs.Managers.{manager_names}
use Rattle.cmd_waldump.specs.Waldump.{manager_line}
use Rattle.cmd_waldump.proofs.managers.manager_list.Given as goal

abbrev pub invariant-loop-manager : goal.invariant-loop-manager
invariant-loop-manager l = string_bytes l.text ≡ flat_map manager_line (take l.manager manager_names)
