-- Relations and their forks: PostgreSQL 16, src/include/common/relpath.h, ForkNumber; src/common/relpath.c, forkNames;
-- src/backend/access/rmgrdesc/xlogdesc.c, XLogRecGetBlockRefInfo.
use Rattle.std.specs.Prelude.{ℕ, ◌==◌, List, ◌++◌, codes, decimal, Option, Some, None, if◌then◌else◌}
use Rattle.block_refs.specs.declared.names.BlockName.{BlockName}
use Rattle.block_refs.specs.declared.names.Fork.{Fork}
use Rattle.block_refs.specs.declared.names.Fork.TheVariants.{Main, FreeSpace, Visibility, Init}
use Rattle.block_refs.specs.declared.names.RelName.{RelName}

-- a relation: tablespace, database, number
abbrev pub rel_text : RelName → List ℕ
rel_text rel = decimal rel.space ++ (codes "/" ++ (decimal rel.database ++ (codes "/" ++ decimal rel.relation)))

-- the name of a fork
abbrev pub fork_name : Fork → List ℕ
fork_name Main = codes "main"
fork_name FreeSpace = codes "fsm"
fork_name Visibility = codes "vm"
fork_name Init = codes "init"

-- a block: its relation, the name of its fork, its number
abbrev pub block_text : BlockName → List ℕ
block_text name = rel_text name.rel ++ (codes " " ++ (fork_name name.fork ++ (codes " " ++ decimal name.block)))

-- the number of a fork
abbrev pub fork_number : Fork → ℕ
fork_number Main = 0
fork_number FreeSpace = 1
fork_number Visibility = 2
fork_number Init = 3

-- the fork of a number, where there is one
unfoldable pub fork_of : ℕ → Option Fork
fork_of number =
    if number == 0 then Some Main
    else if number == 1 then Some FreeSpace
    else if number == 2 then Some Visibility
    else if number == 3 then Some Init
    else None
