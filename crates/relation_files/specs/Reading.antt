-- Which file of a relation a name is of. Own: "Names of relation files".
use Rattle.std.specs.Prelude.{ℕ, ◌==◌, ◌^◌, Bool, false, List, [], ◌∷◌, codes, bytes_eq, Option, None, Some, if◌then◌else◌}
use Rattle.wal_base.specs.Decimal.{decimal_number}
use Rattle.block_refs.specs.declared.names.Fork.{Fork}
use Rattle.block_refs.specs.declared.names.Fork.TheVariants.{Main, FreeSpace, Visibility, Init}
use Rattle.relation_files.specs.declared.file_name.FileName.{FileName}

-- a text up to its first byte of a kind
abbrev pub before : ℕ → List ℕ → List ℕ
before b [] = []
before b (x ∷ xs) = if x == b then [] else x ∷ before b xs

-- and what stands behind that byte, if it is there
abbrev pub behind : ℕ → List ℕ → Option (List ℕ)
behind b [] = None
behind b (x ∷ xs) = if x == b then Some xs else behind b xs

-- the fork that is named behind an underscore
abbrev pub fork_named : List ℕ → Option Fork
fork_named name =
    if bytes_eq name (codes "fsm") then Some FreeSpace
    else if bytes_eq name (codes "vm") then Some Visibility
    else if bytes_eq name (codes "init") then Some Init
    else None

-- the main fork where there is no underscore
abbrev pub fork_read : Option (List ℕ) → Option Fork
fork_read None = Some Main
fork_read (Some name) = fork_named name

-- a segment whose number is written isn't the first
abbrev pub later : Option ℕ → Option ℕ
later None = None
later (Some segment) = if segment == 0 then None else Some segment

-- the first segment where there is no dot
abbrev pub segment_read : Option (List ℕ) → Option ℕ
segment_read None = Some 0
segment_read (Some text) = later (decimal_number (2 ^ 32) text)

abbrev pub named_by : Option ℕ → Option Fork → Option ℕ → Option FileName
named_by (Some relation) (Some fork) (Some segment) = Some (record { relation = relation; fork = fork; segment = segment })
named_by (Some relation) (Some fork) None = None
named_by (Some relation) None segment = None
named_by None fork segment = None

-- the number up to the underscore (95), the fork behind it, and the segment behind the dot (46)
unfoldable pub file_named : List ℕ → Option FileName
file_named name =
    named_by (decimal_number (2 ^ 32) (before 95 (before 46 name))) (fork_read (behind 95 (before 46 name))) (segment_read (behind 46 name))

-- whether a file is of the relation of a number
abbrev pub file_of_number : ℕ → Option FileName → Bool
file_of_number relation None = false
file_of_number relation (Some file) = file.relation == relation

-- whether a name is
abbrev pub is_of_number : ℕ → List ℕ → Bool
is_of_number relation name = file_of_number relation (file_named name)
