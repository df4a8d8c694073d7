-- Which paths, from a cluster's root on, are files of main forks: PostgreSQL 16, src/bin/pg_rewind/filemap.c, isRelDataFile;
-- src/include/catalog/pg_tablespace.dat, pg_default (1663) and pg_global (1664). Own: "Files of relations in a rewind".
use Rattle.std.specs.Prelude.{ℕ, ◌==◌, ◌^◌, List, [], ◌∷◌, codes, bytes_eq, Option, None, Some, if◌then◌else◌}
use Rattle.wal_base.specs.Decimal.{decimal_number}
use Rattle.cluster_tree.specs.PathValue.{PathValue}
use Rattle.block_refs.specs.declared.names.Fork.{Fork}
use Rattle.block_refs.specs.declared.names.Fork.TheVariants.{Main, FreeSpace, Visibility, Init}
use Rattle.block_refs.specs.declared.names.RelName.{RelName}
use Rattle.relation_files.specs.declared.file_name.FileName.{FileName}
use Rattle.relation_files.specs.Reading.{file_named}

-- a number that isn't 0
abbrev pub nonzero : Option ℕ → Option ℕ
nonzero None = None
nonzero (Some n) = if n == 0 then None else Some n

-- the number of the database whose folder has this name
abbrev pub database_of : List ℕ → Option ℕ
database_of name = nonzero (decimal_number (2 ^ 32) name)

-- a relation of a tablespace and a database, and a segment of it
abbrev pub segment_of : (space database relation segment : ℕ) → Option (RelName × ℕ)
segment_of space database relation segment =
    if relation == 0 then None else Some (record { space = space; database = database; relation = relation }, segment)

-- the file of a main fork, if it is one
abbrev pub main_by : (space database relation : ℕ) → Fork → (segment : ℕ) → Option (RelName × ℕ)
main_by space database relation Main segment = segment_of space database relation segment
main_by space database relation FreeSpace segment = None
main_by space database relation Visibility segment = None
main_by space database relation Init segment = None

abbrev pub main_file : (space database : ℕ) → Option FileName → Option (RelName × ℕ)
main_file space database None = None
main_file space database (Some file) = main_by space database file.relation file.fork file.segment

abbrev pub main_of : (space database : ℕ) → List ℕ → Option (RelName × ℕ)
main_of space database name = main_file space database (file_named name)

-- a file of a shared relation lies in `global`
abbrev pub shared : (folder name : List ℕ) → Option (RelName × ℕ)
shared folder name = if bytes_eq folder (codes "global") then main_of 1664 0 name else None

abbrev pub in_database : Option ℕ → List ℕ → Option (RelName × ℕ)
in_database None name = None
in_database (Some database) name = main_of 1663 database name

-- every other one in its database's folder in `base`
abbrev pub placed : (folder database name : List ℕ) → Option (RelName × ℕ)
placed folder database name = if bytes_eq folder (codes "base") then in_database (database_of database) name else None

abbrev pub relation_in : List (List ℕ) → Option (RelName × ℕ)
relation_in [] = None
relation_in (first ∷ []) = None
relation_in (first ∷ second ∷ []) = shared first second
relation_in (first ∷ second ∷ third ∷ []) = placed first second third
relation_in (first ∷ second ∷ third ∷ more ∷ parts) = None

-- the relation and the segment of a main fork's file at a path, if it is one
unfoldable pub relation_of : PathValue → Option (RelName × ℕ)
relation_of path = if path.absolute then None else relation_in path.parts
