-- The commands by their names: PostgreSQL 16 manual, part "Reference", "PostgreSQL Server Applications" and "PostgreSQL Client Applications". Own: "Commands of this project's own".
use Rattle.std.specs.Prelude.{ℕ, bytes_eq, if◌then◌else◌, List, [], ◌∷◌, codes, Option, None, Some}
use Rattle.commands.specs.declared.name.CommandName.{CommandName}
use Rattle.commands.specs.declared.name.CommandName.TheVariants as name

-- the command that a word names
unfoldable pub named : List ℕ → Option CommandName
named word =
    if bytes_eq word (codes "pg_rewind") then Some name.PgRewind
    else (if bytes_eq word (codes "pg_waldump") then Some name.PgWaldump
    else (if bytes_eq word (codes "pg_controldata") then Some name.PgControldata
    else (if bytes_eq word (codes "pg_resetwal") then Some name.PgResetwal
    else (if bytes_eq word (codes "pg_archivecleanup") then Some name.PgArchivecleanup
    else (if bytes_eq word (codes "pg_walreplay") then Some name.PgWalreplay
    else (if bytes_eq word (codes "pg_walcompare") then Some name.PgWalcompare
    else (if bytes_eq word (codes "pair") then Some name.Pair else None)))))))

-- the command that the first word names
abbrev pub name_of : List (List ℕ) → Option CommandName
name_of [] = None
name_of (word ∷ words) = named word

-- the command's name as it stands before a cause
unfoldable pub name_text : Option CommandName → List ℕ
name_text None = codes "wal_tools"
name_text (Some name.PgRewind) = codes "pg_rewind"
name_text (Some name.PgWaldump) = codes "pg_waldump"
name_text (Some name.PgControldata) = codes "pg_controldata"
name_text (Some name.PgResetwal) = codes "pg_resetwal"
name_text (Some name.PgArchivecleanup) = codes "pg_archivecleanup"
name_text (Some name.PgWalreplay) = codes "pg_walreplay"
name_text (Some name.PgWalcompare) = codes "pg_walcompare"
name_text (Some name.Pair) = codes "pair"
