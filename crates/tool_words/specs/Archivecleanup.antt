-- The words of pg_archivecleanup, `-d`, `-n`, `-x EXT`, LOCATION and KEPT: PostgreSQL 16 manual, reference page of pg_archivecleanup. Own: "The names of an archive".
use Rattle.std.specs.Prelude.{ℕ, Bool, List, [], ◌∷◌, Option, Some, None, codes, if◌then◌else◌, is_some, option_and_then}
use Rattle.archive_names.specs.Cleanup.{kept_of}
use Rattle.clap.specs.Walk.{Row, Rule, first_of}
use Rattle.command_words.specs.Table.{flag, found_in, is_on, letter, option, word}
use Rattle.tool_words.specs.declared.archivecleanup.ArchivecleanupTexts.{ArchivecleanupTexts}

-- its flags, its option and its words
unfoldable pub archivecleanup_table : List Rule
archivecleanup_table =
    flag (codes "debug") (letter (codes "d")) None ∷
    flag (codes "dry-run") (letter (codes "n")) None ∷
    option (codes "extension") (letter (codes "x")) None ∷
    word (codes "LOCATION") ∷
    word (codes "KEPT") ∷ []

-- both words are needed, and the name to keep has one of its forms
abbrev pub archivecleanup_from : Option (List ℕ) → Option (List ℕ) → Option (List ℕ) → Bool → Bool → Option ArchivecleanupTexts
archivecleanup_from (Some folder) (Some kept) extension debug dry_run =
    if is_some (kept_of extension kept) then Some (record { folder = folder; kept = kept; extension = extension; debug = debug; dry_run = dry_run }) else None
archivecleanup_from _ _ extension debug dry_run = None

-- what was found in the words
abbrev pub archivecleanup_in : List Row → Option ArchivecleanupTexts
archivecleanup_in rows = archivecleanup_from (first_of (codes "LOCATION") rows) (first_of (codes "KEPT") rows)
    (first_of (codes "extension") rows) (is_on (codes "debug") rows) (is_on (codes "dry-run") rows)

-- what the words ask for; none where they are not in the grammar
abbrev pub archivecleanup_of : List (List ℕ) → Option ArchivecleanupTexts
archivecleanup_of words = option_and_then archivecleanup_in (found_in archivecleanup_table words)
