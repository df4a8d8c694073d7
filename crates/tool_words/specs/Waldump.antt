-- The words of pg_waldump: PostgreSQL 16 manual, reference page of pg_waldump; src/bin/pg_waldump/pg_waldump.c, main. Own:
-- "The words of pg_waldump".
use Rattle.std.specs.Prelude.{ℕ, ◌^◌, ◌&&◌, ◌||◌, Bool, false, not, is_some, List, [], ◌∷◌, Option, Some, None, codes, if◌then◌else◌}
use Rattle.std.specs.Option.{option_map_or, unwrap_or}
use Rattle.std.specs.Str.{str_eq_ignore_ascii_case}
use Rattle.clap.specs.Walk.{Row, Rule, first_of}
use Rattle.command_words.specs.Table.{flag, found_in, is_on, letter, option, word}
use Rattle.wal_base.specs.Lsn.{lsn_of}
use Rattle.rmgr_desc.specs.Naming.{manager_named}
use Rattle.wal_base.specs.Decimal.{decimal_number}
use Rattle.tool_words.specs.Forms.{fork_of, given, relation_of, segment_name, segment_word, with_value}
use Rattle.tool_words.specs.Roots.{root_of}
use Rattle.tool_words.specs.declared.waldump.DumpTexts.{DumpTexts}
use Rattle.commands.specs.declared.waldump.Filters.{Filters}
use Rattle.tool_words.specs.declared.waldump.WaldumpTexts.{WaldumpTexts}
use Rattle.tool_words.specs.declared.waldump.WaldumpTexts.TheVariants.{Managers, Dump}

-- its flags, its options and its words
unfoldable pub waldump_table : List Rule
waldump_table =
    flag (codes "bkp-details") (letter (codes "b")) (Some (codes "bkp-details")) ∷
    flag (codes "quiet") (letter (codes "q")) (Some (codes "quiet")) ∷
    flag (codes "fullpage") (letter (codes "w")) (Some (codes "fullpage")) ∷
    option (codes "block") (letter (codes "B")) (Some (codes "block")) ∷
    option (codes "end") (letter (codes "e")) (Some (codes "end")) ∷
    option (codes "fork") (letter (codes "F")) (Some (codes "fork")) ∷
    option (codes "limit") (letter (codes "n")) (Some (codes "limit")) ∷
    option (codes "path") (letter (codes "p")) (Some (codes "path")) ∷
    option (codes "rmgr") (letter (codes "r")) (Some (codes "rmgr")) ∷
    option (codes "relation") (letter (codes "R")) (Some (codes "relation")) ∷
    option (codes "start") (letter (codes "s")) (Some (codes "start")) ∷
    option (codes "timeline") (letter (codes "t")) (Some (codes "timeline")) ∷
    option (codes "xid") (letter (codes "x")) (Some (codes "xid")) ∷
    word (codes "STARTSEG") ∷
    word (codes "ENDSEG") ∷ []

-- the names of the managers are asked for
abbrev pub is_list : List Row → Bool
is_list rows =
    option_map_or (λ text. str_eq_ignore_ascii_case text (codes "list")) (first_of (codes "rmgr") rows) false

-- the manager whose records are shown, if only those of one are
abbrev pub manager_in : List Row → Option (Option ℕ)
manager_in rows = if is_list rows then Some None else given manager_named (codes "rmgr") rows

-- which records are shown, and how: the limit 0 is none, and a block is given only with a relation
unfoldable pub filters_in : List Row → Option Filters
filters_in rows =
    with_value (given (decimal_number (2 ^ 32)) (codes "limit") rows) (λ limit.
    with_value (manager_in rows) (λ manager.
    with_value (given relation_of (codes "relation") rows) (λ rel.
    with_value (given (decimal_number (2 ^ 32)) (codes "block") rows) (λ block.
    with_value (given fork_of (codes "fork") rows) (λ fork.
    with_value (given (decimal_number (2 ^ 32)) (codes "xid") rows) (λ xid.
    if is_some block && not (is_some rel) then None
    else Some (record {
      limit = unwrap_or limit 0;
      details = is_on (codes "bkp-details") rows;
      quiet = is_on (codes "quiet") rows;
      images_only = is_on (codes "fullpage") rows;
      manager = manager;
      rel = rel;
      block = block;
      fork = fork;
      xid = xid;
    })))))))

-- what a dump is asked for
unfoldable pub dump_in : List Row → Option DumpTexts
dump_in rows =
    with_value (filters_in rows) (λ filters.
    with_value (given lsn_of (codes "start") rows) (λ start.
    with_value (given lsn_of (codes "end") rows) (λ stop.
    with_value (given (decimal_number (2 ^ 32)) (codes "timeline") rows) (λ timeline.
    with_value (given root_of (codes "path") rows) (λ path.
    with_value (given segment_word (codes "STARTSEG") rows) (λ first.
    with_value (given segment_name (codes "ENDSEG") rows) (λ last.
    Some (record {
      path = path;
      first = first;
      last = last;
      start = start;
      stop = stop;
      timeline = timeline;
      filters = filters;
    }))))))))

-- a start is given, by itself or as a segment
abbrev pub has_start : DumpTexts → Bool
has_start dump = is_some dump.start || is_some dump.first

-- the names of the managers, or a dump, which has a start
abbrev pub asked_for : Bool → DumpTexts → Option WaldumpTexts
asked_for list dump = if list then Some Managers else (if has_start dump then Some (Dump dump) else None)

-- what was found in the words; all values are of their form, also where only the names are asked for
abbrev pub waldump_in : List Row → Option WaldumpTexts
waldump_in rows = with_value (dump_in rows) (asked_for (is_list rows))

-- what the words ask for; none where they are not in the grammar
abbrev pub waldump_of : List (List ℕ) → Option WaldumpTexts
waldump_of words = with_value (found_in waldump_table words) waldump_in
