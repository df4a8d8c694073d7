-- The words of pg_resetwal: PostgreSQL 16 manual, reference page of pg_resetwal; src/bin/pg_resetwal/pg_resetwal.c, main. Own: "The numbers of a reset".
use Rattle.std.specs.Prelude.{ℕ, ◌^◌, List, [], ◌∷◌, Option, Some, None, codes, if◌then◌else◌}
use Rattle.clap.specs.Walk.{Row, Rule}
use Rattle.command_words.specs.Table.{flag, found_in, is_on, letter, option, word}
use Rattle.reset_numbers.specs.Options.{is_fit}
use Rattle.reset_numbers.specs.declared.options.ResetOptions.{ResetOptions}
use Rattle.wal_base.specs.Decimal.{decimal_number}
use Rattle.tool_words.specs.Forms.{given, with_value}
use Rattle.tool_words.specs.Numbers.{name_numbers_of, number_of, pair_of}
use Rattle.tool_words.specs.Roots.{one_root}
use Rattle.tool_words.specs.declared.resetwal.ResetwalTexts.{ResetwalTexts}

-- its options, its flags and its word
unfoldable pub resetwal_table : List Rule
resetwal_table =
    option (codes "commit-ts") (letter (codes "c")) None ∷
    option (codes "epoch") (letter (codes "e")) None ∷
    flag (codes "force") (letter (codes "f")) None ∷
    option (codes "log") (letter (codes "l")) None ∷
    option (codes "multi") (letter (codes "m")) None ∷
    flag (codes "dry-run") (letter (codes "n")) None ∷
    option (codes "oid") (letter (codes "o")) None ∷
    option (codes "multi-offset") (letter (codes "O")) None ∷
    option (codes "oldest-xid") (letter (codes "u")) None ∷
    option (codes "xid") (letter (codes "x")) None ∷
    option (codes "segment-size") None (Some (codes "wal-segsize")) ∷
    option (codes "pgdata") (letter (codes "D")) None ∷
    word (codes "DIR") ∷ []

-- a flag, as an option without a value
abbrev pub flag_in : List ℕ → List Row → Option (Unit {0})
flag_in id rows = if is_on id rows then Some tt else None

-- the options that are given; only the size of segments is always decimal
unfoldable pub options_in : List Row → Option ResetOptions
options_in rows =
    with_value (given pair_of (codes "commit-ts") rows) (λ commit_ts.
    with_value (given number_of (codes "epoch") rows) (λ epoch.
    with_value (given name_numbers_of (codes "log") rows) (λ log.
    with_value (given pair_of (codes "multi") rows) (λ multi.
    with_value (given number_of (codes "oid") rows) (λ oid.
    with_value (given number_of (codes "multi-offset") rows) (λ multi_offset.
    with_value (given number_of (codes "oldest-xid") rows) (λ oldest_xid.
    with_value (given number_of (codes "xid") rows) (λ xid.
    with_value (given (decimal_number (2 ^ 32)) (codes "segment-size") rows) (λ segment_mb.
    Some (record {
      commit_ts = commit_ts;
      epoch = epoch;
      force = flag_in (codes "force") rows;
      log = log;
      multi = multi;
      dry = flag_in (codes "dry-run") rows;
      oid = oid;
      multi_offset = multi_offset;
      oldest_xid = oldest_xid;
      xid = xid;
      segment_mb = segment_mb;
    }))))))))))

-- what is asked of a root, where the options break no rule on their values
abbrev pub resetwal_from : ResetOptions → List ℕ → Option ResetwalTexts
resetwal_from options root = if is_fit options then Some (record { root = root; options = options }) else None

-- what was found in the words
abbrev pub resetwal_in : List Row → Option ResetwalTexts
resetwal_in rows = with_value (options_in rows) (λ options. with_value (one_root rows) (resetwal_from options))

-- what the words ask for; none where they are not in the grammar
abbrev pub resetwal_of : List (List ℕ) → Option ResetwalTexts
resetwal_of words = with_value (found_in resetwal_table words) resetwal_in
