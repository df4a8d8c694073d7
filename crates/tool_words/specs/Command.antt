-- What the program's words ask for: PostgreSQL 16 manual, reference pages of pg_rewind, pg_controldata, pg_waldump, pg_resetwal and pg_archivecleanup. Own: "The order of what
-- is wrong with roots", "The folder of a dump", "Commands of this project's own", "A pair from a number", "A replay that can be started again".
use Rattle.std.specs.Prelude.{ℕ, ◌==◌, ◌||◌, Bool, true, false, if◌then◌else◌, List, length, codes, Option, None, Some, unwrap_or, option_map, Result, Ok, Err}
use Rattle.cluster_tree.specs.Apart.{overlap}
use Rattle.cluster_tree.specs.Causes.{given}
use Rattle.cluster_tree.specs.PathValue.{PathValue}
use Rattle.cluster_tree.specs.Paths.{checked}
use Rattle.cluster_tree.specs.declared.path_fault.PathFault.{PathFault}
use Rattle.cluster_tree.specs.declared.path_fault.PathFault.TheVariants as path_fault
use Rattle.commands.specs.Name.{name_of}
use Rattle.commands.specs.declared.command.Command.{Command}
use Rattle.commands.specs.declared.command.Command.TheVariants as command
use Rattle.commands.specs.declared.fault.CommandFault.{CommandFault}
use Rattle.commands.specs.declared.fault.CommandFault.TheVariants as fault
use Rattle.commands.specs.declared.name.CommandName.{CommandName}
use Rattle.commands.specs.declared.name.CommandName.TheVariants as name
use Rattle.commands.specs.declared.rewind.RewindWords.{RewindWords}
use Rattle.commands.specs.declared.waldump.WaldumpWords.TheVariants as asked
use Rattle.tool_words.specs.Archivecleanup.{archivecleanup_of}
use Rattle.tool_words.specs.Controldata.{controldata_of}
use Rattle.tool_words.specs.Pair.{pair_texts_of}
use Rattle.tool_words.specs.Paths.{folder_named, pair_root_named, root_named}
use Rattle.tool_words.specs.Resetwal.{resetwal_of}
use Rattle.tool_words.specs.Rewind.{rewind_of}
use Rattle.tool_words.specs.Walcompare.{walcompare_of}
use Rattle.tool_words.specs.Waldump.{waldump_of}
use Rattle.tool_words.specs.Walreplay.{walreplay_of}
use Rattle.tool_words.specs.declared.archivecleanup.ArchivecleanupTexts.{ArchivecleanupTexts}
use Rattle.tool_words.specs.declared.pair.PairTexts.{PairTexts}
use Rattle.tool_words.specs.declared.resetwal.ResetwalTexts.{ResetwalTexts}
use Rattle.tool_words.specs.declared.rewind.RewindTexts.{RewindTexts}
use Rattle.tool_words.specs.declared.walcompare.WalcompareTexts.{WalcompareTexts}
use Rattle.tool_words.specs.declared.waldump.DumpTexts.{DumpTexts}
use Rattle.tool_words.specs.declared.waldump.SegmentWord.{SegmentWord}
use Rattle.tool_words.specs.declared.waldump.WaldumpTexts.{WaldumpTexts}
use Rattle.tool_words.specs.declared.waldump.WaldumpTexts.TheVariants as texts
use Rattle.tool_words.specs.declared.walreplay.WalreplayTexts.{WalreplayTexts}

-- the one root that words give
abbrev pub root_asked : Option (List ℕ) → Result PathValue CommandFault
root_asked None = Err fault.Usage
root_asked (Some text) = root_named text

-- pg_controldata at its root
abbrev pub controldata_at : PathValue → Command
controldata_at root = command.Controldata (record { root = root })

-- the text of a path is refused for a part `..`
abbrev pub climbs : {A : Type 0} → Result A PathFault → Bool
climbs (Ok _) = false
climbs (Err path_fault.Empty) = false
climbs (Err path_fault.DotDot) = true
climbs (Err path_fault.TooDeep) = false
climbs (Err path_fault.OutOfMemory) = false

-- two roots, of which neither may hold the other
abbrev pub roots_apart : PathValue → PathValue → Result (PathValue × PathValue) CommandFault
roots_apart first second = if overlap first second then Err fault.PathsOverlap else Ok (first, second)

-- a part `..` of either root is told before the depth of both
unfoldable pub two_roots : List ℕ → List ℕ → Result (PathValue × PathValue) CommandFault
two_roots first second =
    if climbs (checked 0 first) || climbs (checked 0 second) then Err fault.DotDot
    else given (root_named first) (λ f. given (root_named second) (λ s. roots_apart f s))

-- pg_rewind of two roots, from its start or gone on with
abbrev pub rewind_words : Bool → PathValue × PathValue → RewindWords
rewind_words dry_run roots = record { target = roots.0; source = roots.1; dry_run = dry_run }

abbrev pub rewind_at : RewindTexts → PathValue × PathValue → Command
rewind_at words roots =
    if words.resume then command.Resume (rewind_words words.dry_run roots)
    else command.Rewind (rewind_words words.dry_run roots)

-- pg_walcompare of two roots
abbrev pub walcompare_at : PathValue × PathValue → Command
walcompare_at roots = command.Walcompare (record { first = roots.0; second = roots.1 })

abbrev pub rewind_asked : Option RewindTexts → Result Command CommandFault
rewind_asked None = Err fault.Usage
rewind_asked (Some words) = given (two_roots words.target words.source) (λ roots. Ok (rewind_at words roots))

abbrev pub walcompare_asked : Option WalcompareTexts → Result Command CommandFault
walcompare_asked None = Err fault.Usage
walcompare_asked (Some words) = given (two_roots words.first words.second) (λ roots. Ok (walcompare_at roots))

-- what stands before the name of STARTSEG, up to and with the last slash; the current folder where nothing does
abbrev pub front_text : Option SegmentWord → List ℕ
front_text None = codes "."
front_text (Some word) = if length word.folder == 0 then codes "." else word.folder

-- the text of a dump's folder: that of -p, else the front of STARTSEG
unfoldable pub folder_text : DumpTexts → List ℕ
folder_text words = unwrap_or words.path (front_text words.first)

-- the name of STARTSEG
abbrev pub segment_of : Option SegmentWord → Option (List ℕ)
segment_of first = option_map (λ word. word.name) first

-- a dump of the log in a folder
abbrev pub dump_in_folder : DumpTexts → PathValue → Command
dump_in_folder words folder = command.Waldump (asked.Dump (record {
  folder = folder;
  first = segment_of words.first;
  last = words.last;
  start = words.start;
  stop = words.stop;
  timeline = words.timeline;
  filters = words.filters;
}))

-- pg_waldump; for the list of the managers no folder is looked at
abbrev pub waldump_asked : Option WaldumpTexts → Result Command CommandFault
waldump_asked None = Err fault.Usage
waldump_asked (Some texts.Managers) = Ok (command.Waldump asked.Managers)
waldump_asked (Some (texts.Dump words)) = given (folder_named (folder_text words)) (λ folder. Ok (dump_in_folder words folder))

-- pg_resetwal, at its root
abbrev pub resetwal_asked : Option ResetwalTexts → Result Command CommandFault
resetwal_asked None = Err fault.Usage
resetwal_asked (Some words) = given (root_named words.root) (λ root. Ok (command.Resetwal (record { root = root; options = words.options })))

-- pg_archivecleanup in a folder
abbrev pub cleanup_in_folder : ArchivecleanupTexts → PathValue → Command
cleanup_in_folder words folder = command.Archivecleanup (record {
  folder = folder;
  kept = words.kept;
  extension = words.extension;
  debug = words.debug;
  dry_run = words.dry_run;
})

abbrev pub archivecleanup_asked : Option ArchivecleanupTexts → Result Command CommandFault
archivecleanup_asked None = Err fault.Usage
archivecleanup_asked (Some words) = given (folder_named words.folder) (λ folder. Ok (cleanup_in_folder words folder))

-- pg_walreplay at its root, once for all or as a replay that can be started again
abbrev pub walreplay_at : WalreplayTexts → PathValue → Command
walreplay_at words root =
    if words.restart then command.Restart (record { root = root })
    else command.Walreplay (record { root = root })

abbrev pub walreplay_asked : Option WalreplayTexts → Result Command CommandFault
walreplay_asked None = Err fault.Usage
walreplay_asked (Some words) = given (root_named words.root) (λ root. Ok (walreplay_at words root))

-- pair in its folder
abbrev pub pair_in_folder : PairTexts → PathValue → Command
pair_in_folder words root = command.Pair (record { seed = words.seed; blocks = words.blocks; root = root })

abbrev pub pair_asked : Option PairTexts → Result Command CommandFault
pair_asked None = Err fault.Usage
pair_asked (Some words) = given (pair_root_named words.root) (λ root. Ok (pair_in_folder words root))

-- what the words of the command of this name ask for
unfoldable pub command_named : Option CommandName → List (List ℕ) → Result Command CommandFault
command_named None words = Err fault.Usage
command_named (Some name.PgRewind) words = rewind_asked (rewind_of words)
command_named (Some name.PgWaldump) words = waldump_asked (waldump_of words)
command_named (Some name.PgControldata) words = given (root_asked (controldata_of words)) (λ root. Ok (controldata_at root))
command_named (Some name.PgResetwal) words = resetwal_asked (resetwal_of words)
command_named (Some name.PgArchivecleanup) words = archivecleanup_asked (archivecleanup_of words)
command_named (Some name.PgWalreplay) words = walreplay_asked (walreplay_of words)
command_named (Some name.PgWalcompare) words = walcompare_asked (walcompare_of words)
command_named (Some name.Pair) words = pair_asked (pair_texts_of words)

-- the command that the words ask for, or why there is none; the first word is its name
abbrev pub command_of : List (List ℕ) → Result Command CommandFault
command_of words = command_named (name_of words) words
