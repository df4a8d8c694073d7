-- The paths that a command's words give. Own: "Roots of at most 61 parts", "The folder of a dump", "The names of an archive", "The numbers of a reset", "A pair from a number".
use Rattle.std.specs.Prelude.{◌≡◌, ◌≤◌, true, is_some, length}
use Rattle.archive_names.specs.Cleanup.{kept_of}
use Rattle.cluster_tree.specs.Apart.{AreApart}
use Rattle.cluster_tree.specs.PathValue.{PathValue}
use Rattle.commands.specs.declared.archivecleanup.ArchivecleanupWords.{ArchivecleanupWords}
use Rattle.commands.specs.declared.command.Command.{Command}
use Rattle.commands.specs.declared.command.Command.TheVariants as command
use Rattle.commands.specs.declared.pair.PairWords.{PairWords}
use Rattle.commands.specs.declared.resetwal.ResetwalWords.{ResetwalWords}
use Rattle.commands.specs.declared.waldump.WaldumpWords.{WaldumpWords}
use Rattle.commands.specs.declared.waldump.WaldumpWords.TheVariants as waldump
use Rattle.reset_numbers.specs.Options.{IsFit as AreFitOptions}

-- a cluster's root leaves room for the files below it, up to the 64 parts of a path
abbrev pub IsFitRoot : PathValue → Type 0
IsFitRoot root = length root.parts ≤ 61

-- two roots, of which neither holds the other
pub record AreFitRoots (target source : PathValue) : Type 0 where
  pub target_depth : IsFitRoot target
  pub source_depth : IsFitRoot source
  pub apart : AreApart target source

-- a folder of a log leaves room for pg_wal and a file in it
abbrev pub IsFitFolder : PathValue → Type 0
IsFitFolder folder = length folder.parts ≤ 62

abbrev pub IsFitWaldump : WaldumpWords → Type 0
IsFitWaldump waldump.Managers = Unit {0}
IsFitWaldump (waldump.Dump words) = IsFitFolder words.folder

-- an archive's folder leaves room for a file in it, and the name that is kept has one of its forms
pub record IsFitArchivecleanup (words : ArchivecleanupWords) : Type 0 where
  pub depth : IsFitFolder words.folder
  pub kept : is_some (kept_of words.extension words.kept) ≡ true

-- the root of a cluster, and options that break no rule on their values
pub record IsFitResetwal (words : ResetwalWords) : Type 0 where
  pub depth : IsFitRoot words.root
  pub options : AreFitOptions words.options

-- a pair's folder leaves room for its three clusters, of so many blocks each
pub record IsFitPair (words : PairWords) : Type 0 where
  pub depth : length words.root.parts ≤ 60
  pub few : words.blocks ≤ 4096

-- what a command may be carried out on
abbrev pub IsFit : Command → Type 0
IsFit (command.Rewind words) = AreFitRoots words.target words.source
IsFit (command.Resume words) = AreFitRoots words.target words.source
IsFit (command.Controldata words) = IsFitRoot words.root
IsFit (command.Waldump words) = IsFitWaldump words
IsFit (command.Resetwal words) = IsFitResetwal words
IsFit (command.Archivecleanup words) = IsFitArchivecleanup words
IsFit (command.Walreplay words) = IsFitRoot words.root
IsFit (command.Restart words) = IsFitRoot words.root
IsFit (command.Walcompare words) = AreFitRoots words.first words.second
IsFit (command.Pair words) = IsFitPair words
