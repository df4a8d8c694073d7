-- The name to keep of words that are read has one of its forms.
use Rattle.std.proofs.Common.{◌≡◌, ℕ, Bool, true, false, if◌then◌else◌, is_some, List, Option, None, Some, option_and_then, refl, sym}
use Rattle.archive_names.specs.Cleanup.{kept_of}
use Rattle.clap.specs.Walk.{Row}
use Rattle.command_words.specs.Table.{found_in}
use Rattle.tool_words.specs.Archivecleanup.{archivecleanup_from, archivecleanup_in, archivecleanup_of, archivecleanup_table}
use Rattle.tool_words.specs.declared.archivecleanup.ArchivecleanupTexts.{ArchivecleanupTexts}

form_of : (b : Bool) (texts given : ArchivecleanupTexts) → is_some (kept_of given.extension given.kept) ≡ b → (if b then Some given else None) ≡ Some texts → is_some (kept_of texts.extension texts.kept) ≡ true
form_of true texts given is e = let same : given ≡ texts = cc e in rw (sym same) is
form_of false texts given is e = absurd (cc e)

kept-from : (folder kept extension : Option (List ℕ)) (debug dry_run : Bool) (texts : ArchivecleanupTexts) → archivecleanup_from folder kept extension debug dry_run ≡ Some texts → is_some (kept_of texts.extension texts.kept) ≡ true
kept-from None kept extension debug dry_run texts e = absurd (cc e)
kept-from (Some folder) None extension debug dry_run texts e = absurd (cc e)
kept-from (Some folder) (Some kept) extension debug dry_run texts e = form_of (is_some (kept_of extension kept)) texts (record { folder = folder; kept = kept; extension = extension; debug = debug; dry_run = dry_run }) refl e

kept_in : (found : Option (List Row)) (texts : ArchivecleanupTexts) → option_and_then archivecleanup_in found ≡ Some texts → is_some (kept_of texts.extension texts.kept) ≡ true
kept_in None texts e = absurd (cc e)
kept_in (Some rows) texts e = kept-from _ _ _ _ _ texts e

pub kept-read : (words : List (List ℕ)) (texts : ArchivecleanupTexts) → archivecleanup_of words ≡ Some texts → is_some (kept_of texts.extension texts.kept) ≡ true
kept-read words texts e = kept_in (found_in archivecleanup_table words) texts e

pub ruleset words_steps = (kept-read)
