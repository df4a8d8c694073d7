-- The options of words that are read break no rule on their values.
use Rattle.std.proofs.Common.{◌≡◌, ℕ, Bool, true, false, if◌then◌else◌, List, Option, None, Some, refl, sym}
use Rattle.clap.specs.Walk.{Row}
use Rattle.command_words.specs.Table.{found_in}
use Rattle.reset_numbers.specs.Options.{is_fit}
use Rattle.reset_numbers.specs.declared.options.ResetOptions.{ResetOptions}
use Rattle.tool_words.specs.Forms.{with_value}
use Rattle.tool_words.specs.Resetwal.{options_in, resetwal_from, resetwal_in, resetwal_of, resetwal_table}
use Rattle.tool_words.specs.Roots.{one_root}
use Rattle.tool_words.specs.declared.resetwal.ResetwalTexts.{ResetwalTexts}

fit-made : (b : Bool) (texts given : ResetwalTexts) → is_fit given.options ≡ b → (if b then Some given else None) ≡ Some texts → is_fit texts.options ≡ true
fit-made true texts given is e = let same : given ≡ texts = cc e in rw (sym same) is
fit-made false texts given is e = absurd (cc e)

fit-of_root : (options : ResetOptions) (root : Option (List ℕ)) (texts : ResetwalTexts) → with_value root (resetwal_from options) ≡ Some texts → is_fit texts.options ≡ true
fit-of_root options None texts e = absurd (cc e)
fit-of_root options (Some root) texts e = fit-made (is_fit options) texts (record { root = root; options = options }) refl e

fit-of_options : (options : Option ResetOptions) (root : Option (List ℕ)) (texts : ResetwalTexts) → with_value options (λ o. with_value root (resetwal_from o)) ≡ Some texts → is_fit texts.options ≡ true
fit-of_options None root texts e = absurd (cc e)
fit-of_options (Some options) root texts e = fit-of_root options root texts e

fit-in : (found : Option (List Row)) (texts : ResetwalTexts) → with_value found resetwal_in ≡ Some texts → is_fit texts.options ≡ true
fit-in None texts e = absurd (cc e)
fit-in (Some rows) texts e = fit-of_options (options_in rows) (one_root rows) texts e

pub fit-read : (words : List (List ℕ)) (texts : ResetwalTexts) → resetwal_of words ≡ Some texts → is_fit texts.options ≡ true
fit-read words texts e = fit-in (found_in resetwal_table words) texts e

pub ruleset fit_steps = (fit-read)
