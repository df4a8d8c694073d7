use Rattle.record_effects.proofs.ExtensionLemmas.{extension_keeps}
use Rattle.record_effects.proofs.laws.extensions_keep_rules.Goals as goal

pub returns : goal.returns
returns c = extension_keeps
