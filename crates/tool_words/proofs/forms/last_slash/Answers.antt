use Rattle.std.proofs.Common.{arith}
use Rattle.tool_words.proofs.SlashLemmas.{split_last}
use Rattle.tool_words.proofs.forms.last_slash.Goals as goal

pub returns : goal.returns
returns c = split_last 47 c.args.text.now _ c.rsplit_once.ensures.cases (omega arith)
