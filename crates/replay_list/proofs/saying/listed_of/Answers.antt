use Rattle.std.proofs.Common.{map, arith}
use Rattle.std.proofs.lemmas.List.{length-map}
use Rattle.replay_list.proofs.FrontLemmas.{with_more, without_words}
use Rattle.replay_list.proofs.saying.listed_of.Goals as goal

pub returns-in-empty : goal.returns-in-empty
returns-in-empty c = without_words c.args.root.now c.args.files (map (λ word. word.now) c.args.words.now) (omega (arith, length-map c.args.words.now (λ word. word.now)))

pub returns-in-len5-up : goal.returns-in-len5-up
returns-in-len5-up c = with_more c.args.root.now c.args.files (map (λ word. word.now) c.args.words.now) (omega (arith, length-map c.args.words.now (λ word. word.now)))
