use Rattle.std.proofs.Common.{[], ◌∷◌, ◌++◌, ◌∙◌, ap}
use Rattle.reset_plan.proofs.PageLemmas.{new_checkpoint_record}
use Rattle.wal_records.specs.Writer.{written}
use Rattle.pair_maker.proofs.LogLemmas.{ok-as}
use Rattle.pair_maker.proofs.logs.append_checkpoint.Goals as goal

pub returns-clause-more : goal.returns-clause-more
returns-clause-more c = ok-as c.append.result (λ more origin records at. more origin records at ∙ ap (λ r. written origin (records ++ r ∷ [])) (new_checkpoint_record c.args.cp.now c.checkpoint_body-body.result c.checkpoint_body-body.ensures.value)) c.append.ensures.more
