use Rattle.file_edits.proofs.SparingLemmas.{padded-spares}
use Rattle.replay_restore.proofs.pages.resize.Goals as goal

pub returns-then-there-size-clause-spares : goal.returns-then-there-size-clause-spares
returns-then-there-size-clause-spares g c told piece sized is = c.cut.ensures.spares told piece is

pub returns-else-there-size-clause-spares : goal.returns-else-there-size-clause-spares
returns-else-there-size-clause-spares g c told piece sized is = padded-spares g.F.Tree piece c.args.path.now c.args.there _ _ _ (λ bytes first s. s) sized (c.pad_to.ensures.spares told piece)
