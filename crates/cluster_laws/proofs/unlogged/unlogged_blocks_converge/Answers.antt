use Rattle.cluster_laws.proofs.unlogged.ConvergeLemmas.{unlogged-alike}
use Rattle.cluster_laws.proofs.unlogged.unlogged_blocks_converge.Goals as goal

pub returns : goal.returns
returns c = λ custom sound name start records root other per to w v x y main taken unchanged one two loses made new.
    unlogged-alike custom sound name start records root other per to w v x y main taken unchanged one two loses.had loses.lost made new
