use Rattle.restarted_laws.proofs.EndLemmas.{ends-the_same}
use Rattle.restarted_laws.proofs.replays.replays_end_the_same.Goals as goal

pub returns : goal.returns
returns g = λ custom sound c d root other s after both holds passes again ends. ends-the_same custom sound c d root other s after both holds passes again ends
