use Rattle.restarted_laws.proofs.EndLemmas.{ends-same_files}
use Rattle.restarted_laws.proofs.files.replays_end_with_same_files.Goals as goal

pub returns : goal.returns
returns g = λ custom sound c d root other s after both holds passes again whole same ends. ends-same_files custom sound c d root other s after both holds passes again ends whole same
