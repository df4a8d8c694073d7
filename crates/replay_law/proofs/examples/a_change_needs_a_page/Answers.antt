use Rattle.replay_law.proofs.Anywhere.{no_page_differs}
use Rattle.replay_law.proofs.examples.a_change_needs_a_page.Goals as goal

pub returns-clause-anywhere : goal.returns-clause-anywhere
returns-clause-anywhere c = no_page_differs
