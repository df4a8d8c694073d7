use Rattle.replay_laws.proofs.TouchedLemmas.{start-touches}
use Rattle.restarted_laws.proofs.standing.unchanged_blocks_stand.Goals as goal

pub returns : goal.returns
returns c custom root s first last name page bytes start leaves is none stands =
    leaves name page (record { main = is.main; block = is.block }) (start-touches custom first.state.contents root s name bytes start is none) stands
