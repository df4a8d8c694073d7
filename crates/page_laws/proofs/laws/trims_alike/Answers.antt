use Rattle.page_laws.proofs.SoundHeap.{trims_alike}
use Rattle.page_laws.proofs.laws.trims_alike.Goals as goal

pub returns : goal.returns
returns c = trims_alike
