use Rattle.heap_laws.proofs.PutLaw.{put_respects, put_keeps}
use Rattle.heap_laws.proofs.laws.put_respects.Goals as goal

pub returns-clause-mask : goal.returns-clause-mask
returns-clause-mask c = put_respects

pub returns-clause-page : goal.returns-clause-page
returns-clause-page c = put_keeps
