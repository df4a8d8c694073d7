use Rattle.archive_names.proofs.NameLemmas.{less_by_cmp}
use Rattle.archive_names.proofs.forms.is_less.Goals as goal

pub returns : goal.returns
returns c = less_by_cmp c.args.bytes.now c.args.others.now c.lt.result c.lt.ensures
