use Rattle.std.proofs.Common.{rules, sym}
use Rattle.rmgr_desc.proofs.NamingLemmas.{first_named}
use Rattle.rmgr_desc.proofs.DistinctNames.{other_names}
use Rattle.rmgr_desc.proofs.naming.a_name_is_one_manager.Goals as goal

pub returns : goal.returns
returns c =
    let text = c.args.name.now in
    sym (first_named text c.args.manager (search rules) (search rules) (λ j. other_names text c.args.manager j (search rules) (search rules)))
