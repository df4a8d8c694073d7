use Rattle.std.proofs.Common.{rules, arith}
use Rattle.rmgr_desc.proofs.NamingLemmas.{first_named}
use Rattle.rmgr_desc.proofs.naming.manager_named.Goals as goal

pub returns-then-is_name_of : goal.returns-then-is_name_of
returns-then-is_name_of c = record {
  value = first_named c.args.name.now c.loop-manager.manager (omega arith) (search rules) c.loop-manager.invariant;
}
