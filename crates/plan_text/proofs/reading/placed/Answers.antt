use Rattle.std.proofs.Common.{◌≡◌, ◌+◌, false, nat_lt, length, ap, arith}
use Rattle.std.proofs.lemmas.Bool.Decides.{nat_tests}
use Rattle.mark_lines.proofs.PathLemmas.{refusal_by}
use Rattle.plan_text.proofs.reading.placed.Goals as goal

pub below-requires : goal.below-requires
below-requires c = let fits : nat_lt 64 (length c.args.root.now.parts + 1) ≡ false = grind (arith, nat_tests, c.requires) in record { room = ap (refusal_by false) fits }

pub below-requires-3 : goal.below-requires-3
below-requires-3 c = let fits : nat_lt 64 (length c.args.root.now.parts + 2) ≡ false = grind (arith, nat_tests, c.requires) in record { room = ap (refusal_by false) fits }
