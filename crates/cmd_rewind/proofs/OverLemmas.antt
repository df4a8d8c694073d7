-- A plan of what is seen, over the mark that is passed over.
use Rattle.std.proofs.Common.{◌≡◌, ℤ, Ok, sym, subst}
use Rattle.cluster_tree.specs.Contents.{Contents}
use Rattle.commands.specs.declared.rewind.RewindWords.{RewindWords}
use Rattle.rewind_core.specs.Fits.{IsPlanFor}
use Rattle.rewind_core.specs.Over.{IsPlanOver}
use Rattle.rewind_core.specs.Planned.{Needing, Needs, planned_of}
use Rattle.rewind_core.specs.declared.outcome.Plan.{Plan}
use Rattle.rewind_core.proofs.FactLemmas.{own-over, plan-over}
use Rattle.rewind_paths.proofs.BelowLemmas.{Aims, planned-aims}
use Rattle.cmd_rewind.specs.Marks.{IsPassable, seen_by}
use Rattle.cmd_rewind.specs.declared.marks.OwnMark.{OwnMark}
use Rattle.cmd_rewind.specs.declared.marks.OwnMark.TheVariants as own

over-here : (mark : OwnMark) (words : RewindWords) (now : ℤ) (c : Contents) (n : Needing) (plan : Plan) → IsPassable mark words.target c
    → planned_of (seen_by mark words.target c) words.target words.source now ≡ Ok (Needs n) → IsPlanFor (seen_by mark words.target c) n plan → IsPlanOver (seen_by mark words.target c) c n plan
over-here own.Refused words now c n plan passes found is = plan-over c n plan is
over-here own.PassedOver words now c n plan passes found is =
    own-over c words.target n plan (subst (Aims words.target) found (planned-aims (seen_by own.PassedOver words.target c) words.target words.source now)) is passes

-- and where the tree is as it was planned for
pub over-by : (mark : OwnMark) (words : RewindWords) (now : ℤ) (c mid : Contents) (n : Needing) (plan : Plan) → mid ≡ c → IsPassable mark words.target c
    → planned_of (seen_by mark words.target c) words.target words.source now ≡ Ok (Needs n) → IsPlanFor (seen_by mark words.target c) n plan → IsPlanOver (seen_by mark words.target c) mid n plan
over-by mark words now c mid n plan same passes found is = subst (λ d. IsPlanOver (seen_by mark words.target c) d n plan) (sym same) (over-here mark words now c n plan passes found is)
