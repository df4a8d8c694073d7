use Rattle.std.proofs.Common.{◌≡◌, ℕ, Result, MatchResult, Ok, subst, map}
use Rattle.mark_lines.specs.Lines.{said_first}
use Rattle.plan_text.specs.Reading.{said_in, source_of, told_of}
use Rattle.plan_text.specs.Stored.{IsFault}
use Rattle.plan_text.specs.Text.{Saying, said_by}
use Rattle.plan_text.proofs.ReadingLemmas.{fault_kept, headed, no_source, no_told}
use Rattle.plan_text.proofs.reading.said_in.Goals as goal

pub returns-in-Ok-told_at-clause-said : goal.returns-in-Ok-told_at-clause-said
returns-in-Ok-told_at-clause-said c =
    let P : Result Saying ℕ → Type 0 = λ m. MatchResult c.behind_head.result (λ stored. m ≡ Ok (said_by stored)) (IsFault m) in
    subst P (headed c.args.roots.now.target.now c.args.roots.now.source.now (map (λ piece. piece.now) c.args.pieces.now) _ _ _ _ c.in-Ok.ensures c.in-Ok-told_at.ensures)
    c.behind_head.ensures.said

pub returns-in-Err-told_at-clause-said : goal.returns-in-Err-told_at-clause-said
returns-in-Err-told_at-clause-said c =
    let pieces = map (λ piece. piece.now) c.args.pieces.now in
    let rest = map (λ piece. piece.now) c.in-Ok.behind.now in
    fault_kept (said_first told_of 2 rest) (said_in c.args.roots.now.target.now c.args.roots.now.source.now pieces) c.in-Err-told_at.fault
    (λ k. no_told c.args.roots.now.target.now c.args.roots.now.source.now pieces rest c.in-Ok.sum k c.in-Ok.ensures) c.in-Err-told_at.ensures

pub returns-in-Err-clause-said : goal.returns-in-Err-clause-said
returns-in-Err-clause-said c =
    let pieces = map (λ piece. piece.now) c.args.pieces.now in
    fault_kept (said_first source_of 1 pieces) (said_in c.args.roots.now.target.now c.args.roots.now.source.now pieces) c.in-Err.fault
    (no_source c.args.roots.now.target.now c.args.roots.now.source.now pieces) c.in-Err.ensures
