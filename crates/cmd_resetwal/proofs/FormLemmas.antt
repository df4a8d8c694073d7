-- The forms of what pg_resetwal does.
use Rattle.std.proofs.Common.{ℤ, inl, inr, refl, Result, Ok, Err}
use Rattle.cluster_tree.specs.Contents.{Contents}
use Rattle.commands.specs.declared.resetwal.ResetwalWords.{ResetwalWords}
use Rattle.reset_plan.specs.Reset.{Reset, reset_of}
use Rattle.reset_plan.specs.declared.fault.ResetFault.{ResetFault}
use Rattle.run_acts.proofs.AnswerSteps.{Looks}
use Rattle.cmd_resetwal.specs.Resetwal.{IsResetwal, reset_cause, resetwal_answer, told_answer}
use Rattle.cmd_resetwal.proofs.MeantLemmas.{Meant, meant}

form_of : (c : Contents) (words : ResetwalWords) (now : ℤ) (r : Result Reset ResetFault) → Meant words.root words.options now r → IsResetwal words now (told_answer c words r)
form_of c words now (Ok reset) made = inl (record { reset = reset; made = made; contents = c; is = refl })
form_of c words now (Err f) looks = inr (reset_cause f, looks, refl)

pub answer-form : (c : Contents) (words : ResetwalWords) (now : ℤ) → IsResetwal words now (resetwal_answer c words now)
answer-form c words now = form_of c words now (reset_of c words.root words.options now) (meant c words.root words.options now)

looks_of : (c : Contents) (words : ResetwalWords) (r : Result Reset ResetFault) → Looks ((told_answer c words r).acts)
looks_of c words (Ok reset) = tt
looks_of c words (Err f) = tt

pub answer-looks : (c : Contents) (words : ResetwalWords) (now : ℤ) → Looks ((resetwal_answer c words now).acts)
answer-looks c words now = looks_of c words (reset_of c words.root words.options now)
