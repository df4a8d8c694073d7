-- What a clean-up puts, over every tree.
use Rattle.std.proofs.Common.{◌≡◌, ◌⊎◌, ◌∙◌, ℕ, Bool, true, false, List, [], ◌∷◌, map, filter, Option, None, Some, option_map, unwrap_or, if◌then◌else◌, inl, inr, refl, sym, ap, subst}
use Rattle.archive_names.specs.Cleanup.{goes, kept_of}
use Rattle.cluster_tree.specs.PathValue.{PathValue}
use Rattle.cluster_tree.specs.Contents.{Contents}
use Rattle.cluster_tree.specs.declared.tree.ChangeCall.TheVariants.{Remove}
use Rattle.std.specs.FinMap.{remove}
use Rattle.std.specs.List.{flat_map}
use Rattle.commands.specs.declared.archivecleanup.ArchivecleanupWords.{ArchivecleanupWords}
use Rattle.acts.specs.Acts.{Act, Look, Print, Report, Do, Within, Ending, Done, Refused, NoMemory, Seen, Performs, ends, breaks, goes_on}
use Rattle.run_acts.specs.Answers.{Answer, cause_in}
use Rattle.run_acts.specs.Causes.{IsFree, ending_of}
use Rattle.run_acts.specs.Laws.{Told, reported}
use Rattle.run_acts.specs.declared.cause.Cause.{Cause}
use Rattle.run_acts.proofs.AnswerSteps.{unfree}
use Rattle.run_acts.proofs.LawLemmas.{reports-in_order}
use Rattle.cmd_archivecleanup.specs.Archivecleanup.{going, in_folder, named_answer, path_line, printed, removal, removals, removing_line, telling}
use Rattle.cmd_archivecleanup.specs.Laws.{LinesInOrder, NothingElse, lines_of}
use Rattle.cmd_archivecleanup.specs.declared.plan.Removal.{Removal}

-- ---- the lines

reported_lines : (debug : Bool) (folder : PathValue) (c : Contents) (names : List (List ℕ)) → reported (removals c (map (removal debug folder) names)) ≡ (if debug then map (λ name. removing_line (in_folder folder name)) names else [])
reported_lines true folder c [] = refl
reported_lines true folder c (name ∷ names) = ap (λ l. removing_line (in_folder folder name) ∷ l) (reported_lines true folder (remove c (in_folder folder name)) names)
reported_lines false folder c [] = refl
reported_lines false folder c (name ∷ names) = reported_lines false folder (remove c (in_folder folder name)) names

none_goes : (words : ArchivecleanupWords) → going [] words ≡ []
none_goes words = elim (kept_of words.extension words.kept) as (λ o. unwrap_or (option_map (λ first. filter (goes words.extension first) []) o) [] ≡ []) [
  | None ↦ refl
  | Some first ↦ refl
]

no_lines : (words : ArchivecleanupWords) (debug : Bool) → (if debug then map (λ name. removing_line (in_folder words.folder name)) (going [] words) else []) ≡ []
no_lines words true = ap (map (λ name. removing_line (in_folder words.folder name))) (none_goes words)
no_lines words false = refl

told_of : (o : Bool) (ending : Ending) (acts : List Act) (texts : List (List ℕ)) (s u : Seen) → reported acts ≡ texts → Performs o true ending acts s u → Told ending texts s.err.text u.err.text
told_of o ending acts texts s u is p = subst (λ x. Told ending x s.err.text u.err.text) is (reports-in_order o ending acts s u p)

pub lines-in_order : LinesInOrder
lines-in_order o words answer how s u wet (inl named) p =
    let is : answer ≡ named_answer named.contents words named.names false = named.is ∙ ap (named_answer named.contents words named.names) wet in (
      named.names,
      told_of o (ending_of how) answer.acts (lines_of words named.names) s u
          (ap (λ (a : Answer). reported a.acts) is ∙ reported_lines words.debug words.folder named.contents (going named.names words)) p,
    )
lines-in_order o words answer how s u wet (inr (e, look, is)) p =
    ([], told_of o (ending_of how) answer.acts (lines_of words []) s u (ap (λ (a : Answer). reported a.acts) is ∙ sym (no_lines words words.debug)) p)

-- ---- nothing else

-- acts behind the look, none of which memory can be wanting for
abbrev Needless : List Act → Type 0
Needless [] = Unit {0}
Needless (Look ∷ acts) = ⊥
Needless (Print text ∷ acts) = Needless acts
Needless (Report text ∷ acts) = Needless acts
Needless (Do calls after ∷ acts) = Unit {0}
Needless (Within roots after ∷ acts) = ⊥

enough : {o e : Bool} (acts : List Act) (s u : Seen) → Needless acts → Performs o e NoMemory acts s u → ⊥
enough [] s u n (ends (inl is)) = cc is
enough [] s u n (ends (inr is)) = cc is
enough (Print text ∷ acts) s u n (breaks p) = cc (p.0)
enough (Report text ∷ acts) s u n (breaks p) = cc (p.0)
enough (Do calls after ∷ acts) s u n (breaks (inl is, b, r)) = cc is
enough (Do calls after ∷ acts) s u n (breaks (inr is, b, r)) = cc is
enough (Print text ∷ acts) s u n (goes_on {t = t} w a r) = enough acts t u n r
enough (Report text ∷ acts) s u n (goes_on {t = t} w a r) = enough acts t u n r
enough (Do calls after ∷ acts) s u n (goes_on w a r) = a
enough (Look ∷ acts) s u n p = absurd n
enough (Within roots after ∷ acts) s u n p = absurd n

printed_needless : (text : List ℕ) → Needless (printed text)
printed_needless [] = tt
printed_needless (byte ∷ bytes) = tt

removal_needless : (c : Contents) (line : Option (List ℕ)) (path : PathValue) (acts : List Act) → Needless (telling line (Do (Remove path ∷ []) (remove c path) ∷ acts))
removal_needless c None path acts = tt
removal_needless c (Some line) path acts = tt

removals_needless : (c : Contents) (rs : List Removal) → Needless (removals c rs)
removals_needless c [] = tt
removals_needless c (r ∷ rs) = removal_needless c r.line r.path (removals (remove c r.path) rs)

-- after the look nothing was done
looked : {o e : Bool} (ending : Ending) (acts : List Act) (s u : Seen) → ending ≡ NoMemory → Needless acts → Performs o e ending (Look ∷ acts) s u → u ≡ s
looked ending acts s u is n (breaks p) = p.1
looked {o} {e} ending acts s u is n (goes_on {t = t} w a r) = absurd (enough acts t u n (subst (λ x. Performs o e x acts t u) is r))

looked_only : {o e : Bool} (ending : Ending) (s u : Seen) → Performs o e ending (Look ∷ []) s u → u ≡ s
looked_only ending s u (breaks p) = p.1
looked_only ending s u (goes_on w a (ends is)) = w

named_needless : (c : Contents) (words : ArchivecleanupWords) (names : List (List ℕ)) (dry_run : Bool) → (acts : List Act) × ((named_answer c words names dry_run).acts ≡ Look ∷ acts) × Needless acts
named_needless c words names true = (printed (flat_map (path_line words.folder) (going names words)), refl, printed_needless (flat_map (path_line words.folder) (going names words)))
named_needless c words names false = (removals c (map (removal words.debug words.folder) (going names words)), refl, removals_needless c (map (removal words.debug words.folder) (going names words)))

unrefused : (c : Contents) (words : ArchivecleanupWords) (names : List (List ℕ)) (dry_run : Bool) → (named_answer c words names dry_run).refusal ≡ None
unrefused c words names true = refl
unrefused c words names false = refl

-- a run about names is never refused
never_refused : (how : Cause) (refusal : Option Cause) → refusal ≡ None → ending_of how ≡ Refused → IsFree how ⊎ (how ≡ cause_in refusal) → ⊥
never_refused how refusal none is (inl free) = unfree how is free
never_refused how refusal none is (inr own) = let done : Refused ≡ Done = sym is ∙ ap ending_of own ∙ ap (λ o. ending_of (cause_in o)) none in cc done

about_names : (o e : Bool) (answer : Answer) (acts : List Act) (how : Cause) (s u : Seen) → answer.acts ≡ Look ∷ acts → answer.refusal ≡ None → Needless acts → (ending_of how ≡ Refused) ⊎ (ending_of how ≡ NoMemory)
    → IsFree how ⊎ (how ≡ cause_in answer.refusal) → Performs o e (ending_of how) answer.acts s u → u ≡ s
about_names o e answer acts how s u is none n (inl refusal) exact p = absurd (never_refused how answer.refusal none refusal exact)
about_names o e answer acts how s u is none n (inr wanting) exact p = looked (ending_of how) acts s u wanting n (subst (λ x. Performs o e (ending_of how) x s u) is p)

pub nothing-else : NothingElse
nothing-else o e words answer how s u h (inl named) exact p =
    let (acts, looks, n) = named_needless named.contents words named.names words.dry_run in
    about_names o e answer acts how s u (ap (λ (a : Answer). a.acts) named.is ∙ looks) (ap (λ (a : Answer). a.refusal) named.is ∙ unrefused named.contents words named.names words.dry_run) n h exact p
nothing-else o e words answer how s u h (inr (why, look, is)) exact p =
    looked_only (ending_of how) s u (subst (λ (a : Answer). Performs o e (ending_of how) a.acts s u) is p)
