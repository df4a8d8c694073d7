-- A rewind that is done, and one that was stopped and is resumed, leave a target that follows its source.
use Rattle.std.proofs.Common.{Option, ◌≡◌, ◌⊎◌, ℕ, ℤ, Bool, false, List, None, Some, Result, Ok, Err, inl, inr, ⊎_elim, refl, sym, ap, ◌∙◌, subst}
use Rattle.rmgr_hooks.specs.Custom.{Extension, IsSound, OwesPages, handed_in, stated}
use Rattle.rmgr_hooks.specs.declared.manager.Manager.{Ghosts}
use Rattle.cluster_tree.specs.Change.{all_changed}
use Rattle.cluster_tree.specs.Contents.{Contents}
use Rattle.cluster_tree.specs.Marks.{marks_of}
use Rattle.cluster_tree.specs.PathValue.{below}
use Rattle.cluster_tree.specs.Tree.{bytes_at}
use Rattle.gated_marks.specs.Gates.{IsComplete}
use Rattle.rewind_plan.specs.Sides.{control_parts, label_parts, mark_parts}
use Rattle.plan_text.specs.Stored.{IsPlacedAt}
use Rattle.plan_text.specs.Text.{said_by}
use Rattle.plan_text.specs.declared.stored.StoredPlan.{StoredPlan}
use Rattle.rewind_core.specs.Fits.{IsPlanFor, IsRewound}
use Rattle.rewind_core.specs.Over.{without_own}
use Rattle.rewind_core.specs.Planned.{Needing, Needs, planned_of}
use Rattle.rewind_core.specs.Text.{sum_at}
use Rattle.rewind_core.specs.declared.outcome.Plan.{Plan}
use Rattle.rewind_core.proofs.LeftLemmas.{stop-told}
use Rattle.rewind_writes.specs.Plan.{IsResumable, mark_gate, mark_head}
use Rattle.resume_core.specs.Stored.{stored_of}
use Rattle.stored_laws.specs.Laws.{IsStopped}
use Rattle.stored_laws.proofs.AimLemmas.{needed-aimed}
use Rattle.stored_laws.proofs.ResumeLemmas.{stopped-resumed}
use Rattle.stored_laws.proofs.StoredLemmas.{stopped-stored}
use Rattle.stored_laws.proofs.TimeLemmas.{needed-at}
use Rattle.rewound_laws.specs.Converge.{Follows}
use Rattle.rewound_laws.proofs.ConvergeLemmas.{follows}
use Rattle.commands.specs.declared.command.Command.{Command}
use Rattle.commands.specs.declared.command.Command.TheVariants as command
use Rattle.commands.specs.declared.fault.CommandFault.{CommandFault}
use Rattle.commands.specs.declared.rewind.RewindWords.{RewindWords}
use Rattle.cmd_resume.specs.Resume.{LeavesResumed}
use Rattle.cmd_resume.proofs.ResumeLemmas.{changes-as}
use Rattle.cmd_resume.proofs.ShutLemmas.{stored-shut}
use Rattle.plain_restarts.proofs.DoneLemmas.{run-replayed}
use Rattle.plain_restarts.proofs.RunLemmas.{done-leaves}
use Rattle.wal_tools.specs.Converges.{ConvergesAsked}
use Rattle.wal_tools.specs.Leaves.{LeavesAsked}
use Rattle.wal_tools.specs.Resumed.{ConvergesResumed}

-- ---- a rewind that was stopped

-- its plan, as a mark holds it
abbrev held-plan : (sum : ℕ) → Plan → StoredPlan
held-plan sum plan = record { source = sum; told = plan.told; plan = plan.writes }

module _ (custom : Option Extension) (sound : IsSound custom) (words : RewindWords) (now : ℤ) (c c' : Contents) (left : LeavesResumed words now c c') where
  again-rewound : words.dry_run ≡ false → (c0 : Contents) (before : ℤ) (n : Needing) (plan : Plan) → IsStopped c0 words.target words.source before n plan c → IsRewound c0 n c'
  again-rewound wet c0 before n plan stop =
      let of = stop.for.writes in
      let root = (needed-aimed c0 words.target words.source before n stop.needed).target_is in
      let stored = held-plan (sum_at c0 words.source) plan in
      let placed : IsPlacedAt words.target stored.plan = record {
        mark = of.mark ∙ ap (λ r. below r mark_parts) root;
        label = of.label_at ∙ ap (λ r. below r label_parts) root;
        control = of.control_at ∙ ap (λ r. below r control_parts) root;
      } in
      let ends = stopped-resumed c0 words.target words.source before n plan c stored stop placed refl in
      let made = left.stored (said_by stored) wet (stopped-stored c0 words.target words.source before n plan c stop) in
      subst (IsRewound c0 n) (sym (made ∙ ap (all_changed c) (sym (changes-as c words.target stored placed)))) ends.rewound

  anew-rewound : words.dry_run ≡ false → stored_of c words.target words.source ≡ Ok None → (c0 : Contents) (before : ℤ) (n : Needing) (plan : Plan)
      → planned_of c0 words.target words.source before ≡ Ok (Needs n) → IsPlanFor c0 n plan → IsResumable c0 plan.text plan.writes c
      → IsRewound c0 n c ⊎ ((m : Needing) × (planned_of c0 words.target words.source now ≡ Ok (Needs m)) × IsRewound c0 m c' × Follows custom c0 words.target m c')
  anew-rewound wet none c0 before n plan needed for stop =
      let root = (needed-aimed c0 words.target words.source before n needed).target_is in
      let at : plan.writes.mark ≡ (marks_of words.target).rewind = for.writes.mark ∙ ap (λ r. below r mark_parts) root in
      ⊎_elim
      (λ same.
      let whole : without_own c words.target ≡ c0 = subst (λ r. without_own c r ≡ c0) root same in
      let (m, meant) = needed-at c0 words.target words.source before now n needed in
      let rewound : IsRewound c0 m c' = subst (λ d. IsRewound d m c') whole (left.fresh none m wet (ap (λ d. planned_of d words.target words.source now) whole ∙ meant)) in
      inr (m, meant, rewound, follows custom sound c0 c' words.target words.source now m meant rewound))
      (⊎_elim (λ complete. absurd (stored-shut c words.target words.source none (subst (λ p. IsComplete mark_head mark_gate (bytes_at c p)) at complete))) (λ done. inl done))
      (stop-told c0 n plan c for stop)

  resumed-converges : ConvergesResumed custom words now c c'
  resumed-converges = record {
    fresh = λ none n wet planned. follows custom sound (without_own c words.target) c' words.target words.source now n planned (left.fresh none n wet planned);
    stored = λ wet c0 before n plan stop.
        let rewound = again-rewound wet c0 before n plan stop in
        (rewound, follows custom sound c0 c' words.target words.source before n stop.needed rewound);
    anew = anew-rewound;
  }

-- ---- any run

-- a manager that is handed in owes what its laws say
pub handed-sound : {M H : Type 0} (manager : Ghosts M) (it : Option H) → OwesPages (stated manager) → IsSound (handed_in manager it)
handed-sound manager None owes = tt
handed-sound manager (Some x) owes = owes

-- what a run leaves that is done
pub converges_left : (custom : Option Extension) → IsSound custom → (asked : Result Command CommandFault) (now : ℤ) (tells : Bool) (c c' : Contents) (out out' : List ℕ) → LeavesAsked custom asked now tells c c' out out' → ConvergesAsked custom asked now c c'
converges_left custom sound (Ok (command.Rewind words)) now tells c c' out out' left =
    λ n wet planned. follows custom sound c c' words.target words.source now n planned (left n wet planned)
converges_left custom sound (Ok (command.Resume words)) now tells c c' out out' left = resumed-converges custom sound words now c c' left
converges_left custom sound (Ok (command.Controldata words)) now tells c c' out out' left = tt
converges_left custom sound (Ok (command.Waldump words)) now tells c c' out out' left = tt
converges_left custom sound (Ok (command.Resetwal words)) now tells c c' out out' left = tt
converges_left custom sound (Ok (command.Archivecleanup words)) now tells c c' out out' left = tt
converges_left custom sound (Ok (command.Walreplay words)) now tells c c' out out' left = tt
converges_left custom sound (Ok (command.Restart words)) now tells c c' out out' left =
    record {
      fresh = λ anew. run-replayed custom words.root c c' anew left.what left.left;
      stopped = λ first is_first stops. (left.what, done-leaves custom sound words.root first c is_first stops c' left.what left.left);
    }
converges_left custom sound (Ok (command.Walcompare words)) now tells c c' out out' left = tt
converges_left custom sound (Ok (command.Pair words)) now tells c c' out out' left = tt
converges_left custom sound (Err e) now tells c c' out out' left = tt
