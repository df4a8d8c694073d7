-- The mark at the target's root is complete, and no mark of another command stands there.
use Rattle.std.proofs.Common.{◌≡◌, ◌≢◌, ℕ, ◌<◌, true, false, cond, ◌&&◌, ◌||◌, nat_lt, List, [], ◌∷◌, length, codes, Option, None, Some, Ok, is_some, refl, sym, ap, ap₂, ◌∙◌, true≢false, arith}
use Rattle.std.specs.Prelude.{if◌then◌else◌}
use Rattle.std.proofs.lemmas.Bool.Decides.{nat_tests}
use Rattle.layout.specs.Splice.{splice}
use Rattle.cluster_tree.specs.Causes.{given, unless}
use Rattle.cluster_tree.specs.Contents.{Contents, Entry, FileEntry, entry_at, or_root}
use Rattle.cluster_tree.specs.Marks.{marks_of}
use Rattle.cluster_tree.specs.PathValue.{PathValue, below}
use Rattle.cluster_tree.proofs.ContentsLemmas.{entry-put_other}
use Rattle.cluster_tree.proofs.OrderLemmas.{path_eq-other}
use Rattle.control_file.specs.declared.control.Control.{Control}
use Rattle.backup_label.specs.declared.label.Label.{Label}
use Rattle.clusters.specs.declared.fault.ClusterFault.TheVariants as cluster
use Rattle.file_walk.specs.Actions.{is_mark}
use Rattle.file_walk.specs.declared.entry.EntryKind.{EntryKind}
use Rattle.file_walk.specs.declared.entry.EntryKind.TheVariants as kind
use Rattle.file_walk.specs.declared.pair.Pair.{Pair}
use Rattle.rewind_writes.specs.Plan.{mark_bytes}
use Rattle.rewind_writes.specs.declared.plan.Plan.{Plan}
use Rattle.rewind_writes.specs.declared.step.Step.{Step}
use Rattle.plan_text.specs.Mark.{mark_told}
use Rattle.plan_text.specs.declared.mark.MarkText.TheVariants.{Complete, NotComplete}
use Rattle.rewind_plan.specs.PlanOf.{IsPlanOf}
use Rattle.rewind_plan.specs.Planned.{Between, in_target, steps_of}
use Rattle.rewind_plan.specs.Sides.{IsKind, IsPaired, Sides, control_parts, label_parts, mark_parts}
use Rattle.rewind_plan.proofs.SideLemmas.{below-same}
use Rattle.resumed_laws.specs.Between.{IsBetween}
use Rattle.resumed_laws.specs.Groups.{Untouched, Labelled, Controlled, group_at, group_in, group_of, target_of}
use Rattle.resumed_laws.specs.Sound.{with_whole_mark}
use Rattle.resumed_laws.proofs.ReadLemmas.{untouched-same}
use Rattle.resumable_plans.proofs.OrderLemmas.{group-has}
use Rattle.resume_core.specs.Marks.{mark_at, other_mark, other_marks, own_mark, told_bytes}
use Rattle.stored_laws.proofs.LeftLemmas.{mark-stays}
use Rattle.stored_laws.proofs.SourceLemmas.{none-of-two}
use Rattle.stored_laws.proofs.StepLemmas.{HoldsOfPairs, of-steps}

-- ---- what a whole mark tells

longer : (n : ℕ) → 14 < n → nat_lt 14 n ≡ true
longer n more = grind (arith, nat_tests)

told-complete : (text : List ℕ) → 14 < length (mark_bytes text) → mark_told (mark_bytes text) ≡ Complete
unfolding splice
told-complete text more = ap (λ b. if b && true then Complete else NotComplete) (longer (length (mark_bytes text)) more)

own-complete : (mark : PathValue) (o : Option Entry) (text : List ℕ) → o ≡ Some (FileEntry (mark_bytes text)) → 14 < length (mark_bytes text) → own_mark mark o ≡ Ok (Some (mark_bytes text))
own-complete mark o text is more = ap (own_mark mark) is ∙ ap (told_bytes mark (mark_bytes text)) (told-complete text more)

-- ---- where nothing stands

none-other : (c : Contents) (mark : PathValue) → entry_at c mark ≡ None → other_mark c mark ≡ None
none-other c mark none = ap (λ o. if is_some o then Some (cluster.Unfinished mark) else None) none

none-kind : (k : Option EntryKind) (o : Option Entry) → IsKind k o → o ≡ None → is_some k ≡ false
none-kind None o is none = refl
none-kind (Some (kind.File size)) o is none = absurd (cc (is.1, none))
none-kind (Some kind.Folder) o is none = absurd (cc (is, none))

-- ---- under the mark of a rewind

module _ (c i : Contents) (text : List ℕ) (w : Between) (all : List Pair) (new : Control) (label : Label) (plan : Plan) (sides : Sides c w all) (of : IsPlanOf w all new label plan) (between : IsBetween (with_whole_mark c text plan) plan i) where
  -- no pair is at a mark
  unpaired : (parts : List (List ℕ)) → is_mark parts ≡ true → (x : Pair) → IsPaired c w x → in_target w x ≢ below w.target parts
  unpaired parts is x paired at =
      let same = below-same w.target x.path.parts parts at in
      let target = none-kind x.target _ paired.target (ap (λ p. entry_at c (below w.target p)) same ∙ sides.marks_target parts is) in
      let source = none-kind x.source _ paired.source (ap (λ p. entry_at c (below w.source p)) same ∙ sides.marks_source parts is) in
      true≢false (sym paired.some ∙ ap₂ (λ a b. a || b) target source)

  module _ (parts : List (List ℕ)) (is : is_mark parts ≡ true) where
    abbrev Leaves : Step → Type 0
    Leaves step = target_of step ≡ below w.target parts → group_of step ≡ Untouched

    pairs-leave : HoldsOfPairs c w Leaves
    pairs-leave = record {
      folder = λ x paired at. absurd (unpaired parts is x paired at);
      whole = λ x bytes size paired there long at. absurd (unpaired parts is x paired at);
      cut = λ x size paired at. absurd (unpaired parts is x paired at);
      range = λ x bytes from size paired there within at. absurd (unpaired parts is x paired at);
      removal = λ x paired at. absurd (unpaired parts is x paired at);
    }

    steps-leave : group_at (below w.target parts) plan.steps.items ≡ Untouched
    steps-leave =
        ap (group_at (below w.target parts)) of.steps
        ∙ group-has (λ g. g ≡ Untouched) (below w.target parts) (steps_of w all) refl (of-steps c w Leaves pairs-leave all sides.paired)

    off-own : (own : List (List ℕ)) (path : PathValue) → path ≡ below w.target own → is_mark own ≡ false → below w.target parts ≢ path
    off-own own path at off e = true≢false (sym is ∙ ap is_mark (below-same w.target parts own (e ∙ at)) ∙ off)

    group-none : group_in plan.steps.items plan.label plan.control (below w.target parts) ≡ Untouched
    group-none =
        let path = below w.target parts in
        let label_off = path_eq-other path plan.label.path (off-own label_parts plan.label.path of.label_at refl) in
        let control_off = path_eq-other path plan.control.path (off-own control_parts plan.control.path of.control_at refl) in
        ap₂ (λ a b. cond a Labelled (cond b Controlled (group_at path plan.steps.items))) label_off control_off ∙ steps-leave

    -- at a mark of another command nothing stands
    none-there : parts ≢ mark_parts → entry_at i (below w.target parts) ≡ None
    none-there other =
        let path = below w.target parts in
        ap (or_root path.parts) (untouched-same (with_whole_mark c text plan) i plan.steps.items plan.label plan.control path between group-none)
        ∙ entry-put_other c plan.mark path (FileEntry (mark_bytes text)) (λ e. other (below-same w.target parts mark_parts (e ∙ of.mark)))
        ∙ sides.marks_target parts is

  others-none : other_marks i (marks_of w.target) ≡ None
  others-none =
      let marks = marks_of w.target in
      none-of-two (other_mark i marks.replay) (other_mark i marks.reset)
      (none-other i marks.replay (none-there (codes "pg_walreplay.unfinished" ∷ []) refl (λ e. cc e)))
      (none-other i marks.reset (none-there (codes "pg_resetwal.unfinished" ∷ []) refl (λ e. cc e)))

  pub target-marked : 14 < length (mark_bytes text) → mark_at i w.target ≡ Ok (Some (mark_bytes text))
  target-marked more =
      let mark = (marks_of w.target).rewind in
      let own = own-complete mark (entry_at i mark) text (ap (entry_at i) (sym of.mark) ∙ mark-stays c i text w all new label plan sides of between) more in
      ap₂ (λ r o. given r (λ bytes. unless o (Ok bytes))) own others-none
