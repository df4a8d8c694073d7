-- What is planned anew, by the mark's own path.
use Rattle.std.proofs.Common.{◌≡◌, ◌∙◌, ◌<◌, ◌∷◌, [], ℤ, Result, length, refl, sym, subst, arith}
use Rattle.std.proofs.lemmas.List.{length-append}
use Rattle.std.specs.Prelude.{codes, IfOk}
use Rattle.cluster_tree.specs.Contents.{Contents}
use Rattle.cluster_tree.specs.Marks.{marks_of}
use Rattle.cluster_tree.specs.PathValue.{PathValue}
use Rattle.clusters.specs.Roots.{path_in}
use Rattle.rewind_core.specs.Fits.{IsSaidPlanned, Plans}
use Rattle.rewind_core.specs.Planned.{planned_of}
use Rattle.rewind_core.specs.declared.outcome.Planned.{Planned}
use Rattle.rewind_survey.specs.declared.fault.RewindFault.{RewindFault}
use Rattle.without_file.specs.Without.{without_file}

own-at : (root : PathValue) → path_in root (codes "pg_rewind.unfinished") ≡ (marks_of root).rewind
unfolding path_in
own-at root = refl

own-deep : (root : PathValue) → 0 < length (marks_of root).rewind.parts
own-deep root = omega (arith, length-append root.parts (codes "pg_rewind.unfinished" ∷ []))

module _ (root mark : PathValue) (is : mark ≡ path_in root (codes "pg_rewind.unfinished")) where
  here : mark ≡ (marks_of root).rewind
  here = is ∙ own-at root

  pub mark-deep : 0 < length mark.parts
  mark-deep = subst (λ (p : PathValue). 0 < length p.parts) (sym here) (own-deep root)

  pub anew-exact : (c : Contents) (source : PathValue) {n m : ℤ} (r : Result Planned RewindFault) → n ≡ m → Plans (without_file c mark) (planned_of (without_file c mark) root source n) r
      → Plans (without_file c (marks_of root).rewind) (planned_of (without_file c (marks_of root).rewind) root source m) r
  anew-exact c source {n} {m} r time plans =
      let P : PathValue → Type 0 = λ p. Plans (without_file c p) (planned_of (without_file c p) root source m) r in
      let Q : ℤ → Type 0 = λ x. Plans (without_file c mark) (planned_of (without_file c mark) root source x) r in
      subst P here (subst Q time plans)

  pub anew-said : (c : Contents) (source : PathValue) (r : Result Planned RewindFault) → IfOk r (IsSaidPlanned (without_file c mark) root source) → IfOk r (IsSaidPlanned (without_file c (marks_of root).rewind) root source)
  anew-said c source r said =
      let P : PathValue → Type 0 = λ p. IfOk r (IsSaidPlanned (without_file c p) root source) in
      subst P here said
