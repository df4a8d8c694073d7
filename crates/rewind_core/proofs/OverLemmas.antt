-- What is changed over a mark that isn't whole is what is changed where none stands, but for the mark's first call.
use Rattle.std.proofs.Common.{◌≡◌, ◌≢◌, inl, inr, map, ℕ, Bool, true, false, cond, ◌||◌, ◌+◌, ◌≤◌, nat_lt, List, [], ◌∷◌, ◌++◌, length, take, drop, Option, None, Some, refl, ap, ap₂, sym, subst, ◌∙◌, true≢false, arith, rules}
use Rattle.std.specs.FinMap.{get, insert, remove}
use Rattle.std.specs.List.{list_any}
use Rattle.cluster_tree.specs.Change.{Change, Cuts, MakesFile, Syncs, Writes, all_changed, call_of, first_refusal, is_on, or_next}
use Rattle.cluster_tree.specs.Contents.{Contents, Entry, FileEntry, FolderEntry, LinkEntry, entry_at, is_file, or_root}
use Rattle.cluster_tree.specs.PathValue.{PathValue}
use Rattle.cluster_tree.specs.PathOrder.{path_eq}
use Rattle.cluster_tree.specs.Stops.{IsImage}
use Rattle.cluster_tree.specs.Tree.{bytes_at, bytes_in, file_of, make_refusal, refusal_past, shortened}
use Rattle.cluster_tree.specs.declared.tree.TreeFault.{TreeFault}
use Rattle.cluster_tree.specs.declared.tree.TreeFault.TheVariants as fault
use Rattle.cluster_tree.proofs.ContentsLemmas.{entry-removed_other, get-put, get-put_other, put-removed, same-contents, shortened-all}
use Rattle.cluster_tree.proofs.OrderLemmas.{path_eq-own, path_eq-same}
use Rattle.gated_marks.specs.Changes.{gate_opened, text_laid}
use Rattle.gated_marks.specs.Gates.{IsComplete}
use Rattle.gated_marks.specs.Left.{with_mark}
use Rattle.marked_runs.specs.Runs.{ended, writes_at}
use Rattle.rewind_writes.specs.Plan.{IsResumable, body_changes, closing_changes, mark_bytes, mark_gate, mark_head, plan_changes}
use Rattle.rewind_writes.specs.Steps.{FindAll, Finds, changes_of, opened, part_of, steps_changes}
use Rattle.rewind_writes.specs.declared.plan.Plan.{Plan}
use Rattle.rewind_writes.specs.declared.step.Step.{Step}
use Rattle.rewind_writes.specs.declared.step.Step.TheVariants.{Folder, Whole, Cut, Range, Remove}

either_false : (a b : Bool) → (a || b) ≡ false → (a ≡ false) × (b ≡ false)
either_false true b e = absurd (true≢false e)
either_false false b e = (refl, e)

any_both : (p : Change → Bool) (xs ys : List Change) → list_any p (xs ++ ys) ≡ false → (list_any p xs ≡ false) × (list_any p ys ≡ false)
any_both p [] ys e = (refl, e)
any_both p (x ∷ xs) ys e =
    let two = either_false (p x) (list_any p (xs ++ ys)) e in
    let more = any_both p xs ys two.1 in
    (ap (λ b. b || list_any p xs) two.0 ∙ more.0, more.1)

-- a file that is put as it stands changes nothing
held_at : (parts : List (List ℕ)) (o : Option Entry) → is_file (or_root parts o) ≡ true → o ≡ Some (FileEntry (bytes_in (or_root parts o)))
held_at parts (Some (FileEntry bytes)) file = refl
held_at parts (Some (FolderEntry bad)) file = absurd (true≢false (sym file))
held_at parts (Some LinkEntry) file = absurd (true≢false (sym file))
held_at [] None file = absurd (true≢false (sym file))
held_at (part ∷ parts) None file = absurd (true≢false (sym file))

put_there : (c : Contents) (path q : PathValue) (b : Bool) → path_eq q path ≡ b → get c path ≡ Some (FileEntry (bytes_at c path)) → get (insert c path (FileEntry (bytes_at c path))) q ≡ get c q
put_there c path q true e held = let same : q ≡ path = path_eq-same q path e in ap (get (insert c path (FileEntry (bytes_at c path)))) same ∙ get-put c path (FileEntry (bytes_at c path)) ∙ sym held ∙ ap (get c) (sym same)
put_there c path q false e held = get-put_other c path q (FileEntry (bytes_at c path)) (λ is. true≢false (sym (path_eq-own path) ∙ ap (λ x. path_eq x path) (sym is) ∙ e))

put-file : (c : Contents) (path : PathValue) → is_file (entry_at c path) ≡ true → insert c path (FileEntry (bytes_at c path)) ≡ c
put-file c path there = same-contents _ _ (λ q. put_there c path q (path_eq q path) refl (held_at path.parts (get c path) there))

-- contents, and those without the mark that stands there
module _ (c : Contents) (mark : PathValue) (gone : entry_at (remove c mark) mark ≡ None) where
  elsewhere : (path : PathValue) → path ≢ mark → entry_at c path ≡ entry_at (remove c mark) path
  elsewhere path other = sym (entry-removed_other c mark path other)

  read_other : (path : PathValue) → is_file (entry_at (remove c mark) path) ≡ true → path ≢ mark
  read_other path file is = true≢false (sym file ∙ ap (λ p. is_file (entry_at (remove c mark) p)) is ∙ ap is_file gone)

  opened_other : (to : PathValue) (b : Bool) → is_on mark (cond b (Cuts to 0) (MakesFile to)) ≡ false → to ≢ mark
  opened_other to true off is = true≢false (sym (path_eq-own mark) ∙ ap (path_eq mark) (sym is) ∙ off)
  opened_other to false off is = true≢false (sym (path_eq-own mark) ∙ ap (path_eq mark) (sym is) ∙ off)

  part_same : (from : PathValue) (at size : ℕ) → from ≢ mark → part_of c from at size ≡ part_of (remove c mark) from at size
  part_same from at size other = ap (λ o. take size (drop at (bytes_in o))) (elsewhere from other)

  opened_same : (to : PathValue) → to ≢ mark → opened c to ≡ opened (remove c mark) to
  opened_same to other = ap (λ o. cond (is_file o) (Cuts to 0) (MakesFile to)) (elsewhere to other)

  changes_same : (xs : List Change) (step : Step) → Finds (remove c mark) xs step → list_any (is_on mark) (changes_of (remove c mark) step) ≡ false → changes_of c step ≡ changes_of (remove c mark) step
  changes_same xs (Folder path) found off = refl
  changes_same xs (Whole from to size) found off =
      ap₂ (λ one more. one ∷ writes_at to 0 more)
      (opened_same to (opened_other to (is_file (entry_at (remove c mark) to)) (either_false (is_on mark (opened (remove c mark) to)) (list_any (is_on mark) (writes_at to 0 (part_of (remove c mark) from 0 size))) off).0))
      (part_same from 0 size (read_other from found.file))
  changes_same xs (Cut path size) found off = refl
  changes_same xs (Range from to at size) found off = ap (writes_at to at) (part_same from at size (read_other from found.file))
  changes_same xs (Remove path) found off = refl

  steps_same : (xs : List Change) (steps : List Step) → FindAll (remove c mark) xs steps → list_any (is_on mark) (steps_changes (remove c mark) steps) ≡ false → steps_changes c steps ≡ steps_changes (remove c mark) steps
  steps_same xs [] found off = refl
  steps_same xs (step ∷ steps) found off =
      let two = any_both (is_on mark) (changes_of (remove c mark) step) (steps_changes (remove c mark) steps) off in
      ap₂ (λ one more. one ++ more) (changes_same xs step found.0 two.0) (steps_same xs steps found.1 two.1)

-- the calls that lay the mark, behind those that empty it, and all behind them
abbrev laid : PathValue → (text : List ℕ) → (first body : List Change) → List Change
laid mark text first body =
    ((first ++ Writes mark 0 mark_head ∷ Syncs ∷ []) ++ text_laid mark (length mark_head) text ++ gate_opened mark mark_gate) ++ body ++ ended mark

unlisted : (a b : Option TreeFault) → or_next a b ≡ None → b ≡ None
unlisted None b e = e
unlisted (Some f) b e = cc e

uncut : (o : Option Entry) → is_file o ≡ true → refusal_past (file_of o) 0 ≡ None
uncut (Some (FileEntry bytes)) e = ap (λ b. cond b (Some fault.PastEnd) None) (short (length bytes))
  where
    short : (n : ℕ) → nat_lt n 0 ≡ false
    short n = grind (arith, rules)
uncut None e = absurd (true≢false (sym e))
uncut (Some (FolderEntry bad)) e = absurd (true≢false (sym e))
uncut (Some LinkEntry) e = absurd (true≢false (sym e))

module _ (c : Contents) (plan : Plan) (text : List ℕ) (there : is_file (entry_at c plan.mark) ≡ true) (gone : entry_at (remove c plan.mark) plan.mark ≡ None)
    (off : list_any (is_on plan.mark) (body_changes (remove c plan.mark) plan) ≡ false) (found : FindAll (remove c plan.mark) (plan_changes (remove c plan.mark) text plan) plan.steps.items) where
  pub body-same : body_changes c plan ≡ body_changes (remove c plan.mark) plan
  body-same = ap (λ xs. xs ++ closing_changes plan.label plan.control)
      (steps_same c plan.mark gone _ plan.steps.items found (any_both (is_on plan.mark) (steps_changes (remove c plan.mark) plan.steps.items) (closing_changes plan.label plan.control) off).0)

  changes_here : plan_changes c text plan ≡ laid plan.mark text (Cuts plan.mark 0 ∷ Syncs ∷ []) (body_changes (remove c plan.mark) plan)
  changes_here = ap₂ (laid plan.mark text) (ap (λ b. cond b (Cuts plan.mark 0 ∷ Syncs ∷ []) (MakesFile plan.mark ∷ [])) there) body-same

  changes_gone : plan_changes (remove c plan.mark) text plan ≡ laid plan.mark text (MakesFile plan.mark ∷ []) (body_changes (remove c plan.mark) plan)
  changes_gone = ap (λ o. laid plan.mark text (cond (is_file o) (Cuts plan.mark 0 ∷ Syncs ∷ []) (MakesFile plan.mark ∷ [])) (body_changes (remove c plan.mark) plan)) gone

  emptied_same : shortened c plan.mark 0 ≡ insert (remove c plan.mark) plan.mark (FileEntry [])
  emptied_same = shortened-all c plan.mark ∙ sym (put-removed c plan.mark (FileEntry []))

  -- both leave the same
  pub end-same : all_changed c (plan_changes c text plan) ≡ all_changed (remove c plan.mark) (plan_changes (remove c plan.mark) text plan)
  end-same = ap (all_changed c) changes_here
      ∙ ap (λ d. all_changed d (laid plan.mark text [] (body_changes (remove c plan.mark) plan))) emptied_same
      ∙ sym (ap (all_changed (remove c plan.mark)) changes_gone)

  -- and where none of the one is refused, none of the other is
  pub unrefused-same : first_refusal (remove c plan.mark) (plan_changes (remove c plan.mark) text plan) ≡ None → first_refusal c (plan_changes c text plan) ≡ None
  unrefused-same none =
      ap (first_refusal c) changes_here
      ∙ ap (λ a. or_next a (first_refusal (shortened c plan.mark 0) (laid plan.mark text [] (body_changes (remove c plan.mark) plan)))) (uncut (entry_at c plan.mark) there)
      ∙ ap (λ d. first_refusal d (laid plan.mark text [] (body_changes (remove c plan.mark) plan))) emptied_same
      ∙ unlisted (make_refusal (remove c plan.mark) plan.mark) _ (sym (ap (first_refusal (remove c plan.mark)) changes_gone) ∙ none)

  pub unmarked-same : list_any (is_on plan.mark) (body_changes c plan) ≡ false
  unmarked-same = ap (list_any (is_on plan.mark)) body-same ∙ off

  on_same : (from : PathValue) → list_any (is_on from) (plan_changes (remove c plan.mark) text plan) ≡ false → list_any (is_on from) (plan_changes c text plan) ≡ false
  on_same from none = ap (list_any (is_on from)) changes_here ∙ sym (ap (list_any (is_on from)) changes_gone) ∙ none

  finds_same : (step : Step) → Finds (remove c plan.mark) (plan_changes (remove c plan.mark) text plan) step → Finds c (plan_changes c text plan) step
  finds_same (Folder path) f = f
  finds_same (Whole from to size) f =
      let same = elsewhere c plan.mark gone from (read_other c plan.mark gone from f.file) in
      record { file = ap is_file same ∙ f.file; bytes = subst (λ o. 0 + size ≤ length (bytes_in o)) (sym same) f.bytes; kept = on_same from f.kept }
  finds_same (Cut path size) f = f
  finds_same (Range from to at size) f =
      let same = elsewhere c plan.mark gone from (read_other c plan.mark gone from f.file) in
      record { file = ap is_file same ∙ f.file; bytes = subst (λ o. at + size ≤ length (bytes_in o)) (sym same) f.bytes; kept = on_same from f.kept }
  finds_same (Remove path) f = f

  find_each : (steps : List Step) → FindAll (remove c plan.mark) (plan_changes (remove c plan.mark) text plan) steps → FindAll c (plan_changes c text plan) steps
  find_each [] f = tt
  find_each (step ∷ steps) f = (finds_same step f.0, find_each steps f.1)

  pub found-same : FindAll c (plan_changes c text plan) plan.steps.items
  found-same = find_each plan.steps.items found

  -- the file at the mark is what these contents have more
  stands : c ≡ with_mark (remove c plan.mark) plan.mark (bytes_at c plan.mark)
  stands = sym (put-removed c plan.mark (FileEntry (bytes_at c plan.mark)) ∙ put-file c plan.mark there)

  marked_same : (bytes : List ℕ) → with_mark c plan.mark bytes ≡ with_mark (remove c plan.mark) plan.mark bytes
  marked_same bytes = sym (put-removed c plan.mark (FileEntry bytes))

  -- a stop leaves of both the same, where that file isn't whole
  pub resumable-same : (IsComplete mark_head mark_gate (bytes_at c plan.mark) → ⊥) → (i : Contents) → IsResumable c text plan i → IsResumable (remove c plan.mark) text plan i
  resumable-same shut i (inl same) = inr (inl (bytes_at c plan.mark, same ∙ stands, shut))
  resumable-same shut i (inr (inl (bytes, is, half))) = inr (inl (bytes, is ∙ marked_same bytes, half))
  resumable-same shut i (inr (inr (inl under))) = inr (inr (inl (record {
    holds = under.holds;
    image = subst (λ xs. IsImage (with_mark (remove c plan.mark) plan.mark (mark_bytes text)) (map call_of xs) i) body-same (subst (λ d. IsImage d (map call_of (body_changes c plan)) i) (marked_same (mark_bytes text)) under.image);
  })))
  resumable-same shut i (inr (inr (inr done))) = inr (inr (inr (done ∙ end-same)))
