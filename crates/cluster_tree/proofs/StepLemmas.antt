-- A call that was carried out whole is a step, and a step leaves every other path.
use Rattle.std.proofs.Common.{◌≡◌, ◌≢◌, ◌≤◌, ap, sym, ◌∙◌, inl, ℕ, List, take, true, false, cond, nat_lt, length, Option, Some, None, refl, subst, arith, rules, inr}
use Rattle.std.proofs.lemmas.Grind.{common_steps}
use Rattle.cluster_tree.specs.PathValue.{PathValue}
use Rattle.cluster_tree.specs.Contents.{Contents, Entry, entry_at, FileEntry, FolderEntry, LinkEntry}
use Rattle.layout.specs.Splice.{splice}
use Rattle.cluster_tree.specs.Tree.{written, write_refusal, shortened, cut_refusal, refusal_past, file_of, bytes_in, bytes_at}
use Rattle.cluster_tree.specs.Step.{TornBytes, MayTear, CutBytes, MayCut, Step}
use Rattle.cluster_tree.specs.Laws.{changed_path}
use Rattle.cluster_tree.proofs.ContentsLemmas.{entry-put_other, entry-removed_other}
use Rattle.cluster_tree.specs.declared.tree.ChangeCall.{ChangeCall}
use Rattle.cluster_tree.specs.declared.tree.ChangeCall.TheVariants as call
use Rattle.cluster_tree.specs.declared.tree.TreeFault.TheVariants as fault

-- bytes that were written whole are torn ones
spliced-torn : (old bytes : List ℕ) (at : ℕ) → at ≤ length old → TornBytes at (length bytes) old (splice old at bytes)
unfolding splice
spliced-torn old bytes at l = record {
  before = grind (arith, common_steps);
  after = grind (arith, common_steps);
  no_shorter = grind (arith, common_steps);
  no_longer = grind (arith, common_steps);
}

not_past : (n at : ℕ) → nat_lt n at ≡ false → at ≤ n
not_past n at e = grind (arith, rules, e)

some_none : {A : Type 0} {x : A} {P : Type 0} → Some x ≡ None → P
some_none e = absurd (subst (λ o. elim o as (λ _. Type 0) [ None ↦ ⊥ | Some _ ↦ Unit {0} ]) e tt)

within : (o : Option Entry) (at : ℕ) → refusal_past (file_of o) at ≡ None → at ≤ length (bytes_in o)
within None at e = some_none e
within (Some (FolderEntry b)) at e = some_none e
within (Some (FileEntry bytes)) at e = elim (nat_lt (length bytes) at) as (λ b. nat_lt (length bytes) at ≡ b → cond b (Some fault.PastEnd) None ≡ None → at ≤ length bytes) [ true ↦ λ _ n. some_none n | false ↦ λ f _. not_past _ _ f ] refl e
within (Some LinkEntry) at e = some_none e

-- a write that was carried out whole
pub written-step : (c d : Contents) (path : PathValue) (at : ℕ) (bytes : List ℕ) → write_refusal c path at ≡ None → d ≡ written c path at bytes → MayTear path at (length bytes) c d
written-step c d path at bytes none is = inr (record {
  torn = splice (bytes_at c path) at bytes;
  unrefused = none;
  range = spliced-torn _ bytes at (within (entry_at c path) at none);
  is = is;
})

cut-bytes : (old : List ℕ) (size : ℕ) → size ≤ length old → CutBytes size old (take size old)
cut-bytes old size l = record { no_shorter = grind (arith, common_steps); front = grind (arith, common_steps) }

-- a cut that was carried out whole
pub shortened-step : (c d : Contents) (path : PathValue) (size : ℕ) → cut_refusal c path size ≡ None → d ≡ shortened c path size → MayCut path size c d
shortened-step c d path size none is = inr (record {
  cut = take size (bytes_at c path);
  unrefused = none;
  range = cut-bytes _ size (within (entry_at c path) size none);
  is = is;
})

-- whatever a call answered, every other path holds what it held
pub step-elsewhere : (ch : ChangeCall) (c d : Contents) (other : PathValue) → Step ch c d → changed_path ch ≢ Some other → entry_at d other ≡ entry_at c other
step-elsewhere (call.Write path at n) c d other (inl same) apart = ap (λ k. entry_at k other) same
step-elsewhere (call.Write path at n) c d other (inr torn) apart = ap (λ k. entry_at k other) torn.is ∙ entry-put_other c path other _ (λ e. apart (ap Some (sym e)))
step-elsewhere (call.Cut path size) c d other (inl same) apart = ap (λ k. entry_at k other) same
step-elsewhere (call.Cut path size) c d other (inr cut) apart = ap (λ k. entry_at k other) cut.is ∙ entry-put_other c path other _ (λ e. apart (ap Some (sym e)))
step-elsewhere (call.MakeFile path) c d other (inl same) apart = ap (λ k. entry_at k other) same
step-elsewhere (call.MakeFile path) c d other (inr made) apart = ap (λ k. entry_at k other) made.1 ∙ entry-put_other c path other _ (λ e. apart (ap Some (sym e)))
step-elsewhere (call.MakeFolder path) c d other (inl same) apart = ap (λ k. entry_at k other) same
step-elsewhere (call.MakeFolder path) c d other (inr made) apart = ap (λ k. entry_at k other) made.1 ∙ entry-put_other c path other _ (λ e. apart (ap Some (sym e)))
step-elsewhere (call.Remove path) c d other (inl same) apart = ap (λ k. entry_at k other) same
step-elsewhere (call.Remove path) c d other (inr gone) apart = ap (λ k. entry_at k other) gone.1 ∙ entry-removed_other c path other (λ e. apart (ap Some (sym e)))
step-elsewhere call.Sync c d other same apart = ap (λ k. entry_at k other) same
