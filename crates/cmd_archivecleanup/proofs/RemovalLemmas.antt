-- Removals that are carried out one after another, each behind its line, over a tree that may not tell what it holds.
use Rattle.std.proofs.Common.{◌≡◌, ◌≢◌, ◌∙◌, ◌++◌, ℕ, Bool, true, false, IsTrue, List, [], ◌∷◌, Option, None, Some, inl, inr, refl, sym, ap, subst, append-nil}
use Rattle.std.specs.FinMap.{remove}
use Rattle.cluster_tree.specs.PathValue.{PathValue}
use Rattle.cluster_tree.specs.Contents.{Contents}
use Rattle.cluster_tree.specs.Change.{Removes}
use Rattle.cluster_tree.specs.declared.tree.ChangeCall.{ChangeCall}
use Rattle.cluster_tree.specs.declared.tree.ChangeCall.TheVariants.{Remove}
use Rattle.marked_runs.specs.Runs.{Runs}
use Rattle.marked_runs.proofs.RunLemmas.{made-all, made-part}
use Rattle.acts.specs.Acts.{Act, Do, Done, SinkFailed, WriteFailed, Sunk, Seen, seen, MakesAll, Begins, IsAfterChange, Performs, ends}
use Rattle.acts.proofs.ActSteps.{do_breaks, report_breaks}
use Rattle.acts.proofs.LeadLemmas.{Leads, leads_as, leads_do, leads_report}
use Rattle.run_acts.specs.Causes.{ending_of}
use Rattle.run_acts.specs.Unseen.{PerformsUnseen, Went, taken}
use Rattle.run_acts.specs.declared.cause.Cause.{Cause}
use Rattle.run_acts.specs.declared.cause.Cause.TheVariants as causes
use Rattle.run_acts.proofs.UnseenSteps.{LeadsUnseen, still}
use Rattle.cmd_archivecleanup.specs.Archivecleanup.{AreFiles, removals, telling}
use Rattle.cmd_archivecleanup.specs.Steps.{Breaks, IsOfRemoval, Tells}
use Rattle.cmd_archivecleanup.specs.declared.plan.Removal.{Removal}

makes_all : (p : PathValue) (k l : List ChangeCall) (c d : Contents) → Runs (Removes p ∷ []) k l c d true → MakesAll (Remove p ∷ []) k l
makes_all p k l c d r = let (made, grew, joined) = made-all (Removes p ∷ []) k l c d r in record { made = made; grew = grew; joined = joined }

begins : (p : PathValue) (k l : List ChangeCall) (c d : Contents) (done : Bool) → Runs (Removes p ∷ []) k l c d done → Begins (Remove p ∷ []) k l
begins p k l c d done r = let (made, grew, part) = made-part (Removes p ∷ []) k l c d done r in record { made = made; grew = grew; part = part }

-- ---- what a removal may leave of what the tree is taken to have

record Removed (Seeing : Type 0) (path : PathValue) (c c' : Contents) (k k' : List ChangeCall) : Type 0 where
  contents : Contents
  calls : List ChangeCall
  own : Seeing → (contents ≡ c') × (calls ≡ k')
  makes : MakesAll (Remove path ∷ []) k calls
  after : contents ≡ remove c path

removed : (tells : Bool) (path : PathValue) (c c' d : Contents) (k k' j : List ChangeCall) → (IsTrue tells → (d ≡ c) × (j ≡ k)) → (IsTrue tells → Runs (Removes path ∷ []) k k' c c' true) → Removed (IsTrue tells) path d c' j k'
removed true path c c' d k k' j own ran = record {
  contents = c';
  calls = k';
  own = λ t. (refl, refl);
  makes = subst (λ x. MakesAll (Remove path ∷ []) x k') (sym (own refl).1) (makes_all path k k' c c' (ran refl));
  after = (ran refl).after refl ∙ ap (λ x. remove x path) (sym (own refl).0);
}
removed false path c c' d k k' j own ran = record {
  contents = remove d path;
  calls = j ++ Remove path ∷ [];
  own = λ t. cc;
  makes = record { made = Remove path ∷ []; grew = refl; joined = refl };
  after = refl;
}

record Begun (Seeing : Type 0) (path : PathValue) (c' : Contents) (k k' : List ChangeCall) : Type 0 where
  contents : Contents
  calls : List ChangeCall
  own : Seeing → (contents ≡ c') × (calls ≡ k')
  begins : Begins (Remove path ∷ []) k calls

begun : (tells : Bool) (path : PathValue) (c c' d : Contents) (k k' j : List ChangeCall) (done : Bool) → (IsTrue tells → (d ≡ c) × (j ≡ k)) → (IsTrue tells → Runs (Removes path ∷ []) k k' c c' done) → Begun (IsTrue tells) path c' j k'
begun true path c c' d k k' j done own ran = record {
  contents = c';
  calls = k';
  own = λ t. (refl, refl);
  begins = subst (λ x. Begins (Remove path ∷ []) x k') (sym (own refl).1) (begins path k k' c c' done (ran refl));
}
begun false path c c' d k k' j done own ran = record {
  contents = d;
  calls = j;
  own = λ t. cc;
  begins = record { made = []; grew = sym (append-nil j); part = tt };
}

-- ---- the acts of one removal

module _ {o e : Bool} {all : List Act} {start : Seen} where
  told : (line : Option (List ℕ)) (acts : List Act) (c : Contents) (k : List ChangeCall) (out err err' : Sunk) → Leads IsAfterChange o e all start (telling line acts) (seen c k out err) → Tells e line err err'
      → Leads IsAfterChange o e all start acts (seen c k out err')
  told None acts c k out err err' l same = subst (λ s. Leads IsAfterChange o e all start acts (seen c k out s)) (sym same) l
  told (Some line) acts c k out err err' l puts = leads_report l puts refl

  -- a file was removed
  removed_one : (r : Removal) (rs : List Removal) (c c' : Contents) (k k' : List ChangeCall) (out err err' : Sunk) → Leads IsAfterChange o e all start (removals c (r ∷ rs)) (seen c k out err) → Tells e r.line err err'
      → MakesAll (Remove r.path ∷ []) k k' → c' ≡ remove c r.path → Leads IsAfterChange o e all start (removals c' rs) (seen c' k' out err')
  removed_one r rs c c' k k' out err err' l t makes after =
      leads_as (ap (λ x. removals x rs) (sym after))
      (leads_do (λ ending h. h) (told r.line (Do (Remove r.path ∷ []) (remove c r.path) ∷ removals (remove c r.path) rs) c k out err err' l t) makes after)

  broken_line : (line : Option (List ℕ)) (acts : List Act) (c : Contents) (k : List ChangeCall) (out err err' : Sunk) → Leads IsAfterChange o e all start (telling line acts) (seen c k out err) → Breaks e line err err'
      → Performs o e SinkFailed all start (seen c k out err')
  broken_line None acts c k out err err' l none = absurd none
  broken_line (Some line) acts c k out err err' l b = l.on SinkFailed _ tt (report_breaks b refl refl)

  -- the line of a removal failed
  untold_one : (r : Removal) (rs : List Removal) (c : Contents) (k : List ChangeCall) (out err err' : Sunk) → Leads IsAfterChange o e all start (removals c (r ∷ rs)) (seen c k out err) → Breaks e r.line err err'
      → Performs o e SinkFailed all start (seen c k out err')
  untold_one r rs c k out err err' l b = broken_line r.line (Do (Remove r.path ∷ []) (remove c r.path) ∷ removals (remove c r.path) rs) c k out err err' l b

  -- a removal failed
  unremoved_one : (r : Removal) (rs : List Removal) (c c' : Contents) (k k' : List ChangeCall) (out err err' : Sunk) → Leads IsAfterChange o e all start (removals c (r ∷ rs)) (seen c k out err) → Tells e r.line err err'
      → Begins (Remove r.path ∷ []) k k' → Performs o e WriteFailed all start (seen c' k' out err')
  unremoved_one r rs c c' k k' out err err' l t begins =
      (told r.line (Do (Remove r.path ∷ []) (remove c r.path) ∷ removals (remove c r.path) rs) c k out err err' l t).on WriteFailed _ tt (do_breaks (inl refl) begins)

-- ---- the removals that are left

pub files_next : (c d : Contents) (r : Removal) (rs : List Removal) → d ≡ remove c r.path → AreFiles c (r ∷ rs) → AreFiles d rs
files_next c d r rs is files = subst (λ x. AreFiles x rs) (sym is) files.1

-- the same of the first of those that are left
pub files_from : (c d : Contents) (items : List Removal) (r : Removal) (rs : List Removal) → items ≡ r ∷ rs → d ≡ remove c r.path → AreFiles c items → AreFiles d rs
files_from c d items r rs first is files = files_next c d r rs is (subst (AreFiles c) first files)

-- how a run went whose removal wasn't done
went_so : (cause : Cause) → IsOfRemoval cause → Went cause causes.WriteFault
went_so cause (inl is) = inl (sym is)
went_so cause (inr (path, is)) = inr (path, is, refl)

went_own : {Seeing : Type 0} (cause : Cause) → IsOfRemoval cause → (Seeing → (p : PathValue) → cause ≢ causes.Changed p) → Seeing → causes.WriteFault ≡ cause
went_own cause (inl is) told seeing = sym is
went_own cause (inr (path, is)) told seeing = absurd (told seeing path is)

module _ {tells o e : Bool} {all : Contents → List Act} {start : Seen} where
  pub removed_from : (items : List Removal) (r : Removal) (rs : List Removal) (c c' : Contents) (k k' : List ChangeCall) (out err err' : Sunk) → items ≡ r ∷ rs → LeadsUnseen (IsTrue tells) o e all start (λ x. removals x items) (seen c k out err) → Tells e r.line err err'
      → (IsTrue tells → Runs (Removes r.path ∷ []) k k' c c' true) → LeadsUnseen (IsTrue tells) o e all start (λ x. removals x rs) (seen c' k' out err')
  removed_from items r rs c c' k k' out err err' first l t ran = record {
    from = λ contents calls is.
        let q = l.from contents calls is in
        let next = removed tells r.path c c' q.contents k k' q.calls q.own ran in
        record {
          contents = next.contents;
          calls = next.calls;
          own = next.own;
          leads = removed_one r rs q.contents next.contents q.calls next.calls out err err' (leads_as (ap (removals q.contents) first) q.leads) t next.makes next.after;
        };
  }

  pub untold_from : (items : List Removal) (r : Removal) (rs : List Removal) (c : Contents) (k : List ChangeCall) (out err err' : Sunk) (ended : Cause) → items ≡ r ∷ rs → ended ≡ causes.SinkFault → LeadsUnseen (IsTrue tells) o e all start (λ x. removals x items) (seen c k out err) → Breaks e r.line err err'
      → PerformsUnseen (IsTrue tells) o e ended all start (seen c k out err')
  untold_from items r rs c k out err err' ended first is l b = record {
    from = λ contents calls own.
        let q = l.from contents calls own in
        record {
          after = still q.contents q.calls q.own;
          exact = inl (inr (inr (inl is)));
          performs = subst (λ x. Performs o e (ending_of x) (all contents) (taken contents calls start) (seen q.contents q.calls out err')) (sym is)
              (untold_one r rs q.contents q.calls out err err' (leads_as (ap (removals q.contents) first) q.leads) b);
        };
  }

  pub unremoved_from : (items : List Removal) (r : Removal) (rs : List Removal) (c c' : Contents) (k k' : List ChangeCall) (out err err' : Sunk) (ended : Cause) (done : Bool) → items ≡ r ∷ rs → IsOfRemoval ended → (IsTrue tells → (p : PathValue) → ended ≢ causes.Changed p)
      → LeadsUnseen (IsTrue tells) o e all start (λ x. removals x items) (seen c k out err) → Tells e r.line err err'
      → (IsTrue tells → Runs (Removes r.path ∷ []) k k' c c' done) → PerformsUnseen (IsTrue tells) o e ended all start (seen c' k' out err')
  unremoved_from items r rs c c' k k' out err err' ended done first is never l t ran = record {
    from = λ contents calls own.
        let q = l.from contents calls own in
        let next = begun tells r.path c c' q.contents k k' q.calls done q.own ran in
        record {
          after = record { contents = next.contents; calls = next.calls; how = causes.WriteFault; went = went_so ended is; own = λ t. (next.own t, went_own ended is never t) };
          exact = inl (inr (inl refl));
          performs = unremoved_one r rs q.contents next.contents q.calls next.calls out err err' (leads_as (ap (removals q.contents) first) q.leads) t next.begins;
        };
  }

  -- none is left
  pub all_removed : (items : List Removal) (here : Seen) → items ≡ [] → LeadsUnseen (IsTrue tells) o e all start (λ x. removals x items) here → PerformsUnseen (IsTrue tells) o e causes.Done all start here
  all_removed items here none l = record {
    from = λ contents calls own.
        let q = l.from contents calls own in
        record {
          after = still q.contents q.calls q.own;
          exact = inr refl;
          performs = (leads_as (ap (removals q.contents) none) q.leads).on Done _ tt (ends (inl refl));
        };
  }
