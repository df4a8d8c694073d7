-- Runs, one after another.
use Rattle.std.proofs.Common.{◌≡◌, ◌++◌, ◌∷◌, [], arith, sym, subst, ap, ◌∙◌, inl, inr, Result, Ok, Err, OnOk, OnErr}
use Rattle.cluster_tree.specs.Step.{Step}
use Rattle.cluster_tree.specs.Stops.{stops_after}
use Rattle.cluster_tree.specs.Contents.{Contents}
use Rattle.cluster_tree.specs.Frame.{Reads, Came, state_of, moment_of}
use Rattle.cluster_tree.specs.declared.tree.Tree.{Ghosts}
use Rattle.cluster_tree.specs.Run.{Moment, Run, Course, Calls, Still, Call, MakesBy, Makes, Pends}
use Rattle.cluster_tree.specs.declared.tree.ChangeCall.{ChangeCall}
use Rattle.cluster_tree.specs.declared.tree.TreeFault.{TreeFault}
use Rattle.cluster_tree.specs.declared.tree.TreeFault.TheVariants as fault

-- of states or of moments
module _ {S : Type 0} (By : ChangeCall → S → S → Type 0) where
  pub calls_on : (a b c : S) → Calls By a b → Calls By b c → Calls By a c
  calls_on a b c p Still = p
  calls_on a b c p (Call call q r) = Call call (calls_on a b _ p q) r

  pub calls_same : (a b : S) → b ≡ a → Calls By a b
  calls_same a b e = subst (λ s. Calls By a s) (sym e) Still

  -- what a changing call leaves is made by a run
  pub calls_made : {A : Type 0} (first a b : S) (call : ChangeCall) (result : Result A TreeFault) → Calls By first a → MakesBy By call a b result → Calls By first b
  calls_made first a b call (Ok v) run made = Call call run made
  calls_made first a b call (Err e) run (inl same) = calls_on first a b run (calls_same a b same)
  calls_made first a b call (Err e) run (inr happened) = Call call run happened.1

-- what holds of the moments holds of the states
pub made_of : {A : Type 0} (call : ChangeCall) (a b : Moment) (result : Result A TreeFault) → Pends call a b result → Makes call a.state b.state result
made_of call a b (Ok v) pends = pends.happens
made_of call a b (Err e) (inl same) = inl (ap (λ (m : Moment). m.state) same)
made_of call a b (Err e) (inr occurred) = inr (occurred.0, occurred.1.happens)

-- a change whose want of memory counts as a failure that changed nothing
pub pends_by : {A E : Type 0} (C D : Type 0) (call : ChangeCall) (a b : Moment) (done : Result A E) (result : Result (Unit {0}) TreeFault) → OnOk done ((result ≡ Ok tt) × C) → OnErr done ((result ≡ Err fault.Failed) × D)
    → Step call a.state.contents b.state.contents → OnErr done (b.state.contents ≡ a.state.contents)
    → OnOk done (b.state.calls ≡ a.state.calls ++ call ∷ []) → OnErr done (b.state.calls ≡ a.state.calls)
    → OnOk done (b.stops ≡ stops_after call a.state.contents a.stops) → OnErr done (b.stops ≡ a.stops) → Pends call a b result
pends_by C D call a b (Ok v) result ok err step kept listed unlisted pending still = subst (Pends call a b) (sym ok.0) (record { happens = record { step = step; listed = listed }; stops = pending })
pends_by C D call a b (Err e) result ok err step kept listed unlisted pending still = subst (Pends call a b) (sym err.0) (inl (λ i. record { state = record { contents = kept i; calls = unlisted i }; stops = still i }))

-- and of nodes that stand for the contents
pub kept_by : {A E X : Type 0} (f : X → Contents) (x y : X) (done : Result A E) → OnErr done (y ≡ x) → OnErr done (f y ≡ f x)
kept_by f x y (Ok v) same = tt
kept_by f x y (Err e) same = ap f same

-- all changes from the one to the other
pub run_of : {F : Type 0} (t : Ghosts F) (a b : F) → Came t a b → Run (state_of t a) (state_of t b)
run_of t a b p = p.run _ Still

-- and what a stop might have left
pub course_of : {F : Type 0} (t : Ghosts F) (a b : F) → Came t a b → Course (moment_of t a) (moment_of t b)
course_of t a b p = p.course _ Still

pub reads_on : {F : Type 0} (t : Ghosts F) (a b c : F) → Reads t a b → Reads t b c → Reads t a c
reads_on t a b c p q = record { same = q.same ∙ p.same; uncalled = q.uncalled ∙ p.uncalled; unstopped = q.unstopped ∙ p.unstopped; reads = omega (arith, p.reads, q.reads); changes = q.changes ∙ p.changes }

pub came_on : {F : Type 0} (t : Ghosts F) (a b c : F) → Came t a b → Came t b c → Came t a c
came_on t a b c p q = record {
  run = λ first r. q.run first (p.run first r);
  course = λ first r. q.course first (p.course first r);
  reads = omega (arith, p.reads, q.reads);
  changes = omega (arith, p.changes, q.changes);
}

pub came_read : {F : Type 0} (t : Ghosts F) (a b : F) → Reads t a b → Came t a b
came_read t a b reads = record {
  run = λ first r. subst (Run first) (λ i. record { contents = sym reads.same i; calls = sym reads.uncalled i }) r;
  course = λ first r. subst (Course first) (λ i. record { state = record { contents = sym reads.same i; calls = sym reads.uncalled i }; stops = sym reads.unstopped i }) r;
  reads = reads.reads;
  changes = omega (arith, reads.changes);
}
