-- What a stop may leave of a rewind that is done again.
use Rattle.std.proofs.Common.{◌≡◌, ◌≢◌, ◌⊎◌, Bool, true, false, IsTrue, List, [], ◌∷◌, ◌++◌, is_some, Option, None, Some, Result, Ok, Err, OnOk, inl, inr, ⊎_elim, refl, ap, sym, ◌∙◌, subst}
use Rattle.std.specs.FinMap.{remove}
use Rattle.cluster_tree.specs.Change.{Change, Removes, Syncs, all_changed, first_refusal, or_next, refusal_of}
use Rattle.cluster_tree.specs.Contents.{Contents, or_root}
use Rattle.cluster_tree.specs.Frame.{Came, moment_of}
use Rattle.cluster_tree.specs.PathValue.{PathValue}
use Rattle.cluster_tree.specs.Run.{Course, Moment}
use Rattle.cluster_tree.specs.Stops.{LeavesOnly}
use Rattle.cluster_tree.specs.declared.tree.Tree.{Ghosts}
use Rattle.cluster_tree.specs.declared.tree.TreeFault.{TreeFault}
use Rattle.cluster_tree.proofs.ChangeLemmas.{changed-in_turn}
use Rattle.cluster_tree.proofs.Images.{HoldsSince, holds_first, leaves_only}
use Rattle.cluster_tree.proofs.RunLemmas.{course_of}
use Rattle.marked_runs.specs.Moments.{StandsSynced}
use Rattle.marked_runs.specs.Runs.{Runs, ended, is_done}
use Rattle.marked_runs.proofs.CarriedLemmas.{both_unrefused}
use Rattle.marked_runs.proofs.StopLemmas.{holds_runs, leaves_on, leaves_weaker}
use Rattle.rewind_writes.specs.Plan.{body_changes}
use Rattle.rewind_writes.specs.declared.plan.Plan.{Plan}
use Rattle.rewind_writes.proofs.StepLemmas.{find-both}
use Rattle.resumed_laws.specs.Between.{IsBetween}
use Rattle.resumed_laws.specs.Resumed.{resumed_body, resumed_changes, resumed_closing, resumed_steps}
use Rattle.resumed_laws.proofs.EndLemmas.{end-leaves}
use Rattle.resumed_laws.proofs.ResumeLemmas.{plan-finds, plan-same}
use Rattle.resumed_laws.proofs.RunLemmas.{path-stays, resumes-between}
use Rattle.resumed_laws.proofs.SyncLemmas.{end-synced}
use Rattle.resumed_writes.specs.Again.{AreReadable, IsOnWayOrFinished, IsResumable, StopsSynced, SyncsAgain, TakesBodyAgain, TakesSynced, finished_of}
use Rattle.resumed_writes.specs.Tried.{Tries}
use Rattle.resumed_writes.specs.declared.faults.StoredPerformFault.{StoredPerformFault}
use Rattle.resumed_writes.specs.declared.faults.StoredPerformFault.TheVariants as stored
use Rattle.resumed_writes.proofs.TriedLemmas.{tried-front, tried-same, tried-then}

-- ---- all changes, in their parts

pub synced-then : {F : Type 0} (tree : Ghosts F) (plan : Plan) (a b c : F) (u : Unit {0}) (r : Result (Unit {0}) StoredPerformFault) → TakesBodyAgain tree plan.steps.items plan.label plan.control a b (Ok u) → Tries tree (ended plan.mark) b c r → TakesSynced tree plan a c r
synced-then tree plan a b c u r one other found = tried-then tree (resumed_body (tree.contents a) plan) (ended plan.mark) a b c u r (one found) other

pub synced-broken : {F : Type 0} (tree : Ghosts F) (plan : Plan) (a b : F) (e : StoredPerformFault) → TakesBodyAgain tree plan.steps.items plan.label plan.control a b (Err e) → TakesSynced tree plan a b (Err e)
synced-broken tree plan a b e one found = tried-front tree (resumed_body (tree.contents a) plan) (ended plan.mark) a b e (one found)

pub all-then : {F : Type 0} (tree : Ghosts F) (plan : Plan) (a b c : F) (u : Unit {0}) (r : Result (Unit {0}) StoredPerformFault) → Tries tree (Syncs ∷ []) a b (Ok u) → TakesSynced tree plan b c r → AreReadable (tree.contents a) plan.steps.items → Tries tree (resumed_changes (tree.contents a) plan) a c r
all-then tree plan a b c u r one other found told =
    let same : tree.contents b ≡ tree.contents a = (one told).runs.after refl in
    let rest = resumed_body (tree.contents a) plan ++ ended plan.mark in
    tried-then tree (Syncs ∷ []) rest a b c u r one
    (tried-same tree (resumed_body (tree.contents b) plan ++ ended plan.mark) rest b c r (λ _. ap (λ d. resumed_body d plan ++ ended plan.mark) same) (other (subst (λ d. AreReadable d plan.steps.items) (sym same) found))) told

pub all-broken : {F : Type 0} (tree : Ghosts F) (plan : Plan) (a b : F) (e : StoredPerformFault) → Tries tree (Syncs ∷ []) a b (Err e) → AreReadable (tree.contents a) plan.steps.items → Tries tree (resumed_changes (tree.contents a) plan) a b (Err e)
all-broken tree plan a b e one found = tried-front tree (Syncs ∷ []) (resumed_body (tree.contents a) plan ++ ended plan.mark) a b e one

-- what nothing refuses isn't refused
first-none : (o p : Option TreeFault) → or_next o p ≡ None → o ≡ None
first-none None p e = refl
first-none (Some f) p e = absurd (cc e)

pub never-differs : {F : Type 0} (tree : Ghosts F) (xs : List Change) (a b : F) (r : Result (Unit {0}) StoredPerformFault) → Tries tree xs a b r → IsTrue tree.tells → first_refusal (tree.contents a) xs ≡ None → (path : PathValue) → r ≢ Err (stored.TargetDiffers path)
never-differs tree xs a b r tries told none path h =
    let at = (tries told).differs path h in
    let rest = (both_unrefused (tree.contents a) at.before (at.change ∷ at.rest) (ap (first_refusal (tree.contents a)) (sym at.split) ∙ none)).1 in
    at.refused (first-none (refusal_of (tree.contents b) at.change) _ (ap (λ d. first_refusal d (at.change ∷ at.rest)) (at.ran.after refl) ∙ rest))

-- ---- from moment to moment

module _ (found c : Contents) (plan : Plan) where
  abbrev Between : Contents → Type 0
  Between = IsBetween c plan

  abbrev OnWay : Contents → Type 0
  OnWay = IsOnWayOrFinished found c plan

  -- between start and end the mark stands
  on-way : (m : Moment) → IsResumable found c plan m → (d : Contents) → Between d → OnWay d
  on-way m may d between = inl (between, ap (λ o. is_some (or_root plan.mark.parts o)) (path-stays found c plan may.sound d between plan.mark may.apart).0 ∙ may.marked)

  -- a sync first
  sync-holds : (a b : Moment) (done : Bool) → IsResumable found c plan a → Course a b → Runs (Syncs ∷ []) a.state.calls b.state.calls a.state.contents b.state.contents done → HoldsSince Between Between a b
  sync-holds a b done may course ran =
      holds_runs Between Between a a b (Syncs ∷ []) done (holds_first Between Between a may.now may.left) (λ d q. q) course ran ((λ x y q step. subst Between (sym step) q), tt)

  sync-leaves : (a b : Moment) (done : Bool) → IsResumable found c plan a → Course a b → Runs (Syncs ∷ []) a.state.calls b.state.calls a.state.contents b.state.contents done → LeavesOnly OnWay a.stops b.stops
  sync-leaves a b done may course ran = leaves_weaker Between OnWay a.stops b.stops (on-way a may) (leaves_only Between Between a b (sync-holds a b done may course ran) (λ d q. q))

  sync-resumable : (a b : Moment) (done : Bool) → IsResumable found c plan a → Course a b → Runs (Syncs ∷ []) a.state.calls b.state.calls a.state.contents b.state.contents done → IsResumable found c plan b
  sync-resumable a b done may course ran =
      let h = sync-holds a b done may course ran in
      record { sound = may.sound; marked = may.marked; apart = may.apart; unrefused = may.unrefused; now = h.now; left = h.left }

  readable : (m : Moment) → IsResumable found c plan m → AreReadable m.state.contents plan.steps.items
  readable m may =
      let i = m.state.contents in
      let first = resumed_steps i plan.steps.items in
      (find-both i first (resumed_closing (all_changed i first) plan.label plan.control) plan.steps.items (plan-finds found c i plan may.sound may.now)).0

  -- what is left once the mark is gone
  finished-same : (a : Moment) (e : Contents) → IsResumable found c plan a → e ≡ all_changed a.state.contents (resumed_body a.state.contents plan) → all_changed e (ended plan.mark) ≡ finished_of found c plan
  finished-same a e may is =
      ap (λ d. all_changed d (ended plan.mark)) (is ∙ plan-same found c a.state.contents plan may.sound may.now) ∙ sym (changed-in_turn c (body_changes found plan) (ended plan.mark))

  body-between : (a b : Moment) (done : Bool) → IsResumable found c plan a → StandsSynced a.state.contents a → Course a b → Runs (resumed_body a.state.contents plan) a.state.calls b.state.calls a.state.contents b.state.contents done
      → Between b.state.contents × LeavesOnly Between a.stops b.stops
  body-between a b done may synced course ran = resumes-between found c plan may.sound a.state.contents a b done may.now synced course ran

  end-on-way : (a b e : Moment) (done : Bool) → IsResumable found c plan a → StandsSynced a.state.contents a → Course a b → Course b e → Runs (resumed_body a.state.contents plan) a.state.calls b.state.calls a.state.contents b.state.contents true
      → Runs (ended plan.mark) b.state.calls e.state.calls b.state.contents e.state.contents done → LeavesOnly OnWay a.stops e.stops
  end-on-way a b e done may synced one two ran last =
      let body = body-between a b true may synced one ran in
      let gone = end-leaves Between plan.mark b body.0 (λ d left. body.1.each d (inl left)) e done two last in
      leaves_on OnWay a b e one two (leaves_weaker Between OnWay a.stops b.stops (on-way a may) body.1)
      (leaves_weaker (λ d. Between d ⊎ (d ≡ remove b.state.contents plan.mark)) OnWay b.stops e.stops (λ d. ⊎_elim (on-way a may d) (λ is. inr (is ∙ finished-same a b.state.contents may (ran.after refl)))) gone)

  end-synced-at : (a b e : Moment) → IsResumable found c plan a → Course b e → Runs (resumed_body a.state.contents plan) a.state.calls b.state.calls a.state.contents b.state.contents true
      → Runs (ended plan.mark) b.state.calls e.state.calls b.state.contents e.state.contents true → StandsSynced (finished_of found c plan) e
  end-synced-at a b e may course ran last =
      subst (λ d. StandsSynced d e) (finished-same a b.state.contents may (ran.after refl)) (end-synced (Syncs ∷ Removes plan.mark ∷ []) b e course last)

-- ---- of a tree

pub stops-broken : {F : Type 0} (tree : Ghosts F) (plan : Plan) (a b : F) (e : StoredPerformFault) → TakesBodyAgain tree plan.steps.items plan.label plan.control a b (Err e) → Came tree a b → StopsSynced tree plan a b
stops-broken tree plan a b e takes came told found c may synced =
    let ran = (takes (readable found c plan (moment_of tree a) may) told).runs in
    leaves_weaker (IsBetween c plan) (IsOnWayOrFinished found c plan) (tree.stops a) (tree.stops b) (on-way found c plan (moment_of tree a) may)
    (body-between found c plan (moment_of tree a) (moment_of tree b) false may synced (course_of tree a b came) ran).1

pub stops-ended : {F : Type 0} (tree : Ghosts F) (plan : Plan) (a b d : F) (u : Unit {0}) (r : Result (Unit {0}) StoredPerformFault) → TakesBodyAgain tree plan.steps.items plan.label plan.control a b (Ok u) → Tries tree (ended plan.mark) b d r → Came tree a b → Came tree b d → StopsSynced tree plan a d
stops-ended tree plan a b d u r takes ends came more told found c may synced =
    end-on-way found c plan (moment_of tree a) (moment_of tree b) (moment_of tree d) (is_done r) may synced (course_of tree a b came) (course_of tree b d more)
    (takes (readable found c plan (moment_of tree a) may) told).runs (ends told).runs

pub syncs-ended : {F : Type 0} (tree : Ghosts F) (plan : Plan) (a b d : F) (u : Unit {0}) (r : Result (Unit {0}) StoredPerformFault) → TakesBodyAgain tree plan.steps.items plan.label plan.control a b (Ok u) → Tries tree (ended plan.mark) b d r → Came tree b d → SyncsAgain tree plan a d r
syncs-ended tree plan a b d u (Ok v) takes ends more told found c may =
    end-synced-at found c plan (moment_of tree a) (moment_of tree b) (moment_of tree d) may (course_of tree b d more) (takes (readable found c plan (moment_of tree a) may) told).runs (ends told).runs
syncs-ended tree plan a b d u (Err e) takes ends more told found c may = tt

abbrev pub StopsAgain : {F : Type 0} → Ghosts F → Plan → F → F → Type 0
StopsAgain tree plan old new = IsTrue tree.tells → (found c : Contents) → IsResumable found c plan (moment_of tree old) → LeavesOnly (IsOnWayOrFinished found c plan) (tree.stops old) (tree.stops new)

pub stored-broken : {F : Type 0} (tree : Ghosts F) (plan : Plan) (a b : F) (e : StoredPerformFault) → Tries tree (Syncs ∷ []) a b (Err e) → Came tree a b → StopsAgain tree plan a b
stored-broken tree plan a b e one came told found c may = sync-leaves found c plan (moment_of tree a) (moment_of tree b) false may (course_of tree a b came) (one told).runs

pub stored-stops : {F : Type 0} (tree : Ghosts F) (plan : Plan) (a b d : F) (u : Unit {0}) → Tries tree (Syncs ∷ []) a b (Ok u) → Came tree a b → Came tree b d → StopsSynced tree plan b d → StopsAgain tree plan a d
stored-stops tree plan a b d u one came more stops told found c may =
    let ran = (one told).runs in
    let course = course_of tree a b came in
    let stands = subst (λ k. StandsSynced k (moment_of tree b)) (sym (ran.after refl)) (end-synced [] (moment_of tree a) (moment_of tree b) course ran) in
    leaves_on (IsOnWayOrFinished found c plan) (moment_of tree a) (moment_of tree b) (moment_of tree d) course (course_of tree b d more)
    (sync-leaves found c plan (moment_of tree a) (moment_of tree b) true may course ran)
    (stops told found c (sync-resumable found c plan (moment_of tree a) (moment_of tree b) true may course ran) stands)

pub stored-syncs : {F : Type 0} (tree : Ghosts F) (plan : Plan) (a b d : F) (u : Unit {0}) (r : Result (Unit {0}) StoredPerformFault) → Tries tree (Syncs ∷ []) a b (Ok u) → Came tree a b → SyncsAgain tree plan b d r
    → IsTrue tree.tells → (found c : Contents) → IsResumable found c plan (moment_of tree a) → OnOk r (StandsSynced (finished_of found c plan) (moment_of tree d))
stored-syncs tree plan a b d u r one came syncs told found c may = syncs told found c (sync-resumable found c plan (moment_of tree a) (moment_of tree b) true may (course_of tree a b came) (one told).runs)
