-- What a stop may leave of a rewind that is done again, where no more is known than that its mark stands.
use Rattle.std.proofs.Common.{◌≡◌, ◌≢◌, ◌⊎◌, Bool, true, false, ◌||◌, List, [], ◌∷◌, ◌++◌, is_some, None, Result, Ok, Err, inl, inr, ⊎_elim, refl, ap, sym, ◌∙◌, subst, append_assoc}
use Rattle.std.specs.FinMap.{remove}
use Rattle.std.specs.List.{list_any}
use Rattle.cluster_tree.specs.Change.{Change, Removes, Syncs, all_changed, is_on, refusal_of}
use Rattle.cluster_tree.specs.Contents.{Contents}
use Rattle.cluster_tree.specs.Frame.{Came, moment_of}
use Rattle.cluster_tree.specs.PathValue.{PathValue}
use Rattle.cluster_tree.specs.Run.{Course, Moment}
use Rattle.cluster_tree.specs.Stops.{LeavesOnly}
use Rattle.cluster_tree.specs.declared.tree.Tree.{Ghosts}
use Rattle.cluster_tree.proofs.ChangeLemmas.{changed-in_turn}
use Rattle.cluster_tree.proofs.Images.{holds_first, leaves_only}
use Rattle.cluster_tree.proofs.RunLemmas.{came_on, course_of}
use Rattle.marked_runs.specs.Moments.{IsEnded, IsMarked, IsSafe, IsUntouched, StandsMarked, StandsSynced}
use Rattle.marked_runs.specs.Runs.{Runs, ended, is_done}
use Rattle.marked_runs.proofs.StopLemmas.{body-left, body-stands, holds_runs, leaves_on, leaves_weaker}
use Rattle.rewind_writes.specs.declared.plan.Plan.{Plan}
use Rattle.resumed_laws.specs.Resumed.{resumed_body, resumed_changes}
use Rattle.resumed_laws.proofs.EndLemmas.{end-leaves}
use Rattle.resumed_laws.proofs.SyncLemmas.{end-synced}
use Rattle.resumed_writes.specs.Again.{AreReadable, EndsMarked, StaysMarked, StopsMarked, SyncsMarked, TakesBodyAgain, resumed_end}
use Rattle.resumed_writes.specs.Tried.{Tries}
use Rattle.resumed_writes.specs.declared.faults.StoredPerformFault.{StoredPerformFault}

-- ---- from moment to moment

module _ (plan : Plan) (a : Moment) where
  abbrev start : Contents
  start = a.state.contents

  abbrev body : List Change
  body = resumed_body start plan

  abbrev finished : Contents
  finished = resumed_end start plan

  abbrev Ends : Contents → Type 0
  Ends = IsEnded plan.mark finished

  abbrev Safe : Contents → Type 0
  Safe = IsSafe plan.mark a finished

  -- all under the mark
  body-leaves : (b : Moment) (done : Bool) → StandsMarked plan.mark a → Course a b → Runs body a.state.calls b.state.calls start b.state.contents done → list_any (is_on plan.mark) body ≡ false → LeavesOnly Ends a.stops b.stops
  body-leaves b done stands course ran off = leaves_weaker (IsMarked plan.mark) Ends a.stops b.stops (λ d m. inl m) (body-left plan.mark body a b done stands course ran off)

  -- and then its end, up to which the mark stays
  gone-leaves : (b e : Moment) (done : Bool) → StandsMarked plan.mark a → Course a b → Course b e → Runs body a.state.calls b.state.calls start b.state.contents true → Runs (ended plan.mark) b.state.calls e.state.calls b.state.contents e.state.contents done
      → list_any (is_on plan.mark) body ≡ false → LeavesOnly Ends a.stops e.stops
  gone-leaves b e done stands one two ran last off =
      let still = body-stands plan.mark body a b true stands one ran off in
      let same : remove b.state.contents plan.mark ≡ finished = ap (λ d. remove d plan.mark) (ran.after refl) ∙ sym (changed-in_turn start body (ended plan.mark)) in
      leaves_on Ends a b e one two (body-leaves b true stands one ran off)
      (leaves_weaker (λ d. IsMarked plan.mark d ⊎ (d ≡ remove b.state.contents plan.mark)) Ends b.stops e.stops (λ d. ⊎_elim (λ m. inl m) (λ is. inr (is ∙ same))) (end-leaves (IsMarked plan.mark) plan.mark b still.now still.left e done two last))

  -- a sync changes nothing, also one that breaks off
  sync-safe : (b : Moment) (done : Bool) → Course a b → Runs (Syncs ∷ []) a.state.calls b.state.calls start b.state.contents done → LeavesOnly Safe a.stops b.stops
  sync-safe b done course ran =
      leaves_only Safe (IsUntouched a) a b (holds_runs Safe (IsUntouched a) a a b (Syncs ∷ []) done (holds_first Safe (IsUntouched a) a (inl refl) (λ d left. inr left)) (λ d u. inl u) course ran ((λ x y q step. subst (IsUntouched a) (sym step) q), tt)) (λ d u. inl u)

  -- behind it the mark stands on the disk
  sync-stands : (b : Moment) → IsMarked plan.mark start → Course a b → Runs (Syncs ∷ []) a.state.calls b.state.calls start b.state.contents true → StandsMarked plan.mark b
  sync-stands b marked course ran =
      let synced = end-synced [] a b course ran in
      record { now = subst (IsMarked plan.mark) (sym synced.now) marked; left = λ d left. subst (IsMarked plan.mark) (sym (synced.left d left)) marked }

  synced-safe : (b e : Moment) → Course a b → Course b e → Runs (Syncs ∷ []) a.state.calls b.state.calls start b.state.contents true → LeavesOnly Ends b.stops e.stops → LeavesOnly Safe a.stops e.stops
  synced-safe b e one two ran ends =
      leaves_on Safe a b e one two (sync-safe b true one ran) (leaves_weaker Ends Safe b.stops e.stops (λ d. ⊎_elim (λ m. inr (inl m)) (λ is. inr (inr is))) ends)

  -- all of it ends in a sync
  all-synced : (e : Moment) → Course a e → Runs (resumed_changes start plan) a.state.calls e.state.calls start e.state.contents true → StandsSynced finished e
  all-synced e course ran =
      let front : List Change = Syncs ∷ body ++ Syncs ∷ Removes plan.mark ∷ [] in
      let same : resumed_changes start plan ≡ front ++ Syncs ∷ [] = ap (λ l. Syncs ∷ l) (sym (append_assoc body (Syncs ∷ Removes plan.mark ∷ []) (Syncs ∷ []))) in
      subst (λ l. StandsSynced (all_changed start l) e) (sym same) (end-synced front a e course (subst (λ l. Runs l a.state.calls e.state.calls start e.state.contents true) same ran))

-- ---- what is refused

either-off : (b d : Bool) → b ≡ false → d ≡ false → (b || d) ≡ false
either-off true d e f = absurd (cc e)
either-off false d e f = f

both-off : (b d : Bool) → (b || d) ≡ false → (b ≡ false) × (d ≡ false)
both-off true d e = absurd (cc e)
both-off false d e = (refl, e)

-- what comes before one of these changes isn't on the mark, unless that one is the last sync
before-off : (mark : PathValue) (front before : List Change) (x : Change) (rest : List Change) → list_any (is_on mark) front ≡ false → front ++ Removes mark ∷ Syncs ∷ [] ≡ before ++ x ∷ rest → (list_any (is_on mark) before ≡ false) ⊎ (x ≡ Syncs)
before-off mark front [] x rest off e = inl refl
before-off mark [] (y ∷ []) x rest off e = inr (cc e)
before-off mark [] (y ∷ z ∷ []) x rest off e = absurd (cc e)
before-off mark [] (y ∷ z ∷ w ∷ more) x rest off e = absurd (cc e)
before-off mark (f ∷ front) (y ∷ before) x rest off e =
    let first : f ≡ y = cc e in
    let next : front ++ Removes mark ∷ Syncs ∷ [] ≡ before ++ x ∷ rest = cc e in
    let two = both-off (is_on mark f) (list_any (is_on mark) front) off in
    ⊎_elim (λ none. inl (either-off (is_on mark y) (list_any (is_on mark) before) (ap (is_on mark) (sym first) ∙ two.0) none)) (λ is. inr is) (before-off mark front before x rest two.1 next)

push-off : (mark : PathValue) (xs : List Change) → list_any (is_on mark) xs ≡ false → list_any (is_on mark) (xs ++ Syncs ∷ []) ≡ false
push-off mark [] off = refl
push-off mark (x ∷ xs) off = let two = both-off (is_on mark x) (list_any (is_on mark) xs) off in either-off (is_on mark x) (list_any (is_on mark) (xs ++ Syncs ∷ [])) two.0 (push-off mark xs two.1)

-- ---- of a tree

pub marked-broken : {F : Type 0} (tree : Ghosts F) (plan : Plan) (a b : F) (e : StoredPerformFault) → TakesBodyAgain tree plan.steps.items plan.label plan.control a b (Err e) → Came tree a b → EndsMarked tree plan a b
marked-broken tree plan a b e takes came told readable marked off stands = body-leaves plan (moment_of tree a) (moment_of tree b) false stands (course_of tree a b came) (takes readable told).runs off

pub marked-ended : {F : Type 0} (tree : Ghosts F) (plan : Plan) (a b d : F) (u : Unit {0}) (r : Result (Unit {0}) StoredPerformFault) → TakesBodyAgain tree plan.steps.items plan.label plan.control a b (Ok u) → Tries tree (ended plan.mark) b d r → Came tree a b → Came tree b d → EndsMarked tree plan a d
marked-ended tree plan a b d u r takes ends came more told readable marked off stands =
    gone-leaves plan (moment_of tree a) (moment_of tree b) (moment_of tree d) (is_done r) stands (course_of tree a b came) (course_of tree b d more) (takes readable told).runs (ends told).runs off

pub stored-marked-broken : {F : Type 0} (tree : Ghosts F) (plan : Plan) (a b : F) (e : StoredPerformFault) → Tries tree (Syncs ∷ []) a b (Err e) → Came tree a b → StopsMarked tree plan a b
stored-marked-broken tree plan a b e one came told readable marked off = sync-safe plan (moment_of tree a) (moment_of tree b) false (course_of tree a b came) (one told).runs

pub stored-marked : {F : Type 0} (tree : Ghosts F) (plan : Plan) (a b d : F) (u : Unit {0}) → Tries tree (Syncs ∷ []) a b (Ok u) → Came tree a b → Came tree b d → EndsMarked tree plan b d → StopsMarked tree plan a d
stored-marked tree plan a b d u one came more ends told readable marked off =
    let ran = (one told).runs in
    let same : tree.contents b ≡ tree.contents a = ran.after refl in
    let course = course_of tree a b came in
    let stands = sync-stands plan (moment_of tree a) (moment_of tree b) marked course ran in
    let left = ends told (subst (λ k. AreReadable k plan.steps.items) (sym same) readable) (subst (IsMarked plan.mark) (sym same) marked) (subst (λ k. list_any (is_on plan.mark) (resumed_body k plan) ≡ false) (sym same) off) stands in
    synced-safe plan (moment_of tree a) (moment_of tree b) (moment_of tree d) course (course_of tree b d more) ran
    (subst (λ k. LeavesOnly (IsEnded plan.mark (resumed_end k plan)) (tree.stops b) (tree.stops d)) same left)

pub stored-ended : {F : Type 0} (tree : Ghosts F) (plan : Plan) (a b d : F) (r : Result (Unit {0}) StoredPerformFault) → (AreReadable (tree.contents a) plan.steps.items → Tries tree (resumed_changes (tree.contents a) plan) a d r) → Came tree a b → Came tree b d → SyncsMarked tree plan a d r
stored-ended tree plan a b d (Ok u) tries came more told readable marked off = all-synced plan (moment_of tree a) (moment_of tree d) (course_of tree a d (came_on tree a b d came more)) (tries readable told).runs
stored-ended tree plan a b d (Err e) tries came more told readable marked off = tt

-- the last sync is refused by nothing, and what ran before another change left the mark
stays-before : (plan : Plan) (c d : Contents) (before rest : List Change) (x : Change) → Syncs ∷ resumed_body c plan ++ ended plan.mark ≡ before ++ x ∷ rest → refusal_of d x ≢ None → list_any (is_on plan.mark) (resumed_body c plan) ≡ false → list_any (is_on plan.mark) before ≡ false
stays-before plan c d before rest x split refused off =
    let body = resumed_body c plan in
    let front : List Change = Syncs ∷ body ++ Syncs ∷ [] in
    let same : front ++ Removes plan.mark ∷ Syncs ∷ [] ≡ Syncs ∷ body ++ ended plan.mark = ap (λ l. Syncs ∷ l) (append_assoc body (Syncs ∷ []) (Removes plan.mark ∷ Syncs ∷ [])) in
    ⊎_elim (λ none. none) (λ is. absurd (refused (ap (refusal_of d) is))) (before-off plan.mark front before x rest (push-off plan.mark body off) (same ∙ split))

pub stored-stays : {F : Type 0} (tree : Ghosts F) (plan : Plan) (a b : F) (r : Result (Unit {0}) StoredPerformFault) → (AreReadable (tree.contents a) plan.steps.items → Tries tree (resumed_changes (tree.contents a) plan) a b r) → StaysMarked tree plan a b r
stored-stays tree plan a b r tries told readable marked off path h =
    let at = (tries readable told).differs path h in
    ap is_some (at.ran.elsewhere plan.mark (stays-before plan (tree.contents a) (tree.contents b) at.before at.rest at.change at.split at.refused off)) ∙ marked
