-- What a stop may leave of changes that are synced, and of a mark that is laid.
use Rattle.std.proofs.Common.{◌≡◌, ℕ, true, IsTrue, List, [], ◌∷◌, length, map, None, Result, Ok, Err, OnOk, refl, ap, sym, ◌∙◌, subst, inl, inr, ⊎_elim}
use Rattle.std.specs.FinMap.{insert}
use Rattle.cluster_tree.specs.Change.{Change, Syncs, Writes, all_changed, call_of, first_refusal}
use Rattle.cluster_tree.specs.Contents.{Contents, FileEntry}
use Rattle.cluster_tree.specs.Frame.{Came, moment_of}
use Rattle.cluster_tree.specs.PathValue.{PathValue}
use Rattle.cluster_tree.specs.Run.{Moment, Occurs}
use Rattle.cluster_tree.specs.Step.{MayTear, TornBytes, TornFile}
use Rattle.cluster_tree.specs.Stops.{LeavesOnly}
use Rattle.cluster_tree.specs.Tree.{bytes_at, bytes_in}
use Rattle.cluster_tree.specs.declared.tree.ChangeCall.TheVariants as call
use Rattle.cluster_tree.specs.declared.tree.Tree.{Ghosts}
use Rattle.cluster_tree.specs.declared.tree.TreeFault.TheVariants as fault
use Rattle.cluster_tree.proofs.ContentsLemmas.{entry-put, put-put}
use Rattle.cluster_tree.proofs.Images.{HoldsSince, KeptBy, Within, holds_first, holds_made, leaves_only}
use Rattle.cluster_tree.proofs.RunLemmas.{course_of}
use Rattle.marked_runs.specs.Carried.{Carries}
use Rattle.marked_runs.specs.Moments.{StandsSynced, Took}
use Rattle.marked_runs.specs.Runs.{is_done}
use Rattle.marked_runs.specs.declared.faults.StepFault.{StepFault}
use Rattle.marked_runs.proofs.MarkLemmas.{synced-first}
use Rattle.marked_runs.proofs.StopLemmas.{leaves_weaker}
use Rattle.gated_marks.specs.Left.{IsBut, IsLeftOf, IsLeftTorn, with_mark}
use Rattle.gated_marks.proofs.ImageLemmas.{runs-hold, runs-left}

-- ---- changes, and a sync behind them

-- a sync keeps all
sync-keeps : (Q : Contents → Type 0) → KeptBy Q call.Sync
sync-keeps Q c d q same = subst Q (sym same) q

module _ {F : Type 0} (tree : Ghosts F) (told : IsTrue tree.tells) where
  -- whatever it answers
  sync-holds : (Q : Contents → Type 0) (first : Moment) (a b : F) (r : Result (Unit {0}) StepFault) → HoldsSince Q Q first (moment_of tree a) → Took tree Syncs a b r → HoldsSince Q Q first (moment_of tree b)
  sync-holds Q first a b (Ok u) h took = holds_made {A = Unit {0}} Q Q Q first (moment_of tree a) (moment_of tree b) call.Sync (Ok tt) h (took told) (λ c q. q) (λ c q. q) (sync-keeps Q)
  sync-holds Q first a b (Err e) h took = holds_made {A = Unit {0}} Q Q Q first (moment_of tree a) (moment_of tree b) call.Sync (Err fault.Failed) h (⊎_elim (λ same. inl same) (λ on. inr (refl, on)) (took told)) (λ c q. q) (λ c q. q) (sync-keeps Q)

  -- changes that broke off, or ran
  pub carried-left : (xs : List Change) (a b : F) (r : Result (Unit {0}) StepFault) → first_refusal (tree.contents a) xs ≡ None → Came tree a b → Carries tree xs a b r → LeavesOnly (IsLeftOf (moment_of tree a) (map call_of xs)) (tree.stops a) (tree.stops b)
  carried-left xs a b r none came carries = runs-left xs (moment_of tree a) (moment_of tree b) (is_done r) (course_of tree a b came) (carries told none).runs

  -- and then a sync
  pub synced-left : (xs : List Change) (a b d : F) (u : Unit {0}) (r : Result (Unit {0}) StepFault) → first_refusal (tree.contents a) xs ≡ None → Came tree a b → Carries tree xs a b (Ok u) → Took tree Syncs b d r → LeavesOnly (IsLeftOf (moment_of tree a) (map call_of xs)) (tree.stops a) (tree.stops d)
  synced-left xs a b d u r none came carries took =
      let Q : Contents → Type 0 = IsLeftOf (moment_of tree a) (map call_of xs) in
      leaves_only Q Q (moment_of tree a) (moment_of tree d)
      (sync-holds Q (moment_of tree a) b d r (runs-hold xs (moment_of tree a) (moment_of tree b) true (course_of tree a b came) (carries told none).runs) took)
      (λ c q. q)

  -- which leaves what the changes made alone
  pub synced-stands : (xs : List Change) (a b d : F) (u : Unit {0}) (r : Result (Unit {0}) StepFault) → first_refusal (tree.contents a) xs ≡ None → Carries tree xs a b (Ok u) → Took tree Syncs b d r → OnOk r (StandsSynced (all_changed (tree.contents a) xs) (moment_of tree d))
  synced-stands xs a b d u (Err e) none carries took = tt
  synced-stands xs a b d u (Ok v) none carries took =
      let after : tree.contents b ≡ all_changed (tree.contents a) xs = (carries told none).runs.after refl in
      let on : Occurs call.Sync (moment_of tree b) (moment_of tree d) = took told in
      let alone = synced-first tree (record { absolute = true; parts = [] }) told b d v took in
      record { now = on.happens.step ∙ after; left = λ c image. alone.left c image ∙ on.happens.step ∙ after }

  -- a sync alone
  pub sync-left : (path : PathValue) (at n : ℕ) (a b : F) (r : Result (Unit {0}) StepFault) → Took tree Syncs a b r → LeavesOnly (IsLeftTorn (moment_of tree a) path at n) (tree.stops a) (tree.stops b)
  sync-left path at n a b r took =
      let Q : Contents → Type 0 = IsLeftTorn (moment_of tree a) path at n in
      leaves_only Q Q (moment_of tree a) (moment_of tree b)
      (sync-holds Q (moment_of tree a) a b r (holds_first Q Q (moment_of tree a) (tree.contents a, inl refl, inl refl) (λ c image. (c, inr image, inl refl))) took)
      (λ c q. q)

-- an image of one write
pub one-torn : (first : Moment) (path : PathValue) (at n : ℕ) → Within (IsLeftOf first (call.Write path at n ∷ [])) (IsLeftTorn first path at n)
one-torn first path at n c left = (left.0, left.1, subst (MayTear path at n left.0) (sym left.2.2) left.2.1)

-- ---- a write over a mark that is synced

module _ (first b : Moment) (mark : PathValue) (at n : ℕ) (bytes : List ℕ) (IsSo : (old new : List ℕ) → Type 0) where
  -- from the contents with these bytes
  abbrev pub old : List ℕ
  old = bytes_at first.state.contents mark

  but-here : (c : Contents) (new : List ℕ) → c ≡ with_mark first.state.contents mark new → IsSo old new → IsBut first mark IsSo c
  but-here c new is so = record { before = first.state.contents; untouched = inl refl; bytes = new; is = is; so = so }

  over-torn : (so : (new : List ℕ) → TornBytes at n bytes new → IsSo old new) (u c : Contents) → u ≡ with_mark first.state.contents mark bytes → TornFile mark at n u c → IsBut first mark IsSo c
  over-torn so u c is t =
      let holds : bytes_at u mark ≡ bytes = ap (λ k. bytes_at k mark) is ∙ ap bytes_in (entry-put first.state.contents mark (FileEntry bytes)) in
      but-here c t.torn (t.is ∙ ap (λ k. insert k mark (FileEntry t.torn)) is ∙ put-put first.state.contents mark (FileEntry bytes) (FileEntry t.torn)) (so t.torn (subst (λ l. TornBytes at n l t.torn) holds t.range))

  pub over-left : StandsSynced (with_mark first.state.contents mark bytes) b → IsSo old bytes → ((new : List ℕ) → TornBytes at n bytes new → IsSo old new) → Within (IsLeftTorn b mark at n) (IsBut first mark IsSo)
  over-left synced whole so c left =
      let is : left.0 ≡ with_mark first.state.contents mark bytes = ⊎_elim (λ e. e ∙ synced.now) (λ image. synced.left left.0 image) left.1 in
      ⊎_elim (λ (same : c ≡ left.0). but-here c bytes (same ∙ is) whole) (λ (t : TornFile mark at n left.0 c). over-torn so left.0 c is t) left.2

module _ {F : Type 0} (tree : Ghosts F) (told : IsTrue tree.tells) (path : PathValue) (at : ℕ) (bytes : List ℕ) where
  pub torn-broken : (a b : F) (e : StepFault) → first_refusal (tree.contents a) (Writes path at bytes ∷ []) ≡ None → Came tree a b → Carries tree (Writes path at bytes ∷ []) a b (Err e) → LeavesOnly (IsLeftTorn (moment_of tree a) path at (length bytes)) (tree.stops a) (tree.stops b)
  torn-broken a b e none came carries =
      leaves_weaker (IsLeftOf (moment_of tree a) (call.Write path at (length bytes) ∷ [])) (IsLeftTorn (moment_of tree a) path at (length bytes)) (tree.stops a) (tree.stops b) (one-torn (moment_of tree a) path at (length bytes))
      (carried-left tree told (Writes path at bytes ∷ []) a b (Err e) none came carries)

  pub torn-synced : (a b d : F) (u : Unit {0}) (r : Result (Unit {0}) StepFault) → first_refusal (tree.contents a) (Writes path at bytes ∷ []) ≡ None → Came tree a b → Carries tree (Writes path at bytes ∷ []) a b (Ok u) → Took tree Syncs b d r
      → LeavesOnly (IsLeftTorn (moment_of tree a) path at (length bytes)) (tree.stops a) (tree.stops d)
  torn-synced a b d u r none came carries took =
      leaves_weaker (IsLeftOf (moment_of tree a) (call.Write path at (length bytes) ∷ [])) (IsLeftTorn (moment_of tree a) path at (length bytes)) (tree.stops a) (tree.stops d) (one-torn (moment_of tree a) path at (length bytes))
      (synced-left tree told (Writes path at bytes ∷ []) a b d u r none came carries took)
