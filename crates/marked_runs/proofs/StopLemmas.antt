-- What a stop may leave of changes that are carried out one after another.
use Rattle.std.proofs.Common.{◌≡◌, ◌≢◌, ◌⊎◌, ◌+◌, ◌==◌, ◌&&◌, ℕ, Bool, true, false, ◌||◌, cond, List, [], ◌∷◌, ◌++◌, map, length, drop, Some, refl, ap, sym, ◌∙◌, subst, inl, inr, ⊎_elim, is_some, append_assoc, append-nil}
use Rattle.std.specs.List.{list_any}
use Rattle.cluster_tree.specs.PathValue.{PathValue}
use Rattle.cluster_tree.specs.PathOrder.{path_eq}
use Rattle.cluster_tree.specs.Change.{Change, Writes, Cuts, MakesFile, MakesFolder, Removes, Syncs, call_of, is_on}
use Rattle.cluster_tree.specs.Contents.{Contents}
use Rattle.cluster_tree.specs.Joined.{joined_onto, joined_writes}
use Rattle.cluster_tree.specs.Laws.{changed_path}
use Rattle.cluster_tree.specs.Run.{Moment, Occurs, Course, Still, Call}
use Rattle.cluster_tree.specs.Stops.{Epoch, Stops, stops_after, HadBeen, LeavesOnly}
use Rattle.cluster_tree.specs.declared.tree.ChangeCall.{ChangeCall}
use Rattle.cluster_tree.specs.declared.tree.ChangeCall.TheVariants.{Write, Cut, MakeFile, MakeFolder, Remove, Sync}
use Rattle.cluster_tree.proofs.Images.{HoldsSince, Within, KeptBy, Each, holds_first, holds_run, leaves_only}
use Rattle.cluster_tree.proofs.OrderLemmas.{path_eq-same}
use Rattle.cluster_tree.proofs.StepLemmas.{step-elsewhere}
use Rattle.cluster_tree.proofs.RunLemmas.{calls_on}
use Rattle.marked_runs.specs.Moments.{IsMarked, IsBegun, IsEnded, IsSafe, StandsMarked}
use Rattle.marked_runs.specs.Runs.{Runs}
use Rattle.marked_runs.proofs.RunLemmas.{off_path}

-- a call keeps what has Q, and a write does so wherever in its file
abbrev pub Keeps : (Contents → Type 0) → ChangeCall → Type 0
Keeps Q (Write path at n) = (from m : ℕ) → KeptBy Q (Write path from m)
Keeps Q (Cut path size) = KeptBy Q (Cut path size)
Keeps Q (MakeFile path) = KeptBy Q (MakeFile path)
Keeps Q (MakeFolder path) = KeptBy Q (MakeFolder path)
Keeps Q (Remove path) = KeptBy Q (Remove path)
Keeps Q Sync = KeptBy Q Sync

module _ (Q : Contents → Type 0) where
  kept : (call : ChangeCall) → Keeps Q call → KeptBy Q call
  kept (Write path at n) keeps = keeps at n
  kept (Cut path size) keeps = keeps
  kept (MakeFile path) keeps = keeps
  kept (MakeFolder path) keeps = keeps
  kept (Remove path) keeps = keeps
  kept Sync keeps = keeps

  all-kept : (calls : List ChangeCall) → Each (Keeps Q) calls → Each (KeptBy Q) calls
  all-kept [] all = tt
  all-kept (call ∷ calls) all = (kept call all.0, all-kept calls all.1)

  front-kept : (calls more : List ChangeCall) → Each (Keeps Q) (calls ++ more) → Each (Keeps Q) calls
  front-kept [] more all = tt
  front-kept (call ∷ calls) more all = (all.0, front-kept calls more all.1)

  joined-writes : (path next : PathValue) (at n from m : ℕ) (calls : List ChangeCall) (b : Bool) → Each (Keeps Q) (Write path at n ∷ Write next from m ∷ calls) → Each (Keeps Q) (cond b (Write path at (n + m) ∷ calls) (Write path at n ∷ Write next from m ∷ calls))
  joined-writes path next at n from m calls true all = (all.0, all.1.1)
  joined-writes path next at n from m calls false all = all

  onto-keeps : (call : ChangeCall) (calls : List ChangeCall) → Each (Keeps Q) (call ∷ calls) → Each (Keeps Q) (joined_onto call calls)
  onto-keeps (Write path at n) [] all = all
  onto-keeps (Write path at n) (Write next from m ∷ calls) all = joined-writes path next at n from m calls (path_eq path next && (from == at + n)) all
  onto-keeps (Write path at n) (Cut next size ∷ calls) all = all
  onto-keeps (Write path at n) (MakeFile next ∷ calls) all = all
  onto-keeps (Write path at n) (MakeFolder next ∷ calls) all = all
  onto-keeps (Write path at n) (Remove next ∷ calls) all = all
  onto-keeps (Write path at n) (Sync ∷ calls) all = all
  onto-keeps (Cut path size) calls all = all
  onto-keeps (MakeFile path) calls all = all
  onto-keeps (MakeFolder path) calls all = all
  onto-keeps (Remove path) calls all = all
  onto-keeps Sync calls all = all

  joined-keeps : (calls : List ChangeCall) → Each (Keeps Q) calls → Each (Keeps Q) (joined_writes calls)
  joined-keeps [] all = tt
  joined-keeps (call ∷ calls) all = onto-keeps call (joined_writes calls) (all.0, joined-keeps calls all.1)

  -- and of joined calls each was kept
  cut-writes : (path next : PathValue) (at n from m : ℕ) (calls : List ChangeCall) (b : Bool) → (b ≡ true → next ≡ path) → Each (Keeps Q) (cond b (Write path at (n + m) ∷ calls) (Write path at n ∷ Write next from m ∷ calls)) → Each (Keeps Q) (Write path at n ∷ Write next from m ∷ calls)
  cut-writes path next at n from m calls true same all = (all.0, (subst (λ p. Keeps Q (Write p from m)) (sym (same refl)) all.0, all.1))
  cut-writes path next at n from m calls false same all = all

  and-left : (a b : Bool) → (a && b) ≡ true → a ≡ true
  and-left true b e = refl
  and-left false b e = e

  onto-kept : (call : ChangeCall) (calls : List ChangeCall) → Each (Keeps Q) (joined_onto call calls) → Each (Keeps Q) (call ∷ calls)
  onto-kept (Write path at n) [] all = all
  onto-kept (Write path at n) (Write next from m ∷ calls) all = cut-writes path next at n from m calls (path_eq path next && (from == at + n)) (λ e. sym (path_eq-same path next (and-left (path_eq path next) (from == at + n) e))) all
  onto-kept (Write path at n) (Cut next size ∷ calls) all = all
  onto-kept (Write path at n) (MakeFile next ∷ calls) all = all
  onto-kept (Write path at n) (MakeFolder next ∷ calls) all = all
  onto-kept (Write path at n) (Remove next ∷ calls) all = all
  onto-kept (Write path at n) (Sync ∷ calls) all = all
  onto-kept (Cut path size) calls all = all
  onto-kept (MakeFile path) calls all = all
  onto-kept (MakeFolder path) calls all = all
  onto-kept (Remove path) calls all = all
  onto-kept Sync calls all = all

  joined-kept : (calls : List ChangeCall) → Each (Keeps Q) (joined_writes calls) → Each (Keeps Q) calls
  joined-kept [] all = tt
  joined-kept (call ∷ calls) all = let two = onto-kept call (joined_writes calls) all in (two.0, joined-kept calls two.1)

  -- so changes that all keep Q were made of calls that do
  made-kept : (xs : List Change) (k l : List ChangeCall) (c d : Contents) (done : Bool) (ran : Runs xs k l c d done) → Each (Keeps Q) (map call_of xs) → Each (KeptBy Q) ran.made
  made-kept xs k l c d done ran all = all-kept ran.made (front-kept ran.made ran.rest (joined-kept (ran.made ++ ran.rest) (subst (Each (Keeps Q)) (sym ran.joins) (joined-keeps (map call_of xs) all))))

-- what holds of a moment and of what a stop may leave goes on over changes that keep it
pub holds_runs : (P Q : Contents → Type 0) (first a b : Moment) (xs : List Change) (done : Bool) → HoldsSince P Q first a → Within Q P → Course a b
    → Runs xs a.state.calls b.state.calls a.state.contents b.state.contents done → Each (Keeps Q) (map call_of xs) → HoldsSince P Q first b
holds_runs P Q first a b xs done h within course ran all = holds_run P Q first a b ran.made h within course ran.grew (made-kept Q xs _ _ _ _ done ran all)

-- a mark stays under changes off it
off-keeps : (mark : PathValue) (call : ChangeCall) → changed_path call ≢ Some mark → KeptBy (IsMarked mark) call
off-keeps mark call off c d marked step = ap is_some (step-elsewhere call c d mark step off) ∙ marked

change-keeps : (mark : PathValue) (x : Change) → is_on mark x ≡ false → Keeps (IsMarked mark) (call_of x)
change-keeps mark (Writes path at bytes) off = λ from m. off-keeps mark (Write path from m) (off_path (Writes path at bytes) mark off)
change-keeps mark (Cuts path size) off = off-keeps mark (Cut path size) (off_path (Cuts path size) mark off)
change-keeps mark (MakesFile path) off = off-keeps mark (MakeFile path) (off_path (MakesFile path) mark off)
change-keeps mark (MakesFolder path) off = off-keeps mark (MakeFolder path) (off_path (MakesFolder path) mark off)
change-keeps mark (Removes path) off = off-keeps mark (Remove path) (off_path (Removes path) mark off)
change-keeps mark Syncs off = off-keeps mark Sync (off_path Syncs mark off)

neither : (a b : Bool) → (a || b) ≡ false → (a ≡ false) × (b ≡ false)
neither true b e = absurd (cc e)
neither false b e = (refl, e)

pub changes_keep : (mark : PathValue) (xs : List Change) → list_any (is_on mark) xs ≡ false → Each (Keeps (IsMarked mark)) (map call_of xs)
changes_keep mark [] off = tt
changes_keep mark (x ∷ xs) off = let two = neither (is_on mark x) (list_any (is_on mark) xs) off in (change-keeps mark x two.0, changes_keep mark xs two.1)

-- ---- moments, one after another

past-after : (call : ChangeCall) (c : Contents) (s : Stops) → (more : List Epoch) × ((stops_after call c s).past ≡ s.past ++ more)
past-after (Write path at n) c s = ([], sym (append-nil _))
past-after (Cut path size) c s = ([], sym (append-nil _))
past-after (MakeFile path) c s = ([], sym (append-nil _))
past-after (MakeFolder path) c s = ([], sym (append-nil _))
past-after (Remove path) c s = ([], sym (append-nil _))
past-after Sync c s = (s.now ∷ [], refl)

-- the times before the last sync are those of before, and more
past-grows : (a b : Moment) → Course a b → (more : List Epoch) × (b.stops.past ≡ a.stops.past ++ more)
past-grows a b Still = ([], sym (append-nil _))
past-grows a b (Call {mid} call course on) =
    let (xs, e) = past-grows a mid course in
    let (ys, f) = past-after call mid.state.contents mid.stops in
    (xs ++ ys, ap (λ (s : Stops). s.past) on.stops ∙ f ∙ ap (λ l. l ++ ys) e ∙ append_assoc a.stops.past xs ys)

dropped-front : {A : Type 0} (xs ys : List A) → drop (length xs) (xs ++ ys) ≡ ys
dropped-front [] ys = refl
dropped-front (x ∷ xs) ys = dropped-front xs ys

either-had : (xs ys : List Epoch) (c : Contents) → HadBeen (xs ++ ys) c → HadBeen xs c ⊎ HadBeen ys c
either-had [] ys c had = inr had
either-had (x ∷ xs) ys c (inl here) = inl (inl here)
either-had (x ∷ xs) ys c (inr had) = ⊎_elim (λ h. inl (inr h)) (λ h. inr h) (either-had xs ys c had)

pub leaves_weaker : (P Q : Contents → Type 0) (a b : Stops) → Within P Q → LeavesOnly P a b → LeavesOnly Q a b
leaves_weaker P Q a b within leaves = record { each = λ c left. within c (leaves.each c left) }

-- what a stop leaves from a first moment to a second and on to a third
pub leaves_on : (P : Contents → Type 0) (a b d : Moment) → Course a b → Course b d → LeavesOnly P a.stops b.stops → LeavesOnly P b.stops d.stops → LeavesOnly P a.stops d.stops
leaves_on P a b d one other before after =
    let (xs, e) = past-grows a b one in
    let (ys, f) = past-grows b d other in
    record {
      each = λ c. ⊎_elim (λ now. after.each c (inl now)) (λ had.
          let all : HadBeen (xs ++ ys) c = subst (λ l. HadBeen l c) (ap (drop (length a.stops.past)) (f ∙ ap (λ l. l ++ ys) e ∙ append_assoc a.stops.past xs ys) ∙ dropped-front a.stops.past (xs ++ ys)) had in
          ⊎_elim
          (λ h. before.each c (inr (subst (λ l. HadBeen l c) (sym (ap (drop (length a.stops.past)) e ∙ dropped-front a.stops.past xs)) h)))
          (λ h. after.each c (inr (subst (λ l. HadBeen l c) (sym (ap (drop (length b.stops.past)) f ∙ dropped-front b.stops.past ys)) h)))
          (either-had xs ys c all));
    }

-- ---- under a mark

-- a mark that stands in all stays under changes off it
body-holds : (mark : PathValue) (xs : List Change) (a b : Moment) (done : Bool) → StandsMarked mark a → Course a b → Runs xs a.state.calls b.state.calls a.state.contents b.state.contents done → list_any (is_on mark) xs ≡ false → HoldsSince (IsMarked mark) (IsMarked mark) a b
body-holds mark xs a b done stands course ran off =
    holds_runs (IsMarked mark) (IsMarked mark) a a b xs done (holds_first (IsMarked mark) (IsMarked mark) a stands.now stands.left) (λ c q. q) course ran (changes_keep mark xs off)

pub body-stands : (mark : PathValue) (xs : List Change) (a b : Moment) (done : Bool) → StandsMarked mark a → Course a b → Runs xs a.state.calls b.state.calls a.state.contents b.state.contents done → list_any (is_on mark) xs ≡ false → StandsMarked mark b
body-stands mark xs a b done stands course ran off = let h = body-holds mark xs a b done stands course ran off in record { now = h.now; left = h.left }

pub body-left : (mark : PathValue) (xs : List Change) (a b : Moment) (done : Bool) → StandsMarked mark a → Course a b → Runs xs a.state.calls b.state.calls a.state.contents b.state.contents done → list_any (is_on mark) xs ≡ false → LeavesOnly (IsMarked mark) a.stops b.stops
body-left mark xs a b done stands course ran off = leaves_only (IsMarked mark) (IsMarked mark) a b (body-holds mark xs a b done stands course ran off) (λ c q. q)

-- of the three parts of a run
pub three-left : (mark : PathValue) (a b d e : Moment) (finished : Contents) → Course a b → Course b d → Course d e → LeavesOnly (IsBegun mark a) a.stops b.stops → LeavesOnly (IsMarked mark) b.stops d.stops → LeavesOnly (IsEnded mark finished) d.stops e.stops
    → LeavesOnly (IsSafe mark a finished) a.stops e.stops
three-left mark a b d e finished one two three begun marked ended =
    let P : Contents → Type 0 = IsSafe mark a finished in
    leaves_on P a d e (calls_on Occurs a b d one two) three
    (leaves_on P a b d one two (leaves_weaker (IsBegun mark a) P a.stops b.stops (λ c. ⊎_elim (λ u. inl u) (λ m. inr (inl m))) begun) (leaves_weaker (IsMarked mark) P b.stops d.stops (λ c m. inr (inl m)) marked))
    (leaves_weaker (IsEnded mark finished) P d.stops e.stops (λ c. ⊎_elim (λ m. inr (inl m)) (λ f. inr (inr f))) ended)
