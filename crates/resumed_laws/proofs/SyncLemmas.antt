-- Changes that end in a sync leave nothing else to a stop.
use Rattle.std.proofs.Common.{◌≡◌, ℕ, ◌+◌, ◌==◌, ◌&&◌, Bool, true, false, cond, List, [], ◌∷◌, ◌++◌, map, refl, sym, ap, ◌∙◌, subst}
use Rattle.std.proofs.lemmas.List.{append-nil, map-append}
use Rattle.cluster_tree.specs.Change.{Change, Syncs, all_changed, call_of}
use Rattle.cluster_tree.specs.Contents.{Contents}
use Rattle.cluster_tree.specs.Joined.{joined_onto, joined_writes}
use Rattle.cluster_tree.specs.PathValue.{PathValue}
use Rattle.cluster_tree.specs.PathOrder.{path_eq}
use Rattle.cluster_tree.specs.Run.{Course, Moment, Occurs}
use Rattle.cluster_tree.specs.Stops.{MayBeLeft}
use Rattle.cluster_tree.specs.declared.tree.ChangeCall.{ChangeCall}
use Rattle.cluster_tree.specs.declared.tree.ChangeCall.TheVariants.{Write, Cut, MakeFile, MakeFolder, Remove, Sync}
use Rattle.marked_runs.specs.Moments.{StandsSynced}
use Rattle.marked_runs.specs.Runs.{Runs}
use Rattle.resumed_laws.proofs.EndLemmas.{course-last}

-- the last of these calls is a sync
abbrev EndsSync : List ChangeCall → Type 0
EndsSync [] = ⊥
EndsSync (call ∷ []) = call ≡ Sync
EndsSync (call ∷ next ∷ calls) = EndsSync (next ∷ calls)

ends-push : (calls : List ChangeCall) → EndsSync (calls ++ Sync ∷ [])
ends-push [] = refl
ends-push (x ∷ []) = refl
ends-push (x ∷ y ∷ calls) = ends-push (y ∷ calls)

-- such are some and then a sync
ends-split : (calls : List ChangeCall) → EndsSync calls → (front : List ChangeCall) × (calls ≡ front ++ Sync ∷ [])
ends-split [] ends = absurd ends
ends-split (x ∷ []) ends = ([], ap (λ c. c ∷ []) ends)
ends-split (x ∷ y ∷ calls) ends = let (front, is) = ends-split (y ∷ calls) ends in (x ∷ front, ap (λ l. x ∷ l) is)

-- another write before them
ends-first : (p q : PathValue) (at n from m : ℕ) (calls : List ChangeCall) → EndsSync (Write p at n ∷ calls) → EndsSync (Write q from m ∷ calls)
ends-first p q at n from m [] ends = absurd (cc ends)
ends-first p q at n from m (x ∷ calls) ends = ends

-- joined or not
onto-ends : (x : ChangeCall) (calls : List ChangeCall) → EndsSync (x ∷ calls) → EndsSync (joined_onto x calls)
onto-ends (Write path at n) [] ends = ends
onto-ends (Write path at n) (Write next from m ∷ calls) ends = by (path_eq path next && (from == at + n))
  where
    by : (b : Bool) → EndsSync (cond b (Write path at (n + m) ∷ calls) (Write path at n ∷ Write next from m ∷ calls))
    by true = ends-first next path from m at (n + m) calls ends
    by false = ends
onto-ends (Write path at n) (Cut next size ∷ calls) ends = ends
onto-ends (Write path at n) (MakeFile next ∷ calls) ends = ends
onto-ends (Write path at n) (MakeFolder next ∷ calls) ends = ends
onto-ends (Write path at n) (Remove next ∷ calls) ends = ends
onto-ends (Write path at n) (Sync ∷ calls) ends = ends
onto-ends (Cut path size) calls ends = ends
onto-ends (MakeFile path) calls ends = ends
onto-ends (MakeFolder path) calls ends = ends
onto-ends (Remove path) calls ends = ends
onto-ends Sync calls ends = ends

ends-onto : (x : ChangeCall) (calls : List ChangeCall) → EndsSync (joined_onto x calls) → EndsSync (x ∷ calls)
ends-onto (Write path at n) [] ends = ends
ends-onto (Write path at n) (Write next from m ∷ calls) ends = by (path_eq path next && (from == at + n)) ends
  where
    by : (b : Bool) → EndsSync (cond b (Write path at (n + m) ∷ calls) (Write path at n ∷ Write next from m ∷ calls)) → EndsSync (Write next from m ∷ calls)
    by true e = ends-first path next at (n + m) from m calls e
    by false e = e
ends-onto (Write path at n) (Cut next size ∷ calls) ends = ends
ends-onto (Write path at n) (MakeFile next ∷ calls) ends = ends
ends-onto (Write path at n) (MakeFolder next ∷ calls) ends = ends
ends-onto (Write path at n) (Remove next ∷ calls) ends = ends
ends-onto (Write path at n) (Sync ∷ calls) ends = ends
ends-onto (Cut path size) calls ends = ends
ends-onto (MakeFile path) calls ends = ends
ends-onto (MakeFolder path) calls ends = ends
ends-onto (Remove path) calls ends = ends
ends-onto Sync calls ends = ends

ends-more : (x : ChangeCall) (calls : List ChangeCall) → EndsSync calls → EndsSync (x ∷ calls)
ends-more x [] ends = absurd ends
ends-more x (y ∷ calls) ends = ends

-- of a call and others it is the last of the others, or the call alone
ends-rest : (x : ChangeCall) (xs ys : List ChangeCall) → EndsSync (x ∷ ys) → (ys ≡ [] → xs ≡ []) → (EndsSync ys → EndsSync xs) → EndsSync (x ∷ xs)
ends-rest x xs [] ends empty more = subst (λ l. EndsSync (x ∷ l)) (sym (empty refl)) ends
ends-rest x xs (y ∷ ys) ends empty more = ends-more x xs (more ends)

onto-some : (x : ChangeCall) (calls : List ChangeCall) → joined_onto x calls ≡ [] → ⊥
onto-some (Write path at n) [] e = absurd (cc e)
onto-some (Write path at n) (Write next from m ∷ calls) e = by (path_eq path next && (from == at + n)) e
  where
    by : (b : Bool) → cond b (Write path at (n + m) ∷ calls) (Write path at n ∷ Write next from m ∷ calls) ≡ [] → ⊥
    by true h = absurd (cc h)
    by false h = absurd (cc h)
onto-some (Write path at n) (Cut next size ∷ calls) e = absurd (cc e)
onto-some (Write path at n) (MakeFile next ∷ calls) e = absurd (cc e)
onto-some (Write path at n) (MakeFolder next ∷ calls) e = absurd (cc e)
onto-some (Write path at n) (Remove next ∷ calls) e = absurd (cc e)
onto-some (Write path at n) (Sync ∷ calls) e = absurd (cc e)
onto-some (Cut path size) calls e = absurd (cc e)
onto-some (MakeFile path) calls e = absurd (cc e)
onto-some (MakeFolder path) calls e = absurd (cc e)
onto-some (Remove path) calls e = absurd (cc e)
onto-some Sync calls e = absurd (cc e)

joined-none : (calls : List ChangeCall) → joined_writes calls ≡ [] → calls ≡ []
joined-none [] e = refl
joined-none (x ∷ calls) e = absurd (onto-some x (joined_writes calls) e)

joined-ends : (calls : List ChangeCall) → EndsSync calls → EndsSync (joined_writes calls)
joined-ends [] ends = ends
joined-ends (x ∷ []) ends = onto-ends x [] ends
joined-ends (x ∷ y ∷ calls) ends = onto-ends x (joined_writes (y ∷ calls)) (ends-more x (joined_writes (y ∷ calls)) (joined-ends (y ∷ calls) ends))

ends-joined : (calls : List ChangeCall) → EndsSync (joined_writes calls) → EndsSync calls
ends-joined [] ends = ends
ends-joined (x ∷ calls) ends = ends-rest x calls (joined_writes calls) (ends-onto x (joined_writes calls) ends) (joined-none calls) (ends-joined calls)

-- ---- the moment behind them

synced-at : (mid b : Moment) (e : Contents) → Occurs Sync mid b → b.state.contents ≡ e → StandsSynced e b
synced-at mid b e on is = record { now = is; left = λ c image. subst (λ s. MayBeLeft s c) on.stops image ∙ sym on.happens.step ∙ is }

made-ends : (made rest calls : List ChangeCall) → rest ≡ [] → joined_writes (made ++ rest) ≡ joined_writes (calls ++ Sync ∷ []) → EndsSync made
made-ends made rest calls none joins =
    let same : joined_writes made ≡ joined_writes (calls ++ Sync ∷ []) = ap joined_writes (sym (append-nil made) ∙ ap (λ l. made ++ l) (sym none)) ∙ joins in
    ends-joined made (subst EndsSync (sym same) (joined-ends (calls ++ Sync ∷ []) (ends-push calls)))

last-synced : (a b : Moment) (made : List ChangeCall) (e : Contents) → Course a b → b.state.calls ≡ a.state.calls ++ made → EndsSync made → b.state.contents ≡ e → StandsSynced e b
last-synced a b made e course grew ends is =
    let (front, split) = ends-split made ends in
    let (mid, before, calls, on) = course-last a b front Sync course (grew ∙ ap (λ l. a.state.calls ++ l) split) in
    synced-at mid b e on is

pub end-synced : (changes : List Change) (a b : Moment) → Course a b → Runs (changes ++ Syncs ∷ []) a.state.calls b.state.calls a.state.contents b.state.contents true
    → StandsSynced (all_changed a.state.contents (changes ++ Syncs ∷ [])) b
end-synced changes a b course ran =
    last-synced a b ran.made (all_changed a.state.contents (changes ++ Syncs ∷ [])) course ran.grew
    (made-ends ran.made ran.rest (map call_of changes) (ran.all refl) (ran.joins ∙ ap joined_writes (map-append call_of changes (Syncs ∷ [])))) (ran.after refl)
