-- A replay stays within its root, however far it went.
use Rattle.std.proofs.Common.{◌≡◌, ◌∙◌, ℕ, ◌+◌, ◌==◌, Bool, true, false, ◌&&◌, ◌||◌, inl, inr, bytes_eq, cond, List, [], ◌∷◌, ◌++◌, map, codes, None, Some, Result, Ok, Err, IfErr, refl, sym, ap, subst, true≢false, append_assoc, append-nil}
use Rattle.std.specs.List.{list_any}
use Rattle.acts.specs.Acts.{AreBelow, IsBelow}
use Rattle.cluster_tree.specs.Change.{Change, Writes, Cuts, MakesFile, MakesFolder, Removes, Syncs, call_of, is_on}
use Rattle.cluster_tree.specs.Contents.{Contents, entry_at}
use Rattle.cluster_tree.specs.Joined.{joined_onto, joined_writes}
use Rattle.cluster_tree.specs.Laws.{changed_path}
use Rattle.cluster_tree.specs.PathOrder.{path_eq}
use Rattle.cluster_tree.specs.PathValue.{PathValue, Holds, below}
use Rattle.cluster_tree.specs.Run.{State}
use Rattle.cluster_tree.specs.declared.tree.ChangeCall.{ChangeCall}
use Rattle.cluster_tree.specs.declared.tree.ChangeCall.TheVariants.{Write, Cut, MakeFile, MakeFolder, Remove, Sync}
use Rattle.cluster_tree.proofs.HoldLemmas.{held-holds, holds-held}
use Rattle.cluster_tree.proofs.OrderLemmas.{path_eq-same}
use Rattle.cluster_tree.proofs.RootLemmas.{held-below, holds-below}
use Rattle.control_file.specs.declared.control.Control.{Control}
use Rattle.file_edits.specs.Own.{GoesOn, Same, More, is_own}
use Rattle.file_effects.specs.Own.{is_at, is_replayed}
use Rattle.file_effects.proofs.ApartLemmas.{differ, log-not-replayed, one-top}
use Rattle.file_edits.proofs.ClearLemmas.{held-own}
use Rattle.clusters.specs.Roots.{wal_folder}
use Rattle.replay_start.specs.declared.fault.ReplayFault.{ReplayFault}
use Rattle.replay_core.specs.Replayed.{beginning, closing, control_path, label_path, mark_of}
use Rattle.replay_core.specs.Went.{Begins, Closing, Marked, Ran, RanRecords, Replaying, Unchanged, Went, WentOn}
use Rattle.replay_core.specs.Within.{IsMarked, LeavesMark, LogStays, StaysWithin}
use Rattle.replay_core.proofs.PathLemmas.{control_path-is}

-- a path below the one root
held-of : (root path : PathValue) → IsBelow (root ∷ []) path → Holds root path
held-of root path (inl holds) = holds
held-of root path (inr never) = absurd never

-- ---- lists of calls

both : (root : PathValue) (xs ys : List ChangeCall) → AreBelow (root ∷ []) xs → AreBelow (root ∷ []) ys → AreBelow (root ∷ []) (xs ++ ys)
both root [] ys one two = two
both root (x ∷ xs) ys one two = (one.0, both root xs ys one.1 two)

front : (root : PathValue) (xs ys : List ChangeCall) → AreBelow (root ∷ []) (xs ++ ys) → AreBelow (root ∷ []) xs
front root [] ys all = tt
front root (x ∷ xs) ys all = (all.0, front root xs ys all.1)

-- a write and the next, where they are joined, are at one path
onto-by : (root path next : PathValue) (at n from m : ℕ) (calls : List ChangeCall) (b c : Bool) → path_eq path next ≡ b
    → AreBelow (root ∷ []) (cond (b && c) (Write path at (n + m) ∷ calls) (Write path at n ∷ Write next from m ∷ calls)) → AreBelow (root ∷ []) (Write path at n ∷ Write next from m ∷ calls)
onto-by root path next at n from m calls true true same all = (all.0, (λ p is. all.0 p (ap Some (path_eq-same path next same) ∙ is), all.1))
onto-by root path next at n from m calls true false same all = all
onto-by root path next at n from m calls false c same all = all

onto-within : (root : PathValue) (call : ChangeCall) (calls : List ChangeCall) → AreBelow (root ∷ []) (joined_onto call calls) → AreBelow (root ∷ []) (call ∷ calls)
onto-within root (Write path at n) [] all = all
onto-within root (Write path at n) (Write next from m ∷ calls) all = onto-by root path next at n from m calls (path_eq path next) (from == at + n) refl all
onto-within root (Write path at n) (Cut next size ∷ calls) all = all
onto-within root (Write path at n) (MakeFile next ∷ calls) all = all
onto-within root (Write path at n) (MakeFolder next ∷ calls) all = all
onto-within root (Write path at n) (Remove next ∷ calls) all = all
onto-within root (Write path at n) (Sync ∷ calls) all = all
onto-within root (Cut path size) calls all = all
onto-within root (MakeFile path) calls all = all
onto-within root (MakeFolder path) calls all = all
onto-within root (Remove path) calls all = all
onto-within root Sync calls all = all

joined-within : (root : PathValue) (calls : List ChangeCall) → AreBelow (root ∷ []) (joined_writes calls) → AreBelow (root ∷ []) calls
joined-within root [] all = tt
joined-within root (call ∷ calls) all =
    let two = onto-within root call (joined_writes calls) all in
    (two.0, joined-within root calls two.1)

onto-joined : (root : PathValue) (call : ChangeCall) (calls : List ChangeCall) → AreBelow (root ∷ []) (call ∷ calls) → AreBelow (root ∷ []) (joined_onto call calls)
onto-joined root (Write path at n) [] all = all
onto-joined root (Write path at n) (Write next from m ∷ calls) all = by (path_eq path next && from == at + n)
  where
    by : (b : Bool) → AreBelow (root ∷ []) (cond b (Write path at (n + m) ∷ calls) (Write path at n ∷ Write next from m ∷ calls))
    by true = (all.0, all.1.1)
    by false = all
onto-joined root (Write path at n) (Cut next size ∷ calls) all = all
onto-joined root (Write path at n) (MakeFile next ∷ calls) all = all
onto-joined root (Write path at n) (MakeFolder next ∷ calls) all = all
onto-joined root (Write path at n) (Remove next ∷ calls) all = all
onto-joined root (Write path at n) (Sync ∷ calls) all = all
onto-joined root (Cut path size) calls all = all
onto-joined root (MakeFile path) calls all = all
onto-joined root (MakeFolder path) calls all = all
onto-joined root (Remove path) calls all = all
onto-joined root Sync calls all = all

joins-within : (root : PathValue) (calls : List ChangeCall) → AreBelow (root ∷ []) calls → AreBelow (root ∷ []) (joined_writes calls)
joins-within root [] all = tt
joins-within root (call ∷ calls) all = onto-joined root call (joined_writes calls) (all.0, joins-within root calls all.1)

-- ---- runs of changes

on-path : (path : PathValue) (change : Change) → is_on path change ≡ true → changed_path (call_of change) ≡ Some path
on-path path (Writes own at bytes) is = ap Some (sym (path_eq-same path own is))
on-path path (Cuts own size) is = ap Some (sym (path_eq-same path own is))
on-path path (MakesFile own) is = ap Some (sym (path_eq-same path own is))
on-path path (MakesFolder own) is = ap Some (sym (path_eq-same path own is))
on-path path (Removes own) is = ap Some (sym (path_eq-same path own is))
on-path path Syncs is = absurd (true≢false (sym is))

on-none : (root path : PathValue) (changes : List Change) → (Holds root path → ⊥) → AreBelow (root ∷ []) (map call_of changes) → list_any (is_on path) changes ≡ false
on-none root path [] apart all = refl
on-none root path (change ∷ changes) apart all =
    elim (is_on path change) as (λ (b : Bool). is_on path change ≡ b → (b || list_any (is_on path) changes) ≡ false) [
      | true ↦ λ is. absurd (apart (held-of root path (all.0 path (on-path path change is))))
      | false ↦ λ is. on-none root path changes apart all.1
    ] refl

ran-within : (root : PathValue) (changes : List Change) (old new : State) (done : Bool) → AreBelow (root ∷ []) (map call_of changes) → Ran changes old new done → StaysWithin root old new
ran-within root changes old new done all ran = record {
  made = ran.made;
  grew = ran.grew;
  within = front root ran.made ran.rest (joined-within root (ran.made ++ ran.rest) (subst (AreBelow (root ∷ [])) (sym ran.joins) (joins-within root (map call_of changes) all)));
  elsewhere = λ path apart. ran.elsewhere path (on-none root path changes apart all);
}

at-path : (root path : PathValue) → Holds root path → (p : PathValue) → Some path ≡ Some p → IsBelow (root ∷ []) p
at-path root path holds p is = let same : path ≡ p = cc is in inl (subst (Holds root) same holds)

at-none : (root : PathValue) (p : PathValue) → None ≡ Some p → IsBelow (root ∷ []) p
at-none root p is = cc is

control-held : (root : PathValue) → Holds root (control_path root)
control-held root = subst (Holds root) (sym (control_path-is root)) (holds-below root (codes "global" ∷ codes "pg_control" ∷ []))

beginning-within : (root : PathValue) → AreBelow (root ∷ []) (map call_of (beginning root))
beginning-within root =
    let mark = at-path root (mark_of root) (holds-below root (codes "pg_walreplay.unfinished" ∷ [])) in
    (mark, (mark, (at-none root, tt)))

closing-within : (root : PathValue) (control : Control) → AreBelow (root ∷ []) (map call_of (closing root control))
closing-within root control =
    let mark = at-path root (mark_of root) (holds-below root (codes "pg_walreplay.unfinished" ∷ [])) in
    let label = at-path root (label_path root) (holds-below root (codes "backup_label" ∷ [])) in
    (at-path root (control_path root) (control-held root), (label, (at-none root, (mark, (at-none root, tt)))))

-- ---- records

entry-held : (root path : PathValue) (name : List ℕ) → is_at root name path ≡ true → Holds root path
entry-held root path name is =
    let deep = held-below (below root (name ∷ [])) path (held-holds (below root (name ∷ [])) path is) in
    subst (Holds root) (sym (deep ∙ ap (λ (l : List (List ℕ)). record root { parts = l }) (append_assoc root.parts (name ∷ []) _))) (holds-below root _)

one-of : (root path : PathValue) (n a b c d : Bool) → (n && (a || b || c || d)) ≡ true → (a ≡ true → Holds root path) → (b ≡ true → Holds root path) → (c ≡ true → Holds root path) → (d ≡ true → Holds root path) → Holds root path
one-of root path false a b c d is fa fb fc fd = absurd (true≢false (sym is))
one-of root path true true b c d is fa fb fc fd = fa refl
one-of root path true false true c d is fa fb fc fd = fb refl
one-of root path true false false true d is fa fb fc fd = fc refl
one-of root path true false false false true is fa fb fc fd = fd refl
one-of root path true false false false false is fa fb fc fd = absurd (true≢false (sym is))

replayed-held : (root path : PathValue) → is_replayed root path ≡ true → Holds root path
replayed-held root path is =
    one-of root path _ _ _ _ _ is (entry-held root path (codes "base")) (entry-held root path (codes "global")) (entry-held root path (codes "pg_xact")) (entry-held root path (codes "pg_multixact"))

own-within : (root : PathValue) (call : ChangeCall) → is_own (is_replayed root) call ≡ true → (p : PathValue) → changed_path call ≡ Some p → IsBelow (root ∷ []) p
own-within root (Write path at n) is p same = at-path root path (replayed-held root path is) p same
own-within root (Cut path size) is p same = at-path root path (replayed-held root path is) p same
own-within root (MakeFile path) is p same = at-path root path (replayed-held root path is) p same
own-within root (MakeFolder path) is p same = at-path root path (replayed-held root path is) p same
own-within root (Remove path) is p same = at-path root path (replayed-held root path is) p same
own-within root Sync is p same = absurd (true≢false (sym is))

goes-within : (root : PathValue) (old new : List ChangeCall) → GoesOn (is_replayed root) old new → (made : List ChangeCall) × (new ≡ old ++ made) × AreBelow (root ∷ []) made
goes-within root old _ Same = ([], sym (append-nil old), tt)
goes-within root old _ (More {mid} call before own grew) =
    let first = goes-within root old mid before in
    (first.0 ++ call ∷ [], grew ∙ ap (λ l. l ++ call ∷ []) first.1 ∙ append_assoc old first.0 (call ∷ []), both root first.0 (call ∷ []) first.2 (own-within root call own, tt))

not-replayed : (root path : PathValue) → (Holds root path → ⊥) → is_replayed root path ≡ false
not-replayed root path apart =
    elim (is_replayed root path) as (λ (b : Bool). is_replayed root path ≡ b → b ≡ false) [
      | true ↦ λ is. absurd (apart (replayed-held root path is))
      | false ↦ λ is. refl
    ] refl

records-within : (root : PathValue) (old new : State) → RanRecords root old new → StaysWithin root old new
records-within root old new ran =
    let went = goes-within root old.calls new.calls ran.own in
    record { made = went.0; grew = went.1; within = went.2; elsewhere = λ path apart. ran.elsewhere path (not-replayed root path apart) }

-- ---- the whole

pub then_within : (root : PathValue) (a b c : State) → StaysWithin root a b → StaysWithin root b c → StaysWithin root a c
then_within root a b c one two = record {
  made = one.made ++ two.made;
  grew = two.grew ∙ ap (λ l. l ++ two.made) one.grew ∙ append_assoc a.calls one.made two.made;
  within = both root one.made two.made one.within two.within;
  elsewhere = λ path apart. two.elsewhere path apart ∙ one.elsewhere path apart;
}

on-within : (root : PathValue) (marked new : State) (done : Bool) → WentOn root marked new done → StaysWithin root marked new
on-within root marked new _ (Replaying ran) = records-within root marked new ran
on-within root marked new done (Closing late control ran closed) =
    then_within root marked late new (records-within root marked late ran) (ran-within root (closing root control) late new done (closing-within root control) closed)

pub went-within : (root : PathValue) (old new : State) (done : Bool) → Went root old new done → StaysWithin root old new
went-within root old new _ (Unchanged calls same) = record { made = []; grew = calls ∙ sym (append-nil old.calls); within = tt; elsewhere = λ path apart. ap (λ c. entry_at c path) same }
went-within root old new _ (Begins ran) = ran-within root (beginning root) old new false (beginning-within root) ran
went-within root old new done (Marked marked begun on) =
    then_within root old marked new (ran-within root (beginning root) old marked true (beginning-within root) begun) (on-within root marked new done on)

-- ---- the log stays

-- a path at one entry of the root is none at another
pub beside-entry : (root path other : PathValue) (own name : List ℕ) → bytes_eq own name ≡ false → is_at root own path ≡ true → is_at root name other ≡ true → path_eq path other ≡ false
beside-entry root path other own name differs here at =
    elim (path_eq path other) as (λ (b : Bool). path_eq path other ≡ b → b ≡ false) [
      | true ↦ λ is. absurd (differ own name differs (one-top root other own name (subst (λ p. is_at root own p ≡ true) (path_eq-same path other is) here) at))
      | false ↦ λ is. refl
    ] refl

beside-log : (root path other : PathValue) (name : List ℕ) → bytes_eq (codes "pg_wal") name ≡ false → Holds (wal_folder root) path → is_at root name other ≡ true → path_eq path other ≡ false
beside-log root path other name differs holds = beside-entry root path other (codes "pg_wal") name differs (holds-held (wal_folder root) path holds)

pub entry-at : (root : PathValue) (name : List ℕ) → is_at root name (below root (name ∷ [])) ≡ true
entry-at root name = held-own (below root (name ∷ []))

pub control-at : (root : PathValue) → is_at root (codes "global") (control_path root) ≡ true
control-at root =
    holds-held (below root (codes "global" ∷ [])) (control_path root)
    (subst (Holds (below root (codes "global" ∷ []))) (ap (λ (l : List (List ℕ)). record root { parts = l }) (append_assoc root.parts (codes "global" ∷ []) (codes "pg_control" ∷ [])) ∙ sym (control_path-is root))
    (holds-below (below root (codes "global" ∷ [])) (codes "pg_control" ∷ [])))

module _ (root path : PathValue) (holds : Holds (wal_folder root) path) where
  mark-beside : path_eq path (mark_of root) ≡ false
  mark-beside = beside-log root path (mark_of root) (codes "pg_walreplay.unfinished") refl holds (entry-at root (codes "pg_walreplay.unfinished"))

  beginning-beside : list_any (is_on path) (beginning root) ≡ false
  beginning-beside = ap (λ b. b || (b || false)) mark-beside

  closing-beside : (control : Control) → list_any (is_on path) (closing root control) ≡ false
  closing-beside control =
      ap (λ b. b || (path_eq path (label_path root) || (path_eq path (mark_of root) || false))) (beside-log root path (control_path root) (codes "global") refl holds (control-at root))
      ∙ ap (λ b. b || (path_eq path (mark_of root) || false)) (beside-log root path (label_path root) (codes "backup_label") refl holds (entry-at root (codes "backup_label")))
      ∙ ap (λ b. b || false) mark-beside

  records-log : (old new : State) → RanRecords root old new → entry_at new.contents path ≡ entry_at old.contents path
  records-log old new ran = ran.elsewhere path (log-not-replayed root path (holds-held (wal_folder root) path holds))

  on-log : (marked new : State) (done : Bool) → WentOn root marked new done → entry_at new.contents path ≡ entry_at marked.contents path
  on-log marked new _ (Replaying ran) = records-log marked new ran
  on-log marked new done (Closing late control ran closed) = closed.elsewhere path (closing-beside control) ∙ records-log marked late ran

  log-by : (old new : State) (done : Bool) → Went root old new done → entry_at new.contents path ≡ entry_at old.contents path
  log-by old new _ (Unchanged calls same) = ap (λ c. entry_at c path) same
  log-by old new _ (Begins ran) = ran.elsewhere path beginning-beside
  log-by old new done (Marked marked begun on) = on-log marked new done on ∙ begun.elsewhere path beginning-beside

pub went-log : (root : PathValue) (old new : State) (done : Bool) → Went root old new done → LogStays root old.contents new.contents
went-log root old new done went path holds = log-by root path holds old new done went

-- ---- the mark stands

pub mark-on : {A : Type 0} (root : PathValue) (c : Contents) (r : Result A ReplayFault) → IsMarked root c → IfErr r (LeavesMark root c)
mark-on root c (Ok v) mark = tt
mark-on root c (Err e) mark = inr mark
