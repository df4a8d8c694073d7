-- Changes that are made in turn, all or the first of them: their calls are at the paths of the changes, or syncs.
use Rattle.std.proofs.Common.{◌≡◌, ◌∙◌, ℕ, ◌+◌, ◌==◌, Bool, true, false, ◌&&◌, ◌||◌, cond, List, [], ◌∷◌, ◌++◌, map, Option, None, Some, refl, sym, ap, subst, append_assoc, append-nil}
use Rattle.cluster_tree.specs.Apart.{is_held}
use Rattle.cluster_tree.specs.Change.{Change, Cuts, MakesFile, Syncs, Writes, call_of}
use Rattle.cluster_tree.specs.Contents.{Contents, entry_at, is_file}
use Rattle.cluster_tree.specs.Joined.{joined_onto, joined_writes}
use Rattle.cluster_tree.specs.Laws.{changed_path}
use Rattle.cluster_tree.specs.PathOrder.{path_eq}
use Rattle.cluster_tree.specs.PathValue.{PathValue}
use Rattle.cluster_tree.specs.declared.tree.ChangeCall.{ChangeCall}
use Rattle.cluster_tree.specs.declared.tree.ChangeCall.TheVariants.{Write, Cut, MakeFile, MakeFolder, Remove, Sync}
use Rattle.cluster_tree.proofs.Images.{Each}
use Rattle.cluster_tree.proofs.OrderLemmas.{path_eq-own, path_eq-same}
use Rattle.file_edits.specs.Own.{GoesBy, GoesOn, More, Same, is_on, is_own}
use Rattle.file_edits.proofs.OwnLemmas.{goes-by_on, goes-by_wider}
use Rattle.gated_marks.specs.Changes.{gate_opened, head_laid, text_laid}
use Rattle.marked_runs.specs.Runs.{Runs, ended}
use Rattle.stored_replay.specs.Shadows.{shadow_folder}
use Rattle.replay_copies.specs.Calls.{LaysOnly, at_or_none, is_own_or_sync}
use Rattle.replay_copies.specs.Laid.{is_laid_at, mark_of}

-- ---- calls at own paths

module _ (own : PathValue → Bool) where
  abbrev IsIn : ChangeCall → Type 0
  IsIn call = is_own_or_sync own call ≡ true

  front : (xs ys : List ChangeCall) → Each IsIn (xs ++ ys) → Each IsIn xs
  front [] ys all = tt
  front (x ∷ xs) ys all = (all.0, front xs ys all.1)

  -- a write and the next, where they are joined, are at one path
  parted : (path next : PathValue) (at n from m : ℕ) (calls : List ChangeCall) (b c : Bool) → path_eq path next ≡ b
      → Each IsIn (cond (b && c) (Write path at (n + m) ∷ calls) (Write path at n ∷ Write next from m ∷ calls)) → Each IsIn (Write path at n ∷ Write next from m ∷ calls)
  parted path next at n from m calls true true same all = (all.0, (subst (λ p. own p ≡ true) (path_eq-same path next same) all.0, all.1))
  parted path next at n from m calls true false same all = all
  parted path next at n from m calls false c same all = all

  onto-parts : (call : ChangeCall) (calls : List ChangeCall) → Each IsIn (joined_onto call calls) → Each IsIn (call ∷ calls)
  onto-parts (Write path at n) [] all = all
  onto-parts (Write path at n) (Write next from m ∷ calls) all = parted path next at n from m calls (path_eq path next) (from == at + n) refl all
  onto-parts (Write path at n) (Cut next size ∷ calls) all = all
  onto-parts (Write path at n) (MakeFile next ∷ calls) all = all
  onto-parts (Write path at n) (MakeFolder next ∷ calls) all = all
  onto-parts (Write path at n) (Remove next ∷ calls) all = all
  onto-parts (Write path at n) (Sync ∷ calls) all = all
  onto-parts (Cut path size) calls all = all
  onto-parts (MakeFile path) calls all = all
  onto-parts (MakeFolder path) calls all = all
  onto-parts (Remove path) calls all = all
  onto-parts Sync calls all = all

  joined-parts : (calls : List ChangeCall) → Each IsIn (joined_writes calls) → Each IsIn calls
  joined-parts [] all = tt
  joined-parts (call ∷ calls) all =
      let two = onto-parts call (joined_writes calls) all in
      (two.0, joined-parts calls two.1)

  by_joining : (path next : PathValue) (at n from m : ℕ) (calls : List ChangeCall) (b : Bool) → Each IsIn (Write path at n ∷ Write next from m ∷ calls)
      → Each IsIn (cond b (Write path at (n + m) ∷ calls) (Write path at n ∷ Write next from m ∷ calls))
  by_joining path next at n from m calls true all = (all.0, all.1.1)
  by_joining path next at n from m calls false all = all

  onto-joins : (call : ChangeCall) (calls : List ChangeCall) → Each IsIn (call ∷ calls) → Each IsIn (joined_onto call calls)
  onto-joins (Write path at n) [] all = all
  onto-joins (Write path at n) (Write next from m ∷ calls) all = by_joining path next at n from m calls (path_eq path next && (from == at + n)) all
  onto-joins (Write path at n) (Cut next size ∷ calls) all = all
  onto-joins (Write path at n) (MakeFile next ∷ calls) all = all
  onto-joins (Write path at n) (MakeFolder next ∷ calls) all = all
  onto-joins (Write path at n) (Remove next ∷ calls) all = all
  onto-joins (Write path at n) (Sync ∷ calls) all = all
  onto-joins (Cut path size) calls all = all
  onto-joins (MakeFile path) calls all = all
  onto-joins (MakeFolder path) calls all = all
  onto-joins (Remove path) calls all = all
  onto-joins Sync calls all = all

  joins : (calls : List ChangeCall) → Each IsIn calls → Each IsIn (joined_writes calls)
  joins [] all = tt
  joins (call ∷ calls) all = onto-joins call (joined_writes calls) (all.0, joins calls all.1)

  -- ---- lists that go on by them

  goes-each : (old made : List ChangeCall) → Each IsIn made → GoesBy (is_own_or_sync own) old (old ++ made)
  goes-each old [] all = subst (GoesBy (is_own_or_sync own) old) (sym (append-nil old)) Same
  goes-each old (call ∷ made) all =
      subst (GoesBy (is_own_or_sync own) old) (append_assoc old (call ∷ []) made)
      (goes-by_on (is_own_or_sync own) old (old ++ call ∷ []) ((old ++ call ∷ []) ++ made) (More call Same all.0 refl) (goes-each (old ++ call ∷ []) made all.1))

  -- changes whose calls are such ones ran, or the first of them
  pub runs-by : (changes : List Change) (old new : List ChangeCall) (c d : Contents) (done : Bool) → Each IsIn (map call_of changes) → Runs changes old new c d done → GoesBy (is_own_or_sync own) old new
  runs-by changes old new c d done all ran =
      subst (GoesBy (is_own_or_sync own) old) (sym ran.grew)
      (goes-each old ran.made (front ran.made ran.rest (joined-parts (ran.made ++ ran.rest) (subst (Each IsIn) (sym ran.joins) (joins (map call_of changes) all)))))

on-some : (own more : PathValue → Bool) (o : Option PathValue) → ((q : PathValue) → own q ≡ true → more q ≡ true) → is_on own o ≡ true → at_or_none more o ≡ true
on-some own more None w is = refl
on-some own more (Some path) w is = w path is

on-more : (own more : PathValue → Bool) (o : Option PathValue) → ((q : PathValue) → own q ≡ true → more q ≡ true) → at_or_none own o ≡ true → at_or_none more o ≡ true
on-more own more None w is = refl
on-more own more (Some path) w is = w path is

-- ---- at the mark, and below the folder of copies

abbrev pub AtMark : PathValue → (old new : List ChangeCall) → Type 0
AtMark mark old new = GoesBy (is_own_or_sync (λ p. path_eq p mark)) old new

pub mark-lays : (root : PathValue) (old new : List ChangeCall) → AtMark (mark_of root) old new → LaysOnly root old new
mark-lays root old new at =
    goes-by_wider (is_own_or_sync (λ p. path_eq p (mark_of root))) (is_own_or_sync (is_laid_at root)) old new
    (λ call. on-more (λ p. path_eq p (mark_of root)) (is_laid_at root) (changed_path call) (λ q same. ap (λ b. b || is_held (shadow_folder root) q) same)) at

either-true : (b : Bool) → (b || true) ≡ true
either-true true = refl
either-true false = refl

pub copies-lay : (root : PathValue) (old new : List ChangeCall) → GoesOn (is_held (shadow_folder root)) old new → LaysOnly root old new
copies-lay root old new on =
    goes-by_wider (is_own (is_held (shadow_folder root))) (is_own_or_sync (is_laid_at root)) old new
    (λ call. on-some (is_held (shadow_folder root)) (is_laid_at root) (changed_path call) (λ q held. ap (λ b. path_eq q (mark_of root) || b) held ∙ either-true (path_eq q (mark_of root)))) on

pub lays-on : (root : PathValue) (a b c : List ChangeCall) → LaysOnly root a b → LaysOnly root b c → LaysOnly root a c
lays-on root a b c one two = goes-by_on (is_own_or_sync (is_laid_at root)) a b c one two

module _ (mark : PathValue) (old new : List ChangeCall) (c d : Contents) (done : Bool) where
  abbrev own : PathValue → Bool
  own p = path_eq p mark

  head-each : (head : List ℕ) (stood : Bool) → Each (IsIn own) (map call_of (cond stood (Cuts mark 0 ∷ Syncs ∷ []) (MakesFile mark ∷ []) ++ Writes mark 0 head ∷ Syncs ∷ []))
  head-each head true = (path_eq-own mark, (refl, (path_eq-own mark, (refl, tt))))
  head-each head false = (path_eq-own mark, (path_eq-own mark, (refl, tt)))

  pub head-at : (head : List ℕ) → Runs (head_laid c mark head) old new c d done → AtMark mark old new
  head-at head ran = runs-by own (head_laid c mark head) old new c d done (head-each head (is_file (entry_at c mark))) ran

  text-each : (at : ℕ) (text : List ℕ) → Each (IsIn own) (map call_of (text_laid mark at text))
  text-each at [] = (refl, tt)
  text-each at (byte ∷ text) = (path_eq-own mark, (refl, tt))

  pub text-at : (at : ℕ) (text : List ℕ) → Runs (text_laid mark at text) old new c d done → AtMark mark old new
  text-at at text ran = runs-by own (text_laid mark at text) old new c d done (text-each at text) ran

  pub gate-at : (at : ℕ) → Runs (gate_opened mark at) old new c d done → AtMark mark old new
  gate-at at ran = runs-by own (gate_opened mark at) old new c d done (path_eq-own mark, (refl, tt)) ran

  pub end-at : Runs (ended mark) old new c d done → AtMark mark old new
  end-at ran = runs-by own (ended mark) old new c d done (refl, (path_eq-own mark, (refl, tt))) ran
