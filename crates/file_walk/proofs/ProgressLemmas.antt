-- How far a walk has come: of all that lies below the root, the first ones are listed, and of the others those wait that lie in one of them.
use Rattle.std.proofs.Common.{◌≡◌, ◌⊎◌, ℕ, ◌+◌, ◌-◌, ◌<◌, Bool, true, false, T, cond, ◌&&◌, ◌||◌, nat_lt, inl, inr, List, [], ◌∷◌, ◌++◌, length, drop, map, filter, Option, None, Some, Ok, Err, is_some, refl, ap, ap₂, sym, subst, ◌∙◌, append_assoc, append-nil, true≢false, arith}
use Rattle.std.proofs.lemmas.Bool.Decides.{nat_tests}
use Rattle.std.proofs.lemmas.List.{length-drop}
use Rattle.std.proofs.lemmas.List.Elements.{filter_map-append}
use Rattle.std.specs.declared.cmp.Ordering.{Ordering}
use Rattle.std.specs.declared.cmp.Ordering.TheVariants.{Less, Equal, Greater}
use Rattle.std.specs.FinMap.{find, get, get-entries, entries, entries_sorted}
use Rattle.std.specs.FinMap.Entries.{below_all, is_sorted}
use Rattle.std.specs.List.{cons_option, filter_map, list_all}
use Rattle.std.specs.Cmp.{tied_itself}
use Rattle.std.specs.Ordering.{is_lt}
use Rattle.cluster_tree.specs.Causes.{first_of, unless}
use Rattle.cluster_tree.specs.Contents.{Contents, Entry, FolderEntry, FileEntry, IsTree, entry_at, is_folder, or_root}
use Rattle.cluster_tree.specs.Folders.{IsListing, lies_in}
use Rattle.cluster_tree.specs.PathOrder.{path_eq}
use Rattle.cluster_tree.specs.PathValue.{PathValue, below, front, is_part, path_cmp, path_text}
use Rattle.cluster_tree.proofs.OrderLemmas.{path_cmp_total, path_eq-own, path_eq-same}
use Rattle.file_walk.specs.declared.entries.Listed.{Listed}
use Rattle.file_walk.specs.declared.entry.Entry.{Entry as Walked}
use Rattle.file_walk.specs.declared.entry.EntryKind.{EntryKind}
use Rattle.file_walk.specs.declared.entry.EntryKind.TheVariants.{File, Folder}
use Rattle.file_walk.specs.declared.fault.WalkFault.{WalkFault}
use Rattle.file_walk.specs.declared.fault.WalkFault.TheVariants as fault
use Rattle.file_walk.specs.declared.place.Place.{Place}
use Rattle.file_walk.specs.declared.waiting.Waiting.{Waiting}
use Rattle.file_walk.specs.declared.waiting.Waiting.TheVariants.{At, TooDeep}
use Rattle.file_walk.specs.Faults.{IsFree}
use Rattle.file_walk.specs.Seeing.{HasFlaw}
use Rattle.file_walk.specs.Stepping.{FitsNext, FitsStep, IsFileStep, IsFirstThere, IsFolderStep, IsThere}
use Rattle.file_walk.specs.Walk.{HasParts, entry_flaw, flaw_at, found_below, root_flaw, size_flaw, walk_of, walked}
use Rattle.file_walk.specs.Waiting.{put_names}
use Rattle.file_walk.proofs.AscendLemmas.{key, value, deeper, proper_below}
use Rattle.file_walk.proofs.ClosedLemmas.{In, found_stands, in_middle, Stands}
use Rattle.file_walk.proofs.FolderStepLemmas.{folder_on}
use Rattle.file_walk.proofs.FoundLemmas.{back_below}
use Rattle.file_walk.proofs.LoopLemmas.{next_is, none_left, same_pass}
use Rattle.file_walk.proofs.NamedLemmas.{AreNamed, named_by, parts_below}
use Rattle.file_walk.proofs.QueueLemmas.{entry, Ascends, IsClosed, waits, waits_more}
use Rattle.file_walk.proofs.StepLemmas.{place_of, waiting_of}
use Rattle.file_walk.proofs.WholeLemmas.{holds, top}

-- what waits when these are done
abbrev pub queue_of : (root : PathValue) → (done others : List (PathValue × Entry)) → List (List ℕ × Waiting)
queue_of root done others = map (entry (key root) (value root)) (filter (waits top holds done) others)

-- what lies right in a folder that is done has a name that is a part
abbrev pub FoldersNamed : Contents → PathValue → List (PathValue × Entry) → Type 0
FoldersNamed c root done = (x : PathValue × Entry) → In x done → is_folder (Some x.1) ≡ true → AreNamed c (below root x.0.parts)

pub record Progress (c : Contents) (root : PathValue) (listed : List Walked) (queue : List (List ℕ × Waiting)) : Type 0 where
  pub done : List (PathValue × Entry)
  pub others : List (PathValue × Entry)
  pub split : found_below c root ≡ done ++ others
  pub listed_is : listed ≡ filter_map walked done
  pub flawless : first_of (map (flaw_at (length root.parts)) done) ≡ None
  pub queue_is : queue ≡ queue_of root done others
  pub closed : IsClosed top holds done others
  pub ascends : Ascends (key root) (value root) (done ++ others)
  pub named : FoldersNamed c root done

-- the same where something waits: the first of the others is next
pub record Next (c : Contents) (root : PathValue) (listed : List Walked) (w : Waiting) (rest : List (List ℕ × Waiting)) : Type 0 where
  pub done : List (PathValue × Entry)
  pub x : PathValue × Entry
  pub others : List (PathValue × Entry)
  pub split : found_below c root ≡ done ++ x ∷ others
  pub listed_is : listed ≡ filter_map walked done
  pub flawless : first_of (map (flaw_at (length root.parts)) done) ≡ None
  pub next_waits : w ≡ waiting_of root x.0
  pub rest_is : rest ≡ queue_of root done others
  pub closed : IsClosed top holds done (x ∷ others)
  pub ascends : Ascends (key root) (value root) (done ++ x ∷ others)
  pub named : FoldersNamed c root done

heads : {S V : Type 0} (s t : S) (v w : V) (xs ys : List (S × V)) → (s, v) ∷ xs ≡ (t, w) ∷ ys → (v ≡ w) × (xs ≡ ys)
heads {S} {V} s t v w xs ys is = let two : let P : Type 0 = S × V in let a : P = (s, v) in a ≡ (t, w) = cc in (ap (λ (p : S × V). p.1) two, cc)

next_of : (c : Contents) (root : PathValue) (listed : List Walked) (text : List ℕ) (w : Waiting) (rest : List (List ℕ × Waiting))
    → (p : Progress c root listed ((text, w) ∷ rest)) → (others : List (PathValue × Entry)) → p.others ≡ others → Next c root listed w rest
next_of c root listed text w rest p [] is =
    absurd (let wrong : (text, w) ∷ rest ≡ [] = p.queue_is ∙ ap (queue_of root p.done) is in cc)
next_of c root listed text w rest p (x ∷ others) is =
    let closed : IsClosed top holds p.done (x ∷ others) = subst (IsClosed top holds p.done) is p.closed in
    let two : (text, w) ∷ rest ≡ (path_text x.0, waiting_of root x.0) ∷ queue_of root p.done others =
    p.queue_is ∙ ap (queue_of root p.done) is ∙ next_is (key root) (value root) top holds p.done x others closed in
    let is_next : (w ≡ waiting_of root x.0) × (rest ≡ queue_of root p.done others) = heads text (path_text x.0) w (waiting_of root x.0) rest (queue_of root p.done others) two in
    record {
      done = p.done;
      x = x;
      others = others;
      split = p.split ∙ ap (λ l. p.done ++ l) is;
      listed_is = p.listed_is;
      flawless = p.flawless;
      next_waits = is_next.0;
      rest_is = is_next.1;
      closed = closed;
      ascends = subst (λ l. Ascends (key root) (value root) (p.done ++ l)) is p.ascends;
      named = p.named;
    }

next_up : (c : Contents) (root : PathValue) (listed : List Walked) (text : List ℕ) (w : Waiting) (rest : List (List ℕ × Waiting)) → Progress c root listed ((text, w) ∷ rest) → Next c root listed w rest
next_up c root listed text w rest p = next_of c root listed text w rest p p.others refl

-- ---- what is found is what stands there

less_of : (o : Ordering) → o ≡ Less → o ≡ Equal → ⊥
less_of o l e = absurd (let wrong : Less ≡ Equal = sym l ∙ e in cc)

less : (o : Ordering) → T (is_lt o) → o ≡ Less
less Less h = refl
less Equal h = absurd h
less Greater h = absurd h

first : (a b : Bool) → T (a && b) → T a
first true b h = tt
first false b h = h

second : (a b : Bool) → T (a && b) → T b
second true b h = h
second false b h = absurd h

apart : (q p : PathValue) → T (is_lt (path_cmp p q)) → path_eq q p ≡ false
apart q p h = by (path_eq q p) refl
  where
    by : (b : Bool) → path_eq q p ≡ b → b ≡ false
    by false is = refl
    by true is =
        let same : q ≡ p = path_eq-same q p is in
        absurd (less_of (path_cmp p p) (less (path_cmp p p) (subst (λ r. T (is_lt (path_cmp p r))) same h)) (tied_itself path_cmp_total p))

above_in : (p q : PathValue) (e : Entry) (es : List (PathValue × Entry)) → T (below_all path_cmp p es) → In (q, e) es → T (is_lt (path_cmp p q))
above_in p q e [] h k = absurd k
above_in p q e (x ∷ es) h (inl same) = subst (λ (y : PathValue × Entry). T (is_lt (path_cmp p y.0))) (sym same) (first _ _ h)
above_in p q e (x ∷ es) h (inr later) = above_in p q e es (second _ _ h) later

pub find_in : (es : List (PathValue × Entry)) (q : PathValue) (e : Entry) → T (is_sorted path_cmp es) → In (q, e) es → find path_cmp q es ≡ Some e
unfolding path_eq
find_in [] q e h k = absurd k
find_in (x ∷ es) q e h (inl same) =
    let own : path_eq q x.0 ≡ true = ap (path_eq q) (sym (ap (λ (p : PathValue × Entry). p.0) same)) ∙ path_eq-own q in
    ap (λ b. cond b (Some x.1) (find path_cmp q es)) own ∙ ap (λ (v : Entry). Some v) (sym (ap (λ (p : PathValue × Entry). p.1) same))
find_in (x ∷ es) q e h (inr later) =
    ap (λ b. cond b (Some x.1) (find path_cmp q es)) (apart q x.0 (above_in x.0 q e es (first _ _ h) later)) ∙ find_in es q e (second _ _ h) later

-- what is known of what is found
pub record Stood (c : Contents) (root : PathValue) (x : PathValue × Entry) : Type 0 where
  pub relative : x.0.absolute ≡ false
  pub some : 0 < length x.0.parts
  pub proper : list_all is_part (root.parts ++ x.0.parts) ≡ true
  pub got : get c (below root x.0.parts) ≡ Some x.1
  pub there : entry_at c (below root x.0.parts) ≡ Some x.1

pub stood : (c : Contents) (root : PathValue) (x : PathValue × Entry) → In x (found_below c root) → Stood c root x
unfolding found_below
stood c root x h =
    let s : Stands root (entries c) x = found_stands root (entries c) x h in
    let whole : s.path ≡ below root x.0.parts = back_below root s.path s.low ∙ ap (λ (p : PathValue). below root p.parts) (sym s.own) in
    let low : length root.parts < length s.path.parts = deeper root s.path s.low in
    let size : length (drop (length root.parts) s.path.parts) ≡ length s.path.parts - length root.parts = length-drop (length root.parts) s.path.parts in
    let same : length x.0.parts ≡ length (drop (length root.parts) s.path.parts) = ap (λ (p : PathValue). length p.parts) s.own in
    let got : get c (below root x.0.parts) ≡ Some x.1 = ap (get c) (sym whole) ∙ get-entries c s.path ∙ find_in (entries c) s.path x.1 (entries_sorted c) s.there in
    record {
      relative = ap (λ (p : PathValue). p.absolute) s.own;
      some = omega (arith, low, size, same);
      proper = ap (λ (p : PathValue). list_all is_part p.parts) (sym whole) ∙ proper_below root s.path s.low;
      got = got;
      there = ap (or_root (root.parts ++ x.0.parts)) got;
    }

-- ---- flaws

within : (n : ℕ) → nat_lt n 65 ≡ true → nat_lt 64 n ≡ false
within n h = grind (arith, nat_tests)

beyond : (n : ℕ) → nat_lt n 65 ≡ false → nat_lt 64 n ≡ true
beyond n h = grind (arith, nat_tests)

flaw_low : (depth : ℕ) (x : PathValue × Entry) → nat_lt (depth + length x.0.parts) 65 ≡ true → flaw_at depth x ≡ entry_flaw x.0 x.1
flaw_low depth x h = ap (λ b. cond b (Some (fault.TooDeep (front 64 x.0))) (entry_flaw x.0 x.1)) (within (depth + length x.0.parts) h)

flaw_deep : (depth : ℕ) (x : PathValue × Entry) → nat_lt (depth + length x.0.parts) 65 ≡ false → flaw_at depth x ≡ Some (fault.TooDeep (front 64 x.0))
flaw_deep depth x h = ap (λ b. cond b (Some (fault.TooDeep (front 64 x.0))) (entry_flaw x.0 x.1)) (beyond (depth + length x.0.parts) h)

module _ {X E : Type 0} (f : X → Option E) where
  first_on : (xs ys : List X) → first_of (map f xs) ≡ None → first_of (map f (xs ++ ys)) ≡ first_of (map f ys)
  unfolding first_of
  first_on [] ys h = refl
  first_on (x ∷ xs) ys h = by (f x) (first_on xs ys) h
    where
      by : (o : Option E) → (first_of (map f xs) ≡ None → first_of (map f (xs ++ ys)) ≡ first_of (map f ys)) → first_of (o ∷ map f xs) ≡ None → first_of (o ∷ map f (xs ++ ys)) ≡ first_of (map f ys)
      by None rest h = rest h
      by (Some e) rest h = absurd (let wrong : Some e ≡ None = h in cc)

  first_flaw : (x : X) (xs : List X) (e : E) → f x ≡ Some e → first_of (map f (x ∷ xs)) ≡ Some e
  unfolding first_of
  first_flaw x xs e h = ap (λ o. first_of (o ∷ map f xs)) h

  first_fine : (x : X) → f x ≡ None → first_of (map f (x ∷ [])) ≡ None
  unfolding first_of
  first_fine x h = ap (λ o. first_of (o ∷ [])) h

module _ (c : Contents) (root : PathValue) where
  abbrev pub flaw : PathValue × Entry → Option WalkFault
  flaw x = flaw_at (length root.parts) x

  walk_fails : (e : WalkFault) → root_flaw root (entry_at c root) ≡ None → first_of (map flaw (found_below c root)) ≡ Some e → walk_of c root ≡ Err e
  unfolding walk_of
  walk_fails e fine h =
      ap (λ o. unless o (unless (first_of (map flaw (found_below c root))) (Ok (filter_map walked (found_below c root))))) fine
      ∙ ap (λ o. unless o (Ok (filter_map walked (found_below c root)))) h

  walk_ends : root_flaw root (entry_at c root) ≡ None → first_of (map flaw (found_below c root)) ≡ None → walk_of c root ≡ Ok (filter_map walked (found_below c root))
  unfolding walk_of
  walk_ends fine h =
      ap (λ o. unless o (unless (first_of (map flaw (found_below c root))) (Ok (filter_map walked (found_below c root))))) fine
      ∙ ap (λ o. unless o (Ok (filter_map walked (found_below c root)))) h

  -- where nothing waits, all that was found is listed
  ended : (listed : List Walked) → Progress c root listed [] → root_flaw root (entry_at c root) ≡ None → walk_of c root ≡ Ok listed
  ended listed p fine =
      let none : p.others ≡ [] = none_left (key root) (value root) top holds p.done p.others p.closed (sym p.queue_is) in
      let all : found_below c root ≡ p.done = p.split ∙ ap (λ l. p.done ++ l) none ∙ append-nil p.done in
      walk_ends fine (ap (λ l. first_of (map flaw l)) all ∙ p.flawless)
      ∙ ap (λ (l : List Walked). Ok l) (ap (filter_map walked) all ∙ sym p.listed_is)

  -- and all that lies below the root is of proper parts
  ended_parts : (listed : List Walked) → Progress c root listed [] → IsTree c → list_all is_part root.parts ≡ true → AreNamed c root → HasParts c root
  ended_parts listed p tree proper root_named =
      let none : p.others ≡ [] = none_left (key root) (value root) top holds p.done p.others p.closed (sym p.queue_is) in
      let all : found_below c root ≡ p.done = p.split ∙ ap (λ l. p.done ++ l) none ∙ append-nil p.done in
      parts_below c root tree proper root_named (λ x inside folder. p.named x (subst (In x) all inside) folder)

  module _ (listed : List Walked) where
    next_stood : (w : Waiting) (rest : List (List ℕ × Waiting)) (n : Next c root listed w rest) → Stood c root n.x
    next_stood w rest n = stood c root n.x (subst (In n.x) (sym n.split) (in_middle n.x n.done n.others))

    next_flawed : (w : Waiting) (rest : List (List ℕ × Waiting)) (n : Next c root listed w rest) (e : WalkFault) → root_flaw root (entry_at c root) ≡ None → flaw n.x ≡ Some e → walk_of c root ≡ Err e
    next_flawed w rest n e fine h =
        walk_fails e fine (ap (λ l. first_of (map flaw l)) n.split ∙ first_on flaw n.done (n.x ∷ n.others) n.flawless ∙ first_flaw flaw n.x n.others e h)

    named_more : (done : List (PathValue × Entry)) (x : PathValue × Entry) → FoldersNamed c root done → (is_folder (Some x.1) ≡ true → AreNamed c (below root x.0.parts)) → FoldersNamed c root (done ++ x ∷ [])
    named_more [] x before names y (inl same) folder =
        subst (λ (z : PathValue × Entry). AreNamed c (below root z.0.parts)) (sym same) (names (ap (λ (z : PathValue × Entry). is_folder (Some z.1)) (sym same) ∙ folder))
    named_more [] x before names y (inr none) folder = absurd none
    named_more (d ∷ done) x before names y (inl same) folder = before y (inl same) folder
    named_more (d ∷ done) x before names y (inr later) folder = named_more done x (λ z k. before z (inr k)) names y later folder

    advance : (w : Waiting) (rest : List (List ℕ × Waiting)) (n : Next c root listed w rest) (e : Walked) (new : List (List ℕ × Waiting))
        → flaw n.x ≡ None → walked n.x ≡ Some e → new ≡ queue_of root (n.done ++ n.x ∷ []) n.others
        → (is_folder (Some n.x.1) ≡ true → AreNamed c (below root n.x.0.parts)) → Progress c root (listed ++ e ∷ []) new
    advance w rest n e new fine is queued names = record {
      done = n.done ++ n.x ∷ [];
      others = n.others;
      split = n.split ∙ sym (append_assoc n.done (n.x ∷ []) n.others);
      listed_is = ap (λ l. l ++ e ∷ []) n.listed_is ∙ sym (filter_map-append walked n.done (n.x ∷ []) ∙ ap (λ o. filter_map walked n.done ++ cons_option o []) is);
      flawless = first_on flaw n.done (n.x ∷ []) n.flawless ∙ first_fine flaw n.x fine;
      queue_is = queued;
      closed = n.closed.1;
      ascends = subst (Ascends (key root) (value root)) (sym (append_assoc n.done (n.x ∷ []) n.others)) n.ascends;
      named = named_more n.done n.x n.named names;
    }

or_false : (b : Bool) → (b || false) ≡ b
or_false true = refl
or_false false = refl

abbrev pub entry_of : PathValue → EntryKind → Walked
entry_of path kind = record { path = path; kind = kind }

-- ---- what waits is that of a path

at_is : (root own : PathValue) (place : Place) → At place ≡ waiting_of root own → (place ≡ place_of root own) × (nat_lt (length root.parts + length own.parts) 65 ≡ true)
at_is root own place is = by (nat_lt (length root.parts + length own.parts) 65) refl is
  where
    by : (b : Bool) → nat_lt (length root.parts + length own.parts) 65 ≡ b → At place ≡ cond b (At (place_of root own)) (TooDeep (front 64 own)) → (place ≡ place_of root own) × (nat_lt (length root.parts + length own.parts) 65 ≡ true)
    by true low is = (cc, low)
    by false low is = absurd (let wrong : At place ≡ TooDeep (front 64 own) = is in cc)

deep_is : (root own path : PathValue) → TooDeep path ≡ waiting_of root own → (path ≡ front 64 own) × (nat_lt (length root.parts + length own.parts) 65 ≡ false)
deep_is root own path is = by (nat_lt (length root.parts + length own.parts) 65) refl is
  where
    by : (b : Bool) → nat_lt (length root.parts + length own.parts) 65 ≡ b → TooDeep path ≡ cond b (At (place_of root own)) (TooDeep (front 64 own)) → (path ≡ front 64 own) × (nat_lt (length root.parts + length own.parts) 65 ≡ false)
    by true low is = absurd (let wrong : TooDeep path ≡ At (place_of root own) = is in cc)
    by false low is = (cc, low)

module _ (c : Contents) (root : PathValue) (listed : List Walked) where
  -- what stands where the next one waits
  there_at : (place : Place) (rest : List (List ℕ × Waiting)) (n : Next c root listed (At place) rest) (e : Entry) → entry_at c place.full ≡ Some e → n.x.1 ≡ e
  there_at place rest n e h =
      let s = next_stood c root listed (At place) rest n in
      let full : place.full ≡ below root n.x.0.parts = ap (λ (p : Place). p.full) (at_is root n.x.0 place n.next_waits).0 in
      let some : Some n.x.1 ≡ Some e = sym s.there ∙ ap (entry_at c) (sym full) ∙ h in
      cc

  is_there : (w : Waiting) (rest : List (List ℕ × Waiting)) → Next c root listed w rest → IsThere c w
  is_there (TooDeep path) rest n = tt
  is_there (At place) rest n =
      let s = next_stood c root listed (At place) rest n in
      let full : place.full ≡ below root n.x.0.parts = ap (λ (p : Place). p.full) (at_is root n.x.0 place n.next_waits).0 in
      ap (λ (p : PathValue). is_some (get c p)) full ∙ ap is_some s.got

  file_on : (place : Place) (rest new : List (List ℕ × Waiting)) (e : Walked) → Next c root listed (At place) rest → IsFileStep c place rest new e → Progress c root (listed ++ e ∷ []) new
  file_on place rest new e n f =
      let a = at_is root n.x.0 place n.next_waits in
      let own : place.own ≡ n.x.0 = ap (λ (p : Place). p.own) a.0 in
      let kind : n.x.1 ≡ FileEntry f.bytes = there_at place rest n (FileEntry f.bytes) f.there in
      advance c root listed (At place) rest n e new
      (flaw_low (length root.parts) n.x a.1 ∙ ap (entry_flaw n.x.0) kind ∙ ap (λ (p : PathValue). size_flaw p (length f.bytes)) (sym own) ∙ f.sound)
      (ap (λ (v : Entry). walked (n.x.0, v)) kind ∙ ap (λ (p : PathValue). Some (entry_of p (File (length f.bytes)))) (sym own) ∙ ap (λ (v : Walked). Some v) (sym f.told))
      (f.kept ∙ n.rest_is ∙ ap (map (entry (key root) (value root))) (same_pass (waits top holds n.done) (waits top holds (n.done ++ n.x ∷ [])) n.others
      (λ y. sym (waits_more top holds n.done n.x y ∙ ap (λ (v : Entry). waits top holds n.done y || (is_folder (Some v) && lies_in n.x.0 y.0)) kind ∙ or_false (waits top holds n.done y)))))
      (λ folder. absurd (true≢false (sym folder ∙ ap (λ (v : Entry). is_folder (Some v)) kind)))

  folder_done : (place : Place) (rest new : List (List ℕ × Waiting)) (e : Walked) → Next c root listed (At place) rest → IsFolderStep c place rest new e → Progress c root (listed ++ e ∷ []) new
  folder_done place rest new e n f =
      let a = at_is root n.x.0 place n.next_waits in
      let s = next_stood c root listed (At place) rest n in
      let own : place.own ≡ n.x.0 = ap (λ (p : Place). p.own) a.0 in
      let full : place.full ≡ below root n.x.0.parts = ap (λ (p : Place). p.full) a.0 in
      let kind : n.x.1 ≡ FolderEntry false = there_at place rest n (FolderEntry false) f.there in
      advance c root listed (At place) rest n e new
      (flaw_low (length root.parts) n.x a.1 ∙ ap (entry_flaw n.x.0) kind)
      (ap (λ (v : Entry). walked (n.x.0, v)) kind ∙ ap (λ (p : PathValue). Some (entry_of p Folder)) (sym own) ∙ ap (λ (v : Walked). Some v) (sym f.told))
      (f.added ∙ ap₂ (λ (p : Place) (l : List (List ℕ × Waiting)). put_names p l f.names) a.0 n.rest_is
      ∙ folder_on root n.x s.relative s.some c n.done n.others n.split n.ascends (ap (λ (v : Entry). is_folder (Some v)) kind) s.proper f.names (subst (λ (p : PathValue). IsListing c p f.names) full f.listing) f.parts)
      (λ folder. named_by c (below root n.x.0.parts) f.names (subst (λ (p : PathValue). IsListing c p f.names) full f.listing) f.parts)

  look_on : (place : Place) (rest new : List (List ℕ × Waiting)) (e : Walked) → Next c root listed (At place) rest → (IsFileStep c place rest new e ⊎ IsFolderStep c place rest new e) → Progress c root (listed ++ e ∷ []) new
  look_on place rest new e n (inl f) = file_on place rest new e n f
  look_on place rest new e n (inr f) = folder_done place rest new e n f

  -- a step that tells an entry goes on
  step_on : (w : Waiting) (rest new : List (List ℕ × Waiting)) (e : Walked) → Next c root listed w rest → FitsStep c w rest new (Ok e) → Progress c root (listed ++ e ∷ []) new
  step_on (At place) rest new e n h = look_on place rest new e n h
  step_on (TooDeep path) rest new e n h = absurd h

  look_fails : (place : Place) (rest : List (List ℕ × Waiting)) (e : WalkFault) → root_flaw root (entry_at c root) ≡ None → Next c root listed (At place) rest → (IsFree e ⊎ HasFlaw c place.own place.full e) → IsFree e ⊎ (walk_of c root ≡ Err e)
  look_fails place rest e fine n (inl free) = inl free
  look_fails place rest e fine n (inr f) =
      let a = at_is root n.x.0 place n.next_waits in
      let own : place.own ≡ n.x.0 = ap (λ (p : Place). p.own) a.0 in
      let kind : n.x.1 ≡ f.entry = there_at place rest n f.entry f.there in
      inr (next_flawed c root listed (At place) rest n e fine (flaw_low (length root.parts) n.x a.1 ∙ ap₂ entry_flaw (sym own) kind ∙ f.flawed))

  -- and one that tells a flaw tells that of the least path
  step_fails : (w : Waiting) (rest new : List (List ℕ × Waiting)) (e : WalkFault) → root_flaw root (entry_at c root) ≡ None → Next c root listed w rest → FitsStep c w rest new (Err e) → IsFree e ⊎ (walk_of c root ≡ Err e)
  step_fails (At place) rest new e fine n h = look_fails place rest e fine n h
  step_fails (TooDeep path) rest new e fine n h =
      let d = deep_is root n.x.0 path n.next_waits in
      inr (next_flawed c root listed (TooDeep path) rest n e fine (flaw_deep (length root.parts) n.x d.1 ∙ ap (λ (p : PathValue). Some (fault.TooDeep p)) (sym d.0) ∙ ap (λ (v : WalkFault). Some v) (sym h)))

  -- ---- the least path that waits

  pub first_there : (queue : List (List ℕ × Waiting)) → Progress c root listed queue → IsFirstThere c queue
  first_there [] p = tt
  first_there (e ∷ rest) p = is_there e.1 rest (next_up c root listed e.0 e.1 rest p)

  pub went_on : (old new : List (List ℕ × Waiting)) (l : Listed) → Progress c root listed old → FitsNext c old new (Ok (Some l)) → Progress c root (listed ++ l.entry ∷ []) new
  went_on [] new l p h = absurd (let wrong : Some l ≡ None = cc in cc)
  went_on (e ∷ rest) new l p h = step_on e.1 rest new l.entry (next_up c root listed e.0 e.1 rest p) h

  pub went_wrong : (old new : List (List ℕ × Waiting)) (e : WalkFault) → root_flaw root (entry_at c root) ≡ None → Progress c root listed old → FitsNext c old new (Err e) → IsFree e ⊎ (walk_of c root ≡ Err e)
  went_wrong [] new e fine p h = absurd cc
  went_wrong (x ∷ rest) new e fine p h = step_fails x.1 rest new e fine (next_up c root listed x.0 x.1 rest p) h

  none_waits : (old new : List (List ℕ × Waiting)) → FitsNext c old new (Ok None) → old ≡ []
  none_waits [] new h = refl
  none_waits (e ∷ rest) new h = absurd h

  pub at_end : (old new : List (List ℕ × Waiting)) → root_flaw root (entry_at c root) ≡ None → Progress c root listed old → FitsNext c old new (Ok None) → walk_of c root ≡ Ok listed
  at_end old new fine p h = ended c root listed (subst (Progress c root listed) (none_waits old new h) p) fine

  pub parts_at_end : (old new : List (List ℕ × Waiting)) → IsTree c → list_all is_part root.parts ≡ true → AreNamed c root → Progress c root listed old → FitsNext c old new (Ok None) → HasParts c root
  parts_at_end old new tree proper named p h = ended_parts c root listed (subst (Progress c root listed) (none_waits old new h) p) tree proper named
