-- Images of calls: of the first of them, of joined ones, and of those that ran.
use Rattle.std.proofs.Common.{◌≡◌, ◌≤◌, ℕ, ◌+◌, ◌-◌, ◌==◌, ◌&&◌, ◌<◌, Bool, true, false, cond, nat_lt, List, [], ◌∷◌, ◌++◌, length, map, take, drop, Option, Some, None, refl, ap, sym, ◌∙◌, subst, inl, inr, ⊎_elim, arith, rules, append_assoc, true≢false}
use Rattle.std.proofs.lemmas.Bool.{cases_lt, eqb-true}
use Rattle.std.specs.FinMap.{insert}
use Rattle.std.proofs.lemmas.List.{append_cancel_left, drop-drop, drop_at, length-append, length-drop, length-take-le, take-take, take_at, drop_all}
use Rattle.cluster_tree.specs.Change.{Change, call_of}
use Rattle.cluster_tree.specs.Contents.{Contents, Entry, FileEntry, FolderEntry, LinkEntry, entry_at}
use Rattle.cluster_tree.specs.Joined.{joined_onto, joined_writes}
use Rattle.cluster_tree.specs.PathOrder.{path_eq}
use Rattle.cluster_tree.specs.PathValue.{PathValue}
use Rattle.cluster_tree.specs.Run.{Moment, Course, Still, Call}
use Rattle.cluster_tree.specs.Step.{MayTear, Step, TornBytes, TornFile}
use Rattle.cluster_tree.specs.Stops.{IsImage, LeavesOnly}
use Rattle.cluster_tree.specs.Tree.{bytes_at, bytes_in, file_of, refusal_past}
use Rattle.cluster_tree.specs.declared.tree.ChangeCall.{ChangeCall}
use Rattle.cluster_tree.specs.declared.tree.ChangeCall.TheVariants.{Write, Cut, MakeFile, MakeFolder, Remove, Sync}
use Rattle.cluster_tree.specs.declared.tree.TreeFault.TheVariants as fault
use Rattle.cluster_tree.proofs.ContentsLemmas.{entry-put, put-put, write_refusal-put}
use Rattle.cluster_tree.proofs.Images.{HoldsSince, Turns, Within, course_calls, holds_first, holds_on, image-more, leaves_only}
use Rattle.cluster_tree.proofs.OrderLemmas.{path_eq-same}
use Rattle.marked_runs.specs.Runs.{Runs}
use Rattle.gated_marks.specs.Left.{IsLeftOf}

-- ---- no call has to happen

pub still : (call : ChangeCall) (c : Contents) → Step call c c
still (Write path at n) c = inl refl
still (Cut path size) c = inl refl
still (MakeFile path) c = inl refl
still (MakeFolder path) c = inl refl
still (Remove path) c = inl refl
still Sync c = refl

pub none-happened : (calls : List ChangeCall) (c : Contents) → IsImage c calls c
none-happened [] c = refl
none-happened (call ∷ calls) c = (c, still call c, none-happened calls c)

-- so an image of some calls is one of more
pub image-front : (calls more : List ChangeCall) (s c : Contents) → IsImage s calls c → IsImage s (calls ++ more) c
image-front [] more s c e = subst (λ x. IsImage s more x) (sym e) (none-happened more s)
image-front (call ∷ calls) more s c image = (image.0, image.1, image-front calls more image.0 c image.2)

-- ---- a write is two, one for the first bytes and one for the rest

-- torn bytes in a part of a range are torn in all of it
torn_wider : (at n from m : ℕ) (old new : List ℕ) → at ≤ from → from + m ≤ at + n → TornBytes from m old new → TornBytes at n old new
torn_wider at n from m old new low high t = record {
  before = sym (take-take at from new low) ∙ ap (take at) t.before ∙ take-take at from old low;
  after = let e : (from + m) + ((at + n) - (from + m)) ≡ at + n = omega (arith, high) in
      ap (λ k. drop k new) (sym e) ∙ sym (drop-drop ((at + n) - (from + m)) (from + m) new) ∙ ap (drop ((at + n) - (from + m))) t.after
      ∙ drop-drop ((at + n) - (from + m)) (from + m) old ∙ ap (λ k. drop k old) e;
  no_shorter = t.no_shorter;
  no_longer = omega (arith, t.no_longer, high);
}

torn_on : (at n : ℕ) (a b c : List ℕ) → TornBytes at n a b → TornBytes at n b c → TornBytes at n a c
torn_on at n a b c t u = record {
  before = u.before ∙ t.before;
  after = u.after ∙ t.after;
  no_shorter = omega (arith, t.no_shorter, u.no_shorter);
  no_longer = omega (arith, t.no_longer, u.no_longer);
}

-- the first bytes are torn and the rest aren't yet
abbrev halfway : (k : ℕ) (old new : List ℕ) → List ℕ
halfway k old new = take k new ++ drop k old

halfway-length : (k : ℕ) (old new : List ℕ) → k ≤ length new → length (halfway k old new) ≡ k + (length old - k)
halfway-length k old new fits = length-append (take k new) (drop k old) ∙ (λ i. length-take-le k new fits i + length-drop k old i)

halfway-front : (k : ℕ) (old new : List ℕ) → k ≤ length new → take k (halfway k old new) ≡ take k new
halfway-front k old new fits = take_at (take k new) (drop k old) k (length-take-le k new fits)

halfway-rest : (k : ℕ) (old new : List ℕ) → k ≤ length new → drop k (halfway k old new) ≡ drop k old
halfway-rest k old new fits = drop_at (take k new) (drop k old) k (length-take-le k new fits)

halfway-torn : (at n : ℕ) (old new : List ℕ) (m : ℕ) → at + n ≤ length new → TornBytes at (n + m) old new → TornBytes at n old (halfway (at + n) old new)
halfway-torn at n old new m fits t =
    let size = halfway-length (at + n) old new fits in
    record {
      before = sym (take-take at (at + n) (halfway (at + n) old new) (omega arith)) ∙ ap (take at) (halfway-front (at + n) old new fits) ∙ take-take at (at + n) new (omega arith) ∙ t.before;
      after = halfway-rest (at + n) old new fits;
      no_shorter = omega (arith, size);
      no_longer = omega (arith, size);
    }

rest-torn : (at n m : ℕ) (old new : List ℕ) → at + n ≤ length new → TornBytes at (n + m) old new → TornBytes (at + n) m (halfway (at + n) old new) new
rest-torn at n m old new fits t =
    let size = halfway-length (at + n) old new fits in
    let e : (at + n) + m ≡ at + (n + m) = omega arith in
    record {
      before = sym (halfway-front (at + n) old new fits);
      after = ap (λ k. drop k new) e ∙ t.after ∙ ap (λ k. drop k old) (sym e) ∙ sym (drop-drop m (at + n) old) ∙ ap (drop m) (sym (halfway-rest (at + n) old new fits)) ∙ drop-drop m (at + n) (halfway (at + n) old new);
      no_shorter = omega (arith, size, t.no_shorter);
      no_longer = omega (arith, size, t.no_longer);
    }

-- or all bytes that it reached are of the first ones
short-torn : (at n m : ℕ) (old new : List ℕ) → length new ≤ at + n → TornBytes at (n + m) old new → TornBytes at n old new
short-torn at n m old new short t = record {
  before = t.before;
  after = drop_all (at + n) new short ∙ sym (drop_all (at + n) old (omega (arith, short, t.no_shorter)));
  no_shorter = t.no_shorter;
  no_longer = omega (arith, short);
}

not_past : (n at : ℕ) (b : Bool) → nat_lt n at ≡ b → cond b (Some fault.PastEnd) None ≡ None → at ≤ n
not_past n at true is e = absurd (cc e)
not_past n at false is e = grind (arith, rules, is)

within : (n at : ℕ) → at ≤ n → cond (nat_lt n at) (Some fault.PastEnd) None ≡ None
within n at l = let e : nat_lt n at ≡ false = grind (arith, rules) in ap (λ b. cond b (Some fault.PastEnd) None) e

-- where a write isn't refused, none that begins before it is
begins_before : (o : Option Entry) (at from : ℕ) → at ≤ from → refusal_past (file_of o) from ≡ None → refusal_past (file_of o) at ≡ None
begins_before None at from l e = absurd (cc e)
begins_before (Some (FolderEntry bad)) at from l e = absurd (cc e)
begins_before (Some LinkEntry) at from l e = absurd (cc e)
begins_before (Some (FileEntry bytes)) at from l e = within (length bytes) at (omega (arith, l, not_past (length bytes) from (nat_lt (length bytes) from) refl e))

module _ (path : PathValue) (at n m : ℕ) where
  -- a torn file, of which another was made
  torn_both : (c d e : Contents) (t : TornFile path at n c d) (u : TornFile path (at + n) m d e) → TornFile path at (n + m) c e
  torn_both c d e t u =
      let holds : bytes_at d path ≡ t.torn = ap (λ k. bytes_at k path) t.is ∙ ap bytes_in (entry-put c path (FileEntry t.torn)) in
      record {
        torn = u.torn;
        unrefused = t.unrefused;
        range = torn_on at (n + m) (bytes_at c path) t.torn u.torn
            (torn_wider at (n + m) at n (bytes_at c path) t.torn (omega arith) (omega arith) t.range)
            (torn_wider at (n + m) (at + n) m t.torn u.torn (omega arith) (omega arith) (subst (λ b. TornBytes (at + n) m b u.torn) holds u.range));
        is = u.is ∙ ap (λ k. insert k path (FileEntry u.torn)) t.is ∙ put-put c path (FileEntry t.torn) (FileEntry u.torn);
      }

  torn_first : (c d : Contents) (t : TornFile path at n c d) → TornFile path at (n + m) c d
  torn_first c d t = record { torn = t.torn; unrefused = t.unrefused; range = torn_wider at (n + m) at n (bytes_at c path) t.torn (omega arith) (omega arith) t.range; is = t.is }

  torn_second : (c d : Contents) (u : TornFile path (at + n) m c d) → TornFile path at (n + m) c d
  torn_second c d u = record {
    torn = u.torn;
    unrefused = begins_before (entry_at c path) at (at + n) (omega arith) u.unrefused;
    range = torn_wider at (n + m) (at + n) m (bytes_at c path) u.torn (omega arith) (omega arith) u.range;
    is = u.is;
  }

  -- two are one
  both-one : (c d e : Contents) → MayTear path at n c d → MayTear path (at + n) m d e → MayTear path at (n + m) c e
  both-one c d e (inl same) (inl more) = inl (more ∙ same)
  both-one c d e (inl same) (inr u) = subst (λ k. MayTear path at (n + m) k e) same (inr (torn_second d e u))
  both-one c d e (inr t) (inl more) = subst (λ k. MayTear path at (n + m) c k) (sym more) (inr (torn_first c d t))
  both-one c d e (inr t) (inr u) = inr (torn_both c d e t u)

  -- and one is two
  abbrev InTwo : (c e : Contents) → Type 0
  InTwo c e = (d : Contents) × MayTear path at n c d × MayTear path (at + n) m d e

  long-two : (c e : Contents) (t : TornFile path at (n + m) c e) → at + n ≤ length t.torn → InTwo c e
  long-two c e t fits =
      let half = halfway (at + n) (bytes_at c path) t.torn in
      let d = insert c path (FileEntry half) in
      let holds : bytes_at d path ≡ half = ap bytes_in (entry-put c path (FileEntry half)) in (
        d,
        inr (record { torn = half; unrefused = t.unrefused; range = halfway-torn at n (bytes_at c path) t.torn m fits t.range; is = refl }),
        inr (record {
          torn = t.torn;
          unrefused = write_refusal-put c path half (at + n) (omega (arith, halfway-length (at + n) (bytes_at c path) t.torn fits));
          range = subst (λ b. TornBytes (at + n) m b t.torn) (sym holds) (rest-torn at n m (bytes_at c path) t.torn fits t.range);
          is = t.is ∙ sym (put-put c path (FileEntry half) (FileEntry t.torn));
        }),
      )

  short-two : (c e : Contents) (t : TornFile path at (n + m) c e) → length t.torn ≤ at + n → InTwo c e
  short-two c e t short = (e, inr (record { torn = t.torn; unrefused = t.unrefused; range = short-torn at n m (bytes_at c path) t.torn short t.range; is = t.is }), inl refl)

  one-both : (c e : Contents) → MayTear path at (n + m) c e → InTwo c e
  one-both c e (inl same) = (c, inl refl, inl same)
  one-both c e (inr t) = ⊎_elim (λ (lt : length t.torn < at + n). short-two c e t (omega (arith, lt))) (λ (le : at + n ≤ length t.torn). long-two c e t le) (cases_lt (length t.torn) (at + n))

-- ---- joined calls have the same images

and_both : (a b : Bool) → (a && b) ≡ true → (a ≡ true) × (b ≡ true)
and_both true b e = (refl, e)
and_both false b e = absurd (true≢false (sym e))

-- a write that another joins
joins_next : (path next : PathValue) (at n from m : ℕ) → (path_eq path next && (from == at + n)) ≡ true → (next ≡ path) × (from ≡ at + n)
joins_next path next at n from m e = let two = and_both (path_eq path next) (from == at + n) e in (sym (path_eq-same path next two.0), eqb-true from (at + n) two.1)

write-joined : (path next : PathValue) (at n from m : ℕ) (calls : List ChangeCall) (s c : Contents) (b : Bool) → (path_eq path next && (from == at + n)) ≡ b → IsImage s (Write path at n ∷ Write next from m ∷ calls) c → IsImage s (cond b (Write path at (n + m) ∷ calls) (Write path at n ∷ Write next from m ∷ calls)) c
write-joined path next at n from m calls s c false is image = image
write-joined path next at n from m calls s c true is image =
    let two = joins_next path next at n from m is in
    let second : MayTear path (at + n) m image.0 image.2.0 = subst (λ k. MayTear path k m image.0 image.2.0) two.1 (subst (λ p. MayTear p from m image.0 image.2.0) two.0 image.2.1) in
    (image.2.0, both-one path at n m s image.0 image.2.0 image.1 second, image.2.2)

write-split : (path next : PathValue) (at n from m : ℕ) (calls : List ChangeCall) (s c : Contents) (b : Bool) → (path_eq path next && (from == at + n)) ≡ b → IsImage s (cond b (Write path at (n + m) ∷ calls) (Write path at n ∷ Write next from m ∷ calls)) c → IsImage s (Write path at n ∷ Write next from m ∷ calls) c
write-split path next at n from m calls s c false is image = image
write-split path next at n from m calls s c true is image =
    let two = joins_next path next at n from m is in
    let halves = one-both path at n m s image.0 image.1 in
    let second : MayTear next from m halves.0 image.0 = subst (λ p. MayTear p from m halves.0 image.0) (sym two.0) (subst (λ k. MayTear path k m halves.0 image.0) (sym two.1) halves.2) in
    (halves.0, halves.1, (image.0, second, image.2))

onto-image : (call : ChangeCall) (calls : List ChangeCall) (s c : Contents) → IsImage s (call ∷ calls) c → IsImage s (joined_onto call calls) c
onto-image (Write path at n) [] s c image = image
onto-image (Write path at n) (Write next from m ∷ calls) s c image = write-joined path next at n from m calls s c (path_eq path next && (from == at + n)) refl image
onto-image (Write path at n) (Cut next size ∷ calls) s c image = image
onto-image (Write path at n) (MakeFile next ∷ calls) s c image = image
onto-image (Write path at n) (MakeFolder next ∷ calls) s c image = image
onto-image (Write path at n) (Remove next ∷ calls) s c image = image
onto-image (Write path at n) (Sync ∷ calls) s c image = image
onto-image (Cut path size) calls s c image = image
onto-image (MakeFile path) calls s c image = image
onto-image (MakeFolder path) calls s c image = image
onto-image (Remove path) calls s c image = image
onto-image Sync calls s c image = image

onto-split : (call : ChangeCall) (calls : List ChangeCall) (s c : Contents) → IsImage s (joined_onto call calls) c → IsImage s (call ∷ calls) c
onto-split (Write path at n) [] s c image = image
onto-split (Write path at n) (Write next from m ∷ calls) s c image = write-split path next at n from m calls s c (path_eq path next && (from == at + n)) refl image
onto-split (Write path at n) (Cut next size ∷ calls) s c image = image
onto-split (Write path at n) (MakeFile next ∷ calls) s c image = image
onto-split (Write path at n) (MakeFolder next ∷ calls) s c image = image
onto-split (Write path at n) (Remove next ∷ calls) s c image = image
onto-split (Write path at n) (Sync ∷ calls) s c image = image
onto-split (Cut path size) calls s c image = image
onto-split (MakeFile path) calls s c image = image
onto-split (MakeFolder path) calls s c image = image
onto-split (Remove path) calls s c image = image
onto-split Sync calls s c image = image

joined-image : (calls : List ChangeCall) (s c : Contents) → IsImage s calls c → IsImage s (joined_writes calls) c
joined-image [] s c image = image
joined-image (call ∷ calls) s c image = onto-image call (joined_writes calls) s c (image.0, image.1, joined-image calls image.0 c image.2)

split-image : (calls : List ChangeCall) (s c : Contents) → IsImage s (joined_writes calls) c → IsImage s calls c
split-image [] s c image = image
split-image (call ∷ calls) s c image = let one = onto-split call (joined_writes calls) s c image in (one.0, one.1, split-image calls one.0 c one.2)

-- so an image of the calls that were made is one of those that were to be
meant-image : (made rest all : List ChangeCall) (s c : Contents) → joined_writes (made ++ rest) ≡ joined_writes all → IsImage s made c → IsImage s all c
meant-image made rest all s c e image = split-image all s c (subst (λ l. IsImage s l c) e (joined-image (made ++ rest) s c (image-front made rest s c image)))

-- ---- calls that happened, one after another

pub holds-weaker : (P Q R S : Contents → Type 0) (first a : Moment) → HoldsSince P Q first a → Within P R → Within Q S → HoldsSince R S first a
holds-weaker P Q R S first a h one other = record { now = other _ h.now; later = h.later; left = λ c image. other c (h.left c image); had = λ c had. one c (h.had c had) }

more-left : (a : Moment) (calls : List ChangeCall) (call : ChangeCall) → Turns (IsLeftOf a calls) call (IsLeftOf a (calls ++ call ∷ []))
more-left a calls call c d left step = (left.0, left.1, image-more calls call left.0 c d left.2 step)

course-holds : (a b : Moment) (xs : List ChangeCall) → Course a b → b.state.calls ≡ a.state.calls ++ xs → HoldsSince (IsLeftOf a xs) (IsLeftOf a xs) a b
course-holds a b xs Still e = holds_first (IsLeftOf a xs) (IsLeftOf a xs) a (a.state.contents, inl refl, none-happened xs a.state.contents) (λ c image. (c, inr image, none-happened xs c))
course-holds a b xs (Call {mid} call course on) e =
    let (ys, l) = course_calls a mid course in
    let same : ys ++ call ∷ [] ≡ xs = append_cancel_left a.state.calls _ _ (sym (on.happens.listed ∙ ap (λ k. k ++ call ∷ []) l ∙ append_assoc a.state.calls _ _) ∙ e) in
    let L : List ChangeCall → Contents → Type 0 = IsLeftOf a in
    let within : Within (L ys) (L (ys ++ call ∷ [])) = λ c left. (left.0, left.1, image-front ys (call ∷ []) left.0 c left.2) in
    subst (λ zs. HoldsSince (L zs) (L zs) a b) same
    (holds_on (L (ys ++ call ∷ [])) (L ys) (L (ys ++ call ∷ [])) a mid b call
    (holds-weaker (L ys) (L ys) (L (ys ++ call ∷ [])) (L ys) a mid (course-holds a mid ys course l) within (λ c left. left)) on within (more-left a ys call))

-- however far changes ran, all is an image of their calls
pub runs-hold : (xs : List Change) (a b : Moment) (done : Bool) → Course a b → Runs xs a.state.calls b.state.calls a.state.contents b.state.contents done → HoldsSince (IsLeftOf a (map call_of xs)) (IsLeftOf a (map call_of xs)) a b
runs-hold xs a b done course ran =
    let meant : Within (IsLeftOf a ran.made) (IsLeftOf a (map call_of xs)) = λ c left. (left.0, left.1, meant-image ran.made ran.rest (map call_of xs) left.0 c ran.joins left.2) in
    holds-weaker (IsLeftOf a ran.made) (IsLeftOf a ran.made) (IsLeftOf a (map call_of xs)) (IsLeftOf a (map call_of xs)) a b (course-holds a b ran.made course ran.grew) meant meant

pub runs-left : (xs : List Change) (a b : Moment) (done : Bool) → Course a b → Runs xs a.state.calls b.state.calls a.state.contents b.state.contents done → LeavesOnly (IsLeftOf a (map call_of xs)) a.stops b.stops
runs-left xs a b done course ran = leaves_only (IsLeftOf a (map call_of xs)) (IsLeftOf a (map call_of xs)) a b (runs-hold xs a b done course ran) (λ c left. left)
