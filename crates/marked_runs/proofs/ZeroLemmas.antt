-- A range that is written in several writes.
use Rattle.std.proofs.Common.{◌≡◌, ℕ, append_assoc, drop, ◌+◌, ◌-◌, ◌<◌, ◌≤◌, Bool, true, false, ◌||◌, cond, nat_lt, IsTrue, List, [], ◌∷◌, ◌++◌, length, replicate, take, Option, None, Some, Result, Ok, Err, refl, ap, sym, ◌∙◌, subst, arith, rules, zero-add}
use Rattle.std.proofs.lemmas.List.{append-nil, length-append, length-replicate, length-take-le, replicate-append-replicate, take_at, drop_at, drop-drop}
use Rattle.std.specs.List.{list_any}
use Rattle.std.specs.FinMap.{insert}
use Rattle.layout.specs.Splice.{splice}
use Rattle.cluster_tree.specs.PathValue.{PathValue}
use Rattle.cluster_tree.specs.PathOrder.{path_eq}
use Rattle.cluster_tree.specs.Contents.{Contents, Entry, FolderEntry, FileEntry, LinkEntry, entry_at}
use Rattle.cluster_tree.specs.Change.{Change, MakesFile, Writes, all_changed, first_refusal, is_on, or_next}
use Rattle.cluster_tree.specs.Joined.{joined_writes}
use Rattle.cluster_tree.specs.Run.{state_by}
use Rattle.cluster_tree.specs.Tree.{bytes_at, file_of, bytes_in, refusal_past, write_refusal, written}
use Rattle.cluster_tree.specs.declared.tree.ChangeCall.{ChangeCall}
use Rattle.cluster_tree.specs.declared.tree.ChangeCall.TheVariants.{MakeFile, Write}
use Rattle.cluster_tree.specs.declared.tree.Tree.{Ghosts}
use Rattle.cluster_tree.specs.declared.tree.TreeFault.{TreeFault}
use Rattle.cluster_tree.specs.declared.tree.TreeFault.TheVariants as fault
use Rattle.cluster_tree.proofs.ContentsLemmas.{written-new, written-put, write_refusal-put}
use Rattle.cluster_tree.proofs.JoinedLemmas.{joined_writes-cut}
use Rattle.marked_runs.specs.Runs.{Runs, is_done, writes_at}
use Rattle.marked_runs.specs.Carried.{Carried, Carries}
use Rattle.marked_runs.specs.declared.faults.StepFault.{StepFault}
use Rattle.marked_runs.proofs.RunLemmas.{runs-front, runs-then}
use Rattle.marked_runs.proofs.CarriedLemmas.{carried-then, unrefused-both}

-- one write and then the next, where the first one ends
splice_twice : (old : List ℕ) (at : ℕ) (a b : List ℕ) → at ≤ length old → splice (splice old at a) (at + length a) b ≡ splice old at (a ++ b)
unfolding splice
splice_twice old at a b fits =
    let front = length-take-le at old fits in
    let j = at + length a in
    let whole = take at old ++ a ++ drop j old in
    let both : length (take at old ++ a) ≡ j = omega (arith, length-append (take at old) a) in
    let t : take j whole ≡ take at old ++ a = take_at (take at old ++ a) (drop j old) j both in
    let d : drop j whole ≡ drop j old = drop_at (take at old ++ a) (drop j old) j both in
    let rest : drop (j + length b) whole ≡ drop (at + length (a ++ b)) old =
    sym (drop-drop (length b) j whole) ∙ ap (drop (length b)) d ∙ drop-drop (length b) j old ∙ ap (λ k. drop k old) (omega (arith, length-append a b)) in
    ap (λ x. x ++ b ++ drop (j + length b) whole) t
    ∙ ap (λ x. take at old ++ a ++ b ++ x) rest
    ∙ ap (λ x. x ++ drop (at + length (a ++ b)) old) (append_assoc (take at old) a b)

splice_reaches : (old : List ℕ) (at : ℕ) (a : List ℕ) → at ≤ length old → at + length a ≤ length (splice old at a)
unfolding splice
splice_reaches old at a fits =
    omega (arith, length-append (take at old ++ a) (drop (at + length a) old), length-append (take at old) a, length-take-le at old fits)

not_past : (n at : ℕ) (b : Bool) → nat_lt n at ≡ b → cond b (Some fault.PastEnd) None ≡ None → at ≤ n
not_past n at true is e = absurd (cc e)
not_past n at false is e = grind (arith, rules, is)

of_file : (o : Option Entry) (at : ℕ) → refusal_past (file_of o) at ≡ None → at ≤ length (bytes_in o)
of_file None at e = absurd (cc e)
of_file (Some (FolderEntry bad)) at e = absurd (cc e)
of_file (Some (FileEntry bytes)) at e = not_past (length bytes) at (nat_lt (length bytes) at) refl e
of_file (Some LinkEntry) at e = absurd (cc e)

-- a write that isn't refused begins within the file, or at its end
within_file : (c : Contents) (path : PathValue) (at : ℕ) → write_refusal c path at ≡ None → at ≤ length (bytes_at c path)
within_file c path at e = of_file (entry_at c path) at e

written_twice : (c : Contents) (path : PathValue) (at : ℕ) (a b : List ℕ) → at ≤ length (bytes_at c path) → written (written c path at a) path (at + length a) b ≡ written c path at (a ++ b)
written_twice c path at a b fits =
    written-put c path (splice (bytes_at c path) at a) b (at + length a)
    ∙ ap (λ x. insert c path (FileEntry x)) (splice_twice (bytes_at c path) at a b fits)

or_false : (b : Bool) → (b || false) ≡ false → b ≡ false
or_false true e = e
or_false false e = e

off_all : (b : Bool) → (b || (b || false)) ≡ false → (b || (b || (b || false))) ≡ false
off_all true e = e
off_all false e = e

off_both : (p path : PathValue) (at from : ℕ) (a b whole : List ℕ) → list_any (is_on p) (Writes path at whole ∷ []) ≡ false → list_any (is_on p) (Writes path at a ∷ Writes path from b ∷ []) ≡ false
off_both p path at from a b whole off = ap (λ x. x || (x || false)) (or_false (path_eq p path) off)

-- a write as two writes
pub runs-cut : (path : PathValue) (at : ℕ) (a b : List ℕ) (k l : List ChangeCall) (c d : Contents) (done : Bool) → write_refusal c path at ≡ None
    → Runs (Writes path at a ∷ Writes path (at + length a) b ∷ []) k l c d done → Runs (Writes path at (a ++ b) ∷ []) k l c d done
runs-cut path at a b k l c d done unrefused ran = record {
  made = ran.made;
  grew = ran.grew;
  rest = ran.rest;
  joins = ran.joins ∙ joined_writes-cut [] [] path at (length a) (length b) ∙ ap (λ n. joined_writes (Write path at n ∷ [])) (sym (length-append a b));
  all = ran.all;
  after = λ h. ran.after h ∙ written_twice c path at a b (within_file c path at unrefused);
  elsewhere = λ p off. ran.elsewhere p (off_both p path at (at + length a) a b (a ++ b) off);
}

at_once : (path : PathValue) (at from : ℕ) (bytes : List ℕ) (k l : List ChangeCall) (c d : Contents) (done : Bool) → from ≡ at → Runs (writes_at path from bytes) k l c d done → Runs (writes_at path at bytes) k l c d done
at_once path at from bytes k l c d done e ran = subst (λ n. Runs (writes_at path n bytes) k l c d done) e ran

-- some bytes and then others, where the first ones end
pub runs-more : (path : PathValue) (at : ℕ) (a b : List ℕ) (k l m : List ChangeCall) (c d e : Contents) (done : Bool) → write_refusal c path at ≡ None
    → Runs (writes_at path at a) k l c d true → Runs (writes_at path (at + length a) b) l m d e done → Runs (writes_at path at (a ++ b)) k m c e done
runs-more path at [] b k l m c d e done unrefused one other = runs-then [] (writes_at path at b) k l m c d e done one (at_once path at (at + 0) b l m d e done (omega arith) other)
runs-more path at (x ∷ a) [] k l m c d e done unrefused one other =
    subst (λ v. Runs (writes_at path at v) k m c e done) (sym (append-nil (x ∷ a))) (runs-then (Writes path at (x ∷ a) ∷ []) [] k l m c d e done one other)
runs-more path at (x ∷ a) (y ∷ b) k l m c d e done unrefused one other =
    runs-cut path at (x ∷ a) (y ∷ b) k m c e done unrefused (runs-then (Writes path at (x ∷ a) ∷ []) (Writes path (at + length (x ∷ a)) (y ∷ b) ∷ []) k l m c d e done one other)

-- some bytes that broke off, with others to come
pub runs-less : (path : PathValue) (at : ℕ) (a b : List ℕ) (k l : List ChangeCall) (c d : Contents) → write_refusal c path at ≡ None
    → Runs (writes_at path at a) k l c d false → Runs (writes_at path at (a ++ b)) k l c d false
runs-less path at [] b k l c d unrefused one = runs-front [] (writes_at path at b) k l c d one
runs-less path at (x ∷ a) [] k l c d unrefused one = subst (λ v. Runs (writes_at path at v) k l c d false) (sym (append-nil (x ∷ a))) one
runs-less path at (x ∷ a) (y ∷ b) k l c d unrefused one =
    runs-cut path at (x ∷ a) (y ∷ b) k l c d false unrefused (runs-front (Writes path at (x ∷ a) ∷ []) (Writes path (at + length (x ∷ a)) (y ∷ b) ∷ []) k l c d one)

-- what follows a write isn't refused either
next_unrefused : (c d : Contents) (path : PathValue) (at : ℕ) (a : List ℕ) → write_refusal c path at ≡ None → d ≡ all_changed c (writes_at path at a) → write_refusal d path (at + length a) ≡ None
next_unrefused c d path at [] unrefused is = ap (λ x. write_refusal x path (at + 0)) is ∙ ap (write_refusal c path) (omega arith) ∙ unrefused
next_unrefused c d path at (x ∷ a) unrefused is =
    ap (λ y. write_refusal y path (at + length (x ∷ a))) is
    ∙ write_refusal-put c path (splice (bytes_at c path) at (x ∷ a)) (at + length (x ∷ a)) (splice_reaches (bytes_at c path) at (x ∷ a) (within_file c path at unrefused))

unrefused : (o : Option TreeFault) → or_next o None ≡ None → o ≡ None
unrefused None e = refl
unrefused (Some f) e = e

first_unrefused : (c : Contents) (path : PathValue) (at : ℕ) (bytes : List ℕ) → 0 < length bytes → first_refusal c (writes_at path at bytes) ≡ None → write_refusal c path at ≡ None
first_unrefused c path at [] some e = absurd (omega (arith, some))
first_unrefused c path at (x ∷ bytes) some e = unrefused (write_refusal c path at) e

abbrev zeros : ℕ → List ℕ
zeros n = replicate n 0

zeros_in : (n k : ℕ) → n ≤ k → zeros n ++ zeros (k - n) ≡ zeros k
zeros_in n k l = replicate-append-replicate n (k - n) 0 ∙ ap (λ m. replicate m 0) (omega (arith, l))

-- ---- zeros so far, and a piece more

begun_file : (c : Contents) (path : PathValue) (at size n : ℕ) → 0 < n → n ≤ size → first_refusal c (writes_at path at (replicate size 0)) ≡ None → write_refusal c path at ≡ None
begun_file c path at size n some l none = first_unrefused c path at (replicate size 0) (omega (arith, some, l, length-replicate {A = ℕ} size 0)) none

writes_one : (path : PathValue) (at : ℕ) (bytes : List ℕ) → 0 < length bytes → Writes path at bytes ∷ [] ≡ writes_at path at bytes
writes_one path at [] some = absurd (omega (arith, some))
writes_one path at (x ∷ bytes) some = refl

piece_is : (path : PathValue) (at done n : ℕ) (bytes : List ℕ) → 0 < n → bytes ≡ replicate n 0 → Writes path (at + done) bytes ∷ [] ≡ writes_at path (at + length (zeros done)) (zeros n)
piece_is path at done n bytes some is =
    ap (λ b. Writes path (at + done) b ∷ []) is
    ∙ writes_one path (at + done) (replicate n 0) (omega (arith, some, length-replicate {A = ℕ} n 0))
    ∙ ap (λ k. writes_at path (at + k) (zeros n)) (sym (length-replicate done 0))

piece_unrefused : (c d : Contents) (path : PathValue) (at done : ℕ) (bytes : List ℕ) → write_refusal c path at ≡ None → d ≡ all_changed c (writes_at path at (replicate done 0)) → first_refusal d (Writes path (at + done) bytes ∷ []) ≡ None
piece_unrefused c d path at done bytes unrefused is =
    ap (λ o. or_next o None) (ap (λ k. write_refusal d path (at + k)) (sym (length-replicate done 0)) ∙ next_unrefused c d path at (replicate done 0) unrefused is)

abbrev Zeros : {F : Type 0} → Ghosts F → PathValue → (at size done : ℕ) → F → F → Result (Unit {0}) StepFault → Type 0
Zeros tree path at size done a b r = IsTrue tree.tells → first_refusal (tree.contents a) (writes_at path at (replicate size 0)) ≡ None
    → Carried (writes_at path at (replicate done 0)) (state_by tree.contents tree.calls a) (state_by tree.contents tree.calls b) r

pub zeros-begun : {F : Type 0} (tree : Ghosts F) (path : PathValue) (at size : ℕ) (a : F) → Zeros tree path at size 0 a a (Ok tt)
zeros-begun tree path at size a told none = record {
  runs = record { made = []; grew = sym (append-nil (tree.calls a)); rest = []; joins = refl; all = λ h. refl; after = λ h. refl; elsewhere = λ p off. refl };
  agreed = λ h. cc h;
}

pub zeros-on : {F : Type 0} (tree : Ghosts F) (path : PathValue) (at size done n : ℕ) (bytes : List ℕ) (a b c : F) (u : Unit {0}) (r : Result (Unit {0}) StepFault) → 0 < n → done + n ≤ size → bytes ≡ replicate n 0
    → Zeros tree path at size done a b (Ok u) → Carries tree (Writes path (at + done) bytes ∷ []) b c r → Zeros tree path at size (done + n) a c r
zeros-on tree path at size done n bytes a b c u r some fits is far more told none =
    let begun = begun_file (tree.contents a) path at size n some (omega (arith, fits)) none in
    let ran = (far told none).runs in
    let next = more told (piece_unrefused (tree.contents a) (tree.contents b) path at done bytes begun (ran.after refl)) in
    record {
      runs = subst (λ v. Runs (writes_at path at v) (tree.calls a) (tree.calls c) (tree.contents a) (tree.contents c) (is_done r)) (replicate-append-replicate done n 0)
          (runs-more path at (replicate done 0) (replicate n 0) (tree.calls a) (tree.calls b) (tree.calls c) (tree.contents a) (tree.contents b) (tree.contents c) (is_done r) begun ran
          (subst (λ v. Runs v (tree.calls b) (tree.calls c) (tree.contents b) (tree.contents c) (is_done r)) (piece_is path at done n bytes some is) next.runs));
      agreed = next.agreed;
    }

pub zeros-broken : {F : Type 0} (tree : Ghosts F) (path : PathValue) (at size done n : ℕ) (bytes : List ℕ) (a b c : F) (u : Unit {0}) (e : StepFault) → 0 < n → done + n ≤ size → bytes ≡ replicate n 0
    → Zeros tree path at size done a b (Ok u) → Carries tree (Writes path (at + done) bytes ∷ []) b c (Err e) → Carries tree (writes_at path at (replicate size 0)) a c (Err e)
zeros-broken tree path at size done n bytes a b c u e some fits is far more told none =
    let begun = begun_file (tree.contents a) path at size n some (omega (arith, fits)) none in
    let last = zeros-on tree path at size done n bytes a b c u (Err e) some fits is far more told none in
    record {
      runs = subst (λ v. Runs (writes_at path at v) (tree.calls a) (tree.calls c) (tree.contents a) (tree.contents c) false) (zeros_in (done + n) size fits)
          (runs-less path at (replicate (done + n) 0) (replicate (size - (done + n)) 0) (tree.calls a) (tree.calls c) (tree.contents a) (tree.contents c) begun last.runs);
      agreed = last.agreed;
    }

-- ---- a new file, and zeros behind its bytes

abbrev new_with : PathValue → List ℕ → List Change
new_with path bytes = MakesFile path ∷ Writes path 0 bytes ∷ []

-- no refusal of a write depends on its bytes
same_refusal : (c : Contents) (path : PathValue) (bytes other : List ℕ) → first_refusal c (new_with path bytes) ≡ None → first_refusal c (new_with path other) ≡ None
same_refusal c path bytes other none = none

zeros_unrefused : (c : Contents) (path : PathValue) (bytes zeros : List ℕ) → first_refusal (all_changed c (new_with path bytes)) (writes_at path (length bytes) zeros) ≡ None
zeros_unrefused c path bytes [] = refl
zeros_unrefused c path bytes (x ∷ zeros) =
    let made = insert c path (FileEntry []) in
    ap (λ o. or_next o None) (ap (λ d. write_refusal d path (length bytes)) (written-new c path bytes) ∙ write_refusal-put c path bytes (length bytes) (omega arith))

new_cut : (path : PathValue) (bytes zeros : List ℕ) (k l : List ChangeCall) (c d : Contents) (done : Bool) → Runs (new_with path bytes ++ writes_at path (length bytes) zeros) k l c d done → Runs (new_with path (bytes ++ zeros)) k l c d done
new_cut path bytes [] k l c d done ran = subst (λ b. Runs (new_with path b) k l c d done) (sym (append-nil bytes)) ran
new_cut path bytes (x ∷ zeros) k l c d done ran =
    let made = insert c path (FileEntry []) in
    record {
      made = ran.made;
      grew = ran.grew;
      rest = ran.rest;
      joins = ran.joins
          ∙ ap (λ n. joined_writes (MakeFile path ∷ Write path 0 (length bytes) ∷ Write path n (length (x ∷ zeros)) ∷ [])) (sym (zero-add (length bytes)))
          ∙ joined_writes-cut (MakeFile path ∷ []) [] path 0 (length bytes) (length (x ∷ zeros))
          ∙ ap (λ n. joined_writes (MakeFile path ∷ Write path 0 n ∷ [])) (sym (length-append bytes (x ∷ zeros)));
      all = ran.all;
      after = λ h. ran.after h
          ∙ ap (λ n. written (written made path 0 bytes) path n (x ∷ zeros)) (sym (zero-add (length bytes)))
          ∙ written_twice made path 0 bytes (x ∷ zeros) (omega arith);
      elsewhere = λ p off. ran.elsewhere p (off_all (path_eq p path) off);
    }

pub padded-carried : {F : Type 0} (tree : Ghosts F) (path : PathValue) (bytes zeros : List ℕ) (a b c : F) (u : Unit {0}) (r : Result (Unit {0}) StepFault) → Carries tree (new_with path bytes) a b (Ok u) → Carries tree (writes_at path (length bytes) zeros) b c r → Carries tree (new_with path (bytes ++ zeros)) a c r
padded-carried tree path bytes zeros a b c u r one other told none =
    let ran = carried-then tree (new_with path bytes) (writes_at path (length bytes) zeros) a b c u r one other told
    (unrefused-both (tree.contents a) (new_with path bytes) (writes_at path (length bytes) zeros) (same_refusal (tree.contents a) path (bytes ++ zeros) bytes none) (zeros_unrefused (tree.contents a) path bytes zeros)) in
    record { runs = new_cut path bytes zeros (tree.calls a) (tree.calls c) (tree.contents a) (tree.contents c) (is_done r) ran.runs; agreed = ran.agreed }

pub padded-front : {F : Type 0} (tree : Ghosts F) (path : PathValue) (bytes zeros : List ℕ) (a b : F) (e : StepFault) → Carries tree (new_with path bytes) a b (Err e) → Carries tree (new_with path (bytes ++ zeros)) a b (Err e)
padded-front tree path bytes zeros a b e one told none =
    let ran = one told (same_refusal (tree.contents a) path (bytes ++ zeros) bytes none) in
    record { runs = new_cut path bytes zeros (tree.calls a) (tree.calls b) (tree.contents a) (tree.contents b) false (runs-front (new_with path bytes) (writes_at path (length bytes) zeros) (tree.calls a) (tree.calls b) (tree.contents a) (tree.contents b) ran.runs); agreed = ran.agreed }
