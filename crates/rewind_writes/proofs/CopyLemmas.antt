-- A range of a file, copied in several writes.
use Rattle.std.proofs.Common.{◌≡◌, ◌⊎◌, ℕ, ◌+◌, ◌-◌, ◌<◌, ◌≤◌, Bool, true, false, cond, nat_lt, IsTrue, List, [], ◌∷◌, ◌++◌, length, map, take, drop, Option, None, Some, is_some, Result, Ok, Err, inl, inr, refl, ap, sym, ◌∙◌, subst, arith, rules}
use Rattle.std.proofs.lemmas.List.{append-nil, drop-drop, drop-take, length-append, length-drop, length-take-le, take-append-drop, take-take, take_all}
use Rattle.std.proofs.Math.Seq.{take-add}
use Rattle.std.specs.List.{list_any}
use Rattle.layout.specs.Splice.{splice}
use Rattle.cluster_tree.specs.PathValue.{PathValue}
use Rattle.cluster_tree.specs.Contents.{Contents, Entry, FolderEntry, FileEntry, LinkEntry, entry_at, is_file, parent}
use Rattle.cluster_tree.specs.Causes.{Meets, MeetsInto}
use Rattle.cluster_tree.specs.Frame.{Reads}
use Rattle.cluster_tree.specs.Change.{Change, Cuts, MakesFile, Writes, all_changed, call_of, refusal_of, first_refusal, is_on, or_next}
use Rattle.cluster_tree.specs.Run.{state_by}
use Rattle.cluster_tree.specs.Tree.{HasFailed, bytes_at, bytes_in, file_of, kind_of, range_of, refusal_in, refusal_past, write_refusal}
use Rattle.cluster_tree.specs.declared.tree.Kind.{Kind}
use Rattle.cluster_tree.specs.declared.tree.Kind.TheVariants as kind
use Rattle.cluster_tree.specs.declared.tree.Tree.{Ghosts}
use Rattle.cluster_tree.specs.declared.tree.TreeFault.{TreeFault}
use Rattle.cluster_tree.specs.declared.tree.TreeFault.TheVariants as fault
use Rattle.cluster_tree.proofs.ContentsLemmas.{write_refusal-put}
use Rattle.marked_runs.specs.Carried.{Carried, Carries}
use Rattle.marked_runs.specs.Runs.{Runs, is_done, writes_at}
use Rattle.marked_runs.specs.declared.faults.StepFault.{StepFault}
use Rattle.marked_runs.specs.declared.faults.StepFault.TheVariants as step
use Rattle.marked_runs.proofs.ZeroLemmas.{runs-less, runs-more}
use Rattle.rewind_writes.specs.Looks.{of_look}
use Rattle.rewind_writes.specs.Steps.{IsRead, opened, part_of}

-- ---- what a range holds

not_past : (n at : ℕ) (b : Bool) → nat_lt n at ≡ b → cond b (Some fault.PastEnd) None ≡ None → at ≤ n
not_past n at true is e = absurd (cc e)
not_past n at false is e = grind (arith, rules, is)

of_file : (o : Option Entry) (at : ℕ) → refusal_past (file_of o) at ≡ None → at ≤ length (bytes_in o)
of_file None at e = absurd (cc e)
of_file (Some (FolderEntry bad)) at e = absurd (cc e)
of_file (Some (FileEntry bytes)) at e = not_past (length bytes) at (nat_lt (length bytes) at) refl e
of_file (Some LinkEntry) at e = absurd (cc e)

within_tail : (n m : ℕ) → n ≤ m → (b : Bool) → nat_lt m n ≡ b → b ≡ false
within_tail n m l true is = absurd (grind (arith, rules, is, l))
within_tail n m l false is = refl

-- a range within a file
range_within : (bytes : List ℕ) (at n : ℕ) → at + n ≤ length bytes → range_of (Ok bytes) at n ≡ Ok (take n (drop at bytes))
range_within bytes at n l = ap (λ b. cond b (Err fault.PastEnd) (Ok (take n (drop at bytes)))) (within_tail (at + n) (length bytes) l (nat_lt (length bytes) (at + n)) refl)

reaches : (bytes part : List ℕ) (at n : ℕ) (b : Bool) → nat_lt (length bytes) (at + n) ≡ b → cond b (Err fault.PastEnd) (Ok (take n (drop at bytes))) ≡ Ok part → (at + n ≤ length bytes) × (take n (drop at bytes) ≡ part)
reaches bytes part at n true is e = absurd (cc e)
reaches bytes part at n false is e = (grind (arith, rules, is), cc e)

part_in : (bytes : List ℕ) (at n done size : ℕ) → done + n ≤ size → take n (drop (at + done) bytes) ≡ take n (drop done (take size (drop at bytes)))
part_in bytes at n done size l =
    ap (take n) (sym (drop-drop done at bytes))
    ∙ sym (take-take n (size - done) (drop done (drop at bytes)) (omega (arith, l)))
    ∙ ap (take n) (sym (drop-take done (size - done) (drop at bytes)))
    ∙ ap (λ k. take n (drop done (take k (drop at bytes)))) (omega (arith, l))

-- a part of a range that was read whole
pub range-part : (o : Option Entry) (at n done size : ℕ) (bytes : List ℕ) → done + n ≤ size → range_of (file_of o) at size ≡ Ok bytes → range_of (file_of o) (at + done) n ≡ Ok (take n (drop done bytes))
range-part None at n done size bytes l e = absurd (cc e)
range-part (Some (FolderEntry bad)) at n done size bytes l e = absurd (cc e)
range-part (Some LinkEntry) at n done size bytes l e = absurd (cc e)
range-part (Some (FileEntry file)) at n done size bytes l e =
    let two = reaches file bytes at size (nat_lt (length file) (at + size)) refl e in
    range_within file (at + done) n (omega (arith, two.0, l)) ∙ ap Ok (part_in file at n done size l ∙ ap (λ x. take n (drop done x)) two.1)

-- and its length
pub range-length : (o : Option Entry) (at size : ℕ) (bytes : List ℕ) → range_of (file_of o) at size ≡ Ok bytes → length bytes ≡ size
range-length None at size bytes e = absurd (cc e)
range-length (Some (FolderEntry bad)) at size bytes e = absurd (cc e)
range-length (Some LinkEntry) at size bytes e = absurd (cc e)
range-length (Some (FileEntry file)) at size bytes e =
    let two = reaches file bytes at size (nat_lt (length file) (at + size)) refl e in
    ap length (sym two.1) ∙ length-take-le size (drop at file) (omega (arith, length-drop at file, two.0))

-- a file that has so many bytes is read
pub range-read : (c : Contents) (changes : List Change) (from : PathValue) (at size : ℕ) (o : Option Entry) → o ≡ entry_at c from → IsRead c changes from at size → range_of (file_of o) at size ≡ Ok (part_of c from at size)
range-read c changes from at size None is read = absurd (cc (ap is_file is ∙ read.file))
range-read c changes from at size (Some (FolderEntry bad)) is read = absurd (cc (ap is_file is ∙ read.file))
range-read c changes from at size (Some LinkEntry) is read = absurd (cc (ap is_file is ∙ read.file))
range-read c changes from at size (Some (FileEntry file)) is read =
    let same : file ≡ bytes_at c from = ap bytes_in is in
    range_within file at size (subst (λ b. at + size ≤ length b) (sym same) read.bytes) ∙ ap (λ b. Ok (take size (drop at b))) same

-- ---- bytes so far, and a piece more

splice_reaches : (old : List ℕ) (at : ℕ) (a : List ℕ) → at ≤ length old → at + length a ≤ length (splice old at a)
unfolding splice
splice_reaches old at a fits =
    omega (arith, length-append (take at old ++ a) (drop (at + length a) old), length-append (take at old) a, length-take-le at old fits)

-- what follows a write isn't refused either
next_unrefused : (c d : Contents) (path : PathValue) (at : ℕ) (a : List ℕ) → write_refusal c path at ≡ None → d ≡ all_changed c (writes_at path at a) → write_refusal d path (at + length a) ≡ None
next_unrefused c d path at [] unrefused is = ap (λ x. write_refusal x path (at + 0)) is ∙ ap (write_refusal c path) (omega arith) ∙ unrefused
next_unrefused c d path at (x ∷ a) unrefused is =
    ap (λ y. write_refusal y path (at + length (x ∷ a))) is
    ∙ write_refusal-put c path (splice (bytes_at c path) at (x ∷ a)) (at + length (x ∷ a)) (splice_reaches (bytes_at c path) at (x ∷ a) (of_file (entry_at c path) at unrefused))

first : (o : Option TreeFault) → or_next o None ≡ None → o ≡ None
first None e = refl
first (Some f) e = e

first_unrefused : (c : Contents) (path : PathValue) (at : ℕ) (bytes : List ℕ) → 0 < length bytes → first_refusal c (writes_at path at bytes) ≡ None → write_refusal c path at ≡ None
first_unrefused c path at [] some e = absurd (omega (arith, some))
first_unrefused c path at (x ∷ bytes) some e = first (write_refusal c path at) e

writes_one : (path : PathValue) (at : ℕ) (bytes : List ℕ) → 0 < length bytes → Writes path at bytes ∷ [] ≡ writes_at path at bytes
writes_one path at [] some = absurd (omega (arith, some))
writes_one path at (x ∷ bytes) some = refl

-- what isn't on a write is on no part of it
off_part : (p path : PathValue) (at from : ℕ) (bytes part : List ℕ) → 0 < length bytes → list_any (is_on p) (writes_at path at bytes) ≡ false → list_any (is_on p) (writes_at path from part) ≡ false
off_part p path at from [] part some off = absurd (omega (arith, some))
off_part p path at from (x ∷ bytes) [] some off = refl
off_part p path at from (x ∷ bytes) (y ∷ part) some off = off

-- so far these bytes are copied, if they are those of the range
pub record IsPiece (bytes : List ℕ) (size done n : ℕ) : Type 0 where
  pub whole : length bytes ≡ size
  pub some : 0 < n
  pub fits : done + n ≤ size

abbrev pub Copied : {F : Type 0} → Ghosts F → (from to : PathValue) → (at size done : ℕ) → F → F → Result (Unit {0}) StepFault → Type 0
Copied tree from to at size done a b r = (bytes : List ℕ) → range_of (file_of (entry_at (tree.contents a) from)) at size ≡ Ok bytes → list_any (is_on from) (writes_at to at bytes) ≡ false
    → IsTrue tree.tells → first_refusal (tree.contents a) (writes_at to at bytes) ≡ None
    → Carried (writes_at to at (take done bytes)) (state_by tree.contents tree.calls a) (state_by tree.contents tree.calls b) r

abbrev pub CopiesPiece : {F : Type 0} → Ghosts F → (from to : PathValue) → (at n : ℕ) → F → F → Result (Unit {0}) StepFault → Type 0
CopiesPiece tree from to at n b c r = (part : List ℕ) → range_of (file_of (entry_at (tree.contents b) from)) at n ≡ Ok part → Carries tree (Writes to at part ∷ []) b c r

pub copied-begun : {F : Type 0} (tree : Ghosts F) (from to : PathValue) (at size : ℕ) (a : F) → Copied tree from to at size 0 a a (Ok tt)
copied-begun tree from to at size a bytes is off told none = record {
  runs = record { made = []; grew = sym (append-nil (tree.calls a)); rest = []; joins = refl; all = λ h. refl; after = λ h. refl; elsewhere = λ p none. refl };
  agreed = λ h. cc h;
}

part_length : (bytes : List ℕ) (size done n : ℕ) → IsPiece bytes size done n → (length (take done bytes) ≡ done) × (length (take n (drop done bytes)) ≡ n)
part_length bytes size done n p = (length-take-le done bytes (omega (arith, p.whole, p.fits)), length-take-le n (drop done bytes) (omega (arith, length-drop done bytes, p.whole, p.fits)))

next_one : (c d : Contents) (to : PathValue) (at size done n : ℕ) (bytes part : List ℕ) → IsPiece bytes size done n → write_refusal c to at ≡ None → d ≡ all_changed c (writes_at to at (take done bytes)) → first_refusal d (Writes to (at + done) part ∷ []) ≡ None
next_one c d to at size done n bytes part p unrefused is =
    ap (λ o. or_next o None) (ap (λ k. write_refusal d to (at + k)) (sym (part_length bytes size done n p).0) ∙ next_unrefused c d to at (take done bytes) unrefused is)

piece_is : (to : PathValue) (at size done n : ℕ) (bytes : List ℕ) → IsPiece bytes size done n → Writes to (at + done) (take n (drop done bytes)) ∷ [] ≡ writes_at to (at + length (take done bytes)) (take n (drop done bytes))
piece_is to at size done n bytes p =
    let two = part_length bytes size done n p in
    writes_one to (at + done) (take n (drop done bytes)) (omega (arith, two.1, p.some))
    ∙ ap (λ k. writes_at to (at + k) (take n (drop done bytes))) (sym two.0)

pub copied-on : {F : Type 0} (tree : Ghosts F) (from to : PathValue) (at size done n : ℕ) (a b c : F) (u : Unit {0}) (r : Result (Unit {0}) StepFault) → 0 < n → done + n ≤ size
    → Copied tree from to at size done a b (Ok u) → CopiesPiece tree from to (at + done) n b c r → Copied tree from to at size (done + n) a c r
copied-on tree from to at size done n a b c u r some fits far more bytes is off told none =
    let p : IsPiece bytes size done n = record { whole = range-length (entry_at (tree.contents a) from) at size bytes is; some = some; fits = fits } in
    let any : 0 < length bytes = omega (arith, p.whole, some, fits) in
    let begun = first_unrefused (tree.contents a) to at bytes any none in
    let ran = (far bytes is off told none).runs in
    let kept : entry_at (tree.contents b) from ≡ entry_at (tree.contents a) from = ran.elsewhere from (off_part from to at at bytes (take done bytes) any off) in
    let part = range-part (entry_at (tree.contents a) from) at n done size bytes fits is in
    let next = more (take n (drop done bytes)) (ap (λ o. range_of (file_of o) (at + done) n) kept ∙ part) told (next_one (tree.contents a) (tree.contents b) to at size done n bytes (take n (drop done bytes)) p begun (ran.after refl)) in
    record {
      runs = subst (λ v. Runs (writes_at to at v) (tree.calls a) (tree.calls c) (tree.contents a) (tree.contents c) (is_done r)) (sym (take-add done n bytes))
          (runs-more to at (take done bytes) (take n (drop done bytes)) (tree.calls a) (tree.calls b) (tree.calls c) (tree.contents a) (tree.contents b) (tree.contents c) (is_done r) begun ran
          (subst (λ v. Runs v (tree.calls b) (tree.calls c) (tree.contents b) (tree.contents c) (is_done r)) (piece_is to at size done n bytes p) next.runs));
      agreed = next.agreed;
    }

abbrev pub CopiesRange : {F : Type 0} → Ghosts F → (from to : PathValue) → (at size : ℕ) → F → F → Result (Unit {0}) StepFault → Type 0
CopiesRange tree from to at size a b r = (bytes : List ℕ) → range_of (file_of (entry_at (tree.contents a) from)) at size ≡ Ok bytes → list_any (is_on from) (writes_at to at bytes) ≡ false → Carries tree (writes_at to at bytes) a b r

pub copied-broken : {F : Type 0} (tree : Ghosts F) (from to : PathValue) (at size done n : ℕ) (a b c : F) (u : Unit {0}) (e : StepFault) → 0 < n → done + n ≤ size
    → Copied tree from to at size done a b (Ok u) → CopiesPiece tree from to (at + done) n b c (Err e) → CopiesRange tree from to at size a c (Err e)
copied-broken tree from to at size done n a b c u e some fits far more bytes is off told none =
    let whole = range-length (entry_at (tree.contents a) from) at size bytes is in
    let begun = first_unrefused (tree.contents a) to at bytes (omega (arith, whole, some, fits)) none in
    let last = copied-on tree from to at size done n a b c u (Err e) some fits far more bytes is off told none in
    record {
      runs = subst (λ v. Runs (writes_at to at v) (tree.calls a) (tree.calls c) (tree.contents a) (tree.contents c) false) (take-append-drop (done + n) bytes)
          (runs-less to at (take (done + n) bytes) (drop (done + n) bytes) (tree.calls a) (tree.calls c) (tree.contents a) (tree.contents c) begun last.runs);
      agreed = last.agreed;
    }

pub copied-all : {F : Type 0} (tree : Ghosts F) (from to : PathValue) (at size done : ℕ) (a b : F) (u : Unit {0}) → size ≤ done → Copied tree from to at size done a b (Ok u) → CopiesRange tree from to at size a b (Ok u)
copied-all tree from to at size done a b u past far bytes is off told none =
    let whole = range-length (entry_at (tree.contents a) from) at size bytes is in
    let all : take done bytes ≡ bytes = take_all done bytes (omega (arith, whole, past)) in
    let last = far bytes is off told none in
    record {
      runs = subst (λ v. Runs (writes_at to at v) (tree.calls a) (tree.calls b) (tree.contents a) (tree.contents b) true) all last.runs;
      agreed = last.agreed;
    }

-- ---- a look before changes

pub carried-read : {F : Type 0} (tree : Ghosts F) (xs : List Change) (a b c : F) (r : Result (Unit {0}) StepFault) → Reads tree a b → Carries tree xs b c r → Carries tree xs a c r
carried-read tree xs a b c r reads one told none =
    let ran = one told (ap (λ d. first_refusal d xs) reads.same ∙ none) in
    record {
      runs = subst (λ k. Runs xs k (tree.calls c) (tree.contents a) (tree.contents c) (is_done r)) reads.uncalled (subst (λ d. Runs xs (tree.calls b) (tree.calls c) d (tree.contents c) (is_done r)) reads.same ran.runs);
      agreed = ran.agreed;
    }

-- a look that broke off, which nothing was to refuse
pub look-broken : {F : Type 0} (tree : Ghosts F) (xs : List Change) (a b : F) (f : TreeFault) (e : StepFault) → e ≡ of_look f → Reads tree a b → (IsTrue tree.tells → first_refusal (tree.contents a) xs ≡ None → f ≡ fault.Failed) → Carries tree xs a b (Err e)
look-broken tree xs a b f e is reads failed told none = record {
  runs = record {
    made = [];
    grew = reads.uncalled ∙ sym (append-nil (tree.calls a));
    rest = map call_of xs;
    joins = refl;
    all = λ h. absurd (cc h);
    after = λ h. absurd (cc h);
    elsewhere = λ p off. ap (λ d. entry_at d p) reads.same;
  };
  agreed = λ h. let wrong : step.ReadFault ≡ step.Contradicted = ap of_look (sym (failed told none)) ∙ sym is ∙ cc h in absurd (cc wrong);
}

-- a read that is meant to go well fails or is done
pub never-refused : {A B : Type 0} (meant : Result A TreeFault) (v into : A) (done : Result B TreeFault) (e : TreeFault) → meant ≡ Ok v → done ≡ Err e → MeetsInto HasFailed meant into done → e ≡ fault.Failed
never-refused meant v into (Ok x) e is told meets = absurd (cc told)
never-refused meant v into (Err f) e is told (inl failed) = cc (sym told) ∙ failed
never-refused meant v into (Err f) e is told (inr other) = absurd (cc (sym is ∙ other))

-- a file is emptied, or made where none is; the other of both is refused there
absent_opened : (c d : Contents) (path : PathValue) → kind_of (entry_at d path) ≡ Ok kind.Absent → (file : Bool) → or_next (refusal_of d (cond file (Cuts path 0) (MakesFile path))) None ≡ None → cond file (Cuts path 0) (MakesFile path) ≡ MakesFile path
absent_opened c d path is false none = refl
absent_opened c d path is true none = absurd (no_file (entry_at d path) is none)
  where
    no_file : (o : Option Entry) → kind_of o ≡ Ok kind.Absent → or_next (refusal_past (file_of o) 0) None ≡ None → ⊥
    no_file None is e = cc e
    no_file (Some (FolderEntry bad)) is e = cc is
    no_file (Some (FileEntry bytes)) is e = cc is
    no_file (Some LinkEntry) is e = cc is

there_opened : (d : Contents) (path : PathValue) → kind_of (entry_at d path) ≡ Ok kind.File → (file : Bool) → or_next (refusal_of d (cond file (Cuts path 0) (MakesFile path))) None ≡ None → cond file (Cuts path 0) (MakesFile path) ≡ Cuts path 0
there_opened d path is true none = refl
there_opened d path is false none = absurd (made (entry_at d path) is none)
  where
    made : (o : Option Entry) → kind_of o ≡ Ok kind.File → or_next (cond (is_some o) (Some fault.Exists) (refusal_in (entry_at d (parent path)))) None ≡ None → ⊥
    made None is e = cc is
    made (Some (FolderEntry bad)) is e = cc is
    made (Some (FileEntry bytes)) is e = cc e
    made (Some LinkEntry) is e = cc is

other_opened : (d : Contents) (path : PathValue) (o : Option Entry) → o ≡ entry_at d path → (kind_of o ≡ Ok kind.Folder) ⊎ ((f : TreeFault) × (kind_of o ≡ Err f)) → (file : Bool) → or_next (refusal_of d (cond file (Cuts path 0) (MakesFile path))) None ≡ None → ⊥
other_opened d path None is (inl e) file none = cc e
other_opened d path None is (inr (f, e)) file none = cc e
other_opened d path (Some (FileEntry bytes)) is (inl e) file none = cc e
other_opened d path (Some (FileEntry bytes)) is (inr (f, e)) file none = cc e
other_opened d path (Some (FolderEntry bad)) is how true none = cc (ap (λ o. or_next (refusal_past (file_of o) 0) None) is ∙ none)
other_opened d path (Some (FolderEntry bad)) is how false none = cc (ap (λ o. or_next (cond (is_some o) (Some fault.Exists) (refusal_in (entry_at d (parent path)))) None) is ∙ none)
other_opened d path (Some LinkEntry) is how true none = cc (ap (λ o. or_next (refusal_past (file_of o) 0) None) is ∙ none)
other_opened d path (Some LinkEntry) is how false none = cc (ap (λ o. or_next (cond (is_some o) (Some fault.Exists) (refusal_in (entry_at d (parent path)))) None) is ∙ none)

abbrev pub Opens : {F : Type 0} → Ghosts F → PathValue → F → F → Result (Unit {0}) StepFault → Type 0
Opens tree path a b r = (c : Contents) → Carries tree (opened c path ∷ []) a b r

pub opens-absent : {F : Type 0} (tree : Ghosts F) (path : PathValue) (a b d : F) (r : Result (Unit {0}) StepFault) → Reads tree a b → (IsTrue tree.tells → kind_of (entry_at (tree.contents a) path) ≡ Ok kind.Absent) → Carries tree (MakesFile path ∷ []) b d r → Opens tree path a d r
opens-absent tree path a b d r reads found one c told none =
    let is = absent_opened c (tree.contents a) path (found told) (is_file (entry_at c path)) none in
    carried-read tree (opened c path ∷ []) a b d r reads (subst (λ x. Carries tree (x ∷ []) b d r) (sym is) one) told none

pub opens-there : {F : Type 0} (tree : Ghosts F) (path : PathValue) (a b d : F) (r : Result (Unit {0}) StepFault) → Reads tree a b → (IsTrue tree.tells → kind_of (entry_at (tree.contents a) path) ≡ Ok kind.File) → Carries tree (Cuts path 0 ∷ []) b d r → Opens tree path a d r
opens-there tree path a b d r reads found one c told none =
    let is = there_opened (tree.contents a) path (found told) (is_file (entry_at c path)) none in
    carried-read tree (opened c path ∷ []) a b d r reads (subst (λ x. Carries tree (x ∷ []) b d r) (sym is) one) told none

pub opens-other : {F : Type 0} (tree : Ghosts F) (path : PathValue) (a b : F) (r : Result (Unit {0}) StepFault) → (IsTrue tree.tells → kind_of (entry_at (tree.contents a) path) ≡ Ok kind.Folder) → Opens tree path a b r
opens-other tree path a b r found c told none = absurd (other_opened (tree.contents a) path (entry_at (tree.contents a) path) refl (inl (found told)) (is_file (entry_at c path)) none)

pub opens-broken : {F : Type 0} (tree : Ghosts F) (path : PathValue) (a b : F) (f : TreeFault) (e : StepFault) → e ≡ of_look f → Reads tree a b → (IsTrue tree.tells → HasFailed f ⊎ (kind_of (entry_at (tree.contents a) path) ≡ Err f)) → Opens tree path a b (Err e)
opens-broken tree path a b f e is reads found c = look-broken tree (opened c path ∷ []) a b f e is reads (λ told none. failed (found told) none)
  where
    failed : HasFailed f ⊎ (kind_of (entry_at (tree.contents a) path) ≡ Err f) → first_refusal (tree.contents a) (opened c path ∷ []) ≡ None → f ≡ fault.Failed
    failed (inl h) none = h
    failed (inr h) none = absurd (other_opened (tree.contents a) path (entry_at (tree.contents a) path) refl (inr (f, h)) (is_file (entry_at c path)) none)

-- what a read that is meant to go well leaves
pub read-into : {A : Type 0} (meant : Result A TreeFault) (v into : A) → meant ≡ Ok v → meant ≡ Ok into → into ≡ v
read-into meant v into is told = cc (sym told ∙ is)

-- what a look at a kind says
pub kind-found : (o : Option Entry) (done : Result Kind TreeFault) (k found : Kind) → done ≡ Ok found → found ≡ k → Meets HasFailed (kind_of o) done → kind_of o ≡ Ok k
kind-found o (Ok x) k found is same meets = meets ∙ is ∙ ap Ok same
kind-found o (Err e) k found is same meets = absurd (cc is)

pub kind-failed : (o : Option Entry) (done : Result Kind TreeFault) (f : TreeFault) → done ≡ Err f → Meets HasFailed (kind_of o) done → HasFailed f ⊎ (kind_of o ≡ Err f)
kind-failed o (Ok x) f is meets = absurd (cc is)
kind-failed o (Err e) f is (inl failed) = inl (cc (sym is) ∙ failed)
kind-failed o (Err e) f is (inr meant) = inr (meant ∙ is)
