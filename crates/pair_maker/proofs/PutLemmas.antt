-- How the writes of one file join, and the changes of entries that are made one after another.
use Rattle.std.proofs.Common.{◌≡◌, ℕ, suc, ◌+◌, ◌-◌, ◌<◌, ◌≤◌, Bool, true, false, cond, nat_lt, List, [], ◌∷◌, ◌++◌, length, take, drop, drop-cons, get_or, Option, None, Some, Result, Ok, Err, refl, ap, sym, ◌∙◌, subst, arith, rules}
use Rattle.std.proofs.lemmas.List.{append-nil, drop-drop, length-append, length-drop, length-take-le, take-append-drop}
use Rattle.layout.specs.Splice.{splice}
use Rattle.cluster_tree.specs.PathValue.{PathValue}
use Rattle.cluster_tree.specs.Contents.{Contents, Entry, FolderEntry, FileEntry, LinkEntry, entry_at}
use Rattle.cluster_tree.specs.Change.{Change, MakesFile, Writes, first_refusal, or_next}
use Rattle.cluster_tree.specs.Tree.{bytes_at, bytes_in, file_of, refusal_past, write_refusal, written}
use Rattle.cluster_tree.specs.declared.tree.Tree.{Ghosts}
use Rattle.cluster_tree.specs.declared.tree.TreeFault.{TreeFault}
use Rattle.cluster_tree.specs.declared.tree.TreeFault.TheVariants as fault
use Rattle.cluster_tree.proofs.ContentsLemmas.{write_refusal-put}
use Rattle.marked_runs.specs.Carried.{Carries}
use Rattle.marked_runs.specs.Performed.{Performs}
use Rattle.marked_runs.specs.Runs.{is_done, writes_at}
use Rattle.marked_runs.specs.declared.faults.PerformFault.{PerformFault}
use Rattle.marked_runs.specs.declared.faults.StepFault.{StepFault}
use Rattle.marked_runs.proofs.CarriedLemmas.{performs-front, performs-nothing, performs-then}
use Rattle.marked_runs.proofs.ZeroLemmas.{padded-carried, padded-front, runs-less, runs-more}
use Rattle.pair_maker.specs.Entries.{Standing, changes_at, changes_of, pages_from}
use Rattle.pair_maker.specs.Blocks.{block_page}

-- ---- a write, and what goes on behind it

splice_reaches : (old : List ℕ) (at : ℕ) (a : List ℕ) → at ≤ length old → at + length a ≤ length (splice old at a)
unfolding splice
splice_reaches old at a fits =
    omega (arith, length-append (take at old ++ a) (drop (at + length a) old), length-append (take at old) a, length-take-le at old fits)

not_past : (n at : ℕ) (b : Bool) → nat_lt n at ≡ b → cond b (Some fault.PastEnd) None ≡ None → at ≤ n
not_past n at true is e = absurd (cc e)
not_past n at false is e = grind (arith, rules, is)

of_file : (o : Option Entry) (at : ℕ) → refusal_past (file_of o) at ≡ None → at ≤ length (bytes_in o)
of_file None at e = absurd (cc e)
of_file (Some (FolderEntry bad)) at e = absurd (cc e)
of_file (Some (FileEntry bytes)) at e = not_past (length bytes) at (nat_lt (length bytes) at) refl e
of_file (Some LinkEntry) at e = absurd (cc e)

first : (o : Option TreeFault) → or_next o None ≡ None → o ≡ None
first None e = refl
first (Some f) e = e

-- what follows a write isn't refused
next_unrefused : (c d : Contents) (path : PathValue) (at : ℕ) (x rest : List ℕ) → write_refusal c path at ≡ None → d ≡ written c path at x → first_refusal d (writes_at path (at + length x) rest) ≡ None
next_unrefused c d path at x [] unrefused is = refl
next_unrefused c d path at x (y ∷ rest) unrefused is =
    ap (λ o. or_next o None) (
    ap (λ e. write_refusal e path (at + length x)) is
    ∙ write_refusal-put c path (splice (bytes_at c path) at x) (at + length x) (splice_reaches (bytes_at c path) at x (of_file (entry_at c path) at unrefused)))

pub carried-more : {F : Type 0} (tree : Ghosts F) (path : PathValue) (at : ℕ) (x rest : List ℕ) (a b c : F) (u : Unit {0}) (r : Result (Unit {0}) StepFault) → 0 < length x
    → Carries tree (Writes path at x ∷ []) a b (Ok u) → Carries tree (writes_at path (at + length x) rest) b c r → Carries tree (writes_at path at (x ++ rest)) a c r
carried-more tree path at [] rest a b c u r some one other told none = absurd (omega (arith, some))
carried-more tree path at (y ∷ x) rest a b c u r some one other told none =
    let unrefused = first (write_refusal (tree.contents a) path at) none in
    let ran = one told none in
    let more = other told (next_unrefused (tree.contents a) (tree.contents b) path at (y ∷ x) rest unrefused (ran.runs.after refl)) in
    record {
      runs = runs-more path at (y ∷ x) rest (tree.calls a) (tree.calls b) (tree.calls c) (tree.contents a) (tree.contents b) (tree.contents c) (is_done r) unrefused ran.runs more.runs;
      agreed = more.agreed;
    }

pub carried-less : {F : Type 0} (tree : Ghosts F) (path : PathValue) (at : ℕ) (x rest : List ℕ) (a b : F) (e : StepFault) → 0 < length x
    → Carries tree (Writes path at x ∷ []) a b (Err e) → Carries tree (writes_at path at (x ++ rest)) a b (Err e)
carried-less tree path at [] rest a b e some one told none = absurd (omega (arith, some))
carried-less tree path at (y ∷ x) rest a b e some one told none =
    let ran = one told none in
    record {
      runs = runs-less path at (y ∷ x) rest (tree.calls a) (tree.calls b) (tree.contents a) (tree.contents b) (first (write_refusal (tree.contents a) path at) none) ran.runs;
      agreed = ran.agreed;
    }

carried-nothing : {F : Type 0} (tree : Ghosts F) (a : F) → Carries tree [] a a (Ok tt)
carried-nothing tree a told none = record {
  runs = record { made = []; grew = sym (append-nil (tree.calls a)); rest = []; joins = refl; all = λ h. refl; after = λ h. refl; elsewhere = λ p off. refl };
  agreed = λ h. cc h;
}

-- ---- a range, written in several writes

-- whatever the rest of a range comes to, all of it comes to
abbrev pub Reaches : {F : Type 0} → Ghosts F → PathValue → (at : ℕ) → List ℕ → F → (from : ℕ) → List ℕ → F → Type 0
Reaches {F} tree path at all first from rest now = (end : F) (r : Result (Unit {0}) StepFault) → Carries tree (writes_at path from rest) now end r → Carries tree (writes_at path at all) first end r

pub reaches-on : {F : Type 0} (tree : Ghosts F) (path : PathValue) (at from next : ℕ) (all old x rest : List ℕ) (first now then : F) (u : Unit {0}) → old ≡ x ++ rest → next ≡ from + length x → 0 < length x
    → Reaches tree path at all first from old now → Carries tree (Writes path from x ∷ []) now then (Ok u) → Reaches tree path at all first next rest then
reaches-on tree path at from next all old x rest first now then u is to some goes one end r more =
    goes end r (subst (λ l. Carries tree (writes_at path from l) now end r) (sym is)
    (carried-more tree path from x rest now then end u r some one (subst (λ n. Carries tree (writes_at path n rest) then end r) to more)))

pub reaches-broken : {F : Type 0} (tree : Ghosts F) (path : PathValue) (at from : ℕ) (all old x rest : List ℕ) (first now then : F) (e : StepFault) → old ≡ x ++ rest → 0 < length x
    → Reaches tree path at all first from old now → Carries tree (Writes path from x ∷ []) now then (Err e) → Carries tree (writes_at path at all) first then (Err e)
reaches-broken tree path at from all old x rest first now then e is some goes one =
    goes then (Err e) (subst (λ l. Carries tree (writes_at path from l) now then (Err e)) (sym is) (carried-less tree path from x rest now then e some one))

pub reaches-all : {F : Type 0} (tree : Ghosts F) (path : PathValue) (at from : ℕ) (all old : List ℕ) (first now : F) → old ≡ [] → Reaches tree path at all first from old now → Carries tree (writes_at path at all) first now (Ok tt)
reaches-all tree path at from all old first now none goes =
    goes now (Ok tt) (subst (λ l. Carries tree (writes_at path from l) now now (Ok tt)) (sym none) (carried-nothing tree now))

-- ---- pieces of bytes

pub piece-is : (bytes : List ℕ) (from to : ℕ) → from ≤ to → drop from bytes ≡ take (to - from) (drop from bytes) ++ drop to bytes
piece-is bytes from to l =
    sym (take-append-drop (to - from) (drop from bytes))
    ∙ ap (λ d. take (to - from) (drop from bytes) ++ d) (drop-drop (to - from) from bytes ∙ ap (λ k. drop k bytes) (omega (arith, l)))

pub piece_length : (bytes : List ℕ) (from to : ℕ) → from ≤ to → to ≤ length bytes → length (take (to - from) (drop from bytes)) ≡ to - from
piece_length bytes from to l within = length-take-le (to - from) (drop from bytes) (omega (arith, length-drop from bytes, l, within))

pub none-left : (bytes : List ℕ) (from : ℕ) → length bytes ≤ from → drop from bytes ≡ []
none-left bytes from l = no_bytes (drop from bytes) (omega (arith, length-drop from bytes, l))
  where
    no_bytes : (xs : List ℕ) → length xs ≡ 0 → xs ≡ []
    no_bytes [] e = refl
    no_bytes (x ∷ xs) e = absurd (omega (arith, e))

-- a file is made with its first bytes, and then the others are written
abbrev made_with : PathValue → List ℕ → List Change
made_with path bytes = MakesFile path ∷ Writes path 0 bytes ∷ []

pub file-made : {F : Type 0} (tree : Ghosts F) (path : PathValue) (bytes : List ℕ) (n : ℕ) (a b c : F) (u : Unit {0}) (r : Result (Unit {0}) StepFault) → n ≤ length bytes
    → Carries tree (made_with path (take n bytes)) a b (Ok u) → Carries tree (writes_at path n (drop n bytes)) b c r → Carries tree (made_with path bytes) a c r
file-made tree path bytes n a b c u r l one other =
    subst (λ x. Carries tree (made_with path x) a c r) (take-append-drop n bytes)
    (padded-carried tree path (take n bytes) (drop n bytes) a b c u r one (subst (λ k. Carries tree (writes_at path k (drop n bytes)) b c r) (sym (length-take-le n bytes l)) other))

pub file-broken : {F : Type 0} (tree : Ghosts F) (path : PathValue) (bytes : List ℕ) (n : ℕ) (a b : F) (e : StepFault)
    → Carries tree (made_with path (take n bytes)) a b (Err e) → Carries tree (made_with path bytes) a b (Err e)
file-broken tree path bytes n a b e one =
    subst (λ x. Carries tree (made_with path x) a b (Err e)) (take-append-drop n bytes) (padded-front tree path (take n bytes) (drop n bytes) a b e one)

-- ---- pages of a relation

pub pages-cons : (seed block : ℕ) (ends : List (Option ℕ)) (d : Option ℕ) → block < length ends → pages_from seed block (drop block ends) ≡ block_page seed block (get_or ends block d) ++ pages_from seed (block + 1) (drop (block + 1) ends)
pages-cons seed block ends d l =
    let next : suc block ≡ block + 1 = omega arith in
    ap (pages_from seed block) (drop-cons ends block d l ∙ ap (λ k. get_or ends block d ∷ drop k ends) next)

pub pages-none : (seed block : ℕ) (ends : List (Option ℕ)) → length ends ≤ block → pages_from seed block (drop block ends) ≡ []
pages-none seed block ends l = ap (pages_from seed block) (no_ends (drop block ends) (omega (arith, length-drop block ends, l)))
  where
    no_ends : (xs : List (Option ℕ)) → length xs ≡ 0 → xs ≡ []
    no_ends [] e = refl
    no_ends (x ∷ xs) e = absurd (omega (arith, e))

-- the first page is written with the file, and then the others
pub relation-made : {F : Type 0} (tree : Ghosts F) (path : PathValue) (seed : ℕ) (ends : List (Option ℕ)) (d : Option ℕ) (a b c : F) (u : Unit {0}) (r : Result (Unit {0}) StepFault) → 0 < length ends → length (block_page seed 0 (get_or ends 0 d)) ≡ 8192
    → Carries tree (made_with path (block_page seed 0 (get_or ends 0 d))) a b (Ok u) → Carries tree (writes_at path 8192 (pages_from seed 1 (drop 1 ends))) b c r → Carries tree (made_with path (pages_from seed 0 ends)) a c r
relation-made tree path seed ends d a b c u r some size one other =
    subst (λ x. Carries tree (made_with path x) a c r) (sym (pages-cons seed 0 ends d some))
    (padded-carried tree path (block_page seed 0 (get_or ends 0 d)) (pages_from seed 1 (drop 1 ends)) a b c u r one (subst (λ k. Carries tree (writes_at path k (pages_from seed 1 (drop 1 ends))) b c r) (sym size) other))

pub relation-broken : {F : Type 0} (tree : Ghosts F) (path : PathValue) (seed : ℕ) (ends : List (Option ℕ)) (d : Option ℕ) (a b : F) (e : StepFault) → 0 < length ends
    → Carries tree (made_with path (block_page seed 0 (get_or ends 0 d))) a b (Err e) → Carries tree (made_with path (pages_from seed 0 ends)) a b (Err e)
relation-broken tree path seed ends d a b e some one =
    subst (λ x. Carries tree (made_with path x) a b (Err e)) (sym (pages-cons seed 0 ends d some)) (padded-front tree path (block_page seed 0 (get_or ends 0 d)) (pages_from seed 1 (drop 1 ends)) a b e one)

-- ---- the entries, one after another

-- whatever the rest comes to, all come to
abbrev pub Goes : {F : Type 0} → Ghosts F → List Standing → F → List Standing → F → Type 0
Goes {F} tree all first rest now = (end : F) (r : Result (Unit {0}) PerformFault) → Performs tree (changes_of rest) now end r → Performs tree (changes_of all) first end r

pub goes-on : {F : Type 0} (tree : Ghosts F) (all old new : List Standing) (x : Standing) (first now next : F) (u : Unit {0}) → old ≡ x ∷ new → Goes tree all first old now → Performs tree (changes_at x.path x.entry) now next (Ok u) → Goes tree all first new next
goes-on tree all old new x first now next u is goes one end r more =
    goes end r (subst (λ l. Performs tree (changes_of l) now end r) (sym is) (performs-then tree (changes_at x.path x.entry) (changes_of new) now next end u r one more))

pub goes-broken : {F : Type 0} (tree : Ghosts F) (all old new : List Standing) (x : Standing) (first now next : F) (e : PerformFault) → old ≡ x ∷ new → Goes tree all first old now → Performs tree (changes_at x.path x.entry) now next (Err e) → Performs tree (changes_of all) first next (Err e)
goes-broken tree all old new x first now next e is goes one =
    goes next (Err e) (subst (λ l. Performs tree (changes_of l) now next (Err e)) (sym is) (performs-front tree (changes_at x.path x.entry) (changes_of new) now next e one))

pub goes-all : {F : Type 0} (tree : Ghosts F) (all old : List Standing) (first now : F) → old ≡ [] → Goes tree all first old now → Performs tree (changes_of all) first now (Ok tt)
goes-all tree all old first now none goes = goes now (Ok tt) (subst (λ l. Performs tree (changes_of l) now now (Ok tt)) (sym none) (performs-nothing tree now))
