-- What refusals tell of what stands, and what isn't refused; a file that is opened and written, what goes, and ranges.
use Rattle.std.proofs.Common.{◌≡◌, ◌⊎◌, ℕ, ◌+◌, ◌<◌, ◌≤◌, ◌&&◌, ◌||◌, Bool, true, false, cond, nat_lt, List, [], ◌∷◌, length, Option, None, Some, is_some, inl, inr, refl, sym, ap, ◌∙◌, true≢false, arith, rules}
use Rattle.std.specs.Prelude.{nat_le}
use Rattle.std.proofs.lemmas.Bool.Decides.{nat_tests}
use Rattle.std.specs.FinMap.{insert}
use Rattle.cluster_tree.specs.Change.{Cuts, MakesFile, all_changed, changed_by, first_refusal, or_next, refusal_of}
use Rattle.cluster_tree.specs.Contents.{Contents, Entry, FileEntry, FolderEntry, LinkEntry, entry_at, is_file, parent}
use Rattle.cluster_tree.specs.Folders.{removal_refusal}
use Rattle.cluster_tree.specs.PathValue.{PathValue}
use Rattle.cluster_tree.specs.Tree.{file_of, refusal_in, refusal_past}
use Rattle.cluster_tree.specs.declared.tree.TreeFault.{TreeFault}
use Rattle.cluster_tree.specs.declared.tree.TreeFault.TheVariants as fault
use Rattle.cluster_tree.proofs.ContentsLemmas.{write_refusal-put, written-new}
use Rattle.marked_runs.specs.Runs.{writes_at}
use Rattle.rewind_writes.specs.Steps.{opened}
use Rattle.resumed_laws.specs.Between.{may_be_file}
use Rattle.resumed_laws.proofs.KeptLemmas.{make-tells, past-tells}

-- ---- refusals

pub or_both : (o p : Option TreeFault) → or_next o p ≡ None → (o ≡ None) × (p ≡ None)
or_both None p e = (refl, e)
or_both (Some f) p e = absurd (cc e)

pub next-none : (o p : Option TreeFault) → o ≡ None → p ≡ None → or_next o p ≡ None
next-none o p one other = ap (λ x. or_next x p) one ∙ other

pub make-fits : (here up : Option Entry) → here ≡ None → refusal_in up ≡ None → cond (is_some here) (Some fault.Exists) (refusal_in up) ≡ None
make-fits here up none fits = ap (λ o. cond (is_some o) (Some fault.Exists) (refusal_in up)) none ∙ fits

pub not-less : (n m : ℕ) → m ≤ n → nat_lt n m ≡ false
not-less n m l = grind (arith, rules, l)

pub past-fits : (o : Option Entry) (bytes : List ℕ) (at : ℕ) → o ≡ Some (FileEntry bytes) → at ≤ length bytes → refusal_past (file_of o) at ≡ None
past-fits o bytes at is le = ap (λ x. refusal_past (file_of x) at) is ∙ ap (λ b. cond b (Some fault.PastEnd) None) (not-less (length bytes) at le)

pub file-fits : (o : Option Entry) → is_file o ≡ true → refusal_past (file_of o) 0 ≡ None
file-fits None e = absurd (cc e)
file-fits (Some (FolderEntry bad)) e = absurd (cc e)
file-fits (Some (FileEntry bytes)) e = past-fits (Some (FileEntry bytes)) bytes 0 refl (omega arith)
file-fits (Some LinkEntry) e = absurd (cc e)

pub file-is : (o : Option Entry) (bytes : List ℕ) → o ≡ Some (FileEntry bytes) → is_file o ≡ true
file-is o bytes is = ap is_file is

-- ---- a file that is opened, and written from its start

pub opened-leaves : (c : Contents) (path : PathValue) (b : Bool) → changed_by c (cond b (Cuts path 0) (MakesFile path)) ≡ insert c path (FileEntry [])
opened-leaves c path true = refl
opened-leaves c path false = refl

pub opened-tells : (c : Contents) (path : PathValue) (b : Bool) → refusal_of c (cond b (Cuts path 0) (MakesFile path)) ≡ None
    → (is_file (entry_at c path) ≡ true) ⊎ ((entry_at c path ≡ None) × (refusal_in (entry_at c (parent path)) ≡ None))
opened-tells c path true e = let (bytes, is, le) = past-tells (entry_at c path) 0 e in inl (file-is (entry_at c path) bytes is)
opened-tells c path false e = inr (make-tells (entry_at c path) (entry_at c (parent path)) e)

pub opened-fits : (c : Contents) (path : PathValue) → (is_file (entry_at c path) ≡ true) ⊎ ((entry_at c path ≡ None) × (refusal_in (entry_at c (parent path)) ≡ None)) → refusal_of c (opened c path) ≡ None
opened-fits c path how = by (is_file (entry_at c path)) refl how
  where
    by : (b : Bool) → is_file (entry_at c path) ≡ b → (is_file (entry_at c path) ≡ true) ⊎ ((entry_at c path ≡ None) × (refusal_in (entry_at c (parent path)) ≡ None)) → refusal_of c (cond b (Cuts path 0) (MakesFile path)) ≡ None
    by true e h = file-fits (entry_at c path) e
    by false e (inl file) = absurd (true≢false (sym file ∙ e))
    by false e (inr (none, up)) = make-fits (entry_at c path) (entry_at c (parent path)) none up

pub whole-writes : (c : Contents) (path : PathValue) (bytes : List ℕ) → (first_refusal (insert c path (FileEntry [])) (writes_at path 0 bytes) ≡ None) × (all_changed (insert c path (FileEntry [])) (writes_at path 0 bytes) ≡ insert c path (FileEntry bytes))
whole-writes c path [] = (refl, refl)
whole-writes c path (b ∷ bytes) = (next-none _ None (write_refusal-put c path [] 0 (omega arith)) refl, written-new c path (b ∷ bytes))

pub whole-leaves : (c : Contents) (path : PathValue) (bytes : List ℕ) (b : Bool) → all_changed c (cond b (Cuts path 0) (MakesFile path) ∷ writes_at path 0 bytes) ≡ insert c path (FileEntry bytes)
whole-leaves c path bytes b = ap (λ d. all_changed d (writes_at path 0 bytes)) (opened-leaves c path b) ∙ (whole-writes c path bytes).1

pub whole-fits : (c : Contents) (path : PathValue) (bytes : List ℕ) → refusal_of c (opened c path) ≡ None → first_refusal c (opened c path ∷ writes_at path 0 bytes) ≡ None
whole-fits c path bytes fits =
    next-none (refusal_of c (opened c path)) _ fits (ap (λ d. first_refusal d (writes_at path 0 bytes)) (opened-leaves c path (is_file (entry_at c path))) ∙ (whole-writes c path bytes).0)

-- ---- what goes

pub plain-tells : (in_use : Bool) (o : Option Entry) → removal_refusal in_use o ≡ None → (is_file o ≡ true) ⊎ ((o ≡ Some (FolderEntry false)) × (in_use ≡ false))
plain-tells in_use None e = absurd (cc e)
plain-tells in_use (Some (FolderEntry bad)) e = by bad in_use e
  where
    by : (b u : Bool) → cond (b || u) (Some fault.NotEmpty) None ≡ None → (is_file (Some (FolderEntry b)) ≡ true) ⊎ ((Some (FolderEntry b) ≡ Some (FolderEntry false)) × (u ≡ false))
    by true u h = absurd (cc h)
    by false true h = absurd (cc h)
    by false false h = inr (refl, refl)
plain-tells in_use (Some (FileEntry bytes)) e = inl refl
plain-tells in_use (Some LinkEntry) e = absurd (cc e)

pub file-goes : (in_use : Bool) (o : Option Entry) → is_file o ≡ true → removal_refusal in_use o ≡ None
file-goes in_use None e = absurd (cc e)
file-goes in_use (Some (FolderEntry bad)) e = absurd (cc e)
file-goes in_use (Some (FileEntry bytes)) e = refl
file-goes in_use (Some LinkEntry) e = absurd (cc e)

pub or-parts : (a b : Bool) → (a || b) ≡ false → (a ≡ false) × (b ≡ false)
or-parts true b e = absurd (true≢false e)
or-parts false b e = (refl, e)

pub or-none : (a b : Bool) → a ≡ false → b ≡ false → (a || b) ≡ false
or-none true b e f = e
or-none false b e f = f

pub there-none : (o : Option Entry) → is_some o ≡ false → o ≡ None
there-none None e = refl
there-none (Some entry) e = absurd (true≢false e)

pub may-there : (o : Option Entry) → may_be_file o ≡ true → is_some o ≡ true → is_file o ≡ true
may-there None e f = absurd (cc f)
may-there (Some (FolderEntry bad)) e f = absurd (cc e)
may-there (Some (FileEntry bytes)) e f = refl
may-there (Some LinkEntry) e f = absurd (cc e)

-- ---- ranges

pub out-range : (at size k : ℕ) → (k < at) ⊎ (at + size ≤ k) → (nat_le at k && nat_lt k (at + size)) ≡ false
out-range at size k (inl lt) = grind (arith, nat_tests, lt)
out-range at size k (inr le) = grind (arith, nat_tests, le)

pub and-none : (a b : Bool) → b ≡ false → (a && b) ≡ false
and-none true b e = e
and-none false b e = refl
