-- Steps that are done again, one after another.
use Rattle.std.proofs.Common.{◌≡◌, ◌≢◌, ◌⊎◌, ◌↔◌, ℕ, ◌+◌, ◌<◌, ◌≤◌, Bool, true, false, cond, nat_lt, IsTrue, List, [], ◌∷◌, length, take, drop, Option, None, Some, is_some, Result, Ok, Err, refl, ap, sym, ◌∙◌, subst, arith, rules}
use Rattle.std.specs.List.{list_any}
use Rattle.cluster_tree.specs.PathValue.{PathValue}
use Rattle.cluster_tree.specs.Contents.{Contents, Entry, FolderEntry, FileEntry, LinkEntry, entry_at, is_file, is_folder}
use Rattle.cluster_tree.specs.Change.{Change, Cuts, MakesFile, MakesFolder, Removes, Writes, all_changed, first_refusal, is_on, or_next}
use Rattle.cluster_tree.specs.Frame.{Reads}
use Rattle.cluster_tree.specs.Run.{state_by}
use Rattle.cluster_tree.specs.Tree.{bytes_at, bytes_in, file_of, kind_of, range_of, refusal_past}
use Rattle.cluster_tree.specs.declared.tree.Kind.TheVariants as kind
use Rattle.cluster_tree.specs.declared.tree.Tree.{Ghosts}
use Rattle.cluster_tree.specs.declared.tree.TreeFault.TheVariants as fault
use Rattle.cluster_tree.proofs.ChangeLemmas.{changed-elsewhere}
use Rattle.cluster_tree.proofs.OrderLemmas.{path_eq-own}
use Rattle.marked_runs.specs.Carried.{Carries}
use Rattle.marked_runs.specs.Runs.{writes_at}
use Rattle.marked_runs.specs.declared.faults.StepFault.{StepFault}
use Rattle.marked_runs.specs.declared.faults.StepFault.TheVariants as stepfault
use Rattle.rewind_writes.specs.Steps.{FindAll, Finds, IsRead, opened, part_of}
use Rattle.rewind_writes.specs.declared.plan.FileBytes.{FileBytes}
use Rattle.rewind_writes.specs.declared.step.Step.{Step}
use Rattle.rewind_writes.specs.declared.step.Step.TheVariants.{Folder, Whole, Cut, Range, Remove}
use Rattle.rewind_writes.proofs.CopyLemmas.{range-length, range-read}
use Rattle.rewind_writes.proofs.StepLemmas.{find-both, finds-both}
use Rattle.resumed_laws.specs.Resumed.{resumed_closing, resumed_of, resumed_steps}
use Rattle.resumed_writes.specs.Again.{AreReadable, TakesAgain, TakesAllAgain, TakesBodyAgain}
use Rattle.resumed_writes.specs.Outcomes.{at_source, at_target}
use Rattle.resumed_writes.specs.Tried.{Tries}
use Rattle.resumed_writes.specs.declared.faults.StoredPerformFault.{StoredPerformFault}
use Rattle.resumed_writes.specs.declared.faults.StoredPerformFault.TheVariants as stored
use Rattle.resumed_writes.proofs.TriedLemmas.{carried-tried, look-broken, target-front, tried-front, tried-nothing, tried-read, tried-refused, tried-same, tried-then, tried-told}

-- ---- what a look found

pub found-so : {P : Type 0} (b : Bool) → b ≡ true → (IsTrue b ↔ P) → P
found-so b is told = told.0 is

pub found-not : {P : Type 0} (b : Bool) → b ≡ false → (IsTrue b ↔ P) → P → ⊥
found-not b is told p = cc (sym (told.1 p) ∙ is)

-- ---- what stands at a path

folder-there : (o : Option Entry) → kind_of o ≡ Ok kind.Folder → is_folder o ≡ true
folder-there None e = absurd (cc e)
folder-there (Some (FolderEntry bad)) e = refl
folder-there (Some (FileEntry bytes)) e = absurd (cc e)
folder-there (Some LinkEntry) e = absurd (cc e)

folder-other : (o : Option Entry) → (kind_of o ≡ Ok kind.Folder → ⊥) → is_folder o ≡ false
folder-other None e = refl
folder-other (Some (FolderEntry bad)) e = absurd (e refl)
folder-other (Some (FileEntry bytes)) e = refl
folder-other (Some LinkEntry) e = refl

file-there : (o : Option Entry) → kind_of o ≡ Ok kind.File → is_file o ≡ true
file-there None e = absurd (cc e)
file-there (Some (FolderEntry bad)) e = absurd (cc e)
file-there (Some (FileEntry bytes)) e = refl
file-there (Some LinkEntry) e = absurd (cc e)

file-other : (o : Option Entry) → (kind_of o ≡ Ok kind.File → ⊥) → is_file o ≡ false
file-other None e = refl
file-other (Some (FolderEntry bad)) e = refl
file-other (Some (FileEntry bytes)) e = absurd (e refl)
file-other (Some LinkEntry) e = refl

none-there : (o : Option Entry) → kind_of o ≡ Ok kind.Absent → is_some o ≡ false
none-there None e = refl
none-there (Some (FolderEntry bad)) e = absurd (cc e)
none-there (Some (FileEntry bytes)) e = absurd (cc e)
none-there (Some LinkEntry) e = absurd (cc e)

some-there : (o : Option Entry) → (kind_of o ≡ Ok kind.Absent → ⊥) → is_some o ≡ true
some-there None e = absurd (e refl)
some-there (Some entry) e = refl

-- the changes of a step by what stands there
pub folder-again : (c : Contents) (path : PathValue) → kind_of (entry_at c path) ≡ Ok kind.Folder → [] ≡ resumed_of c (Folder path)
folder-again c path e = ap (λ b. cond b [] (MakesFolder path ∷ [])) (sym (folder-there (entry_at c path) e))

pub folder-new : (c : Contents) (path : PathValue) → (kind_of (entry_at c path) ≡ Ok kind.Folder → ⊥) → MakesFolder path ∷ [] ≡ resumed_of c (Folder path)
folder-new c path e = ap (λ b. cond b [] (MakesFolder path ∷ [])) (sym (folder-other (entry_at c path) e))

pub gone-again : (c : Contents) (path : PathValue) → kind_of (entry_at c path) ≡ Ok kind.Absent → [] ≡ resumed_of c (Remove path)
gone-again c path e = ap (λ b. cond b (Removes path ∷ []) []) (sym (none-there (entry_at c path) e))

pub gone-now : (c : Contents) (path : PathValue) → (kind_of (entry_at c path) ≡ Ok kind.Absent → ⊥) → Removes path ∷ [] ≡ resumed_of c (Remove path)
gone-now c path e = ap (λ b. cond b (Removes path ∷ []) []) (sym (some-there (entry_at c path) e))

pub opened-there : (c : Contents) (path : PathValue) → kind_of (entry_at c path) ≡ Ok kind.File → Cuts path 0 ∷ [] ≡ opened c path ∷ []
opened-there c path e = ap (λ b. cond b (Cuts path 0) (MakesFile path) ∷ []) (sym (file-there (entry_at c path) e))

pub opened-new : (c : Contents) (path : PathValue) → (kind_of (entry_at c path) ≡ Ok kind.File → ⊥) → MakesFile path ∷ [] ≡ opened c path ∷ []
opened-new c path e = ap (λ b. cond b (Cuts path 0) (MakesFile path) ∷ []) (sym (file-other (entry_at c path) e))

-- ---- a look, and then a step

pub takes-read : {F : Type 0} (tree : Ghosts F) (step : Step) (a b c : F) (r : Result (Unit {0}) StoredPerformFault) → Reads tree a b → TakesAgain tree step b c r → TakesAgain tree step a c r
takes-read tree step a b c r reads one found =
    subst (λ d. Tries tree (resumed_of d step) a c r) reads.same (tried-read tree (resumed_of (tree.contents b) step) a b c r reads (one (subst (λ d. Finds d (resumed_of d step) step) (sym reads.same) found)))

pub source-broken : {F : Type 0} (tree : Ghosts F) (step : Step) (from : PathValue) (a b : F) (f : StepFault) (e : StoredPerformFault) → e ≡ at_source from f → f ≡ stepfault.ReadFault → Reads tree a b → TakesAgain tree step a b (Err e)
source-broken tree step from a b f e is only reads found = look-broken tree (resumed_of (tree.contents a) step) a b e reads (λ told. is ∙ ap (at_source from) only)

-- ---- a range

within : (n m : ℕ) → n ≤ m → (b : Bool) → nat_lt m n ≡ b → cond b (Some fault.PastEnd) None ≡ None
within n m l true is = absurd (grind (arith, rules, is, l))
within n m l false is = refl

past-file : (o : Option Entry) (n : ℕ) → is_file o ≡ true → n ≤ length (bytes_in o) → refusal_past (file_of o) n ≡ None
past-file None n file l = absurd (cc file)
past-file (Some (FolderEntry bad)) n file l = absurd (cc file)
past-file (Some (FileEntry bytes)) n file l = within n (length bytes) l (nat_lt (length bytes) n) refl
past-file (Some LinkEntry) n file l = absurd (cc file)

-- a file that is read reaches so far
pub read-reaches : (c : Contents) (changes : List Change) (from : PathValue) (at size : ℕ) → IsRead c changes from at size → refusal_past (file_of (entry_at c from)) (at + size) ≡ None
read-reaches c changes from at size read = past-file (entry_at c from) (at + size) read.file read.bytes

-- so a file that doesn't isn't read
pub source-range : {F : Type 0} (tree : Ghosts F) (from to : PathValue) (at size : ℕ) (a b : F) (r : Result (Unit {0}) StoredPerformFault) → (IsTrue tree.tells → refusal_past (file_of (entry_at (tree.contents a) from)) (at + size) ≢ None) → TakesAgain tree (Range from to at size) a b r
source-range tree from to at size a b r short found told = absurd (short told (read-reaches (tree.contents a) _ from at size found))

pub source-whole : {F : Type 0} (tree : Ghosts F) (from to : PathValue) (size : ℕ) (a b : F) (r : Result (Unit {0}) StoredPerformFault) → (IsTrue tree.tells → refusal_past (file_of (entry_at (tree.contents a) from)) size ≢ None) → TakesAgain tree (Whole from to size) a b r
source-whole tree from to size a b r short found told = absurd (short told (ap (refusal_past (file_of (entry_at (tree.contents a) from))) (omega arith) ∙ read-reaches (tree.contents a) _ from 0 size found))

unrefused-writes : (c : Contents) (to : PathValue) (at : ℕ) (bytes : List ℕ) → refusal_past (file_of (entry_at c to)) at ≡ None → first_refusal c (writes_at to at bytes) ≡ None
unrefused-writes c to at [] reach = refl
unrefused-writes c to at (x ∷ bytes) reach = ap (λ o. or_next o None) reach

module _ {F : Type 0} (tree : Ghosts F) (from to : PathValue) (at size : ℕ) (a : F) where
  abbrev pub CopiesRange : F → Result (Unit {0}) StepFault → Type 0
  CopiesRange b r = (bytes : List ℕ) → range_of (file_of (entry_at (tree.contents a) from)) at size ≡ Ok bytes → list_any (is_on from) (writes_at to at bytes) ≡ false → Carries tree (writes_at to at bytes) a b r

  pub range-tried : (b : F) (r : Result (Unit {0}) StepFault) (s : Result (Unit {0}) StoredPerformFault) → CopiesRange b r → (IsTrue tree.tells → refusal_past (file_of (entry_at (tree.contents a) to)) at ≡ None)
      → (s ≡ Ok tt) × (r ≡ Ok tt) ⊎ ((e : StepFault) × (r ≡ Err e) × (s ≡ Err (at_source from e))) → TakesAgain tree (Range from to at size) a b s
  range-tried b r s copies reach how found told =
      let c = tree.contents a in
      let bytes = part_of c from at size in
      let none = unrefused-writes c to at bytes (reach told) in
      carried-tried from (writes_at to at bytes) (state_by tree.contents tree.calls a) (state_by tree.contents tree.calls b) r s none
      (copies bytes (range-read c (writes_at to at bytes) from at size (entry_at c from) refl found) found.kept told none) how

  -- after a look
  pub look-tried : (z b : F) (r : Result (Unit {0}) StepFault) (s : Result (Unit {0}) StoredPerformFault) → Reads tree z a → CopiesRange b r → (IsTrue tree.tells → refusal_past (file_of (entry_at (tree.contents z) to)) at ≡ None)
      → (s ≡ Ok tt) × (r ≡ Ok tt) ⊎ ((e : StepFault) × (r ≡ Err e) × (s ≡ Err (at_source from e))) → TakesAgain tree (Range from to at size) z b s
  look-tried z b r s reads copies reach how =
      takes-read tree (Range from to at size) z a b s reads (range-tried b r s copies (λ told. ap (λ d. refusal_past (file_of (entry_at d to)) at) reads.same ∙ reach told) how)

  refused-writes : (bytes : List ℕ) → 0 < length bytes → (IsTrue tree.tells → refusal_past (file_of (entry_at (tree.contents a) to)) at ≢ None) → Tries tree (writes_at to at bytes) a a (Err (stored.TargetDiffers to))
  refused-writes [] some refused = absurd (omega (arith, some))
  refused-writes (x ∷ bytes) some refused = tried-refused tree to (Writes to at (x ∷ bytes)) [] a (path_eq-own to) refused

  pub range-refused : 0 < size → (IsTrue tree.tells → refusal_past (file_of (entry_at (tree.contents a) to)) at ≢ None) → TakesAgain tree (Range from to at size) a a (Err (stored.TargetDiffers to))
  range-refused some refused found =
      let c = tree.contents a in
      let long = range-length (entry_at c from) at size (part_of c from at size) (range-read c (writes_at to at (part_of c from at size)) from at size (entry_at c from) refl found) in
      refused-writes (part_of c from at size) (omega (arith, long, some)) refused

  pub look-refused : (b : F) → Reads tree b a → 0 < size → (IsTrue tree.tells → refusal_past (file_of (entry_at (tree.contents b) to)) at ≢ None) → TakesAgain tree (Range from to at size) b a (Err (stored.TargetDiffers to))
  look-refused b reads some refused =
      takes-read tree (Range from to at size) b a a (Err (stored.TargetDiffers to)) reads
      (range-refused some (λ told none. refused told (ap (λ d. refusal_past (file_of (entry_at d to)) at) (sym reads.same) ∙ none)))

  pub range-none : size ≡ 0 → TakesAgain tree (Range from to at size) a a (Ok tt)
  range-none none found = tried-same tree [] (writes_at to at (part_of (tree.contents a) from at size)) a a (Ok tt) (λ told. ap (λ n. writes_at to at (take n (drop at (bytes_at (tree.contents a) from)))) (sym none)) (tried-nothing tree a tt)

-- ---- a whole file

read-moved : (c d : Contents) (from to : PathValue) (at size : ℕ) → entry_at d from ≡ entry_at c from → IsRead c (writes_at to at (part_of c from at size)) from at size → IsRead d (writes_at to at (part_of d from at size)) from at size
read-moved c d from to at size same read = record {
  file = ap is_file same ∙ read.file;
  bytes = subst (λ o. at + size ≤ length (bytes_in o)) (sym same) read.bytes;
  kept = subst (λ o. list_any (is_on from) (writes_at to at (take size (drop at (bytes_in o)))) ≡ false) (sym same) read.kept;
}

pub whole-tried : {F : Type 0} (tree : Ghosts F) (from to : PathValue) (size : ℕ) (a b c : F) (u : Unit {0}) (r : Result (Unit {0}) StoredPerformFault) → Tries tree (opened (tree.contents a) to ∷ []) a b (Ok u) → TakesAgain tree (Range from to 0 size) b c r → TakesAgain tree (Whole from to size) a c r
whole-tried tree from to size a b c u r one other found told =
    let k = tree.contents a in
    let make = opened k to ∷ [] in
    let own = finds-both k make (writes_at to 0 (part_of k from 0 size)) (Whole from to size) found in
    let same = (one told).runs.elsewhere from own.0.kept in
    let more = other (read-moved k (tree.contents b) from to 0 size same own.1) in
    tried-then tree make (writes_at to 0 (part_of k from 0 size)) a b c u r one
    (tried-same tree (writes_at to 0 (part_of (tree.contents b) from 0 size)) (writes_at to 0 (part_of k from 0 size)) b c r (λ _. ap (λ o. writes_at to 0 (take size (drop 0 (bytes_in o)))) same) more) told

pub whole-broken : {F : Type 0} (tree : Ghosts F) (from to : PathValue) (size : ℕ) (a b : F) (s : StepFault) (e : Result (Unit {0}) StoredPerformFault) → e ≡ at_target to (Err s) → Tries tree (opened (tree.contents a) to ∷ []) a b (at_target to (Err s)) → TakesAgain tree (Whole from to size) a b e
whole-broken tree from to size a b s e is one found =
    let bytes = writes_at to 0 (part_of (tree.contents a) from 0 size) in
    tried-told tree (opened (tree.contents a) to ∷ bytes) a b (at_target to (Err s)) e is (target-front tree to (opened (tree.contents a) to ∷ []) bytes a b s one)

-- ---- what is read stays

finds-moved : (c d : Contents) (first later : List Change) (step : Step) → ((p : PathValue) → list_any (is_on p) first ≡ false → entry_at d p ≡ entry_at c p) → Finds c first step → Finds c later step → Finds d later step
finds-moved c d first later (Folder path) elsewhere now found = tt
finds-moved c d first later (Whole from to size) elsewhere now found =
    let same = elsewhere from now.kept in
    record { file = ap is_file same ∙ found.file; bytes = subst (λ o. 0 + size ≤ length (bytes_in o)) (sym same) found.bytes; kept = found.kept }
finds-moved c d first later (Cut path size) elsewhere now found = tt
finds-moved c d first later (Range from to at size) elsewhere now found =
    let same = elsewhere from now.kept in
    record { file = ap is_file same ∙ found.file; bytes = subst (λ o. at + size ≤ length (bytes_in o)) (sym same) found.bytes; kept = found.kept }
finds-moved c d first later (Remove path) elsewhere now found = tt

find-moved : (c d : Contents) (first later : List Change) (steps : List Step) → ((p : PathValue) → list_any (is_on p) first ≡ false → entry_at d p ≡ entry_at c p) → FindAll c first steps → FindAll c later steps → FindAll d later steps
find-moved c d first later [] elsewhere now found = tt
find-moved c d first later (step ∷ steps) elsewhere now found = (finds-moved c d first later step elsewhere now.0 found.0, find-moved c d first later steps elsewhere now.1 found.1)

-- ---- a step, and then others

pub again-then : {F : Type 0} (tree : Ghosts F) (step : Step) (steps : List Step) (a b c : F) (u : Unit {0}) (r : Result (Unit {0}) StoredPerformFault) → TakesAgain tree step a b (Ok u) → TakesAllAgain tree steps b c r → TakesAllAgain tree (step ∷ steps) a c r
again-then tree step steps a b c u r one more found told =
    let k = tree.contents a in
    let now = resumed_of k step in
    let d = all_changed k now in
    let later = resumed_steps d steps in
    let own = finds-both k now later step found.0 in
    let all = find-both k now later steps found.1 in
    let first = one own.0 in
    let after = (first told).runs.after refl in
    let next = more (subst (λ e. AreReadable e steps) (sym after) (find-moved k d now later steps (changed-elsewhere k now) all.0 all.1)) in
    tried-then tree now later a b c u r first (tried-same tree (resumed_steps (tree.contents b) steps) later b c r (λ _. ap (λ e. resumed_steps e steps) after) next) told

pub again-front : {F : Type 0} (tree : Ghosts F) (step : Step) (steps : List Step) (a b : F) (e : StoredPerformFault) → TakesAgain tree step a b (Err e) → TakesAllAgain tree (step ∷ steps) a b (Err e)
again-front tree step steps a b e one found =
    let k = tree.contents a in
    let now = resumed_of k step in
    let later = resumed_steps (all_changed k now) steps in
    tried-front tree now later a b e (one (finds-both k now later step found.0).0)

-- the loop over steps: whatever the rest comes to, all come to
abbrev pub GoesAgain : {F : Type 0} → Ghosts F → List Step → F → List Step → F → Type 0
GoesAgain {F} tree all first steps now = (end : F) (r : Result (Unit {0}) StoredPerformFault) → TakesAllAgain tree steps now end r → TakesAllAgain tree all first end r

pub goes-on : {F : Type 0} (tree : Ghosts F) (all old new : List Step) (step : Step) (first now next : F) (u : Unit {0}) → old ≡ step ∷ new → GoesAgain tree all first old now → TakesAgain tree step now next (Ok u) → GoesAgain tree all first new next
goes-on tree all old new step first now next u is goes one end r more = goes end r (subst (λ l. TakesAllAgain tree l now end r) (sym is) (again-then tree step new now next end u r one more))

pub goes-broken : {F : Type 0} (tree : Ghosts F) (all old new : List Step) (step : Step) (first now next : F) (e : StoredPerformFault) → old ≡ step ∷ new → GoesAgain tree all first old now → TakesAgain tree step now next (Err e) → TakesAllAgain tree all first next (Err e)
goes-broken tree all old new step first now next e is goes one = goes next (Err e) (subst (λ l. TakesAllAgain tree l now next (Err e)) (sym is) (again-front tree step new now next e one))

pub goes-all : {F : Type 0} (tree : Ghosts F) (all old : List Step) (first now : F) → old ≡ [] → GoesAgain tree all first old now → TakesAllAgain tree all first now (Ok tt)
goes-all tree all old first now none goes = goes now (Ok tt) (subst (λ l. TakesAllAgain tree l now now (Ok tt)) (sym none) (λ found. tried-nothing tree now tt))

-- ---- the label and the control file behind them

pub body-then : {F : Type 0} (tree : Ghosts F) (steps : List Step) (label control : FileBytes) (a b c : F) (u : Unit {0}) (r : Result (Unit {0}) StoredPerformFault) → TakesAllAgain tree steps a b (Ok u) → Tries tree (resumed_closing (tree.contents b) label control) b c r → TakesBodyAgain tree steps label control a c r
body-then tree steps label control a b c u r one other found told =
    let now = resumed_steps (tree.contents a) steps in
    let after = (one found told).runs.after refl in
    tried-then tree now (resumed_closing (all_changed (tree.contents a) now) label control) a b c u r (one found)
    (tried-same tree (resumed_closing (tree.contents b) label control) (resumed_closing (all_changed (tree.contents a) now) label control) b c r (λ _. ap (λ e. resumed_closing e label control) after) other) told

pub body-broken : {F : Type 0} (tree : Ghosts F) (steps : List Step) (label control : FileBytes) (a b : F) (e : StoredPerformFault) → TakesAllAgain tree steps a b (Err e) → TakesBodyAgain tree steps label control a b (Err e)
body-broken tree steps label control a b e one found =
    tried-front tree (resumed_steps (tree.contents a) steps) (resumed_closing (all_changed (tree.contents a) (resumed_steps (tree.contents a) steps)) label control) a b e (one found)
