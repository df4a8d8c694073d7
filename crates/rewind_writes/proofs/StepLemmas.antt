-- Steps, one after another.
use Rattle.std.proofs.Common.{◌≡◌, ℕ, Bool, true, false, ◌||◌, IsTrue, None, List, [], ◌∷◌, ◌++◌, Result, Ok, Err, refl, ap, sym, ◌∙◌, subst, append_assoc}
use Rattle.std.proofs.lemmas.List.Folds.{list_any-append}
use Rattle.std.specs.List.{list_any}
use Rattle.cluster_tree.specs.PathValue.{PathValue}
use Rattle.cluster_tree.specs.Contents.{Contents, entry_at}
use Rattle.cluster_tree.specs.Change.{Change, all_changed, first_refusal, is_on}
use Rattle.cluster_tree.specs.declared.tree.Tree.{Ghosts}
use Rattle.marked_runs.specs.Performed.{Performs}
use Rattle.marked_runs.specs.declared.faults.PerformFault.{PerformFault}
use Rattle.marked_runs.specs.Carried.{Carries}
use Rattle.marked_runs.specs.Runs.{ended, writes_at}
use Rattle.marked_runs.proofs.CarriedLemmas.{both_unrefused, performs-done, performs-front, performs-nothing, performs-then}
use Rattle.rewind_writes.specs.Plan.{IsFound, body_changes, closing_changes, mark_laid, plan_changes}
use Rattle.rewind_writes.specs.Steps.{FindAll, Finds, IsRead, changes_of, opened, part_of, steps_changes}
use Rattle.rewind_writes.specs.Taken.{AllAreAsFound, IsAsFound, Takes, TakesAll, TakesBody, TakesMarked}
use Rattle.rewind_writes.specs.declared.plan.FileBytes.{FileBytes}
use Rattle.rewind_writes.specs.declared.plan.Plan.{Plan}
use Rattle.rewind_writes.specs.declared.step.Step.{Step}
use Rattle.rewind_writes.specs.declared.step.Step.TheVariants.{Folder, Whole, Cut, Range, Remove}

-- ---- what is off all changes is off each part of them

pub off-both : (p : PathValue) (xs ys : List Change) → list_any (is_on p) (xs ++ ys) ≡ false → (list_any (is_on p) xs ≡ false) × (list_any (is_on p) ys ≡ false)
off-both p xs ys off = of_both (list_any (is_on p) xs) (list_any (is_on p) ys) (sym (list_any-append (is_on p) xs ys) ∙ off)
  where
    of_both : (a b : Bool) → (a || b) ≡ false → (a ≡ false) × (b ≡ false)
    of_both true b e = absurd (cc e)
    of_both false b e = (refl, e)

read_both : (c : Contents) (xs ys : List Change) (from : PathValue) (at size : ℕ) → IsRead c (xs ++ ys) from at size → IsRead c xs from at size × IsRead c ys from at size
read_both c xs ys from at size read =
    let two = off-both from xs ys read.kept in
    (record { file = read.file; bytes = read.bytes; kept = two.0 }, record { file = read.file; bytes = read.bytes; kept = two.1 })

pub finds-both : (c : Contents) (xs ys : List Change) (step : Step) → Finds c (xs ++ ys) step → Finds c xs step × Finds c ys step
finds-both c xs ys (Folder path) found = (tt, tt)
finds-both c xs ys (Whole from to size) found = read_both c xs ys from 0 size found
finds-both c xs ys (Cut path size) found = (tt, tt)
finds-both c xs ys (Range from to at size) found = read_both c xs ys from at size found
finds-both c xs ys (Remove path) found = (tt, tt)

pub find-both : (c : Contents) (xs ys : List Change) (steps : List Step) → FindAll c (xs ++ ys) steps → FindAll c xs steps × FindAll c ys steps
find-both c xs ys [] found = (tt, tt)
find-both c xs ys (step ∷ steps) found =
    let one = finds-both c xs ys step found.0 in
    let more = find-both c xs ys steps found.1 in
    ((one.0, more.0), (one.1, more.1))

-- ---- what is read stays as it was found

stays_one : (c d e : Contents) (changes : List Change) (step : Step) → ((p : PathValue) → list_any (is_on p) changes ≡ false → entry_at e p ≡ entry_at d p) → Finds c changes step → IsAsFound c d step → IsAsFound c e step
stays_one c d e changes (Folder path) elsewhere found as_found = tt
stays_one c d e changes (Whole from to size) elsewhere found as_found = elsewhere from found.kept ∙ as_found
stays_one c d e changes (Cut path size) elsewhere found as_found = tt
stays_one c d e changes (Range from to at size) elsewhere found as_found = elsewhere from found.kept ∙ as_found
stays_one c d e changes (Remove path) elsewhere found as_found = tt

pub stay-found : (c d e : Contents) (changes : List Change) (steps : List Step) → ((p : PathValue) → list_any (is_on p) changes ≡ false → entry_at e p ≡ entry_at d p) → FindAll c changes steps → AllAreAsFound c d steps → AllAreAsFound c e steps
stay-found c d e changes [] elsewhere found as_found = tt
stay-found c d e changes (step ∷ steps) elsewhere found as_found = (stays_one c d e changes step elsewhere found.0 as_found.0, stay-found c d e changes steps elsewhere found.1 as_found.1)

one_found : (c : Contents) (step : Step) → IsAsFound c c step
one_found c (Folder path) = tt
one_found c (Whole from to size) = refl
one_found c (Cut path size) = tt
one_found c (Range from to at size) = refl
one_found c (Remove path) = tt

pub all-found : (c : Contents) (steps : List Step) → AllAreAsFound c c steps
all-found c [] = tt
all-found c (step ∷ steps) = (one_found c step, all-found c steps)

-- ---- a step, and then others

pub taken-then : {F : Type 0} (tree : Ghosts F) (c : Contents) (step : Step) (steps : List Step) (old mid new : F) (u : Unit {0}) (r : Result (Unit {0}) PerformFault) → Takes tree c step old mid (Ok u) → TakesAll tree c steps mid new r → TakesAll tree c (step ∷ steps) old new r
taken-then tree c step steps old mid new u r one more found as_found told none =
    let now = changes_of c step in
    let later = steps_changes c steps in
    let own = finds-both c now later step found.0 in
    let all = find-both c now later steps found.1 in
    let ran = one own.0 as_found.0 told (both_unrefused (tree.contents old) now later none).0 in
    performs-then tree now later old mid new u r (one own.0 as_found.0)
    (more all.1 (stay-found c (tree.contents old) (tree.contents mid) now steps ran.runs.elsewhere all.0 as_found.1)) told none

pub taken-front : {F : Type 0} (tree : Ghosts F) (c : Contents) (step : Step) (steps : List Step) (old new : F) (e : PerformFault) → Takes tree c step old new (Err e) → TakesAll tree c (step ∷ steps) old new (Err e)
taken-front tree c step steps old new e one found as_found =
    performs-front tree (changes_of c step) (steps_changes c steps) old new e (one (finds-both c (changes_of c step) (steps_changes c steps) step found.0).0 as_found.0)

-- ---- the loop over steps: whatever the rest comes to, all come to

abbrev pub Goes : {F : Type 0} → Ghosts F → List Step → F → List Step → F → Type 0
Goes {F} tree all first steps now = (c : Contents) (end : F) (r : Result (Unit {0}) PerformFault) → TakesAll tree c steps now end r → TakesAll tree c all first end r

pub goes-on : {F : Type 0} (tree : Ghosts F) (all old new : List Step) (step : Step) (first now next : F) (u : Unit {0}) → old ≡ step ∷ new → Goes tree all first old now → ((c : Contents) → Takes tree c step now next (Ok u)) → Goes tree all first new next
goes-on tree all old new step first now next u is goes one c end r more =
    goes c end r (subst (λ l. TakesAll tree c l now end r) (sym is) (taken-then tree c step new now next end u r (one c) more))

pub goes-broken : {F : Type 0} (tree : Ghosts F) (all old new : List Step) (step : Step) (first now next : F) (e : PerformFault) → old ≡ step ∷ new → Goes tree all first old now → ((c : Contents) → Takes tree c step now next (Err e)) → (c : Contents) → TakesAll tree c all first next (Err e)
goes-broken tree all old new step first now next e is goes one c =
    goes c next (Err e) (subst (λ l. TakesAll tree c l now next (Err e)) (sym is) (taken-front tree c step new now next e (one c)))

pub goes-all : {F : Type 0} (tree : Ghosts F) (all old : List Step) (first now : F) → old ≡ [] → Goes tree all first old now → (c : Contents) → TakesAll tree c all first now (Ok tt)
goes-all tree all old first now none goes c = goes c now (Ok tt) (subst (λ l. TakesAll tree c l now now (Ok tt)) (sym none) (λ found as_found. performs-nothing tree now))

-- ---- a whole file

pub whole-taken : {F : Type 0} (tree : Ghosts F) (c : Contents) (from to : PathValue) (size : ℕ) (old mid new : F) (u : Unit {0}) (r : Result (Unit {0}) PerformFault) → Carries tree (opened c to ∷ []) old mid (Ok u) → Takes tree c (Range from to 0 size) mid new r → Takes tree c (Whole from to size) old new r
whole-taken tree c from to size old mid new u r one other found as_found told none =
    let make = opened c to ∷ [] in
    let bytes = writes_at to 0 (part_of c from 0 size) in
    let own = read_both c make bytes from 0 size found in
    let ran = one told (both_unrefused (tree.contents old) make bytes none).0 in
    performs-then tree make bytes old mid new u r (performs-done tree make old mid u one) (other own.1 (ran.runs.elsewhere from own.0.kept ∙ as_found)) told none

pub whole-broken : {F : Type 0} (tree : Ghosts F) (c : Contents) (from to : PathValue) (size : ℕ) (old new : F) (e : PerformFault) → Performs tree (opened c to ∷ []) old new (Err e) → Takes tree c (Whole from to size) old new (Err e)
whole-broken tree c from to size old new e one found as_found = performs-front tree (opened c to ∷ []) (writes_at to 0 (part_of c from 0 size)) old new e one

-- ---- a plan

-- equal changes
pub performs-same : {F : Type 0} (tree : Ghosts F) (xs ys : List Change) (a b : F) (r : Result (Unit {0}) PerformFault) → xs ≡ ys → Performs tree xs a b r → Performs tree ys a b r
performs-same tree xs ys a b r is one = subst (λ l. Performs tree l a b r) is one

pub body-taken : {F : Type 0} (tree : Ghosts F) (c : Contents) (steps : List Step) (label control : FileBytes) (old mid new : F) (u : Unit {0}) (r : Result (Unit {0}) PerformFault) → TakesAll tree c steps old mid (Ok u) → Performs tree (closing_changes label control) mid new r → TakesBody tree c steps label control old new r
body-taken tree c steps label control old mid new u r one other found as_found =
    performs-then tree (steps_changes c steps) (closing_changes label control) old mid new u r (one (find-both c (steps_changes c steps) (closing_changes label control) steps found).0 as_found) other

pub body-broken : {F : Type 0} (tree : Ghosts F) (c : Contents) (steps : List Step) (label control : FileBytes) (old new : F) (e : PerformFault) → TakesAll tree c steps old new (Err e) → TakesBody tree c steps label control old new (Err e)
body-broken tree c steps label control old new e one found as_found =
    performs-front tree (steps_changes c steps) (closing_changes label control) old new e (one (find-both c (steps_changes c steps) (closing_changes label control) steps found).0 as_found)

pub marked-taken : {F : Type 0} (tree : Ghosts F) (c : Contents) (plan : Plan) (old mid new : F) (u : Unit {0}) (r : Result (Unit {0}) PerformFault) → TakesBody tree c plan.steps.items plan.label plan.control old mid (Ok u) → Performs tree (ended plan.mark) mid new r → TakesMarked tree c plan old new r
marked-taken tree c plan old mid new u r one other found as_found =
    performs-then tree (body_changes c plan) (ended plan.mark) old mid new u r (one (find-both c (body_changes c plan) (ended plan.mark) plan.steps.items found).0 as_found) other

pub marked-broken : {F : Type 0} (tree : Ghosts F) (c : Contents) (plan : Plan) (old new : F) (e : PerformFault) → TakesBody tree c plan.steps.items plan.label plan.control old new (Err e) → TakesMarked tree c plan old new (Err e)
marked-broken tree c plan old new e one found as_found =
    performs-front tree (body_changes c plan) (ended plan.mark) old new e (one (find-both c (body_changes c plan) (ended plan.mark) plan.steps.items found).0 as_found)

-- the mark is laid, and then the rest
pub in-parts : (c : Contents) (text : List ℕ) (plan : Plan) → plan_changes c text plan ≡ mark_laid c text plan ++ (body_changes c plan ++ ended plan.mark)
in-parts c text plan = append_assoc (mark_laid c text plan) (body_changes c plan) (ended plan.mark)

-- nothing refuses either
pub parts-unrefused : (c : Contents) (text : List ℕ) (plan : Plan) → first_refusal c (plan_changes c text plan) ≡ None
    → (first_refusal c (mark_laid c text plan) ≡ None) × (first_refusal (all_changed c (mark_laid c text plan)) (body_changes c plan ++ ended plan.mark) ≡ None)
parts-unrefused c text plan none =
    both_unrefused c (mark_laid c text plan) (body_changes c plan ++ ended plan.mark) (ap (first_refusal c) (sym (in-parts c text plan)) ∙ none)

-- what the steps read stays as it was while the mark is laid
pub found-then : {F : Type 0} (tree : Ghosts F) (text : List ℕ) (plan : Plan) (old mid : F) (u : Unit {0}) → Carries tree (mark_laid (tree.contents old) text plan) old mid (Ok u) → IsTrue tree.tells → IsFound (tree.contents old) text plan
    → first_refusal (tree.contents old) (plan_changes (tree.contents old) text plan) ≡ None
    → FindAll (tree.contents old) (body_changes (tree.contents old) plan ++ ended plan.mark) plan.steps.items × AllAreAsFound (tree.contents old) (tree.contents mid) plan.steps.items
found-then tree text plan old mid u one told found none =
    let c = tree.contents old in
    let first = mark_laid c text plan in
    let body = body_changes c plan ++ ended plan.mark in
    let own = find-both c first body plan.steps.items (subst (λ l. FindAll c l plan.steps.items) (in-parts c text plan) found) in
    let ran = one told (parts-unrefused c text plan none).0 in
    (own.1, stay-found c c (tree.contents mid) first plan.steps.items ran.runs.elsewhere own.0 (all-found c plan.steps.items))

pub plan-taken : {F : Type 0} (tree : Ghosts F) (text : List ℕ) (plan : Plan) (old mid new : F) (u : Unit {0}) (r : Result (Unit {0}) PerformFault) → Carries tree (mark_laid (tree.contents old) text plan) old mid (Ok u) → TakesMarked tree (tree.contents old) plan mid new r
    → IsFound (tree.contents old) text plan → Performs tree (plan_changes (tree.contents old) text plan) old new r
plan-taken tree text plan old mid new u r one other found told none =
    let c = tree.contents old in
    let first = mark_laid c text plan in
    let rest = body_changes c plan ++ ended plan.mark in
    let there = found-then tree text plan old mid u one told found none in
    performs-same tree (first ++ rest) (plan_changes c text plan) old new r (sym (in-parts c text plan))
    (performs-then tree first rest old mid new u r (performs-done tree first old mid u one) (other there.0 there.1)) told none

pub plan-broken : {F : Type 0} (tree : Ghosts F) (text : List ℕ) (plan : Plan) (old new : F) (e : PerformFault) → Performs tree (mark_laid (tree.contents old) text plan) old new (Err e) → Performs tree (plan_changes (tree.contents old) text plan) old new (Err e)
plan-broken tree text plan old new e one =
    let c = tree.contents old in
    let first = mark_laid c text plan in
    let rest = body_changes c plan ++ ended plan.mark in
    performs-same tree (first ++ rest) (plan_changes c text plan) old new (Err e) (sym (in-parts c text plan)) (performs-front tree first rest old new e one)
