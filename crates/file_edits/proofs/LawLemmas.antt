-- What edits leave at their path and elsewhere, and calls at own paths.
use Rattle.std.proofs.Common.{◌≡◌, ◌≢◌, ◌⊎◌, ℕ, zero, suc, ◌+◌, ◌<◌, ◌≤◌, Bool, true, false, ◌||◌, List, [], ◌∷◌, ◌++◌, length, Option, None, Some, Ok, Err, refl, ap, sym, subst, ◌∙◌, inl, inr, ⊎_elim, arith, true≢false}
use Rattle.std.proofs.lemmas.Bool.{or_left, or_right}
use Rattle.std.proofs.lemmas.List.{length-append}
use Rattle.std.specs.FinMap.{remove}
use Rattle.cluster_tree.specs.PathValue.{PathValue, Holds, front}
use Rattle.cluster_tree.specs.PathOrder.{path_eq}
use Rattle.cluster_tree.specs.Contents.{Contents, Entry, FolderEntry, FileEntry, LinkEntry, or_root, entry_at}
use Rattle.cluster_tree.specs.Causes.{given, unless}
use Rattle.cluster_tree.specs.Laws.{changed_path}
use Rattle.cluster_tree.specs.Run.{State, Run, Still, Call}
use Rattle.cluster_tree.specs.Step.{Step}
use Rattle.cluster_tree.specs.Tree.{bytes_in, bytes_at}
use Rattle.cluster_tree.specs.declared.tree.ChangeCall.{ChangeCall}
use Rattle.cluster_tree.proofs.ContentsLemmas.{entry-put, entry-put_other, entry-removed, entry-removed_other}
use Rattle.cluster_tree.proofs.OrderLemmas.{path_eq-own}
use Rattle.cluster_tree.proofs.StepLemmas.{step-elsewhere}
use Rattle.file_edits.specs.Asking.{file_asked, root_refusal}
use Rattle.file_edits.specs.Edits.{folder_made, folders_made, folders_between, way_made, way_for, edited, file_edited, without, file_removed, leads, on_way}
use Rattle.file_edits.specs.Own.{is_own, is_on, GoesOn, Same, More}
use Rattle.file_edits.proofs.EditLemmas.{same_or_other}
use Rattle.file_edits.proofs.WayLemmas.{by_asked, none_asked, way-ready}

-- a folder that was made, or what was there
abbrev LeftOrMade : Contents → Contents → PathValue → Bool → Type 0
LeftOrMade c d q way = (entry_at d q ≡ entry_at c q) ⊎ ((way ≡ true) × (entry_at c q ≡ None) × (entry_at d q ≡ Some (FolderEntry false)))

one_made : (path : PathValue) (c d : Contents) (q : PathValue) → folder_made path c ≡ Ok d → LeftOrMade c d q (path_eq q path)
one_made path c d q made = by_asked path c d made
    (λ there same. inl (ap (λ x. entry_at x q) same))
    (λ none is. same_or_other q path
    (λ e. inr (ap (λ p. path_eq p path) e ∙ path_eq-own path, ap (entry_at c) e ∙ none_asked path (entry_at c path) none, ap (entry_at d) e ∙ ap (λ x. entry_at x path) is ∙ entry-put c path (FolderEntry false)))
    (λ n. inl (ap (λ x. entry_at x q) is ∙ entry-put_other c path q (FolderEntry false) n)))

some_folder : (o : Option Entry) → o ≡ None → o ≡ Some (FolderEntry false) → ⊥
some_folder o none some = absurd cc

two_made : (a b : Bool) (c e d : Contents) (q : PathValue) → LeftOrMade c e q a → LeftOrMade e d q b → LeftOrMade c d q (a || b)
two_made a b c e d q (inl one) (inl two) = inl (two ∙ one)
two_made a b c e d q (inl one) (inr two) = inr (or_right a b two.0, sym one ∙ two.1, two.2)
two_made a b c e d q (inr one) (inl two) = inr (or_left a b one.0, one.1, two ∙ one.2)
two_made a b c e d q (inr one) (inr two) = absurd (some_folder (entry_at e q) two.1 one.2)

all_made : (k n : ℕ) (path : PathValue) (c d : Contents) (q : PathValue) → folders_made k n path c ≡ Ok d → LeftOrMade c d q (leads k n path q)
unfolding folders_made leads
all_made zero n path c d q made = let same : c ≡ d = cc in inl (ap (λ x. entry_at x q) (sym same))
all_made (suc k) n path c d q made =
    elim (folder_made (front n path) c) as (λ r. folder_made (front n path) c ≡ r → given r (folders_made k (n + 1) path) ≡ Ok d → LeftOrMade c d q (path_eq q (front n path) || leads k (n + 1) path q)) [
      | Ok e ↦ λ one rest. two_made (path_eq q (front n path)) (leads k (n + 1) path q) c e d q (one_made (front n path) c e q one) (all_made k (n + 1) path e d q rest)
      | Err f ↦ λ one rest. absurd cc
    ] refl made

pub way_left : (root path : PathValue) (c d : Contents) (q : PathValue) → way_made root path c ≡ Ok d → LeftOrMade c d q (on_way root path q)
unfolding way_made
way_left root path c d q made =
    elim (root_refusal root (entry_at c root)) as (λ r. unless r (folders_made (folders_between root path) (length root.parts + 1) path c) ≡ Ok d → LeftOrMade c d q (on_way root path q)) [
      | None ↦ λ rest. all_made (folders_between root path) (length root.parts + 1) path c d q rest
      | Some f ↦ λ rest. absurd cc
    ] made

-- the file is there, or the way was made
by_edited : {P : Type 0} (root path : PathValue) (edit : List ℕ → List ℕ) (c d : Contents) → file_edited root path edit c ≡ Ok d → (d ≡ edited path edit c → P) → ((e : Contents) → way_made root path c ≡ Ok e → d ≡ edited path edit e → P) → P
unfolding file_edited
by_edited {P} root path edit c d made there new =
    elim (file_asked path (entry_at c path)) as (λ r. given (given r (way_for root path c)) (λ e. Ok (edited path edit e)) ≡ Ok d → P) [
      | Ok found ↦ elim found as (λ o. given (way_for root path c o) (λ e. Ok (edited path edit e)) ≡ Ok d → P) [
        | Some bytes ↦ λ rest. there (let same : edited path edit c ≡ d = cc in sym same)
        | None ↦ elim (way_made root path c) as (λ w. way_made root path c ≡ w → given w (λ e. Ok (edited path edit e)) ≡ Ok d → P) [
          | Ok e ↦ λ way rest. new e way (let same : edited path edit e ≡ d = cc in sym same)
          | Err f ↦ λ way rest. absurd cc
        ] refl
      ]
      | Err f ↦ λ rest. absurd cc
    ] made

pub edited-stands : (root path : PathValue) (edit : List ℕ → List ℕ) (c d : Contents) → Holds root path → length root.parts < length path.parts → file_edited root path edit c ≡ Ok d → entry_at d path ≡ Some (FileEntry (edit (bytes_at c path)))
edited-stands root path edit c d held deeper made = by_edited root path edit c d made
    (λ is. ap (λ x. entry_at x path) is ∙ entry-put c path (FileEntry (edit (bytes_at c path))))
    (λ e way is.
    ap (λ x. entry_at x path) is ∙ entry-put e path (FileEntry (edit (bytes_at e path)))
    ∙ ap (λ o. Some (FileEntry (edit (bytes_in o)))) (way-ready root path c e held deeper way).0)

pub edited-elsewhere : (root path : PathValue) (edit : List ℕ → List ℕ) (c d : Contents) (q : PathValue) → file_edited root path edit c ≡ Ok d → q ≢ path → LeftOrMade c d q (on_way root path q)
edited-elsewhere root path edit c d q made other = by_edited root path edit c d made
    (λ is. inl (ap (λ x. entry_at x q) is ∙ entry-put_other c path q (FileEntry (edit (bytes_at c path))) other))
    (λ e way is.
    let last : entry_at d q ≡ entry_at e q = ap (λ x. entry_at x q) is ∙ entry-put_other e path q (FileEntry (edit (bytes_at e path))) other in
    ⊎_elim (λ left. inl (last ∙ left)) (λ new. inr (new.0, new.1, last ∙ new.2)) (way_left root path c e q way))

-- a file that is removed

-- below the root nothing stands where no entry is
pub rootless : (parts : List (List ℕ)) → 0 < length parts → or_root parts None ≡ None
rootless [] l = absurd (omega arith)
rootless (part ∷ parts) l = refl

none_there : (path : PathValue) (o : Option Entry) → file_asked path o ≡ Ok None → o ≡ None
none_there path None e = refl
none_there path (Some (FolderEntry bad)) e = absurd cc
none_there path (Some (FileEntry bytes)) e = absurd cc
none_there path (Some LinkEntry) e = absurd cc

pub by_removed : {P : Type 0} (path : PathValue) (c d : Contents) → file_removed path c ≡ Ok d → (file_asked path (entry_at c path) ≡ Ok None → d ≡ c → P) → (d ≡ remove c path → P) → P
unfolding file_removed
by_removed {P} path c d made none there =
    elim (file_asked path (entry_at c path)) as (λ r. file_asked path (entry_at c path) ≡ r → given r (without path c) ≡ Ok d → P) [
      | Ok found ↦ elim found as (λ o. file_asked path (entry_at c path) ≡ Ok o → without path c o ≡ Ok d → P) [
        | None ↦ λ is rest. none is (let same : c ≡ d = cc in sym same)
        | Some bytes ↦ λ is rest. there (let same : remove c path ≡ d = cc in sym same)
      ]
      | Err f ↦ λ is rest. absurd cc
    ] refl made

pub removed-gone : (path : PathValue) (c d : Contents) → 0 < length path.parts → file_removed path c ≡ Ok d → entry_at d path ≡ None
removed-gone path c d some made = by_removed path c d made
    (λ none is. ap (λ x. entry_at x path) is ∙ none_there path (entry_at c path) none)
    (λ is. ap (λ x. entry_at x path) is ∙ entry-removed c path ∙ rootless path.parts some)

pub removed-elsewhere : (path : PathValue) (c d : Contents) (q : PathValue) → file_removed path c ≡ Ok d → q ≢ path → entry_at d q ≡ entry_at c q
removed-elsewhere path c d q made other = by_removed path c d made
    (λ none is. ap (λ x. entry_at x q) is)
    (λ is. ap (λ x. entry_at x q) is ∙ entry-removed_other c path q other)

-- calls at own paths

pub run_longer : (old new : State) → Run old new → length old.calls ≤ length new.calls
run_longer old new Still = omega arith
run_longer old new (Call {mid} call run happened) = omega (arith, run_longer old mid run, length-append mid.calls (call ∷ []), ap length happened.listed)

pub last_call : (xs ys : List ChangeCall) (a b : ChangeCall) → xs ++ a ∷ [] ≡ ys ++ b ∷ [] → (xs ≡ ys) × (a ≡ b)
last_call [] [] a b e = (refl, cc)
last_call [] (y ∷ ys) a b e = absurd (omega (arith, ap length e, length-append ys (b ∷ [])))
last_call (x ∷ xs) [] a b e = absurd (omega (arith, ap length e, length-append xs (a ∷ [])))
last_call (x ∷ xs) (y ∷ ys) a b e =
    let heads : x ≡ y = cc in
    let tails : xs ++ a ∷ [] ≡ ys ++ b ∷ [] = cc in
    let two = last_call xs ys a b tails in
    (cc, two.1)

elsewhere : (own : PathValue → Bool) (call : ChangeCall) (path : PathValue) → is_own own call ≡ true → own path ≡ false → changed_path call ≢ Some path
elsewhere own call path is not e = true≢false (sym is ∙ ap (is_on own) e ∙ not)

by_last : (own : PathValue → Bool) (old mid new : State) (call : ChangeCall) (path : PathValue) (calls : List ChangeCall) → length old.calls ≤ length mid.calls → Step call mid.contents new.contents → new.calls ≡ mid.calls ++ call ∷ [] → own path ≡ false → (GoesOn own old.calls mid.calls → entry_at mid.contents path ≡ entry_at old.contents path) → GoesOn own old.calls calls → calls ≡ new.calls → entry_at new.contents path ≡ entry_at old.contents path
by_last own old mid new call path calls longer step made not rest Same is = absurd (omega (arith, longer, length-append mid.calls (call ∷ []), ap length made, ap length is))
by_last own old mid new call path calls longer step made not rest (More {mid = front} last before own_last listed) is =
    let two = last_call front mid.calls last call (sym listed ∙ is ∙ made) in
    step-elsewhere call mid.contents new.contents path step (elsewhere own call path (ap (is_own own) (sym two.1) ∙ own_last) not)
    ∙ rest (subst (GoesOn own old.calls) two.0 before)

pub own-elsewhere : (own : PathValue → Bool) (old new : State) (path : PathValue) → Run old new → GoesOn own old.calls new.calls → own path ≡ false → entry_at new.contents path ≡ entry_at old.contents path
own-elsewhere own old new path Still on not = refl
own-elsewhere own old new path (Call {mid} call run happened) on not =
    by_last own old mid new call path new.calls (run_longer old mid run) happened.step happened.listed not (λ before. own-elsewhere own old mid path run before not) on refl
