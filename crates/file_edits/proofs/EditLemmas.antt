-- Files that are edited and removed.
use Rattle.std.proofs.Common.{◌≡◌, ◌≢◌, ℕ, ◌+◌, ◌-◌, ◌<◌, ◌≤◌, Bool, true, false, List, [], ◌∷◌, ◌++◌, length, replicate, Option, None, Some, Result, Ok, Err, refl, ap, sym, ◌∙◌, subst, append_assoc, true≢false, arith, rules}
use Rattle.std.proofs.lemmas.Grind.{common_steps}
use Rattle.std.proofs.lemmas.List.{replicate-append-replicate}
use Rattle.std.specs.FinMap.{get, insert, remove}
use Rattle.layout.specs.Splice.{splice}
use Rattle.cluster_tree.specs.PathValue.{PathValue, Holds}
use Rattle.cluster_tree.specs.PathOrder.{path_eq}
use Rattle.cluster_tree.specs.Contents.{Contents, Entry, FolderEntry, FileEntry, LinkEntry, or_root, entry_at, parent}
use Rattle.cluster_tree.specs.Tree.{file_of, size_of, bytes_in, bytes_at, make_refusal, write_refusal, written, refusal_past}
use Rattle.cluster_tree.specs.Folders.{removal_refusal, remove_refusal}
use Rattle.cluster_tree.specs.Causes.{given}
use Rattle.cluster_tree.specs.declared.file_fault.FileFault.{FileFault}
use Rattle.cluster_tree.specs.declared.file_fault.FileFault.TheVariants as fault
use Rattle.cluster_tree.proofs.ContentsLemmas.{get-put, get-put_other, put-put, same-contents, entry-put, write_refusal-put}
use Rattle.cluster_tree.proofs.OrderLemmas.{path_eq-own, path_eq-same}
use Rattle.file_edits.specs.Answers.{Does}
use Rattle.file_edits.specs.Asking.{file_asked, size_asked}
use Rattle.file_edits.specs.Edits.{way_made, way_for, edited, file_edited, padded, laid, without, file_removed}
use Rattle.file_edits.proofs.AskLemmas.{file-kind}
use Rattle.file_edits.proofs.WayLemmas.{unrefused, way-ready, way-unchanged}

-- what was asked of a file

pub size-there : (path : PathValue) (o : Option Entry) (n : ℕ) → size_asked (file_asked path o) ≡ Ok (Some n) → size_of (file_of o) ≡ Ok n
size-there path None n e = absurd cc
size-there path (Some (FolderEntry bad)) n e = absurd cc
size-there path (Some (FileEntry bytes)) n e = let same : length bytes ≡ n = cc in ap (λ k. Ok k) same
size-there path (Some LinkEntry) n e = absurd cc

none_asked : (path : PathValue) (o : Option Entry) → size_asked (file_asked path o) ≡ Ok None → o ≡ None
none_asked path None e = refl
none_asked path (Some (FolderEntry bad)) e = absurd cc
none_asked path (Some (FileEntry bytes)) e = absurd cc
none_asked path (Some LinkEntry) e = absurd cc

pub bytes_there : (o : Option Entry) (n : ℕ) → size_of (file_of o) ≡ Ok n → o ≡ Some (FileEntry (bytes_in o))
bytes_there None n e = absurd cc
bytes_there (Some (FolderEntry bad)) n e = absurd cc
bytes_there (Some (FileEntry bytes)) n e = refl
bytes_there (Some LinkEntry) n e = absurd cc

pub size_is : (o : Option Entry) (n : ℕ) → size_of (file_of o) ≡ Ok n → length (bytes_in o) ≡ n
size_is None n e = absurd cc
size_is (Some (FolderEntry bad)) n e = absurd cc
size_is (Some (FileEntry bytes)) n e = cc
size_is (Some LinkEntry) n e = absurd cc

pub refused_asked : (path : PathValue) (o : Option Entry) (e : FileFault) → size_asked (file_asked path o) ≡ Err e → file_asked path o ≡ Err e
refused_asked path None e is = absurd cc
refused_asked path (Some (FolderEntry bad)) e is = let same : fault.IsFolder path ≡ e = cc in ap (λ x. Err x) same
refused_asked path (Some (FileEntry bytes)) e is = absurd cc
refused_asked path (Some LinkEntry) e is = let same : fault.Link path ≡ e = cc in ap (λ x. Err x) same

-- what an entry is at its own path

held_at : (parts : List (List ℕ)) (o : Option Entry) (bytes : List ℕ) → or_root parts o ≡ Some (FileEntry bytes) → o ≡ Some (FileEntry bytes)
held_at parts (Some v) bytes e = e
held_at [] None bytes e = absurd cc
held_at (part ∷ parts) None bytes e = absurd cc

pub same_or_other : {P : Type 0} (q p : PathValue) → (q ≡ p → P) → (q ≢ p → P) → P
same_or_other {P} q p same other =
    elim (path_eq q p) as (λ b. path_eq q p ≡ b → P) [ true ↦ λ e. same (path_eq-same q p e) | false ↦ λ e. other (λ is. true≢false (sym (path_eq-own p) ∙ ap (λ x. path_eq x p) (sym is) ∙ e)) ] refl

-- a file that is put as it stands changes nothing
pub put-same : (c : Contents) (path : PathValue) (bytes : List ℕ) → entry_at c path ≡ Some (FileEntry bytes) → insert c path (FileEntry bytes) ≡ c
put-same c path bytes is = same-contents _ _ (λ q. same_or_other q path
    (λ e. ap (get (insert c path (FileEntry bytes))) e ∙ get-put c path (FileEntry bytes) ∙ sym (held_at path.parts (get c path) bytes is) ∙ ap (get c) (sym e))
    (λ n. get-put_other c path q (FileEntry bytes) n))

bytes-put : (c : Contents) (path : PathValue) (bytes : List ℕ) → bytes_at (insert c path (FileEntry bytes)) path ≡ bytes
bytes-put c path bytes = ap bytes_in (entry-put c path (FileEntry bytes))

-- one edit after another
edited-twice : (c : Contents) (path : PathValue) (first then : List ℕ → List ℕ) → edited path then (edited path first c) ≡ edited path (λ b. then (first b)) c
edited-twice c path first then =
    put-put c path _ _ ∙ ap (λ b. insert c path (FileEntry (then b))) (bytes-put c path (first (bytes_at c path)))

-- a file below a root

pub edited-refused : (root path : PathValue) (edit : List ℕ → List ℕ) (c : Contents) (e : FileFault) → size_asked (file_asked path (entry_at c path)) ≡ Err e → file_edited root path edit c ≡ Err e
unfolding file_edited
edited-refused root path edit c e is = ap (λ r. given (given r (way_for root path c)) (λ d. Ok (edited path edit d))) (refused_asked path (entry_at c path) e is)

pub file_there : (path : PathValue) (o : Option Entry) → o ≡ Some (FileEntry (bytes_in o)) → file_asked path o ≡ Ok (Some (bytes_in o))
file_there path None e = absurd cc
file_there path (Some (FolderEntry bad)) e = absurd cc
file_there path (Some (FileEntry bytes)) e = refl
file_there path (Some LinkEntry) e = absurd cc

pub edited-there : (root path : PathValue) (c : Contents) (n : ℕ) → size_asked (file_asked path (entry_at c path)) ≡ Ok (Some n) → file_edited root path (λ bytes. bytes) c ≡ Ok c
unfolding file_edited
edited-there root path c n is =
    let there = bytes_there (entry_at c path) n (size-there path (entry_at c path) n is) in
    ap (λ r. given (given r (way_for root path c)) (λ d. Ok (edited path (λ bytes. bytes) d))) (file_there path (entry_at c path) there)
    ∙ ap (λ d. Ok d) (put-same c path (bytes_at c path) there)

pub none_is : (path : PathValue) (o : Option Entry) → size_asked (file_asked path o) ≡ Ok None → file_asked path o ≡ Ok None
none_is path o e = ap (file_asked path) (none_asked path o e)

pub edited-no_way : (root path : PathValue) (edit : List ℕ → List ℕ) (c : Contents) (e : FileFault) → size_asked (file_asked path (entry_at c path)) ≡ Ok None → way_made root path c ≡ Err e → file_edited root path edit c ≡ Err e
unfolding file_edited
edited-no_way root path edit c e none is =
    ap (λ r. given (given r (way_for root path c)) (λ d. Ok (edited path edit d))) (none_is path (entry_at c path) none)
    ∙ ap (λ r. given r (λ d. Ok (edited path edit d))) is

-- a file that isn't there yet
pub edited-new : (root path : PathValue) (c d : Contents) → Holds root path → length root.parts < length path.parts → size_asked (file_asked path (entry_at c path)) ≡ Ok None → way_made root path c ≡ Ok d → file_edited root path (λ bytes. bytes) c ≡ Ok (insert d path (FileEntry []))
unfolding file_edited
edited-new root path c d held deeper none made =
    let still = (way-ready root path c d held deeper made).0 ∙ none_asked path (entry_at c path) none in
    ap (λ r. given (given r (way_for root path c)) (λ d. Ok (edited path (λ bytes. bytes) d))) (none_is path (entry_at c path) none)
    ∙ ap (λ r. given r (λ d. Ok (edited path (λ bytes. bytes) d))) made
    ∙ ap (λ o. Ok (insert d path (FileEntry (bytes_in o)))) still

pub new-unrefused : (root path : PathValue) (c d : Contents) → Holds root path → length root.parts < length path.parts → size_asked (file_asked path (entry_at c path)) ≡ Ok None → way_made root path c ≡ Ok d → make_refusal d path ≡ None
new-unrefused root path c d held deeper none made =
    let two = way-ready root path c d held deeper made in
    unrefused d path (parent path) (two.0 ∙ none_asked path (entry_at c path) none) refl two.1

pub new-size : (d : Contents) (path : PathValue) → size_of (file_of (entry_at (insert d path (FileEntry [])) path)) ≡ Ok 0
new-size d path = ap (λ o. size_of (file_of o)) (entry-put d path (FileEntry []))

pub there-size : (path : PathValue) (c : Contents) (n : ℕ) → size_asked (file_asked path (entry_at c path)) ≡ Ok (Some n) → size_of (file_of (entry_at c path)) ≡ Ok n
there-size path c n e = size-there path (entry_at c path) n e

pub ruleset ensure_steps = (edited-refused, edited-there, edited-no_way, edited-new, new-unrefused, new-size, there-size)

-- more zeros

longer : (bytes : List ℕ) (k : ℕ) → length (bytes ++ replicate k 0) ≡ length bytes + k
longer bytes k = grind (arith, common_steps)

zeros_more : (bytes : List ℕ) (k to : ℕ) → length bytes + k ≤ to → padded to (bytes ++ replicate k 0) ≡ padded to bytes
zeros_more bytes k to l =
    let m : ℕ = to - length bytes in
    let rest : to - length (bytes ++ replicate k 0) ≡ m - k = omega (arith, longer bytes k) in
    let sum : k + (m - k) ≡ m = omega arith in
    append_assoc bytes (replicate k 0) (replicate (to - length (bytes ++ replicate k 0)) 0)
    ∙ ap (λ z. bytes ++ z) (ap (λ n. replicate k 0 ++ replicate n 0) rest ∙ replicate-append-replicate k (m - k) 0 ∙ ap (λ n. replicate n 0) sum)

at_end : (bytes : List ℕ) (n : ℕ) (more : List ℕ) → length bytes ≡ n → splice bytes n more ≡ bytes ++ more
unfolding splice
at_end bytes n more is = grind (arith, common_steps)

enough : (bytes : List ℕ) (to : ℕ) → to ≤ length bytes → padded to bytes ≡ bytes
enough bytes to l = grind (arith, common_steps)

pub unpadded : (path : PathValue) (c : Contents) (size to : ℕ) → size_of (file_of (entry_at c path)) ≡ Ok size → to ≤ size → edited path (padded to) c ≡ c
unpadded path c size to sized l =
    ap (λ b. insert c path (FileEntry b)) (enough (bytes_at c path) to (omega (arith, size_is (entry_at c path) size sized)))
    ∙ put-same c path (bytes_at c path) (bytes_there (entry_at c path) size sized)

pub past_end : (o : Option Entry) (n at : ℕ) → size_of (file_of o) ≡ Ok n → at ≤ n → refusal_past (file_of o) at ≡ None
past_end None n at e l = absurd cc
past_end (Some (FolderEntry bad)) n at e l = absurd cc
past_end (Some (FileEntry bytes)) n at e l = let same : length bytes ≡ n = cc in grind (arith, rules)
past_end (Some LinkEntry) n at e l = absurd cc

pub end-unrefused : (path : PathValue) (c : Contents) (size at : ℕ) → size_of (file_of (entry_at c path)) ≡ Ok size → at ≤ size → write_refusal c path at ≡ None
end-unrefused path c size at sized l = past_end (entry_at c path) size at sized l

-- zeros that are written at the end
pub padded-more : (path : PathValue) (c : Contents) (size k to : ℕ) (zeros : List ℕ) → size_of (file_of (entry_at c path)) ≡ Ok size → zeros ≡ replicate k 0 → size + k ≤ to → edited path (padded to) (written c path size zeros) ≡ edited path (padded to) c
padded-more path c size k to zeros sized none l =
    let len = size_is (entry_at c path) size sized in
    let is : splice (bytes_at c path) size zeros ≡ bytes_at c path ++ replicate k 0 = at_end (bytes_at c path) size zeros len ∙ ap (λ z. bytes_at c path ++ z) none in
    edited-twice c path (λ b. splice b size zeros) (padded to)
    ∙ ap (λ b. insert c path (FileEntry b)) (ap (padded to) is ∙ zeros_more (bytes_at c path) k to (omega (arith, len)))

pub sized-more : (path : PathValue) (c : Contents) (size k : ℕ) (zeros : List ℕ) → size_of (file_of (entry_at c path)) ≡ Ok size → zeros ≡ replicate k 0 → size_of (file_of (entry_at (written c path size zeros) path)) ≡ Ok (size + k)
sized-more path c size k zeros sized none =
    let len = size_is (entry_at c path) size sized in
    ap (λ o. size_of (file_of o)) (entry-put c path _)
    ∙ ap (λ b. Ok (length b)) (at_end (bytes_at c path) size zeros len ∙ ap (λ z. bytes_at c path ++ z) none)
    ∙ ap (λ n. Ok n) (longer (bytes_at c path) k ∙ ap (λ n. n + k) len)

-- a piece of zeros
pub padded-step : (path : PathValue) (c d : Contents) (size k to : ℕ) (zeros : List ℕ) → size_of (file_of (entry_at c path)) ≡ Ok size → zeros ≡ replicate k 0 → size + k ≤ to → (write_refusal c path size ≡ None → Does {A = Unit {0}} (Ok (written c path size zeros)) d (Ok tt)) → (size_of (file_of (entry_at d path)) ≡ Ok (size + k)) × (edited path (padded to) d ≡ edited path (padded to) c)
padded-step path c d size k to zeros sized none l wrote =
    let is : written c path size zeros ≡ d = let e = wrote (end-unrefused path c size size sized (omega arith)) in cc in
    (ap (λ x. size_of (file_of (entry_at x path))) (sym is) ∙ sized-more path c size k zeros sized none, ap (edited path (padded to)) (sym is) ∙ padded-more path c size k to zeros sized none l)

-- bytes that are laid over a file of enough bytes

padded_size : (bytes : List ℕ) (size : ℕ) → size ≤ length (padded size bytes)
padded_size bytes size = grind (arith, common_steps)

pub laid-unrefused : (path : PathValue) (d : Contents) (size at : ℕ) → at ≤ size → write_refusal (edited path (padded size) d) path at ≡ None
laid-unrefused path d size at l =
    let most = padded_size (bytes_at d path) size in
    write_refusal-put d path (padded size (bytes_at d path)) at (omega arith)

-- an edit of a file that the way to is there
pub edited-on : (root path : PathValue) (edit : List ℕ → List ℕ) (c d : Contents) → file_edited root path (λ bytes. bytes) c ≡ Ok d → file_edited root path edit c ≡ Ok (edited path edit d)
unfolding file_edited
edited-on root path edit c d made =
    elim (given (file_asked path (entry_at c path)) (way_for root path c)) as (λ r. given r (λ e. Ok (edited path (λ bytes. bytes) e)) ≡ Ok d → given r (λ e. Ok (edited path edit e)) ≡ Ok (edited path edit d)) [
      | Ok e ↦ λ is. let same : edited path (λ bytes. bytes) e ≡ d = cc in ap (λ x. Ok x) (sym (edited-twice e path (λ bytes. bytes) edit) ∙ ap (edited path edit) same)
      | Err f ↦ λ is. absurd cc
    ] made

pub edited-stays : (root path : PathValue) (edit : List ℕ → List ℕ) (c : Contents) (e : FileFault) → file_edited root path (λ bytes. bytes) c ≡ Err e → file_edited root path edit c ≡ Err e
unfolding file_edited
edited-stays root path edit c e is =
    elim (given (file_asked path (entry_at c path)) (way_for root path c)) as (λ r. given r (λ d. Ok (edited path (λ bytes. bytes) d)) ≡ Err e → given r (λ d. Ok (edited path edit d)) ≡ Err e) [
      | Ok d ↦ λ no. absurd cc
      | Err f ↦ λ no. let same : f ≡ e = cc in ap (λ x. Err x) same
    ] is

pub laid-written : (root path : PathValue) (size at : ℕ) (bytes : List ℕ) (c d : Contents) → file_edited root path (λ old. old) c ≡ Ok d → file_edited root path (laid size at bytes) c ≡ Ok (written (edited path (padded size) d) path at bytes)
laid-written root path size at bytes c d made =
    edited-on root path (laid size at bytes) c d made ∙ ap (λ x. Ok x) (sym (edited-twice d path (padded size) (λ b. splice b at bytes)))

pub laid-exact : (root path : PathValue) (size at : ℕ) (bytes : List ℕ) (c d e new : Contents) (r : Result (Unit {0}) FileFault) → file_edited root path (λ old. old) c ≡ Ok d → Does {A = Unit {0}} (Ok (edited path (padded size) d)) e (Ok tt) → at ≤ size → (write_refusal e path at ≡ None → Does (Ok (written e path at bytes)) new r) → Does (file_edited root path (laid size at bytes) c) new r
laid-exact root path size at bytes c d e new r made long l wrote =
    let is : edited path (padded size) d ≡ e = cc in
    let whole = laid-written root path size at bytes c d made in
    let done = subst (λ x. write_refusal x path at ≡ None → Does (Ok (written x path at bytes)) new r) (sym is) wrote (laid-unrefused path d size at l) in
    subst (λ m. Does m new r) (sym whole) done

reached-unchanged : (root path p : PathValue) (c : Contents) (found : Option (List ℕ)) → way_for root path c found ≡ Err (fault.Changed p) → ⊥
reached-unchanged root path p c None e = way-unchanged root path c p e
reached-unchanged root path p c (Some bytes) e = absurd cc

pub edited-unchanged : (root path : PathValue) (edit : List ℕ → List ℕ) (c : Contents) (p : PathValue) → file_edited root path edit c ≡ Err (fault.Changed p) → ⊥
unfolding file_edited
edited-unchanged root path edit c p e =
    elim (file_asked path (entry_at c path)) as (λ r. file_asked path (entry_at c path) ≡ r → given (given r (way_for root path c)) (λ d. Ok (edited path edit d)) ≡ Err (fault.Changed p) → ⊥) [
      | Ok found ↦ λ is rest.
          elim (way_for root path c found) as (λ w. way_for root path c found ≡ w → given w (λ d. Ok (edited path edit d)) ≡ Err (fault.Changed p) → ⊥) [
            | Ok d ↦ λ way no. absurd cc
            | Err f ↦ λ way no. let same : f ≡ fault.Changed p = cc in reached-unchanged root path p c found (way ∙ ap (λ x. Err x) same)
          ] refl rest
      | Err f ↦ λ is no. let same : f ≡ fault.Changed p = cc in true≢false (sym (file-kind path (entry_at c path) (fault.Changed p) (is ∙ ap (λ x. Err x) same)))
    ] refl e

-- a file that is removed

pub removed-none : (path : PathValue) (c : Contents) → size_asked (file_asked path (entry_at c path)) ≡ Ok None → file_removed path c ≡ Ok c
unfolding file_removed
removed-none path c none = ap (λ r. given r (without path c)) (none_is path (entry_at c path) none)

pub removed-there : (path : PathValue) (c : Contents) (n : ℕ) → size_asked (file_asked path (entry_at c path)) ≡ Ok (Some n) → file_removed path c ≡ Ok (remove c path)
unfolding file_removed
removed-there path c n is = ap (λ r. given r (without path c)) (file_there path (entry_at c path) (bytes_there (entry_at c path) n (size-there path (entry_at c path) n is)))

pub removed-refused : (path : PathValue) (c : Contents) (e : FileFault) → size_asked (file_asked path (entry_at c path)) ≡ Err e → file_removed path c ≡ Err e
unfolding file_removed
removed-refused path c e is = ap (λ r. given r (without path c)) (refused_asked path (entry_at c path) e is)

file_free : (used : Bool) (o : Option Entry) → o ≡ Some (FileEntry (bytes_in o)) → removal_refusal used o ≡ None
file_free used None e = absurd cc
file_free used (Some (FolderEntry bad)) e = absurd cc
file_free used (Some (FileEntry bytes)) e = refl
file_free used (Some LinkEntry) e = absurd cc

pub there-unrefused : (path : PathValue) (c : Contents) (n : ℕ) → size_asked (file_asked path (entry_at c path)) ≡ Ok (Some n) → remove_refusal c path ≡ None
there-unrefused path c n is = file_free _ (entry_at c path) (bytes_there (entry_at c path) n (size-there path (entry_at c path) n is))

pub ruleset remove_steps = (removed-none, removed-there, removed-refused, there-unrefused)

pub removed-exact : (path : PathValue) (c new : Contents) (n : ℕ) (r : Result (Unit {0}) FileFault) → size_asked (file_asked path (entry_at c path)) ≡ Ok (Some n) → (remove_refusal c path ≡ None → Does (Ok (remove c path)) new r) → Does (file_removed path c) new r
removed-exact path c new n r there done = subst (λ m. Does m new r) (sym (removed-there path c n there)) (done (there-unrefused path c n there))

pub removed-unchanged : (path : PathValue) (c : Contents) (p : PathValue) → file_removed path c ≡ Err (fault.Changed p) → ⊥
unfolding file_removed
removed-unchanged path c p e =
    elim (file_asked path (entry_at c path)) as (λ r. file_asked path (entry_at c path) ≡ r → given r (without path c) ≡ Err (fault.Changed p) → ⊥) [
      | Ok found ↦ λ is rest. elim found as (λ o. without path c o ≡ Err (fault.Changed p) → ⊥) [ None ↦ λ no. absurd cc | Some bytes ↦ λ no. absurd cc ] rest
      | Err f ↦ λ is no. let same : f ≡ fault.Changed p = cc in true≢false (sym (file-kind path (entry_at c path) (fault.Changed p) (is ∙ ap (λ x. Err x) same)))
    ] refl e
