-- Folders that are made on the way to a path.
use Rattle.std.proofs.Common.{◌≡◌, ◌≢◌, ℕ, zero, suc, ◌+◌, ◌-◌, ◌<◌, ◌≤◌, min, true, false, cond, List, length, take, Option, None, Some, Ok, Err, is_some, refl, ap, sym, ◌∙◌, arith, true≢false}
use Rattle.std.proofs.lemmas.Grind.{common_steps}
use Rattle.std.proofs.lemmas.Bool.{or_left, or_right}
use Rattle.std.proofs.lemmas.List.{length-take}
use Rattle.std.specs.FinMap.{insert}
use Rattle.cluster_tree.specs.PathValue.{PathValue, Holds, front}
use Rattle.cluster_tree.specs.PathOrder.{path_eq}
use Rattle.cluster_tree.specs.Contents.{Contents, Entry, FolderEntry, FileEntry, LinkEntry, entry_at, is_folder, parent}
use Rattle.cluster_tree.specs.Tree.{make_refusal, refusal_in}
use Rattle.cluster_tree.specs.Causes.{given, unless}
use Rattle.cluster_tree.specs.declared.tree.TreeFault.TheVariants as tree_fault
use Rattle.cluster_tree.specs.declared.file_fault.FileFault.{FileFault}
use Rattle.cluster_tree.specs.declared.file_fault.FileFault.TheVariants as fault
use Rattle.cluster_tree.proofs.ContentsLemmas.{entry-put, entry-put_other}
use Rattle.cluster_tree.proofs.OrderLemmas.{same_path}
use Rattle.file_edits.specs.Asking.{folder_asked, root_refusal}
use Rattle.file_edits.proofs.AskLemmas.{folder-kind}
use Rattle.file_edits.specs.Edits.{folder_left, folder_made, folders_made, folders_between, way_made, leads, on_way}

-- one folder

pub made-there : (path : PathValue) (c : Contents) → folder_asked path (entry_at c path) ≡ Ok true → folder_made path c ≡ Ok c
unfolding folder_made
made-there path c e = ap (λ r. given r (λ there. Ok (folder_left c path there))) e

pub made-new : (path : PathValue) (c : Contents) → folder_asked path (entry_at c path) ≡ Ok false → folder_made path c ≡ Ok (insert c path (FolderEntry false))
unfolding folder_made
made-new path c e = ap (λ r. given r (λ there. Ok (folder_left c path there))) e

pub made-refused : (path : PathValue) (c : Contents) (e : FileFault) → folder_asked path (entry_at c path) ≡ Err e → folder_made path c ≡ Err e
unfolding folder_made
made-refused path c e is = ap (λ r. given r (λ there. Ok (folder_left c path there))) is

pub none_asked : (path : PathValue) (o : Option Entry) → folder_asked path o ≡ Ok false → o ≡ None
none_asked path None e = refl
none_asked path (Some (FolderEntry bad)) e = absurd cc
none_asked path (Some (FileEntry bytes)) e = absurd cc
none_asked path (Some LinkEntry) e = absurd cc

folder_asked-is : (path : PathValue) (o : Option Entry) → folder_asked path o ≡ Ok true → is_folder o ≡ true
folder_asked-is path None e = absurd cc
folder_asked-is path (Some (FolderEntry bad)) e = refl
folder_asked-is path (Some (FileEntry bytes)) e = absurd cc
folder_asked-is path (Some LinkEntry) e = absurd cc

room_in : (o : Option Entry) → is_folder o ≡ true → refusal_in o ≡ None
room_in None e = absurd (true≢false (sym e))
room_in (Some (FolderEntry bad)) e = refl
room_in (Some (FileEntry bytes)) e = absurd (true≢false (sym e))
room_in (Some LinkEntry) e = absurd (true≢false (sym e))

-- what isn't there isn't refused to be made in a folder
pub unrefused : (c : Contents) (path above : PathValue) → entry_at c path ≡ None → parent path ≡ above → is_folder (entry_at c above) ≡ true → make_refusal c path ≡ None
unrefused c path above none up folder =
    ap (λ o. cond (is_some o) (Some tree_fault.Exists) (refusal_in (entry_at c (parent path)))) none
    ∙ room_in (entry_at c (parent path)) (ap (λ p. is_folder (entry_at c p)) up ∙ folder)

shorter : (n : ℕ) (parts : List (List ℕ)) → n ≤ length parts → take (length (take n parts) - 1) (take n parts) ≡ take (n - 1) parts
shorter n parts l = grind (arith, common_steps)

pub parent-front : (n : ℕ) (path : PathValue) → n ≤ length path.parts → parent (front n path) ≡ front (n - 1) path
parent-front n path l = same_path _ _ refl (shorter n path.parts l)

pub front-unrefused : (c : Contents) (path : PathValue) (n : ℕ) → n ≤ length path.parts → folder_asked (front n path) (entry_at c (front n path)) ≡ Ok false → is_folder (entry_at c (front (n - 1) path)) ≡ true → make_refusal c (front n path) ≡ None
front-unrefused c path n l none folder = unrefused c (front n path) (front (n - 1) path) (none_asked (front n path) _ none) (parent-front n path l) folder

pub ruleset front_steps = (made-there, made-new, made-refused, front-unrefused)

pub by_asked : {P : Type 0} (path : PathValue) (c d : Contents) → folder_made path c ≡ Ok d → (folder_asked path (entry_at c path) ≡ Ok true → d ≡ c → P) → (folder_asked path (entry_at c path) ≡ Ok false → d ≡ insert c path (FolderEntry false) → P) → P
unfolding folder_made
by_asked {P} path c d made there new =
    elim (folder_asked path (entry_at c path)) as (λ r. folder_asked path (entry_at c path) ≡ r → given r (λ t. Ok (folder_left c path t)) ≡ Ok d → P) [
      | Ok t ↦ λ is. elim t as (λ b. folder_asked path (entry_at c path) ≡ Ok b → Ok (folder_left c path b) ≡ Ok d → P) [
        | true ↦ λ is e. there is (let same : c ≡ d = cc in sym same)
        | false ↦ λ is e. new is (let same : insert c path (FolderEntry false) ≡ d = cc in sym same)
      ] is
      | Err f ↦ λ is e. absurd cc
    ] refl made

-- a folder that was made is there
pub made-is : (path : PathValue) (c d : Contents) → folder_made path c ≡ Ok d → is_folder (entry_at d path) ≡ true
made-is path c d made = by_asked path c d made
    (λ there same. ap (λ x. is_folder (entry_at x path)) same ∙ folder_asked-is path _ there)
    (λ none is. ap (λ x. is_folder (entry_at x path)) is ∙ ap is_folder (entry-put c path (FolderEntry false)))

-- and every other path holds what it held
pub made-elsewhere : (path : PathValue) (c d : Contents) (q : PathValue) → folder_made path c ≡ Ok d → q ≢ path → entry_at d q ≡ entry_at c q
made-elsewhere path c d q made other = by_asked path c d made
    (λ there same. ap (λ x. entry_at x q) same)
    (λ none is. ap (λ x. entry_at x q) is ∙ entry-put_other c path q (FolderEntry false) other)

-- several folders

one_more : (n len : ℕ) → n < len → len - n ≡ suc (len - (n + 1))
one_more n len l = omega arith

pub way-end : (n len : ℕ) (path : PathValue) (c : Contents) → len ≤ n → folders_made (len - n) n path c ≡ Ok c
unfolding folders_made
way-end n len path c l = let none : len - n ≡ 0 = omega arith in ap (λ k. folders_made k n path c) none

pub way-more : (n len : ℕ) (path : PathValue) (c d : Contents) → n < len → folder_made (front n path) c ≡ Ok d → folders_made (len - n) n path c ≡ folders_made (len - (n + 1)) (n + 1) path d
unfolding folders_made
way-more n len path c d l made = ap (λ k. folders_made k n path c) (one_more n len l) ∙ ap (λ r. given r (folders_made (len - (n + 1)) (n + 1) path)) made

pub way-refused : (n len : ℕ) (path : PathValue) (c : Contents) (e : FileFault) → n < len → folder_made (front n path) c ≡ Err e → folders_made (len - n) n path c ≡ Err e
unfolding folders_made
way-refused n len path c e l made = ap (λ k. folders_made k n path c) (one_more n len l) ∙ ap (λ r. given r (folders_made (len - (n + 1)) (n + 1) path)) made

length-front : (n : ℕ) (path : PathValue) → n ≤ length path.parts → length (front n path).parts ≡ n
length-front n path l = length-take n path.parts ∙ (let m : min n (length path.parts) ≡ n = grind arith in m)

-- a path is none of the folders on its way
pub front-other : (n : ℕ) (path : PathValue) → n < length path.parts → path ≢ front n path
front-other n path l e = absurd (omega (arith, length-front n path (omega arith), ap (λ p. length p.parts) e))

-- once the folders are made, the path holds what it held, and the last of them is there
pub folders-ready : (k n : ℕ) (path : PathValue) (c d : Contents) → (n + k) + 1 ≡ length path.parts → is_folder (entry_at c (front n path)) ≡ true → folders_made k (n + 1) path c ≡ Ok d → (entry_at d path ≡ entry_at c path) × (is_folder (entry_at d (front (n + k) path)) ≡ true)
unfolding folders_made
folders-ready zero n path c d len folder made =
    let same : c ≡ d = cc in
    let none : n + 0 ≡ n = omega arith in
    (ap (λ x. entry_at x path) (sym same), ap (λ m. is_folder (entry_at d (front m path))) none ∙ ap (λ x. is_folder (entry_at x (front n path))) (sym same) ∙ folder)
folders-ready (suc k) n path c d len folder made =
    elim (folder_made (front (n + 1) path) c) as (λ r. folder_made (front (n + 1) path) c ≡ r → given r (folders_made k (n + 1 + 1) path) ≡ Ok d → (entry_at d path ≡ entry_at c path) × (is_folder (entry_at d (front (n + suc k) path)) ≡ true)) [
      | Ok e ↦ λ one rest.
          let two = folders-ready k (n + 1) path e d (omega arith) (made-is (front (n + 1) path) c e one) rest in
          let sum : n + 1 + k ≡ n + suc k = omega arith in
          (two.0 ∙ made-elsewhere (front (n + 1) path) c e path one (front-other (n + 1) path (omega arith)), ap (λ m. is_folder (entry_at d (front m path))) (sym sum) ∙ two.1)
      | Err f ↦ λ one rest. absurd cc
    ] refl made

root_is : (o : Option Entry) (root : PathValue) → root_refusal root o ≡ None → is_folder o ≡ true
root_is None root e = absurd cc
root_is (Some (FolderEntry bad)) root e = refl
root_is (Some (FileEntry bytes)) root e = absurd cc
root_is (Some LinkEntry) root e = absurd cc

pub front-held : (root path : PathValue) → Holds root path → front (length root.parts) path ≡ root
front-held root path held = same_path _ _ (sym held.mark) held.prefix

by_root : {P : Type 0} (root path : PathValue) (c d : Contents) → way_made root path c ≡ Ok d → (root_refusal root (entry_at c root) ≡ None → folders_made (folders_between root path) (length root.parts + 1) path c ≡ Ok d → P) → P
unfolding way_made
by_root {P} root path c d made next =
    elim (root_refusal root (entry_at c root)) as (λ r. root_refusal root (entry_at c root) ≡ r → unless r (folders_made (folders_between root path) (length root.parts + 1) path c) ≡ Ok d → P) [
      | None ↦ λ is e. next is e
      | Some f ↦ λ is e. absurd cc
    ] refl made

-- once the way is made, the path holds what it held, and the folder that it lies in is there
pub way-ready : (root path : PathValue) (c d : Contents) → Holds root path → length root.parts < length path.parts → way_made root path c ≡ Ok d → (entry_at d path ≡ entry_at c path) × (is_folder (entry_at d (parent path)) ≡ true)
way-ready root path c d held deeper made = by_root root path c d made (λ free rest.
    let n : ℕ = length root.parts in
    let k : ℕ = folders_between root path in
    let sum : n + k ≡ length path.parts - 1 = omega arith in
    let folder : is_folder (entry_at c (front n path)) ≡ true = ap (λ p. is_folder (entry_at c p)) (front-held root path held) ∙ root_is (entry_at c root) root free in
    let two = folders-ready k n path c d (omega arith) folder rest in
    (two.0, ap (λ m. is_folder (entry_at d (front m path))) (sym sum) ∙ two.1))

-- the root is the folder that the first of them lies in
pub root-above : (root path : PathValue) (c : Contents) (m : ℕ) → Holds root path → root_refusal root (entry_at c root) ≡ None → m ≡ length root.parts → is_folder (entry_at c (front ((m + 1) - 1) path)) ≡ true
root-above root path c m held free is =
    let n : (m + 1) - 1 ≡ length root.parts = omega arith in
    ap (λ k. is_folder (entry_at c (front k path))) n ∙ ap (λ p. is_folder (entry_at c p)) (front-held root path held) ∙ root_is (entry_at c root) root free

pub made-above : (n : ℕ) (path : PathValue) (c d : Contents) → folder_made (front n path) c ≡ Ok d → is_folder (entry_at d (front ((n + 1) - 1) path)) ≡ true
made-above n path c d made =
    let same : (n + 1) - 1 ≡ n = omega arith in
    ap (λ k. is_folder (entry_at d (front k path))) same ∙ made-is (front n path) c d made

-- no refusal tells of a change
pub made-unchanged : (path p : PathValue) (c : Contents) → folder_made path c ≡ Err (fault.Changed p) → ⊥
unfolding folder_made
made-unchanged path p c e =
    elim (folder_asked path (entry_at c path)) as (λ r. folder_asked path (entry_at c path) ≡ r → given r (λ t. Ok (folder_left c path t)) ≡ Err (fault.Changed p) → ⊥) [
      | Ok t ↦ λ is no. absurd cc
      | Err f ↦ λ is no. let same : f ≡ fault.Changed p = cc in true≢false (sym (folder-kind path (entry_at c path) (fault.Changed p) (is ∙ ap (λ x. Err x) same)))
    ] refl e

folders-unchanged : (k n : ℕ) (path p : PathValue) (c : Contents) → folders_made k n path c ≡ Err (fault.Changed p) → ⊥
unfolding folders_made
folders-unchanged zero n path p c e = absurd cc
folders-unchanged (suc k) n path p c e =
    elim (folder_made (front n path) c) as (λ r. folder_made (front n path) c ≡ r → given r (folders_made k (n + 1) path) ≡ Err (fault.Changed p) → ⊥) [
      | Ok d ↦ λ is rest. folders-unchanged k (n + 1) path p d rest
      | Err f ↦ λ is no. let same : f ≡ fault.Changed p = cc in made-unchanged (front n path) p c (is ∙ ap (λ x. Err x) same)
    ] refl e

root-unchanged : (root p : PathValue) (o : Option Entry) → root_refusal root o ≡ Some (fault.Changed p) → ⊥
root-unchanged root p None e = absurd cc
root-unchanged root p (Some (FolderEntry bad)) e = absurd cc
root-unchanged root p (Some (FileEntry bytes)) e = absurd cc
root-unchanged root p (Some LinkEntry) e = absurd cc

pub way-unchanged : (root path : PathValue) (c : Contents) (p : PathValue) → way_made root path c ≡ Err (fault.Changed p) → ⊥
unfolding way_made
way-unchanged root path c p e =
    elim (root_refusal root (entry_at c root)) as (λ r. root_refusal root (entry_at c root) ≡ r → unless r (folders_made (folders_between root path) (length root.parts + 1) path c) ≡ Err (fault.Changed p) → ⊥) [
      | None ↦ λ is rest. folders-unchanged (folders_between root path) (length root.parts + 1) path p c rest
      | Some f ↦ λ is no. let same : f ≡ fault.Changed p = cc in root-unchanged root p (entry_at c root) (is ∙ ap (λ x. Some x) same)
    ] refl e

pub way-root : (root path : PathValue) (c : Contents) (f : FileFault) → root_refusal root (entry_at c root) ≡ Some f → way_made root path c ≡ Err f
unfolding way_made
way-root root path c f is = ap (λ r. unless r (folders_made (folders_between root path) (length root.parts + 1) path c)) is

pub way-begun : (root path : PathValue) (c : Contents) → root_refusal root (entry_at c root) ≡ None → way_made root path c ≡ folders_made (length path.parts - (length root.parts + 1)) (length root.parts + 1) path c
unfolding way_made
way-begun root path c is = ap (λ r. unless r (folders_made (folders_between root path) (length root.parts + 1) path c)) is

pub root-there : (root : PathValue) (o : Option Entry) → folder_asked root o ≡ Ok true → root_refusal root o ≡ None
root-there root None e = absurd cc
root-there root (Some (FolderEntry bad)) e = refl
root-there root (Some (FileEntry bytes)) e = absurd cc
root-there root (Some LinkEntry) e = absurd cc

pub root-absent : (root : PathValue) (o : Option Entry) → folder_asked root o ≡ Ok false → root_refusal root o ≡ Some (fault.NotFolder root)
root-absent root None e = refl
root-absent root (Some (FolderEntry bad)) e = absurd cc
root-absent root (Some (FileEntry bytes)) e = absurd cc
root-absent root (Some LinkEntry) e = absurd cc

pub root-other : (root : PathValue) (o : Option Entry) (f : FileFault) → folder_asked root o ≡ Err f → root_refusal root o ≡ Some f
root-other root None f e = absurd cc
root-other root (Some (FolderEntry bad)) f e = absurd cc
root-other root (Some (FileEntry bytes)) f e = let same : fault.NotFolder root ≡ f = cc in ap (λ x. Some x) same
root-other root (Some LinkEntry) f e = let same : fault.Link root ≡ f = cc in ap (λ x. Some x) same

pub ruleset root_steps = (root-there, root-absent, root-other)

-- where those calls go

-- a folder among so many from the one of n parts on leads to the path
pub leads-front : (j n : ℕ) (k : ℕ) (path q : PathValue) → j < k → path_eq q (front (n + j) path) ≡ true → leads k n path q ≡ true
unfolding leads
leads-front j n zero path q l e = absurd (omega arith)
leads-front zero n (suc k) path q l e =
    let none : n ≡ n + 0 = omega arith in
    or_left (path_eq q (front n path)) (leads k (n + 1) path q) (ap (λ m. path_eq q (front m path)) none ∙ e)
leads-front (suc j) n (suc k) path q l e =
    let sum : n + suc j ≡ n + 1 + j = omega arith in
    or_right (path_eq q (front n path)) (leads k (n + 1) path q) (leads-front j (n + 1) k path q (omega arith) (ap (λ m. path_eq q (front m path)) (sym sum) ∙ e))

pub leads-own : (k n : ℕ) (path q : PathValue) → path_eq q path ≡ true → leads k n path q ≡ true
unfolding leads
leads-own zero n path q e = e
leads-own (suc k) n path q e = or_right (path_eq q (front n path)) (leads k (n + 1) path q) (leads-own k (n + 1) path q e)

pub way-front : (root path : PathValue) (n : ℕ) (q : PathValue) → length root.parts + 1 ≤ n → n < length path.parts → path_eq q (front n path) ≡ true → on_way root path q ≡ true
way-front root path n q low high e =
    let j : ℕ = n - (length root.parts + 1) in
    let sum : length root.parts + 1 + j ≡ n = omega arith in
    leads-front j (length root.parts + 1) (folders_between root path) path q (omega arith) (ap (λ m. path_eq q (front m path)) sum ∙ e)

pub way-own : (root path q : PathValue) → path_eq q path ≡ true → on_way root path q ≡ true
way-own root path q e = leads-own (folders_between root path) (length root.parts + 1) path q e
