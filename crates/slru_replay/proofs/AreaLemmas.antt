-- Where calls on the files of an area go.
use Rattle.std.proofs.Common.{◌≡◌, ℕ, zero, suc, ◌+◌, ◌/◌, ◌≤◌, Bool, true, false, ◌||◌, List, [], ◌∷◌, ◌++◌, length, take, replicate, Result, refl, ap, sym, subst, ◌∙◌, arith}
use Rattle.std.proofs.lemmas.Bool.{or_right}
use Rattle.std.proofs.lemmas.Grind.{common_steps}
use Rattle.std.proofs.lemmas.List.{length-append}
use Rattle.cluster_tree.specs.PathValue.{PathValue, below, front}
use Rattle.cluster_tree.specs.PathOrder.{path_eq}
use Rattle.cluster_tree.specs.Folders.{lies_in}
use Rattle.cluster_tree.proofs.OrderLemmas.{path_eq-same, same_path}
use Rattle.cluster_tree.proofs.FolderLemmas.{lies_in-below}
use Rattle.cluster_tree.specs.Contents.{Contents}
use Rattle.cluster_tree.specs.declared.file_fault.FileFault.{FileFault}
use Rattle.file_edits.specs.Answers.{Does}
use Rattle.file_edits.specs.Edits.{leads, on_way, folders_between, file_edited, laid}
use Rattle.slru_replay.specs.Area.{folder_of, file_name, page_file, page_start, page_zeroed, is_of_area}
use Rattle.slru_replay.specs.declared.area.Area.{Area}
use Rattle.slru_replay.proofs.NameLemmas.{folder-deeper}

or_after : (a b c d : Bool) → (b ≡ true → (c || d) ≡ true) → (a || b) ≡ true → ((a || c) || d) ≡ true
or_after true b c d next e = refl
or_after false b c d next e = next e

front_same : (n : ℕ) (parts more : List (List ℕ)) → n ≤ length parts → take n (parts ++ more) ≡ take n parts
front_same n parts more l = grind (arith, common_steps)

whole_front : (parts more : List (List ℕ)) → take (length parts) (parts ++ more) ≡ parts
whole_front parts more = grind (arith, common_steps)

pub lies_here : (folder q : PathValue) (name : List ℕ) → path_eq q (below folder (name ∷ [])) ≡ true → lies_in folder q ≡ true
lies_here folder q name e = ap (lies_in folder) (path_eq-same q (below folder (name ∷ [])) e) ∙ lies_in-below folder name

-- the way to what lies in a folder is the way to the folder, and it
in_folder : (k n : ℕ) (folder q : PathValue) (name : List ℕ) → n + k ≡ length folder.parts → leads (suc k) n (below folder (name ∷ [])) q ≡ true → (leads k n folder q || lies_in folder q) ≡ true
unfolding leads
in_folder zero n folder q name len e =
    let own : front n (below folder (name ∷ [])) ≡ folder = same_path _ _ refl (ap (λ m. take m (folder.parts ++ name ∷ [])) (let m : n ≡ length folder.parts = omega arith in m) ∙ whole_front folder.parts (name ∷ [])) in
    ap (λ p. path_eq q p || lies_in folder q) (sym own) ∙ last (path_eq q (front n (below folder (name ∷ [])))) e
  where
    last : (b : Bool) → (b || path_eq q (below folder (name ∷ []))) ≡ true → (b || lies_in folder q) ≡ true
    last true h = refl
    last false h = lies_here folder q name h
in_folder (suc k) n folder q name len e =
    let same : front n (below folder (name ∷ [])) ≡ front n folder = same_path _ _ refl (front_same n folder.parts (name ∷ []) (omega arith)) in
    or_after (path_eq q (front n folder)) (leads (suc k) (n + 1) (below folder (name ∷ [])) q) (leads k (n + 1) folder q) (lies_in folder q)
    (in_folder k (n + 1) folder q name (omega arith))
    (ap (λ p. path_eq q p || leads (suc k) (n + 1) (below folder (name ∷ [])) q) (sym same) ∙ e)

pub area-way : (root : PathValue) (area : Area) (page : ℕ) (q : PathValue) → on_way root (page_file root area page) q ≡ true → is_of_area root area q ≡ true
area-way root area page q e =
    let folder = folder_of root area in
    let deep = folder-deeper root area in
    let name = file_name (page / 32) in
    let size = length-append folder.parts (name ∷ []) in
    let more : folders_between root (page_file root area page) ≡ suc (folders_between root folder) = omega (arith, size, deep) in
    in_folder (folders_between root folder) (length root.parts + 1) folder q name (omega (arith, deep)) (ap (λ k. leads k (length root.parts + 1) (page_file root area page) q) (sym more) ∙ e)

pub area-in : (root : PathValue) (area : Area) (q : PathValue) → lies_in (folder_of root area) q ≡ true → is_of_area root area q ≡ true
area-in root area q e = or_right (on_way root (folder_of root area) q) (lies_in (folder_of root area) q) e

-- a page of zeros that is laid at its start
pub zeroed-exact : (root path : PathValue) (area : Area) (page start : ℕ) (zeros : List ℕ) (c new : Contents) (r : Result (Unit {0}) FileFault) → path ≡ page_file root area page → start ≡ page_start page → zeros ≡ replicate 8192 0 → Does (file_edited root path (laid start start zeros) c) new r → Does (page_zeroed root area page c) new r
zeroed-exact root path area page start zeros c new r is begins none done =
    subst (λ (p : PathValue). Does (file_edited root p (laid (page_start page) (page_start page) (replicate 8192 0)) c) new r) is
    (subst (λ (s : ℕ). Does (file_edited root path (laid s s (replicate 8192 0)) c) new r) begins
    (subst (λ (zs : List ℕ). Does (file_edited root path (laid start start zs) c) new r) none done))
