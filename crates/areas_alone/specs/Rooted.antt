-- A tree in which only some of what lies below a root is seen is a tree: whatever is there lies in a folder.
use Rattle.std.proofs.Common.{◌≡◌, ℕ, suc, ◌-◌, Bool, true, false, cond, List, [], ◌∷◌, ◌++◌, get_or, length, nat_lt, take, Option, Some, None, is_some, refl, ap, sym, ◌∙◌, append_assoc, true≢false, arith, rules}
use Rattle.std.proofs.lemmas.Grind.{common_steps}
use Rattle.std.specs.FinMap.{get, insert}
use Rattle.cluster_tree.specs.Contents.{Contents, Entry, FileEntry, FolderEntry, LinkEntry, IsTree, entry_at, is_folder, or_root, parent}
use Rattle.cluster_tree.specs.PathValue.{PathValue, below}
use Rattle.cluster_tree.proofs.OrderLemmas.{same_path}
use Rattle.cluster_tree.proofs.TreeLemmas.{same_or_other}
use Rattle.areas_alone.specs.Alone.{areas_of, lies_elsewhere}
use Rattle.areas_alone.specs.Shown.{elsewhere-is, get-other, is-elsewhere, kept, kept-root, root-here, sound, told-here}

sound-folder : (o : Option Entry) → is_folder (sound o) ≡ is_folder o
sound-folder None = refl
sound-folder (Some (FolderEntry bad)) = refl
sound-folder (Some (FileEntry bytes)) = refl
sound-folder (Some LinkEntry) = refl

-- a path and the folder that it lies in
last_one : (parts : List (List ℕ)) → nat_lt 0 (length parts) ≡ true → parts ≡ take (length parts - 1) parts ++ get_or parts (length parts - 1) [] ∷ []
last_one parts some = grind (arith, rules, common_steps, some)

no_parts : (parts : List (List ℕ)) → nat_lt 0 (length parts) ≡ false → take (length parts - 1) parts ≡ parts
no_parts [] none = refl
no_parts (part ∷ parts) none = absurd (true≢false (sym (some (length parts)) ∙ none))
  where
    some : (n : ℕ) → nat_lt 0 (suc n) ≡ true
    some n = grind (arith, rules)

-- what lies in what is elsewhere is elsewhere
up : (root path : PathValue) → lies_elsewhere root (parent path) ≡ true → lies_elsewhere root path ≡ true
up root path e = elim (nat_lt 0 (length path.parts)) as (λ b. nat_lt 0 (length path.parts) ≡ b → lies_elsewhere root path ≡ true) [
  | true ↦ λ some.
      let is = elsewhere-is root (parent path) e in
      let last = get_or path.parts (length path.parts - 1) [] in
      is-elsewhere root path (record {
        name = is.name;
        more = is.more ++ last ∷ [];
        is = same_path path (below root (is.name ∷ (is.more ++ last ∷ []))) (ap (λ (p : PathValue). p.absolute) is.is)
            (last_one path.parts some ∙ ap (λ (p : PathValue). p.parts ++ last ∷ []) is.is ∙ append_assoc root.parts (is.name ∷ is.more) (last ∷ []));
        other = is.other;
      })
  | false ↦ λ none. ap (lies_elsewhere root) (same_path path (parent path) refl (sym (no_parts path.parts none))) ∙ e
] refl

pub parent-here : (root path : PathValue) → lies_elsewhere root path ≡ false → lies_elsewhere root (parent path) ≡ false
parent-here root path e = elim (lies_elsewhere root (parent path)) as (λ b. lies_elsewhere root (parent path) ≡ b → b ≡ false) [
  | true ↦ λ is. absurd (true≢false (sym (up root path is) ∙ e))
  | false ↦ λ is. refl
] refl

-- what is there was there, or is the root
is_there : (b : Bool) (o : Option Entry) → is_some (cond b None o) ≡ true → (b ≡ false) × (is_some o ≡ true)
is_there true o e = absurd (true≢false (sym e))
is_there false o e = (refl, e)

root_parent : (c : Contents) (root : PathValue) → IsTree c → is_folder (entry_at c root) ≡ true → is_folder (entry_at c (parent root)) ≡ true
root_parent c root tree folder = by (get c root) refl root.parts refl
  where
    none : (o : Option Entry) (part : List ℕ) (parts : List (List ℕ)) → get c root ≡ None → root.parts ≡ part ∷ parts → is_folder (entry_at c root) ≡ false
    none o part parts e is = ap (λ l. is_folder (or_root l (get c root))) is ∙ ap (λ o. is_folder (or_root (part ∷ parts) o)) e

    by : (o : Option Entry) → get c root ≡ o → (parts : List (List ℕ)) → root.parts ≡ parts → is_folder (entry_at c (parent root)) ≡ true
    by (Some entry) e parts is = tree root (ap is_some e)
    by None e [] is = ap (λ (p : PathValue). is_folder (entry_at c p)) (same_path (parent root) root refl (ap (λ l. take (length l - 1) l) is ∙ sym is)) ∙ folder
    by None e (part ∷ parts) is = absurd (true≢false (sym folder ∙ none None part parts e is))

some_root : (c : Contents) (root : PathValue) (b : Bool) → is_folder (entry_at (kept c root) root) ≡ b → is_some (get (cond b (insert (kept c root) root (FolderEntry false)) (kept c root)) root) ≡ true → IsTree c → is_folder (entry_at c (parent root)) ≡ true
some_root c root true e there tree = root_parent c root tree (ap (λ o. is_folder (or_root root.parts o)) (sym (kept-root c root)) ∙ e)
some_root c root false e there tree = tree root (ap is_some (sym (kept-root c root)) ∙ there)

root_lies : (c : Contents) (root : PathValue) → is_some (get (areas_of c root) root) ≡ true → IsTree c → is_folder (entry_at c (parent root)) ≡ true
unfolding areas_of
root_lies c root there tree = some_root c root (is_folder (entry_at (kept c root) root)) refl there tree

pub areas-tree : (c : Contents) (root : PathValue) → IsTree c → IsTree (areas_of c root)
areas-tree c root tree path there = same_or_other path root
    (λ is.
    let root_there : is_some (get (areas_of c root) root) ≡ true = ap (λ (p : PathValue). is_some (get (areas_of c root) p)) (sym is) ∙ there in
    told-here is_folder sound-folder c root (parent path) (parent-here root path (ap (lies_elsewhere root) is ∙ root-here root))
    ∙ ap (λ (p : PathValue). is_folder (entry_at c (parent p))) is ∙ root_lies c root root_there tree)
    (λ n.
    let two = is_there (lies_elsewhere root path) (get c path) (ap is_some (sym (get-other c root path n)) ∙ there) in
    told-here is_folder sound-folder c root (parent path) (parent-here root path two.0) ∙ tree path two.1)
