-- Where calls on the files of a relation go.
use Rattle.std.proofs.Common.{◌≡◌, ℕ, zero, suc, ◌+◌, ◌<◌, ◌≤◌, ◌^◌, ◌==◌, Bool, true, false, ◌&&◌, ◌||◌, List, [], ◌∷◌, ◌++◌, length, take, refl, ap, sym, ◌∙◌, arith}
use Rattle.std.proofs.lemmas.Bool.{or_right}
use Rattle.std.proofs.lemmas.Bool.Decides.{nat_tests}
use Rattle.std.proofs.lemmas.Grind.{common_steps}
use Rattle.std.proofs.lemmas.List.{length-append}
use Rattle.block_refs.specs.declared.names.Fork.{Fork}
use Rattle.block_refs.specs.declared.names.RelName.{RelName}
use Rattle.cluster_tree.specs.PathValue.{PathValue, below, front}
use Rattle.cluster_tree.specs.PathOrder.{path_eq}
use Rattle.cluster_tree.specs.Folders.{last_part}
use Rattle.cluster_tree.proofs.OrderLemmas.{path_eq-same, same_path}
use Rattle.cluster_tree.proofs.FolderLemmas.{lies_in-below}
use Rattle.file_edits.specs.Edits.{leads, on_way, folders_between}
use Rattle.relation_files.specs.Names.{name_of}
use Rattle.relation_files.specs.Paths.{relation_file, relation_folder}
use Rattle.relation_files.specs.Reading.{file_of_number, is_of_number}
use Rattle.relation_files.proofs.NameLemmas.{named-written}
use Rattle.relation_files.proofs.PathLemmas.{length-relation_folder}
use Rattle.storage_replay.specs.Files.{is_file_in, is_of_relation}

or_both : (a b c d : Bool) → (b ≡ true → (c || d) ≡ true) → (a || b) ≡ true → ((a || c) || d) ≡ true
or_both true b c d next e = refl
or_both false b c d next e = next e

or_then : (a b c : Bool) → (b ≡ true → c ≡ true) → (a || b) ≡ true → (a || c) ≡ true
or_then true b c next e = refl
or_then false b c next e = next e

-- a file in its folder

pub last-below : (folder : PathValue) (name : List ℕ) → last_part (below folder (name ∷ [])) ≡ name
last-below folder name = last folder.parts name
  where
    last : (parts : List (List ℕ)) (name : List ℕ) → last_part (below folder (name ∷ [])) ≡ name
    last parts name = grind (arith, common_steps)

pub named-in : (folder q : PathValue) (relation : ℕ) (name : List ℕ) → is_of_number relation name ≡ true → path_eq q (below folder (name ∷ [])) ≡ true → is_file_in folder relation q ≡ true
named-in folder q relation name is e =
    ap (is_file_in folder relation) (path_eq-same q (below folder (name ∷ [])) e)
    ∙ ap (λ b. b && is_of_number relation (last_part (below folder (name ∷ [])))) (lies_in-below folder name)
    ∙ ap (is_of_number relation) (last-below folder name) ∙ is

pub own-number : (relation : ℕ) (fork : Fork) (segment : ℕ) → relation < 2 ^ 32 → segment < 2 ^ 32 → is_of_number relation (name_of relation fork segment) ≡ true
own-number relation fork segment small few =
    let own : (relation == relation) ≡ true = grind (arith, nat_tests) in
    ap (file_of_number relation) (named-written (record { relation = relation; fork = fork; segment = segment }) (record { relation = small; segment = few })) ∙ own

-- the way to what lies in a folder is the way to the folder, and it

front_same : (n : ℕ) (parts more : List (List ℕ)) → n ≤ length parts → take n (parts ++ more) ≡ take n parts
front_same n parts more l = grind (arith, common_steps)

whole_front : (parts more : List (List ℕ)) → take (length parts) (parts ++ more) ≡ parts
whole_front parts more = grind (arith, common_steps)

in_folder : (k n : ℕ) (folder q : PathValue) (name : List ℕ) → n + k ≡ length folder.parts → leads (suc k) n (below folder (name ∷ [])) q ≡ true → (leads k n folder q || path_eq q (below folder (name ∷ []))) ≡ true
unfolding leads
in_folder zero n folder q name len e =
    let own : front n (below folder (name ∷ [])) ≡ folder = same_path _ _ refl (ap (λ m. take m (folder.parts ++ name ∷ [])) (let m : n ≡ length folder.parts = omega arith in m) ∙ whole_front folder.parts (name ∷ [])) in
    ap (λ p. path_eq q p || path_eq q (below folder (name ∷ []))) (sym own) ∙ e
in_folder (suc k) n folder q name len e =
    let same : front n (below folder (name ∷ [])) ≡ front n folder = same_path _ _ refl (front_same n folder.parts (name ∷ []) (omega arith)) in
    or_both (path_eq q (front n folder)) (leads (suc k) (n + 1) (below folder (name ∷ [])) q) (leads k (n + 1) folder q) (path_eq q (below folder (name ∷ [])))
    (in_folder k (n + 1) folder q name (omega arith))
    (ap (λ p. path_eq q p || leads (suc k) (n + 1) (below folder (name ∷ [])) q) (sym same) ∙ e)

pub file-way : (root : PathValue) (rel : RelName) (fork : Fork) (segment : ℕ) → rel.relation < 2 ^ 32 → segment < 2 ^ 32 → (q : PathValue) → on_way root (relation_file root rel fork segment) q ≡ true → is_of_relation root rel q ≡ true
file-way root rel fork segment small few q e =
    let folder = relation_folder root rel in
    let name = name_of rel.relation fork segment in
    let deep = (length-relation_folder root rel).0 in
    let size = length-append folder.parts (name ∷ []) in
    let more : folders_between root (relation_file root rel fork segment) ≡ suc (folders_between root folder) = omega (arith, size, deep) in
    or_then (on_way root folder q) (path_eq q (below folder (name ∷ []))) (is_file_in folder rel.relation q)
    (named-in folder q rel.relation name (own-number rel.relation fork segment small few))
    (in_folder (folders_between root folder) (length root.parts + 1) folder q name (omega (arith, deep)) (ap (λ k. leads k (length root.parts + 1) (relation_file root rel fork segment) q) (sym more) ∙ e))

pub file-own : (root : PathValue) (rel : RelName) (fork : Fork) (segment : ℕ) → rel.relation < 2 ^ 32 → segment < 2 ^ 32 → (q : PathValue) → path_eq q (relation_file root rel fork segment) ≡ true → is_of_relation root rel q ≡ true
file-own root rel fork segment small few q e =
    or_right (on_way root (relation_folder root rel) q) (is_file_in (relation_folder root rel) rel.relation q)
    (named-in (relation_folder root rel) q rel.relation (name_of rel.relation fork segment) (own-number rel.relation fork segment small few) e)

pub in-relation : (root : PathValue) (rel : RelName) (q : PathValue) → is_file_in (relation_folder root rel) rel.relation q ≡ true → is_of_relation root rel q ≡ true
in-relation root rel q e = or_right (on_way root (relation_folder root rel) q) (is_file_in (relation_folder root rel) rel.relation q) e
