-- Which files two names stand for.
use Rattle.std.proofs.Common.{◌≡◌, ℕ, ◌<◌, ◌^◌, ◌==◌, Bool, true, false, not, cond, ◌&&◌, List, [], ◌∷◌, ◌++◌, length, decimal, Some, refl, ap, ap₂, sym, ◌∙◌, arith}
use Rattle.std.proofs.lemmas.Fmt.{decimal_injective}
use Rattle.std.proofs.lemmas.List.{append_cancel_left, length-append}
use Rattle.block_refs.specs.declared.names.BlockName.{BlockName}
use Rattle.block_refs.specs.declared.names.Fork.{Fork}
use Rattle.block_refs.specs.declared.names.Fork.TheVariants.{Main, FreeSpace, Visibility, Init}
use Rattle.block_refs.specs.declared.names.RelName.{RelName}
use Rattle.block_refs.specs.Names.{fork_number, fork_of}
use Rattle.cluster_tree.specs.PathValue.{PathValue, below}
use Rattle.relation_files.specs.Names.{name_of}
use Rattle.relation_files.specs.Paths.{database_parts, folder_parts, global_parts, relation_file, relation_folder}
use Rattle.relation_files.specs.Reading.{file_named}
use Rattle.relation_files.specs.declared.file_name.FileName.{FileName}
use Rattle.relation_files.proofs.NameLemmas.{named-written}
use Rattle.storage_replay.specs.Cutting.{same_fork}
use Rattle.storage_laws.specs.Names.{IsRel, block_of, in_fork, is_shared, same_files, same_folder}
use Rattle.storage_laws.proofs.NumberLemmas.{eq-yes, eq-is, and-parts, and-both}

-- folders

parts_of : Bool → ℕ → List (List ℕ)
parts_of shared database = cond shared global_parts (database_parts database)

alike : Bool → Bool → ℕ → ℕ → Bool
alike s t a b = cond s t (not t && (b == a))

pub number-same : (a b : ℕ) → a < 2 ^ 32 → b < 2 ^ 32 → database_parts a ≡ database_parts b → a ≡ b
number-same a b l m e =
    let both : decimal a ≡ decimal b = cc in
    decimal_injective a b (omega (arith, l)) (omega (arith, m)) both

folder_same : (s t : Bool) (a b : ℕ) → alike s t a b ≡ true → parts_of s a ≡ parts_of t b
unfolding alike parts_of
folder_same true true a b e = refl
folder_same true false a b e = absurd cc
folder_same false true a b e = absurd cc
folder_same false false a b e = ap database_parts (sym (eq-is b a e))

same_folder_of : (s t : Bool) (a b : ℕ) → a < 2 ^ 32 → b < 2 ^ 32 → parts_of s a ≡ parts_of t b → alike s t a b ≡ true
unfolding alike parts_of
same_folder_of true true a b l m e = refl
same_folder_of true false a b l m e = absurd (omega (arith, ap length e))
same_folder_of false true a b l m e = absurd (omega (arith, ap length e))
same_folder_of false false a b l m e = eq-yes b a (sym (number-same a b l m e))

pub parts-same : (rel other : RelName) → same_folder rel other ≡ true → folder_parts rel ≡ folder_parts other
unfolding alike parts_of
parts-same rel other e = folder_same (is_shared rel) (is_shared other) rel.database other.database e

pub folder-same : (rel other : RelName) → IsRel rel → IsRel other → folder_parts rel ≡ folder_parts other → same_folder rel other ≡ true
unfolding alike parts_of
folder-same rel other small few e = same_folder_of (is_shared rel) (is_shared other) rel.database other.database small.database few.database e

-- forks

fork_again : (fork : Fork) → fork_of (fork_number fork) ≡ Some fork
unfolding fork_of
fork_again Main = refl
fork_again FreeSpace = refl
fork_again Visibility = refl
fork_again Init = refl

pub fork-is : (fork other : Fork) → same_fork fork other ≡ true → fork ≡ other
fork-is fork other e =
    let number : fork_number fork ≡ fork_number other = eq-is (fork_number fork) (fork_number other) e in
    let both : Some fork ≡ Some other = sym (fork_again fork) ∙ ap fork_of number ∙ fork_again other in
    cc

pub fork-own : (fork other : Fork) → fork ≡ other → same_fork fork other ≡ true
fork-own fork other e = eq-yes (fork_number fork) (fork_number other) (ap fork_number e)

pub own-fork : (rel : RelName) (fork : Fork) (block : ℕ) → in_fork rel fork (block_of rel fork block) ≡ true
unfolding alike
own-fork rel fork block = and-both _ _ (and-both _ _ (by (is_shared rel)) (eq-yes rel.relation rel.relation refl)) (fork-own fork fork refl)
  where
    by : (t : Bool) → alike t t rel.database rel.database ≡ true
    by true = refl
    by false = eq-yes rel.database rel.database refl

-- files

pub one-file : (root : PathValue) (rel : RelName) (fork : Fork) (other : BlockName) (segment : ℕ) → in_fork rel fork other ≡ true → relation_file root other.rel other.fork segment ≡ relation_file root rel fork segment
one-file root rel fork other segment e =
    let two = and-parts (same_files rel other.rel) (same_fork fork other.fork) e in
    let rels = and-parts (same_folder rel other.rel) (rel.relation == other.rel.relation) two.0 in
    ap (λ parts. below (below root parts) (name_of other.rel.relation other.fork segment ∷ [])) (sym (parts-same rel other.rel rels.0))
    ∙ ap (λ n. below (relation_folder root rel) (name_of n other.fork segment ∷ [])) (sym (eq-is rel.relation other.rel.relation rels.1))
    ∙ ap (λ f. below (relation_folder root rel) (name_of rel.relation f segment ∷ [])) (sym (fork-is fork other.fork two.1))

last_same : (xs ys : List (List ℕ)) (a b : List ℕ) → xs ++ a ∷ [] ≡ ys ++ b ∷ [] → (xs ≡ ys) × (a ≡ b)
last_same [] [] a b e = (refl, cc)
last_same [] (y ∷ ys) a b e = absurd (omega (arith, ap length e, length-append ys (b ∷ [])))
last_same (x ∷ xs) [] a b e = absurd (omega (arith, ap length e, length-append xs (a ∷ [])))
last_same (x ∷ xs) (y ∷ ys) a b e =
    let heads : x ≡ y = cc in
    let tails : xs ++ a ∷ [] ≡ ys ++ b ∷ [] = cc in
    let two = last_same xs ys a b tails in
    (ap₂ (λ z zs. z ∷ zs) heads two.0, two.1)

pub named-same : (folder other : PathValue) (name text : List ℕ) → below folder (name ∷ []) ≡ below other (text ∷ []) → (folder.parts ≡ other.parts) × (name ≡ text)
named-same folder other name text e = last_same folder.parts other.parts name text (ap (λ (p : PathValue). p.parts) e)

pub record IsFile (number : ℕ) (a : Fork) (at : ℕ) (file : FileName) : Type 0 where
  pub relation : number ≡ file.relation
  pub fork : a ≡ file.fork
  pub segment : at ≡ file.segment

pub file-named : (relation : ℕ) (fork : Fork) (segment : ℕ) → relation < 2 ^ 32 → segment < 2 ^ 32 → file_named (name_of relation fork segment) ≡ Some (record { relation = relation; fork = fork; segment = segment })
file-named relation fork segment small few = named-written (record { relation = relation; fork = fork; segment = segment }) (record { relation = small; segment = few })

pub name-is : (rel : RelName) (fork : Fork) (segment : ℕ) (file : FileName) → rel.relation < 2 ^ 32 → segment < 2 ^ 32 → file_named (name_of rel.relation fork segment) ≡ Some file → IsFile rel.relation fork segment file
name-is rel fork segment file small few e =
    let both : Some (record { relation = rel.relation; fork = fork; segment = segment }) ≡ Some file = sym (file-named rel.relation fork segment small few) ∙ e in
    let same : record { relation = rel.relation; fork = fork; segment = segment } ≡ file = cc in
    record { relation = ap (λ (x : FileName). x.relation) same; fork = ap (λ (x : FileName). x.fork) same; segment = ap (λ (x : FileName). x.segment) same }

-- two paths that are one are of one fork, and of one segment
pub file-same : (root : PathValue) (rel : RelName) (fork : Fork) (other : BlockName) (segment to : ℕ) → IsRel rel → IsRel other.rel → segment < 2 ^ 32 → to < 2 ^ 32 → relation_file root rel fork segment ≡ relation_file root other.rel other.fork to → (in_fork rel fork other ≡ true) × (segment ≡ to)
file-same root rel fork other segment to small few l m e =
    let two = named-same (relation_folder root rel) (relation_folder root other.rel) (name_of rel.relation fork segment) (name_of other.rel.relation other.fork to) e in
    let folders = folder-same rel other.rel small few (append_cancel_left root.parts (folder_parts rel) (folder_parts other.rel) two.0) in
    let file = name-is rel fork segment (record { relation = other.rel.relation; fork = other.fork; segment = to }) small.relation l (ap file_named two.1 ∙ file-named other.rel.relation other.fork to few.relation m) in
    (and-both _ _ (and-both _ _ folders (eq-yes rel.relation other.rel.relation file.relation)) (fork-own fork other.fork file.fork), file.segment)
