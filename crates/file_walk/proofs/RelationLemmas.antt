-- Files of main forks, by the parts of their paths.
use Rattle.std.proofs.Common.{◌≡◌, ◌==◌, ℕ, ◌<◌, ◌≤◌, ◌^◌, Bool, true, false, cond, inl, inr, List, [], ◌∷◌, ◌++◌, bytes_eq, codes, decimal, slice_get, length, Option, Some, None, refl, ap, ap₂, sym, subst, ◌∙◌, arith, lit≤}
use Rattle.std.proofs.lemmas.Bool.Decides.{nat_tests}
use Rattle.std.specs.Cmp.Lexicographic.{bytes_decides}
use Rattle.wal_base.specs.Decimal.{decimal_number}
use Rattle.wal_base.proofs.DecimalLemmas.{decimal_read, decimal_written}
use Rattle.cluster_tree.specs.PathValue.{PathValue, path_of}
use Rattle.cluster_tree.proofs.OrderLemmas.{same_path}
use Rattle.block_refs.specs.declared.names.Fork.{Fork}
use Rattle.block_refs.specs.declared.names.Fork.TheVariants.{Main, FreeSpace, Visibility, Init}
use Rattle.block_refs.specs.declared.names.RelName.{RelName}
use Rattle.relation_files.specs.declared.file_name.FileName.{FileName}
use Rattle.relation_files.specs.Names.{file_name, name_of}
use Rattle.relation_files.specs.Reading.{file_named}
use Rattle.relation_files.specs.Paths.{relation_file, folder_parts, global_parts, database_parts}
use Rattle.relation_files.proofs.NameLemmas.{named-written, written-named}
use Rattle.file_walk.specs.Actions.{here}
use Rattle.file_walk.specs.Relations.{nonzero, database_of, main_by, main_file, main_of, shared, in_database, placed, relation_in, relation_of}
use Rattle.file_walk.specs.Laws.{IsNumber, IsPlaced, IsMainFile}

-- ---- by the parts, one after another

pub no_first : (parts : List (List ℕ)) → None ≡ slice_get parts 0 → None ≡ relation_in parts
no_first [] h = refl
no_first (a ∷ parts) h = absurd cc

pub no_second : (parts : List (List ℕ)) → None ≡ slice_get parts 1 → None ≡ relation_in parts
no_second [] h = refl
no_second (a ∷ []) h = refl
no_second (a ∷ b ∷ parts) h = absurd cc

pub two_parts : (parts : List (List ℕ)) (first second : List ℕ) → Some first ≡ slice_get parts 0 → Some second ≡ slice_get parts 1 → None ≡ slice_get parts 2 → shared first second ≡ relation_in parts
two_parts [] first second h k l = absurd cc
two_parts (a ∷ []) first second h k l = absurd cc
two_parts (a ∷ b ∷ []) first second h k l = ap₂ shared (let e : first ≡ a = cc in e) (let e : second ≡ b = cc in e)
two_parts (a ∷ b ∷ d ∷ parts) first second h k l = absurd cc

pub more_parts : (parts : List (List ℕ)) → 3 < length parts → None ≡ relation_in parts
more_parts [] h = refl
more_parts (a ∷ []) h = refl
more_parts (a ∷ b ∷ []) h = absurd (omega arith)
more_parts (a ∷ b ∷ d ∷ []) h = absurd (omega arith)
more_parts (a ∷ b ∷ d ∷ e ∷ parts) h = refl

pub three_parts : (parts : List (List ℕ)) (first second third : List ℕ) → Some first ≡ slice_get parts 0 → Some second ≡ slice_get parts 1 → Some third ≡ slice_get parts 2 → length parts ≤ 3
    → placed first second third ≡ relation_in parts
three_parts [] first second third h k l few = absurd cc
three_parts (a ∷ []) first second third h k l few = absurd cc
three_parts (a ∷ b ∷ []) first second third h k l few = absurd cc
three_parts (a ∷ b ∷ d ∷ []) first second third h k l few =
    ap₂ (λ x y. placed x y third) (let e : first ≡ a = cc in e) (let e : second ≡ b = cc in e) ∙ ap (placed a b) (let e : third ≡ d = cc in e)
three_parts (a ∷ b ∷ d ∷ e ∷ parts) first second third h k l few = absurd (omega arith)

pub by_mark : (path : PathValue) (mark : Bool) (found : Option (RelName × ℕ)) → mark ≡ path.absolute → mark ≡ false → found ≡ relation_in path.parts → found ≡ relation_of path
unfolding relation_of
by_mark path mark found is off h = h ∙ ap (λ b. cond b None (relation_in path.parts)) (sym off ∙ is)

pub none_absolute : (path : PathValue) (mark : Bool) → mark ≡ path.absolute → mark ≡ true → None ≡ relation_of path
unfolding relation_of
none_absolute path mark is on = ap (λ b. cond b None (relation_in path.parts)) (sym on ∙ is)

-- ---- what is read lies there

record IsMain (space database : ℕ) (name : List ℕ) (rel : RelName) (segment : ℕ) : Type 0 where
  pub in_space : rel.space ≡ space
  pub in_base : rel.database ≡ database
  pub numbered : IsNumber rel.relation
  pub small : segment < 2 ^ 32
  pub named : name ≡ name_of rel.relation Main segment

from_file : (space database : ℕ) (name : List ℕ) (file : FileName) (rel : RelName) (segment : ℕ) → file_named name ≡ Some file
    → (fork : Fork) → file.fork ≡ fork → (zero : Bool) → (file.relation == 0) ≡ zero
    → elim fork as (λ _. Option (RelName × ℕ)) [ Main ↦ cond zero None (Some (record { space = space; database = database; relation = file.relation }, file.segment)) | FreeSpace ↦ None | Visibility ↦ None | Init ↦ None ] ≡ Some (rel, segment)
    → IsMain space database name rel segment
from_file space database name file rel segment is Main f true z h = absurd cc
from_file space database name file rel segment is Main f false z h =
    let pair : (RelName × ℕ) = (record { space = space; database = database; relation = file.relation }, file.segment) in
    let same : pair ≡ (rel, segment) = cc in
    let written = written-named name file is in
    let number : file.relation ≡ rel.relation = ap (λ p. p.0.relation) same in
    let place : file.segment ≡ segment = ap (λ p. p.1) same in
    let some : 0 < file.relation = grind (arith, nat_tests) in
    record {
      in_space = sym (ap (λ p. p.0.space) same);
      in_base = sym (ap (λ p. p.0.database) same);
      numbered = subst IsNumber number (some, written.0.relation);
      small = subst (λ n. n < 2 ^ 32) place written.0.segment;
      named = written.1 ∙ (λ i. file_name (record { relation = number i; fork = f i; segment = place i }));
    }
from_file space database name file rel segment is FreeSpace f zero z h = absurd cc
from_file space database name file rel segment is Visibility f zero z h = absurd cc
from_file space database name file rel segment is Init f zero z h = absurd cc

by_fork : (space database : ℕ) (file : FileName) (fork : Fork) → main_by space database file.relation fork file.segment
    ≡ elim fork as (λ _. Option (RelName × ℕ)) [ Main ↦ cond (file.relation == 0) None (Some (record { space = space; database = database; relation = file.relation }, file.segment)) | FreeSpace ↦ None | Visibility ↦ None | Init ↦ None ]
by_fork space database file Main = refl
by_fork space database file FreeSpace = refl
by_fork space database file Visibility = refl
by_fork space database file Init = refl

main_read : (space database : ℕ) (name : List ℕ) (rel : RelName) (segment : ℕ) → main_of space database name ≡ Some (rel, segment) → IsMain space database name rel segment
main_read space database name rel segment h = by (file_named name) refl h
  where
    by : (o : Option FileName) → file_named name ≡ o → main_file space database o ≡ Some (rel, segment) → IsMain space database name rel segment
    by None e h = absurd cc
    by (Some file) e h = from_file space database name file rel segment e file.fork refl (file.relation == 0) refl (sym (by_fork space database file file.fork) ∙ h)

nonzero_read : (o : Option ℕ) (n : ℕ) → nonzero o ≡ Some n → (o ≡ Some n) × (0 < n)
nonzero_read None n h = absurd cc
nonzero_read (Some m) n h = by (m == 0) refl h
  where
    by : (b : Bool) → (m == 0) ≡ b → cond b None (Some m) ≡ Some n → (Some m ≡ Some n) × (0 < n)
    by true e h = absurd cc
    by false e h = let same : m ≡ n = cc in (h, subst (λ k. 0 < k) same (grind (arith, nat_tests)))

in_folder : (rel : RelName) (space : ℕ) → rel.space ≡ space → folder_parts rel ≡ cond (space == 1664) global_parts (database_parts rel.database)
in_folder rel space e = ap (λ n. cond (n == 1664) global_parts (database_parts rel.database)) e

shared_read : (first second : List ℕ) (rel : RelName) (segment : ℕ) → shared first second ≡ Some (rel, segment) → IsMainFile (path_of false (first ∷ second ∷ [])) rel segment
shared_read first second rel segment h = by (bytes_eq first (codes "global")) refl h
  where
    by : (b : Bool) → bytes_eq first (codes "global") ≡ b → cond b (main_of 1664 0 second) None ≡ Some (rel, segment) → IsMainFile (path_of false (first ∷ second ∷ [])) rel segment
    by false e h = absurd cc
    by true e h =
        let m = main_read 1664 0 second rel segment h in
        record {
          placed = inl (m.in_space, m.in_base);
          numbered = m.numbered;
          small = m.small;
          lies = same_path _ _ refl
              (ap₂ (λ x (y : List ℕ). x ∷ y ∷ []) ((bytes_decides first (codes "global")).0 e) m.named
              ∙ ap (λ l. l ++ name_of rel.relation Main segment ∷ []) (sym (in_folder rel 1664 m.in_space)));
        }

placed_read : (first second third : List ℕ) (rel : RelName) (segment : ℕ) → placed first second third ≡ Some (rel, segment) → IsMainFile (path_of false (first ∷ second ∷ third ∷ [])) rel segment
placed_read first second third rel segment h = by (bytes_eq first (codes "base")) refl (database_of second) refl h
  where
    by : (b : Bool) → bytes_eq first (codes "base") ≡ b → (o : Option ℕ) → database_of second ≡ o → cond b (in_database o third) None ≡ Some (rel, segment) → IsMainFile (path_of false (first ∷ second ∷ third ∷ [])) rel segment
    by false e o d h = absurd cc
    by true e None d h = absurd cc
    by true e (Some database) d h =
        let m = main_read 1663 database third rel segment h in
        let n = nonzero_read (decimal_number (2 ^ 32) second) database d in
        let folder = decimal_read (2 ^ 32) database second (lit≤ tt) n.0 in
        record {
          placed = inr (m.in_space, subst IsNumber (sym m.in_base) (n.1, folder.0));
          numbered = m.numbered;
          small = m.small;
          lies = same_path _ _ refl
              (ap₂ (λ x (y : List ℕ). x ∷ y ∷ third ∷ []) ((bytes_decides first (codes "base")).0 e) (folder.1 ∙ ap decimal (sym m.in_base))
              ∙ ap (λ y. codes "base" ∷ decimal rel.database ∷ y ∷ []) m.named
              ∙ ap (λ l. l ++ name_of rel.relation Main segment ∷ []) (sym (in_folder rel 1663 m.in_space)));
        }

pub relation_read : (path : PathValue) (rel : RelName) (segment : ℕ) → relation_of path ≡ Some (rel, segment) → IsMainFile path rel segment
unfolding relation_of
relation_read path rel segment h = by path.absolute path.parts h
  where
    by : (absolute : Bool) (parts : List (List ℕ)) → cond absolute None (relation_in parts) ≡ Some (rel, segment) → IsMainFile (path_of absolute parts) rel segment
    by true parts h = absurd cc
    by false [] h = absurd cc
    by false (first ∷ []) h = absurd cc
    by false (first ∷ second ∷ []) h = shared_read first second rel segment h
    by false (first ∷ second ∷ third ∷ []) h = placed_read first second third rel segment h
    by false (first ∷ second ∷ third ∷ more ∷ parts) h = absurd cc

-- ---- and what lies there is read

not_zero : (n : ℕ) → 0 < n → (n == 0) ≡ false
not_zero n h = grind (arith, nat_tests)

main_written : (space database : ℕ) (rel : RelName) (segment : ℕ) → rel.space ≡ space → rel.database ≡ database → IsNumber rel.relation → segment < 2 ^ 32
    → main_of space database (name_of rel.relation Main segment) ≡ Some (rel, segment)
main_written space database rel segment s d n few =
    ap (main_file space database) (named-written (record { relation = rel.relation; fork = Main; segment = segment }) (record { relation = n.1; segment = few }))
    ∙ ap (λ b. cond b None (Some (record { space = space; database = database; relation = rel.relation }, segment))) (not_zero rel.relation n.0)
    ∙ (λ i. Some (record { space = sym s i; database = sym d i; relation = rel.relation }, segment))

at_place : (rel : RelName) (segment : ℕ) → IsPlaced rel → IsNumber rel.relation → segment < 2 ^ 32 → relation_of (relation_file here rel Main segment) ≡ Some (rel, segment)
unfolding relation_of
at_place rel segment (inl (s, d)) n few =
    ap (λ l. relation_in (l ++ name_of rel.relation Main segment ∷ [])) (in_folder rel 1664 s)
    ∙ main_written 1664 0 rel segment s d n few
at_place rel segment (inr (s, d)) n few =
    ap (λ l. relation_in (l ++ name_of rel.relation Main segment ∷ [])) (in_folder rel 1663 s)
    ∙ ap (λ o. in_database (nonzero o) (name_of rel.relation Main segment)) (decimal_written (2 ^ 32) rel.database (decimal rel.database) (lit≤ tt) d.1 refl)
    ∙ ap (λ b. in_database (cond b None (Some rel.database)) (name_of rel.relation Main segment)) (not_zero rel.database d.0)
    ∙ main_written 1663 rel.database rel segment s refl n few

pub relation_written : (path : PathValue) (rel : RelName) (segment : ℕ) → IsMainFile path rel segment → relation_of path ≡ Some (rel, segment)
relation_written path rel segment h = ap relation_of h.lies ∙ at_place rel segment h.placed h.numbered h.small
