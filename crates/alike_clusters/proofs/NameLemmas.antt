-- Names of a cluster's files, and that none but a version's tells one.
use Rattle.std.proofs.Common.{◌≡◌, ℕ, zero, suc, ◌+◌, ◌-◌, ◌/◌, ◌%◌, ◌^◌, ◌<◌, ◌==◌, Bool, true, false, not, ◌&&◌, cond, nat_lt, nat_eq, List, [], ◌∷◌, ◌++◌, codes, decimal, length, drop, replicate, Option, None, Some, refl, sym, ap, ap₂, ◌∙◌, append_assoc, true≢false, arith}
use Rattle.std.proofs.lemmas.Bool.Decides.{nat_tests}
use Rattle.std.proofs.lemmas.List.Folds.{list_all-append}
use Rattle.std.proofs.lemmas.Nat.{mod_below}
use Rattle.std.specs.Prelude.{if◌then◌else◌}
use Rattle.std.specs.Fmt.{digits, digits_onto, digit_glyph}
use Rattle.std.specs.List.{ends_with}
use lib.Pointwise.{pointwise}
use Rattle.block_refs.specs.declared.names.Fork.{Fork}
use Rattle.block_refs.specs.declared.names.Fork.TheVariants.{Main, FreeSpace, Visibility, Init}
use Rattle.block_refs.specs.declared.names.RelName.{RelName}
use Rattle.cluster_tree.specs.Folders.{last_part}
use Rattle.cluster_tree.specs.PathValue.{PathValue, below, path_of}
use Rattle.file_walk.specs.Actions.{here, is_version}
use Rattle.file_walk.specs.Laws.{IsMainFile}
use Rattle.file_walk.specs.Relations.{database_of, in_database, main_file, relation_of}
use Rattle.file_walk.proofs.RelationLemmas.{relation_read}
use Rattle.relation_files.specs.Names.{fork_suffix, name_of, segment_suffix}
use Rattle.relation_files.specs.Paths.{database_parts, folder_parts, global_parts, relation_file}
use Rattle.relation_files.proofs.CutLemmas.{without, and_parts}
use Rattle.relation_files.proofs.NameLemmas.{both_free, named-written}
use Rattle.relation_files.specs.Reading.{file_named}
use Rattle.relation_files.specs.declared.file_name.FileName.{FileName}
use Rattle.storage_databases.specs.RelationMap.{map_parts}
use Rattle.wal_base.specs.Decimal.{decimal_number}
use Rattle.wal_base.specs.Hex.{hex_text, upper_hex}

-- ---- bytes that no number has

free_cons : (b x : ℕ) (xs : List ℕ) → not (x == b) ≡ true → without b xs ≡ true → without b (x ∷ xs) ≡ true
unfolding without
free_cons b x xs h k = ap₂ (λ y z. y && z) h k

cond_free : (b : ℕ) (t : Bool) (xs ys : List ℕ) → without b xs ≡ true → without b ys ≡ true → without b (cond t xs ys) ≡ true
cond_free b true xs ys h k = h
cond_free b false xs ys h k = k

onto_free : (b base : ℕ) (upper : Bool) → 0 < base → ((d : ℕ) → d < base → not (digit_glyph upper d == b) ≡ true) → (k n : ℕ) (acc : List ℕ) → without b acc ≡ true → without b (digits_onto k base upper n acc) ≡ true
onto_free b base upper some free zero n acc h = h
onto_free b base upper some free (suc k) n acc h =
    let first : without b (digit_glyph upper (n % base) ∷ acc) ≡ true = free_cons b (digit_glyph upper (n % base)) acc (free (n % base) (mod_below n base some)) h in
    cond_free b (n / base == 0) (digit_glyph upper (n % base) ∷ acc) (digits_onto k base upper (n / base) (digit_glyph upper (n % base) ∷ acc)) first
    (onto_free b base upper some free k (n / base) (digit_glyph upper (n % base) ∷ acc) first)

none_free : (b : ℕ) → without b [] ≡ true
unfolding without
none_free b = refl

-- an ASCII digit is from 48 to 57, and an upper letter of a hexadecimal number from 65 to 70
low : (t : Bool) (d b : ℕ) → nat_lt d 10 ≡ t → d < 16 → 70 < b → not ((if t then 48 + d else 55 + d) == b) ≡ true
low true d b is few h = grind (arith, nat_tests)
low false d b is few h = grind (arith, nat_tests)

glyph_hex : (b d : ℕ) → 70 < b → d < 16 → not (digit_glyph true d == b) ≡ true
glyph_hex b d h few = low (nat_lt d 10) d b refl few h

ten : (d : ℕ) → d < 10 → nat_lt d 10 ≡ true
ten d few = grind (arith, nat_tests)

small : (b d : ℕ) → 57 < b → d < 10 → not (48 + d == b) ≡ true
small b d h few = grind (arith, nat_tests)

glyph_decimal : (b d : ℕ) → 57 < b → d < 10 → not (digit_glyph false d == b) ≡ true
glyph_decimal b d h few = ap (λ t. not ((if t then 48 + d else (if false then 55 + d else 87 + d)) == b)) (ten d few) ∙ small b d h few

pub decimal-free : (b n : ℕ) → 57 < b → without b (decimal n) ≡ true
unfolding digits
decimal-free b n h = onto_free b 10 false (omega arith) (λ d few. glyph_decimal b d h few) 64 n [] (none_free b)

hex_free : (b n : ℕ) → 70 < b → without b (hex_text n) ≡ true
unfolding digits
hex_free b n h = onto_free b 16 true (omega arith) (λ d few. glyph_hex b d h few) 64 n [] (none_free b)

zeros_free : (b k : ℕ) → 57 < b → without b (replicate k 48) ≡ true
zeros_free b zero h = none_free b
zeros_free b (suc k) h = free_cons b 48 (replicate k 48) (grind (arith, nat_tests)) (zeros_free b k h)

pub page_free : (b n : ℕ) → 70 < b → without b (upper_hex 4 n) ≡ true
page_free b n h = both_free b (replicate (4 - length (hex_text n)) 48) (hex_text n) (zeros_free b (4 - length (hex_text n)) (omega arith)) (hex_free b n h)

segment_free : (b n : ℕ) → 57 < b → without b (segment_suffix n) ≡ true
segment_free b n h = cond_free b (n == 0) [] (46 ∷ decimal n) (none_free b) (free_cons b 46 (decimal n) (grind (arith, nat_tests)) (decimal-free b n h))

fork_free : (fork : Fork) → without 80 (fork_suffix fork) ≡ true
unfolding without
fork_free Main = refl
fork_free FreeSpace = refl
fork_free Visibility = refl
fork_free Init = refl

file_free : (relation : ℕ) (fork : Fork) (segment : ℕ) → without 80 (name_of relation fork segment) ≡ true
file_free relation fork segment =
    both_free 80 (decimal relation) (fork_suffix fork ++ segment_suffix segment) (decimal-free 80 relation (omega arith))
    (both_free 80 (fork_suffix fork) (segment_suffix segment) (fork_free fork) (segment_free 80 segment (omega arith)))

-- ---- a name without a P doesn't end in PG_VERSION

free_drop : (b n : ℕ) (xs : List ℕ) → without b xs ≡ true → without b (drop n xs) ≡ true
unfolding without
free_drop b zero xs h = h
free_drop b (suc n) [] h = h
free_drop b (suc n) (x ∷ xs) h = free_drop b n xs (and_parts (not (x == b)) (without b xs) h).1

other_byte : (y : ℕ) → not (y == 80) ≡ true → nat_eq 80 y ≡ false
other_byte y h = grind (arith, nat_tests, h)

no_end : (ys : List ℕ) → without 80 ys ≡ true → pointwise nat_eq (codes "PG_VERSION") ys ≡ false
unfolding without
no_end [] h = refl
no_end (y ∷ ys) h = ap (λ b. b && pointwise nat_eq (codes "G_VERSION") ys) (other_byte y (and_parts (not (y == 80)) (without 80 ys) h).0)

no_version : (name : List ℕ) → without 80 name ≡ true → ends_with nat_eq name (codes "PG_VERSION") ≡ false
no_version name h = no_end (drop (length name - 10) name) (free_drop 80 (length name - 10) name h)

-- ---- files of relations

-- where a file of a relation lies, from the root on
abbrev pub file_parts : RelName → Fork → ℕ → List (List ℕ)
file_parts rel fork segment = folder_parts rel ++ name_of rel.relation fork segment ∷ []

pub file-lies : (root : PathValue) (rel : RelName) (fork : Fork) (segment : ℕ) → relation_file root rel fork segment ≡ below root (file_parts rel fork segment)
file-lies root rel fork segment = ap (path_of root.absolute) (append_assoc root.parts (folder_parts rel) (name_of rel.relation fork segment ∷ []))

last_by : (t : Bool) (database : ℕ) (name : List ℕ) → last_part (path_of false ((if t then global_parts else database_parts database) ++ name ∷ [])) ≡ name
last_by true database name = refl
last_by false database name = refl

last_of : (rel : RelName) (name : List ℕ) → last_part (path_of false (folder_parts rel ++ name ∷ [])) ≡ name
last_of rel name = last_by (rel.space == 1664) rel.database name

pub file-no_version : (rel : RelName) (fork : Fork) (segment : ℕ) → is_version (path_of false (file_parts rel fork segment)) ≡ false
file-no_version rel fork segment =
    ap (λ n. ends_with nat_eq n (codes "PG_VERSION")) (last_of rel (name_of rel.relation fork segment))
    ∙ no_version (name_of rel.relation fork segment) (file_free rel.relation fork segment)

-- a name of the map has an underscore, and one of a main fork none
map_marked : (relation segment : ℕ) → without 95 (name_of relation Visibility segment) ≡ true → ⊥
unfolding without
map_marked relation segment h =
    true≢false (sym (and_parts (without 95 (decimal relation)) (without 95 (codes "_vm" ++ segment_suffix segment))
    (sym (list_all-append (λ x. not (x == 95)) (decimal relation) (codes "_vm" ++ segment_suffix segment)) ∙ h)).1)

pub main-unmarked : (relation segment : ℕ) → without 95 (name_of relation Main segment) ≡ true
main-unmarked relation segment = both_free 95 (decimal relation) (segment_suffix segment) (decimal-free 95 relation (omega arith)) (segment_free 95 segment (omega arith))

not_main : (rel : RelName) (segment : ℕ) (found : Option (RelName × ℕ)) → relation_of (path_of false (file_parts rel Visibility segment)) ≡ found → found ≡ None
not_main rel segment None is = refl
not_main rel segment (Some (of, at)) is =
    let main : IsMainFile (path_of false (file_parts rel Visibility segment)) of at = relation_read (path_of false (file_parts rel Visibility segment)) of at is in
    let names : name_of rel.relation Visibility segment ≡ name_of of.relation Main at =
    sym (last_of rel (name_of rel.relation Visibility segment)) ∙ ap last_part main.lies ∙ ap last_part (file-lies here of Main at) ∙ last_of of (name_of of.relation Main at) in
    absurd (map_marked rel.relation segment (ap (without 95) names ∙ main-unmarked of.relation at))

-- no file of the map is one of a main fork
pub map-not_main : (rel : RelName) (segment : ℕ) → relation_of (path_of false (file_parts rel Visibility segment)) ≡ None
map-not_main rel segment = not_main rel segment (relation_of (path_of false (file_parts rel Visibility segment))) refl

-- ---- files of status and of multixacts

pub free-no_version : (parts : List (List ℕ)) (name : List ℕ) → last_part (path_of false parts) ≡ name → without 80 name ≡ true → is_version (path_of false parts) ≡ false
free-no_version parts name is free = ap (λ n. ends_with nat_eq n (codes "PG_VERSION")) is ∙ no_version name free

pub page-no_version : (parts : List (List ℕ)) (n : ℕ) → last_part (path_of false parts) ≡ upper_hex 4 n → is_version (path_of false parts) ≡ false
page-no_version parts n is = free-no_version parts (upper_hex 4 n) is (page_free 80 n (omega arith))

pub status-not_main : (name : List ℕ) → relation_of (path_of false (codes "pg_xact" ∷ name ∷ [])) ≡ None
unfolding relation_of
status-not_main name = refl

pub multis-not_main : (folder name : List ℕ) → relation_of (path_of false (codes "pg_multixact" ∷ folder ∷ name ∷ [])) ≡ None
unfolding relation_of
multis-not_main folder name = refl

-- ---- relation maps

map_name : file_named (codes "pg_filenode.map") ≡ None
unfolding file_named decimal_number
map_name = refl

in_base : (database name : List ℕ) (o : Option ℕ) → database_of database ≡ o → file_named name ≡ None → relation_of (path_of false (codes "base" ∷ database ∷ name ∷ [])) ≡ None
unfolding relation_of
in_base database name None is none = ap (λ o. in_database o name) is
in_base database name (Some n) is none = ap (λ o. in_database o name) is ∙ ap (main_file 1663 n) none

in_global : (name : List ℕ) → file_named name ≡ None → relation_of (path_of false (codes "global" ∷ name ∷ [])) ≡ None
unfolding relation_of
in_global name none = ap (main_file 1664 0) none

-- a relation map is none of a main fork
pub map-not_relation : (database : ℕ) → relation_of (path_of false (map_parts database ++ codes "pg_filenode.map" ∷ [])) ≡ None
map-not_relation database = by (database == 0)
  where
    by : (t : Bool) → relation_of (path_of false ((if t then global_parts else database_parts database) ++ codes "pg_filenode.map" ∷ [])) ≡ None
    by true = in_global (codes "pg_filenode.map") map_name
    by false = in_base (decimal database) (codes "pg_filenode.map") (database_of (decimal database)) refl map_name

-- ---- which segment a file of a main fork is

abbrev some_file : FileName → Option FileName
some_file file = Some file

pub segment-is : (rel : RelName) (fork : Fork) (segment : ℕ) (at : RelName × ℕ) → rel.relation < 2 ^ 32 → segment < 2 ^ 32 → relation_of (path_of false (file_parts rel fork segment)) ≡ Some at → at.1 ≡ segment
segment-is rel fork segment (of, to) small few is =
    let main : IsMainFile (path_of false (file_parts rel fork segment)) of to = relation_read (path_of false (file_parts rel fork segment)) of to is in
    let names : name_of rel.relation fork segment ≡ name_of of.relation Main to =
    sym (last_of rel (name_of rel.relation fork segment)) ∙ ap last_part main.lies ∙ ap last_part (file-lies here of Main to) ∙ last_of of (name_of of.relation Main to) in
    let one : file_named (name_of rel.relation fork segment) ≡ Some (record { relation = rel.relation; fork = fork; segment = segment }) = named-written (record { relation = rel.relation; fork = fork; segment = segment }) (record { relation = small; segment = few }) in
    let two : file_named (name_of of.relation Main to) ≡ Some (record { relation = of.relation; fork = Main; segment = to }) = named-written (record { relation = of.relation; fork = Main; segment = to }) (record { relation = main.numbered.1; segment = main.small }) in
    same_segment (record { relation = of.relation; fork = Main; segment = to }) (record { relation = rel.relation; fork = fork; segment = segment }) (sym two ∙ ap file_named (sym names) ∙ one)
  where
    same_segment : (f g : FileName) → some_file f ≡ Some g → f.segment ≡ g.segment
    same_segment f g e = let same : f ≡ g = cc in ap (λ (x : FileName). x.segment) same
