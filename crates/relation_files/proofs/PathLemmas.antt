-- Names of files and folders are parts of paths.
use Rattle.std.proofs.Common.{◌≡◌, ℕ, ◌+◌, ◌<◌, ◌≤◌, ◌^◌, ◌==◌, Bool, true, false, not, cond, ◌&&◌, List, [], ◌∷◌, ◌++◌, length, bytes_eq, codes, decimal, Ok, refl, ap, ap₂, sym, ◌∙◌, subst, append_assoc, append-nil, lit≤, arith}
use Rattle.std.proofs.lemmas.Bool.Decides.{nat_tests}
use Rattle.std.proofs.lemmas.List.{length-append}
use Rattle.std.specs.Char.{is_ascii_digit}
use Rattle.std.specs.List.{list_all}
use Rattle.wal_base.proofs.DecimalLemmas.{digits_read, decimal_written}
use Rattle.block_refs.specs.declared.names.Fork.{Fork}
use Rattle.block_refs.specs.declared.names.Fork.TheVariants.{Main, FreeSpace, Visibility, Init}
use Rattle.block_refs.specs.declared.names.RelName.{RelName}
use Rattle.cluster_tree.specs.PathValue.{PathValue, Holds, below, no_slash, is_kept, is_dot_dot, is_part, kept_parts}
use Rattle.cluster_tree.specs.Paths.{checked}
use Rattle.cluster_tree.proofs.PartLemmas.{part_of, part_kept, part_admitted}
use Rattle.cluster_tree.proofs.OrderLemmas.{same_path}
use Rattle.cluster_tree.proofs.RootLemmas.{holds-below}
use Rattle.relation_files.specs.Names.{fork_suffix, segment_suffix, name_of}
use Rattle.relation_files.specs.Paths.{database_parts, folder_parts, global_parts, relation_folder, relation_file}
use Rattle.relation_files.proofs.CutLemmas.{without, and_parts}
use Rattle.relation_files.proofs.NameLemmas.{number_free, both_free}

-- a name that begins with a digit, and has no slash

not_dot : (c : ℕ) → is_ascii_digit c ≡ true → (c == 46) ≡ false
not_dot c d = grind (arith, nat_tests)

digit_part : (text rest : List ℕ) → (0 < length text) × (list_all is_ascii_digit text ≡ true) → without 47 (text ++ rest) ≡ true → is_part (text ++ rest) ≡ true
unfolding without
digit_part [] rest h free = absurd (omega (arith, h.0))
digit_part (c ∷ cs) rest h free =
    let first = not_dot c (and_parts (is_ascii_digit c) (list_all is_ascii_digit cs) h.1).0 in
    part_of (c ∷ (cs ++ rest)) (record {
      kept = ap (λ t. not (t && bytes_eq (cs ++ rest) [])) first;
      other = ap (λ t. t && bytes_eq (cs ++ rest) (46 ∷ [])) first;
      free = free;
    })

digits : (n : ℕ) → n < 2 ^ 32 → (0 < length (decimal n)) × (list_all is_ascii_digit (decimal n) ≡ true)
digits n small = digits_read (2 ^ 32) n (decimal n) (decimal_written (2 ^ 32) n (decimal n) (lit≤ tt) small refl)

suffix_free : (fork : Fork) → without 47 (fork_suffix fork) ≡ true
unfolding without
suffix_free Main = refl
suffix_free FreeSpace = refl
suffix_free Visibility = refl
suffix_free Init = refl

segment_free : (segment : ℕ) → segment < 2 ^ 32 → without 47 (segment_suffix segment) ≡ true
unfolding without
segment_free segment small = elim (segment == 0) as (λ t. without 47 (cond t [] (46 ∷ decimal segment)) ≡ true) [ true ↦ refl | false ↦ number_free 47 segment refl small ]

number_part : (n : ℕ) → n < 2 ^ 32 → is_part (decimal n) ≡ true
number_part n small =
    let bare : decimal n ++ [] ≡ decimal n = append-nil (decimal n) in
    ap is_part (sym bare) ∙ digit_part (decimal n) [] (digits n small) (ap (without 47) bare ∙ number_free 47 n refl small)

pub name_part : (relation : ℕ) (fork : Fork) (segment : ℕ) → relation < 2 ^ 32 → segment < 2 ^ 32 → is_part (name_of relation fork segment) ≡ true
name_part relation fork segment small few =
    digit_part (decimal relation) (fork_suffix fork ++ segment_suffix segment) (digits relation small)
    (both_free 47 (decimal relation) _ (number_free 47 relation refl small) (both_free 47 (fork_suffix fork) (segment_suffix segment) (suffix_free fork) (segment_free segment few)))

-- folders

pub base-room : (root base : PathValue) → length root.parts ≤ 61 → base ≡ below root (codes "base" ∷ []) → length base.parts ≤ 62
base-room root base room is = omega (arith, ap (λ (p : PathValue). length p.parts) is, length-append root.parts (codes "base" ∷ []))

pub number-admitted : (have n : ℕ) (text : List ℕ) → have ≤ 63 → n < 2 ^ 32 → text ≡ decimal n → checked have text ≡ Ok tt
number-admitted have n text room small is = part_admitted have text room (ap is_part is ∙ number_part n small)

pub database-is : (root base folder : PathValue) (n : ℕ) (text : List ℕ) → n < 2 ^ 32 → base ≡ below root (codes "base" ∷ []) → text ≡ decimal n → folder ≡ below base (kept_parts text) → folder ≡ below root (database_parts n)
database-is root base folder n text small first is made =
    made ∙ ap₂ below first (ap kept_parts is ∙ part_kept (decimal n) (number_part n small))
    ∙ same_path _ _ refl (append_assoc root.parts (codes "base" ∷ []) (decimal n ∷ []))

few_parts : (rel : RelName) → (0 < length (folder_parts rel)) × (length (folder_parts rel) ≤ 2)
few_parts rel = elim (rel.space == 1664) as (λ t. (0 < length (cond t global_parts (database_parts rel.database))) × (length (cond t global_parts (database_parts rel.database)) ≤ 2)) [ true ↦ (omega arith, omega arith) | false ↦ (omega arith, omega arith) ]

pub length-relation_folder : (root : PathValue) (rel : RelName) → (length root.parts < length (relation_folder root rel).parts) × (length (relation_folder root rel).parts ≤ length root.parts + 2)
length-relation_folder root rel = let few = few_parts rel in let size = length-append root.parts (folder_parts rel) in (omega (arith, few.0, size), omega (arith, few.1, size))

-- files

pub file-admitted : (root folder : PathValue) (rel : RelName) (fork : Fork) (segment : ℕ) (text : List ℕ) → length root.parts ≤ 61 → rel.relation < 2 ^ 32 → segment < 2 ^ 32 → folder ≡ relation_folder root rel → text ≡ name_of rel.relation fork segment → checked (length folder.parts) text ≡ Ok tt
file-admitted root folder rel fork segment text room small few is named =
    part_admitted (length folder.parts) text (omega (arith, room, (length-relation_folder root rel).1, ap (λ (p : PathValue). length p.parts) is)) (ap is_part named ∙ name_part rel.relation fork segment small few)

pub file-is : (root folder path : PathValue) (rel : RelName) (fork : Fork) (segment : ℕ) (text : List ℕ) → rel.relation < 2 ^ 32 → segment < 2 ^ 32 → folder ≡ relation_folder root rel → text ≡ name_of rel.relation fork segment → path ≡ below folder (kept_parts text) → path ≡ relation_file root rel fork segment
file-is root folder path rel fork segment text small few is named made =
    made ∙ ap₂ below is (ap kept_parts named ∙ part_kept (name_of rel.relation fork segment) (name_part rel.relation fork segment small few))

file_held : (root : PathValue) (rel : RelName) (fork : Fork) (segment : ℕ) → Holds root (relation_file root rel fork segment)
file_held root rel fork segment =
    let name : List (List ℕ) = name_of rel.relation fork segment ∷ [] in
    let whole : relation_file root rel fork segment ≡ below root (folder_parts rel ++ name) = same_path _ _ refl (append_assoc root.parts (folder_parts rel) name) in
    subst (Holds root) (sym whole) (holds-below root (folder_parts rel ++ name))

file_deeper : (root : PathValue) (rel : RelName) (fork : Fork) (segment : ℕ) → length root.parts < length (relation_file root rel fork segment).parts
file_deeper root rel fork segment = omega (arith, length-append (relation_folder root rel).parts (name_of rel.relation fork segment ∷ []), (length-relation_folder root rel).0)

pub file-is_held : (root path : PathValue) (rel : RelName) (fork : Fork) (segment : ℕ) → path ≡ relation_file root rel fork segment → Holds root path
file-is_held root path rel fork segment is = subst (Holds root) (sym is) (file_held root rel fork segment)

pub file-is_deeper : (root path : PathValue) (rel : RelName) (fork : Fork) (segment : ℕ) → path ≡ relation_file root rel fork segment → length root.parts < length path.parts
file-is_deeper root path rel fork segment is = subst (λ (p : PathValue). length root.parts < length p.parts) (sym is) (file_deeper root rel fork segment)
