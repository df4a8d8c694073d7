-- Names of folders and files are parts of paths.
use Rattle.std.proofs.Common.{◌≡◌, ℕ, zero, suc, ◌+◌, ◌-◌, ◌/◌, ◌<◌, ◌≤◌, ◌^◌, ◌==◌, true, false, not, cond, ◌&&◌, nat_lt, List, [], ◌∷◌, ◌++◌, length, replicate, codes, Ok, Err, refl, ap, ap₂, sym, ◌∙◌, subst, append_assoc, arith}
use Rattle.std.proofs.lemmas.Bool.{and_from, and_parts}
use Rattle.std.proofs.lemmas.Bool.Decides.{nat_tests}
use Rattle.std.proofs.lemmas.List.{length-append, length-replicate}
use Rattle.std.proofs.lemmas.List.Folds.{list_all-append}
use Rattle.std.specs.Char.{is_ascii_hexdigit}
use Rattle.std.specs.List.{list_all}
use Rattle.wal_base.specs.Hex.{hex_text, is_hex_word}
use Rattle.wal_base.proofs.HexText.{is_hex_word-hex_text}
use Rattle.cluster_tree.specs.PathValue.{PathValue, Holds, below, no_slash, is_kept, is_dot_dot, is_part, kept_parts}
use Rattle.cluster_tree.specs.Paths.{checked}
use Rattle.cluster_tree.specs.declared.path_fault.PathFault.TheVariants.{TooDeep}
use Rattle.cluster_tree.proofs.PartLemmas.{part_of, part_kept, part_admitted}
use Rattle.cluster_tree.proofs.OrderLemmas.{same_path}
use Rattle.cluster_tree.proofs.RootLemmas.{holds-below}
use Rattle.slru_replay.specs.Area.{folder_of, folder_parts, file_name, page_file}
use Rattle.slru_replay.specs.declared.area.Area.{Area}
use Rattle.slru_replay.specs.declared.area.Area.TheVariants.{Status, Offsets, Members}

-- the folders

not_deep : (have n : ℕ) → have ≤ 61 → n ≤ 2 → nat_lt 64 (have + n) ≡ false
not_deep have n h k = grind (arith, nat_tests)

pub xact_admitted : (have : ℕ) → have ≤ 61 → checked have (codes "pg_xact") ≡ Ok tt
xact_admitted have h = ap (λ b. cond b (Err TooDeep) (Ok tt)) (not_deep have 1 h (omega arith))

pub offsets_admitted : (have : ℕ) → have ≤ 61 → checked have (codes "pg_multixact/offsets") ≡ Ok tt
offsets_admitted have h = ap (λ b. cond b (Err TooDeep) (Ok tt)) (not_deep have 2 h (omega arith))

pub members_admitted : (have : ℕ) → have ≤ 61 → checked have (codes "pg_multixact/members") ≡ Ok tt
members_admitted have h = ap (λ b. cond b (Err TooDeep) (Ok tt)) (not_deep have 2 h (omega arith))

pub ruleset folder_steps = (xact_admitted, offsets_admitted, members_admitted)

few_parts : (area : Area) → length (folder_parts area) ≤ 2
few_parts Status = omega arith
few_parts Offsets = omega arith
few_parts Members = omega arith

some_parts : (area : Area) → 0 < length (folder_parts area)
some_parts Status = omega arith
some_parts Offsets = omega arith
some_parts Members = omega arith

pub length-folder_of : (root : PathValue) (area : Area) → length (folder_of root area).parts ≡ length root.parts + length (folder_parts area)
length-folder_of root area = length-append root.parts (folder_parts area)

pub folder-room : (root : PathValue) (area : Area) → length root.parts ≤ 61 → length (folder_of root area).parts ≤ 63
folder-room root area h = omega (arith, length-folder_of root area, few_parts area)

pub folder-deeper : (root : PathValue) (area : Area) → length root.parts < length (folder_of root area).parts
folder-deeper root area = omega (arith, length-folder_of root area, some_parts area)

pub folder-held : (root : PathValue) (area : Area) → Holds root (folder_of root area)
folder-held root area = holds-below root (folder_parts area)

-- names of hexadecimal digits

not_slash : (b : ℕ) → is_ascii_hexdigit b ≡ true → (b == 47) ≡ false
not_slash b h = grind (arith, nat_tests)

digits_free : (bs : List ℕ) → list_all is_ascii_hexdigit bs ≡ true → list_all no_slash bs ≡ true
digits_free [] h = refl
digits_free (b ∷ bs) h =
    let e = and_parts (is_ascii_hexdigit b) (list_all is_ascii_hexdigit bs) h in
    ap₂ (λ x y. not x && y) (not_slash b e.0) (digits_free bs e.1)

long_kept : (name : List ℕ) → 3 ≤ length name → is_kept name ≡ true
long_kept [] n = absurd (omega (arith, n))
long_kept (a ∷ []) n = absurd (omega (arith, n))
long_kept (a ∷ b ∷ rest) n = grind arith

no_dots : (name : List ℕ) → 3 ≤ length name → is_dot_dot name ≡ false
no_dots [] n = absurd (omega (arith, n))
no_dots (a ∷ []) n = absurd (omega (arith, n))
no_dots (a ∷ b ∷ []) n = absurd (omega (arith, n))
no_dots (a ∷ b ∷ c ∷ rest) n = grind arith

digits_part : (name : List ℕ) → 3 ≤ length name → list_all is_ascii_hexdigit name ≡ true → is_part name ≡ true
digits_part name n h = part_of name (record { kept = long_kept name n; other = no_dots name n; free = digits_free name h })

zeros_hex : (k : ℕ) → list_all is_ascii_hexdigit (replicate k 48) ≡ true
zeros_hex zero = refl
zeros_hex (suc k) = zeros_hex k

word_hex : (text : List ℕ) → is_hex_word text ≡ true → list_all is_ascii_hexdigit text ≡ true
word_hex text h = (and_parts _ (list_all is_ascii_hexdigit text) h).1

name_part : (n : ℕ) → n < 2 ^ 32 → is_part (file_name n) ≡ true
name_part n h =
    let text : List ℕ = hex_text n in
    let zeros : List ℕ = replicate (4 - length text) 48 in
    let size : length (zeros ++ text) ≡ (4 - length text) + length text = length-append zeros text ∙ ap (λ k. k + length text) (length-replicate (4 - length text) 48) in
    digits_part (zeros ++ text) (omega (arith, size))
    (list_all-append is_ascii_hexdigit zeros text ∙ and_from (list_all is_ascii_hexdigit zeros) (list_all is_ascii_hexdigit text) (zeros_hex (4 - length text)) (word_hex text (is_hex_word-hex_text n h)))

pub name_admitted : (have n : ℕ) → have ≤ 63 → n < 2 ^ 32 → checked have (file_name n) ≡ Ok tt
name_admitted have n h k = part_admitted have (file_name n) h (name_part n k)

pub name_kept : (n : ℕ) → n < 2 ^ 32 → kept_parts (file_name n) ≡ file_name n ∷ []
name_kept n h = part_kept (file_name n) (name_part n h)

pub file-held : (root : PathValue) (area : Area) (page : ℕ) → Holds root (page_file root area page)
file-held root area page =
    let whole : page_file root area page ≡ below root (folder_parts area ++ file_name (page / 32) ∷ []) = same_path _ _ refl (append_assoc root.parts (folder_parts area) (file_name (page / 32) ∷ [])) in
    subst (Holds root) (sym whole) (holds-below root (folder_parts area ++ file_name (page / 32) ∷ []))

pub file-deeper : (root : PathValue) (area : Area) (page : ℕ) → length root.parts < length (page_file root area page).parts
file-deeper root area page = omega (arith, length-append (folder_of root area).parts (file_name (page / 32) ∷ []), folder-deeper root area)

-- the file of a page, by its folder and its name
pub file-admitted : (root folder : PathValue) (area : Area) (page : ℕ) (name : List ℕ) → length root.parts ≤ 61 → folder ≡ folder_of root area → page < 2 ^ 32 → name ≡ file_name (page / 32) → checked (length folder.parts) name ≡ Ok tt
file-admitted root folder area page name room is small named =
    let short : length folder.parts ≤ 63 = let h = folder-room root area room in subst (λ (f : PathValue). length f.parts ≤ 63) (sym is) h in
    subst (λ (n : List ℕ). checked (length folder.parts) n ≡ Ok tt) (sym named) (name_admitted (length folder.parts) (page / 32) short (omega arith))

pub file-is : (root folder path : PathValue) (area : Area) (page : ℕ) (name : List ℕ) → folder ≡ folder_of root area → page < 2 ^ 32 → name ≡ file_name (page / 32) → path ≡ below folder (kept_parts name) → path ≡ page_file root area page
file-is root folder path area page name is small named made =
    made ∙ ap₂ below is (ap kept_parts named ∙ name_kept (page / 32) (omega arith))

pub file-is_held : (root path : PathValue) (area : Area) (page : ℕ) → path ≡ page_file root area page → Holds root path
file-is_held root path area page is = subst (Holds root) (sym is) (file-held root area page)

pub file-is_deeper : (root path : PathValue) (area : Area) (page : ℕ) → path ≡ page_file root area page → length root.parts < length path.parts
file-is_deeper root path area page is = subst (λ (p : PathValue). length root.parts < length p.parts) (sym is) (file-deeper root area page)
