-- What is listed lies off the mark and the copies.
use Rattle.std.proofs.Common.{◌≡◌, ◌≢◌, ℕ, ◌+◌, ◌&&◌, ◌||◌, Bool, true, false, List, [], ◌∷◌, ◌++◌, length, drop, bytes_eq, codes, refl, ap, sym, ◌∙◌, true≢false, append_assoc, arith}
use Rattle.std.proofs.lemmas.List.{drop_at, length-append}
use Rattle.std.proofs.lemmas.List.Elements.{All-cons, All-nil}
use Rattle.std.specs.List.{All, list_all}
use Rattle.cluster_tree.specs.Apart.{is_held}
use Rattle.cluster_tree.specs.PathOrder.{path_eq}
use Rattle.cluster_tree.specs.PathValue.{PathValue, below}
use Rattle.cluster_tree.proofs.HoldLemmas.{held-holds}
use Rattle.cluster_tree.proofs.OrderLemmas.{path_eq-own}
use Rattle.cluster_tree.proofs.RootLemmas.{held-below}
use Rattle.mark_lines.specs.Paths.{parts_below}
use Rattle.replay_list.specs.Areas.{is_listed}
use Rattle.replay_list.specs.Lines.{path_at}
use Rattle.replay_list.specs.declared.listed.Listed.{Listed}
use Rattle.replay_list.specs.declared.listed.Listed.TheVariants.{Folder, Page, File}
use Rattle.stored_replay.specs.Shadows.{shadow_folder}
use Rattle.replay_copies.specs.Copying.{IsOutside}
use Rattle.replay_copies.specs.Laid.{is_laid_at, mark_of}
use Rattle.replay_copies.proofs.PathLemmas.{not_true}

abbrev mark_name : List ℕ
mark_name = codes "pg_walreplay.unfinished"

abbrev shadow_name : List ℕ
shadow_name = codes "pg_walreplay.shadow"

behind-root : (root : PathValue) (parts : List (List ℕ)) → parts_below root (below root parts) ≡ parts
behind-root root parts = drop_at root.parts parts (length root.parts) refl

mark-unlisted : is_listed (mark_name ∷ []) ≡ false
mark-unlisted = refl

shadow-unlisted : (more : List (List ℕ)) → is_listed (shadow_name ∷ more) ≡ false
shadow-unlisted [] = refl
shadow-unlisted (part ∷ more) = refl

pub listed-no_mark : (root path : PathValue) → is_listed (parts_below root path) ≡ true → path ≢ mark_of root
listed-no_mark root path listed same =
    true≢false (sym listed ∙ ap (λ p. is_listed (parts_below root p)) same ∙ ap is_listed (behind-root root (mark_name ∷ [])) ∙ mark-unlisted)

pub listed-no_copy : (root path : PathValue) → is_listed (parts_below root path) ≡ true → is_held (shadow_folder root) path ≡ false
listed-no_copy root path listed = not_true _ (λ e.
    let held = held-holds (shadow_folder root) path e in
    let rest : List (List ℕ) = drop (length (shadow_folder root).parts) path.parts in
    let is : path.parts ≡ root.parts ++ shadow_name ∷ rest = ap (λ (p : PathValue). p.parts) (held-below (shadow_folder root) path held) ∙ append_assoc root.parts (shadow_name ∷ []) rest in
    true≢false (sym listed ∙ ap (λ l. is_listed (drop (length root.parts) l)) is ∙ ap is_listed (behind-root root (shadow_name ∷ rest)) ∙ shadow-unlisted rest))

-- a listed file lies elsewhere than the mark
abbrev pub IsOffMark : PathValue → Listed → Type 0
IsOffMark root one = path_at one ≢ mark_of root

and-both : (a b : Bool) → (a && b) ≡ true → (a ≡ true) × (b ≡ true)
and-both true b e = (refl, e)
and-both false b e = absurd (true≢false (sym e))

listed-outside : (root : PathValue) (one : Listed) → is_listed (parts_below root (path_at one)) ≡ true → IsOutside root one
listed-outside root (Folder path) listed = tt
listed-outside root (Page path size) listed = tt
listed-outside root (File path size) listed = listed-no_copy root path listed

pub all-outside : (root : PathValue) (listed : List Listed) → list_all (λ l. is_listed (parts_below root (path_at l))) listed ≡ true → All (IsOutside root) listed
all-outside root [] areas = All-nil (IsOutside root)
all-outside root (one ∷ more) areas =
    let two = and-both (is_listed (parts_below root (path_at one))) (list_all (λ l. is_listed (parts_below root (path_at l))) more) areas in
    All-cons (IsOutside root) one more (listed-outside root one two.0) (all-outside root more two.1)

pub all-off_mark : (root : PathValue) (listed : List Listed) → list_all (λ l. is_listed (parts_below root (path_at l))) listed ≡ true → All (IsOffMark root) listed
all-off_mark root [] areas = All-nil (IsOffMark root)
all-off_mark root (one ∷ more) areas =
    let two = and-both (is_listed (parts_below root (path_at one))) (list_all (λ l. is_listed (parts_below root (path_at l))) more) areas in
    All-cons (IsOffMark root) one more (listed-no_mark root (path_at one) two.0) (all-off_mark root more two.1)

-- ---- paths of the mark, of the root and of copies

either-not : (a b : Bool) → (a || b) ≡ false → (a ≡ false) × (b ≡ false)
either-not true b e = absurd (true≢false e)
either-not false b e = (refl, e)

laid-off : (root q : PathValue) → is_laid_at root q ≡ false → (path_eq q (mark_of root) ≡ false) × (is_held (shadow_folder root) q ≡ false)
laid-off root q off = either-not (path_eq q (mark_of root)) (is_held (shadow_folder root) q) off

abbrev heads-shadow : List (List ℕ) → Bool
heads-shadow [] = false
heads-shadow (name ∷ more) = bytes_eq name shadow_name

pub mark-off : (root : PathValue) → is_held (shadow_folder root) (mark_of root) ≡ false
mark-off root = not_true _ (λ e.
    let held = held-holds (shadow_folder root) (mark_of root) e in
    let rest : List (List ℕ) = drop (length (shadow_folder root).parts) (mark_of root).parts in
    let is : (mark_of root).parts ≡ root.parts ++ shadow_name ∷ rest = ap (λ (p : PathValue). p.parts) (held-below (shadow_folder root) (mark_of root) held) ∙ append_assoc root.parts (shadow_name ∷ []) rest in
    let names : mark_name ∷ [] ≡ shadow_name ∷ rest = sym (behind-root root (mark_name ∷ [])) ∙ ap (drop (length root.parts)) is ∙ behind-root root (shadow_name ∷ rest) in
    true≢false (sym (ap heads-shadow names)))

pub root-no_mark : (root : PathValue) → root ≢ mark_of root
root-no_mark root same = omega (arith, ap (λ (p : PathValue). length p.parts) same, length-append root.parts (mark_name ∷ []))

pub off-both : (root q : PathValue) → is_laid_at root q ≡ false → (q ≢ mark_of root) × (is_held (shadow_folder root) q ≡ false)
off-both root q off =
    let two = laid-off root q off in
    ((λ same. true≢false (sym (path_eq-own (mark_of root)) ∙ ap (λ p. path_eq p (mark_of root)) (sym same) ∙ two.0)), two.1)

pub held-no_mark : (root q : PathValue) → is_held (shadow_folder root) q ≡ true → q ≢ mark_of root
held-no_mark root q held same = true≢false (sym held ∙ ap (is_held (shadow_folder root)) same ∙ mark-off root)

pub mark-size : (root : PathValue) → length (mark_of root).parts ≡ length root.parts + 1
mark-size root = length-append root.parts (mark_name ∷ [])
