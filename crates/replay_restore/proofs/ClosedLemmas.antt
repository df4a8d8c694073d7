-- Lists that have the folders of their paths before them.
use Rattle.std.proofs.Common.{◌≡◌, ◌≢◌, ◌⊎◌, ℕ, zero, suc, ◌+◌, ◌-◌, ◌<◌, ◌≤◌, Bool, true, false, ◌&&◌, ◌||◌, List, [], ◌∷◌, ◌++◌, length, take, nat_eq, refl, ap, sym, subst, ◌∙◌, inl, inr, ⊎_elim, true≢false, arith}
use Rattle.std.proofs.lemmas.Bool.Decides.{nat_tests}
use Rattle.std.proofs.lemmas.Bool.{or_left, or_right}
use Rattle.std.proofs.lemmas.Grind.{common_steps}
use Rattle.std.proofs.lemmas.List.{length-append, length-take}
use Rattle.cluster_tree.specs.Contents.{parent}
use Rattle.cluster_tree.specs.PathOrder.{path_eq}
use Rattle.cluster_tree.specs.PathValue.{PathValue, Holds, below}
use Rattle.cluster_tree.proofs.HoldLemmas.{held-holds}
use Rattle.cluster_tree.proofs.OrderLemmas.{path_eq-own, path_eq-same, same_path}
use Rattle.replay_list.specs.Lines.{path_at}
use Rattle.replay_list.specs.declared.listed.Listed.{Listed}
use Rattle.replay_list.specs.declared.listed.Listed.TheVariants.{Folder, Page, File}
use Rattle.replay_restore.specs.Freed.{HasFolders}
use Rattle.replay_restore.specs.Listing.{has_file, has_folder, is_closed, is_file_at, is_folder_at, is_under}
use Rattle.replay_restore.proofs.FreeLemmas.{by_bool}

both : (a b : Bool) → (a && b) ≡ true → (a ≡ true) × (b ≡ true)
both true b h = (refl, h)
both false b h = absurd (true≢false (sym h))

or_is : {P : Type 0} (a b : Bool) → (a || b) ≡ true → (a ≡ true → P) → (b ≡ true → P) → P
or_is true b h left right = left refl
or_is false b h left right = right h

-- a folder that is listed before, or from here on
abbrev Somewhere : (before rest : List Listed) → PathValue → Type 0
Somewhere before rest p = (has_folder before p ≡ true) ⊎ (has_folder rest p ≡ true)

-- .. of a step on
shift : (before : List Listed) (one : Listed) (more : List Listed) (p : PathValue) → Somewhere (one ∷ before) more p → Somewhere before (one ∷ more) p
shift before one more p (inl is) = or_is (is_folder_at p one) (has_folder before p) is (λ here. inr (or_left (is_folder_at p one) (has_folder more p) here)) (λ there. inl there)
shift before one more p (inr is) = inr (or_right (is_folder_at p one) (has_folder more p) is)

at_folder : (q : PathValue) (one : Listed) → is_folder_at q one ≡ true → q ≡ path_at one
at_folder q (Folder at) e = path_eq-same q at e
at_folder q (Page at size) e = absurd (true≢false (sym e))
at_folder q (File at size) e = absurd (true≢false (sym e))

at_file : (q : PathValue) (one : Listed) → is_file_at q one ≡ true → q ≡ path_at one
at_file q (Folder at) e = absurd (true≢false (sym e))
at_file q (Page at size) e = path_eq-same q at e
at_file q (File at size) e = path_eq-same q at e

-- the folder of a listed path is the root, or is listed
listed_under : (root : PathValue) (before rest : List Listed) (q : PathValue) → is_closed root before rest ≡ true → (has_folder rest q || has_file rest q) ≡ true → (root ≡ parent q) ⊎ Somewhere before rest (parent q)
listed_under root before [] q closed is = absurd (true≢false (sym is))
listed_under root before (one ∷ more) q closed is =
    let two = both (is_under root before (path_at one)) (is_closed root (one ∷ before) more) closed in
    let here : q ≡ path_at one → (root ≡ parent q) ⊎ Somewhere before (one ∷ more) (parent q) = λ same.
    or_is (path_eq root (parent (path_at one))) (has_folder before (parent (path_at one))) two.0
    (λ at. inl (path_eq-same root (parent (path_at one)) at ∙ ap parent (sym same)))
    (λ at. inr (inl (ap (λ p. has_folder before (parent p)) same ∙ at))) in
    let later : (has_folder more q || has_file more q) ≡ true → (root ≡ parent q) ⊎ Somewhere before (one ∷ more) (parent q) = λ in_more.
    ⊎_elim (λ at. inl at) (λ at. inr (shift before one more (parent q) at)) (listed_under root (one ∷ before) more q two.1 in_more) in
    or_is (has_folder (one ∷ more) q) (has_file (one ∷ more) q) is
    (λ folder. or_is (is_folder_at q one) (has_folder more q) folder (λ at. here (at_folder q one at)) (λ at. later (or_left (has_folder more q) (has_file more q) at)))
    (λ file. or_is (is_file_at q one) (has_file more q) file (λ at. here (at_file q one at)) (λ at. later (or_right (has_folder more q) (has_file more q) at)))

-- of one that lies deeper than right in the root, it is listed
parent_listed : (k : ℕ) (root : PathValue) (listed : List Listed) (path q : PathValue) → is_closed root [] listed ≡ true → length root.parts < length path.parts → length q.parts ≡ length path.parts + suc k → (has_folder listed q || has_file listed q) ≡ true → has_folder listed (parent q) ≡ true
parent_listed k root listed path q closed longer size is =
    ⊎_elim
    (λ at. absurd (omega (arith, longer, size, ap (λ (p : PathValue). length p.parts) at, length-take (length q.parts - 1) q.parts)))
    (λ somewhere. ⊎_elim (λ before. absurd (true≢false (sym before))) (λ there. there) somewhere)
    (listed_under root [] listed q closed is)

front_kept : (n m : ℕ) (xs ys : List (List ℕ)) → n ≤ m → take n xs ≡ ys → take n (take m xs) ≡ ys
front_kept n m xs ys l e = let same : take n (take m xs) ≡ take n xs = grind (arith, common_steps) in same ∙ e

whole : (n : ℕ) (xs ys : List (List ℕ)) → length xs ≡ n → take n xs ≡ ys → xs ≡ ys
whole n xs ys len front = let all : take n xs ≡ xs = grind (arith, common_steps) in sym all ∙ front

held_up : (path q : PathValue) → Holds path q → length path.parts ≤ length q.parts - 1 → Holds path (parent q)
held_up path q held l = record { mark = held.mark; prefix = front_kept (length path.parts) (length q.parts - 1) q.parts path.parts l held.prefix }

-- so from a path up to each that it lies below, down from a root
up : (k : ℕ) (root : PathValue) (listed : List Listed) (path q : PathValue) → is_closed root [] listed ≡ true → length root.parts < length path.parts → Holds path q → length q.parts ≡ length path.parts + suc k → (has_folder listed q || has_file listed q) ≡ true → has_folder listed path ≡ true
up zero root listed path q closed longer held size is =
    let there = parent_listed zero root listed path q closed longer size is in
    let up_one = held_up path q held (omega (arith, size)) in
    let same : parent q ≡ path = same_path _ _ (sym held.mark) (whole (length path.parts) (take (length q.parts - 1) q.parts) path.parts (omega (arith, size, length-take (length q.parts - 1) q.parts)) up_one.prefix) in
    ap (has_folder listed) (sym same) ∙ there
up (suc j) root listed path q closed longer held size is =
    let there = parent_listed (suc j) root listed path q closed longer size is in
    up j root listed path (parent q) closed longer (held_up path q held (omega (arith, size))) (omega (arith, size, length-take (length q.parts - 1) q.parts)) (or_left (has_folder listed (parent q)) (has_file listed (parent q)) there)

pub closed-folders : (root : PathValue) (listed : List Listed) (name : List ℕ) → is_closed root [] listed ≡ true → HasFolders listed (below root (name ∷ []))
closed-folders root listed name closed path q top held other is =
    let up_top = held-holds (below root (name ∷ [])) path top in
    let down = held-holds path q held in
    let deeper : length (root.parts ++ name ∷ []) ≤ length path.parts = omega (arith, length-take (length (root.parts ++ name ∷ [])) path.parts, ap length up_top.prefix) in
    let longer : length path.parts ≤ length q.parts = omega (arith, length-take (length path.parts) q.parts, ap length down.prefix) in
    by_bool (nat_eq (length path.parts) (length q.parts))
    (λ e. absurd (true≢false (sym (own e down) ∙ other)))
    (λ e. up (length q.parts - length path.parts - 1) root listed path q closed (omega (arith, deeper, length-append root.parts (name ∷ []))) down (omega (arith, longer, differ (length path.parts) (length q.parts) e)) is)
  where
    differ : (m n : ℕ) → nat_eq m n ≡ false → m ≢ n
    differ m n e same = true≢false (sym (grind (arith, nat_tests)) ∙ e)

    own : nat_eq (length path.parts) (length q.parts) ≡ true → Holds path q → path_eq q path ≡ true
    own e down =
        let len : length q.parts ≡ length path.parts = grind (arith, nat_tests) in
        let all : take (length path.parts) q.parts ≡ q.parts = grind (arith, common_steps) in
        subst (λ p. path_eq q p ≡ true) (same_path q path (sym down.mark) (sym all ∙ down.prefix)) (path_eq-own q)
