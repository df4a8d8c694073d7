-- Lists in which each path lies in a folder that is listed before it.
use Rattle.std.proofs.Common.{◌≡◌, ℕ, suc, ◌+◌, ◌<◌, ◌≤◌, Bool, true, false, ◌&&◌, ◌||◌, if◌then◌else◌, List, [], ◌∷◌, ◌++◌, length, take, drop, get_or, take-suc, None, Some, refl, ap, sym, ◌∙◌, true≢false, arith}
use Rattle.std.proofs.lemmas.List.{drop_all, length-take}
use Rattle.std.specs.List.{list_any}
use Rattle.cluster_tree.specs.Contents.{parent}
use Rattle.cluster_tree.specs.PathOrder.{path_eq}
use Rattle.cluster_tree.specs.PathValue.{PathValue}
use Rattle.replay_list.specs.Lines.{path_at}
use Rattle.replay_list.specs.declared.listed.Listed.{Listed}
use Rattle.stored_replay.proofs.ShadowLemmas.{rest_is}
use Rattle.replay_restore.specs.Freed.{label_path}
use Rattle.replay_restore.specs.Listing.{has_file, has_folder, is_closed, is_folder_at, is_under}
use Rattle.replay_restore.specs.Loose.{UnlooseIsClosed, first_loose, has_label_first}

any-both : {A : Type 0} (test : A → Bool) (xs ys : List A) → list_any test (xs ++ ys) ≡ (list_any test xs || list_any test ys)
any-both test [] ys = refl
any-both test (x ∷ xs) ys = by (test x) (any-both test xs ys)
  where
    by : (b : Bool) → list_any test (xs ++ ys) ≡ (list_any test xs || list_any test ys) → (b || list_any test (xs ++ ys)) ≡ ((b || list_any test xs) || list_any test ys)
    by true rest = refl
    by false rest = rest

turned : (a b : Bool) → (a || b) ≡ (b || (a || false))
turned true true = refl
turned true false = refl
turned false true = refl
turned false false = refl

-- the same folders are listed in both
abbrev Same : (before done : List Listed) → Type 0
Same before done = (q : PathValue) → has_folder before q ≡ has_folder done q

more-same : (before done : List Listed) (one : Listed) → Same before done → Same (one ∷ before) (done ++ one ∷ [])
more-same before done one same q =
    ap (λ b. is_folder_at q one || b) (same q) ∙ turned (is_folder_at q one) (has_folder done q) ∙ sym (any-both (is_folder_at q) done (one ∷ []))

by-under : (root : PathValue) (done before more : List Listed) (one : Listed) (b : Bool) → Same before done → is_under root done (path_at one) ≡ b
    → (if b then first_loose root (done ++ one ∷ []) more else Some (length done + 1)) ≡ None
    → (first_loose root (done ++ one ∷ []) more ≡ None → is_closed root (one ∷ before) more ≡ true)
    → (is_under root before (path_at one) && is_closed root (one ∷ before) more) ≡ true
by-under root done before more one true same is none rest =
    ap (λ b. b && is_closed root (one ∷ before) more) (ap (λ b. path_eq root (parent (path_at one)) || b) (same (parent (path_at one))) ∙ is) ∙ rest none
by-under root done before more one false same is none rest = absurd cc

closed-on : (root : PathValue) (done before left : List Listed) → Same before done → first_loose root done left ≡ None → is_closed root before left ≡ true
unfolding first_loose
closed-on root done before [] same none = refl
closed-on root done before (one ∷ more) same none =
    by-under root done before more one (is_under root done (path_at one)) same refl none
    (closed-on root (done ++ one ∷ []) (one ∷ before) more (more-same before done one same))

label-listed : (root : PathValue) (listed : List Listed) → has_label_first root listed ≡ true → has_file listed (label_path root) ≡ true
label-listed root [] is = absurd (true≢false (sym is))
label-listed root (one ∷ more) is = ap (λ b. b || has_file more (label_path root)) is

pub unloose_closed : UnlooseIsClosed
unloose_closed root listed none = by (has_label_first root listed) refl none
  where
    by : (b : Bool) → has_label_first root listed ≡ b → (if b then first_loose root [] listed else Some 1) ≡ None → (is_closed root [] listed ≡ true) × (has_file listed (label_path root) ≡ true)
    by true is rest = (closed-on root [] [] listed (λ q. refl) rest, label-listed root listed is)
    by false is rest = absurd cc

-- ---- line by line

more-taken : (listed : List Listed) (at : ℕ) (one : Listed) → at < length listed → one ≡ get_or listed at one → take (at + 1) listed ≡ take at listed ++ one ∷ []
more-taken listed at one within is =
    let next : at + 1 ≡ suc at = omega arith in
    ap (λ n. take n listed) next ∙ take-suc listed at one within ∙ ap (λ x. take at listed ++ x ∷ []) (sym is)

pub line_is : (root : PathValue) (listed : List Listed) (at : ℕ) (one : Listed) (b : Bool) → at < length listed → one ≡ get_or listed at one → is_under root (take at listed) (path_at one) ≡ b
    → first_loose root (take at listed) (drop at listed) ≡ (if b then first_loose root (take (at + 1) listed) (drop (at + 1) listed) else Some (at + 1))
unfolding first_loose
line_is root listed at one b within is under =
    ap (first_loose root (take at listed)) (rest_is listed at one within is)
    ∙ ap (λ b. if b then first_loose root (take at listed ++ one ∷ []) (drop (at + 1) listed) else Some (length (take at listed) + 1)) under
    ∙ by b
  where
    by : (b : Bool) → (if b then first_loose root (take at listed ++ one ∷ []) (drop (at + 1) listed) else Some (length (take at listed) + 1)) ≡ (if b then first_loose root (take (at + 1) listed) (drop (at + 1) listed) else Some (at + 1))
    by true = ap (λ l. first_loose root l (drop (at + 1) listed)) (sym (more-taken listed at one within is))
    by false =
        let same : length (take at listed) + 1 ≡ at + 1 = omega (arith, length-take at listed, within) in
        ap (λ n. Some n) same

pub all_done : (root : PathValue) (listed : List Listed) (at : ℕ) → length listed ≤ at → first_loose root (take at listed) (drop at listed) ≡ None
unfolding first_loose
all_done root listed at over = ap (first_loose root (take at listed)) (drop_all at listed over)
