-- What a walk told is in order.
use Rattle.std.proofs.Common.{◌≡◌, Bool, true, false, not, ◌&&◌, inl, inr, List, [], ◌∷◌, length, map, Option, None, Some, Ok, option_map, refl, ap, sym, subst, ◌∙◌, true≢false}
use Rattle.std.proofs.lemmas.List.Folds.{list_all-append}
use Rattle.std.specs.declared.cmp.Ordering.TheVariants.{Less}
use Rattle.std.specs.List.{AllByRecursion, cons_option, filter_map, list_all}
use Rattle.std.specs.List.Sorted.{IsStrictlySortedBy}
use Rattle.cluster_tree.specs.Causes.{first_of, unless}
use Rattle.cluster_tree.specs.Contents.{Contents, Entry, entry_at}
use Rattle.cluster_tree.specs.PathValue.{PathValue, is_part, path_text}
use Rattle.file_walk.specs.declared.entry.Entry.{Entry as Walked}
use Rattle.file_walk.specs.declared.entry.EntryKind.{EntryKind}
use Rattle.file_walk.specs.declared.fault.WalkFault.{WalkFault}
use Rattle.file_walk.specs.Listed.{AreInOrder, is_relative, texts_of}
use Rattle.file_walk.specs.Walk.{flaw_at, found_below, kind_of_entry, root_flaw, walk_of, walked}
use Rattle.file_walk.proofs.AscendLemmas.{key, value}
use Rattle.file_walk.proofs.ClosedLemmas.{In}
use Rattle.file_walk.proofs.ProgressLemmas.{stood, Stood}
use Rattle.file_walk.proofs.QueueLemmas.{text_cmp, AllAbove, Ascends}
use Rattle.file_walk.proofs.WholeLemmas.{found_in_order}

-- an entry of this path, where something has a kind there
abbrev pub one : PathValue → Option EntryKind → Option Walked
one path k = option_map (λ kind. record { path = path; kind = kind }) k

behind : (a b : Bool) → (a && b) ≡ true → b ≡ true
behind true b h = h
behind false b h = absurd (true≢false (sym h))

module _ (root : PathValue) where
  texts_above : (x : PathValue × Entry) (ys : List (PathValue × Entry)) → AllAbove (key root) (value root) x ys → AllByRecursion (λ t. text_cmp (path_text x.0) t ≡ Less) (texts_of (filter_map walked ys))
  texts_above x [] h = tt
  texts_above x (y ∷ ys) h = by (kind_of_entry y.1) (texts_above x ys h.2)
    where
      by : (k : Option EntryKind) → AllByRecursion (λ t. text_cmp (path_text x.0) t ≡ Less) (texts_of (filter_map walked ys))
          → AllByRecursion (λ t. text_cmp (path_text x.0) t ≡ Less) (texts_of (cons_option (one y.0 k) (filter_map walked ys)))
      by None rest = rest
      by (Some k) rest = (h.1, rest)

  texts_ascend : (xs : List (PathValue × Entry)) → Ascends (key root) (value root) xs → IsStrictlySortedBy text_cmp (texts_of (filter_map walked xs))
  unfolding IsStrictlySortedBy
  texts_ascend [] h = tt
  texts_ascend (x ∷ xs) h = by (kind_of_entry x.1) (texts_ascend xs h.1)
    where
      by : (k : Option EntryKind) → IsStrictlySortedBy text_cmp (texts_of (filter_map walked xs)) → IsStrictlySortedBy text_cmp (texts_of (cons_option (one x.0 k) (filter_map walked xs)))
      by None rest = rest
      by (Some k) rest = (texts_above x xs h.0, rest)

all_relative : (xs : List (PathValue × Entry)) → ((x : PathValue × Entry) → In x xs → is_relative x.0 ≡ true) → list_all (λ (e : Walked). is_relative e.path) (filter_map walked xs) ≡ true
all_relative [] h = refl
all_relative (x ∷ xs) h = by (kind_of_entry x.1) (all_relative xs (λ y k. h y (inr k)))
  where
    by : (k : Option EntryKind) → list_all (λ (e : Walked). is_relative e.path) (filter_map walked xs) ≡ true → list_all (λ (e : Walked). is_relative e.path) (cons_option (one x.0 k) (filter_map walked xs)) ≡ true
    by None rest = rest
    by (Some k) rest = ap (λ b. b && list_all (λ (e : Walked). is_relative e.path) (filter_map walked xs)) (h x (inl refl)) ∙ rest

found_relative : (c : Contents) (root : PathValue) (x : PathValue × Entry) → In x (found_below c root) → is_relative x.0 ≡ true
found_relative c root x h =
    let s : Stood c root x = stood c root x h in
    let proper : list_all is_part x.0.parts ≡ true = behind (list_all is_part root.parts) (list_all is_part x.0.parts) (sym (list_all-append is_part root.parts x.0.parts) ∙ s.proper) in
    ap (λ b. not b && list_all is_part x.0.parts) s.relative ∙ proper

told_by : (o q : Option WalkFault) (l ts : List Walked) → unless o (unless q (Ok l)) ≡ Ok ts → ts ≡ l
told_by None None l ts h = cc
told_by None (Some e) l ts h = absurd cc
told_by (Some e) q l ts h = absurd cc

told_all : (c : Contents) (root : PathValue) (ts : List Walked) → walk_of c root ≡ Ok ts → ts ≡ filter_map walked (found_below c root)
unfolding walk_of
told_all c root ts h = told_by (root_flaw root (entry_at c root)) (first_of (map (flaw_at (length root.parts)) (found_below c root))) (filter_map walked (found_below c root)) ts h

pub walk_in_order : (c : Contents) (root : PathValue) (ts : List Walked) → walk_of c root ≡ Ok ts → AreInOrder ts
walk_in_order c root ts told =
    let is : ts ≡ filter_map walked (found_below c root) = told_all c root ts told in
    record {
      relative = ap (list_all (λ (e : Walked). is_relative e.path)) is ∙ all_relative (found_below c root) (found_relative c root);
      ascending = subst (λ (l : List Walked). IsStrictlySortedBy text_cmp (texts_of l)) (sym is) (texts_ascend root (found_below c root) (found_in_order c root));
    }
