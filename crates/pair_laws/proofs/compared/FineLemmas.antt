-- Clusters in which each path is short and no entry has a flaw, so that a walk finds them.
use Rattle.std.proofs.Common.{◌≡◌, ℕ, ◌+◌, ◌≤◌, true, false, ◌&&◌, nat_lt, List, [], ◌∷◌, ◌++◌, length, None, Some, Ok, refl, sym, ap, ◌∙◌, subst, arith, if◌then◌else◌}
use Rattle.std.proofs.lemmas.Bool.Decides.{nat_tests}
use Rattle.std.proofs.lemmas.List.{append_cancel_left, append-nil}
use Rattle.std.proofs.lemmas.List.Folds.{list_all-append}
use Rattle.std.specs.FinMap.{insert, remove}
use Rattle.std.specs.List.{filter_map, list_all}
use Rattle.cluster_tree.specs.Contents.{Contents, Entry, FolderEntry, entry_at, or_root}
use Rattle.cluster_tree.specs.PathValue.{PathValue, below, front, is_part, path_of}
use Rattle.cluster_tree.proofs.ContentsLemmas.{entry-put, entry-put_other, entry-removed, entry-removed_other}
use Rattle.file_edits.proofs.EditLemmas.{same_or_other}
use Rattle.file_walk.specs.Walk.{HasParts, entry_flaw, flaw_at, found_below, walk_of, walked}
use Rattle.file_walk.specs.declared.fault.WalkFault.TheVariants as fault
use Rattle.pair_laws.proofs.FlawLemmas.{walk-sound}
use Rattle.pair_laws.proofs.PlannedLemmas.{there-is}

-- an entry at a path of three proper parts at most, without a flaw
pub record IsFine (parts : List (List ℕ)) (e : Entry) : Type 0 where
  pub short : length parts ≤ 3
  pub proper : list_all is_part parts ≡ true
  pub sound : entry_flaw (path_of false parts) e ≡ None

-- so is each below a root
abbrev pub AreFine : PathValue → Contents → Type 0
AreFine root c = (parts : List (List ℕ)) (e : Entry) → entry_at c (below root parts) ≡ Some e → IsFine parts e

pub own-parts : (root : PathValue) (a b : List (List ℕ)) → below root a ≡ below root b → a ≡ b
own-parts root a b same = append_cancel_left root.parts a b (ap (λ (p : PathValue). p.parts) same)

some_entry : (a b : Entry) → Some a ≡ Some b → a ≡ b
some_entry a b h = cc h

-- nothing is left where a path with parts is removed
pub nothing-left : (front : List (List ℕ)) (name : List ℕ) (rest : List (List ℕ)) → or_root (front ++ name ∷ rest) None ≡ None
nothing-left [] name rest = refl
nothing-left (x ∷ xs) name rest = refl

module _ (root : PathValue) (c : Contents) (fine : AreFine root c) where
  pub fine-put : (at : List (List ℕ)) (v : Entry) → IsFine at v → AreFine root (insert c (below root at) v)
  fine-put at v is parts e there = same_or_other (below root parts) (below root at)
      (λ same.
      let its : Some v ≡ Some e = sym (ap (entry_at (insert c (below root at) v)) same ∙ entry-put c (below root at) v) ∙ there in
      subst (λ p. IsFine p e) (sym (own-parts root parts at same)) (subst (IsFine at) (some_entry v e its) is))
      (λ other. fine parts e (sym (entry-put_other c (below root at) (below root parts) v other) ∙ there))

  pub fine-removed : (name : List ℕ) (rest : List (List ℕ)) → AreFine root (remove c (below root (name ∷ rest)))
  fine-removed name rest parts e there =
      let at : PathValue = below root (name ∷ rest) in
      same_or_other (below root parts) at
      (λ same.
      let none : entry_at (remove c at) (below root parts) ≡ None = ap (entry_at (remove c at)) same ∙ entry-removed c at ∙ nothing-left root.parts name rest in
      absurd (cc (sym none ∙ there)))
      (λ other. fine parts e (sym (entry-removed_other c at (below root parts) other) ∙ there))

-- ---- a walk

module _ (c : Contents) (root : PathValue) (room : length root.parts ≤ 61) (fine : AreFine root c) where
  no_deeper : (n : ℕ) → n ≤ 3 → nat_lt 64 (length root.parts + n) ≡ false
  no_deeper n short = grind (arith, nat_tests, room, short)

  flawless : (parts : List (List ℕ)) (e : Entry) → IsFine parts e → flaw_at (length root.parts) (path_of false parts, e) ≡ None
  flawless parts e is =
      ap (λ b. if b then Some (fault.TooDeep (front 64 (path_of false parts))) else entry_flaw (path_of false parts) e) (no_deeper (length parts) is.short) ∙ is.sound

  pub fine-walked : entry_at c root ≡ Some (FolderEntry false) → walk_of c root ≡ Ok (filter_map walked (found_below c root))
  fine-walked top = walk-sound c root top (λ parts e there. flawless parts e (fine parts e there))

-- ---- paths are of proper parts

pub fine-parts : (c : Contents) (root : PathValue) → list_all is_part root.parts ≡ true → AreFine root c → HasParts c root
fine-parts c root proper fine parts some =
    let there = there-is (entry_at c (below root parts)) some in
    list_all-append is_part root.parts parts ∙ ap (λ b. b && list_all is_part parts) proper ∙ (fine parts there.at there.is).proper

-- the root is what stands below it by no part
pub root-entry : (c : Contents) (root : PathValue) → entry_at c (below root []) ≡ entry_at c root
root-entry c root = ap (λ l. entry_at c (path_of root.absolute l)) (append-nil root.parts)
