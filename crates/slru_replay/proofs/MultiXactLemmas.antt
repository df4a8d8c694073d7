-- Members of multixacts, set in turn.
use Rattle.std.proofs.Common.{◌≡◌, ℕ, zero, suc, ◌+◌, ◌%◌, ◌^◌, ◌≤◌, true, List, [], ◌∷◌, length, drop, slice_get, Option, None, Some, Result, Ok, Err, ap, sym, ◌∙◌, subst, arith}
use Rattle.std.proofs.lemmas.Bool.{or_left, or_right}
use Rattle.std.proofs.lemmas.Grind.{common_steps}
use Rattle.cluster_tree.specs.PathValue.{PathValue}
use Rattle.cluster_tree.specs.Contents.{Contents}
use Rattle.cluster_tree.specs.Causes.{given}
use Rattle.cluster_tree.specs.declared.file_fault.FileFault.{FileFault}
use Rattle.file_edits.specs.Answers.{Does}
use Rattle.file_edits.specs.Edits.{file_edited, laid}
use Rattle.file_edits.proofs.AnswerLemmas.{given-ok}
use Rattle.record_layouts.specs.declared.kinds.Member.{Member}
use Rattle.record_layouts.specs.declared.multixact.MultiXactCreate.{MultiXactCreate}
use Rattle.slru_replay.specs.Area.{page_file, page_start, page_end, page_laid, is_of_area}
use Rattle.slru_replay.specs.MultiXact.{offset_set, flags_set, xid_set, member_set, members_set, multi_added, is_of_multixacts}
use Rattle.slru_replay.specs.declared.area.Area.{Area}
use Rattle.slru_replay.specs.declared.area.Area.TheVariants.{Offsets, Members}

-- bytes that are laid over a page by its file and its start
pub laid-exact : (root path : PathValue) (area : Area) (page start at place : ℕ) (bytes : List ℕ) (c new : Contents) (r : Result (Unit {0}) FileFault) → path ≡ page_file root area page → start ≡ page_start page → place ≡ at → Does (file_edited root path (laid (start + 8192) (start + place) bytes) c) new r → Does (page_laid root area page at bytes c) new r
laid-exact root path area page start at place bytes c new r is begins wide done =
    subst (λ (p : PathValue). Does (file_edited root p (laid (page_end page) (page_start page + at) bytes) c) new r) is
    (subst (λ (s : ℕ). Does (file_edited root path (laid (s + 8192) (s + at) bytes) c) new r) begins
    (subst (λ (a : ℕ). Does (file_edited root path (laid (start + 8192) (start + a) bytes) c) new r) wide done))

-- one edit after another

pub first-refused : (meant : Result Contents FileFault) (next : Contents → Result Contents FileFault) (e : FileFault) → meant ≡ Err e → given meant next ≡ Err e
first-refused meant next e is = ap (λ r. given r next) is

pub member-first : (root : PathValue) (offset : ℕ) (member : Member) (c : Contents) (e : FileFault) → flags_set root offset member c ≡ Err e → member_set root offset member c ≡ Err e
unfolding member_set
member-first root offset member c e is = first-refused (flags_set root offset member c) (xid_set root offset member) e is

pub member-then : (root : PathValue) (offset : ℕ) (member : Member) (c d : Contents) → flags_set root offset member c ≡ Ok d → member_set root offset member c ≡ xid_set root offset member d
unfolding member_set
member-then root offset member c d is = given-ok (flags_set root offset member c) (xid_set root offset member) d is

next : (members : List Member) (i : ℕ) (member : Member) → slice_get members i ≡ Some member → drop i members ≡ member ∷ drop (i + 1) members
next [] i member is = absurd cc
next (first ∷ rest) zero member is = let same : first ≡ member = cc in ap (λ m. m ∷ rest) same
next (first ∷ rest) (suc i) member is = let step : suc i + 1 ≡ suc (i + 1) = omega arith in next rest i member is ∙ ap (λ k. member ∷ drop k (first ∷ rest)) (sym step)

pub members-end : (root : PathValue) (offset : ℕ) (members : List Member) (i : ℕ) (c : Contents) → length members ≤ i → members_set root offset (drop i members) c ≡ Ok c
unfolding members_set
members-end root offset members i c l = let none : drop i members ≡ [] = grind (arith, common_steps) in ap (λ ms. members_set root offset ms c) none

pub members-more : (root : PathValue) (offset after : ℕ) (members : List Member) (i : ℕ) (member : Member) (c d : Contents) → slice_get members i ≡ Some member → after ≡ (offset + 1) % 2 ^ 32 → member_set root offset member c ≡ Ok d → members_set root offset (drop i members) c ≡ members_set root after (drop (i + 1) members) d
unfolding members_set
members-more root offset after members i member c d at is done =
    ap (λ ms. members_set root offset ms c) (next members i member at)
    ∙ given-ok (member_set root offset member c) (members_set root ((offset + 1) % 2 ^ 32) (drop (i + 1) members)) d done
    ∙ ap (λ o. members_set root o (drop (i + 1) members) d) (sym is)

pub members-refused : (root : PathValue) (offset : ℕ) (members : List Member) (i : ℕ) (member : Member) (c : Contents) (e : FileFault) → slice_get members i ≡ Some member → member_set root offset member c ≡ Err e → members_set root offset (drop i members) c ≡ Err e
unfolding members_set
members-refused root offset members i member c e at done =
    ap (λ ms. members_set root offset ms c) (next members i member at)
    ∙ first-refused (member_set root offset member c) (members_set root ((offset + 1) % 2 ^ 32) (drop (i + 1) members)) e done

pub multi-short : (root : PathValue) (create : Option MultiXactCreate) (c : Contents) → create ≡ None → multi_added root create c ≡ Ok c
unfolding multi_added
multi-short root create c is = ap (λ o. multi_added root o c) is

pub multi-first : (root : PathValue) (o : Option MultiXactCreate) (create : MultiXactCreate) (c : Contents) (e : FileFault) → o ≡ Some create → offset_set root create.multi create.offset c ≡ Err e → multi_added root o c ≡ Err e
unfolding multi_added
multi-first root o create c e is refused = ap (λ x. multi_added root x c) is ∙ first-refused (offset_set root create.multi create.offset c) (members_set root create.offset create.members) e refused

pub multi-then : (root : PathValue) (o : Option MultiXactCreate) (create : MultiXactCreate) (c d : Contents) → o ≡ Some create → offset_set root create.multi create.offset c ≡ Ok d → multi_added root o c ≡ members_set root create.offset create.members d
unfolding multi_added
multi-then root o create c d is done = ap (λ x. multi_added root x c) is ∙ given-ok (offset_set root create.multi create.offset c) (members_set root create.offset create.members) d done

pub of-offsets : (root q : PathValue) → is_of_area root Offsets q ≡ true → is_of_multixacts root q ≡ true
of-offsets root q e = or_left (is_of_area root Offsets q) (is_of_area root Members q) e

pub of-members : (root q : PathValue) → is_of_area root Members q ≡ true → is_of_multixacts root q ≡ true
of-members root q e = or_right (is_of_area root Offsets q) (is_of_area root Members q) e
