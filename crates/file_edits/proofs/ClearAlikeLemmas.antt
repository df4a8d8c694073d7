-- Folders that are removed with all that they hold, in trees that are alike below two roots.
use Rattle.std.proofs.Common.{◌≡◌, ◌≢◌, ◌⊎◌, ℕ, zero, suc, ◌-◌, ◌<◌, Bool, true, false, List, [], ◌∷◌, ◌++◌, length, Option, Result, Ok, Err, refl, ap, sym, subst, ◌∙◌, inl, inr, ⊎_elim, append_assoc, arith}
use Rattle.std.specs.Prelude.{if◌then◌else◌}
use Rattle.std.proofs.lemmas.List.{length-append}
use Rattle.std.specs.FinMap.{remove}
use Rattle.cluster_tree.specs.PathValue.{PathValue, below}
use Rattle.cluster_tree.specs.Contents.{Contents, Entry, entry_at, IsTree}
use Rattle.cluster_tree.specs.Causes.{given}
use Rattle.cluster_tree.specs.declared.file_fault.FileFault.{FileFault}
use Rattle.cluster_tree.specs.declared.file_fault.FileFault.TheVariants as fault
use Rattle.file_edits.specs.Alike.{AlikeEntries, Neither, Folders, Files, Links, Alike, AlikeAnswers, SameAnswers, AsDeep}
use Rattle.file_edits.specs.Asking.{folder_asked, names_asked}
use Rattle.file_edits.specs.Clearing.{full_asked, in_turn, emptied, cleared_by, entry_cleared, folder_cleared, tree_removed}
use Rattle.file_edits.specs.Edits.{file_removed}
use Rattle.file_edits.proofs.AlikeLemmas.{moved_below, removed_alike, removed-alike, folder-same, names-alike}
use Rattle.file_edits.proofs.ClearRefusalLemmas.{tree-shallow}

-- a folder of too many parts is told
abbrev IsDeep : Result Contents FileFault → Type 0
IsDeep r = (p : PathValue) × (r ≡ Err (fault.TooDeep p))

-- both are refused alike, or neither is; else the roots are of other lengths, and one is refused for its depth
abbrev AlikeOrDeep : (List (List ℕ) → List ℕ → List ℕ → Bool) → PathValue → PathValue → Result Contents FileFault → Result Contents FileFault → Type 0
AlikeOrDeep like root other r s = AlikeAnswers like root other r s ⊎ ((length root.parts ≢ length other.parts) × (IsDeep r ⊎ IsDeep s))

-- one after another

alike_then : (like : List (List ℕ) → List ℕ → List ℕ → Bool) (root other : PathValue) (r s : Result Contents FileFault) (next after : Contents → Result Contents FileFault) → AlikeAnswers like root other r s → ((c d : Contents) → Alike like c root d other → AlikeOrDeep like root other (next c) (after d)) → AlikeOrDeep like root other (given r next) (given s after)
alike_then like root other (Ok c) (Ok d) next after alike later = later c d alike
alike_then like root other (Ok c) (Err f) next after alike later = absurd alike
alike_then like root other (Err e) (Ok d) next after alike later = absurd alike
alike_then like root other (Err e) (Err f) next after alike later = inl alike

given_alike : (like : List (List ℕ) → List ℕ → List ℕ → Bool) (root other : PathValue) (r s : Result Contents FileFault) (next after : Contents → Result Contents FileFault) → AlikeOrDeep like root other r s → ((c d : Contents) → Alike like c root d other → AlikeOrDeep like root other (next c) (after d)) → AlikeOrDeep like root other (given r next) (given s after)
given_alike like root other r s next after (inl alike) later = alike_then like root other r s next after alike later
given_alike like root other r s next after (inr two) later = inr (two.0, ⊎_elim (λ (deep : IsDeep r). inl (deep.0, ap (λ x. given x next) deep.1)) (λ (deep : IsDeep s). inr (deep.0, ap (λ x. given x after) deep.1)) two.1)

-- the same was told of both
same_then : {A : Type 0} (like : List (List ℕ) → List ℕ → List ℕ → Bool) (root other : PathValue) (r s : Result A FileFault) (next after : A → Result Contents FileFault) → SameAnswers root other r s → ((a : A) → AlikeOrDeep like root other (next a) (after a)) → AlikeOrDeep like root other (given r next) (given s after)
same_then like root other (Ok a) (Ok b) next after same later = subst (λ x. AlikeOrDeep like root other (next a) (after x)) same (later a)
same_then like root other (Ok a) (Err f) next after same later = absurd same
same_then like root other (Err e) (Ok b) next after same later = absurd same
same_then like root other (Err e) (Err f) next after same later = inl same

-- what lies in a folder

abbrev StepsAlike : (List (List ℕ) → List ℕ → List ℕ → Bool) → PathValue → PathValue → (List ℕ → Contents → Result Contents FileFault) → (List ℕ → Contents → Result Contents FileFault) → Type 0
StepsAlike like root other step after = (name : List ℕ) (c d : Contents) → Alike like c root d other → AlikeOrDeep like root other (step name c) (after name d)

turn_alike : (like : List (List ℕ) → List ℕ → List ℕ → Bool) (root other : PathValue) (step after : List ℕ → Contents → Result Contents FileFault) (names : List (List ℕ)) (c d : Contents) → StepsAlike like root other step after → Alike like c root d other → AlikeOrDeep like root other (in_turn step names c) (in_turn after names d)
unfolding in_turn
turn_alike like root other step after [] c d steps alike = inl alike
turn_alike like root other step after (name ∷ names) c d steps alike =
    given_alike like root other (step name c) (after name d) (in_turn step names) (in_turn after names) (steps name c d alike) (λ e f still. turn_alike like root other step after names e f steps still)

cleared_alike : (like : List (List ℕ) → List ℕ → List ℕ → Bool) (root other : PathValue) (parts : List (List ℕ)) (step after : List ℕ → Contents → Result Contents FileFault) (c d : Contents) → 0 < length parts → StepsAlike like root other step after → Alike like c root d other → AlikeOrDeep like root other (cleared_by step (below root parts) c) (cleared_by after (below other parts) d)
cleared_alike like root other parts step after c d some steps alike =
    same_then like root other (names_asked c (below root parts) (entry_at c (below root parts))) (names_asked d (below other parts) (entry_at d (below other parts)))
    (λ names. emptied step (below root parts) names c) (λ names. emptied after (below other parts) names d) (names-alike like root other parts c d alike)
    (λ names. given_alike like root other (in_turn step names c) (in_turn after names d) (λ e. Ok (remove e (below root parts))) (λ f. Ok (remove f (below other parts)))
    (turn_alike like root other step after names c d steps alike) (λ e f still. inl (removed_alike like e f root other parts some still)))

-- an entry

full_alike : (root other : PathValue) (parts : List (List ℕ)) (like : List ℕ → List ℕ → Bool) (o p : Option Entry) → AlikeEntries like o p → SameAnswers root other (full_asked (below root parts) o) (full_asked (below other parts) p)
full_alike root other parts like o p Neither = refl
full_alike root other parts like o p (Folders bad) = refl
full_alike root other parts like o p (Files a b is) = refl
full_alike root other parts like o p Links = ap (λ x. fault.Link x) (moved_below root other parts)

one_alike : (like : List (List ℕ) → List ℕ → List ℕ → Bool) (root other : PathValue) (parts : List (List ℕ)) (step after : List ℕ → Contents → Result Contents FileFault) (c d : Contents) → 0 < length parts → StepsAlike like root other step after → Alike like c root d other
    → AlikeOrDeep like root other (given (full_asked (below root parts) (entry_at c (below root parts))) (λ full. if full then cleared_by step (below root parts) c else file_removed (below root parts) c))
    (given (full_asked (below other parts) (entry_at d (below other parts))) (λ full. if full then cleared_by after (below other parts) d else file_removed (below other parts) d))
one_alike like root other parts step after c d some steps alike =
    same_then like root other (full_asked (below root parts) (entry_at c (below root parts))) (full_asked (below other parts) (entry_at d (below other parts)))
    (λ full. if full then cleared_by step (below root parts) c else file_removed (below root parts) c) (λ full. if full then cleared_by after (below other parts) d else file_removed (below other parts) d)
    (full_alike root other parts (like parts) (entry_at c (below root parts)) (entry_at d (below other parts)) (alike parts))
    (λ full. elim full as (λ b. AlikeOrDeep like root other (if b then cleared_by step (below root parts) c else file_removed (below root parts) c) (if b then cleared_by after (below other parts) d else file_removed (below other parts) d)) [
      | true ↦ cleared_alike like root other parts step after c d some steps alike
      | false ↦ inl (removed-alike like root other parts c d some alike)
    ])

entry_alike : (like : List (List ℕ) → List ℕ → List ℕ → Bool) (root other : PathValue) (k m : ℕ) (parts : List (List ℕ)) → (length root.parts ≡ length other.parts → k ≡ m) → StepsAlike like root other (entry_cleared k (below root parts)) (entry_cleared m (below other parts))
unfolding entry_cleared
entry_alike like root other zero zero parts room name c d alike = inl (ap (λ x. fault.TooDeep x) (moved_below root other parts))
entry_alike like root other zero (suc m) parts room name c d alike = inr ((λ e. absurd (omega (arith, room e))), inl (below root parts, refl))
entry_alike like root other (suc k) zero parts room name c d alike = inr ((λ e. absurd (omega (arith, room e))), inr (below other parts, refl))
entry_alike like root other (suc k) (suc m) parts room name c d alike =
    rw (append_assoc root.parts parts (name ∷ []), append_assoc other.parts parts (name ∷ []))
    (one_alike like root other (parts ++ name ∷ []) (entry_cleared k (below root (parts ++ name ∷ []))) (entry_cleared m (below other (parts ++ name ∷ []))) c d
    (omega (arith, length-append parts (name ∷ []))) (entry_alike like root other k m (parts ++ name ∷ []) (λ e. omega (arith, room e))) alike)

-- the whole

tree_alike : (like : List (List ℕ) → List ℕ → List ℕ → Bool) (root other : PathValue) (parts : List (List ℕ)) (c d : Contents) → 0 < length parts → Alike like c root d other → AlikeOrDeep like root other (tree_removed (below root parts) c) (tree_removed (below other parts) d)
unfolding tree_removed
tree_alike like root other parts c d some alike =
    let k : ℕ = 64 - length (below root parts).parts in
    let m : ℕ = 64 - length (below other parts).parts in
    same_then like root other (folder_asked (below root parts) (entry_at c (below root parts))) (folder_asked (below other parts) (entry_at d (below other parts)))
    (λ there. if there then folder_cleared k (below root parts) c else Ok c) (λ there. if there then folder_cleared m (below other parts) d else Ok d)
    (folder-same like root other parts c d alike)
    (λ there. elim there as (λ b. AlikeOrDeep like root other (if b then folder_cleared k (below root parts) c else Ok c) (if b then folder_cleared m (below other parts) d else Ok d)) [
      | true ↦ cleared_alike like root other parts (entry_cleared k (below root parts)) (entry_cleared m (below other parts)) c d some
          (entry_alike like root other k m parts (λ e. omega (arith, length-append root.parts parts, length-append other.parts parts, e))) alike
      | false ↦ inl alike
    ])

-- it is removed in both
pub tree-alike : (like : List (List ℕ) → List ℕ → List ℕ → Bool) (root other : PathValue) (parts : List (List ℕ)) (c d e f : Contents) → 0 < length parts → Alike like c root d other → IsTree e → IsTree f → tree_removed (below root parts) c ≡ Ok e → tree_removed (below other parts) d ≡ Ok f → Alike like e root f other
tree-alike like root other parts c d e f some alike first second one two = done (tree_removed (below root parts) c) (tree_removed (below other parts) d) one two (tree_alike like root other parts c d some alike)
  where
    done : (r s : Result Contents FileFault) → r ≡ Ok e → s ≡ Ok f → AlikeOrDeep like root other r s → Alike like e root f other
    done r s one two (inl both) = subst (λ x. AlikeAnswers like root other (Ok e) x) two (subst (λ x. AlikeAnswers like root other x s) one both)
    done r s one two (inr deep) = absurd (⊎_elim (λ (d : IsDeep r). let no : Ok e ≡ Err (fault.TooDeep d.0) = sym one ∙ d.1 in cc) (λ (d : IsDeep s). let no : Ok f ≡ Err (fault.TooDeep d.0) = sym two ∙ d.1 in cc) deep.1)

-- where depth is none of a difference
pub tree-answers : (like : List (List ℕ) → List ℕ → List ℕ → Bool) (root other : PathValue) (parts : List (List ℕ)) (c d : Contents) → 0 < length parts → Alike like c root d other → AsDeep c (below root parts) d (below other parts) → AlikeAnswers like root other (tree_removed (below root parts) c) (tree_removed (below other parts) d)
tree-answers like root other parts c d some alike deep = ⊎_elim
    (λ both. both)
    (λ two. absurd (⊎_elim
    (λ same. two.0 (omega (arith, length-append root.parts parts, length-append other.parts parts, same)))
    (λ shallow. ⊎_elim (λ (x : IsDeep (tree_removed (below root parts) c)). tree-shallow (below root parts) c x.0 shallow.0 x.1) (λ (x : IsDeep (tree_removed (below other parts) d)). tree-shallow (below other parts) d x.0 shallow.1 x.1) two.1)
    deep))
    (tree_alike like root other parts c d some alike)
