-- The areas and the label, freed one after another.
use Rattle.std.proofs.Common.{◌≡◌, ℕ, ◌≤◌, Bool, true, false, not, ◌&&◌, ◌||◌, List, [], ◌∷◌, ◌++◌, length, drop, bytes_eq, codes, refl, ap, sym, ◌∙◌, inl, inr, true≢false, append_assoc, arith}
use Rattle.std.proofs.lemmas.List.{drop_all}
use Rattle.std.specs.List.{list_any}
use Rattle.cluster_tree.specs.Apart.{is_held}
use Rattle.cluster_tree.specs.Contents.{Contents, entry_at}
use Rattle.cluster_tree.specs.PathValue.{PathValue, below}
use Rattle.cluster_tree.specs.declared.file_fault.FileFault.{FileFault}
use Rattle.cluster_tree.proofs.HoldLemmas.{held-holds}
use Rattle.cluster_tree.proofs.OrderLemmas.{same_path}
use Rattle.cluster_tree.proofs.RootLemmas.{held-below}
use Rattle.file_edits.proofs.ClearLemmas.{held-above}
use Rattle.mark_lines.specs.Paths.{parts_below}
use Rattle.replay_list.specs.declared.listed.Listed.{Listed}
use Rattle.replay_restore.specs.Freed.{AreFreed, IsFreeing, IsHinderedIn, IsRefusal, area_names, goes, goes_in}
use Rattle.replay_restore.specs.Listing.{is_named, is_restored_at, stays}
use Rattle.replay_restore.proofs.FreeLemmas.{blocked-as, goes-is, is-goes}
use Rattle.replay_restore.proofs.InsideLemmas.{below-name}

both : (a b : Bool) → (a && b) ≡ true → (a ≡ true) × (b ≡ true)
both true b h = (refl, h)
both false b h = absurd (true≢false (sym h))

and_is : (a b : Bool) → a ≡ true → b ≡ true → (a && b) ≡ true
and_is a b p q = ap (λ x. x && b) p ∙ q

behind : (xs ys : List (List ℕ)) → drop (length xs) (xs ++ ys) ≡ ys
behind [] ys = refl
behind (x ∷ xs) ys = behind xs ys

-- what lies at or below such a name is brought back
pub named-restored : (root : PathValue) (name : List ℕ) (q : PathValue) → is_named (name ∷ []) ≡ true → is_held (below root (name ∷ [])) q ≡ true → is_restored_at root q ≡ true
named-restored root name q named held =
    let more = drop (length (below root (name ∷ [])).parts) q.parts in
    let is : q ≡ below root (name ∷ more) = held-below (below root (name ∷ [])) q (held-holds (below root (name ∷ [])) q held) ∙ same_path _ _ refl (append_assoc root.parts (name ∷ []) more) in
    and_is (is_held root q) (is_named (parts_below root q)) (held-above root name q held) (ap is_named (ap (λ (p : PathValue). drop (length root.parts) p.parts) is ∙ behind root.parts (name ∷ more)) ∙ named)

-- and what is brought back lies there
pub restored-named : {P : Type 0} (root q : PathValue) → is_restored_at root q ≡ true → ((name : List ℕ) → is_named (name ∷ []) ≡ true → is_held (below root (name ∷ [])) q ≡ true → P) → P
restored-named root q is next =
    let two = both (is_held root q) (is_named (parts_below root q)) is in
    below-name root q two.0
    (λ same. absurd (true≢false (sym two.1 ∙ ap is_named (ap (λ (p : PathValue). drop (length root.parts) p.parts) same ∙ drop_all (length root.parts) root.parts (omega arith)))))
    (λ name held.
    let more = drop (length (below root (name ∷ [])).parts) q.parts in
    let at : q ≡ below root (name ∷ more) = held-below (below root (name ∷ [])) q (held-holds (below root (name ∷ [])) q held) ∙ same_path _ _ refl (append_assoc root.parts (name ∷ []) more) in
    next name (sym (ap is_named (ap (λ (p : PathValue). drop (length root.parts) p.parts) at ∙ behind root.parts (name ∷ more))) ∙ two.1) held)

named_among : (name : List ℕ) → is_named (name ∷ []) ≡ true → list_any (bytes_eq name) area_names ≡ true
named_among name is = by (bytes_eq name (codes "pg_xact")) (bytes_eq name (codes "pg_multixact")) (bytes_eq name (codes "global")) (bytes_eq name (codes "base")) (bytes_eq name (codes "backup_label")) is
  where
    by : (a b c d e : Bool) → ((a || b || c || d) || e) ≡ true → (e || (d || (c || (b || (a || false))))) ≡ true
    by a b c d true h = refl
    by a b c true false h = refl
    by a b true false false h = refl
    by a true false false false h = refl
    by true false false false false h = refl
    by false false false false false h = h

pub goes_in-is : (listed : List Listed) (c : Contents) (root q : PathValue) → goes_in listed c root q ≡ true → (is_restored_at root q ≡ true) × (not (stays listed q (entry_at c q)) ≡ true)
goes_in-is listed c root q e = both (is_restored_at root q) (not (stays listed q (entry_at c q))) e

not_is : (b : Bool) → not b ≡ true → b ≡ false
not_is true h = absurd (true≢false (sym h))
not_is false h = refl

-- at the end
pub areas-freed : (listed : List Listed) (root : PathValue) (first now : Contents) → IsFreeing listed root area_names first now → AreFreed listed root first now
areas-freed listed root first now freeing = record {
  gone = λ q e. let two = goes_in-is listed first root q e in
      restored-named root q two.0 (λ name named held. (freeing.freed name (named_among name named)).gone q (is-goes listed first (below root (name ∷ [])) q held (not_is _ two.1)));
  sound = λ q bad is stands. restored-named root q is (λ name named held. (freeing.freed name (named_among name named)).sound q bad held stands);
}

-- a step's calls
pub area-goes : (listed : List Listed) (root : PathValue) (name : List ℕ) (done : List (List ℕ)) (first now : Contents) (q : PathValue) → is_named (name ∷ []) ≡ true → list_any (bytes_eq name) done ≡ false → IsFreeing listed root done first now → goes listed now (below root (name ∷ [])) q ≡ true → goes_in listed first root q ≡ true
area-goes listed root name done first now q named other freeing e =
    let two = goes-is listed now (below root (name ∷ [])) q e in
    and_is (is_restored_at root q) _ (named-restored root name q named two.0) (ap not (ap (stays listed q) (sym (freeing.left name other q two.0)) ∙ two.1))

own_held : (name : List ℕ) (root : PathValue) → is_named (name ∷ []) ≡ true → is_held (below root (name ∷ [])) (below root (name ∷ [])) ≡ true → is_restored_at root (below root (name ∷ [])) ≡ true
own_held name root named held = named-restored root name (below root (name ∷ [])) named held

-- its refusal
pub area-refused : (listed : List Listed) (root : PathValue) (name : List ℕ) (done : List (List ℕ)) (first now : Contents) (e : FileFault) → length root.parts ≤ 61 → is_named (name ∷ []) ≡ true → list_any (bytes_eq name) done ≡ false → IsFreeing listed root done first now → is_held (below root (name ∷ [])) (below root (name ∷ [])) ≡ true → IsHinderedIn root name now e → IsRefusal root first e
area-refused listed root name done first now e room named other freeing held (inl (inl free)) = inl free
area-refused listed root name done first now e room named other freeing held (inl (inr blocked)) =
    inr (inr (below root (name ∷ []), own_held name root named held, blocked-as (below root (name ∷ [])) first now e (λ q lies. inl (freeing.left name other q lies)) blocked))
area-refused listed root name done first now e room named other freeing held (inr deep) = absurd (omega (arith, room, deep.0))
