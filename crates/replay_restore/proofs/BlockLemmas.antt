-- Why a folder isn't removed with all that it holds: what is in the way.
use Rattle.std.proofs.Common.{◌≡◌, ◌⊎◌, ℕ, zero, suc, ◌+◌, ◌-◌, ◌<◌, ◌≤◌, true, false, List, [], ◌∷◌, length, Option, None, Some, Ok, Err, refl, ap, sym, subst, ◌∙◌, inl, inr, ⊎_elim, true≢false, arith}
use Rattle.std.specs.Prelude.{if◌then◌else◌}
use Rattle.std.proofs.lemmas.List.{length-append, length-take}
use Rattle.std.specs.FinMap.{remove}
use Rattle.cluster_tree.specs.Apart.{is_held}
use Rattle.cluster_tree.specs.Causes.{given}
use Rattle.cluster_tree.specs.Contents.{Contents, Entry, FileEntry, FolderEntry, LinkEntry, entry_at, is_folder, or_root}
use Rattle.cluster_tree.specs.PathValue.{PathValue, below}
use Rattle.cluster_tree.specs.declared.file_fault.FileFault.{FileFault}
use Rattle.cluster_tree.specs.declared.file_fault.FileFault.TheVariants as fault
use Rattle.cluster_tree.proofs.HoldLemmas.{held-holds}
use Rattle.file_edits.specs.Asking.{file_asked, folder_asked, names_asked}
use Rattle.file_edits.specs.Clearing.{cleared_by, emptied, entry_cleared, folder_cleared, full_asked, in_turn, tree_removed}
use Rattle.file_edits.specs.Edits.{file_removed, without}
use Rattle.file_edits.proofs.ClearLemmas.{Fewer, clears_entry, held-above, held-own}
use Rattle.file_edits.proofs.LawLemmas.{rootless}
use Rattle.replay_restore.specs.Freed.{IsBlocked}
use Rattle.replay_restore.proofs.FreeLemmas.{blocked-as, blocked-above}
use Rattle.replay_restore.proofs.InsideLemmas.{asked-blocked, not-below}

-- contents of which a folder is left, and of what it held perhaps less
record Left (folder : PathValue) (c d : Contents) : Type 0 where
  fewer : (q : PathValue) → is_held folder q ≡ true → (entry_at d q ≡ entry_at c q) ⊎ (entry_at d q ≡ None)
  stands : is_folder (entry_at d folder) ≡ true

left_on : (folder : PathValue) (name : List ℕ) (c d e : Contents) → 0 < length folder.parts → Left folder c d → Fewer (below folder (name ∷ [])) d e → Left folder c e
left_on folder name c d e some left less = record {
  fewer = λ q held. ⊎_elim
      (λ same. ⊎_elim (λ was. inl (ap (or_root q.parts) same ∙ was)) (λ none. inr (ap (or_root q.parts) same ∙ none)) (left.fewer q held))
      (λ gone. inr (ap (or_root q.parts) gone.1 ∙ rootless q.parts (longer q held)))
      (less q);
  stands = ⊎_elim
      (λ same. ap (λ o. is_folder (or_root folder.parts o)) same ∙ left.stands)
      (λ gone. absurd (true≢false (sym gone.0 ∙ not-below folder name)))
      (less folder);
}
  where
    longer : (q : PathValue) → is_held folder q ≡ true → 0 < length q.parts
    longer q held = let h = held-holds folder q held in omega (arith, some, length-take (length folder.parts) q.parts, ap length h.prefix)

left_none : (folder : PathValue) (c : Contents) → is_folder (entry_at c folder) ≡ true → Left folder c c
left_none folder c stands = record { fewer = λ q held. inl refl; stands = stands }

-- entries in turn
turn_blocked : (P : FileFault → Type 0) (k : ℕ) (folder : PathValue) (names : List (List ℕ)) (c d : Contents) (e : FileFault) → 0 < length folder.parts → Left folder c d
    → ((name : List ℕ) (x : Contents) → Left folder c x → entry_cleared k folder name x ≡ Err e → P e) → in_turn (entry_cleared k folder) names d ≡ Err e → P e
unfolding in_turn
turn_blocked P k folder [] c d e some left each is = absurd cc
turn_blocked P k folder (name ∷ names) c d e some left each is =
    elim (entry_cleared k folder name d) as (λ r. entry_cleared k folder name d ≡ r → given r (in_turn (entry_cleared k folder) names) ≡ Err e → P e) [
      | Ok x ↦ λ told rest. turn_blocked P k folder names c x e some (left_on folder name c d x some left (clears_entry k folder name d x told)) each rest
      | Err f ↦ λ told rest. let same : f ≡ e = cc in each name d left (told ∙ ap (λ g. Err g) same)
    ] refl is

cleared_blocked : (k : ℕ) (folder : PathValue) (c : Contents) (e : FileFault) → 0 < length folder.parts → is_folder (entry_at c folder) ≡ true
    → ((name : List ℕ) (x : Contents) → Left folder c x → entry_cleared k folder name x ≡ Err e → IsBlocked folder c e) → cleared_by (entry_cleared k folder) folder c ≡ Err e → IsBlocked folder c e
cleared_blocked k folder c e some stands each is =
    elim (names_asked c folder (entry_at c folder)) as (λ r. names_asked c folder (entry_at c folder) ≡ r → given r (λ names. emptied (entry_cleared k folder) folder names c) ≡ Err e → IsBlocked folder c e) [
      | Ok names ↦ λ told. elim (in_turn (entry_cleared k folder) names c) as (λ r. in_turn (entry_cleared k folder) names c ≡ r → given r (λ d. Ok (remove d folder)) ≡ Err e → IsBlocked folder c e) [
        | Ok d ↦ λ turn rest. absurd cc
        | Err f ↦ λ turn rest. let same : f ≡ e = cc in turn_blocked (IsBlocked folder c) k folder names c c e some (left_none folder c stands) each (turn ∙ ap (λ g. Err g) same)
      ] refl
      | Err f ↦ λ told rest. let same : f ≡ e = cc in asked-blocked c folder (entry_at c folder) e refl stands (told ∙ ap (λ g. Err g) same)
    ] refl is

-- whether it is a folder
full_folder : (path : PathValue) (o : Option Entry) → full_asked path o ≡ Ok true → is_folder o ≡ true
full_folder path None e = absurd cc
full_folder path (Some (FolderEntry bad)) e = refl
full_folder path (Some (FileEntry bytes)) e = absurd cc
full_folder path (Some LinkEntry) e = absurd cc

full_link : (path : PathValue) (o : Option Entry) (e : FileFault) → full_asked path o ≡ Err e → (fault.Link path ≡ e) × (o ≡ Some LinkEntry)
full_link path None e is = absurd cc
full_link path (Some (FolderEntry bad)) e is = absurd cc
full_link path (Some (FileEntry bytes)) e is = absurd cc
full_link path (Some LinkEntry) e is = (cc, refl)

other_removed : (path : PathValue) (c : Contents) (o : Option Entry) (e : FileFault) → entry_at c path ≡ o → full_asked path o ≡ Ok false → file_removed path c ≡ Err e → ⊥
unfolding file_removed
other_removed path c None e at other is = let done = sym (ap (λ o. given (file_asked path o) (without path c)) at) ∙ is in absurd cc
other_removed path c (Some (FolderEntry bad)) e at other is = absurd cc
other_removed path c (Some (FileEntry bytes)) e at other is = let done = sym (ap (λ o. given (file_asked path o) (without path c)) at) ∙ is in absurd cc
other_removed path c (Some LinkEntry) e at other is = absurd cc

entry_blocked : (k : ℕ) (folder : PathValue) (c d : Contents) (name : List ℕ) (e : FileFault) → 0 < length folder.parts → length folder.parts + k ≡ 64 → Left folder c d → entry_cleared k folder name d ≡ Err e → IsBlocked folder c e
unfolding entry_cleared
entry_blocked zero folder c d name e some room left is =
    let same : fault.TooDeep folder ≡ e = cc in
    let full : length folder.parts ≡ 64 = omega (arith, room) in
    blocked-as folder c d e left.fewer (subst (IsBlocked folder d) same (held-own folder, full, left.stands))
entry_blocked (suc k) folder c d name e some room left is =
    let path : PathValue = below folder (name ∷ []) in
    let room_below : length path.parts + k ≡ 64 = omega (arith, room, length-append folder.parts (name ∷ [])) in
    let longer : 0 < length path.parts = omega (arith, length-append folder.parts (name ∷ [])) in
    elim (full_asked path (entry_at d path)) as (λ r. full_asked path (entry_at d path) ≡ r → given r (λ full. if full then cleared_by (entry_cleared k path) path d else file_removed path d) ≡ Err e → IsBlocked folder c e) [
      | Ok is ↦ elim is as (λ b. full_asked path (entry_at d path) ≡ Ok b → (if b then cleared_by (entry_cleared k path) path d else file_removed path d) ≡ Err e → IsBlocked folder c e) [
        | true ↦ λ told rest. blocked-as folder c d e left.fewer (blocked-above folder name d e
            (cleared_blocked k path d e longer (full_folder path (entry_at d path) told) (λ n x less. entry_blocked k path d x n e longer room_below less) rest))
        | false ↦ λ told rest. absurd (other_removed path d (entry_at d path) e refl told rest)
      ]
      | Err f ↦ λ told rest.
          let same : f ≡ e = cc in
          let link = full_link path (entry_at d path) f told in
          blocked-as folder c d e left.fewer (subst (IsBlocked folder d) (link.0 ∙ same) (held-above folder name path (held-own path), link.1))
    ] refl is

-- so of a folder
pub tree-blocked : (path : PathValue) (c : Contents) (e : FileFault) → 0 < length path.parts → length path.parts ≤ 64 → is_folder (entry_at c path) ≡ true → tree_removed path c ≡ Err e → IsBlocked path c e
unfolding tree_removed
tree-blocked path c e some room stands is =
    let k : ℕ = 64 - length path.parts in
    let rest_room : length path.parts + k ≡ 64 = omega (arith, room) in
    elim (folder_asked path (entry_at c path)) as (λ r. folder_asked path (entry_at c path) ≡ r → given r (λ there. if there then folder_cleared k path c else Ok c) ≡ Err e → IsBlocked path c e) [
      | Ok is ↦ λ told. elim is as (λ b. (if b then folder_cleared k path c else Ok c) ≡ Err e → IsBlocked path c e) [
        | true ↦ λ rest. cleared_blocked k path c e some stands (λ n x less. entry_blocked k path c x n e some rest_room less) rest
        | false ↦ λ rest. absurd cc
      ]
      | Err f ↦ λ told rest. absurd (folder_told path (entry_at c path) f stands told)
    ] refl is
  where
    folder_told : (path : PathValue) (o : Option Entry) (f : FileFault) → is_folder o ≡ true → folder_asked path o ≡ Err f → ⊥
    folder_told path None f e is = true≢false (sym e)
    folder_told path (Some (FolderEntry bad)) f e is = absurd cc
    folder_told path (Some (FileEntry bytes)) f e is = true≢false (sym e)
    folder_told path (Some LinkEntry) f e is = true≢false (sym e)
