-- A pair that is tried in one tree ends as the same cluster twice.
use Rattle.std.proofs.Common.{◌≡◌, ℕ, ◌||◌, List, [], ◌∷◌, ◌++◌, length, take, Ok, codes, sym, ap, ap₂, ◌∙◌, subst, append_assoc, arith, false, Result}
use Rattle.std.proofs.Math.Seq.{take-append_seam}
use Rattle.std.proofs.lemmas.List.{append_cancel_left, length-append}
use Rattle.block_refs.specs.declared.names.Fork.TheVariants.{Init}
use Rattle.block_refs.specs.declared.names.RelName.{RelName}
use Rattle.cluster_compare.specs.Same.{IsSameCluster, differ_at, has_init, unlogged_in}
use Rattle.cluster_tree.specs.Contents.{Contents, entry_at, is_file}
use Rattle.cluster_tree.specs.PathValue.{Holds, PathValue, below, path_of}
use Rattle.relation_files.specs.Names.{name_of}
use Rattle.relation_files.specs.Paths.{folder_parts, relation_file}
use Rattle.replay_core.specs.Replayed.{After}
use Rattle.replay_start.specs.declared.fault.ReplayFault.{ReplayFault}
use Rattle.pair_laws.specs.Ends.{CopyStays, PairsEndTheSame, StaysBut}
use Rattle.pair_laws.specs.Stands.{HasCopy, copy_of, target_of}
use Rattle.pair_laws.proofs.NamedLemmas.{pair-at-c}
use Rattle.pair_laws.proofs.PairLemmas.{own-copy, pairs-follow}

-- ---- neither of two folders of a root holds what is below the other

abbrev first_byte : List (List ℕ) → ℕ
first_byte ((b ∷ bytes) ∷ rest) = b
first_byte ([] ∷ rest) = 0
first_byte [] = 0

same_name : (root : PathValue) (one other : List ℕ) (parts : List (List ℕ)) → Holds (below root (one ∷ [])) (below (below root (other ∷ [])) parts) → first_byte (other ∷ []) ≡ first_byte (one ∷ [])
same_name root one other parts held =
    let a = root.parts ++ one ∷ [] in
    let b = root.parts ++ other ∷ [] in
    let long : length a ≡ length b = omega (arith, length-append root.parts (one ∷ []), length-append root.parts (other ∷ [])) in
    let same : b ≡ a = sym (take-append_seam b parts) ∙ ap (λ n. take n (b ++ parts)) (sym long) ∙ held.prefix in
    ap first_byte (append_cancel_left root.parts (other ∷ []) (one ∷ []) same)

below_copy : (root : PathValue) (parts : List (List ℕ)) → Holds (target_of root) (below (copy_of root) parts) → ⊥
below_copy root parts held = let byte : 99 ≡ 116 = same_name root (codes "t") (codes "c") parts held in absurd (omega (arith, byte))

pub beside-copy : (root : PathValue) (parts : List (List ℕ)) → Holds (copy_of root) (below (target_of root) parts) → ⊥
beside-copy root parts held = let byte : 116 ≡ 99 = same_name root (codes "c") (codes "t") parts held in absurd (omega (arith, byte))

pub copy-stays : CopyStays
copy-stays root seed blocks c d pair stays parts = stays (below (copy_of root) parts) (below_copy root parts) ∙ pair-at-c root seed blocks c pair.stands parts

-- ---- a comparison sees what stands below both roots alone

module _ (per_file : ℕ) (c d e : Contents) (first second : PathValue) (stays : (parts : List (List ℕ)) → entry_at e (below second parts) ≡ entry_at d (below second parts)) where
  same_init : (rel : RelName) → has_init e second rel ≡ has_init d second rel
  same_init rel =
      let path : relation_file second rel Init 0 ≡ below second (folder_parts rel ++ name_of rel.relation Init 0 ∷ []) =
      ap (λ l. path_of second.absolute l) (append_assoc second.parts (folder_parts rel) (name_of rel.relation Init 0 ∷ [])) in
      ap (λ p. is_file (entry_at e p)) path ∙ ap is_file (stays (folder_parts rel ++ name_of rel.relation Init 0 ∷ [])) ∙ ap (λ p. is_file (entry_at d p)) (sym path)

  same_unlogged : unlogged_in c first e second ≡ unlogged_in c first d second
  same_unlogged = λ i rel. has_init c first rel || same_init rel i

  same-stays : IsSameCluster per_file c first d second → IsSameCluster per_file c first e second
  same-stays same parts =
      ap₂ (λ unlogged o. differ_at unlogged per_file (path_of false parts) (entry_at c (below first parts)) o) same_unlogged (stays parts) ∙ same parts

-- ---- both replays

ok_same : (a b : After) → ◌≡◌ {A = Result After ReplayFault} (Ok a) (Ok b) → a ≡ b
ok_same a b h = cc h

pub pairs-end : PairsEndTheSame
pairs-end root seed blocks c c' target copy pair tried =
    let stays : StaysBut (target_of root) c target.files = λ path out. tried.target_alone path out ∙ tried.rewound.elsewhere path out in
    let has : HasCopy root (copy_of root) seed blocks target.files =
    record { room = (own-copy root seed blocks c pair).room; tree = tried.tree; stands = copy-stays root seed blocks c target.files pair stays } in
    let both = pairs-follow root (copy_of root) seed blocks c c' target.files pair has tried.rewound in
    let one : both.after ≡ copy = ok_same both.after copy (sym both.ends ∙ tried.copy_ends) in
    let other : both.alike.after ≡ target = ok_same both.alike.after target (sym both.alike.ends ∙ tried.target_ends) in
    let ended : IsSameCluster 131072 copy.files (copy_of root) target.files (target_of root) =
    subst (λ (a : After). IsSameCluster 131072 copy.files (copy_of root) a.files (target_of root)) other
    (subst (λ (a : After). IsSameCluster 131072 a.files (copy_of root) both.alike.after.files (target_of root)) one both.alike.same) in
    same-stays 131072 copy.files target.files copy.files (copy_of root) (target_of root) (λ parts. tried.copy_alone (below (target_of root) parts) (beside-copy root parts)) ended
