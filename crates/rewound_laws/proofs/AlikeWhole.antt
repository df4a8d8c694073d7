-- A rewound target and a whole copy of its source are alike clusters.
use Rattle.std.proofs.Common.{◌≡◌, ℕ, ℤ, ◌≤◌, true, false, List, length, Option, None, Some, Result, Ok, inl, inr, refl, sym, ap, ◌∙◌, subst}
use Rattle.alike_clusters.specs.Clusters.{AlikeClusters, is_alike}
use Rattle.backup_label.specs.declared.label.Label.{Label}
use Rattle.cluster_tree.specs.Causes.{unless}
use Rattle.cluster_tree.specs.Contents.{Contents, Entry, FolderEntry, FileEntry, LinkEntry, entry_at}
use Rattle.cluster_tree.specs.PathValue.{PathValue, below}
use Rattle.control_file.specs.declared.control.Control.{Control}
use Rattle.file_edits.specs.Alike.{AlikeEntries, IsShallow}
use Rattle.file_walk.specs.Walk.{root_flaw, walk_of}
use Rattle.file_walk.specs.declared.entry.Entry.{Entry as Walked}
use Rattle.file_walk.specs.declared.pair.Pair.{Pair}
use Rattle.rewind_core.specs.Fits.{IsRewound}
use Rattle.rewind_core.specs.Planned.{Needing}
use Rattle.rewind_plan.proofs.RoomLemmas.{none_lack}
use Rattle.rewind_plan.specs.PlanOf.{rewinding}
use Rattle.rewind_plan.specs.Planned.{Between}
use Rattle.rewind_plan.specs.Room.{AllHaveRoom}
use Rattle.rewind_plan.specs.Sides.{Sides}
use Rattle.rewound_tree.specs.Rewound.{Rewinding, rewound, whole_copy}
use Rattle.rewound_laws.proofs.AlikeDepth.{alike-there, copy-deep, rewound-deep, shallow-by}
use Rattle.rewound_laws.proofs.AlikeLemmas.{path-alike}
use Rattle.rewound_laws.proofs.AlikePairs.{stands}
use Rattle.rewound_laws.proofs.NeededLemmas.{needed-source, needed-target}
use Rattle.rewound_laws.specs.Alike.{AreBounded, IsNoDeeper, IsRoomy}
use Rattle.rewound_laws.specs.Copy.{IsWholeCopy}
use Rattle.rewound_laws.specs.Needed.{IsNeeded}

-- ---- a root that was walked is a folder of names that are text

unless_none : {A E : Type 0} (o : Option E) (answer : Result A E) (v : A) → unless o answer ≡ Ok v → o ≡ None
unless_none None answer v h = refl
unless_none (Some e) answer v h = absurd (cc h)

root_clean : (root : PathValue) (o : Option Entry) → root_flaw root o ≡ None → o ≡ Some (FolderEntry false)
root_clean root None h = absurd (cc h)
root_clean root (Some (FolderEntry true)) h = absurd (cc h)
root_clean root (Some (FolderEntry false)) h = refl
root_clean root (Some (FileEntry bytes)) h = absurd (cc h)
root_clean root (Some LinkEntry) h = absurd (cc h)

walked_root : (c : Contents) (root : PathValue) (es : List Walked) → walk_of c root ≡ Ok es → entry_at c root ≡ Some (FolderEntry false)
unfolding walk_of
walked_root c root es h = root_clean root (entry_at c root) (unless_none (root_flaw root (entry_at c root)) _ es h)

-- ---- both trees, path by path

module _ (c : Contents) (w : Between) (pairs : List Pair) (control : Control) (label : Label) (sides : Sides c w pairs) (room : AllHaveRoom w pairs)
    (target_root : entry_at c w.target ≡ Some (FolderEntry false)) (source_root : entry_at c w.source ≡ Some (FolderEntry false)) (bounded : AreBounded w.per_file c w.source) where
  abbrev r : Rewinding
  r = rewinding c w control label

  alike_at : (parts : List (List ℕ)) → AlikeEntries (is_alike w.per_file parts) (whole_copy r parts) (rewound r parts)
  alike_at parts =
      let at = stands c w pairs sides room target_root source_root parts in
      path-alike w.per_file parts r at.target_plain at.source_plain (bounded parts) (sides.marks_source parts) at.differ

  module _ (c' d : Contents) (other : PathValue) (left : (parts : List (List ℕ)) → entry_at c' (below w.target parts) ≡ rewound r parts) (copied : (parts : List (List ℕ)) → entry_at d (below other parts) ≡ whole_copy r parts)
      (few : length w.target.parts ≤ 61) (few_too : length other.parts ≤ 61) (deep : IsNoDeeper d other w) where
    target_shallow : IsShallow c' w.target
    target_shallow = shallow-by c' w.target (rewound r) left (rewound-deep c w pairs sides room control label few)

    copy_shallow : IsNoDeeper d other w → IsShallow d other
    copy_shallow (inl lower) =
        shallow-by d other (whole_copy r) copied
        (λ parts there. copy-deep c w pairs sides room control label few other few_too lower parts (sym (alike-there (is_alike w.per_file parts) (whole_copy r parts) (rewound r parts) (alike_at parts))) there)
    copy_shallow (inr shallow) = shallow

    pub trees-alike : AlikeClusters w.per_file d other c' w.target
    trees-alike = record {
      alike = λ parts.
          subst (λ o. AlikeEntries (is_alike w.per_file parts) o (entry_at c' (below w.target parts))) (sym (copied parts))
          (subst (AlikeEntries (is_alike w.per_file parts) (whole_copy r parts)) (sym (left parts)) (alike_at parts));
      deep = inr (copy_shallow deep, target_shallow);
      room = few_too;
      other_room = few;
    }

-- ---- for the roots that were given

module _ (c c' d : Contents) (target source other : PathValue) (now : ℤ) (n : Needing) (k : IsNeeded c target source now n) (sides : Sides c n.aim.between n.pairs) (left : IsRewound c n c') (copied : IsWholeCopy c n d other)
    (roomy : IsRoomy c n.aim.between d other) where
  abbrev w : Between
  w = n.aim.between

  target_is : w.target ≡ target
  target_is = needed-target c target source now n k

  target_root : entry_at c w.target ≡ Some (FolderEntry false)
  target_root = ap (entry_at c) target_is ∙ walked_root c target k.target_entries k.target_walked

  source_root : entry_at c w.source ≡ Some (FolderEntry false)
  source_root = ap (entry_at c) (needed-source c target source now n k) ∙ walked_root c source k.source_entries k.source_walked

  pub rewound-alike : AlikeClusters w.per_file d other c' target
  rewound-alike =
      subst (AlikeClusters w.per_file d other c') target_is
      (trees-alike c w n.pairs n.aim.control n.aim.label sides (none_lack w n.pairs k.lacking) target_root source_root roomy.bounded c' d other left.inside copied roomy.room roomy.other_room roomy.deep)
