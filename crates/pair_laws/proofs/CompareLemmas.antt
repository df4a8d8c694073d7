-- What a comparison finds of a pair that was tried.
use Rattle.std.proofs.Common.{◌≡◌, ◌∙◌, ℕ, ◌≤◌, true, false, cond, ◌&&◌, List, [], ◌∷◌, ◌++◌, length, codes, None, Some, option_map, Result, Ok, pos, refl, sym, ap, ap₂, subst, arith}
use Rattle.std.proofs.lemmas.List.{length-append}
use Rattle.std.proofs.lemmas.List.Folds.{list_all-append}
use Rattle.std.specs.List.{list_all}
use Rattle.alike_clusters.specs.Clusters.{AlikeClusters}
use Rattle.cluster_compare.specs.Compared.{compared, folder_refusal, from_walks, of_cluster, of_walk, verdict}
use Rattle.cluster_compare.specs.Same.{IsSameCluster}
use Rattle.cluster_compare.specs.declared.compared.Compared.{Compared}
use Rattle.cluster_compare.specs.declared.compared.Compared.TheVariants.{Same}
use Rattle.cluster_compare.specs.declared.fault.CompareFault.{CompareFault}
use Rattle.cluster_compare.specs.declared.fault.CompareFault.TheVariants as fault
use Rattle.cluster_compare.proofs.ExactLemmas.{compared-exactly}
use Rattle.cluster_laws.proofs.EndLemmas.{mark_parts}
use Rattle.cluster_laws.proofs.StartLemmas.{starts-as}
use Rattle.cluster_laws.specs.Starts.{StartsAs}
use Rattle.cluster_tree.specs.Causes.{given, unless}
use Rattle.cluster_tree.specs.Contents.{Contents, FolderEntry, entry_at, is_folder}
use Rattle.cluster_tree.specs.PathValue.{PathValue, below, is_part}
use Rattle.cluster_tree.specs.declared.file_fault.FileFault.TheVariants as file
use Rattle.clusters.specs.Marks.{unfinished}
use Rattle.clusters.specs.RootControl.{control_at}
use Rattle.control_file.specs.declared.control.Control.{Control}
use Rattle.file_walk.specs.Pairs.{pairs_of}
use Rattle.file_walk.specs.Walk.{HasParts, walk_of}
use Rattle.file_walk.specs.declared.entry.Entry.{Entry as Walked}
use Rattle.pair_maker.specs.Logs.{made_at}
use Rattle.replay_core.specs.Replayed.{After}
use Rattle.replay_start.specs.Checked.{Start, start_of}
use Rattle.rewound_laws.proofs.AlikeWhole.{rewound-alike}
use Rattle.rewound_laws.proofs.NeededLemmas.{planned-needed}
use Rattle.pair_laws.specs.Ends.{IsTried}
use Rattle.pair_laws.specs.Grew.{IsGrown, pair_rewind}
use Rattle.pair_laws.specs.Stands.{CopyStands, HasPair, copy_of, source_of, target_of}
use Rattle.pair_laws.specs.Start.{copy_start}
use Rattle.pair_laws.proofs.EndLemmas.{beside-copy, copy-stays, pairs-end}
use Rattle.pair_laws.proofs.NamedLemmas.{pair-at-c}
use Rattle.pair_laws.proofs.PairLemmas.{pair-has_copy, pair-needed, pairs-grew}
use Rattle.pair_laws.proofs.StartLemmas.{copy-starts}
use Rattle.pair_laws.specs.Compared.{PairsCompareTheSame}
use Rattle.pair_laws.proofs.compared.CloseLemmas.{left-fine, mark-gone, root-apart, stays-apart}
use Rattle.pair_laws.proofs.compared.CopyLemmas.{copy-fine, copy-relation, copy-top}
use Rattle.pair_laws.proofs.compared.FineLemmas.{AreFine, fine-parts, fine-walked, root-entry}
use Rattle.pair_laws.proofs.compared.KeepLemmas.{HasRelation}
use Rattle.pair_laws.proofs.compared.KeptLemmas.{kept-left}
use Rattle.pair_laws.proofs.compared.MarkLemmas.{AreUnmarked, reset-apart, reset_parts, rewind-apart, rewind_parts, start-unmarked, unmarked-finished}
use Rattle.pair_laws.proofs.compared.TargetLemmas.{alike-fine, alike-folder, alike-relation}

-- nothing refuses a comparison of two clusters: no mark stands at either, the first one's control file is right, the second is a folder, and both are walked
record CanCompare (per_file : ℕ) (c : Contents) (first second : PathValue) : Type 0 where
  control : Control
  found : List Walked
  there : List Walked
  unmarked : unfinished c first ≡ None
  unmarked_too : unfinished c second ≡ None
  at : control_at c first ≡ Ok control
  per : control.relseg ≡ per_file
  folder : is_folder (entry_at c second) ≡ true
  walk : walk_of c first ≡ Ok found
  walk_too : walk_of c second ≡ Ok there
  parts : HasParts c first
  parts_too : HasParts c second

-- such clusters that are the same have no difference
compared-same : (per_file : ℕ) (c : Contents) (first second : PathValue) → CanCompare per_file c first second → IsSameCluster per_file c first c second → compared c first second ≡ Ok Same
unfolding compared
compared-same per_file c first second can same =
    let walks : Control → Result Compared CompareFault = λ control. unless (folder_refusal c second) (from_walks c control.relseg first second) in
    ap (λ o. unless (option_map fault.Cluster o) (unless (option_map fault.Cluster (unfinished c second)) (given (of_cluster (control_at c first)) walks))) can.unmarked
    ∙ ap (λ o. unless (option_map fault.Cluster o) (given (of_cluster (control_at c first)) walks)) can.unmarked_too
    ∙ ap (λ r. given (of_cluster r) walks) can.at
    ∙ ap (λ b. unless (cond b None (Some (fault.File (file.NotFolder second)))) (from_walks c can.control.relseg first second)) can.folder
    ∙ ap (λ r. given (of_walk r) (λ found. given (of_walk (walk_of c second)) (λ there. Ok (verdict c can.control.relseg first second (pairs_of found there))))) can.walk
    ∙ ap (λ r. given (of_walk r) (λ there. Ok (verdict c can.control.relseg first second (pairs_of can.found there)))) can.walk_too
    ∙ ap Ok ((compared-exactly c can.control.relseg first second can.found can.there can.parts can.parts_too can.walk can.walk_too).1
    (subst (λ n. IsSameCluster n c first c second) (sym can.per) same))

-- ---- both clusters of a pair that was tried

module _ (root : PathValue) (seed blocks : ℕ) (c c' : Contents) (target copy : After) (pair : HasPair root seed blocks c) (tried : IsTried root seed blocks c c' target copy) where
  abbrev t : PathValue
  t = target_of root

  abbrev o : PathValue
  o = copy_of root

  near : (name : List ℕ) → length (root.parts ++ name ∷ []) ≤ 61
  near name = let room = pair.room in omega (arith, room, length-append root.parts (name ∷ []))

  proper_with : (name : List ℕ) → is_part name ≡ true → list_all is_part (root.parts ++ name ∷ []) ≡ true
  proper_with name part = list_all-append is_part root.parts (name ∷ []) ∙ ap₂ (λ a b. a && (b && true)) pair.proper part

  -- the copy, before its replay and behind it
  stands : CopyStands o seed blocks target.files
  stands = copy-stays root seed blocks c target.files pair (λ path out. tried.target_alone path out ∙ tried.rewound.elsewhere path out)

  abbrev s : Start
  s = copy_start o seed blocks

  passes : start_of None target.files o ≡ Ok s
  passes = copy-starts o seed blocks target.files pair.few stands

  copy_has : HasRelation o blocks target.files
  copy_has = copy-relation o seed blocks target.files stands

  copy_left : AreFine o copy.files
  copy_left = left-fine o seed blocks pair.few target.files s copy passes refl refl copy_has tried.copy_ends (copy-fine o seed blocks target.files stands)

  copy_folder : entry_at copy.files o ≡ Some (FolderEntry false)
  copy_folder = sym (root-entry copy.files o) ∙ stays-apart o seed blocks pair.few target.files s copy passes refl refl copy_has tried.copy_ends [] root-apart ∙ copy-top o seed blocks target.files stands

  copy_unmarked : AreUnmarked copy.files o
  copy_unmarked =
      let un = start-unmarked target.files o s passes in
      record {
        rewind = stays-apart o seed blocks pair.few target.files s copy passes refl refl copy_has tried.copy_ends rewind_parts rewind-apart ∙ un.rewind;
        replay = mark-gone o seed blocks pair.few target.files s copy passes refl refl copy_has tried.copy_ends;
        reset = stays-apart o seed blocks pair.few target.files s copy passes refl refl copy_has tried.copy_ends reset_parts reset-apart ∙ un.reset;
      }

  -- its control file
  kept : (control : Control) × (control_at copy.files o ≡ Ok control) × (control.relseg ≡ 131072)
  kept = kept-left o seed blocks pair.few target.files copy stands passes copy_has tried.copy_ends

  -- the target was alike to the copy when it was rewound
  grown : IsGrown root seed blocks c c o
  grown = pairs-grew root o seed blocks c c pair (pair-has_copy root seed blocks c pair)

  alike : AlikeClusters 131072 c o c' t
  alike =
      rewound-alike c c' c t (source_of root) o (pos made_at) (pair_rewind root seed blocks c)
      (planned-needed c t (source_of root) (pos made_at) (pair_rewind root seed blocks c) (pair-needed root seed blocks c (pos made_at) pair))
      tried.rewound.sides tried.rewound grown.copied grown.grew.room

  copied : CopyStands o seed blocks c
  copied = pair-at-c root seed blocks c pair.stands

  there : StartsAs None c' t s
  there = starts-as None 131072 o t c c' alike s (copy-starts o seed blocks c pair.few copied)

  per : there.start.control.relseg ≡ 131072
  per = ap (λ (v : Control). v.relseg) there.control

  target_has : HasRelation t blocks c'
  target_has = alike-relation 131072 blocks c o c' t alike (copy-relation o seed blocks c copied)

  stays : (parts : List (List ℕ)) → entry_at copy.files (below t parts) ≡ entry_at target.files (below t parts)
  stays parts = tried.copy_alone (below t parts) (beside-copy root parts)

  target_left : AreFine t copy.files
  target_left parts e is =
      left-fine t seed blocks pair.few c' there.start target there.passes there.records per target_has tried.target_ends
      (alike-fine 131072 blocks c o c' t alike (copy-fine o seed blocks c copied)) parts e (sym (stays parts) ∙ is)

  target_folder : entry_at copy.files t ≡ Some (FolderEntry false)
  target_folder =
      sym (root-entry copy.files t) ∙ stays [] ∙ stays-apart t seed blocks pair.few c' there.start target there.passes there.records per target_has tried.target_ends [] root-apart
      ∙ alike-folder 131072 blocks c o c' t alike [] false (copy-top o seed blocks c copied)

  target_unmarked : AreUnmarked copy.files t
  target_unmarked =
      let un = start-unmarked c' t there.start there.passes in
      record {
        rewind = stays rewind_parts ∙ stays-apart t seed blocks pair.few c' there.start target there.passes there.records per target_has tried.target_ends rewind_parts rewind-apart ∙ un.rewind;
        replay = stays mark_parts ∙ mark-gone t seed blocks pair.few c' there.start target there.passes there.records per target_has tried.target_ends;
        reset = stays reset_parts ∙ stays-apart t seed blocks pair.few c' there.start target there.passes there.records per target_has tried.target_ends reset_parts reset-apart ∙ un.reset;
      }

  can-compare : CanCompare 131072 copy.files o t
  can-compare = record {
    control = kept.0;
    found = _;
    there = _;
    unmarked = unmarked-finished copy.files o copy_unmarked;
    unmarked_too = unmarked-finished copy.files t target_unmarked;
    at = kept.1;
    per = kept.2;
    folder = ap is_folder target_folder;
    walk = fine-walked copy.files o (near (codes "c")) copy_left copy_folder;
    walk_too = fine-walked copy.files t (near (codes "t")) target_left target_folder;
    parts = fine-parts copy.files o (proper_with (codes "c") refl) copy_left;
    parts_too = fine-parts copy.files t (proper_with (codes "t") refl) target_left;
  }

pub pairs-compare : PairsCompareTheSame
pairs-compare root seed blocks c c' target copy pair tried =
    compared-same 131072 copy.files (copy_of root) (target_of root) (can-compare root seed blocks c c' target copy pair tried) (pairs-end root seed blocks c c' target copy pair tried)
