-- The blocks of a rewound target and of a whole copy of its source fit the base that target and source grew from.
use Rattle.std.proofs.Common.{◌≡◌, ◌⊎◌, ℕ, ℤ, ◌<◌, ◌≤◌, Bool, true, false, List, length, Option, None, Ok, is_some, inl, inr, refl, sym, ap, ◌∙◌, subst}
use Rattle.rmgr_hooks.specs.Custom.{Extension}
use Rattle.std.specs.Option.{option_and_then}
use Rattle.std.specs.Prelude.{if◌then◌else◌}
use Rattle.alike_clusters.proofs.NameLemmas.{file-lies}
use Rattle.alike_clusters.specs.Clusters.{AlikeClusters, is_alike}
use Rattle.block_refs.specs.declared.names.BlockName.{BlockName}
use Rattle.block_refs.specs.declared.names.Fork.{Fork}
use Rattle.block_refs.specs.declared.names.Fork.TheVariants.{Init}
use Rattle.block_refs.specs.declared.names.RelName.{RelName}
use Rattle.cluster_compare.specs.Same.{has_init}
use Rattle.cluster_laws.specs.Kinds.{HasKinds}
use Rattle.cluster_laws.specs.Converging.{IsBased}
use Rattle.cluster_tree.specs.Contents.{Contents, entry_at, is_file}
use Rattle.cluster_tree.specs.PathValue.{PathValue, below, path_of}
use Rattle.file_walk.specs.Excluded.{is_excluded}
use Rattle.page_masks.specs.Law.{view}
use Rattle.replay_core.specs.Replayed.{first_world}
use Rattle.replay_law.specs.Stage.{Fits}
use Rattle.replay_laws.specs.Converging.{Begins, FitsBase}
use Rattle.replay_laws.specs.Held.{IsMainBlock}
use Rattle.replay_laws.specs.Log.{steps}
use Rattle.replay_laws.specs.Whole.{AreWhole}
use Rattle.replay_start.specs.Checked.{Start}
use Rattle.rewind_core.specs.Fits.{IsRewound}
use Rattle.rewind_core.specs.Planned.{Needing, Needs, planned_of}
use Rattle.rewind_plan.specs.PlanOf.{rewinding}
use Rattle.rewind_plan.specs.Planned.{Between}
use Rattle.rewind_plan.specs.Sides.{Sides}
use Rattle.rewound_tree.specs.Rewound.{Rewinding, rewound, whole_copy}
use Rattle.storage_laws.specs.Forks.{HasNoGap}
use Rattle.storage_laws.specs.Names.{IsRel, block_of}
use Rattle.storage_laws.specs.States.{block_in, page_in, page_or_none}
use Rattle.rewound_laws.specs.Blocks.{AreReady}
use Rattle.rewound_laws.specs.Copy.{IsWholeCopy}
use Rattle.rewound_laws.specs.Grew.{GrewFrom, GrewFromOneState}
use Rattle.rewound_laws.specs.Needed.{IsNeeded}
use Rattle.rewound_laws.proofs.AlikeWhole.{rewound-alike}
use Rattle.rewound_laws.proofs.BlockKindLemmas.{copy-folder, copy-has-kinds}
use Rattle.rewound_laws.proofs.BlockSideLemmas.{copied-block, copied-file, left-block, left-is_file, left-there}
use Rattle.rewound_laws.proofs.BlockStartLemmas.{copy-relseg, some-blocks}
use Rattle.rewound_laws.proofs.BlockTreeLemmas.{IsRooted, alike-rooted}
use Rattle.rewound_laws.proofs.BlockWorldLemmas.{begun-block, begun-init, begun-no_gap, begun-tree, replay_mark}
use Rattle.rewound_laws.proofs.NeededLemmas.{needed-target, planned-needed}

pub copy-kinds : (c d : Contents) (n : Needing) (other : PathValue) → IsWholeCopy c n d other → HasKinds n.aim.between.source c → length other.parts ≤ 61 → HasKinds other d
copy-kinds c d n other copied kinds room = copy-has-kinds c d n other copied kinds room

-- a page by its block
page_as : (root other : PathValue) (per : ℕ) (name : BlockName) (c d : Contents) → block_in root per name c ≡ block_in other per name d → page_in root per name c ≡ page_in other per name d
page_as root other per name c d same = ap (option_and_then page_or_none) same

-- a fork has no gap where another, with the same blocks, has none
gap_as : (root other : PathValue) (per : ℕ) (rel : RelName) (fork : Fork) (c d : Contents)
    → ((name : BlockName) → is_some (block_in root per name c) ≡ is_some (block_in other per name d)) → HasNoGap other per rel fork d → HasNoGap root per rel fork c
gap_as root other per rel fork c d same no_gap block next less most there =
    same (block_of rel fork block) ∙ no_gap block next less most (sym (same (block_of rel fork next)) ∙ there)

module _ (custom : Option Extension) (base : BlockName → Option (List ℕ)) (c c' d : Contents) (target source other : PathValue) (now : ℤ) (n : Needing) (s : Start)
    (planned : planned_of c target source now ≡ Ok (Needs n)) (sides : Sides c n.aim.between n.pairs) (left : IsRewound c n c') (copied : IsWholeCopy c n d other)
    (grew : GrewFromOneState custom base c n d other s) where
  abbrev w : Between
  w = n.aim.between

  abbrev per : ℕ
  per = w.per_file

  abbrev r : Rewinding
  r = rewinding c w n.aim.control n.aim.label

  needed : IsNeeded c target source now n
  needed = planned-needed c target source now n planned

  some : 0 < per
  some = some-blocks custom c d target source other now n s needed

  relseg : s.control.relseg ≡ per
  relseg = copy-relseg custom c d target source other now n s needed copied grew.log.starts

  source_gap : (rel : RelName) (fork : Fork) → IsRel rel → HasNoGap w.source per rel fork c
  source_gap rel fork few = grew.files.no_gap rel fork few

  -- ---- the whole copy

  no_mark_copied : entry_at d (below other replay_mark) ≡ None
  unfolding whole_copy
  no_mark_copied = copied replay_mark ∙ by (is_excluded (path_of false replay_mark))
    where
      by : (b : Bool) → (if b then None else entry_at c (below w.source replay_mark)) ≡ None
      by true = refl
      by false = sides.marks_source replay_mark refl

  copy_whole : AreWhole other per (first_world d other s).files
  copy_whole = record {
    tree = begun-tree d other grew.log.tree (copy-folder c d n other copied grew.files.kinds) no_mark_copied;
    no_gap = λ rel fork few. begun-no_gap d other per rel fork
        (gap_as other w.source per rel fork d c (λ name. ap is_some (copied-block c d n other copied per name)) (source_gap rel fork few));
  }

  copy_init : (rel : RelName) → has_init (first_world d other s).files other rel ≡ has_init c w.source rel
  copy_init rel = begun-init d other rel ∙ ap is_file (copied-file c d n other copied rel Init 0) ∙ sym (ap (λ p. is_file (entry_at c p)) (file-lies w.source rel Init 0))

  copy_fits : (name : BlockName) → IsMainBlock name → has_init c w.source name.rel ≡ false → FitsBase custom other per name (base name) s.records (first_world d other s)
  copy_fits name main logged =
      subst (λ page. Fits (view name.block) (base name) page (steps custom name s.records))
      (sym (page_as other w.source per name (first_world d other s).files c (begun-block d other per name ∙ copied-block c d n other copied per name)))
      (grew.logged name main logged).source

  -- ---- the rewound target

  no_mark_left : entry_at c' (below w.target replay_mark) ≡ None
  unfolding rewound
  no_mark_left = left.inside replay_mark

  alike : AlikeClusters per d other c' target
  alike = rewound-alike c c' d target source other now n needed sides left copied grew.room

  left_rooted : IsRooted c' w.target
  left_rooted =
      alike-rooted (is_alike per) c c' d w.target other (subst (λ root. AlikeClusters per d other c' root) (sym (needed-target c target source now n needed)) alike).alike left.elsewhere
      sides.tree grew.log.tree sides.target_root (copy-folder c d n other copied grew.files.kinds)

  left_whole : AreWhole w.target per (first_world c' w.target s).files
  left_whole = record {
    tree = begun-tree c' w.target left_rooted.tree left_rooted.there no_mark_left;
    no_gap = λ rel fork few. begun-no_gap c' w.target per rel fork
        (gap_as w.target w.source per rel fork c' c (λ name. left-there c c' n sides left per name) (source_gap rel fork few));
  }

  left_init : (rel : RelName) → has_init (first_world c' w.target s).files w.target rel ≡ has_init c w.source rel
  left_init rel = begun-init c' w.target rel ∙ left-is_file c c' n sides left rel Init 0 ∙ sym (ap (λ p. is_file (entry_at c p)) (file-lies w.source rel Init 0))

  -- a block is the source's, or the target's that its own log didn't touch
  left_page : (name : BlockName) → GrewFrom custom (base name) c w s name
      → (block_in w.target per name c' ≡ block_in w.source per name c)
      ⊎ ((is_some (block_in w.target per name c) ≡ true) × (w.wanted name.rel name.block ≡ false) × (block_in w.target per name c' ≡ block_in w.target per name c))
      → Fits (view name.block) (base name) (page_in w.target per name c') (steps custom name s.records)
  left_page name from (inl new) = subst (λ page. Fits (view name.block) (base name) page (steps custom name s.records)) (sym (page_as w.target w.source per name c' c new)) from.source
  left_page name from (inr (has, free, old)) =
      subst (λ page. Fits (view name.block) (base name) page (steps custom name s.records)) (sym (page_as w.target w.target per name c' c old)) (inl (0, from.target has free))

  left_fits : (name : BlockName) → IsMainBlock name → has_init c w.source name.rel ≡ false → FitsBase custom w.target per name (base name) s.records (first_world c' w.target s)
  left_fits name main logged =
      subst (λ page. Fits (view name.block) (base name) page (steps custom name s.records))
      (sym (page_as w.target w.target per name (first_world c' w.target s).files c' (begun-block c' w.target per name)))
      (left_page name (grew.logged name main logged) (left-block c c' n sides left name some main))

  -- ---- both, by the size of files that the copy's control file says

  based : (root : PathValue) (files : Contents) → AreWhole root per (first_world files root s).files → ((rel : RelName) → has_init (first_world files root s).files root rel ≡ has_init c w.source rel)
      → ((name : BlockName) → IsMainBlock name → has_init c w.source name.rel ≡ false → FitsBase custom root per name (base name) s.records (first_world files root s))
      → IsBased custom base s.label.start.0 s.records root s.control.relseg (first_world files root s)
  based root files whole init fits = record {
    begins = subst (λ k. Begins root k (first_world files root s)) (sym relseg) (record { some = some; whole = whole; none = refl });
    life = λ name main logged. (grew.logged name main (sym (init name.rel) ∙ logged)).life;
    fits = λ name main logged. subst (λ k. FitsBase custom root k name (base name) s.records (first_world files root s)) (sym relseg) (fits name main (sym (init name.rel) ∙ logged));
    unchanged = λ name main unlogged. grew.unlogged name main (sym (init name.rel) ∙ unlogged);
  }

  pub blocks-fit : AreReady custom base n c' d other s
  blocks-fit = record {
    relseg = relseg;
    copy = based other d copy_whole copy_init copy_fits;
    rewound = based w.target c' left_whole left_init left_fits;
  }
