-- A plan is never refused, finds what it reads, and leaves the rewound tree.
use Rattle.std.proofs.Common.{◌≡◌, ◌≢◌, ℕ, ◌+◌, ◌==◌, Bool, true, false, cond, ◌||◌, ◌&&◌, List, [], ◌∷◌, ◌++◌, codes, length, Option, None, Some, is_some, refl, sym, ap, ap₂, ◌∙◌, append_assoc, true≢false, arith, rules}
use Rattle.std.specs.Prelude.{if◌then◌else◌, bytes_eq}
use Rattle.std.proofs.lemmas.List.{append-nil, drop_all}
use Rattle.std.proofs.lemmas.Slice.Eq.{bytes_eq-Decides}
use Rattle.std.specs.List.{list_any}
use Rattle.layout.specs.Splice.{splice}
use Rattle.cluster_tree.specs.PathValue.{PathValue, below, path_of}
use Rattle.cluster_tree.specs.PathOrder.{path_eq}
use Rattle.cluster_tree.specs.Contents.{Contents, Entry, FolderEntry, FileEntry, LinkEntry, entry_at, is_file, is_folder, or_root}
use Rattle.cluster_tree.specs.Tree.{bytes_in}
use Rattle.cluster_tree.specs.Change.{Change, Cuts, MakesFile, Syncs, Writes, all_changed, first_refusal}
use Rattle.marked_runs.specs.Runs.{ended}
use Rattle.gated_marks.specs.Changes.{begun_gated, gate_opened, text_laid}
use Rattle.rewind_writes.specs.Plan.{closing_changes, mark_gate, mark_head, plan_changes}
use Rattle.rewind_writes.specs.Steps.{steps_changes}
use Rattle.rewind_writes.specs.declared.plan.Plan.{Plan}
use Rattle.rewind_plan.proofs.JobLemmas.{changes-both, jobs-leave, jobs-unrefused}
use Rattle.cluster_tree.proofs.ContentsLemmas.{spliced-into_none}
use Rattle.block_refs.specs.declared.names.RelName.{RelName}
use Rattle.cluster_tree.proofs.OrderLemmas.{path_eq-own, path_eq-same, same_path}
use Rattle.control_file.specs.Writing.{control_bytes}
use Rattle.control_file.specs.declared.control.Control.{Control}
use Rattle.backup_label.specs.Text.{label_text}
use Rattle.backup_label.specs.declared.label.Label.{Label}
use Rattle.file_walk.specs.Actions.{action_at, by_kinds, cleared, is_control, is_kept, is_mark}
use Rattle.file_walk.specs.Excluded.{is_excluded}
use Rattle.file_walk.specs.Relations.{relation_of}
use Rattle.file_walk.specs.Walk.{kind_there}
use Rattle.file_walk.specs.declared.action.Action.TheVariants as action
use Rattle.file_walk.specs.declared.entry.EntryKind.TheVariants as kind
use Rattle.file_walk.specs.declared.pair.Pair.{Pair}
use Rattle.rewound_tree.specs.Rewound.{Rewinding, is_label, left_by, mixed_entry}
use Rattle.rewound_tree.specs.Rewound.{rewound as rewound_tree}
use Rattle.rewound_tree.specs.Rewound.{left_at as left_of}
use Rattle.rewind_plan.proofs.Jobs.{Job, Standing, after_job, changes_in}
use Rattle.rewind_plan.specs.Planned.{Between, in_target, steps_of}
use Rattle.rewind_plan.specs.Sides.{IsPaired, Sides, control_parts, label_parts, mark_parts}
use Rattle.rewind_plan.proofs.FitLemmas.{at_parts, doing_of, here_items}
use Rattle.rewind_plan.proofs.ItemLemmas.{all_jobs, left_at, leaves_of}
use Rattle.rewind_plan.proofs.PairLemmas.{items_of, steps-are}
use Rattle.rewind_plan.proofs.PlanFit.{control_is, control_job, control_off_label, control_off_mark, controlled, end_job, label_job, laid_new, label_off_mark, labelled, left_by as item_left, left_off, none_root, plan-fits, plan-leaves, plan_jobs, put_off, put_on, rewound, root_is}
use Rattle.rewind_plan.specs.PlanOf.{IsPlanOf, rewinding}
use Rattle.rewind_plan.proofs.RewoundLemmas.{pair-left}
use Rattle.rewind_plan.proofs.SideLemmas.{below-same}
use Rattle.rewind_plan.proofs.WholeLemmas.{left-alone}

some_or : (a b : Option Entry) → (is_some a || is_some b) ≡ false → (a ≡ None) × (b ≡ None)
some_or None None h = (refl, refl)
some_or None (Some x) h = absurd (true≢false h)
some_or (Some x) b h = absurd (true≢false h)

not_empty : (x : List ℕ) (xs : List (List ℕ)) → length (x ∷ xs) == 0 ≡ false
not_empty x xs = grind (arith, rules)

-- nothing on both sides stays nothing
nothing_there : (path : PathValue) → action_at path None None ≡ action.Nothing
unfolding action_at
nothing_there path = by (is_kept path) (is_excluded path)
  where
    by : (a b : Bool) → (if a then action.Nothing else if b then cleared None else by_kinds path None None) ≡ action.Nothing
    by true b = refl
    by false true = refl
    by false false = refl

root_open : is_excluded (path_of false []) ≡ false
unfolding is_excluded
root_open = refl

root_action : action_at (path_of false []) (Some kind.Folder) (Some kind.Folder) ≡ action.Nothing
unfolding action_at
root_action = ap (λ b. if b then cleared (Some kind.Folder) else by_kinds (path_of false []) (Some kind.Folder) (Some kind.Folder)) root_open

root_alone : relation_of (path_of false []) ≡ None
unfolding relation_of
root_alone = refl

mix_none : (r : Rewinding) (o p : Option Entry) → mixed_entry r None o p ≡ o
mix_none r o p = refl

mix_nothing : (r : Rewinding) (at : Option (RelName × ℕ)) → mixed_entry r at None None ≡ None
mix_nothing r None = refl
mix_nothing r (Some (rel, segment)) = refl

folder_kind_there : (o : Option Entry) → is_folder o ≡ true → kind_there o ≡ Some kind.Folder
folder_kind_there None h = absurd (true≢false (sym h))
folder_kind_there (Some (FolderEntry bad)) h = refl
folder_kind_there (Some (FileEntry bytes)) h = absurd (true≢false (sym h))
folder_kind_there (Some LinkEntry) h = absurd (true≢false (sym h))

module _ (c : Contents) (w : Between) (all : List Pair) (sides : Sides c w all) (new : Control) (label : Label) where
  abbrev r : Rewinding
  r = rewinding c w new label

  -- at each path below the root that isn't a rewind's own
  items_left : (parts : List (List ℕ)) → left_at (entry_at c) (items_of c w all) (below w.target parts) ≡ left_of r parts
  items_left [] =
      ap (left_at (entry_at c) (items_of c w all)) root_is' ∙ left-alone (entry_at c) (items_of c w all) w.target (none_root c w all sides) ∙ ap (entry_at c) (sym root_is')
      ∙ sym (ap₂ (λ k l. left_by r (relation_of (path_of false [])) (entry_at c (below w.target [])) (entry_at c (below w.source [])) (action_at (path_of false []) k l))
      (folder_kind_there (entry_at c (below w.target [])) (ap (λ p. is_folder (entry_at c p)) root_is' ∙ sides.target_root))
      (folder_kind_there (entry_at c (below w.source [])) (ap (λ p. is_folder (entry_at c p)) source_is ∙ sides.source_root))
      ∙ ap (left_by r (relation_of (path_of false [])) (entry_at c (below w.target [])) (entry_at c (below w.source []))) root_action
      ∙ ap (λ at. mixed_entry r at (entry_at c (below w.target [])) (entry_at c (below w.source []))) root_alone)
    where
      root_is' : below w.target [] ≡ w.target
      root_is' = root_is c w all sides

      source_is : below w.source [] ≡ w.source
      source_is = same_path (below w.source []) w.source refl (append-nil w.source.parts)
  items_left (part ∷ parts) = by (list_any (λ (y : Pair). path_eq q (in_target w y)) all) refl
    where
      q : PathValue
      q = below w.target (part ∷ parts)

      own : (y : Pair) → IsPaired c w y → q ≡ in_target w y → leaves_of q (doing_of c w y) (entry_at c q) ≡ left_of r (part ∷ parts)
      own y paired e =
          ap (λ p. leaves_of p (doing_of c w y) (entry_at c p)) e ∙ pair-left c w new label y paired ∙ ap (left_of r) (sym (below-same w.target (part ∷ parts) y.path.parts e))

      by : (b : Bool) → list_any (λ (y : Pair). path_eq q (in_target w y)) all ≡ b → left_at (entry_at c) (items_of c w all) q ≡ left_of r (part ∷ parts)
      by true among = item_left c w all sides q (left_of r (part ∷ parts)) all sides.paired among own
      by false none =
          let both = some_or (entry_at c q) (entry_at c (below w.source (part ∷ parts))) (absent (is_some (entry_at c q) || is_some (entry_at c (below w.source (part ∷ parts)))) refl) in
          left-alone (entry_at c) (items_of c w all) q (here_items c w q all ∙ none) ∙ both.0
          ∙ sym (ap₂ (λ o p. left_by r (relation_of (path_of false (part ∷ parts))) o p (action_at (path_of false (part ∷ parts)) (kind_there o) (kind_there p))) both.0 both.1
          ∙ ap (left_by r (relation_of (path_of false (part ∷ parts))) None None) (nothing_there (path_of false (part ∷ parts))) ∙ mix_nothing r (relation_of (path_of false (part ∷ parts))))
        where
          absent : (b : Bool) → (is_some (entry_at c q) || is_some (entry_at c (below w.source (part ∷ parts)))) ≡ b → b ≡ false
          absent false h = refl
          absent true h = absurd (true≢false (sym (at_parts c w (part ∷ parts) all sides.paired ∙ sides.whole (part ∷ parts) (not_empty part parts) h) ∙ none))

  -- ---- which path of a rewind's own it is

  one_name : (first : List ℕ) (name : List ℕ) → bytes_eq first name ≡ true → first ≡ name
  one_name first name h = (bytes_eq-Decides first name).0 h

  label_is : (parts : List (List ℕ)) → is_label parts ≡ true → parts ≡ label_parts
  label_is [] h = absurd (true≢false (sym h))
  label_is (first ∷ []) h = ap (λ x. x ∷ []) (one_name first (codes "backup_label") h)
  label_is (first ∷ second ∷ parts) h = absurd (true≢false (sym h))

  control_parts_are : (parts : List (List ℕ)) → is_control parts ≡ true → parts ≡ control_parts
  control_parts_are [] h = absurd (true≢false (sym h))
  control_parts_are (first ∷ []) h = absurd (true≢false (sym h))
  control_parts_are (first ∷ second ∷ []) h =
      let two = and_parts (bytes_eq first (codes "global")) (bytes_eq second (codes "pg_control")) h in
      ap₂ (λ x y. x ∷ y ∷ []) (one_name first (codes "global") two.0) (one_name second (codes "pg_control") two.1)
    where
      and_parts : (a b : Bool) → (a && b) ≡ true → (a ≡ true) × (b ≡ true)
      and_parts true b e = (refl, e)
      and_parts false b e = absurd (true≢false (sym e))
  control_parts_are (first ∷ second ∷ third ∷ parts) h = absurd (true≢false (sym h))

  module _ (text label_bytes new_bytes : List ℕ) (label_same : label_bytes ≡ label_text label) (control_same : new_bytes ≡ control_bytes new) (long : length new_bytes ≡ 8192) where
    abbrev left : Standing
    left = after_job (controlled c w all sides text label_bytes new_bytes) (end_job (below w.target mark_parts))

    -- a path that isn't a rewind's own
    other_left : (parts : List (List ℕ)) → below w.target parts ≢ below w.target mark_parts → below w.target parts ≢ below w.target label_parts → below w.target parts ≢ below w.target control_parts → left (below w.target parts) ≡ left_of r parts
    other_left parts off_mark off_label off_control =
        put_off c w all sides (controlled c w all sides text label_bytes new_bytes) (end_job (below w.target mark_parts)) (below w.target parts) off_mark
        ∙ put_off c w all sides (labelled c w all sides text label_bytes new_bytes) (control_job (below w.target control_parts) new_bytes) (below w.target parts) off_control
        ∙ put_off c w all sides (rewound c w all sides text label_bytes new_bytes) (label_job (below w.target label_parts) label_bytes) (below w.target parts) off_label
        ∙ left_off c w all sides text label_bytes new_bytes (below w.target parts) off_mark
        ∙ items_left parts

    at_label : left (below w.target label_parts) ≡ Some (FileEntry (label_text label))
    at_label =
        put_off c w all sides (controlled c w all sides text label_bytes new_bytes) (end_job (below w.target mark_parts)) (below w.target label_parts) (label_off_mark c w all sides)
        ∙ put_off c w all sides (labelled c w all sides text label_bytes new_bytes) (control_job (below w.target control_parts) new_bytes) (below w.target label_parts) (λ e. control_off_label c w all sides (sym e))
        ∙ put_on c w all sides (rewound c w all sides text label_bytes new_bytes) (label_job (below w.target label_parts) label_bytes)
        ∙ ap (λ b. Some (FileEntry b)) (spliced-into_none label_bytes ∙ label_same)

    over : (old : List ℕ) → length old ≡ 8192 → splice old 0 new_bytes ≡ new_bytes
    unfolding splice
    over old size = ap (λ l. new_bytes ++ l) (drop_all (0 + length new_bytes) old (omega (arith, size, long))) ∙ append-nil new_bytes

    at_control : left (below w.target control_parts) ≡ Some (FileEntry (control_bytes new))
    at_control =
        put_off c w all sides (controlled c w all sides text label_bytes new_bytes) (end_job (below w.target mark_parts)) (below w.target control_parts) (control_off_mark c w all sides)
        ∙ put_on c w all sides (labelled c w all sides text label_bytes new_bytes) (control_job (below w.target control_parts) new_bytes)
        ∙ ap (λ o. Some (FileEntry (splice (bytes_in o) 0 new_bytes))) (control_is c w all sides text label_bytes new_bytes ∙ sides.control.1)
        ∙ ap (λ b. Some (FileEntry b)) (over sides.control.0 sides.control.2 ∙ control_same)

    at_mark : left (below w.target mark_parts) ≡ None
    at_mark = put_on c w all sides (controlled c w all sides text label_bytes new_bytes) (end_job (below w.target mark_parts)) ∙ root_gone w.target.parts (codes "pg_rewind.unfinished")
      where
        root_gone : (xs : List (List ℕ)) (y : List ℕ) → or_root (xs ++ y ∷ []) None ≡ None
        root_gone [] y = refl
        root_gone (x ∷ xs) y = refl

    both_none : (parts : List (List ℕ)) → is_mark parts ≡ true → left_of r parts ≡ None
    both_none parts h =
        ap₂ (λ o p. left_by r (relation_of (path_of false parts)) o p (action_at (path_of false parts) (kind_there o) (kind_there p))) (sides.marks_target parts h) (sides.marks_source parts h)
        ∙ ap (left_by r (relation_of (path_of false parts)) None None) (nothing_there (path_of false parts)) ∙ mix_nothing r (relation_of (path_of false parts))

    -- the whole tree
    pub whole-left : (parts : List (List ℕ)) → left (below w.target parts) ≡ rewound_tree r parts
    unfolding rewound_tree
    whole-left parts = by (is_label parts) (is_control parts) (is_mark parts) refl refl refl
      where
        label_no : is_label parts ≡ false → below w.target parts ≢ below w.target label_parts
        label_no h e = true≢false (sym (ap is_label (below-same w.target parts label_parts e)) ∙ h)

        control_no : is_control parts ≡ false → below w.target parts ≢ below w.target control_parts
        control_no h e = true≢false (sym (ap is_control (below-same w.target parts control_parts e)) ∙ h)

        mark_no : is_mark parts ≡ false → below w.target parts ≢ below w.target mark_parts
        mark_no h e = true≢false (sym (ap is_mark (below-same w.target parts mark_parts e)) ∙ h)

        by : (a b d : Bool) → is_label parts ≡ a → is_control parts ≡ b → is_mark parts ≡ d
            → left (below w.target parts) ≡ (if a then Some (FileEntry (label_text label)) else if b then Some (FileEntry (control_bytes new)) else if d then None else left_of r parts)
        by true b d ha hb hd = ap (λ p. left (below w.target p)) (label_is parts ha) ∙ at_label
        by false true d ha hb hd = ap (λ p. left (below w.target p)) (control_parts_are parts hb) ∙ at_control
        by false false true ha hb hd = marks (path_eq (below w.target parts) (below w.target mark_parts)) refl
          where
            marks : (b : Bool) → path_eq (below w.target parts) (below w.target mark_parts) ≡ b → left (below w.target parts) ≡ None
            marks true same = ap left (path_eq-same (below w.target parts) (below w.target mark_parts) same) ∙ at_mark
            marks false off = other_left parts (λ e. true≢false (sym (ap (path_eq (below w.target parts)) (sym e) ∙ path_eq-own (below w.target parts)) ∙ off)) (label_no ha) (control_no hb) ∙ both_none parts hd
        by false false false ha hb hd = other_left parts (mark_no hd) (label_no ha) (control_no hb)

-- ---- the changes of a plan are those of its jobs

module _ (w : Between) (all : List Pair) (new : Control) (label : Label) (plan : Plan) (of : IsPlanOf w all new label plan) where
  pub closing_is : closing_changes plan.label plan.control ≡ MakesFile (below w.target label_parts) ∷ Writes (below w.target label_parts) 0 (label_text label) ∷ Writes (below w.target control_parts) 0 (control_bytes new) ∷ []
  closing_is =
      ap₂ (λ p b. MakesFile p ∷ Writes p 0 b ∷ Writes plan.control.path 0 plan.control.bytes.items ∷ []) of.label_at of.label_says
      ∙ ap₂ (λ p b. MakesFile (below w.target label_parts) ∷ Writes (below w.target label_parts) 0 (label_text label) ∷ Writes p 0 b ∷ []) of.control_at of.control_says

module _ (c : Contents) (text : List ℕ) (w : Between) (all : List Pair) (new : Control) (label : Label) (plan : Plan) (sides : Sides c w all) (of : IsPlanOf w all new label plan) where
  abbrev pub jobs : List Job
  jobs = plan_jobs c w all sides text (label_text label) (control_bytes new)

  regroup : (a b d e : List Change) → a ++ (b ++ d) ++ e ≡ a ++ (b ++ (d ++ e))
  regroup a b d e = append_assoc a (b ++ d) e ∙ ap (λ l. a ++ l) (append_assoc b d e)

  -- nothing stands at the mark, so it is made
  new_mark : begun_gated c (below w.target mark_parts) mark_head mark_gate text ≡ laid_new (below w.target mark_parts) text
  new_mark =
      let m = below w.target mark_parts in
      ap (λ o. (cond (is_file o) (Cuts m 0 ∷ Syncs ∷ []) (MakesFile m ∷ []) ++ Writes m 0 mark_head ∷ Syncs ∷ []) ++ text_laid m (length mark_head) text ++ gate_opened m mark_gate) (sides.marks_target mark_parts refl)

  pub changes-are : plan_changes c text plan ≡ changes_in jobs
  changes-are =
      ap₂ (λ m s. begun_gated c m mark_head mark_gate text ++ (steps_changes c s ++ closing_changes plan.label plan.control) ++ ended m) of.mark of.steps
      ∙ ap (λ l. l ++ (steps_changes c (steps_of w all) ++ closing_changes plan.label plan.control) ++ ended (below w.target mark_parts)) new_mark
      ∙ ap (λ l. laid_new (below w.target mark_parts) text ++ (steps_changes c (steps_of w all) ++ l) ++ ended (below w.target mark_parts)) (closing_is w all new label plan of)
      ∙ regroup (laid_new (below w.target mark_parts) text) (steps_changes c (steps_of w all)) (MakesFile (below w.target label_parts) ∷ Writes (below w.target label_parts) 0 (label_text label) ∷ Writes (below w.target control_parts) 0 (control_bytes new) ∷ []) (ended (below w.target mark_parts))
      ∙ ap (λ l. laid_new (below w.target mark_parts) text ++ (l ++ (MakesFile (below w.target label_parts) ∷ Writes (below w.target label_parts) 0 (label_text label) ∷ Writes (below w.target control_parts) 0 (control_bytes new) ∷ ended (below w.target mark_parts)))) (sym (steps-are c w all))
      ∙ ap (λ l. laid_new (below w.target mark_parts) text ++ l) (sym (changes-both (all_jobs (items_of c w all)) (label_job (below w.target label_parts) (label_text label) ∷ control_job (below w.target control_parts) (control_bytes new) ∷ end_job (below w.target mark_parts) ∷ [])))

  pub plan-unrefused : first_refusal c (plan_changes c text plan) ≡ None
  plan-unrefused = ap (first_refusal c) changes-are ∙ jobs-unrefused c (entry_at c) jobs (λ q. refl) (plan-fits c w all sides text (label_text label) (control_bytes new))

  pub plan-leaves-all : (parts : List (List ℕ)) → entry_at (all_changed c (plan_changes c text plan)) (below w.target parts) ≡ rewound_tree (rewinding c w new label) parts
  plan-leaves-all parts =
      ap (λ l. entry_at (all_changed c l) (below w.target parts)) changes-are
      ∙ jobs-leave c (entry_at c) jobs (λ q. refl) (plan-fits c w all sides text (label_text label) (control_bytes new)) (below w.target parts)
      ∙ plan-leaves c w all sides text (label_text label) (control_bytes new) (below w.target parts)
      ∙ whole-left c w all sides new label text (label_text label) (control_bytes new) refl refl of.control_long parts
