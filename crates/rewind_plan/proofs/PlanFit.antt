-- The mark, the steps, the label, the control file, the mark's end: none is refused in its turn, and what they leave.
use Rattle.std.proofs.Common.{◌≡◌, ◌≢◌, ℕ, ◌==◌, Bool, true, false, ◌||◌, ◌&&◌, cond, List, [], ◌∷◌, ◌++◌, codes, length, Option, None, Some, is_some, refl, sym, ap, ◌∙◌, subst, true≢false, arith, rules}
use Rattle.std.proofs.lemmas.List.{append-nil}
use Rattle.std.specs.List.{list_all, list_any}
use Rattle.layout.specs.Splice.{splice}
use Rattle.cluster_tree.specs.PathValue.{PathValue, below, path_of}
use Rattle.cluster_tree.specs.PathOrder.{path_eq}
use Rattle.cluster_tree.specs.Contents.{Contents, Entry, FolderEntry, FileEntry, LinkEntry, entry_at, is_folder, or_root, parent}
use Rattle.cluster_tree.specs.Change.{Change, MakesFile, Syncs, Writes}
use Rattle.cluster_tree.specs.Folders.{lies_in}
use Rattle.cluster_tree.specs.Tree.{refusal_in}
use Rattle.cluster_tree.proofs.OrderLemmas.{path_eq-other, path_eq-own, path_eq-same, same_path}
use Rattle.file_walk.specs.Actions.{action_at, is_kept}
use Rattle.file_walk.specs.Excluded.{is_excluded}
use Rattle.wal_base.specs.Decimal.{decimal_number}
use Rattle.relation_files.specs.Reading.{file_named}
use Rattle.file_walk.specs.Relations.{relation_of}
use Rattle.file_walk.specs.declared.entry.EntryKind.{EntryKind}
use Rattle.file_walk.specs.declared.pair.Pair.{Pair}
use Rattle.cluster_tree.proofs.ContentsLemmas.{spliced-into_none}
use Rattle.marked_runs.specs.Runs.{ended}
use Rattle.gated_marks.specs.Changes.{gate_opened, text_laid}
use Rattle.gated_marks.specs.Gates.{plus}
use Rattle.rewind_writes.specs.Plan.{mark_gate, mark_head}
use Rattle.rewind_writes.specs.Steps.{steps_changes}
use Rattle.rewind_plan.proofs.Jobs.{AllFit, Job, JobFits, JobsFit, Standing, after_job, after_jobs, is_own, made_of}
use Rattle.rewind_plan.specs.Planned.{Between, in_source, in_target, touched_steps}
use Rattle.rewind_plan.specs.Sides.{AllPaired, IsPaired, Sides, control_parts, label_parts, mark_parts}
use Rattle.rewind_plan.proofs.FileLemmas.{splice-longer, within}
use Rattle.rewind_plan.proofs.FitLemmas.{at_parts, doing_of, excluded-absent, excluded-goes, here_items, kept-stays}
use Rattle.rewind_plan.proofs.Items.{Item, here}
use Rattle.rewind_plan.proofs.FolderItems.{after-same, jobs-same}
use Rattle.rewind_plan.proofs.ItemLemmas.{ItemsFit, all_jobs, items-fit, items-leave, left_at, leaves_of}
use Rattle.rewind_plan.proofs.JobLemmas.{after-both, fit-both}
use Rattle.rewind_plan.proofs.PairLemmas.{doing_by, filling, item_of, items_of}
use Rattle.rewind_plan.proofs.KindLemmas.{deep_in, kind_none, none_kind, or_first}
use Rattle.rewind_plan.proofs.PlaceLemmas.{front-of, parent-front, path_at}
use Rattle.rewind_plan.proofs.SideLemmas.{above-folder, below-same, child-is, parent-of}
use Rattle.rewind_plan.proofs.SidesFit.{sides-fit, source_up, target_up}
use Rattle.rewind_plan.proofs.WholeLemmas.{AllOff, IsOff, fit-beside, left-alone, left-beside}

-- ---- what a path of a rewind's own is

label_loose : is_kept (path_of false label_parts) ≡ false
label_loose = refl

label_excluded : is_excluded (path_of false label_parts) ≡ true
unfolding is_excluded
label_excluded = refl

label_alone : relation_of (path_of false label_parts) ≡ None
unfolding relation_of
label_alone = refl

mark_kept : is_kept (path_of false mark_parts) ≡ true
mark_kept = refl

control_kept : is_kept (path_of false control_parts) ≡ true
control_kept = refl

control_alone : relation_of (path_of false control_parts) ≡ None
unfolding relation_of file_named decimal_number
control_alone = refl

folder_fine : (o : Option Entry) → is_folder o ≡ true → refusal_in o ≡ None
folder_fine None e = absurd (true≢false (sym e))
folder_fine (Some (FolderEntry bad)) e = refl
folder_fine (Some (FileEntry bytes)) e = absurd (true≢false (sym e))
folder_fine (Some LinkEntry) e = absurd (true≢false (sym e))

and_none : (a b : Bool) → b ≡ false → (a && b) ≡ false
and_none true b h = h
and_none false b h = refl

-- a new mark that holds a text
abbrev pub laid_new : PathValue → List ℕ → List Change
laid_new m text = MakesFile m ∷ Writes m 0 mark_head ∷ Syncs ∷ (text_laid m (length mark_head) text ++ gate_opened m mark_gate)

laid_own : (m : PathValue) (text : List ℕ) → list_all (is_own m) (laid_new m text) ≡ true
laid_own m [] = ap (λ b. b && (b && (b && true))) (path_eq-own m)
laid_own m (x ∷ text) = ap (λ b. b && (b && (b && (b && true)))) (path_eq-own m)

-- the bytes that it then holds
abbrev laid_bytes : List ℕ → List ℕ
laid_bytes [] = splice (splice [] 0 mark_head) mark_gate (plus ∷ [])
laid_bytes (x ∷ text) = splice (splice (splice [] 0 mark_head) (length mark_head) (x ∷ text)) mark_gate (plus ∷ [])

laid_made : (m : PathValue) (text : List ℕ) (o : Option Entry) → made_of o (laid_new m text) ≡ Some (FileEntry (laid_bytes text))
laid_made m [] o = refl
laid_made m (x ∷ text) o = refl

head_long : length (splice [] 0 mark_head) ≡ 14
head_long = ap length (spliced-into_none mark_head)

laid_fits : (stands : Standing) (m : PathValue) (text : List ℕ) → refusal_in (stands (parent m)) ≡ None → AllFit stands m None (laid_new m text)
laid_fits stands m [] up = ((refl, up), (within [] 0 (omega arith), (tt, (tt, (within (splice [] 0 mark_head) mark_gate (omega (arith, head_long)), (tt, tt))))))
laid_fits stands m (x ∷ text) up =
    let long = splice-longer (splice [] 0 mark_head) (length mark_head) (x ∷ text) (omega (arith, head_long)) in
    ((refl, up), (within [] 0 (omega arith), (tt, (within (splice [] 0 mark_head) (length mark_head) (omega (arith, head_long)), (tt, (within (splice (splice [] 0 mark_head) (length mark_head) (x ∷ text)) mark_gate (omega (arith, head_long, long)), (tt, tt)))))))

abbrev pub begin_job : PathValue → List ℕ → Job
begin_job m text = record { path = m; changes = laid_new m text }

abbrev pub label_job : PathValue → List ℕ → Job
label_job l bytes = record { path = l; changes = MakesFile l ∷ Writes l 0 bytes ∷ [] }

abbrev pub control_job : PathValue → List ℕ → Job
control_job k bytes = record { path = k; changes = Writes k 0 bytes ∷ [] }

abbrev pub end_job : PathValue → Job
end_job m = record { path = m; changes = ended m }

module _ (c : Contents) (w : Between) (all : List Pair) (sides : Sides c w all) where
  abbrev pub items : List Item
  items = items_of c w all

  abbrev pub mark : PathValue
  mark = below w.target mark_parts

  abbrev pub label : PathValue
  label = below w.target label_parts

  abbrev pub control : PathValue
  control = below w.target control_parts

  pub root_is : below w.target [] ≡ w.target
  root_is = same_path (below w.target []) w.target refl (append-nil w.target.parts)

  -- ---- the mark is off all items

  not_both : (a b : Option EntryKind) → a ≡ None → b ≡ None → (is_some a || is_some b) ≡ true → ⊥
  not_both a b n1 n2 h = true≢false (sym h ∙ ap (λ o. is_some o || is_some b) n1 ∙ ap is_some n2)

  no_folder : (o : Option Entry) → o ≡ None → is_folder o ≡ true → ⊥
  no_folder o none h = true≢false (sym h ∙ ap is_folder none)

  pub off_one : (x : Pair) → IsPaired c w x → IsOff mark (item_of c w x)
  off_one x paired = (
    λ e. let parts : x.path.parts ≡ mark_parts = below-same w.target x.path.parts mark_parts e in
        not_both x.target x.source
        (none_kind x.target (entry_at c (in_target w x)) paired.target (ap (λ p. entry_at c (below w.target p)) parts ∙ (sides.marks_target mark_parts refl)))
        (none_kind x.source (entry_at c (in_source w x)) paired.source (ap (λ p. entry_at c (below w.source p)) parts ∙ (sides.marks_source mark_parts refl))) paired.some,
    λ e. up e (is_some x.target) refl,
    and_none _ (path_eq (in_target w x) (parent mark)) (path_eq-other (in_target w x) (parent mark) (λ e.
        let parts : x.path.parts ≡ [] = below-same w.target x.path.parts [] (e ∙ parent-of w.target [] (codes "pg_rewind.unfinished")) in
        true≢false (ap (λ p. length p == 0) (sym parts) ∙ paired.deep))),
  )
    where
      up : parent (in_target w x) ≡ mark → (b : Bool) → is_some x.target ≡ b → ⊥
      up e true some =
          let f = front-of c w all sides x paired in
          let same : f.front ≡ mark_parts = below-same w.target f.front mark_parts (sym (parent-front c w all sides x f) ∙ e) in
          no_folder (entry_at c (below w.target f.front)) (ap (λ p. entry_at c (below w.target p)) same ∙ (sides.marks_target mark_parts refl)) (target_up c w all sides x f paired some)
      up e false none =
          let f = front-of c w all sides x paired in
          let same : f.front ≡ mark_parts = below-same w.target f.front mark_parts (sym (parent-front c w all sides x f) ∙ e) in
          let some : is_some x.source ≡ true = sym (ap (λ b. b || is_some x.source) none) ∙ paired.some in
          no_folder (entry_at c (below w.source f.front)) (ap (λ p. entry_at c (below w.source p)) same ∙ (sides.marks_source mark_parts refl)) (source_up c w all sides x f paired some)

  off_from : (xs : List Pair) → AllPaired c w xs → AllOff mark (items_of c w xs)
  off_from [] paired = tt
  off_from (x ∷ xs) paired = (off_one x paired.0, off_from xs paired.1)

  off_all : AllOff mark items
  off_all = off_from all sides.paired

  -- no item is at a path that is off it
  none_at : (q : PathValue) → ((x : Pair) → IsPaired c w x → in_target w x ≢ q) → (xs : List Pair) → AllPaired c w xs → list_any (here q) (items_of c w xs) ≡ false
  none_at q off [] paired = refl
  none_at q off (x ∷ xs) paired =
      ap (λ b. b || list_any (here q) (items_of c w xs)) (path_eq-other q (in_target w x) (λ e. off x paired.0 (sym e))) ∙ none_at q off xs paired.1

  pub none_mark : list_any (here mark) items ≡ false
  none_mark = none_at mark (λ x paired. (off_one x paired).0) all sides.paired

  pub none_root : list_any (here w.target) items ≡ false
  none_root = none_at w.target (λ x paired e. true≢false (ap (λ p. length p == 0) (sym (below-same w.target x.path.parts [] (e ∙ sym root_is))) ∙ paired.deep)) all sides.paired

  none_inside : (name : List ℕ) → list_any (here (below w.target (mark_parts ++ name ∷ []))) items ≡ false
  none_inside name = none_at (below w.target (mark_parts ++ name ∷ [])) (λ x paired e. (off_one x paired).1 (ap parent e ∙ parent-of w.target mark_parts name)) all sides.paired

  -- ---- what is left at the label's path and the control file's

  pub left_by : (q : PathValue) (o : Option Entry) (xs : List Pair) → AllPaired c w xs → list_any (λ (y : Pair). path_eq q (in_target w y)) xs ≡ true
      → ((y : Pair) → IsPaired c w y → q ≡ in_target w y → leaves_of q (doing_of c w y) (entry_at c q) ≡ o) → left_at (entry_at c) (items_of c w xs) q ≡ o
  left_by q o [] paired among each = absurd (true≢false (sym among))
  left_by q o (y ∷ ys) paired among each = by (path_eq q (in_target w y)) refl among (λ later. left_by q o ys paired.1 later each)
    where
      by : (b : Bool) → path_eq q (in_target w y) ≡ b → (b || list_any (λ (z : Pair). path_eq q (in_target w z)) ys) ≡ true
          → (list_any (λ (z : Pair). path_eq q (in_target w z)) ys ≡ true → left_at (entry_at c) (items_of c w ys) q ≡ o)
          → cond b (leaves_of q (doing_of c w y) (entry_at c q)) (left_at (entry_at c) (items_of c w ys) q) ≡ o
      by true is h rest = each y paired.0 (path_eq-same q (in_target w y) is)
      by false is h rest = rest h

  root_none : (xs : List (List ℕ)) (y : List ℕ) → or_root (xs ++ y ∷ []) None ≡ None
  root_none [] y = refl
  root_none (x ∷ xs) y = refl

  label_leaves : (y : Pair) → IsPaired c w y → label ≡ in_target w y → leaves_of label (doing_of c w y) (entry_at c label) ≡ None
  label_leaves y paired e = by y.target refl
    where
      path : path_of false label_parts ≡ y.path
      path = path_at c w all sides y label_parts paired e

      loose : is_kept y.path ≡ false
      loose = ap is_kept (sym path) ∙ label_loose

      excluded : is_excluded y.path ≡ true
      excluded = ap is_excluded (sym path) ∙ label_excluded

      by : (t : Option EntryKind) → y.target ≡ t → leaves_of label (doing_of c w y) (entry_at c label) ≡ None
      by (Some k) is =
          ap (λ a. leaves_of label (doing_by c w y a) (entry_at c label)) (ap (λ t. action_at y.path t y.source) is ∙ excluded-goes y.path k y.source loose excluded)
          ∙ root_none w.target.parts (codes "backup_label")
      by None is =
          ap (λ a. leaves_of label (doing_by c w y a) (entry_at c label)) (ap (λ t. action_at y.path t y.source) is ∙ excluded-absent y.path y.source loose excluded)
          ∙ ap (λ r. leaves_of label (filling (steps_changes c (touched_steps w y r))) (entry_at c label)) (ap relation_of (sym path) ∙ label_alone)
          ∙ ap (λ p. entry_at c p) e ∙ kind_none y.target (entry_at c (in_target w y)) paired.target is

  pub label_gone : left_at (entry_at c) items label ≡ None
  label_gone = by (list_any (λ (y : Pair). path_eq label (in_target w y)) all) refl
    where
      by : (b : Bool) → list_any (λ (y : Pair). path_eq label (in_target w y)) all ≡ b → left_at (entry_at c) items label ≡ None
      by true among = left_by label None all sides.paired among label_leaves
      by false none = left-alone (entry_at c) items label (here_items c w label all ∙ none) ∙ absent (entry_at c label) refl
        where
          absent : (o : Option Entry) → entry_at c label ≡ o → o ≡ None
          absent None is = refl
          absent (Some entry) is =
              absurd (true≢false (sym (at_parts c w label_parts all sides.paired ∙ sides.whole label_parts (not_none (codes "backup_label") []) (or_first (is_some (entry_at c label)) (is_some (entry_at c (below w.source label_parts))) (ap is_some is))) ∙ none))
            where
              not_none : (x : List ℕ) (xs : List (List ℕ)) → length (x ∷ xs) == 0 ≡ false
              not_none x xs = grind (arith, rules)

  control_leaves : (y : Pair) → IsPaired c w y → control ≡ in_target w y → leaves_of control (doing_of c w y) (entry_at c control) ≡ entry_at c control
  control_leaves y paired e =
      let path = path_at c w all sides y control_parts paired e in
      ap (λ a. leaves_of control (doing_by c w y a) (entry_at c control)) (kept-stays y.path y.target y.source (ap is_kept (sym path) ∙ control_kept))
      ∙ ap (λ r. leaves_of control (filling (steps_changes c (touched_steps w y r))) (entry_at c control)) (ap relation_of (sym path) ∙ control_alone)

  pub control_stays : left_at (entry_at c) items control ≡ entry_at c control
  control_stays = by (list_any (λ (y : Pair). path_eq control (in_target w y)) all) refl
    where
      by : (b : Bool) → list_any (λ (y : Pair). path_eq control (in_target w y)) all ≡ b → left_at (entry_at c) items control ≡ entry_at c control
      by true among = left_by control (entry_at c control) all sides.paired among control_leaves
      by false none = left-alone (entry_at c) items control (here_items c w control all ∙ none)

  -- ---- the paths of a rewind's own are apart

  pub label_off_mark : label ≢ mark
  label_off_mark e = true≢false (sym mark_kept ∙ ap (λ p. is_kept (path_of false p)) (sym (below-same w.target label_parts mark_parts e)) ∙ label_loose)

  pub control_off_mark : control ≢ mark
  control_off_mark e = cc (below-same w.target control_parts mark_parts e)

  pub control_off_label : control ≢ label
  control_off_label e = cc (below-same w.target control_parts label_parts e)

  root_off : (part : List ℕ) (parts : List (List ℕ)) → w.target ≢ below w.target (part ∷ parts)
  root_off part parts e = cc (below-same w.target [] (part ∷ parts) (root_is ∙ e))

  inside_off_control : (name : List ℕ) → below w.target (mark_parts ++ name ∷ []) ≢ control
  inside_off_control name e = cc (below-same w.target (mark_parts ++ name ∷ []) control_parts e)

  inside_off_label : (name : List ℕ) → below w.target (mark_parts ++ name ∷ []) ≢ label
  inside_off_label name e = cc (below-same w.target (mark_parts ++ name ∷ []) label_parts e)

  inside_off_mark : (name : List ℕ) → below w.target (mark_parts ++ name ∷ []) ≢ mark
  inside_off_mark name e = cc (below-same w.target (mark_parts ++ name ∷ []) mark_parts e)

  pub put_off : (s : Standing) (job : Job) (q : PathValue) → q ≢ job.path → after_job s job q ≡ s q
  put_off s job q off = ap (λ b. cond b (made_of (s job.path) job.changes) (s q)) (path_eq-other q job.path off)

  pub put_on : (s : Standing) (job : Job) → after_job s job job.path ≡ made_of (s job.path) job.changes
  put_on s job = ap (λ b. cond b (made_of (s job.path) job.changes) (s job.path)) (path_eq-own job.path)

  module _ (text label_bytes control_bytes : List ℕ) where
    -- the states: marked, rewound, labelled, with the control file
    abbrev pub marked : Standing
    marked = after_job (entry_at c) (begin_job mark text)

    abbrev pub rewound : Standing
    rewound = left_at marked items

    abbrev pub labelled : Standing
    labelled = after_job rewound (label_job label label_bytes)

    abbrev pub controlled : Standing
    controlled = after_job labelled (control_job control control_bytes)

    pub beside : (q : PathValue) → q ≢ mark → marked q ≡ entry_at c q
    beside q off = put_off (entry_at c) (begin_job mark text) q off

    mark_up : refusal_in (entry_at c (parent mark)) ≡ None
    mark_up = folder_fine (entry_at c (parent mark)) (ap (λ p. is_folder (entry_at c p)) (parent-of w.target [] (codes "pg_rewind.unfinished") ∙ root_is) ∙ sides.target_root)

    deep_mark : length mark.parts == 0 ≡ false
    deep_mark = deep_in w.target.parts mark_parts (one_part (codes "pg_rewind.unfinished") [])
      where
        one_part : (x : List ℕ) (xs : List (List ℕ)) → length (x ∷ xs) == 0 ≡ false
        one_part x xs = grind (arith, rules)

    owns_two : (p : PathValue) → (path_eq p p && (path_eq p p && true)) ≡ true
    owns_two p = ap (λ b. b && (b && true)) (path_eq-own p)

    begin_fits : JobFits (entry_at c) (begin_job mark text)
    begin_fits = record {
      deep = deep_mark;
      own = laid_own mark text;
      fits = subst (λ o. AllFit (entry_at c) mark o (laid_new mark text)) (sym (sides.marks_target mark_parts refl)) (laid_fits (entry_at c) mark text mark_up);
    }

    items_fit : ItemsFit marked items
    items_fit = fit-beside (entry_at c) marked mark beside items off_all (sides-fit c w all sides)

    pub left_off : (q : PathValue) → q ≢ mark → rewound q ≡ left_at (entry_at c) items q
    left_off q off = left-beside (entry_at c) marked mark beside items q off

    root_stands : is_folder (rewound w.target) ≡ true
    root_stands = ap is_folder (left_off w.target (root_off (codes "pg_rewind.unfinished") []) ∙ left-alone (entry_at c) items w.target none_root) ∙ sides.target_root

    label_fits : JobFits rewound (label_job label label_bytes)
    label_fits = record {
      deep = deep_in w.target.parts label_parts (one_part (codes "backup_label") []);
      own = owns_two label;
      fits = subst (λ o. AllFit rewound label o (MakesFile label ∷ Writes label 0 label_bytes ∷ [])) (sym (left_off label label_off_mark ∙ label_gone))
          ((refl, folder_fine (rewound (parent label)) (ap (λ p. is_folder (rewound p)) (parent-of w.target [] (codes "backup_label") ∙ root_is) ∙ root_stands)), (within [] 0 (omega arith), tt));
    }
      where
        one_part : (x : List ℕ) (xs : List (List ℕ)) → length (x ∷ xs) == 0 ≡ false
        one_part x xs = grind (arith, rules)

    pub control_is : labelled control ≡ entry_at c control
    control_is = put_off rewound (label_job label label_bytes) control control_off_label ∙ left_off control control_off_mark ∙ control_stays

    control_fits : JobFits labelled (control_job control control_bytes)
    control_fits = record {
      deep = deep_in w.target.parts control_parts (one_part (codes "global") (codes "pg_control" ∷ []));
      own = ap (λ b. b && true) (path_eq-own control);
      fits = subst (λ o. AllFit labelled control o (Writes control 0 control_bytes ∷ [])) (sym (control_is ∙ sides.control.1)) (within sides.control.0 0 (omega arith), tt);
    }
      where
        one_part : (x : List ℕ) (xs : List (List ℕ)) → length (x ∷ xs) == 0 ≡ false
        one_part x xs = grind (arith, rules)

    mark_stands : controlled mark ≡ Some (FileEntry (laid_bytes text))
    mark_stands =
        put_off labelled (control_job control control_bytes) mark (λ e. control_off_mark (sym e))
        ∙ put_off rewound (label_job label label_bytes) mark (λ e. label_off_mark (sym e))
        ∙ left-alone marked items mark none_mark
        ∙ put_on (entry_at c) (begin_job mark text)
        ∙ laid_made mark text (entry_at c mark)

    inside_none : (q : PathValue) → lies_in mark q ≡ true → controlled q ≡ None
    inside_none q child =
        let one = child-is w.target mark_parts q child in
        ap controlled one.1
        ∙ put_off labelled (control_job control control_bytes) (below w.target (mark_parts ++ one.0 ∷ [])) (inside_off_control one.0)
        ∙ put_off rewound (label_job label label_bytes) (below w.target (mark_parts ++ one.0 ∷ [])) (inside_off_label one.0)
        ∙ left_off (below w.target (mark_parts ++ one.0 ∷ [])) (inside_off_mark one.0)
        ∙ left-alone (entry_at c) items (below w.target (mark_parts ++ one.0 ∷ [])) (none_inside one.0)
        ∙ absent one.0 (entry_at c (below w.target (mark_parts ++ one.0 ∷ []))) refl
      where
        absent : (name : List ℕ) (o : Option Entry) → entry_at c (below w.target (mark_parts ++ name ∷ [])) ≡ o → o ≡ None
        absent name None is = refl
        absent name (Some entry) is = absurd (no_folder (entry_at c mark) (sides.marks_target mark_parts refl) (above-folder c w.target mark_parts name sides.tree (ap is_some is)))

    end_fits : JobFits controlled (end_job mark)
    end_fits = record {
      deep = deep_mark;
      own = ap (λ b. b && true) (path_eq-own mark);
      fits = subst (λ o. AllFit controlled mark o (ended mark)) (sym mark_stands) (tt, ((refl, inside_none), (tt, tt)));
    }

    -- all jobs of the plan
    abbrev pub plan_jobs : List Job
    plan_jobs = begin_job mark text ∷ (all_jobs items ++ (label_job label label_bytes ∷ control_job control control_bytes ∷ end_job mark ∷ []))

    after_items : (q : PathValue) → after_jobs marked (all_jobs items) q ≡ rewound q
    after_items q = items-leave marked items items_fit q

    pub plan-fits : JobsFit (entry_at c) plan_jobs
    plan-fits = (
      begin_fits,
      fit-both marked (all_jobs items) (label_job label label_bytes ∷ control_job control control_bytes ∷ end_job mark ∷ []) (items-fit marked items items_fit)
          (jobs-same rewound (after_jobs marked (all_jobs items)) after_items (label_job label label_bytes ∷ control_job control control_bytes ∷ end_job mark ∷ []) (label_fits, (control_fits, (end_fits, tt)))),
    )

    -- what they leave
    pub plan-leaves : (q : PathValue) → after_jobs (entry_at c) plan_jobs q ≡ after_job controlled (end_job mark) q
    plan-leaves q =
        ap (λ (s : Standing). s q) (after-both marked (all_jobs items) (label_job label label_bytes ∷ control_job control control_bytes ∷ end_job mark ∷ []))
        ∙ after-same rewound (after_jobs marked (all_jobs items)) after_items (label_job label label_bytes ∷ control_job control control_bytes ∷ end_job mark ∷ []) q
