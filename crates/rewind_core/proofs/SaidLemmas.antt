-- What a plan says: each of its steps is between the roots, and they are in their turn.
use Rattle.std.proofs.Common.{◌≡◌, ℕ, ◌+◌, ◌≤◌, ◌==◌, Bool, true, false, cond, ◌||◌, max, nat_lt, List, [], ◌∷◌, ◌++◌, codes, length, map, Option, None, Some, is_some, refl, sym, ap, subst, ◌∙◌, true≢false, bytes_eq, arith}
use Rattle.std.proofs.Math.Seq.{drop-append_seam}
use Rattle.std.proofs.lemmas.Bool.{and_parts}
use Rattle.std.proofs.lemmas.List.Folds.{list_all-append}
use Rattle.std.proofs.lemmas.Slice.Eq.{bytes_eq-Decides}
use Rattle.std.specs.List.{join_with_byte, list_all}
use Rattle.block_refs.specs.declared.names.RelName.{RelName}
use Rattle.cluster_tree.proofs.OrderLemmas.{same_path}
use Rattle.cluster_tree.proofs.PartLemmas.{read_back}
use Rattle.cluster_tree.proofs.RootLemmas.{holds-below}
use Rattle.cluster_tree.specs.Contents.{Contents, entry_at}
use Rattle.cluster_tree.specs.PathValue.{PathValue, below, is_part, parsed, path_of}
use Rattle.file_walk.specs.Actions.{is_control, is_kept, is_mark}
use Rattle.file_walk.specs.Relations.{relation_of}
use Rattle.file_walk.specs.Walk.{HasParts}
use Rattle.file_walk.specs.declared.action.Action.{Action}
use Rattle.file_walk.specs.declared.action.Action.TheVariants as action
use Rattle.file_walk.specs.declared.entry.EntryKind.{EntryKind}
use Rattle.file_walk.specs.declared.entry.EntryKind.TheVariants as kind
use Rattle.file_walk.specs.declared.pair.Pair.{Pair}
use Rattle.plan_text.specs.Laws.{AllAreBetween, AllAreSized, InTurn, IsBelow, IsBetween, IsCopied, IsSized, IsWay}
use Rattle.mark_lines.specs.Paths.{parts_below}
use Rattle.plan_text.specs.Paths.{is_kept_out}
use Rattle.plan_text.specs.Steps.{depth, turn}
use Rattle.relation_files.specs.Reading.{file_named}
use Rattle.rewind_plan.proofs.FitLemmas.{Acts, acts}
use Rattle.rewind_plan.proofs.KindLemmas.{kind_there}
use Rattle.rewind_plan.specs.Blocks.{block_steps, range_step}
use Rattle.rewind_plan.specs.Planned.{Between, action_of, all_file_steps, both_files, file_steps, folder_step, folder_steps, in_source, in_target, removal_step, removal_steps, steps_of, touched_steps, whole_step}
use Rattle.rewind_plan.specs.Room.{AllHaveRoom, HasRoom, makes}
use Rattle.rewind_plan.specs.Sides.{AllPaired, IsPaired}
use Rattle.rewind_writes.specs.Steps.{AllAreFit, IsFit}
use Rattle.rewind_writes.specs.declared.step.Step.{Step}
use Rattle.rewind_writes.specs.declared.step.Step.TheVariants.{Folder, Whole, Cut, Range, Remove}
use Rattle.wal_base.specs.Decimal.{decimal_number}

-- ---- what is kept, by its text and by its name

or_parts : (a b : Bool) → (a || b) ≡ false → (a ≡ false) × (b ≡ false)
or_parts true b h = absurd (true≢false h)
or_parts false b h = (refl, h)

none_of : (a b c d : Bool) → a ≡ false → b ≡ false → c ≡ false → d ≡ false → (((a || b) || c) || d) ≡ false
none_of a b c d ha hb hc hd = λ i. ((ha i || hb i) || hc i) || hd i

off : (b : Bool) → (b ≡ true → ⊥) → b ≡ false
off true h = absurd (h refl)
off false h = refl

-- parts whose text is that of what is kept are kept
same_parts : (part : List ℕ) (parts : List (List ℕ)) (text : List ℕ) → list_all is_part (part ∷ parts) ≡ true → join_with_byte 47 (part ∷ parts) ≡ text → part ∷ parts ≡ (parsed text).parts
same_parts part parts text proper e = sym (ap (λ p. p.parts) (ap parsed (sym e) ∙ read_back (path_of false (part ∷ parts)) proper))

other_text : (part : List ℕ) (parts : List (List ℕ)) (text : List ℕ) → list_all is_part (part ∷ parts) ≡ true → is_kept (path_of false (parsed text).parts) ≡ true
    → is_kept (path_of false (part ∷ parts)) ≡ false → bytes_eq (join_with_byte 47 (part ∷ parts)) text ≡ false
other_text part parts text proper kept loose =
    off (bytes_eq (join_with_byte 47 (part ∷ parts)) text) (λ same.
    true≢false (sym kept ∙ ap (λ ps. is_kept (path_of false ps)) (sym (same_parts part parts text proper ((bytes_eq-Decides (join_with_byte 47 (part ∷ parts)) text).0 same))) ∙ loose))

-- a way that isn't kept is one of its own
own_way : (part : List ℕ) (parts : List (List ℕ)) → list_all is_part (part ∷ parts) ≡ true → is_kept (path_of false (part ∷ parts)) ≡ false → is_kept_out (join_with_byte 47 (part ∷ parts)) ≡ false
own_way part parts proper loose =
    none_of _ _ _ _
    (other_text part parts (codes "global/pg_control") proper refl loose)
    (other_text part parts (codes "pg_rewind.unfinished") proper refl loose)
    (other_text part parts (codes "pg_walreplay.unfinished") proper refl loose)
    (other_text part parts (codes "pg_resetwal.unfinished") proper refl loose)

-- the file of a relation isn't kept
control_plain : (parts : List (List ℕ)) → is_control parts ≡ true → relation_of (path_of false parts) ≡ None
unfolding relation_of file_named decimal_number
control_plain [] h = absurd (true≢false (sym h))
control_plain (a ∷ []) h = absurd (true≢false (sym h))
control_plain (a ∷ b ∷ []) h =
    let two = and_parts (bytes_eq a (codes "global")) (bytes_eq b (codes "pg_control")) h in
    ap (λ ps. relation_of (path_of false ps)) (λ i. (bytes_eq-Decides a (codes "global")).0 two.0 i ∷ (bytes_eq-Decides b (codes "pg_control")).0 two.1 i ∷ [])
control_plain (a ∷ b ∷ c ∷ parts) h = absurd (true≢false (sym h))

mark_plain : (parts : List (List ℕ)) → is_mark parts ≡ true → relation_of (path_of false parts) ≡ None
unfolding relation_of
mark_plain [] h = absurd (true≢false (sym h))
mark_plain (a ∷ []) h = refl
mark_plain (a ∷ b ∷ parts) h = absurd (true≢false (sym h))

or_either : (a b : Bool) {P : Type 0} → (a || b) ≡ true → (a ≡ true → P) → (b ≡ true → P) → P
or_either true b h one two = one refl
or_either false b h one two = two h

loose_file : (path : PathValue) (at : RelName × ℕ) → path.absolute ≡ false → relation_of path ≡ Some at → is_kept path ≡ false
loose_file path at relative is = off (is_kept path) (λ kept.
    let own : relation_of (path_of false path.parts) ≡ Some at = ap relation_of (same_path (path_of false path.parts) path (sym relative) refl) ∙ is in
    let none : relation_of (path_of false path.parts) ≡ None = or_either (is_control path.parts) (is_mark path.parts) kept (control_plain path.parts) (mark_plain path.parts) in
    absurd (cc (sym none ∙ own)))

-- ---- steps of one kind

-- where a step is, whatever its numbers
abbrev IsPlaced : (target source : PathValue) → Step → Type 0
IsPlaced target source (Folder path) = IsBelow (depth target source) target path
IsPlaced target source (Whole from to size) = IsCopied target source from to
IsPlaced target source (Cut path size) = IsBelow (depth target source) target path
IsPlaced target source (Range from to at size) = IsCopied target source from to
IsPlaced target source (Remove path) = IsBelow (length target.parts) target path

-- steps of one turn, each so placed
abbrev AreOf : (target source : PathValue) → ℕ → List Step → Type 0
AreOf target source k [] = Unit {0}
AreOf target source k (step ∷ steps) = IsPlaced target source step × (turn step ≡ k) × AreOf target source k steps

both-of : (target source : PathValue) (k : ℕ) (xs ys : List Step) → AreOf target source k xs → AreOf target source k ys → AreOf target source k (xs ++ ys)
both-of target source k [] ys one two = two
both-of target source k (x ∷ xs) ys one two = (one.0, one.1, both-of target source k xs ys one.2 two)

weaker : (least more : ℕ) (steps : List Step) → least ≤ more → InTurn more steps → InTurn least steps
weaker least more [] le h = tt
weaker least more (step ∷ steps) le h = (omega (arith, le, h.0), h.1)

turns-on : (target source : PathValue) (least k : ℕ) (xs ys : List Step) → least ≤ k → AreOf target source k xs → InTurn k ys → InTurn least (xs ++ ys)
turns-on target source least k [] ys le one two = weaker least k ys le two
turns-on target source least k (x ∷ xs) ys le one two =
    (omega (arith, le, one.1), turns-on target source (turn x) k xs ys (omega (arith, one.1)) one.2 two)

turns-end : (target source : PathValue) (least k : ℕ) (xs : List Step) → least ≤ k → AreOf target source k xs → InTurn least xs
turns-end target source least k [] le one = tt
turns-end target source least k (x ∷ xs) le one = (omega (arith, le, one.1), turns-end target source (turn x) k xs (omega (arith, one.1)) one.2)

-- with their numbers
one-between : (target source : PathValue) (step : Step) → IsPlaced target source step → IsSized step → IsFit step → IsBetween target source step
one-between target source (Folder path) placed sized fit = placed
one-between target source (Whole from to size) placed sized fit = (placed, sized)
one-between target source (Cut path size) placed sized fit = (placed, sized)
one-between target source (Range from to at size) placed sized fit = (placed, fit)
one-between target source (Remove path) placed sized fit = placed

all-between : (target source : PathValue) (k : ℕ) (xs ys : List Step) → AreOf target source k xs → AllAreSized (xs ++ ys) → AllAreFit (xs ++ ys)
    → (AllAreSized ys → AllAreFit ys → AllAreBetween target source ys) → AllAreBetween target source (xs ++ ys)
all-between target source k [] ys one sized fit rest = rest sized fit
all-between target source k (x ∷ xs) ys one sized fit rest = (one-between target source x one.0 sized.0 fit.0, all-between target source k xs ys one.2 sized.1 fit.1 rest)

none-left : (target source : PathValue) (k : ℕ) (xs : List Step) → AreOf target source k xs → AllAreSized xs → AllAreFit xs → AllAreBetween target source xs
none-left target source k [] one sized fit = tt
none-left target source k (x ∷ xs) one sized fit = (one-between target source x one.0 sized.0 fit.0, none-left target source k xs one.2 sized.1 fit.1)

-- ---- the steps of a pair

deeper : (a b n : ℕ) → a + n ≤ 64 → b + n ≤ 64 → n + max a b ≤ 64
deeper a b n one two = omega (arith, one, two)

a_way : (room : ℕ) (parts : List (List ℕ)) → list_all is_part parts ≡ true → length parts == 0 ≡ false → length parts + room ≤ 64 → is_kept (path_of false parts) ≡ false → IsWay room parts
a_way room [] proper deep fits loose = absurd (true≢false deep)
a_way room (part ∷ parts) proper deep fits loose = record { proper = proper; some = omega arith; fits = fits; own = own_way part parts proper loose }

some_of : {X : Type 0} {o : Option X} {x : X} → o ≡ Some x → is_some o ≡ true
some_of e = ap is_some e

module _ (c : Contents) (w : Between) (target_parts : HasParts c w.target) (source_parts : HasParts c w.source) where
  at-target : (parts : List (List ℕ)) → parts_below w.target (below w.target parts) ≡ parts
  at-target parts = drop-append_seam w.target.parts parts

  module _ (x : Pair) (paired : IsPaired c w x) (room : HasRoom w x) where
    abbrev p : List (List ℕ)
    p = x.path.parts

    split : (root : PathValue) → HasParts c root → is_some (entry_at c (below root p)) ≡ true → list_all is_part p ≡ true
    split root has there = (and_parts (list_all is_part root.parts) (list_all is_part p) (sym (list_all-append is_part root.parts p) ∙ has p there)).1

    proper : list_all is_part p ≡ true
    proper = or_either (is_some x.target) (is_some x.source) paired.some
        (λ t. split w.target target_parts (kind_there x.target _ paired.target t))
        (λ s. split w.source source_parts (kind_there x.source _ paired.source s))

    below-at : (n : ℕ) → length p + n ≤ 64 → is_kept x.path ≡ false → IsBelow n w.target (in_target w x)
    below-at n fits loose = record {
      held = holds-below w.target p;
      way = subst (IsWay n) (sym (at-target p)) (a_way n p proper paired.deep fits loose);
    }

    -- below both roots
    below-both : is_some x.target || makes (action_of x) ≡ true → is_some x.source ≡ true → is_kept x.path ≡ false → IsBelow (depth w.target w.source) w.target (in_target w x)
    below-both here there loose = below-at (depth w.target w.source) (deeper (length w.target.parts) (length w.source.parts) (length p) (room.target here) (room.source there)) loose

    copied-both : is_some x.target || makes (action_of x) ≡ true → is_some x.source ≡ true → is_kept x.path ≡ false → IsCopied w.target w.source (in_source w x) (in_target w x)
    copied-both here there loose = record { placed = below-both here there loose; same = ap (below w.source) (sym (at-target p)) }

    made : makes (action_of x) ≡ true → is_some x.target || makes (action_of x) ≡ true
    made h = or_last (is_some x.target) (makes (action_of x)) h
      where
        or_last : (a b : Bool) → b ≡ true → (a || b) ≡ true
        or_last true b e = refl
        or_last false b e = e

    first_is : is_some x.target ≡ true → is_some x.target || makes (action_of x) ≡ true
    first_is h = ap (λ b. b || makes (action_of x)) h

    cut-of : (new : ℕ) (longer : Bool) → IsBelow (depth w.target w.source) w.target (in_target w x) → AreOf w.target w.source 1 (cond longer (Cut (in_target w x) new ∷ []) [])
    cut-of new true at = (at, refl, tt)
    cut-of new false at = tt

    each-of : {A : Type 0} (step : A → Step) (xs : List A) → ((a : A) → IsPlaced w.target w.source (step a) × (turn (step a) ≡ 1)) → AreOf w.target w.source 1 (map step xs)
    each-of step [] h = tt
    each-of step (a ∷ xs) h = ((h a).0, (h a).1, each-of step xs h)

    blocks-of : (wanted : ℕ → Bool) (old new : ℕ) → IsCopied w.target w.source (in_source w x) (in_target w x) → AreOf w.target w.source 1 (block_steps (in_source w x) (in_target w x) wanted old new)
    blocks-of wanted old new copied =
        both-of w.target w.source 1 (cond (nat_lt new old) (Cut (in_target w x) new ∷ []) []) _ (cut-of new (nat_lt new old) copied.placed)
        (each-of (range_step (in_source w x) (in_target w x)) _ (λ run. (copied, refl)))

    files-of : (at : RelName × ℕ) (target source : Option EntryKind) → target ≡ x.target → source ≡ x.source → is_kept x.path ≡ false → AreOf w.target w.source 1 (both_files w x at target source)
    files-of at (Some (kind.File old)) (Some (kind.File new)) t s loose = blocks-of _ old new (copied-both (first_is (some_of (sym t))) (some_of (sym s)) loose)
    files-of at (Some (kind.File old)) (Some kind.Folder) t s loose = tt
    files-of at (Some (kind.File old)) None t s loose = tt
    files-of at (Some kind.Folder) source t s loose = tt
    files-of at None source t s loose = tt

    touched-of : (found : Option (RelName × ℕ)) → relation_of x.path ≡ found → AreOf w.target w.source 1 (touched_steps w x found)
    touched-of None is = tt
    touched-of (Some at) is = files-of at x.target x.source refl refl (loose_file x.path at paired.relative is)

    whole-of : (source : Option EntryKind) → source ≡ x.source → makes (action_of x) ≡ true → is_kept x.path ≡ false → AreOf w.target w.source 1 (whole_step w x source)
    whole-of None s h loose = tt
    whole-of (Some (kind.File size)) s h loose = (copied-both (made h) (some_of (sym s)) loose, refl, tt)
    whole-of (Some kind.Folder) s h loose = tt

    folder-of : (a : Action) → action_of x ≡ a → Acts x.path a x.target x.source → AreOf w.target w.source 0 (folder_step w x a)
    folder-of action.Nothing is h = tt
    folder-of action.MakeFolder is h = (below-both (made (ap makes is)) (some_of h.3) h.0, refl, tt)
    folder-of action.Copy is h = tt
    folder-of action.Tail is h = tt
    folder-of action.Cut is h = tt
    folder-of action.Remove is h = tt
    folder-of action.KindsDiffer is h = tt

    file-of : (a : Action) → action_of x ≡ a → Acts x.path a x.target x.source → AreOf w.target w.source 1 (file_steps w x a)
    file-of action.Nothing is h = touched-of (relation_of x.path) refl
    file-of action.MakeFolder is h = tt
    file-of action.Copy is h = whole-of x.source refl (ap makes is) h.0
    file-of action.Tail is h = touched-of (relation_of x.path) refl
    file-of action.Cut is h = touched-of (relation_of x.path) refl
    file-of action.Remove is h = tt
    file-of action.KindsDiffer is h = tt

    removal-of : (a : Action) → action_of x ≡ a → Acts x.path a x.target x.source → AreOf w.target w.source 2 (removal_step w x a)
    removal-of action.Nothing is h = tt
    removal-of action.MakeFolder is h = tt
    removal-of action.Copy is h = tt
    removal-of action.Tail is h = tt
    removal-of action.Cut is h = tt
    removal-of action.Remove is h =
        (below-at (length w.target.parts) (let fits = room.target (first_is h.1) in omega (arith, fits)) h.0, refl, tt)
    removal-of action.KindsDiffer is h = tt

    does : Acts x.path (action_of x) x.target x.source
    does = acts x.path x.target x.source

  folders-of : (pairs : List Pair) → AllPaired c w pairs → AllHaveRoom w pairs → AreOf w.target w.source 0 (folder_steps w pairs)
  folders-of [] paired room = tt
  folders-of (x ∷ pairs) paired room =
      both-of w.target w.source 0 (folder_step w x (action_of x)) (folder_steps w pairs) (folder-of x paired.0 room.0 (action_of x) refl (does x paired.0 room.0)) (folders-of pairs paired.1 room.1)

  all-files-of : (pairs : List Pair) → AllPaired c w pairs → AllHaveRoom w pairs → AreOf w.target w.source 1 (all_file_steps w pairs)
  all-files-of [] paired room = tt
  all-files-of (x ∷ pairs) paired room =
      both-of w.target w.source 1 (file_steps w x (action_of x)) (all_file_steps w pairs) (file-of x paired.0 room.0 (action_of x) refl (does x paired.0 room.0)) (all-files-of pairs paired.1 room.1)

  removals-of : (pairs : List Pair) → AllPaired c w pairs → AllHaveRoom w pairs → AreOf w.target w.source 2 (removal_steps w pairs)
  removals-of [] paired room = tt
  removals-of (x ∷ pairs) paired room =
      both-of w.target w.source 2 (removal_steps w pairs) (removal_step w x (action_of x)) (removals-of pairs paired.1 room.1) (removal-of x paired.0 room.0 (action_of x) refl (does x paired.0 room.0))

  module _ (pairs : List Pair) (paired : AllPaired c w pairs) (room : AllHaveRoom w pairs) where
    -- the steps of pairs are in their turn
    pub steps-turn : InTurn 0 (steps_of w pairs)
    steps-turn =
        turns-on w.target w.source 0 0 (folder_steps w pairs) (all_file_steps w pairs ++ removal_steps w pairs) (omega arith) (folders-of pairs paired room)
        (turns-on w.target w.source 0 1 (all_file_steps w pairs) (removal_steps w pairs) (omega arith) (all-files-of pairs paired room)
        (turns-end w.target w.source 1 2 (removal_steps w pairs) (omega arith) (removals-of pairs paired room)))

    -- and each is between the roots
    pub steps-between : AllAreSized (steps_of w pairs) → AllAreFit (steps_of w pairs) → AllAreBetween w.target w.source (steps_of w pairs)
    steps-between sized fit =
        all-between w.target w.source 0 (folder_steps w pairs) _ (folders-of pairs paired room) sized fit (λ sized fit.
        all-between w.target w.source 1 (all_file_steps w pairs) _ (all-files-of pairs paired room) sized fit (λ sized fit.
        none-left w.target w.source 2 (removal_steps w pairs) (removals-of pairs paired room) sized fit))
