-- What a stop at any moment of a clean-up may leave.
use Rattle.std.proofs.Common.{◌≡◌, ◌∙◌, ◌⊎◌, ◌||◌, ◌++◌, ℕ, Bool, true, false, if◌then◌else◌, List, [], ◌∷◌, map, None, refl, sym, ap, subst, inl, inr, ⊎_elim, is_some, true≢false}
use Rattle.std.specs.FinMap.{remove}
use Rattle.std.specs.List.{list_any}
use Rattle.cluster_tree.specs.Change.{Removes, call_of}
use Rattle.cluster_tree.specs.Contents.{Contents, entry_at, or_root}
use Rattle.cluster_tree.specs.Frame.{Came, Reads, moment_of}
use Rattle.cluster_tree.specs.PathOrder.{path_eq}
use Rattle.cluster_tree.specs.PathValue.{PathValue}
use Rattle.cluster_tree.specs.Run.{Course, Moment}
use Rattle.cluster_tree.specs.Stops.{LeavesOnly}
use Rattle.cluster_tree.specs.declared.tree.ChangeCall.TheVariants.{Remove}
use Rattle.cluster_tree.specs.declared.tree.Tree.{Ghosts}
use Rattle.cluster_tree.proofs.ContentsLemmas.{entry-removed, entry-removed_other}
use Rattle.cluster_tree.proofs.Images.{Each, KeptBy, holds_first, leaves_only}
use Rattle.cluster_tree.proofs.OrderLemmas.{path_eq-own, path_eq-same}
use Rattle.cluster_tree.proofs.RunLemmas.{course_of}
use Rattle.commands.specs.declared.archivecleanup.ArchivecleanupWords.{ArchivecleanupWords}
use Rattle.marked_runs.specs.Moments.{IsUntouched}
use Rattle.marked_runs.specs.Runs.{Runs}
use Rattle.marked_runs.proofs.StopLemmas.{Keeps, holds_runs}
use Rattle.run_acts.specs.Answers.{Answer, does}
use Rattle.acts.specs.Acts.{Act}
use Rattle.cmd_archivecleanup.specs.Archivecleanup.{archivecleanup_answer, gone, in_folder, removal}
use Rattle.cmd_archivecleanup.specs.Left.{IsLeftByCleanup, IsLess, leaving}
use Rattle.cmd_archivecleanup.specs.Steps.{paths_of}
use Rattle.cmd_archivecleanup.specs.declared.plan.Removal.{Removal}

-- ---- contents less one more of the files that go

less_here : (paths : List PathValue) (old c : Contents) (path q : PathValue) (b : Bool) → path_eq q path ≡ b → list_any (path_eq path) paths ≡ true → or_root path.parts None ≡ None
    → (entry_at c q ≡ entry_at old q) ⊎ ((list_any (path_eq q) paths ≡ true) × (entry_at c q ≡ None)) → (entry_at (remove c path) q ≡ entry_at old q) ⊎ ((list_any (path_eq q) paths ≡ true) × (entry_at (remove c path) q ≡ None))
less_here paths old c path q true is among below less =
    let same : q ≡ path = path_eq-same q path is in
    inr (ap (λ p. list_any (path_eq p) paths) same ∙ among, ap (entry_at (remove c path)) same ∙ entry-removed c path ∙ below)
less_here paths old c path q false is among below less =
    let stays : entry_at (remove c path) q ≡ entry_at c q = entry-removed_other c path q (λ same. true≢false (sym (path_eq-own path) ∙ ap (λ p. path_eq p path) (sym same) ∙ is)) in
    ⊎_elim (λ kept. inl (stays ∙ kept)) (λ went. inr (went.0, stays ∙ went.1)) less

-- what a stop may leave where these files may go
abbrev Left : List PathValue → Moment → Contents → Type 0
Left paths first c = (before : Contents) × IsUntouched first before × IsLess paths before c

removal_keeps : (paths : List PathValue) (first : Moment) (path : PathValue) → list_any (path_eq path) paths ≡ true → or_root path.parts None ≡ None → KeptBy (Left paths first) (Remove path)
removal_keeps paths first path among below c d (before, was, less) (inl same) = (before, was, subst (IsLess paths before) (sym same) less)
removal_keeps paths first path among below c d (before, was, less) (inr (none, is)) =
    (before, was, subst (IsLess paths before) (sym is) (λ q. less_here paths before c path q (path_eq q path) refl among below (less q)))

or_true : (b : Bool) → (b || true) ≡ true
or_true true = refl
or_true false = refl

-- nothing stands below a folder where an entry was
below_none : (parts : List (List ℕ)) (name : List ℕ) → or_root (parts ++ name ∷ []) None ≡ None
below_none [] name = refl
below_none (part ∷ parts) name = refl

each_keeps : (paths : List PathValue) (first : Moment) (folder : PathValue) (names : List (List ℕ)) → ((p : PathValue) → list_any (path_eq p) (map (in_folder folder) names) ≡ true → list_any (path_eq p) paths ≡ true)
    → Each (Keeps (Left paths first)) (map call_of (map Removes (map (in_folder folder) names)))
each_keeps paths first folder [] among = tt
each_keeps paths first folder (name ∷ names) among =
    let path : PathValue = in_folder folder name in (
      removal_keeps paths first path (among path (ap (λ b. b || list_any (path_eq path) (map (in_folder folder) names)) (path_eq-own path))) (below_none folder.parts name),
      each_keeps paths first folder names (λ p later. among p (ap (λ b. path_eq p path || b) later ∙ or_true (path_eq p path))),
    )

leaving_keeps : (first : Moment) (folder : PathValue) (names : List (List ℕ)) (none : Bool) → Each (Keeps (Left (if none then [] else map (in_folder folder) names) first)) (map call_of (map Removes (if none then [] else map (in_folder folder) names)))
leaving_keeps first folder names true = tt
leaving_keeps first folder names false = each_keeps (map (in_folder folder) names) first folder names (λ p among. among)

-- ---- what is untouched, and what any of the removals leave

pub untouched-left : (words : ArchivecleanupWords) (first : Moment) (c : Contents) → IsUntouched first c → IsLeftByCleanup words first c
untouched-left words first c untouched = (c, untouched, λ path. inl refl)

left_on : (words : ArchivecleanupWords) (paths : List PathValue) (first last : Moment) (done : Bool) → paths ≡ leaving first.state.contents words → Course first last
    → Runs (map Removes paths) first.state.calls last.state.calls first.state.contents last.state.contents done → LeavesOnly (IsLeftByCleanup words first) first.stops last.stops
left_on words paths first last done is course ran =
    let P : Contents → Type 0 = IsLeftByCleanup words first in
    let c : Contents = first.state.contents in
    leaves_only P P first last
    (holds_runs P P first first last (map Removes (leaving c words)) done
    (holds_first P P first (untouched-left words first c (inl refl)) (λ x left. untouched-left words first x (inr left))) (λ x left. left) course
    (subst (λ l. Runs (map Removes l) first.state.calls last.state.calls c last.state.contents done) is ran)
    (leaving_keeps first words.folder (gone c words) (words.dry_run || is_some (archivecleanup_answer c words).refusal)))
    (λ x left. left)

pub removals-left : {F : Type 0} (tree : Ghosts F) (words : ArchivecleanupWords) (items : List Removal) (a b d : F) (done : Bool) → Reads tree a b → paths_of items ≡ leaving (tree.contents a) words → Came tree b d
    → Runs (map Removes (paths_of items)) (tree.calls b) (tree.calls d) (tree.contents b) (tree.contents d) done → LeavesOnly (IsLeftByCleanup words (moment_of tree a)) (tree.stops a) (tree.stops d)
removals-left tree words items a b d done reads is came ran =
    let same : moment_of tree b ≡ moment_of tree a = λ i. record { state = record { contents = reads.same i; calls = reads.uncalled i }; stops = reads.unstopped i } in
    subst (λ (m : Moment). LeavesOnly (IsLeftByCleanup words m) m.stops (tree.stops d)) same
    (left_on words (paths_of items) (moment_of tree b) (moment_of tree d) done (is ∙ ap (λ c. leaving c words) (sym reads.same)) (course_of tree b d came) ran)

-- ---- the files of the removals are those that go

paths-made : (debug : Bool) (folder : PathValue) (names : List (List ℕ)) → paths_of (map (removal debug folder) names) ≡ map (in_folder folder) names
paths-made debug folder [] = refl
paths-made debug folder (name ∷ names) = ap (λ l. in_folder folder name ∷ l) (paths-made debug folder names)

pub paths-leaving : (c : Contents) (words : ArchivecleanupWords) (names : List (List ℕ)) (items : List Removal) (acts : List Act) → words.dry_run ≡ false → names ≡ gone c words → items ≡ map (removal words.debug words.folder) names
    → does acts ≡ archivecleanup_answer c words → paths_of items ≡ leaving c words
paths-leaving c words names items acts wet is made meant =
    let answer : Answer = archivecleanup_answer c words in
    ap paths_of made ∙ paths-made words.debug words.folder names ∙ ap (map (in_folder words.folder)) is
    ∙ ap (λ b. if b then [] else map (in_folder words.folder) (gone c words)) (ap (λ (a : Answer). is_some a.refusal) meant ∙ ap (λ b. b || is_some answer.refusal) (sym wet))
