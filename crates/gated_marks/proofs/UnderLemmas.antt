-- What a stop may leave of changes under a mark that holds a text, and of the run whole.
use Rattle.std.proofs.Common.{◌≡◌, ◌⊎◌, ℕ, ◌<◌, Bool, true, false, ◌||◌, List, [], ◌∷◌, ◌++◌, length, map, Option, None, Some, refl, ap, sym, ◌∙◌, subst, inl, inr, ⊎_elim, arith, ◌≢◌, true≢false}
use Rattle.std.specs.FinMap.{get, insert, remove}
use Rattle.std.specs.List.{list_any}
use Rattle.cluster_tree.specs.Change.{Change, all_changed, call_of, is_on}
use Rattle.cluster_tree.specs.Contents.{Contents, Entry, FileEntry, FolderEntry, LinkEntry, entry_at, is_file, or_root}
use Rattle.cluster_tree.specs.PathOrder.{path_eq}
use Rattle.cluster_tree.specs.PathValue.{PathValue}
use Rattle.cluster_tree.specs.Run.{Moment, Course, Occurs}
use Rattle.cluster_tree.specs.Stops.{IsImage, LeavesOnly}
use Rattle.cluster_tree.specs.Tree.{bytes_at, bytes_in}
use Rattle.cluster_tree.proofs.ChangeLemmas.{changed-in_turn}
use Rattle.cluster_tree.proofs.ContentsLemmas.{entry-put, entry-removed, get-put, get-put_other, same-contents}
use Rattle.cluster_tree.proofs.Images.{Within, leaves_only}
use Rattle.cluster_tree.proofs.OrderLemmas.{path_eq-own, path_eq-same}
use Rattle.cluster_tree.proofs.RunLemmas.{calls_on}
use Rattle.cluster_tree.proofs.StepLemmas.{step-elsewhere}
use Rattle.marked_runs.specs.Moments.{IsUntouched, StandsSynced}
use Rattle.marked_runs.specs.Runs.{Runs, ended}
use Rattle.marked_runs.proofs.RunLemmas.{off_path}
use Rattle.marked_runs.proofs.StopLemmas.{leaves_on, leaves_weaker}
use Rattle.gated_marks.specs.Changes.{begun_gated, gated}
use Rattle.gated_marks.specs.Gates.{IsComplete, IsReady, IsTold, whole_mark}
use Rattle.gated_marks.specs.Left.{IsBut, IsEndLeft, IsGated, IsGatedToEnd, IsIncomplete, IsLeftOf, IsMarkLaid, IsUnder, IsUnderToEnd, stood_at, with_mark}
use Rattle.gated_marks.proofs.BeginLemmas.{begun-after}
use Rattle.gated_marks.proofs.ByteLemmas.{mark-told, short-incomplete}
use Rattle.gated_marks.proofs.EndLemmas.{end-left}
use Rattle.gated_marks.proofs.ImageLemmas.{none-happened, runs-hold}

-- ---- under the mark

neither : (a b : Bool) → (a || b) ≡ false → (a ≡ false) × (b ≡ false)
neither true b e = absurd (cc e)
neither false b e = (refl, e)

-- an image of changes off a path holds there what stood
image-elsewhere : (p : PathValue) (xs : List Change) (s c : Contents) → list_any (is_on p) xs ≡ false → IsImage s (map call_of xs) c → entry_at c p ≡ entry_at s p
image-elsewhere p [] s c off image = ap (λ k. entry_at k p) image
image-elsewhere p (x ∷ xs) s c off image =
    let two = neither (is_on p x) (list_any (is_on p) xs) off in
    image-elsewhere p xs image.0 c two.1 image.2 ∙ step-elsewhere (call_of x) s image.0 p image.1 (off_path x p two.0)

module _ (old : Contents) (mark : PathValue) (bytes : List ℕ) (body : List Change) where
  -- nothing happened under it
  pub under-none : (c : Contents) → c ≡ with_mark old mark bytes → IsUnder old mark bytes body c
  under-none c is = subst (IsUnder old mark bytes body) (sym is) (record { holds = entry-put old mark (FileEntry bytes); image = none-happened (map call_of body) (with_mark old mark bytes) })

  under-image : list_any (is_on mark) body ≡ false → (c : Contents) → IsImage (with_mark old mark bytes) (map call_of body) c → IsUnder old mark bytes body c
  under-image off c image = record { holds = image-elsewhere mark body (with_mark old mark bytes) c off image ∙ entry-put old mark (FileEntry bytes); image = image }

  pub body-under : (a b : Moment) (done : Bool) → StandsSynced (with_mark old mark bytes) a → Course a b → Runs body a.state.calls b.state.calls a.state.contents b.state.contents done → list_any (is_on mark) body ≡ false
      → IsUnder old mark bytes body b.state.contents × LeavesOnly (IsUnder old mark bytes body) a.stops b.stops
  body-under a b done synced course ran off =
      let L : Contents → Type 0 = IsLeftOf a (map call_of body) in
      let within : Within L (IsUnder old mark bytes body) = λ c left.
      let is : left.0 ≡ with_mark old mark bytes = ⊎_elim (λ e. e ∙ synced.now) (λ image. synced.left left.0 image) left.1 in
      under-image off c (subst (λ s. IsImage s (map call_of body) c) is left.2) in
      let h = runs-hold body a b done course ran in
      (within b.state.contents h.now, leaves_weaker L (IsUnder old mark bytes body) a.stops b.stops within (leaves_only L L a b h (λ c left. left)))

-- ---- to its end

pub under-ended : (old : Contents) (mark : PathValue) (bytes : List ℕ) (body : List Change) (a b c : Moment) (done : Bool) → StandsSynced (with_mark old mark bytes) a → Course a b → Course b c
    → Runs body a.state.calls b.state.calls a.state.contents b.state.contents true → list_any (is_on mark) body ≡ false → Runs (ended mark) b.state.calls c.state.calls b.state.contents c.state.contents done
    → LeavesOnly (IsUnderToEnd old mark bytes body (all_changed (with_mark old mark bytes) (body ++ ended mark))) a.stops c.stops
under-ended old mark bytes body a b c done synced one two ran off ending =
    let finished = all_changed (with_mark old mark bytes) (body ++ ended mark) in
    let P : Contents → Type 0 = IsUnderToEnd old mark bytes body finished in
    let under = body-under old mark bytes body a b true synced one ran off in
    let same : remove b.state.contents mark ≡ finished =
    ap (λ k. remove k mark) (ran.after refl ∙ ap (λ k. all_changed k body) synced.now) ∙ sym (changed-in_turn (with_mark old mark bytes) body (ended mark)) in
    let stands : Within (IsEndLeft b mark) P = λ e. ⊎_elim
    (⊎_elim (λ now. inl (subst (IsUnder old mark bytes body) (sym now) under.0)) (λ image. inl (under.1.each e (inl image))))
    (λ gone. inr (gone ∙ same)) in
    leaves_on P a b c one two (leaves_weaker (IsUnder old mark bytes body) P a.stops b.stops (λ e q. inl q) under.1)
    (leaves_weaker (IsEndLeft b mark) P b.stops c.stops stands (end-left mark b c done two ending))

-- ---- the run whole

pub laid-then : (mark : PathValue) (head : List ℕ) (gate : ℕ) (text : List ℕ) (body : List Change) (finished : Contents) (a b c : Moment) → Course a b → Course b c → LeavesOnly (IsMarkLaid a mark head gate text) a.stops b.stops
    → LeavesOnly (IsUnderToEnd a.state.contents mark (whole_mark head gate text) body finished) b.stops c.stops → LeavesOnly (IsGatedToEnd a mark head gate text body finished) a.stops c.stops
laid-then mark head gate text body finished a b c one two laid under =
    let P : Contents → Type 0 = IsGatedToEnd a mark head gate text body finished in
    leaves_on P a b c one two (leaves_weaker (IsMarkLaid a mark head gate text) P a.stops b.stops (λ d q. inl (inl q)) laid)
    (leaves_weaker (IsUnderToEnd a.state.contents mark (whole_mark head gate text) body finished) P b.stops c.stops (λ d. ⊎_elim (λ q. inl (inr q)) (λ e. inr e)) under)

gated-finished : (c : Contents) (mark : PathValue) (head : List ℕ) (gate : ℕ) (text : List ℕ) (body : List Change) → all_changed c (gated c mark head gate text body) ≡ remove (all_changed c (begun_gated c mark head gate text ++ body)) mark
gated-finished c mark head gate text body = changed-in_turn c (begun_gated c mark head gate text ++ body) (ended mark)

pub run-safe : (mark : PathValue) (head : List ℕ) (gate : ℕ) (text : List ℕ) (body : List Change) (a b c d : Moment) (done : Bool) → gate < length head → Course a b → Course b c → Course c d
    → LeavesOnly (IsMarkLaid a mark head gate text) a.stops b.stops → StandsSynced (with_mark a.state.contents mark (whole_mark head gate text)) b
    → Runs body b.state.calls c.state.calls b.state.contents c.state.contents true → list_any (is_on mark) body ≡ false → Runs (ended mark) c.state.calls d.state.calls c.state.contents d.state.contents done
    → LeavesOnly (IsGatedToEnd a mark head gate text body (all_changed a.state.contents (gated a.state.contents mark head gate text body))) a.stops d.stops
run-safe mark head gate text body a b c d done inside one two three laid synced ran off ending =
    let old = a.state.contents in
    let whole = whole_mark head gate text in
    let same : all_changed (with_mark old mark whole) (body ++ ended mark) ≡ all_changed old (gated old mark head gate text body) =
    ap (λ k. all_changed k (body ++ ended mark)) (sym (begun-after old mark head gate text inside))
    ∙ changed-in_turn (all_changed old (begun_gated old mark head gate text)) body (ended mark)
    ∙ ap (λ k. remove k mark) (sym (changed-in_turn old (begun_gated old mark head gate text) body)) ∙ sym (gated-finished old mark head gate text body) in
    laid-then mark head gate text body (all_changed old (gated old mark head gate text body)) a b d one (calls_on Occurs b c d two three) laid
    (subst (λ k. LeavesOnly (IsUnderToEnd old mark whole body k) b.stops d.stops) same (under-ended old mark whole body b c d done synced two three ran off ending))

-- ---- which text is read

pub begun-told : (first : Moment) (mark : PathValue) (head : List ℕ) (gate : ℕ) (text : List ℕ) (c : Contents) → ((u : Contents) → IsUntouched first u → IsReady (stood_at first mark) head gate (bytes_at u mark))
    → IsMarkLaid first mark head gate text c → IsUntouched first c ⊎ IsBut first mark (λ old new. IsTold head gate text new) c
begun-told first mark head gate text c ready (inl untouched) = inl untouched
begun-told first mark head gate text c ready (inr but) = inr (record {
  before = but.before;
  untouched = but.untouched;
  bytes = but.bytes;
  is = but.is;
  so = mark-told (stood_at first mark) head gate text (bytes_at but.before mark) but.bytes (ready but.before but.untouched) but.so;
})

ready-alone : (head : List ℕ) (gate : ℕ) (o : Option Entry) → (IsComplete head gate (bytes_in o) → ⊥) → IsReady (is_file o) head gate (bytes_in o)
ready-alone head gate None bare = omega arith
ready-alone head gate (Some (FolderEntry bad)) bare = omega arith
ready-alone head gate (Some (FileEntry bytes)) bare = bare
ready-alone head gate (Some LinkEntry) bare = omega arith

-- a mark that was removed holds nothing
removed-bare : (parts : List (List ℕ)) → bytes_in (or_root parts None) ≡ []
removed-bare [] = refl
removed-bare (part ∷ parts) = refl

module _ (first : Moment) (mark : PathValue) (head : List ℕ) (gate : ℕ) (text : List ℕ) (body : List Change) (c d : Contents) (synced : StandsSynced c first) (bare : IsComplete head gate (bytes_at c mark) → ⊥) where
  alone : (u : Contents) → IsUntouched first u → u ≡ c
  alone u untouched = ⊎_elim (λ e. e ∙ synced.now) (λ image. synced.left u image) untouched

  ready : (u : Contents) → IsUntouched first u → IsReady (stood_at first mark) head gate (bytes_at u mark)
  ready u untouched =
      subst (λ k. IsReady (stood_at first mark) head gate (bytes_at k mark)) (sym (alone u untouched))
      (subst (λ k. IsReady (is_file (entry_at k mark)) head gate (bytes_at c mark)) (sym synced.now) (ready-alone head gate (entry_at c mark) bare))

  -- while the mark is laid
  but-told : IsBut first mark (λ old new. IsTold head gate text new) d → IsIncomplete c mark head gate d ⊎ (d ≡ with_mark c mark (whole_mark head gate text))
  but-told but =
      let is : d ≡ with_mark c mark but.bytes = but.is ∙ ap (λ k. with_mark k mark but.bytes) (alone but.before but.untouched) in
      ⊎_elim (λ incomplete. inl (but.bytes, is, incomplete)) (λ whole. inr (is ∙ ap (with_mark c mark) whole)) but.so

  pub laid-told : IsMarkLaid first mark head gate text d → (d ≡ c) ⊎ (IsIncomplete c mark head gate d ⊎ (d ≡ with_mark c mark (whole_mark head gate text)))
  laid-told laid = ⊎_elim (λ untouched. inl (alone d untouched)) (λ but. inr (but-told but)) (begun-told first mark head gate text d ready laid)

  -- and under it
  gated-told : IsGated first mark head gate text body d → (d ≡ c) ⊎ (IsIncomplete c mark head gate d ⊎ IsUnder c mark (whole_mark head gate text) body d)
  gated-told (inl laid) = ⊎_elim (λ same. inl same) (⊎_elim (λ incomplete. inr (inl incomplete)) (λ whole. inr (inr (under-none c mark (whole_mark head gate text) body d whole)))) (laid-told laid)
  gated-told (inr under) = inr (inr (subst (λ k. IsUnder k mark (whole_mark head gate text) body d) synced.now under))

  pub complete-under : IsGatedToEnd first mark head gate text body (all_changed c (gated c mark head gate text body)) d → IsComplete head gate (bytes_at d mark) → IsUnder c mark (whole_mark head gate text) body d
  complete-under (inl run) whole = ⊎_elim
      (λ (same : d ≡ c). absurd (bare (subst (λ k. IsComplete head gate (bytes_at k mark)) same whole)))
      (⊎_elim
      (λ (incomplete : IsIncomplete c mark head gate d). absurd (incomplete.2 (subst (IsComplete head gate) (ap (λ k. bytes_at k mark) incomplete.1 ∙ ap bytes_in (entry-put c mark (FileEntry incomplete.0))) whole)))
      (λ (under : IsUnder c mark (whole_mark head gate text) body d). under))
      (gated-told run)
  complete-under (inr finished) whole =
      let gone : bytes_at d mark ≡ [] = ap (λ k. bytes_at k mark) (finished ∙ gated-finished c mark head gate text body) ∙ ap bytes_in (entry-removed (all_changed c (begun_gated c mark head gate text ++ body)) mark) ∙ removed-bare mark.parts in
      absurd (short-incomplete head gate (bytes_at d mark) (omega (arith, ap length gone)) whole)

pub end-told : (first : Moment) (mark : PathValue) (head : List ℕ) (gate : ℕ) (text : List ℕ) (body : List Change) (finished c d : Contents) → StandsSynced c first → (IsComplete head gate (bytes_at c mark) → ⊥)
    → IsGatedToEnd first mark head gate text body finished d → (d ≡ c) ⊎ (IsIncomplete c mark head gate d ⊎ IsUnderToEnd c mark (whole_mark head gate text) body finished d)
end-told first mark head gate text body finished c d synced bare (inl run) =
    ⊎_elim (λ same. inl same) (⊎_elim (λ incomplete. inr (inl incomplete)) (λ under. inr (inr (inl under)))) (gated-told first mark head gate text body c d synced bare run)
end-told first mark head gate text body finished c d synced bare (inr done) = inr (inr (inr done))

pub synced-told : (first : Moment) (mark : PathValue) (head : List ℕ) (gate : ℕ) (text : List ℕ) (c d : Contents) → StandsSynced c first → (IsComplete head gate (bytes_at c mark) → ⊥)
    → IsMarkLaid first mark head gate text d → (d ≡ c) ⊎ (IsIncomplete c mark head gate d ⊎ (d ≡ with_mark c mark (whole_mark head gate text)))
synced-told first mark head gate text c d synced bare = laid-told first mark head gate text [] c d synced bare

-- ---- contents with the mark that they have

entry-got : (parts : List (List ℕ)) (o : Option Entry) (bytes : List ℕ) → or_root parts o ≡ Some (FileEntry bytes) → o ≡ Some (FileEntry bytes)
entry-got parts (Some entry) bytes e = e
entry-got [] None bytes e = absurd (cc e)
entry-got (part ∷ parts) None bytes e = absurd (cc e)

apart : (p path : PathValue) → path_eq p path ≡ false → p ≢ path
apart p path off = λ same. true≢false (sym (path_eq-own p) ∙ ap (path_eq p) same ∙ off)

put-again : (c : Contents) (mark q : PathValue) (entry : Entry) → get c mark ≡ Some entry → (b : Bool) → path_eq q mark ≡ b → get (insert c mark entry) q ≡ get c q
put-again c mark q entry is true same = let e = path_eq-same q mark same in ap (get (insert c mark entry)) e ∙ get-put c mark entry ∙ sym is ∙ ap (get c) (sym e)
put-again c mark q entry is false off = get-put_other c mark q entry (apart q mark off)

pub under-marked : (old : Contents) (mark : PathValue) (bytes : List ℕ) (body : List Change) (c : Contents) → IsUnder old mark bytes body c → with_mark c mark bytes ≡ c
under-marked old mark bytes body c under =
    same-contents (with_mark c mark bytes) c (λ q. put-again c mark q (FileEntry bytes) (entry-got mark.parts (get c mark) bytes under.holds) (path_eq q mark) refl)
