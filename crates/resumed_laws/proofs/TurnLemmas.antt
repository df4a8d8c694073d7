-- A step of the first run and the same of a resume, side by side: what stays at other paths, and what is on its way behind the step.
use Rattle.std.proofs.Common.{◌≡◌, ◌≢◌, ◌⊎◌, ℕ, ◌+◌, ◌&&◌, ◌||◌, Bool, true, false, not, cond, nat_lt, List, [], ◌∷◌, ◌++◌, length, Option, None, Some, is_some, inl, inr, ⊎_elim, refl, sym, ap, ◌∙◌, subst, true≢false}
use Rattle.std.specs.Prelude.{nat_le}
use Rattle.std.specs.FinMap.{get}
use Rattle.cluster_tree.specs.Contents.{Contents, Entry, FileEntry, FolderEntry, LinkEntry, entry_at, is_folder, or_root, parent}
use Rattle.cluster_tree.specs.Folders.{has_child}
use Rattle.cluster_tree.specs.PathValue.{PathValue, below}
use Rattle.cluster_tree.specs.PathOrder.{path_eq}
use Rattle.cluster_tree.specs.Tree.{refusal_in}
use Rattle.cluster_tree.proofs.FolderLemmas.{has_child-there, lies_in-below}
use Rattle.cluster_tree.proofs.ListingLemmas.{has_child-named}
use Rattle.cluster_tree.proofs.OrderLemmas.{path_eq-own, path_eq-same}
use Rattle.rewind_writes.specs.declared.plan.FileBytes.{FileBytes}
use Rattle.rewind_writes.specs.declared.step.Step.{Step}
use Rattle.rewind_writes.specs.declared.step.Step.TheVariants.{Folder, Whole, Cut, Range, Remove}
use Rattle.resumed_laws.specs.Between.{AllOnWay, AreMixed, IsMixed, IsOnWay, may_be_file}
use Rattle.resumed_laws.specs.Groups.{Group, Untouched, Made, Copied, Mixed, Gone, Labelled, Controlled, AllBehind, group_at, group_in, group_of, is_free, is_gone, is_left, is_made, is_put, is_range, is_written, stays, target_of}
use Rattle.resumed_laws.proofs.ByteLemmas.{mixed-equal, mixed-same, mixed-weaker}
use Rattle.resumed_laws.proofs.MayLemmas.{both-true}

-- ---- steps that are on other paths

left-other : (p : PathValue) (k : ℕ) (x : Step) → path_eq p (target_of x) ≡ false → is_left p k x ≡ true
left-other p k (Folder path) e = refl
left-other p k (Whole from to size) e = refl
left-other p k (Cut path size) e = ap (λ b. not b || nat_lt k size) e
left-other p k (Range from to at size) e = refl
left-other p k (Remove path) e = refl

put-other : (p : PathValue) (k : ℕ) (x : Step) → path_eq p (target_of x) ≡ false → is_put p k x ≡ false
put-other p k (Folder path) e = refl
put-other p k (Whole from to size) e = refl
put-other p k (Cut path size) e = refl
put-other p k (Range from to at size) e = ap (λ b. b && (nat_le at k && nat_lt k (at + size))) e
put-other p k (Remove path) e = refl

left-range : (p : PathValue) (k : ℕ) (x : Step) → is_range x ≡ true → is_left p k x ≡ true
left-range p k (Folder path) e = refl
left-range p k (Whole from to size) e = refl
left-range p k (Cut path size) e = absurd (cc e)
left-range p k (Range from to at size) e = refl
left-range p k (Remove path) e = refl

and-true : (a b : Bool) → a ≡ true → b ≡ true → (a && b) ≡ true
and-true true b e f = f
and-true false b e f = e

or-false : (a b : Bool) → a ≡ false → b ≡ false → (a || b) ≡ false
or-false true b e f = e
or-false false b e f = f

-- behind a step on a path no cut is on it
pub behind-stays : (x : Step) (path : PathValue) (k : ℕ) (ys : List Step) → path_eq path (target_of x) ≡ true → AllBehind x ys → stays ys path k ≡ true
behind-stays x path k [] e behind = refl
behind-stays x path k (y ∷ ys) e behind = and-true (is_left path k y) (stays ys path k) (by (path_eq path (target_of y)) refl) (behind-stays x path k ys e behind.1)
  where
    by : (b : Bool) → path_eq path (target_of y) ≡ b → is_left path k y ≡ true
    by true f = left-range path k y (behind.0 (ap (λ p. path_eq p (target_of y)) (sym (path_eq-same path (target_of x) e)) ∙ f)).1
    by false f = left-other path k y f

group-some : (x : Step) → group_of x ≢ Untouched
group-some (Folder path) e = cc e
group-some (Whole from to size) e = cc e
group-some (Cut path size) e = cc e
group-some (Range from to at size) e = cc e
group-some (Remove path) e = cc e

-- where none is on a path no byte goes and none is written
pub untouched-stays : (ys : List Step) (path : PathValue) → group_at path ys ≡ Untouched → (k : ℕ) → (stays ys path k ≡ true) × (is_written ys path k ≡ false)
untouched-stays [] path none k = (refl, refl)
untouched-stays (y ∷ ys) path none k = by (path_eq path (target_of y)) refl none (λ more. untouched-stays ys path more k)
  where
    by : (b : Bool) → path_eq path (target_of y) ≡ b → cond b (group_of y) (group_at path ys) ≡ Untouched → (group_at path ys ≡ Untouched → (stays ys path k ≡ true) × (is_written ys path k ≡ false))
        → ((is_left path k y && stays ys path k) ≡ true) × ((is_put path k y || is_written ys path k) ≡ false)
    by true e own more = absurd (group-some y own)
    by false e rest more =
        let two = more rest in
        (and-true (is_left path k y) (stays ys path k) (left-other path k y e) two.0, or-false (is_put path k y) (is_written ys path k) (put-other path k y e) two.1)

-- ---- entries and what stands in the map

pub get-of : (parts : List (List ℕ)) (a b o : Option Entry) → or_root parts a ≡ None → or_root parts b ≡ o → b ≡ o
get-of [] None b o none is = absurd (cc none)
get-of [] (Some entry) b o none is = absurd (cc none)
get-of (x ∷ xs) a None o none is = is
get-of (x ∷ xs) a (Some entry) o none is = is

pub get-none : (parts : List (List ℕ)) (a : Option Entry) → or_root parts a ≡ None → a ≡ None
get-none parts a none = get-of parts a a None none none

pub not-folder : (o : Option Entry) → refusal_in o ≡ None → is_folder o ≡ true
not-folder None e = absurd (cc e)
not-folder (Some (FolderEntry bad)) e = refl
not-folder (Some (FileEntry bytes)) e = absurd (cc e)
not-folder (Some LinkEntry) e = absurd (cc e)

pub in-folder : (o : Option Entry) → is_folder o ≡ true → refusal_in o ≡ None
in-folder None e = absurd (cc e)
in-folder (Some (FolderEntry bad)) e = refl
in-folder (Some (FileEntry bytes)) e = absurd (cc e)
in-folder (Some LinkEntry) e = absurd (cc e)

folder-unfile : (o : Option Entry) → is_folder o ≡ true → may_be_file o ≡ false
folder-unfile None e = absurd (cc e)
folder-unfile (Some (FolderEntry bad)) e = refl
folder-unfile (Some (FileEntry bytes)) e = absurd (cc e)
folder-unfile (Some LinkEntry) e = absurd (cc e)

gone-is : (g : Group) → is_gone g ≡ true → g ≡ Gone
gone-is Untouched e = absurd (cc e)
gone-is Made e = absurd (cc e)
gone-is Copied e = absurd (cc e)
gone-is Mixed e = absurd (cc e)
gone-is Gone e = refl
gone-is Labelled e = absurd (cc e)
gone-is Controlled e = absurd (cc e)

or-off : (a b : Bool) → a ≡ false → (a || b) ≡ true → b ≡ true
or-off true b e h = absurd (cc e)
or-off false b e h = h

module _ (label control : FileBytes) where
  -- what a group that isn't the label's or the control file's is
  gone-in : (steps : List Step) (p : PathValue) → group_in steps label control p ≡ Gone → group_at p steps ≡ Gone
  gone-in steps p e = by (path_eq p label.path) (path_eq p control.path) e
    where
      by : (a b : Bool) → cond a Labelled (cond b Controlled (group_at p steps)) ≡ Gone → group_at p steps ≡ Gone
      by true b h = absurd (cc h)
      by false true h = absurd (cc h)
      by false false h = h

  -- ---- a folder that isn't to go stays one

  folder-way : (steps : List Step) (p : PathValue) (g : Group) (before now : Option Entry) → IsOnWay steps control p g before now → is_folder before ≡ true → (g ≡ Gone → ⊥) → (group_at p steps ≢ Gone) → ⊥
  folder-way steps p Untouched before now way is other keep = way
  folder-way steps p Made before now way is other keep = absurd (cc (sym (ap is_folder way.0) ∙ is))
  folder-way steps p Copied before now way is other keep = true≢false (sym way.0 ∙ folder-unfile before is)
  folder-way steps p Mixed before now way is other keep = absurd (cc (sym (ap is_folder way.was) ∙ is))
  folder-way steps p Gone before now way is other keep = other refl
  folder-way steps p Labelled before now way is other keep = keep (gone-is (group_at p steps) (or-off (may_be_file before) (is_gone (group_at p steps)) (folder-unfile before is) way.0))
  folder-way steps p Controlled before now way is other keep = absurd (cc (sym (ap is_folder way.was) ∙ is))

  pub folder-stays : (s t : Contents) (steps : List Step) (p : PathValue) → AllOnWay s steps label control t → is_folder (entry_at s p) ≡ true → group_at p steps ≢ Gone → is_folder (entry_at t p) ≡ true
  folder-stays s t steps p all is keep = ⊎_elim (λ same. ap (λ o. is_folder (or_root p.parts o)) same ∙ is)
      (λ way. absurd (folder-way steps p (group_in steps label control p) (entry_at s p) (entry_at t p) way is (λ e. keep (gone-in steps p e)) keep)) (all p)

  -- ---- where nothing is and nothing is made, nothing comes

  none-way : (steps : List Step) (p : PathValue) (g : Group) (before now : Option Entry) → IsOnWay steps control p g before now → before ≡ None → is_made g ≡ false → now ≡ None
  none-way steps p Untouched before now way none off = absurd way
  none-way steps p Made before now way none off = absurd (cc off)
  none-way steps p Copied before now way none off = absurd (cc off)
  none-way steps p Mixed before now way none off = absurd (cc (sym none ∙ way.was))
  none-way steps p Gone before now way none off = way
  none-way steps p Labelled before now way none off = absurd (cc off)
  none-way steps p Controlled before now way none off = absurd (cc (sym none ∙ way.was))

  none-stays : (s t : Contents) (steps : List Step) (p : PathValue) → AllOnWay s steps label control t → entry_at s p ≡ None → is_made (group_in steps label control p) ≡ false → entry_at t p ≡ None
  none-stays s t steps p all none off =
      ⊎_elim (λ same. ap (or_root p.parts) same ∙ none) (λ way. none-way steps p (group_in steps label control p) (entry_at s p) (entry_at t p) way none off) (all p)

  -- a folder that goes is as empty as in the first run
  pub childless-stays : (s t : Contents) (steps : List Step) (folder : PathValue) → AllOnWay s steps label control t → ((p : PathValue) → is_made (group_in steps label control p) ≡ true → group_at (parent p) steps ≢ Gone)
      → group_at folder steps ≡ Gone → has_child s folder ≡ false → has_child t folder ≡ false
  childless-stays s t steps folder all rooms goes empty = by (has_child t folder) refl
    where
      child : (name : List ℕ) → is_some (get t (below folder (name ∷ []))) ≡ true → ⊥
      child name there =
          let q : PathValue = below folder (name ∷ []) in
          let up : folder ≡ parent q = path_eq-same folder (parent q) (both-true (nat_lt 0 (length q.parts)) (path_eq folder (parent q)) (lies_in-below folder name)).1 in
          let absent : get s q ≡ None = lacks (get s q) refl in
          let none : entry_at s q ≡ None = ap (or_root q.parts) absent ∙ deep folder.parts name in
          let made : is_made (group_in steps label control q) ≡ false = unmade (is_made (group_in steps label control q)) refl up in
          let now : entry_at t q ≡ None = none-stays s t steps q all none made in
          true≢false (sym there ∙ ap is_some (get-none q.parts (get t q) now))
        where
          deep : (parts : List (List ℕ)) (n : List ℕ) → or_root (parts ++ n ∷ []) None ≡ None
          deep [] n = refl
          deep (x ∷ xs) n = refl

          lacks : (o : Option Entry) → get s (below folder (name ∷ [])) ≡ o → o ≡ None
          lacks None is = refl
          lacks (Some entry) is = absurd (true≢false (sym (has_child-there s folder (below folder (name ∷ [])) (ap is_some is) (lies_in-below folder name)) ∙ empty))

          unmade : (b : Bool) → is_made (group_in steps label control (below folder (name ∷ []))) ≡ b → folder ≡ parent (below folder (name ∷ [])) → b ≡ false
          unmade false is up = refl
          unmade true is up = absurd (rooms (below folder (name ∷ [])) is (ap (λ p. group_at p steps) (sym up) ∙ goes))

      by : (b : Bool) → has_child t folder ≡ b → b ≡ false
      by false is = refl
      by true is = let one = (has_child-named t folder).0 is in absurd (child one.0 one.1)

  -- ---- behind a step

  group-rest : (x : Step) (rest : List Step) (p : PathValue) → path_eq p (target_of x) ≡ false → group_in (x ∷ rest) label control p ≡ group_in rest label control p
  group-rest x rest p off = ap (λ b. cond (path_eq p label.path) Labelled (cond (path_eq p control.path) Controlled (cond b (group_of x) (group_at p rest)))) off

  way-rest : (x : Step) (rest : List Step) (p : PathValue) → path_eq p (target_of x) ≡ false → (g : Group) (before now : Option Entry) → IsOnWay (x ∷ rest) control p g before now → IsOnWay rest control p g before now
  way-rest x rest p off Untouched before now way = way
  way-rest x rest p off Made before now way = way
  way-rest x rest p off Copied before now way = way
  way-rest x rest p off Mixed before now way = record {
    old = way.old;
    new = way.new;
    was = way.was;
    is = way.is;
    bytes = mixed-weaker (stays (x ∷ rest) p) (is_written (x ∷ rest) p) (stays rest p) (is_written rest p) way.old way.new
        (λ k e. and-true (is_left p k x) (stays rest p k) (left-other p k x off) e) (λ k e. or-false (is_put p k x) (is_written rest p k) (put-other p k x off) e) way.bytes;
  }
  way-rest x rest p off Gone before now way = way
  way-rest x rest p off Labelled before now way = (ap (λ b. may_be_file before || is_gone (cond b (group_of x) (group_at p rest))) (sym off) ∙ way.0, way.1)
  way-rest x rest p off Controlled before now way = way

  abbrev pub Here : (s : Contents) → List Step → (t : Contents) → PathValue → Type 0
  Here s steps t p = (get t p ≡ get s p) ⊎ IsOnWay steps control p (group_in steps label control p) (entry_at s p) (entry_at t p)

  other-path : (x : Step) (rest : List Step) (s t s' t' : Contents) (p : PathValue) → path_eq p (target_of x) ≡ false → get s' p ≡ get s p → get t' p ≡ get t p → Here s (x ∷ rest) t p → Here s' rest t' p
  other-path x rest s t s' t' p off old new (inl same) = inl (new ∙ same ∙ sym old)
  other-path x rest s t s' t' p off old new (inr way) =
      let less = way-rest x rest p off (group_in rest label control p) (entry_at s p) (entry_at t p) (subst (λ g. IsOnWay (x ∷ rest) control p g (entry_at s p) (entry_at t p)) (group-rest x rest p off) way) in
      inr (subst (λ o. IsOnWay rest control p (group_in rest label control p) (or_root p.parts o) (entry_at t' p)) (sym old)
      (subst (λ o. IsOnWay rest control p (group_in rest label control p) (entry_at s p) (or_root p.parts o)) (sym new) less))

  -- once a step is done in both, its path is alike or on its way behind it, and all others are as they were
  pub turn-on : (x : Step) (rest : List Step) (s t s' t' : Contents) → AllOnWay s (x ∷ rest) label control t → ((p : PathValue) → p ≢ target_of x → get s' p ≡ get s p) → ((p : PathValue) → p ≢ target_of x → get t' p ≡ get t p)
      → Here s' rest t' (target_of x) → AllOnWay s' rest label control t'
  turn-on x rest s t s' t' all old new own p = by (path_eq p (target_of x)) refl
    where
      by : (b : Bool) → path_eq p (target_of x) ≡ b → Here s' rest t' p
      by true e = subst (Here s' rest t') (sym (path_eq-same p (target_of x) e)) own
      by false e = let off : p ≢ target_of x = λ same. true≢false (sym (ap (path_eq p) (sym same) ∙ path_eq-own p) ∙ e) in other-path x rest s t s' t' p e (old p off) (new p off) (all p)

  -- ---- a file that is cut and gets ranges

  -- its bytes in both
  pub mixed-of : (steps : List Step) (s t : Contents) (p : PathValue) (old : List ℕ) → group_in steps label control p ≡ Mixed → entry_at s p ≡ Some (FileEntry old) → Here s steps t p
      → (new : List ℕ) × (entry_at t p ≡ Some (FileEntry new)) × AreMixed (stays steps p) (is_written steps p) old new
  mixed-of steps s t p old is was (inl same) = (old, ap (or_root p.parts) same ∙ was, mixed-same (stays steps p) (is_written steps p) old)
  mixed-of steps s t p old is was (inr way) =
      let w : IsMixed (stays steps p) (is_written steps p) (entry_at s p) (entry_at t p) = subst (λ g. IsOnWay steps control p g (entry_at s p) (entry_at t p)) is way in
      let e : w.old ≡ old = cc (sym w.was ∙ was) in
      (w.new, w.is, subst (λ l. AreMixed (stays steps p) (is_written steps p) l w.new) e w.bytes)

  -- and once it is behind a cut or a range of it
  pub mixed-here : (rest : List Step) (s' t' : Contents) (p : PathValue) (old new : List ℕ) → (group_at p rest ≡ Untouched) ⊎ (group_at p rest ≡ Mixed) → group_in rest label control p ≡ group_at p rest
      → get s' p ≡ Some (FileEntry old) → get t' p ≡ Some (FileEntry new) → AreMixed (stays rest p) (is_written rest p) old new → Here s' rest t' p
  mixed-here rest s' t' p old new (inl none) is was now mixed =
      let off = untouched-stays rest p none in
      let same : new ≡ old = mixed-equal (stays rest p) (is_written rest p) old new (λ k. (off k).0) (λ k. (off k).1) mixed in
      inl (now ∙ ap (λ l. Some (FileEntry l)) same ∙ sym was)
  mixed-here rest s' t' p old new (inr more) is was now mixed =
      inr (subst (λ g. IsOnWay rest control p g (entry_at s' p) (entry_at t' p)) (sym (is ∙ more))
      (record { old = old; new = new; was = ap (or_root p.parts) was; is = ap (or_root p.parts) now; bytes = mixed }))

  -- ---- the label and the control file are elsewhere

  pub off-label : (x : Step) (rest : List Step) → is_free (group_at label.path (x ∷ rest)) ≡ true → is_free (group_of x) ≡ false → path_eq (target_of x) label.path ≡ false
  off-label x rest free taken = by (path_eq (target_of x) label.path) refl
    where
      by : (b : Bool) → path_eq (target_of x) label.path ≡ b → b ≡ false
      by false e = refl
      by true e =
          let same : target_of x ≡ label.path = path_eq-same (target_of x) label.path e in
          let own : path_eq label.path (target_of x) ≡ true = ap (path_eq label.path) same ∙ path_eq-own label.path in
          absurd (true≢false (sym free ∙ ap (λ b. is_free (cond b (group_of x) (group_at label.path rest))) own ∙ taken))

  pub off-control : (x : Step) (rest : List Step) → group_at control.path (x ∷ rest) ≡ Untouched → path_eq control.path (target_of x) ≡ false
  off-control x rest none = by (path_eq control.path (target_of x)) refl none
    where
      by : (b : Bool) → path_eq control.path (target_of x) ≡ b → cond b (group_of x) (group_at control.path rest) ≡ Untouched → b ≡ false
      by false e own = refl
      by true e own = absurd (group-some x own)

  turned : (p q : PathValue) → path_eq p q ≡ false → path_eq q p ≡ false
  turned p q off = by (path_eq q p) refl
    where
      by : (b : Bool) → path_eq q p ≡ b → b ≡ false
      by false e = refl
      by true e = absurd (true≢false (sym (ap (path_eq p) (path_eq-same q p e) ∙ path_eq-own p) ∙ off))

  -- so the group of a step stands at its path, and behind it that of the others
  pub group-head : (x : Step) (rest : List Step) → is_free (group_at label.path (x ∷ rest)) ≡ true → group_at control.path (x ∷ rest) ≡ Untouched → is_free (group_of x) ≡ false
      → (group_in (x ∷ rest) label control (target_of x) ≡ group_of x) × (group_in rest label control (target_of x) ≡ group_at (target_of x) rest)
  group-head x rest free none taken =
      let one = off-label x rest free taken in
      let other = turned control.path (target_of x) (off-control x rest none) in (
        ap (λ b. cond b Labelled (cond (path_eq (target_of x) control.path) Controlled (group_at (target_of x) (x ∷ rest)))) one
            ∙ ap (λ b. cond b Controlled (group_at (target_of x) (x ∷ rest))) other ∙ ap (λ b. cond b (group_of x) (group_at (target_of x) rest)) (path_eq-own (target_of x)),
        ap (λ b. cond b Labelled (cond (path_eq (target_of x) control.path) Controlled (group_at (target_of x) rest))) one ∙ ap (λ b. cond b Controlled (group_at (target_of x) rest)) other,
      )
