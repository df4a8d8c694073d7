-- A call that a plan may make leaves it between its start and its end, whatever it answered.
use Rattle.std.proofs.Common.{◌≡◌, ◌≢◌, ◌⊎◌, ℕ, ◌+◌, ◌<◌, ◌≤◌, ◌==◌, ◌||◌, Bool, true, false, cond, nat_lt, List, [], ◌∷◌, length, Option, None, Some, is_some, inl, inr, ⊎_elim, refl, sym, ap, ◌∙◌, subst, true≢false, arith, rules}
use Rattle.std.specs.FinMap.{get, insert, remove}
use Rattle.cluster_tree.specs.Contents.{Contents, Entry, FileEntry, FolderEntry, LinkEntry, entry_at, or_root, parent}
use Rattle.cluster_tree.specs.PathValue.{PathValue}
use Rattle.cluster_tree.specs.PathOrder.{path_eq}
use Rattle.cluster_tree.specs.Step.{CutBytes, Step, TornBytes}
use Rattle.cluster_tree.specs.Tree.{bytes_in, file_of, refusal_in, refusal_past}
use Rattle.cluster_tree.specs.declared.tree.ChangeCall.{ChangeCall}
use Rattle.cluster_tree.specs.declared.tree.ChangeCall.TheVariants as call
use Rattle.cluster_tree.specs.declared.tree.TreeFault.TheVariants as fault
use Rattle.cluster_tree.proofs.ContentsLemmas.{entry-put, get-put_other, entry-removed, get-removed_other}
use Rattle.cluster_tree.proofs.Images.{KeptBy}
use Rattle.cluster_tree.proofs.OrderLemmas.{path_eq-own, path_eq-same}
use Rattle.rewind_writes.specs.declared.plan.FileBytes.{FileBytes}
use Rattle.rewind_writes.specs.declared.step.Step.{Step as Planned}
use Rattle.resumed_laws.specs.Between.{AllOnWay, AreMixed, IsMixed, IsOnWay, may_be_file}
use Rattle.resumed_laws.specs.Groups.{Group, Untouched, Made, Copied, Mixed, Gone, Labelled, Controlled, group_at, group_in, is_gone, is_written, stays}
use Rattle.resumed_laws.proofs.ByteLemmas.{mixed-cut, mixed-same, mixed-torn}
use Rattle.resumed_laws.proofs.May.{May, MayCut, MayMakeFile, MayRemove, MayWrite}

-- ---- what isn't refused

pub not-past : (n at : ℕ) → cond (nat_lt n at) (Some fault.PastEnd) None ≡ None → at ≤ n
not-past n at e = by (nat_lt n at) refl e
  where
    small : nat_lt n at ≡ false → at ≤ n
    small f = grind (arith, rules, f)

    by : (b : Bool) → nat_lt n at ≡ b → cond b (Some fault.PastEnd) None ≡ None → at ≤ n
    by true is none = absurd (cc none)
    by false is none = small is

-- a file is there, so long
pub past-tells : (o : Option Entry) (at : ℕ) → refusal_past (file_of o) at ≡ None → (bytes : List ℕ) × (o ≡ Some (FileEntry bytes)) × (at ≤ length bytes)
past-tells None at e = absurd (cc e)
past-tells (Some (FolderEntry bad)) at e = absurd (cc e)
past-tells (Some (FileEntry bytes)) at e = (bytes, refl, not-past (length bytes) at e)
past-tells (Some LinkEntry) at e = absurd (cc e)

-- nothing is there, in a folder
pub make-tells : (here up : Option Entry) → cond (is_some here) (Some fault.Exists) (refusal_in up) ≡ None → (here ≡ None) × (refusal_in up ≡ None)
make-tells None up e = (refl, e)
make-tells (Some entry) up e = absurd (cc e)

-- ---- files and nothing

file-may : (o : Option Entry) (bytes : List ℕ) → o ≡ Some (FileEntry bytes) → may_be_file o ≡ true
file-may o bytes is = ap may_be_file is

or-left : (a b : Bool) → a ≡ true → (a || b) ≡ true
or-left true b e = refl
or-left false b e = absurd (cc e)

or-right : (a b : Bool) → b ≡ true → (a || b) ≡ true
or-right true b e = refl
or-right false b e = e

module _ (c : Contents) (steps : List Planned) (label control : FileBytes) where
  -- what stands at a path, or stood there before
  abbrev pub On : PathValue → Group → (before now : Option Entry) → Type 0
  On path g before now = (now ≡ before) ⊎ IsOnWay steps control path g before now

  -- bytes of a file where ranges and a cut are
  on-mixed : (left put : ℕ → Bool) (before now : Option Entry) (bytes : List ℕ) → (now ≡ before) ⊎ IsMixed left put before now → now ≡ Some (FileEntry bytes)
      → (old : List ℕ) × (before ≡ Some (FileEntry old)) × AreMixed left put old bytes
  on-mixed left put before now bytes (inl same) is = (bytes, sym same ∙ is, mixed-same left put bytes)
  on-mixed left put before now bytes (inr mixed) is =
      let e : mixed.new ≡ bytes = cc (sym mixed.is ∙ is) in
      (mixed.old, mixed.was, subst (AreMixed left put mixed.old) e mixed.bytes)

  -- ---- a write in part

  module _ (path : PathValue) (at n : ℕ) (before now : Option Entry) (bytes torn : List ℕ) (is : now ≡ Some (FileEntry bytes)) (le : at ≤ length bytes) (t : TornBytes at n bytes torn) where
    mixed-write : (left put : ℕ → Bool) → ((k : ℕ) → at ≤ k → k < at + n → put k ≡ true) → (now ≡ before) ⊎ IsMixed left put before now → IsMixed left put before (Some (FileEntry torn))
    mixed-write left put covers on =
        let (old, was, mixed) = on-mixed left put before now bytes on is in
        record { old = old; new = torn; was = was; is = refl; bytes = mixed-torn left put at n old bytes torn covers le mixed t }

    file-before : (now ≡ before) ⊎ (may_be_file before ≡ true) → may_be_file before ≡ true
    file-before (inl same) = ap may_be_file (sym same ∙ is)
    file-before (inr was) = was

    pub write-on : (g : Group) → On path g before now → MayWrite steps control path at n g → IsOnWay steps control path g before (Some (FileEntry torn))
    write-on Untouched on may = absurd may
    write-on Made on may = absurd may
    write-on Copied on may = (file-before (⊎_elim (λ e. inl e) (λ w. inr w.0) on), refl)
    write-on Mixed on may = mixed-write (stays steps path) (is_written steps path) may on
    write-on Gone on may = absurd may
    write-on Labelled (inl same) may = (or-left (may_be_file before) (is_gone (group_at path steps)) (ap may_be_file (sym same ∙ is)), refl)
    write-on Labelled (inr way) may = (way.0, refl)
    write-on Controlled on may = mixed-write (λ k. true) (λ k. nat_lt k (length control.bytes.items)) may on

  -- ---- a cut in part

  module _ (path : PathValue) (size : ℕ) (before now : Option Entry) (bytes cut : List ℕ) (is : now ≡ Some (FileEntry bytes)) (t : CutBytes size bytes cut) where
    pub cut-on : (g : Group) → On path g before now → MayCut steps path size g → IsOnWay steps control path g before (Some (FileEntry cut))
    cut-on Untouched on may = absurd may
    cut-on Made on may = absurd may
    cut-on Copied (inl same) may = (ap may_be_file (sym same ∙ is), refl)
    cut-on Copied (inr way) may = (way.0, refl)
    cut-on Mixed on may =
        let (old, was, mixed) = on-mixed (stays steps path) (is_written steps path) before now bytes on is in
        record { old = old; new = cut; was = was; is = refl; bytes = mixed-cut (stays steps path) (is_written steps path) size old bytes cut may mixed t }
    cut-on Gone on may = absurd may
    cut-on Labelled (inl same) may = (or-left (may_be_file before) (is_gone (group_at path steps)) (ap may_be_file (sym same ∙ is)), refl)
    cut-on Labelled (inr way) may = (way.0, refl)
    cut-on Controlled on may = absurd may

  -- ---- what is made or removed

  pub make-on : (path : PathValue) (before now : Option Entry) (g : Group) → now ≡ None → On path g before now → MayMakeFile g → IsOnWay steps control path g before (Some (FileEntry []))
  make-on path before now Untouched none on may = absurd may
  make-on path before now Made none on may = absurd may
  make-on path before now Copied none (inl same) may = (ap may_be_file (sym same ∙ none), refl)
  make-on path before now Copied none (inr way) may = (way.0, refl)
  make-on path before now Mixed none on may = absurd may
  make-on path before now Gone none on may = absurd may
  make-on path before now Labelled none (inl same) may = (or-left (may_be_file before) (is_gone (group_at path steps)) (ap may_be_file (sym same ∙ none)), refl)
  make-on path before now Labelled none (inr way) may = (way.0, refl)
  make-on path before now Controlled none on may = absurd may

  pub folder-on : (path : PathValue) (before now : Option Entry) → now ≡ None → On path Made before now → IsOnWay steps control path Made before (Some (FolderEntry false))
  folder-on path before now none (inl same) = (sym same ∙ none, refl)
  folder-on path before now none (inr way) = absurd (cc (sym none ∙ way.1))

  pub remove-on : (path : PathValue) (before : Option Entry) (g : Group) → MayRemove steps path g → IsOnWay steps control path g before None
  remove-on path before Untouched may = absurd may
  remove-on path before Made may = absurd may
  remove-on path before Copied may = absurd may
  remove-on path before Mixed may = absurd may
  remove-on path before Gone may = refl
  remove-on path before Labelled may = (or-right (may_be_file before) (is_gone (group_at path steps)) may.0, refl)
  remove-on path before Controlled may = absurd may

  -- ---- path by path

  abbrev Here : Contents → PathValue → Type 0
  Here i p = (get i p ≡ get c p) ⊎ IsOnWay steps control p (group_in steps label control p) (entry_at c p) (entry_at i p)

  on-of : (i : Contents) (p : PathValue) → Here i p → On p (group_in steps label control p) (entry_at c p) (entry_at i p)
  on-of i p (inl same) = inl (ap (or_root p.parts) same)
  on-of i p (inr way) = inr way

  stays-here : (i j : Contents) (p : PathValue) → get j p ≡ get i p → Here i p → Here j p
  stays-here i j p same (inl was) = inl (same ∙ was)
  stays-here i j p same (inr way) = inr (subst (λ o. IsOnWay steps control p (group_in steps label control p) (entry_at c p) (or_root p.parts o)) (sym same) way)

  -- a change of one path
  one-path : (i j : Contents) (path : PathValue) → ((p : PathValue) → p ≢ path → get j p ≡ get i p) → Here j path → AllOnWay c steps label control i → AllOnWay c steps label control j
  one-path i j path others here all p = by (path_eq p path) refl
    where
      by : (b : Bool) → path_eq p path ≡ b → Here j p
      by true e = subst (Here j) (sym (path_eq-same p path e)) here
      by false e = stays-here i j p (others p (λ same. true≢false (sym (ap (path_eq p) (sym same) ∙ path_eq-own p) ∙ e))) (all p)

  put : (i j : Contents) (path : PathValue) (entry : Entry) → j ≡ insert i path entry → IsOnWay steps control path (group_in steps label control path) (entry_at c path) (Some entry)
      → AllOnWay c steps label control i → AllOnWay c steps label control j
  put i j path entry is way all = subst (AllOnWay c steps label control) (sym is) (one-path i (insert i path entry) path (λ p off. get-put_other i path p entry off)
      (inr (subst (IsOnWay steps control path (group_in steps label control path) (entry_at c path)) (sym (entry-put i path entry)) way)) all)

  same-all : (i j : Contents) → j ≡ i → AllOnWay c steps label control i → AllOnWay c steps label control j
  same-all i j is all = subst (AllOnWay c steps label control) (sym is) all

  deep-none : (parts : List (List ℕ)) → length parts == 0 ≡ false → or_root parts None ≡ None
  deep-none [] deep = absurd (cc deep)
  deep-none (x ∷ xs) deep = refl

  deep-of : (path : PathValue) (g : Group) → MayRemove steps path g → length path.parts == 0 ≡ false
  deep-of path Untouched may = absurd may
  deep-of path Made may = absurd may
  deep-of path Copied may = absurd may
  deep-of path Mixed may = absurd may
  deep-of path Gone may = may
  deep-of path Labelled may = may.1
  deep-of path Controlled may = absurd may

  -- ---- calls

  abbrev group : PathValue → Group
  group = group_in steps label control

  -- of a file's bytes
  bytes-of : (o : Option Entry) (bytes : List ℕ) → o ≡ Some (FileEntry bytes) → bytes_in o ≡ bytes
  bytes-of o bytes is = ap bytes_in is

  write-kept : (path : PathValue) (at n : ℕ) (i j : Contents) → MayWrite steps control path at n (group path) → AllOnWay c steps label control i → Step (call.Write path at n) i j → AllOnWay c steps label control j
  write-kept path at n i j may all (inl same) = same-all i j same all
  write-kept path at n i j may all (inr torn) =
      let (bytes, is, le) = past-tells (entry_at i path) at torn.unrefused in
      let range : TornBytes at n bytes torn.torn = subst (λ l. TornBytes at n l torn.torn) (bytes-of (entry_at i path) bytes is) torn.range in
      put i j path (FileEntry torn.torn) torn.is (write-on path at n (entry_at c path) (entry_at i path) bytes torn.torn is le range (group path) (on-of i path (all path)) may) all

  cut-kept : (path : PathValue) (size : ℕ) (i j : Contents) → MayCut steps path size (group path) → AllOnWay c steps label control i → Step (call.Cut path size) i j → AllOnWay c steps label control j
  cut-kept path size i j may all (inl same) = same-all i j same all
  cut-kept path size i j may all (inr cut) =
      let (bytes, is, le) = past-tells (entry_at i path) size cut.unrefused in
      let range : CutBytes size bytes cut.cut = subst (λ l. CutBytes size l cut.cut) (bytes-of (entry_at i path) bytes is) cut.range in
      put i j path (FileEntry cut.cut) cut.is (cut-on path size (entry_at c path) (entry_at i path) bytes cut.cut is range (group path) (on-of i path (all path)) may) all

  file-kept : (path : PathValue) (i j : Contents) → MayMakeFile (group path) → AllOnWay c steps label control i → Step (call.MakeFile path) i j → AllOnWay c steps label control j
  file-kept path i j may all (inl same) = same-all i j same all
  file-kept path i j may all (inr made) =
      let none = make-tells (entry_at i path) (entry_at i (parent path)) made.0 in
      put i j path (FileEntry []) made.1 (make-on path (entry_at c path) (entry_at i path) (group path) none.0 (on-of i path (all path)) may) all

  folder-kept : (path : PathValue) (i j : Contents) → group path ≡ Made → AllOnWay c steps label control i → Step (call.MakeFolder path) i j → AllOnWay c steps label control j
  folder-kept path i j may all (inl same) = same-all i j same all
  folder-kept path i j may all (inr made) =
      let none = make-tells (entry_at i path) (entry_at i (parent path)) made.0 in
      let on : On path Made (entry_at c path) (entry_at i path) = subst (λ g. On path g (entry_at c path) (entry_at i path)) may (on-of i path (all path)) in
      let way : IsOnWay steps control path (group path) (entry_at c path) (Some (FolderEntry false))
      = subst (λ g. IsOnWay steps control path g (entry_at c path) (Some (FolderEntry false))) (sym may) (folder-on path (entry_at c path) (entry_at i path) none.0 on) in
      put i j path (FolderEntry false) made.1 way all

  remove-kept : (path : PathValue) (i j : Contents) → MayRemove steps path (group path) → AllOnWay c steps label control i → Step (call.Remove path) i j → AllOnWay c steps label control j
  remove-kept path i j may all (inl same) = same-all i j same all
  remove-kept path i j may all (inr gone) =
      let none : entry_at (remove i path) path ≡ None = entry-removed i path ∙ deep-none path.parts (deep-of path (group path) may) in
      subst (AllOnWay c steps label control) (sym gone.1) (one-path i (remove i path) path (λ p off. get-removed_other i path p off)
      (inr (subst (IsOnWay steps control path (group path) (entry_at c path)) (sym none) (remove-on path (entry_at c path) (group path) may))) all)

  pub may-kept : (ch : ChangeCall) → May steps label control ch → KeptBy (AllOnWay c steps label control) ch
  may-kept (call.Write path at n) may i j all step = write-kept path at n i j may all step
  may-kept (call.Cut path size) may i j all step = cut-kept path size i j may all step
  may-kept (call.MakeFile path) may i j all step = file-kept path i j may all step
  may-kept (call.MakeFolder path) may i j all step = folder-kept path i j may all step
  may-kept (call.Remove path) may i j all step = remove-kept path i j may all step
  may-kept call.Sync may i j all step = same-all i j step all
