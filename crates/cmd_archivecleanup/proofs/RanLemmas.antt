-- The calls of removals, one after another.
use Rattle.std.proofs.Common.{◌≡◌, Bool, true, false, List, [], ◌∷◌, map, refl, sym, subst, true≢false, append-nil}
use Rattle.cluster_tree.specs.Change.{Removes, call_of}
use Rattle.cluster_tree.specs.Contents.{Contents}
use Rattle.cluster_tree.specs.declared.tree.ChangeCall.{ChangeCall}
use Rattle.marked_runs.specs.Runs.{Runs}
use Rattle.marked_runs.proofs.RunLemmas.{runs-front, runs-then}
use Rattle.cmd_archivecleanup.specs.Steps.{paths_of}
use Rattle.cmd_archivecleanup.specs.declared.plan.Removal.{Removal}

-- the removals of these files, as far as they ran
abbrev Ran : List Removal → List ChangeCall → List ChangeCall → Contents → Contents → Bool → Type 0
Ran items k l c d done = Runs (map Removes (paths_of items)) k l c d done

-- none of them did
none-ran : (items : List Removal) (k : List ChangeCall) (c : Contents) → Ran items k k c c false
none-ran items k c = record {
  made = [];
  grew = sym (append-nil k);
  rest = map call_of (map Removes (paths_of items));
  joins = refl;
  all = λ done. absurd (true≢false (sym done));
  after = λ done. absurd (true≢false (sym done));
  elsewhere = λ p off. refl;
}

-- of no files all did
ran-none : (k : List ChangeCall) (c : Contents) → Ran [] k k c c true
ran-none k c = record {
  made = [];
  grew = sym (append-nil k);
  rest = [];
  joins = refl;
  all = λ done. refl;
  after = λ done. refl;
  elsewhere = λ p off. refl;
}

-- whatever the rest comes to, all come to
abbrev pub RanTo : List Removal → List ChangeCall → Contents → List Removal → List ChangeCall → Contents → Type 0
RanTo all k c items l d = (m : List ChangeCall) (e : Contents) (done : Bool) → Ran items l m d e done → Ran all k m c e done

module _ (all : List Removal) (k : List ChangeCall) (c : Contents) (items : List Removal) (l : List ChangeCall) (d : Contents) where
  pub ran-on : (r : Removal) (rs : List Removal) (m : List ChangeCall) (e : Contents) → items ≡ r ∷ rs → RanTo all k c items l d → Runs (Removes r.path ∷ []) l m d e true → RanTo all k c rs m e
  ran-on r rs m e is ran one n f done more = ran n f done (subst (λ x. Ran x l n d f done) (sym is) (runs-then (Removes r.path ∷ []) (map Removes (paths_of rs)) l m n d e f done one more))

  pub ran-broken : (r : Removal) (rs : List Removal) (m : List ChangeCall) (e : Contents) → items ≡ r ∷ rs → RanTo all k c items l d → Runs (Removes r.path ∷ []) l m d e false → Ran all k m c e false
  ran-broken r rs m e is ran one = ran m e false (subst (λ x. Ran x l m d e false) (sym is) (runs-front (Removes r.path ∷ []) (map Removes (paths_of rs)) l m d e one))

  pub ran-untold : RanTo all k c items l d → Ran all k l c d false
  ran-untold ran = ran l d false (none-ran items l d)

  pub ran-all : items ≡ [] → RanTo all k c items l d → Ran all k l c d true
  ran-all none ran = ran l d true (subst (λ x. Ran x l l d d true) (sym none) (ran-none l d))
