-- What a stop at any moment of pair may leave.
use Rattle.std.proofs.Common.{◌≡◌, ◌∙◌, List, [], ◌∷◌, Some, refl, sym, ap, subst, inl, inr, append-nil}
use Rattle.acts.specs.Acts.{AreBelow, IsBelow}
use Rattle.cluster_tree.specs.Contents.{Contents, entry_at}
use Rattle.cluster_tree.specs.Frame.{Came, Reads, moment_of, state_of}
use Rattle.cluster_tree.specs.Laws.{changed_path}
use Rattle.cluster_tree.specs.PathValue.{PathValue}
use Rattle.cluster_tree.specs.Run.{Course, Moment}
use Rattle.cluster_tree.specs.Stops.{LeavesOnly}
use Rattle.cluster_tree.specs.declared.tree.ChangeCall.{ChangeCall}
use Rattle.cluster_tree.specs.declared.tree.Tree.{Ghosts}
use Rattle.cluster_tree.proofs.Images.{Each, KeptBy, holds_first, holds_run, leaves_only}
use Rattle.cluster_tree.proofs.RunLemmas.{came_read, course_of}
use Rattle.cluster_tree.proofs.StepLemmas.{step-elsewhere}
use Rattle.commands.specs.declared.pair.PairWords.{PairWords}
use Rattle.marked_runs.specs.Moments.{IsUntouched}
use Rattle.cmd_pair.specs.Left.{IsLeftByPair}
use Rattle.cmd_pair.specs.Pair.{places}
use Rattle.cmd_pair.specs.Stays.{StaysInPair}
use Rattle.cmd_pair.proofs.StayLemmas.{not-beside}

module _ (words : PairWords) (first : Moment) where
  untouched_left : (c : Contents) → IsUntouched first c → IsLeftByPair words first c
  untouched_left c untouched = (c, untouched, λ path beside. refl)

  -- a call at one of the places leaves all beside the clusters
  call_keeps : (call : ChangeCall) → ((path : PathValue) → changed_path call ≡ Some path → IsBelow (places words.root) path) → KeptBy (IsLeftByPair words first) call
  call_keeps call at c d (before, was, stays) step =
      (before, was, λ path beside. step-elsewhere call c d path step (λ is. not-beside words.root path beside (at path is)) ∙ stays path beside)

  all_keep : (calls : List ChangeCall) → AreBelow (places words.root) calls → Each (KeptBy (IsLeftByPair words first)) calls
  all_keep [] all = tt
  all_keep (call ∷ calls) all = (call_keeps call all.0, all_keep calls all.1)

  left_on : (last : Moment) → Course first last → StaysInPair words.root first.state last.state → LeavesOnly (IsLeftByPair words first) first.stops last.stops
  left_on last course stays =
      let P : Contents → Type 0 = IsLeftByPair words first in
      leaves_only P P first last
      (holds_run P P first first last stays.made (holds_first P P first (untouched_left first.state.contents (inl refl)) (λ c left. untouched_left c (inr left))) (λ c left. left) course
      stays.grew (all_keep stays.made stays.within))
      (λ c left. left)

module _ {F : Type 0} (tree : Ghosts F) (words : PairWords) (a b : F) where
  pub pair-left : Came tree a b → StaysInPair words.root (state_of tree a) (state_of tree b) → LeavesOnly (IsLeftByPair words (moment_of tree a)) (tree.stops a) (tree.stops b)
  pair-left came stays = left_on words (moment_of tree a) (moment_of tree b) (course_of tree a b came) stays

  -- reads leave all as it was
  pub reads-left : Reads tree a b → LeavesOnly (IsLeftByPair words (moment_of tree a)) (tree.stops a) (tree.stops b)
  reads-left reads = pair-left (came_read tree a b reads) (record {
    made = [];
    grew = reads.uncalled ∙ sym (append-nil (tree.calls a));
    within = tt;
    elsewhere = λ path apart. ap (λ c. entry_at c path) reads.same;
  })

  -- and so what is left from behind them on
  pub read-on-left : (d : F) → Reads tree a b → LeavesOnly (IsLeftByPair words (moment_of tree b)) (tree.stops b) (tree.stops d) → LeavesOnly (IsLeftByPair words (moment_of tree a)) (tree.stops a) (tree.stops d)
  read-on-left d reads left =
      let same : moment_of tree b ≡ moment_of tree a = λ i. record { state = record { contents = reads.same i; calls = reads.uncalled i }; stops = reads.unstopped i } in
      subst (λ (m : Moment). LeavesOnly (IsLeftByPair words m) m.stops (tree.stops d)) same left
