-- What the marks at a cluster's root say of a replay. Own: "A replay that can be started again", "Mark files".
use Rattle.std.specs.Prelude.{◌≡◌, ◌⊎◌, ℕ, cond, Bool, true, false, List, Option, None, Some, Result, Ok, Err, MatchResult, Vec, option_map}
use Rattle.cluster_tree.specs.Causes.{unless}
use Rattle.cluster_tree.specs.Contents.{Contents, entry_at}
use Rattle.cluster_tree.specs.Marks.{marks_of}
use Rattle.cluster_tree.specs.PathValue.{PathValue}
use Rattle.cluster_tree.specs.Tree.{file_of}
use Rattle.clusters.specs.Faults.{IsFree}
use Rattle.clusters.specs.Marks.{unfinished}
use Rattle.clusters.specs.WholeFile.{all_of}
use Rattle.clusters.specs.declared.fault.ClusterFault.{ClusterFault}
use Rattle.replay_list.specs.Mark.{mark_told}
use Rattle.replay_list.specs.declared.mark.ReplayMark.{ReplayMark}
use Rattle.replay_list.specs.declared.mark.ReplayMark.TheVariants.{Version1, NotComplete, Complete, Ended}
use Rattle.without_file.specs.Without.{without_file}

-- a mark that can't be taken up
abbrev pub is_old : ReplayMark → Bool
is_old Version1 = true
is_old NotComplete = false
is_old Complete = false
is_old Ended = false

-- .. in a file of these bytes, if there is one
abbrev pub is_old_file : Option (List ℕ) → Bool
is_old_file None = false
is_old_file (Some bytes) = is_old (mark_told bytes)

-- the bytes of the file at a replay's mark, if there is one
abbrev pub own_bytes : Contents → PathValue → Option (List ℕ)
own_bytes c root = all_of (file_of (entry_at c (marks_of root).replay))

-- what is seen where marks are looked for: all but a file at the replay's own mark, which is seen where it is of version 1
abbrev pub marks_seen : Contents → PathValue → Contents
marks_seen c root = cond (is_old_file (own_bytes c root)) c (without_file c (marks_of root).replay)

-- those bytes, or the first mark that refuses
abbrev pub mark_at : Contents → PathValue → Result (Option (List ℕ)) ClusterFault
mark_at c root = unless (unfinished (marks_seen c root) root) (Ok (own_bytes c root))

-- the answer is the one that is meant, or a fault of the device, or want of memory
abbrev pub Finds : {A : Type 0} → Result (Option (List ℕ)) ClusterFault → Result (Option (Vec ℕ A)) ClusterFault → Type 0
Finds meant result = MatchResult result (λ found. meant ≡ Ok (option_map (λ bytes. bytes.items) found)) (λ e. IsFree e ⊎ (meant ≡ Err e))
