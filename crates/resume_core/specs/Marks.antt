-- What the marks at a target's root say of a resume. Own: "A rewind that is resumed", "Mark files".
use Rattle.std.specs.Prelude.{◌≡◌, ◌⊎◌, ℕ, if◌then◌else◌, List, [], ◌∷◌, Option, None, Some, Result, Ok, Err, MatchResult, Vec, option_map}
use Rattle.cluster_tree.specs.Causes.{first_of, given, unless}
use Rattle.cluster_tree.specs.Contents.{Contents, Entry, FileEntry, FolderEntry, LinkEntry, entry_at}
use Rattle.cluster_tree.specs.Marks.{MarkPaths, is_there, marks_of}
use Rattle.cluster_tree.specs.PathValue.{PathValue}
use Rattle.clusters.specs.Faults.{IsFree}
use Rattle.clusters.specs.declared.fault.ClusterFault.{ClusterFault}
use Rattle.clusters.specs.declared.fault.ClusterFault.TheVariants as cluster
use Rattle.plan_text.specs.Mark.{mark_told}
use Rattle.plan_text.specs.declared.mark.MarkText.{MarkText}
use Rattle.plan_text.specs.declared.mark.MarkText.TheVariants.{Version1, NotComplete, Complete}

-- a mark's bytes where it is complete, by what they tell; one of version 1 is not taken up
abbrev pub told_bytes : PathValue → List ℕ → MarkText → Result (Option (List ℕ)) ClusterFault
told_bytes mark bytes Version1 = Err (cluster.Unfinished mark)
told_bytes mark bytes NotComplete = Ok None
told_bytes mark bytes Complete = Ok (Some bytes)

-- .. by what stands at a rewind's mark: nothing, or a file that isn't complete, is no mark to take up; a folder or a link isn't a rewind's
abbrev pub own_mark : PathValue → Option Entry → Result (Option (List ℕ)) ClusterFault
own_mark mark None = Ok None
own_mark mark (Some (FileEntry bytes)) = told_bytes mark bytes (mark_told bytes)
own_mark mark (Some (FolderEntry bad)) = Err (cluster.Unfinished mark)
own_mark mark (Some LinkEntry) = Err (cluster.Unfinished mark)

-- the mark of another command refuses, whatever stands there
abbrev pub other_mark : Contents → PathValue → Option ClusterFault
other_mark c mark = if is_there c mark then Some (cluster.Unfinished mark) else None

abbrev pub other_marks : Contents → MarkPaths → Option ClusterFault
other_marks c marks = first_of (other_mark c marks.replay ∷ other_mark c marks.reset ∷ [])

-- The bytes of the complete mark at a target's root, if there is one, or the first mark that refuses.
abbrev pub mark_at : Contents → PathValue → Result (Option (List ℕ)) ClusterFault
mark_at c root =
    given (own_mark (marks_of root).rewind (entry_at c (marks_of root).rewind)) (λ bytes. unless (other_marks c (marks_of root)) (Ok bytes))

-- the answer is the one that is meant, or a fault of the device, or want of memory
abbrev pub Finds : {A : Type 0} → Result (Option (List ℕ)) ClusterFault → Result (Option (Vec ℕ A)) ClusterFault → Type 0
Finds meant result = MatchResult result (λ found. meant ≡ Ok (option_map (λ bytes. bytes.items) found)) (λ e. IsFree e ⊎ (meant ≡ Err e))
