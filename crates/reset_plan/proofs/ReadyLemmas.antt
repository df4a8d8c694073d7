-- Why the files that go can't be removed, stage by stage; and the changes that are made ready.
use Rattle.std.proofs.Common.{◌≡◌, ◌⊎◌, inl, inr, ℕ, List, [], ◌∷◌, ◌++◌, length, map, Option, None, Some, sym, ap, ap₂, ◌∙◌, subst, codes, ◌≤◌, arith, length-append, is_some}
use Rattle.std.specs.List.{list_all}
use Rattle.cluster_tree.specs.PathValue.{PathValue}
use Rattle.cluster_tree.specs.Causes.{first_of}
use Rattle.cluster_tree.specs.Contents.{Contents, entry_at}
use Rattle.cluster_tree.specs.Change.{Change, MakesFile, Removes, Writes}
use Rattle.cluster_tree.specs.Folders.{names_in}
use Rattle.cluster_tree.specs.Marks.{marks_of}
use Rattle.clusters.specs.Roots.{path_in, wal_folder}
use Rattle.control_file.specs.Writing.{control_bytes}
use Rattle.control_file.specs.declared.control.Control.{Control}
use Rattle.marked_runs.specs.Runs.{marked}
use Rattle.wal_base.specs.Segment.{bytes_of, name_of}
use Rattle.wal_base.specs.declared.segment.Segment.{Segment}
use Rattle.wal_records.specs.Writer.{Written, in_pages, written}
use Rattle.reset_plan.specs.NewSegment.{checkpoint_record, first_page, origin_of, segment_bytes}
use Rattle.reset_plan.specs.Plan.{padded}
use Rattle.reset_plan.specs.Removals.{Stand, both_refusal, going, kinds_refusal}
use Rattle.reset_plan.specs.Reset.{changes_of, files_after, gone_in, gone_of, gone_refusal, in_folder, kind_refusal, names_at, status_fault, status_folder}
use Rattle.reset_plan.specs.ResetFaults.{IsFree}
use Rattle.reset_plan.specs.declared.fault.ResetFault.{ResetFault}
use Rattle.reset_plan.specs.declared.removals.Area.TheVariants as area
use Rattle.reset_plan.proofs.RemovalLemmas.{kinds-on, kinds-stop}
use Rattle.reset_plan.proofs.StandLemmas.{listed-stand, listed-stand_at}

abbrev status_at : Contents → PathValue → Option ResetFault
status_at c folder = status_fault folder (entry_at c folder)

stop_first : (o : Option ResetFault) (points : List (Option ResetFault)) (e : ResetFault) → o ≡ Some e → first_of (o ∷ points) ≡ Some e
unfolding first_of
stop_first o points e is = ap (λ x. first_of (x ∷ points)) is

go_on : (o : Option ResetFault) (points : List (Option ResetFault)) → o ≡ None → first_of (o ∷ points) ≡ first_of points
unfolding first_of
go_on o points is = ap (λ x. first_of (x ∷ points)) is

-- ---- the files of two folders

-- for a file in pg_wal
pub both-first : (c : Contents) (wal : PathValue) (names : List (List ℕ)) (folder : PathValue) (statuses : List (List ℕ)) (e : ResetFault) → IsFree e ⊎ (kinds_refusal c (going area.Segments wal names) ≡ Some e) → IsFree e ⊎ (both_refusal c wal names folder statuses ≡ Some e)
both-first c wal names folder statuses e (inl free) = inl free
both-first c wal names folder statuses e (inr some) = inr (kinds-stop c (going area.Segments wal names) (going area.Statuses folder statuses) e some)

-- for a file in archive_status
pub both-second : (c d : Contents) (wal : PathValue) (names : List (List ℕ)) (folder : PathValue) (statuses : List (List ℕ)) (e : ResetFault) → d ≡ c → kinds_refusal c (going area.Segments wal names) ≡ None → IsFree e ⊎ (kinds_refusal d (going area.Statuses folder statuses) ≡ Some e) → IsFree e ⊎ (both_refusal c wal names folder statuses ≡ Some e)
both-second c d wal names folder statuses e same first (inl free) = inl free
both-second c d wal names folder statuses e same first (inr some) = inr (kinds-on c (going area.Segments wal names) (going area.Statuses folder statuses) first ∙ ap (λ x. kinds_refusal x (going area.Statuses folder statuses)) (sym same) ∙ some)

-- and for none
pub both-none : (c d : Contents) (wal : PathValue) (names : List (List ℕ)) (folder : PathValue) (statuses : List (List ℕ)) → d ≡ c → kinds_refusal c (going area.Segments wal names) ≡ None → kinds_refusal d (going area.Statuses folder statuses) ≡ None → both_refusal c wal names folder statuses ≡ None
both-none c d wal names folder statuses same first second = kinds-on c (going area.Segments wal names) (going area.Statuses folder statuses) first ∙ ap (λ x. kinds_refusal x (going area.Statuses folder statuses)) (sym same) ∙ second

-- ---- and before them archive_status itself

pub at-status : (c : Contents) (wal folder : PathValue) (names : List (List ℕ)) (e : ResetFault) → folder ≡ status_folder wal → IsFree e ⊎ (status_at c folder ≡ Some e) → IsFree e ⊎ (gone_refusal c wal names ≡ Some e)
unfolding gone_refusal
at-status c wal folder names e is (inl free) = inl free
at-status c wal folder names e is (inr some) = inr (stop_first (status_at c (status_folder wal)) (map (kind_refusal c) (gone_in c wal names)) e (ap (status_at c) (sym is) ∙ some))

-- what it comes to where its names are known
pub both-is : (c d : Contents) (wal folder : PathValue) (names statuses : List (List ℕ)) → d ≡ c → folder ≡ status_folder wal → statuses ≡ names_at c folder → status_at c folder ≡ None → gone_refusal c wal names ≡ both_refusal d wal names folder statuses
unfolding gone_refusal gone_in
both-is c d wal folder names statuses same is listed none =
    go_on (status_at c (status_folder wal)) (map (kind_refusal c) (gone_in c wal names)) (ap (status_at c) (sym is) ∙ none)
    ∙ ap (λ f. kinds_refusal c (going area.Segments wal names ++ going area.Statuses f (names_at c f))) (sym is)
    ∙ ap (λ l. kinds_refusal c (going area.Segments wal names ++ going area.Statuses folder l)) (sym listed)
    ∙ ap (λ x. both_refusal x wal names folder statuses) (sym same)

pub both-refused : (c d : Contents) (wal folder : PathValue) (names statuses : List (List ℕ)) (e : ResetFault) → d ≡ c → folder ≡ status_folder wal → statuses ≡ names_at c folder → status_at c folder ≡ None
    → IsFree e ⊎ (both_refusal d wal names folder statuses ≡ Some e) → IsFree e ⊎ (gone_refusal c wal names ≡ Some e)
both-refused c d wal folder names statuses e same is listed none (inl free) = inl free
both-refused c d wal folder names statuses e same is listed none (inr some) = inr (both-is c d wal folder names statuses same is listed none ∙ some)

pub gathered : (c : Contents) (wal folder : PathValue) (names statuses : List (List ℕ)) (all : List PathValue) → folder ≡ status_folder wal → statuses ≡ names_at c folder → all ≡ going area.Segments wal names ++ going area.Statuses folder statuses → all ≡ gone_in c wal names
unfolding gone_in
gathered c wal folder names statuses all is listed made =
    made ∙ ap (λ l. going area.Segments wal names ++ going area.Statuses folder l) listed
    ∙ ap (λ f. going area.Segments wal names ++ going area.Statuses f (names_at c f)) is

-- over every tree
pub gathered-of : (wal folder : PathValue) (names statuses : List (List ℕ)) (all : List PathValue) → folder ≡ status_folder wal → all ≡ going area.Segments wal names ++ going area.Statuses folder statuses → all ≡ gone_of wal names statuses
gathered-of wal folder names statuses all is made = made ∙ ap (λ f. going area.Segments wal names ++ going area.Statuses f statuses) is

-- names that are there
pub names-stand : (c d : Contents) (folder : PathValue) (statuses : List (List ℕ)) → d ≡ c → statuses ≡ names_at c folder → Stand d folder statuses
names-stand c d folder statuses same is =
    ap (λ x. list_all (λ name. is_some (entry_at x (in_folder folder name))) statuses) same
    ∙ ap (list_all (λ name. is_some (entry_at c (in_folder folder name)))) is
    ∙ listed-stand_at c folder

pub listed-there : (c : Contents) (folder : PathValue) (names : List (List ℕ)) → names ≡ names_in c folder → Stand c folder names
listed-there c folder names is = ap (list_all (λ name. is_some (entry_at c (in_folder folder name)))) is ∙ listed-stand c folder

pub still-there : (c d : Contents) (folder : PathValue) (names : List (List ℕ)) → d ≡ c → Stand c folder names → Stand d folder names
still-there c d folder names same there = subst (λ x. Stand x folder names) (sym same) there

pub deep-status : (wal folder : PathValue) → length wal.parts ≤ 62 → folder ≡ in_folder wal (codes "archive_status") → length folder.parts ≤ 63
deep-status wal folder room is = omega (arith, room, length-append wal.parts (codes "archive_status" ∷ []), ap (λ (p : PathValue). length p.parts) is)

-- ---- the changes

-- the bytes of the new segment
pub segment-padded : (control : Control) (segment : Segment) (page : Written) (size : ℕ) → page ≡ written (origin_of control.sysid segment) (checkpoint_record control.cp ∷ []) → size ≡ bytes_of segment.size → padded (in_pages page.bytes) size ≡ segment_bytes control segment
unfolding segment_bytes first_page
segment-padded control segment page size is at = ap₂ (λ (w : Written) n. padded (in_pages w.bytes) n) is at

pub files-made : (wal path : PathValue) (gone : List PathValue) (control : Control) (segment : Segment) (bytes : List ℕ) → path ≡ in_folder wal (name_of segment) → bytes ≡ segment_bytes control segment → map Removes gone ++ MakesFile path ∷ Writes path 0 bytes ∷ [] ≡ files_after wal gone control segment
files-made wal path gone control segment bytes is at = ap₂ (λ p b. map Removes gone ++ MakesFile p ∷ Writes p 0 b ∷ []) is at

pub all-made : (root wal mark : PathValue) (gone found : List PathValue) (control : Control) (segment : Segment) (files body : List Change) → wal ≡ wal_folder root → mark ≡ (marks_of root).reset → gone ≡ found → files ≡ files_after wal gone control segment
    → body ≡ Writes (path_in root (codes "global/pg_control")) 0 (control_bytes control) ∷ files → marked mark (codes "pg_resetwal 1\n") body ≡ changes_of root found control segment
unfolding changes_of
all-made root wal mark gone found control segment files body at is same made whole =
    ap₂ (λ m b. marked m (codes "pg_resetwal 1\n") b) is (
    whole ∙ ap (λ l. Writes (path_in root (codes "global/pg_control")) 0 (control_bytes control) ∷ l) (made ∙ ap₂ (λ w g. files_after w g control segment) at same))
