-- What the steps of the walk back give.
use Rattle.std.proofs.Common.{◌≡◌, ℕ, ◌⊎◌, Option, Some, IsSomeAnd, max, Result, Ok, Err, refl, sym, ap, subst, ◌∙◌, inl, inr}
use Rattle.cluster_tree.specs.Causes.{Meets, given}
use Rattle.cluster_tree.specs.Contents.{Contents}
use Rattle.control_file.specs.declared.control.Control.{Control}
use Rattle.wal_base.specs.Segment.{bytes_of}
use Rattle.wal_base.specs.declared.lsn.Lsn.{Lsn}
use Rattle.wal_base.specs.declared.seg_size.SegSize.{SegSize}
use Rattle.wal_pages.specs.declared.log_path.LogPath.{LogPath}
use Rattle.wal_pages.specs.Folder.{folder_of}
use Rattle.wal_records.specs.declared.why.Why.{Why}
use Rattle.wal_records.specs.declared.why.Stop.TheVariants.{Ends}
use Rattle.wal_records.specs.Log.{Log, ended, log_of, with_first}
use Rattle.wal_records.specs.Further.{Pages, pages_of}
use Rattle.wal_records.specs.Place.{place_at}
use Rattle.wal_records.specs.Reading.{LogRecord, Reading, Spelled, Stopped, lone}
use Rattle.log_walk.specs.declared.back.Back.{Back}
use Rattle.log_walk.specs.declared.back.Back.TheVariants.{Found, Goes}
use Rattle.log_walk.specs.declared.checkpoint.CommonCheckpoint.{CommonCheckpoint}
use Rattle.log_walk.specs.declared.fault.LogWalkFault.{LogWalkFault}
use Rattle.log_walk.specs.declared.fault.LogWalkFault.TheVariants as fault
use Rattle.log_walk.specs.Back.{Answer, back_from, common_checkpoint, walk_from, walk_step}
use Rattle.log_walk.specs.Faults.{IsFree}
use Rattle.log_walk.specs.First.{at_lsn, end_of_target, first_record}
use Rattle.log_walk.specs.Steps.{StepsBack, behind}
use Rattle.log_walk.proofs.BackLemmas.{walk_next}

-- of a log that goes on with a record, or has none
pub first_there : (log rest : Log) (r : LogRecord) → log ≡ with_first r rest → first_record log ≡ Ok r
first_there log rest r is = ap first_record is

pub first_none : (log : Log) (place : ℕ) (why : Why) → log ≡ ended place why → first_record log ≡ Err (fault.LogEnds (at_lsn place) why)
first_none log place why is = ap first_record is

-- a value that is there under two names
pub current_is : (o : Option LogRecord) (P : LogRecord → Type 0) (r : LogRecord) → o ≡ Some r → IsSomeAnd o P → P r
current_is o P r is h = let Q : Option LogRecord → Type 0 = λ k. IsSomeAnd k P in subst Q is h

-- a step from a record that was read is a step from what was read
pub steps_from : (meant : (ℕ → Answer) → Answer) (below : ℕ) (r : LogRecord) (result : Result Back LogWalkFault)
    → ((go : ℕ → Answer) → meant go ≡ back_from go below r) → ((go : ℕ → Answer) → back_from go below r ≡ given result (behind go)) → StepsBack meant result
steps_from meant below r (Ok back) is step = λ go. is go ∙ step go
steps_from meant below r (Err e) is step = inr (λ go. is go ∙ step go)

pub walk_spelled : (below place : ℕ) (found : Reading) (r : LogRecord) → found ≡ Spelled r → (go : ℕ → Answer) → walk_step go below place found ≡ back_from go below r
walk_spelled below place found r is go = ap (walk_step go below place) is

pub walk_stopped : (below place : ℕ) (found : Reading) (why : Why) → found ≡ Stopped (Ends why) → (go : ℕ → Answer) → walk_step go below place found ≡ Err (fault.LogEnds (at_lsn place) why)
walk_stopped below place found why is go = ap (walk_step go below place) is

pub first_read : (below : ℕ) (first : Result LogRecord LogWalkFault) (r : LogRecord) → first ≡ Ok r → (go : ℕ → Answer) → given first (back_from go below) ≡ back_from go below r
first_read below first r is go = ap (λ (k : Result LogRecord LogWalkFault). given k (back_from go below)) is

pub first_unread : (below : ℕ) (first : Result LogRecord LogWalkFault) (e : LogWalkFault) → IsFree e ⊎ (first ≡ Err e) → IsFree e ⊎ ((go : ℕ → Answer) → given first (back_from go below) ≡ Err e)
first_unread below first e (inl free) = inl free
first_unread below first e (inr is) = inr (λ go. ap (λ (k : Result LogRecord LogWalkFault). given k (back_from go below)) is)

-- what a step gives of the walk back from a place, where the log and its files stayed
abbrev StepAt : LogPath → Contents → ℕ → ℕ → Result Back LogWalkFault → Type 0
StepAt log contents below place result =
    StepsBack (λ go. walk_step go below place (lone (pages_of log contents) (bytes_of log.size) place)) result

abbrev walk_of : LogPath → Contents → ℕ → ℕ → Answer
walk_of log contents below place = walk_from (pages_of log contents) (bytes_of log.size) below place

step_on : (log held : LogPath) (contents later : Contents) (below place : ℕ) (result : Result Back LogWalkFault)
    → held ≡ log → later ≡ contents → StepAt held later below place result → StepAt log contents below place result
step_on log held contents later below place result log_is same step =
    subst (λ (k : LogPath). StepAt k contents below place result) log_is
    (subst (λ (k : Contents). StepAt held k below place result) same step)

found_at : (log : LogPath) (contents : Contents) (below place : ℕ) (back : Back) (found : CommonCheckpoint) → back ≡ Found found
    → StepAt log contents below place (Ok back) → walk_of log contents below place ≡ Ok found
found_at log contents below place back found is step =
    walk_next log (folder_of contents log.folder) below place
    ∙ step (walk_from (pages_of log contents) (bytes_of log.size) below)
    ∙ ap (behind (walk_from (pages_of log contents) (bytes_of log.size) below)) is

goes_at : (log : LogPath) (contents : Contents) (below place : ℕ) (back : Back) (link : Lsn) → back ≡ Goes link
    → StepAt log contents below place (Ok back) → walk_of log contents below place ≡ walk_of log contents below link.0
goes_at log contents below place back link is step =
    walk_next log (folder_of contents log.folder) below place
    ∙ step (walk_from (pages_of log contents) (bytes_of log.size) below)
    ∙ ap (behind (walk_from (pages_of log contents) (bytes_of log.size) below)) is

refused_at : (log : LogPath) (contents : Contents) (below place : ℕ) (e : LogWalkFault)
    → StepAt log contents below place (Err e) → IsFree e ⊎ (walk_of log contents below place ≡ Err e)
refused_at log contents below place e (inl free) = inl free
refused_at log contents below place e (inr is) =
    inr (walk_next log (folder_of contents log.folder) below place ∙ is (walk_from (pages_of log contents) (bytes_of log.size) below))

-- the walk found the checkpoint, goes on at a link, or is refused
pub walk_found : (log held : LogPath) (contents later : Contents) (below place : ℕ) (found : CommonCheckpoint) (back : Back)
    → held ≡ log → later ≡ contents → back ≡ Found found → StepAt held later below place (Ok back) → walk_of log contents below place ≡ Ok found
walk_found log held contents later below place found back log_is same is step =
    found_at log contents below place back found is (step_on log held contents later below place (Ok back) log_is same step)

pub walk_goes : (log held : LogPath) (contents later : Contents) (below place : ℕ) (link : Lsn) (back : Back)
    → held ≡ log → later ≡ contents → back ≡ Goes link → StepAt held later below place (Ok back) → walk_of log contents below place ≡ walk_of log contents below link.0
walk_goes log held contents later below place link back log_is same is step =
    goes_at log contents below place back link is (step_on log held contents later below place (Ok back) log_is same step)

from_place : (a b : Answer) (e : LogWalkFault) → a ≡ b → IsFree e ⊎ (b ≡ Err e) → IsFree e ⊎ (a ≡ Err e)
from_place a b e is (inl free) = inl free
from_place a b e is (inr refused) = inr (is ∙ refused)

pub walk_refused : (log held : LogPath) (contents later : Contents) (below from place : ℕ) (e : LogWalkFault)
    → held ≡ log → later ≡ contents → walk_of log contents below from ≡ walk_of log contents below place → StepAt held later below place (Err e)
    → IsFree e ⊎ (walk_of log contents below from ≡ Err e)
walk_refused log held contents later below from place e log_is same is step =
    from_place (walk_of log contents below from) (walk_of log contents below place) e is
    (refused_at log contents below place e (step_on log held contents later below place (Err e) log_is same step))

-- what the first step gives of the whole walk
abbrev FirstAt : LogPath → Contents → ℕ → ℕ → Result Back LogWalkFault → Type 0
FirstAt log contents below fork result =
    StepsBack (λ go. given (first_record (log_of (pages_of log contents) (bytes_of log.size) fork)) (back_from go below)) result

abbrev common_of : LogPath → Contents → SegSize → ℕ → Answer
common_of log contents size fork = common_checkpoint (pages_of log contents) (bytes_of size) fork

-- the same where the size is the log's, and the place the fork's
first_on : (log : LogPath) (contents : Contents) (size : SegSize) (below fork : ℕ) (result : Result Back LogWalkFault) → size ≡ log.size → below ≡ place_at (bytes_of size) fork
    → FirstAt log contents below fork result
    → StepsBack (λ go. given (first_record (log_of (pages_of log contents) (bytes_of size) fork)) (back_from go (place_at (bytes_of size) fork))) result
first_on log contents size below fork result is below_is step =
    subst (λ (n : ℕ). StepsBack (λ go. given (first_record (log_of (pages_of log contents) (bytes_of size) fork)) (back_from go n)) result) below_is
    (subst (λ (k : SegSize). StepsBack (λ go. given (first_record (log_of (pages_of log contents) (bytes_of k) fork)) (back_from go below)) result) (sym is) step)

pub common_found : (log : LogPath) (contents : Contents) (size : SegSize) (below fork : ℕ) (found : CommonCheckpoint) (back : Back) → size ≡ log.size → below ≡ place_at (bytes_of size) fork
    → back ≡ Found found → FirstAt log contents below fork (Ok back) → common_of log contents size fork ≡ Ok found
unfolding common_checkpoint
common_found log contents size below fork found back size_is below_is is step =
    let go : ℕ → Answer = walk_from (pages_of log contents) (bytes_of size) (place_at (bytes_of size) fork) in
    (first_on log contents size below fork (Ok back) size_is below_is step) go ∙ ap (behind go) is

pub common_goes : (log held : LogPath) (contents later : Contents) (size : SegSize) (below fork : ℕ) (link : Lsn) (back : Back) (result : Answer) → size ≡ log.size → below ≡ place_at (bytes_of size) fork
    → held ≡ log → later ≡ contents → back ≡ Goes link
    → FirstAt log contents below fork (Ok back) → Meets IsFree (walk_of held later below link.0) result → Meets IsFree (common_of log contents size fork) result
unfolding common_checkpoint
common_goes log held contents later size below fork link back result size_is below_is log_is same is step walked =
    let from : ℕ = place_at (bytes_of size) fork in
    let go : ℕ → Answer = walk_from (pages_of log contents) (bytes_of size) from in
    let whole = (first_on log contents size below fork (Ok back) size_is below_is step) go ∙ ap (behind go) is in
    let here : Meets IsFree (walk_of log contents below link.0) result = subst (λ (k : LogPath). Meets IsFree (walk_of k contents below link.0) result) log_is
    (subst (λ (k : Contents). Meets IsFree (walk_of held k below link.0) result) same walked) in
    let there : Meets IsFree (walk_of log contents from link.0) result = subst (λ (n : ℕ). Meets IsFree (walk_of log contents n link.0) result) below_is here in
    subst (λ (a : Answer). Meets IsFree a result) (sym whole)
    (subst (λ (k : SegSize). Meets IsFree (walk_from (pages_of log contents) (bytes_of k) from link.0) result) (sym size_is) there)

pub common_refused : (log : LogPath) (contents : Contents) (size : SegSize) (below fork : ℕ) (e : LogWalkFault) → size ≡ log.size → below ≡ place_at (bytes_of size) fork
    → FirstAt log contents below fork (Err e) → IsFree e ⊎ (common_of log contents size fork ≡ Err e)
unfolding common_checkpoint
common_refused log contents size below fork e size_is below_is step =
    elim (first_on log contents size below fork (Err e) size_is below_is step) [
      | inl free ↦ inl free
      | inr refused ↦ inr (refused (walk_from (pages_of log contents) (bytes_of size) (place_at (bytes_of size) fork)))
    ]

-- the target's end, behind the record that was read
pub end_told : (pages : Pages) (size : ℕ) (target : Control) (r : LogRecord) (end : ℕ) → first_record (log_of pages size target.checkPoint) ≡ Ok r → end ≡ max r.end target.minRecoveryPoint
    → end_of_target pages size target ≡ Ok (at_lsn end)
unfolding end_of_target
end_told pages size target r end is greater = rw (is, greater) refl

pub end_refused : (pages : Pages) (size : ℕ) (target : Control) (e : LogWalkFault) → IsFree e ⊎ (first_record (log_of pages size target.checkPoint) ≡ Err e)
    → IsFree e ⊎ (end_of_target pages size target ≡ Err e)
unfolding end_of_target
end_refused pages size target e (inl free) = inl free
end_refused pages size target e (inr is) = inr (rw is refl)
