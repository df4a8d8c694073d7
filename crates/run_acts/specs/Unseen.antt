-- A run over a tree that may not tell what it holds: it is said of whatever contents and calls the tree is taken to have. Own: "What is seen of a run".
use Rattle.std.specs.Prelude.{◌≡◌, ◌⊎◌, Bool, List}
use Rattle.cluster_tree.specs.PathValue.{PathValue}
use Rattle.cluster_tree.specs.Contents.{Contents}
use Rattle.cluster_tree.specs.declared.tree.ChangeCall.{ChangeCall}
use Rattle.acts.specs.Acts.{Act, Seen, Performs}
use Rattle.run_acts.specs.Answers.{Answer, Carries}
use Rattle.run_acts.specs.Causes.{IsFree, ending_of}
use Rattle.run_acts.specs.declared.cause.Cause.{Cause}
use Rattle.run_acts.specs.declared.cause.Cause.TheVariants as cause

-- How a run went that ended so: as it ended; but a change that the tree refuses against what it answered before is one that failed.
abbrev pub Went : (ended how : Cause) → Type 0
Went ended how = (how ≡ ended) ⊎ ((path : PathValue) × (ended ≡ cause.Changed path) × (how ≡ cause.WriteFault))

-- these contents and calls, on the same sinks
abbrev pub taken : Contents → List ChangeCall → Seen → Seen
taken contents calls s = record s { contents = contents; calls = calls }

-- they are the tree's own
abbrev pub AreOwn : Contents → List ChangeCall → Seen → Type 0
AreOwn contents calls s = (contents ≡ s.contents) × (calls ≡ s.calls)

-- what the tree is taken to have after a run, and how the run went up to there; where that is seen, it is the tree's own, and the run went as it ended
pub record Taken (Seeing : Type 0) (ended : Cause) (new : Seen) : Type 0 where
  pub contents : Contents
  pub calls : List ChangeCall
  pub how : Cause
  pub went : Went ended how
  pub own : Seeing → AreOwn contents calls new × (how ≡ ended)

-- the first of these acts were performed up to something that the tree may have after: all, or up to a fault of a device or want of memory
pub record PerformsTo (Seeing : Type 0) (out_tells err_tells : Bool) (ended : Cause) (acts : List Act) (old new : Seen) : Type 0 where
  pub after : Taken Seeing ended new
  pub exact : IsFree after.how ⊎ (after.how ≡ cause.Done)
  pub performs : Performs out_tells err_tells (ending_of after.how) acts old (taken after.contents after.calls new)

-- whatever the tree is taken to have had, its own where that is seen, the first of the acts for its contents were performed
pub record PerformsUnseen (Seeing : Type 0) (out_tells err_tells : Bool) (ended : Cause) (acts : Contents → List Act) (old new : Seen) : Type 0 where
  pub from : (contents : Contents) (calls : List ChangeCall) → (Seeing → AreOwn contents calls old) → PerformsTo Seeing out_tells err_tells ended (acts contents) (taken contents calls old) new

-- an answer was carried out up to something that the tree may have after
pub record CarriesTo (Seeing Known : Type 0) (meant : Answer) (IsForm : Answer → Type 0) (out_tells err_tells : Bool) (ended : Cause) (old new : Seen) : Type 0 where
  pub after : Taken Seeing ended new
  pub carries : Carries Known meant IsForm out_tells err_tells after.how old (taken after.contents after.calls new)

-- Whatever contents and calls the tree is taken to have had, there are some that it may have after, so that the run carried out an answer of the command's
-- form between them: its own, where they are seen, and where it is known which answer is meant, that one. Where nothing is changed, this is `Carries`.
pub record CarriesUnseen (Seeing Known : Type 0) (meant : Answer) (IsForm : Answer → Type 0) (out_tells err_tells : Bool) (ended : Cause) (old new : Seen) : Type 0 where
  pub from : (contents : Contents) (calls : List ChangeCall) → (Seeing → AreOwn contents calls old) → CarriesTo Seeing Known meant IsForm out_tells err_tells ended (taken contents calls old) new
