-- How a tree goes on by any calls: each change is listed, is what its call may make, and is pending up to the next sync. Own: "The tree of files", "What a stop may leave".
use Rattle.std.specs.Prelude.{◌≡◌, ℕ, ◌≤◌, ◌⊎◌, List, [], ◌∷◌, ◌++◌, Result, MatchResult}
use Rattle.cluster_tree.specs.Contents.{Contents}
use Rattle.cluster_tree.specs.Step.{Step}
use Rattle.cluster_tree.specs.Stops.{Stops, stops_after}
use Rattle.cluster_tree.specs.declared.tree.ChangeCall.{ChangeCall}
use Rattle.cluster_tree.specs.declared.tree.TreeFault.{TreeFault}
use Rattle.cluster_tree.specs.declared.tree.TreeFault.TheVariants as fault

-- all that a tree tells of its files
pub record State : Type 0 where
  pub contents : Contents
  pub calls : List ChangeCall

abbrev pub state_by : {F : Type 0} → (F → Contents) → (F → List ChangeCall) → F → State
state_by contents calls tree = record { contents = contents tree; calls = calls tree }

-- that at one moment, and what a stop may leave then or might have left before
pub record Moment : Type 0 where
  pub state : State
  pub stops : Stops

abbrev pub moment_by : {F : Type 0} → (F → Contents) → (F → List ChangeCall) → (F → Stops) → F → Moment
moment_by contents calls stops tree = record { state = state_by contents calls tree; stops = stops tree }

-- one changing call, carried out at least in part, and listed
pub record Happens (call : ChangeCall) (old new : State) : Type 0 where
  pub step : Step call old.contents new.contents
  pub listed : new.calls ≡ old.calls ++ call ∷ []

-- the same, and it is pending up to the next sync
pub record Occurs (call : ChangeCall) (old new : Moment) : Type 0 where
  pub happens : Happens call old.state new.state
  pub stops : new.stops ≡ stops_after call old.state.contents old.stops

-- changing calls, one after another
pub data Calls {S : Type 0} (By : ChangeCall → S → S → Type 0) (old : S) : S → Type 0 where
  Still : Calls By old old
  Call : {mid new : S} (call : ChangeCall) → Calls By old mid → By call mid new → Calls By old new

-- from state to state
abbrev pub Run : State → State → Type 0
Run = Calls Happens

-- and from moment to moment
abbrev pub Course : Moment → Moment → Type 0
Course = Calls Occurs

-- what changes nothing: all that the tree tells and the count of changing calls that failed stay, and that of failed reads doesn't fall
pub record OnlyReads {F : Type 0} (contents : F → Contents) (calls : F → List ChangeCall) (stops : F → Stops) (failed_reads failed_changes : F → ℕ) (old new : F) : Type 0 where
  pub same : contents new ≡ contents old
  pub uncalled : calls new ≡ calls old
  pub unstopped : stops new ≡ stops old
  pub reads : failed_reads old ≤ failed_reads new
  pub changes : failed_changes new ≡ failed_changes old

-- what any calls leave: a run up to the first goes on to the second, and no count falls
pub record Goes {F : Type 0} (contents : F → Contents) (calls : F → List ChangeCall) (stops : F → Stops) (failed_reads failed_changes : F → ℕ) (old new : F) : Type 0 where
  pub run : (first : State) → Run first (state_by contents calls old) → Run first (state_by contents calls new)
  pub course : (first : Moment) → Course first (moment_by contents calls stops old) → Course first (moment_by contents calls stops new)
  pub reads : failed_reads old ≤ failed_reads new
  pub changes : failed_changes old ≤ failed_changes new

-- what a changing call leaves: it happened, or was refused and left all; one that failed may have happened in part
abbrev pub MakesBy : {S A : Type 0} → (ChangeCall → S → S → Type 0) → ChangeCall → S → S → Result A TreeFault → Type 0
MakesBy By call old new result = MatchResult result (λ _. By call old new) (λ e. (new ≡ old) ⊎ ((e ≡ fault.Failed) × By call old new))

-- of its files
abbrev pub Makes : {A : Type 0} → ChangeCall → State → State → Result A TreeFault → Type 0
Makes call old new result = MakesBy Happens call old new result

-- and of what a stop may leave
abbrev pub Pends : {A : Type 0} → ChangeCall → Moment → Moment → Result A TreeFault → Type 0
Pends call old new result = MakesBy Occurs call old new result
