-- What a command does, as a list of acts, and which first ones of them a run performs. Own: "A command is a script of acts".
use Rattle.std.specs.Prelude.{◌≡◌, ℕ, ◌≤◌, ◌++◌, ◌⊎◌, Bool, IsTrue, List, [], ◌∷◌, Option, None, Some}
use Rattle.cluster_tree.specs.PathValue.{PathValue, Holds}
use Rattle.cluster_tree.specs.Contents.{Contents, entry_at}
use Rattle.cluster_tree.specs.Causes.{Rose}
use Rattle.cluster_tree.specs.Change.{IsPart}
use Rattle.cluster_tree.specs.Joined.{joined_writes}
use Rattle.cluster_tree.specs.Laws.{changed_path}
use Rattle.cluster_tree.specs.Sink.{AddsPart}
use Rattle.cluster_tree.specs.declared.tree.ChangeCall.{ChangeCall}

-- One thing that a command does: reads of the tree, and taking memory; a text on standard output or on standard error; these changing calls,
-- which leave these contents; or any changing calls below these roots, which leave these contents, or where None stands any.
pub data Act : Type 0 where
  Look : Act
  Print : (text : List ℕ) → Act
  Report : (text : List ℕ) → Act
  Do : (calls : List ChangeCall) (after : Contents) → Act
  Within : (roots : List PathValue) (after : Option Contents) → Act

-- How a run ends: it is done or refused, a device failed, or memory was wanting.
pub data Ending : Type 0 where
  Done : Ending
  Refused : Ending
  ReadFailed : Ending
  WriteFailed : Ending
  SinkFailed : Ending
  NoMemory : Ending

-- a sink: its text, and its count of failed writes
pub record Sunk : Type 0 where
  pub text : List ℕ
  pub faults : ℕ

abbrev pub sunk : List ℕ → ℕ → Sunk
sunk text faults = record { text = text; faults = faults }

-- what a run sees of its devices: the tree, and standard output and standard error
pub record Seen : Type 0 where
  pub contents : Contents
  pub calls : List ChangeCall
  pub out : Sunk
  pub err : Sunk

abbrev pub seen : Contents → List ChangeCall → Sunk → Sunk → Seen
seen contents calls out err = record { contents = contents; calls = calls; out = out; err = err }

-- the text was added
pub record Puts (tells : Bool) (text : List ℕ) (old new : Sunk) : Type 0 where
  pub added : IsTrue tells → new.text ≡ old.text ++ text
  pub later : old.faults ≤ new.faults

-- a write of the text failed, and left the first bytes of it
pub record Breaks (tells : Bool) (text : List ℕ) (old new : Sunk) : Type 0 where
  pub part : IsTrue tells → AddsPart text old.text new.text
  pub rose : Rose old.faults new.faults

-- these calls were made, however their writes were cut
pub record MakesAll (plan old new : List ChangeCall) : Type 0 where
  pub made : List ChangeCall
  pub grew : new ≡ old ++ made
  pub joined : joined_writes made ≡ joined_writes plan

-- the first of these calls were made, maybe all, and of the last write maybe only the front
pub record Begins (plan old new : List ChangeCall) : Type 0 where
  pub made : List ChangeCall
  pub grew : new ≡ old ++ made
  pub part : IsPart (joined_writes made) (joined_writes plan)

-- one of these roots holds the path
abbrev pub IsBelow : List PathValue → PathValue → Type 0
IsBelow [] path = ⊥
IsBelow (root ∷ roots) path = Holds root path ⊎ IsBelow roots path

-- each of these calls is a sync, or changes a path below one of the roots
abbrev pub AreBelow : List PathValue → List ChangeCall → Type 0
AreBelow roots [] = Unit {0}
AreBelow roots (call ∷ calls) = ((path : PathValue) → changed_path call ≡ Some path → IsBelow roots path) × AreBelow roots calls

-- any calls below these roots were made, and all that lies elsewhere stays
pub record Changes (roots : List PathValue) (old new : Seen) : Type 0 where
  pub made : List ChangeCall
  pub grew : new.calls ≡ old.calls ++ made
  pub below : AreBelow roots made
  pub elsewhere : (path : PathValue) → (IsBelow roots path → ⊥) → entry_at new.contents path ≡ entry_at old.contents path

-- these are the contents, where they are stated
abbrev pub Leaves : Option Contents → Contents → Type 0
Leaves None contents = Unit {0}
Leaves (Some after) contents = contents ≡ after

module _ (out_tells err_tells : Bool) where
  -- the act was done
  abbrev pub Whole : Act → Seen → Seen → Type 0
  Whole Look old new = new ≡ old
  Whole (Print text) old new = Puts out_tells text old.out new.out × (new ≡ record old { out = new.out })
  Whole (Report text) old new = Puts err_tells text old.err new.err × (new ≡ record old { err = new.err })
  Whole (Do calls after) old new = MakesAll calls old.calls new.calls × (new ≡ record old { calls = new.calls; contents = after })
  Whole (Within roots after) old new = Changes roots old new × (new ≡ record old { calls = new.calls; contents = new.contents }) × Leaves after new.contents

  -- the act was done in part, and the run ended so
  abbrev pub InPart : Ending → Act → Seen → Seen → Type 0
  InPart ending Look old new = ((ending ≡ ReadFailed) ⊎ (ending ≡ NoMemory)) × (new ≡ old)
  InPart ending (Print text) old new = (ending ≡ SinkFailed) × Breaks out_tells text old.out new.out × (new ≡ record old { out = new.out })
  InPart ending (Report text) old new = (ending ≡ SinkFailed) × Breaks err_tells text old.err new.err × (new ≡ record old { err = new.err })
  InPart ending (Do calls after) old new = ((ending ≡ WriteFailed) ⊎ (ending ≡ ReadFailed)) × Begins calls old.calls new.calls × (new ≡ record old { calls = new.calls; contents = new.contents })
  InPart ending (Within roots after) old new = ((ending ≡ WriteFailed) ⊎ (ending ≡ ReadFailed) ⊎ (ending ≡ NoMemory)) × Changes roots old new × (new ≡ record old { calls = new.calls; contents = new.contents })

-- how a run that made the calls of a list may end
abbrev pub IsAfterChange : Ending → Type 0
IsAfterChange Done = Unit {0}
IsAfterChange Refused = ⊥
IsAfterChange ReadFailed = Unit {0}
IsAfterChange WriteFailed = Unit {0}
IsAfterChange SinkFailed = Unit {0}
IsAfterChange NoMemory = ⊥

-- a run may still end so after this act: neither a refusal nor want of memory comes after a list of changing calls
abbrev pub Allows : Act → Ending → Type 0
Allows Look ending = Unit {0}
Allows (Print text) ending = Unit {0}
Allows (Report text) ending = Unit {0}
Allows (Do calls after) ending = IsAfterChange ending
Allows (Within roots after) ending = Unit {0}

-- A run performs the first of these acts, in order, and ends so: it is done or refused after all of them, and else the last is done in part.
-- So a failed read and want of memory come only where the command looks, changes what is stated or works within roots.
pub data Performs (out_tells err_tells : Bool) (ending : Ending) : List Act → Seen → Seen → Type 0 where
  ends : {s : Seen} → (ending ≡ Done) ⊎ (ending ≡ Refused) → Performs out_tells err_tells ending [] s s
  breaks : {act : Act} {acts : List Act} {s t : Seen} → InPart out_tells err_tells ending act s t → Performs out_tells err_tells ending (act ∷ acts) s t
  goes_on : {act : Act} {acts : List Act} {s t u : Seen} → Whole out_tells err_tells act s t → Allows act ending → Performs out_tells err_tells ending acts t u → Performs out_tells err_tells ending (act ∷ acts) s u
