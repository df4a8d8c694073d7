-- The images that a tree in memory gives. Own: "Fakes in memory".
use Rattle.std.specs.Prelude.{◌≡◌, ℕ, ◌⊎◌, ◌==◌, cond, replicate, fold, is_some, Result, MatchResult}
use Rattle.cluster_tree.specs.Contents.{Contents}
use Rattle.cluster_tree.specs.Stops.{Epoch}
use Rattle.cluster_tree.specs.Change.{Change, Writes, Cuts, MakesFile, MakesFolder, Removes, Syncs, refusal_of, changed_by}
use Rattle.cluster_tree.specs.declared.tree.TreeFault.{TreeFault}
use Rattle.cluster_tree.specs.declared.tree.TreeFault.TheVariants as fault
use Rattle.cluster_tree.specs.declared.tree.ChangeCall.{ChangeCall}
use Rattle.cluster_tree.specs.declared.tree.ChangeCall.TheVariants.{Write, Cut, MakeFile, MakeFolder, Remove, Sync}

-- a changing call, of a write with the byte A5 all over its range
abbrev pub filling : ChangeCall → Change
filling (Write path at n) = Writes path at (replicate n 0xa5)
filling (Cut path size) = Cuts path size
filling (MakeFile path) = MakesFile path
filling (MakeFolder path) = MakesFolder path
filling (Remove path) = Removes path
filling Sync = Syncs

-- the contents after a change, or as they were where it is refused
abbrev pub changed_unless_refused : Contents → Change → Contents
changed_unless_refused c change = cond (is_some (refusal_of c change)) c (changed_by c change)

-- it was tried: it was carried out or refused, or there was no memory
abbrev pub Tried : Change → Contents → Contents → Result (Unit {0}) TreeFault → Type 0
Tried change old new result = MatchResult result (λ _. new ≡ changed_unless_refused old change) (λ e. (e ≡ fault.Failed) ⊎ ((e ≡ fault.OutOfMemory) ⊎ (new ≡ changed_unless_refused old change)))

-- the contents after a call that writes so, if it isn't refused
abbrev pub filled_by : Contents → ChangeCall → Contents
filled_by c call = changed_unless_refused c (filling call)

-- what was synced, after each call since
abbrev pub filled : Epoch → Contents
filled time = fold filled_by time.synced time.pending

-- by choice what was synced, the contents, or what was synced and filled
abbrev pub image_of : (choice : ℕ) → Epoch → Contents → Contents
image_of choice time c = cond (choice == 0) time.synced (cond (choice == 1) c (filled time))
