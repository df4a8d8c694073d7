-- What is wrong below a root is told while a command looks.
use Rattle.std.proofs.Common.{ℕ, ◌+◌, ◌%◌, Bool, true, false, List, [], ◌∷◌, length, map, inr, refl, Option, None, Some, is_some, Result, IfErr}
use Rattle.std.specs.Prelude.{if◌then◌else◌, ◌&&◌, ◌==◌, not, nat_lt}
use Rattle.cluster_tree.specs.Causes.{first_of, unless}
use Rattle.cluster_tree.specs.Contents.{Contents, Entry, FileEntry, FolderEntry, LinkEntry, entry_at}
use Rattle.cluster_tree.specs.PathValue.{PathValue, front}
use Rattle.file_walk.specs.Relations.{relation_of}
use Rattle.file_walk.specs.Walk.{entry_flaw, flaw_at, found_below, root_flaw, size_flaw, walk_of}
use Rattle.file_walk.specs.declared.entry.Entry.{Entry as Walked}
use Rattle.file_walk.specs.declared.fault.WalkFault.{WalkFault}
use Rattle.file_walk.specs.declared.fault.WalkFault.TheVariants as flaw
use Rattle.run_acts.specs.Causes.{IsOfLook}
use Rattle.cluster_causes.specs.Walks.{walk_cause}

-- a flaw, if there is one, comes while a command looks
abbrev MayLook : Option WalkFault → Type 0
MayLook None = Unit {0}
MayLook (Some f) = IsOfLook (walk_cause f)

abbrev pub WalkLooks : Result (List Walked) WalkFault → Type 0
WalkLooks r = IfErr r (λ f. IsOfLook (walk_cause f))

looks_unless : (o : Option WalkFault) (r : Result (List Walked) WalkFault) → MayLook o → WalkLooks r → WalkLooks (unless o r)
looks_unless None r looks rest = rest
looks_unless (Some f) r looks rest = looks

root-looks : (root : PathValue) (o : Option Entry) → MayLook (root_flaw root o)
root-looks root None = inr (inr refl)
root-looks root (Some (FolderEntry true)) = inr (inr refl)
root-looks root (Some (FolderEntry false)) = tt
root-looks root (Some (FileEntry bytes)) = inr (inr refl)
root-looks root (Some LinkEntry) = inr (inr refl)

size-looks : (own : PathValue) (n : ℕ) → MayLook (size_flaw own n)
size-looks own n = by (is_some (relation_of own) && not (n % 8192 == 0))
  where
    by : (b : Bool) → MayLook (if b then Some (flaw.OddSize own n) else None)
    by true = inr (inr refl)
    by false = tt

entry-looks : (own : PathValue) (entry : Entry) → MayLook (entry_flaw own entry)
entry-looks own (FolderEntry true) = inr (inr refl)
entry-looks own (FolderEntry false) = tt
entry-looks own (FileEntry bytes) = size-looks own (length bytes)
entry-looks own LinkEntry = inr (inr refl)

at-looks : (depth : ℕ) (found : PathValue × Entry) → MayLook (flaw_at depth found)
at-looks depth found = by (nat_lt 64 (depth + length found.0.parts))
  where
    by : (b : Bool) → MayLook (if b then Some (flaw.TooDeep (front 64 found.0)) else entry_flaw found.0 found.1)
    by true = inr (inr refl)
    by false = entry-looks found.0 found.1

flaws-look : (depth : ℕ) (founds : List (PathValue × Entry)) → MayLook (first_of (map (flaw_at depth) founds))
unfolding first_of
flaws-look depth [] = tt
flaws-look depth (found ∷ founds) = either (flaw_at depth found) (at-looks depth found) (flaws-look depth founds)
  where
    either : (o : Option WalkFault) → MayLook o → MayLook (first_of (map (flaw_at depth) founds)) → MayLook (first_of (o ∷ map (flaw_at depth) founds))
    either None looks rest = rest
    either (Some f) looks rest = looks

-- what a walk is refused for
pub walk_looks : (c : Contents) (root : PathValue) → WalkLooks (walk_of c root)
unfolding walk_of
walk_looks c root =
    looks_unless (root_flaw root (entry_at c root)) _ (root-looks root (entry_at c root))
    (looks_unless (first_of (map (flaw_at (length root.parts)) (found_below c root))) _ (flaws-look (length root.parts) (found_below c root)) tt)
