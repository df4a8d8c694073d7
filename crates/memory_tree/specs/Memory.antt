-- What the nodes of a tree in memory stand for. Own: "Fakes in memory".
use Rattle.std.specs.Prelude.{◌≡◌, ◌<◌, ℕ, List, map, take, length, slice_index_or, None}
use Rattle.std.specs.FinMap.{from_entries, get}
use Rattle.cluster_tree.specs.PathValue.{PathValue, path_cmp}
use Rattle.cluster_tree.specs.Contents.{Entry, FolderEntry, FileEntry, LinkEntry, Contents, IsTree, IsTree-prop}
use Rattle.cluster_tree.specs.Stops.{Epoch, Stops, MayBeLeft}
use Rattle.memory_tree.specs.declared.nodes.Node.{Node}
use Rattle.memory_tree.specs.declared.nodes.Node.TheVariants as node
use Rattle.memory_tree.specs.declared.nodes.Placed.{Placed}
use Rattle.memory_tree.specs.declared.log.Epoch.{Epoch as KeptEpoch}
use Rattle.memory_tree.specs.declared.log.Log.{Log}

-- the entry that a node is
abbrev pub entry_of : Node → Entry
entry_of (node.Folder bad) = FolderEntry bad
entry_of (node.File bytes) = FileEntry bytes.items
entry_of node.Link = LinkEntry

-- a placed node as a path and its entry
abbrev pub pair_of : Placed → PathValue × Entry
pair_of placed = (placed.path, entry_of placed.node)

-- the contents: the first node of a path counts
abbrev pub contents_of : List Placed → Contents
contents_of placed = from_entries {R = path_cmp} (map pair_of placed)

-- the place of the first node of a path
pub record IsPlace (nodes : List Placed) (path : PathValue) (i : ℕ) : Type 0 where
  pub within : i < length nodes
  pub here : (d : Placed) → (slice_index_or nodes i d).path ≡ path
  pub first : get (contents_of (take i nodes)) path ≡ None

-- the time from one sync to the next
abbrev pub epoch_of : KeptEpoch → Epoch
epoch_of kept = record { synced = contents_of kept.synced.items; pending = kept.pending.items }

-- what a stop may leave, and might have left
abbrev pub stops_of : Log → Stops
stops_of log = record { now = epoch_of log.now; past = map epoch_of log.past.items }

-- what always holds of a tree in memory: it and what was synced are trees of files, and it is what a stop may leave
pub record IsSound (c : Contents) (s : Stops) : Type 0 where
  pub rooted : IsTree c
  pub synced : IsTree s.now.synced
  pub left : ∥ MayBeLeft s c ∥₁

-- that is one fact
pub IsSound-prop : (c : Contents) (s : Stops) → IsProp (IsSound c s)
IsSound-prop c s = hlevel (IsTree-prop)
