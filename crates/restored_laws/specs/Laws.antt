-- What follows where a cluster in which a replay was stopped is brought back. Own: "What a replay brings back", "A replay that is begun again".
use Rattle.std.specs.Prelude.{◌≡◌, ℕ, true, List, [], Ok, Some}
use Rattle.alike_clusters.specs.Clusters.{AlikeClusters}
use Rattle.block_refs.specs.declared.names.BlockName.{BlockName}
use Rattle.cluster_tree.specs.Contents.{Contents, IsTree}
use Rattle.cluster_tree.specs.PathValue.{PathValue}
use Rattle.replay_areas.specs.Listing.{areas_listed}
use Rattle.replay_copies.specs.Laid.{IsLaid}
use Rattle.replay_list.specs.Laws.{IsListOf}
use Rattle.replay_list.specs.declared.listed.Listed.{Listed}
use Rattle.replay_restore.specs.Listing.{is_closed}
use Rattle.replay_restore.specs.Restored.{IsRestored}
use Rattle.replayed_bytes.specs.Bytes.{HaveSameVersions}
use Rattle.storage_laws.specs.States.{block_in}
use Rattle.restored_laws.specs.Back.{IsBack, IsBegunFrom, IsInMain, IsLeftOf, SameBeside}

-- what is listed of a tree has each folder of a path before it
abbrev pub ListsAreClosed : Type 0
ListsAreClosed = (c : Contents) (root : PathValue) (listed : List Listed) → IsTree c → areas_listed c root ≡ Ok listed → is_closed root [] listed ≡ true

-- with the mark and the copies laid, the list tells of what stands, as before
abbrev pub LaidIsBegunFrom : Type 0
LaidIsBegunFrom = (root : PathValue) (listed : List Listed) (before first : Contents)
    → IsBegunFrom root listed before → IsLaid root listed before first → IsTree first → IsBegunFrom root listed first

-- and as long as nothing is changed but at or below the areas and the label, the copies are of that
abbrev pub LaidIsLeft : Type 0
LaidIsLeft = (root : PathValue) (listed : List Listed) (before first left : Contents)
    → IsListOf root listed → IsLaid root listed before first → SameBeside root first left → IsLeftOf root listed first left

-- at each path stands what stood there before the replay, but for the bytes of main forks' files
abbrev pub RestoredIsBack : Type 0
RestoredIsBack = (root : PathValue) (listed : List Listed) (first left again : Contents)
    → IsBegunFrom root listed first → IsLeftOf root listed first left → IsRestored root listed left again → IsBack root first left again

-- so the cluster is alike the one that the replay began from, if that is alike itself, with the same files that tell a version
abbrev pub BackIsAlike : Type 0
BackIsAlike = (per_file : ℕ) (root : PathValue) (first left again : Contents)
    → IsBack root first left again → AlikeClusters per_file first root first root
    → AlikeClusters per_file first root again root × HaveSameVersions first root again root

-- and a block that stood there stands there again, byte for byte, where it still does in what the stop left, or its file isn't one of a main fork
abbrev pub BackKeepsBlocks : Type 0
BackKeepsBlocks = (root : PathValue) (per_file : ℕ) (first left again : Contents) (name : BlockName) (page : List ℕ) → IsBack root first left again
    → block_in root per_file name first ≡ Some page → (IsInMain per_file name → block_in root per_file name left ≡ Some page) → block_in root per_file name again ≡ Some page
