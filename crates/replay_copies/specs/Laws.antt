-- What a mark that was laid tells, for callers. Own: "A replay that can be started again".
use Rattle.std.specs.Prelude.{◌≡◌, ℕ, List, Ok, Some}
use Rattle.cluster_tree.specs.Contents.{Contents, FileEntry, entry_at}
use Rattle.cluster_tree.specs.PathValue.{PathValue}
use Rattle.gated_marks.specs.Gates.{plus}
use Rattle.replay_list.specs.declared.listed.Listed.{Listed}
use Rattle.stored_replay.specs.Marks.{own_bytes}
use Rattle.stored_replay.specs.Stored.{Begun, HadEnded, NotBegun, told_in}
use Rattle.replay_copies.specs.Ended.{StandsLaid, with_gate}
use Rattle.replay_copies.specs.Laid.{IsLaid, IsReady, IsShut, mark_of}

-- what is laid tells a replay that was begun, with the list that it was begun from
abbrev pub LaidIsTold : Type 0
LaidIsTold = (root : PathValue) (listed : List Listed) (c d : Contents) → IsReady root listed c → IsLaid root listed c d → told_in d root (own_bytes d root) ≡ Ok (Begun listed)

-- what is laid stands so,
abbrev pub LaidStands : Type 0
LaidStands = (root : PathValue) (listed : List Listed) (c d : Contents) → IsLaid root listed c d → StandsLaid root listed c d

-- and what stands so tells the same, whatever byte but `+` a stop left in the place of its second gate
abbrev pub StandingIsTold : Type 0
StandingIsTold = (root : PathValue) (listed : List Listed) (c d : Contents) → IsReady root listed c → StandsLaid root listed c d → told_in d root (own_bytes d root) ≡ Ok (Begun listed)

-- with that gate open it tells one that had ended, whatever else stands
abbrev pub EndedIsTold : Type 0
EndedIsTold = (root : PathValue) (listed : List Listed) (c d e : Contents) → IsReady root listed c → StandsLaid root listed c d
    → entry_at e (mark_of root) ≡ Some (FileEntry (with_gate root d plus)) → told_in e root (own_bytes e root) ≡ Ok HadEnded

-- and a mark that is shut tells that none was begun
abbrev pub ShutIsNotBegun : Type 0
ShutIsNotBegun = (root : PathValue) (c : Contents) (bytes : List ℕ) → IsShut bytes → told_in c root (Some bytes) ≡ Ok NotBegun
