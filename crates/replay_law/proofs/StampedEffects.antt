-- Effects of operations with the record's end as LSN.
use Rattle.std.proofs.Common.{◌≡◌, ℕ, ◌<◌, List, Some, Ok, Err, length, refl}
use Rattle.page_layout.specs.Lsn.{with_lsn}
use Rattle.page_masks.specs.Law.{view, Redone, IsOperation, set_lsn_of, stamped}
use Rattle.page_masks.proofs.LsnLemmas.{lsn-with_lsn, stamped_page}
use Rattle.page_masks.proofs.LawLemmas.{stamped_is}
use Rattle.replay_law.specs.Effect.{FullPageImage, Init, Change}
use Rattle.replay_law.specs.Premises.{IsEffect}

pub image_is : (block end : ℕ) (page : List ℕ) → 0 < end → length page ≡ 8192 → IsEffect (view block) end (FullPageImage (Some (with_lsn end page)))
image_is block end page some size = record { page = stamped_page end page some size; lsn = lsn-with_lsn end page size }

pub change_is : (block end : ℕ) (operation : List ℕ → Redone) → 0 < end → IsOperation (view block) operation → IsEffect (view block) end (Change (stamped end operation))
change_is block end operation some is = stamped_is block end operation some is

made_is : (block end : ℕ) (made : Redone) → 0 < end → ((q : List ℕ) → made ≡ Ok q → length q ≡ 8192) → IsEffect (view block) end (Init (set_lsn_of end made))
made_is block end (Ok q) some size = image_is block end q some (size q refl)
made_is block end (Err why) some size = tt

pub init_is : (block end : ℕ) (operation : List ℕ → Redone) (p : List ℕ) → 0 < end → ((q : List ℕ) → operation p ≡ Ok q → length q ≡ 8192) → IsEffect (view block) end (Init (stamped end operation p))
init_is block end operation p some size = made_is block end (operation p) some size
