-- What a record does to a block: PostgreSQL 16, src/backend/access/transam/xlogutils.c, XLogReadBufferForRedoExtended.
use Rattle.std.specs.Prelude.{ℕ, List, Option}
use Rattle.page_masks.specs.Law.{Redone}

-- nothing, an image of the page (none is one of zeros), a page made whatever stood there, a change of the page, or that the block is gone
pub data Effect : Type 0 where
  Nothing : Effect
  FullPageImage : (page : Option (List ℕ)) → Effect
  Init : (made : Redone) → Effect
  Change : (change : List ℕ → Redone) → Effect
  Gone : Effect

-- a record as one block meets it: its end, and its effect on the block
pub data Step : Type 0 where
  At : (end : ℕ) (effect : Effect) → Step
