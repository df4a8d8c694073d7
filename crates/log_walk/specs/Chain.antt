-- The last common checkpoint as a relation: records that link one to another.
use Rattle.std.specs.Prelude.{◌≡◌, ◌≢◌, ◌<◌, ℕ, true, false, List, [], ◌∷◌, Ok}
use Rattle.wal_base.specs.declared.lsn.Lsn.{Lsn}
use Rattle.wal_records.specs.Further.{Pages}
use Rattle.wal_records.specs.Log.{log_of}
use Rattle.wal_records.specs.Place.{place_at}
use Rattle.wal_records.specs.Reading.{LogRecord, Spelled, lone}
use Rattle.block_refs.specs.Outcomes.{start_of}
use Rattle.log_walk.specs.declared.checkpoint.CommonCheckpoint.{CommonCheckpoint}
use Rattle.log_walk.specs.Back.{is_common}
use Rattle.log_walk.specs.Checkpoint.{checkpoint_in, is_checkpoint}

-- a record links to another, which its place has by itself
pub record LinksTo (pages : Pages) (size below : ℕ) (r before : LogRecord) : Type 0 where
  pub passed : is_common below r ≡ false
  pub link : r.header.prev.0 ≢ 0
  pub stands : lone pages size r.header.prev.0 ≡ Spelled before

-- a record leads back to another over those in between, of which, as of itself, none is a checkpoint below the fork
abbrev pub LeadsTo : Pages → ℕ → ℕ → LogRecord → List LogRecord → LogRecord → Type 0
LeadsTo pages size below r [] last = r ≡ last
LeadsTo pages size below r (before ∷ way) last = LinksTo pages size below r before × LeadsTo pages size below before way last

-- The first record of the log from the fork on leads back to a checkpoint record that starts below the fork's place, and
-- that record says this.
pub record IsCommonCheckpoint (pages : Pages) (size fork : ℕ) (found : CommonCheckpoint) : Type 0 where
  pub first : LogRecord
  pub rest : List LogRecord
  pub begins : (log_of pages size fork).records ≡ first ∷ rest
  pub way : List LogRecord
  pub last : LogRecord
  pub leads : LeadsTo pages size (place_at size fork) first way last
  pub checkpoint : is_checkpoint last ≡ true
  pub below : last.start < place_at size fork
  pub says : checkpoint_in last ≡ Ok found

-- It leads back to a record that links to none before it and stands at this position, and isn't such a checkpoint.
pub record HasNoCheckpoint (pages : Pages) (size fork : ℕ) (at : Lsn) : Type 0 where
  pub first : LogRecord
  pub rest : List LogRecord
  pub begins : (log_of pages size fork).records ≡ first ∷ rest
  pub way : List LogRecord
  pub last : LogRecord
  pub leads : LeadsTo pages size (place_at size fork) first way last
  pub other : is_common (place_at size fork) last ≡ false
  pub link : last.header.prev.0 ≡ 0
  pub stands : start_of last ≡ at
