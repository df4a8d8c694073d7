-- What a pair's log leaves of the files.
use Rattle.std.proofs.Common.{None, ◌≡◌, ℕ, ◌<◌, ◌≤◌, List, [], ◌∷◌, ◌++◌, map, Ok, ap, arith}
use Rattle.std.specs.List.{AllByRecursion}
use Rattle.cluster_tree.specs.PathValue.{PathValue}
use Rattle.pair_laws.specs.Life.{side_records}
use Rattle.pair_laws.proofs.EffectLemmas.{common-is, last-is}
use Rattle.pair_laws.proofs.LifeLemmas.{all-new}
use Rattle.pair_laws.proofs.NamesLemmas.{blocks-low}
use Rattle.pair_laws.proofs.SmallLemmas.{last_low}
use Rattle.pair_laws.proofs.StepsLemmas.{as-given}
use Rattle.pair_maker.specs.Inserts.{insert_blocks, insert_record}
use Rattle.pair_maker.specs.Logs.{common_checkpoint, last_checkpoint, last_place, origin_of, records_of}
use Rattle.pair_maker.specs.declared.side.Side.TheVariants.{Source}
use Rattle.replay_laws.specs.Log.{split_of}
use Rattle.replay_laws.proofs.RecordLemmas.{one-world_of}
use Rattle.replay_laws.proofs.WorldLemmas.{given-ok}
use Rattle.replay_world.specs.Records.{record_after, records_after}
use Rattle.replay_world.specs.World.{World}
use Rattle.wal_base.specs.Segment.{bytes_of}
use Rattle.wal_records.specs.Again.{log_records, new_log_record}
use Rattle.wal_records.specs.Place.{place_at}
use Rattle.wal_records.specs.Sound.{AllNew}
use Rattle.wal_records.specs.Writer.{NewRecord, Written, appended, begun, end_from}
use Rattle.pair_laws.proofs.compared.KeepLemmas.{HasRelation, KeepsFiles}
use Rattle.pair_laws.proofs.compared.FileLemmas.{keeps-same, keeps-then}
use Rattle.pair_laws.proofs.compared.RecordLemmas.{IsKeeper, RecordKeeps, checkpoint-keeper, insert-keeper}

module _ (root : PathValue) (blocks : ℕ) where
  -- records one after another
  all-keep : (ns : List NewRecord) (at : Written) → AllNew at ns → AllByRecursion (IsKeeper root blocks) ns → (w v : World) → HasRelation root blocks w.files
      → records_after None root 131072 (log_records at ns) w ≡ Ok v → KeepsFiles root blocks w.files v.files
  unfolding records_after
  all-keep [] at new all w v has made = keeps-same root blocks w.files v.files has (ap (λ (x : World). x.files) (one-world_of w v made))
  all-keep (n ∷ ns) at new all w v has made =
      let rec = new_log_record at n in
      let two = given-ok (record_after None root 131072 rec (split_of rec).parts w) (records_after None root 131072 (log_records (appended at n) ns)) v made in
      let keeps : RecordKeeps root blocks rec (split_of rec).parts =
      as-given (RecordKeeps root blocks) at n all.0.whole new.0 (all.0.keeps (place_at (bytes_of at.origin.size) at.end) (end_from at.origin at.before at.end n) at.before) in
      let first = keeps w two.0 has two.1 in
      keeps-then root blocks w.files two.0.files v.files first (all-keep ns (appended at n) new.2 all.1 two.0 v first.relation two.2)

  -- the inserts, and the last checkpoint behind them
  then-last : (seed : ℕ) (few : blocks ≤ 4096) (bs : List ℕ) (last : NewRecord) → AllByRecursion (λ b. b < blocks) bs → IsKeeper root blocks last
      → AllByRecursion (IsKeeper root blocks) (map (insert_record seed) bs ++ last ∷ [])
  then-last seed few [] last low keeper = (keeper, tt)
  then-last seed few (b ∷ bs) last low keeper = (insert-keeper root seed blocks b few low.0, then-last seed few bs last low.1 keeper)

  all-keepers : (seed : ℕ) → blocks ≤ 4096 → AllByRecursion (IsKeeper root blocks) (records_of Source seed blocks)
  all-keepers seed few =
      let place = last_place Source seed blocks in
      let last = checkpoint-keeper root blocks (last_checkpoint Source place) (last-is Source place (last_low Source seed blocks few)) in
      (checkpoint-keeper root blocks common_checkpoint common-is, then-last seed few (insert_blocks Source seed blocks) _ (blocks-low Source seed blocks blocks (omega arith)) last)

pub log-keeps : (root : PathValue) (seed blocks : ℕ) (w v : World) → blocks ≤ 4096 → HasRelation root blocks w.files
    → records_after None root 131072 (side_records Source seed blocks) w ≡ Ok v → KeepsFiles root blocks w.files v.files
log-keeps root seed blocks w v few has made =
    all-keep root blocks (records_of Source seed blocks) (begun (origin_of Source)) (all-new Source seed blocks few) (all-keepers root blocks seed few) w v has made
