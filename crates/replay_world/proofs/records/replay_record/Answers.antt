use Rattle.std.proofs.Common.{◌≡◌, ◌||◌, Bool, true, false, refl, true≢false}
use Rattle.file_edits.proofs.SparingLemmas.{spared-on}
use Rattle.storage_replay.specs.Sparing.{piece_of}
use Rattle.replay_world.proofs.records.replay_record.Goals as goal

neither : (a b : Bool) → (a || b) ≡ false → (a ≡ false) × (b ≡ false)
neither true b e = absurd (true≢false e)
neither false b e = (refl, e)

pub returns-in_err-replay_blocks-clause-spares : goal.returns-in_err-replay_blocks-clause-spares
returns-in_err-replay_blocks-clause-spares g c told name is free = c.replay_blocks.ensures.spares told name is (neither _ _ free).0

pub returns-in_err-act_on_files-clause-spares : goal.returns-in_err-act_on_files-clause-spares
returns-in_err-act_on_files-clause-spares g c told name is free =
    spared-on g.F.Tree (piece_of c.args.world.now.files.root c.args.world.now.files.per_file name) _ _ _ (c.replay_blocks.ensures.spares told name is (neither _ _ free).0) (c.act_on_files.ensures.spares told name is (neither _ _ free).1)

pub returns-clause-spares : goal.returns-clause-spares
returns-clause-spares g c told name is free =
    spared-on g.F.Tree (piece_of c.args.world.now.files.root c.args.world.now.files.per_file name) _ _ _ (c.replay_blocks.ensures.spares told name is (neither _ _ free).0) (c.act_on_files.ensures.spares told name is (neither _ _ free).1)
