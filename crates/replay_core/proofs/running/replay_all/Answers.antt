use Rattle.storage_replay.specs.Sparing.{piece_of}
use Rattle.std.proofs.Common.{subst, rules, ap, ◌∙◌, Ok}
use Rattle.file_edits.specs.Sparing.{Spares}
use Rattle.file_edits.proofs.SparingLemmas.{spared-on}
use Rattle.storage_replay.specs.declared.files.Files.{Files}
use Rattle.replay_core.proofs.running.replay_all.Goals as goal

pub returns-in-Ok-Done-clause-spares : goal.returns-in-Ok-Done-clause-spares
returns-in-Ok-Done-clause-spares g c told name is free =
    spared-on g.F.Tree (piece_of c.args.world.now.files.root c.args.world.now.files.per_file name) _ _ _ (c.records.invariant.spares told name is free)
    (subst (λ (f : Files). Spares g.F.Tree (piece_of f.root f.per_file name) c.records.tree c.replay_next.new.tree) c.records.invariant.files
    (c.replay_next.ensures.spares told name is (c.records.invariant.fewer told name free)))

pub returns-in-Err-clause-spares : goal.returns-in-Err-clause-spares
returns-in-Err-clause-spares g c told name is free =
    spared-on g.F.Tree (piece_of c.args.world.now.files.root c.args.world.now.files.per_file name) _ _ _ (c.records.invariant.spares told name is free)
    (subst (λ (f : Files). Spares g.F.Tree (piece_of f.root f.per_file name) c.records.tree c.replay_next.new.tree) c.records.invariant.files
    (c.replay_next.ensures.spares told name is (c.records.invariant.fewer told name free)))

pub records-preserved : goal.records-preserved
records-preserved g c =
    record {
      opened = search rules;
      within = search rules;
      below = search rules;
      log = search rules;
      files = search rules;
      control = search rules;
      frame = search rules;
      own = search rules;
      spares = λ told name is free. spared-on g.F.Tree (piece_of c.args.world.now.files.root c.args.world.now.files.per_file name) _ _ _ (c.records.invariant.spares told name is free)
          (subst (λ (f : Files). Spares g.F.Tree (piece_of f.root f.per_file name) c.records.tree c.replay_next.new.tree) c.records.invariant.files
          (c.replay_next.ensures.spares told name is (c.records.invariant.fewer told name free)));
      fewer = λ told name free. c.replay_next.ensures.fewer told (c.in-Ok-More.is ∙ ap (λ t. Ok t) c.in-Ok-More.field-0-is) name (c.records.invariant.fewer told name free);
      knows = search rules;
      replays = search rules;
    }
