use Rattle.std.proofs.Common.{ap, codes, ◌∙◌}
use Rattle.std.specs.Prelude.{pos}
use Rattle.control_file.specs.Writing.{control_bytes}
use Rattle.backup_label.specs.Text.{label_text}
use Rattle.rewound_tree.specs.RewoundControl.{rewound_control}
use Rattle.pair_maker.specs.Files.{control_of, control_with, pair_label}
use Rattle.pair_maker.specs.Logs.{last_checkpoint, made_at}
use Rattle.pair_maker.specs.declared.side.Side.TheVariants.{Source}
use Rattle.pair_maker.proofs.EntryLemmas.{adds-last, adds-more, file-as, file-last}
use Rattle.pair_maker.proofs.cluster.add_copy.Goals as goal

pub returns : goal.returns
returns c =
    adds-last c.args.root.now _ c.add_control.new.entries.items _ _ _ c.add_file.result
    (adds-more c.in_ok-last.ensures.added
    (file-as c.args.root.now _ _ (codes "global/pg_control") c.in_ok-control.control.items (control_bytes (rewound_control (control_of Source c.args.seed c.args.blocks) (pos made_at)))
    (c.in_ok-control.ensures ∙ ap control_bytes (c.rewound_at.ensures.value ∙ ap (λ n. rewound_control (control_with (last_checkpoint Source n)) (pos made_at)) c.in_ok-last.ensures.last)) c.in_ok-add_control.ensures))
    (file-last c.args.root.now _ _ (codes "backup_label") c.in_ok-label.label.items (label_text pair_label) c.add_file.result c.in_ok-label.ensures c.add_file.ensures)
