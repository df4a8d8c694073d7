use Rattle.std.proofs.Common.{◌≤◌, codes, length, sym, subst}
use Rattle.cluster_tree.specs.Apart.{AreApart}
use Rattle.cluster_tree.specs.PathValue.{PathValue}
use Rattle.pair_laws.specs.Stands.{target_of}
use Rattle.cmd_pair.proofs.PlaceLemmas.{below-room, target-apart}
use Rattle.cmd_pair.proofs.RewindLemmas.{not-needless, rewind-free, rewind-stays, rewound-target}
use Rattle.cmd_pair.proofs.StayLemmas.{state}
use Rattle.cmd_pair.proofs.TrialLemmas.{freed}
use Rattle.cmd_pair.proofs.rewinds.rewind_target.Goals as goal

pub rewind-requires-clause-target_depth : goal.rewind-requires-clause-target_depth
rewind-requires-clause-target_depth g c = subst (λ (x : PathValue). length x.parts ≤ 61) (sym c.requires.target) (below-room c.args.words.now.root (codes "t") c.requires.fit.depth)

pub rewind-requires-clause-source_depth : goal.rewind-requires-clause-source_depth
rewind-requires-clause-source_depth g c = subst (λ (x : PathValue). length x.parts ≤ 61) (sym c.requires.source) (below-room c.args.words.now.root (codes "s") c.requires.fit.depth)

pub rewind-requires-clause-apart : goal.rewind-requires-clause-apart
rewind-requires-clause-apart g c =
    let root = c.args.words.now.root in
    subst (λ x. AreApart x c.args.pair.now.source) (sym c.requires.target) (subst (λ y. AreApart (target_of root) y) (sym c.requires.source) (target-apart root))

pub returns-in-Ok-Rewound-clause-rewound : goal.returns-in-Ok-Rewound-clause-rewound
returns-in-Ok-Rewound-clause-rewound g c told =
    rewound-target c.args.words.now.root c.args.pair.now.target c.args.pair.now.source c.args.words.now.seed c.args.words.now.blocks (g.F.Tree.contents c.args.tree.now) (g.F.Tree.contents c.rewind.new.tree)
    c.requires.target c.requires.source (c.requires.stands told) c.in-Ok-Rewound.field-0 c.in-Ok-Rewound.field-0-is (c.in-Ok-Rewound.ensures.done told)

pub returns-in-Ok-Rewound-clause-within : goal.returns-in-Ok-Rewound-clause-within
returns-in-Ok-Rewound-clause-within g c told =
    rewind-stays c.args.words.now.root c.args.pair.now.target c.args.pair.now.source c.requires.target (state (g.F.Tree.contents c.args.tree.now) (g.F.Tree.calls c.args.tree.now)) (state (g.F.Tree.contents c.rewind.new.tree) (g.F.Tree.calls c.rewind.new.tree)) _ (c.in-Ok-Rewound.ensures.went told)

pub returns-in-Ok-NotNeeded-clause-within : goal.returns-in-Ok-NotNeeded-clause-within
returns-in-Ok-NotNeeded-clause-within g c told =
    rewind-stays c.args.words.now.root c.args.pair.now.target c.args.pair.now.source c.requires.target (state (g.F.Tree.contents c.args.tree.now) (g.F.Tree.calls c.args.tree.now)) (state (g.F.Tree.contents c.rewind.new.tree) (g.F.Tree.calls c.rewind.new.tree)) _ (c.in-Ok-NotNeeded.ensures.went told)

pub returns-in-Ok-NotNeeded-clause-changed : goal.returns-in-Ok-NotNeeded-clause-changed
returns-in-Ok-NotNeeded-clause-changed g c told p is =
    not-needless c.args.words.now.root c.args.pair.now.target c.args.pair.now.source c.args.words.now.seed c.args.words.now.blocks (g.F.Tree.contents c.args.tree.now) (g.F.Tree.contents c.rewind.new.tree)
    c.requires.target c.requires.source (c.requires.stands told) c.in-Ok-NotNeeded.field-0 c.in-Ok-NotNeeded.field-0-is (c.in-Ok-NotNeeded.ensures.done told)

pub returns-in-Err-clause-within : goal.returns-in-Err-clause-within
returns-in-Err-clause-within g c told =
    rewind-stays c.args.words.now.root c.args.pair.now.target c.args.pair.now.source c.requires.target (state (g.F.Tree.contents c.args.tree.now) (g.F.Tree.calls c.args.tree.now)) (state (g.F.Tree.contents c.rewind.new.tree) (g.F.Tree.calls c.rewind.new.tree)) _ (c.in-Err.ensures.went told)

pub returns-in-Err-clause-changed : goal.returns-in-Err-clause-changed
returns-in-Err-clause-changed g c told p is =
    freed p (c.rewind_cause.ensures.free (rewind-free c.args.words.now.root c.args.pair.now.target c.args.pair.now.source c.args.words.now.seed c.args.words.now.blocks (g.F.Tree.contents c.args.tree.now) (g.F.Tree.contents c.rewind.new.tree)
    c.requires.target c.requires.source (c.requires.stands told) c.in-Err.fault (c.in-Err.ensures.refused told))) is
