use Rattle.std.proofs.Common.{ap, arith, length, [], ◌∷◌, codes}
use Rattle.std.proofs.lemmas.List.FromFn.{length-map-range_with_len}
use Rattle.cluster_tree.specs.PathValue.{kept_parts}
use Rattle.pair_maker.specs.Logs.{block_end}
use Rattle.pair_maker.proofs.EntryLemmas.{adds-as, relation-is}
use Rattle.pair_maker.proofs.cluster.add_relation.Goals as goal

pub invariant_of-relation : goal.invariant_of-relation
invariant_of-relation c = record { few = omega (arith, c.requires.few, ap length c.requires.ends, length-map-range_with_len (block_end c.args.side c.args.seed) 0 c.args.blocks) }

pub returns : goal.returns
returns c =
    adds-as c.args.root.now _ _ _ _ c.add.result (ap (λ e. record { parts = kept_parts (codes "base/5/16384"); entry = e } ∷ []) (relation-is c.args.side c.args.seed c.args.blocks c.args.ends.items c.requires.ends)) c.add.ensures
