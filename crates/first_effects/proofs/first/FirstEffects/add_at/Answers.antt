use Rattle.std.proofs.Common.{false, sym}
use Rattle.std.proofs.lemmas.Result.{on_ok_weaker}
use Rattle.std.specs.List.{slice_get}
use Rattle.std.specs.Option.{option_map_or}
use Rattle.block_refs.specs.declared.block_ref.BlockRef.{BlockRef}
use Rattle.block_refs.specs.declared.placed.Placed.{Placed}
use Rattle.rmgr_hooks.specs.Custom.{handed_in}
use Rattle.first_effects.specs.References.{changes, meets}
use Rattle.first_effects.proofs.GatherLemmas.{gathers_same}
use Rattle.first_effects.proofs.PlaceLemmas.{at_some}
use Rattle.first_effects.proofs.first.FirstEffects.add_at.Goals as goal

pub returns-in-Some-clause-ok : goal.returns-in-Some-clause-ok
returns-in-Some-clause-ok g c =
    let custom = handed_in g.M.Manager c.args.custom in
    let at = slice_get c.args.parts.now.blocks c.args.at in
    on_ok_weaker c.add_block.result
    (gathers_same (λ q. meets custom c.args.rec.now c.args.parts.now q c.in-Some.block) (λ q. changes custom c.args.rec.now c.args.parts.now q c.in-Some.block)
    (λ q. option_map_or (λ (placed : Placed). meets custom c.args.rec.now c.args.parts.now q placed.block) at false) (λ q. option_map_or (λ (placed : Placed). changes custom c.args.rec.now c.args.parts.now q placed.block) at false)
    c.args.self.now c.add_block.new.self
    (λ q main. sym (at_some (λ (block : BlockRef). meets custom c.args.rec.now c.args.parts.now q block) at c.in-Some.block c.in-Some.ensures.value))
    (λ q main. sym (at_some (λ (block : BlockRef). changes custom c.args.rec.now c.args.parts.now q block) at c.in-Some.block c.in-Some.ensures.value)))
    c.add_block.ensures.ok
