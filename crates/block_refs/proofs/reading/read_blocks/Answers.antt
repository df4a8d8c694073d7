use Rattle.std.proofs.Common.{◌≡◌, false, true, Ok, Err, sym, ap, ◌∙◌, arith}
use Rattle.std.proofs.lemmas.Grind.{common_steps}
use Rattle.block_refs.specs.declared.fault.PartsFault.{PartsFault}
use Rattle.block_refs.specs.Fragment.{piece_at}
use Rattle.block_refs.specs.Parts.{is_ended}
use Rattle.block_refs.specs.Outcomes.{told}
use Rattle.block_refs.proofs.ReadLemmas.{has_room, went_on, moves, ends, stops}
use Rattle.block_refs.proofs.reading.read_blocks.Goals as goal

pub returns-in-Err-clause-exact : goal.returns-in-Err-clause-exact
returns-in-Err-clause-exact c =
    let more : is_ended c.args.body.now c.fragments.seen ≡ false = grind (arith, common_steps) in
    let read : piece_at c.args.body.now c.fragments.seen ≡ Err c.in-Err.flaw = cc c.in-Err.ensures in
    let stop = stops c.args.body.now c.fragments.seen c.fragments.blocks.items c.in-Err.flaw c.fragments.invariant more read in
    ap (told c.args.start) stop ∙ ap (λ (e : PartsFault). Err e) (sym c.fault_of.ensures)

pub add_placed-requires-clause-room : goal.add_placed-requires-clause-room
add_placed-requires-clause-room c =
    let read : piece_at c.args.body.now c.fragments.seen ≡ Ok c.in-Ok.piece = cc c.in-Ok.ensures in
    has_room c.args.body.now c.fragments.seen c.fragments.blocks.items c.in-Ok.piece c.fragments.invariant read

pub fragments-smaller : goal.fragments-smaller
fragments-smaller c =
    let read : piece_at c.args.body.now c.fragments.seen ≡ Ok c.in-Ok.piece = cc c.in-Ok.ensures in
    moves c.args.body.now c.fragments.seen c.in-Ok.piece c.after-seen.result read c.after-seen.ensures

pub fragments-preserved : goal.fragments-preserved
fragments-preserved c =
    let more : is_ended c.args.body.now c.fragments.seen ≡ false = grind (arith, common_steps) in
    let read : piece_at c.args.body.now c.fragments.seen ≡ Ok c.in-Ok.piece = cc c.in-Ok.ensures in
    went_on c.args.body.now c.fragments.seen c.fragments.blocks.items c.in-Ok.piece c.after-seen.result c.add_placed.new.blocks.items c.fragments.invariant more read c.after-seen.ensures c.add_placed.ensures

pub returns-clause-exact : goal.returns-clause-exact
returns-clause-exact c =
    let ended : is_ended c.args.body.now c.fragments.seen ≡ true = grind (arith, common_steps) in
    ends c.args.body.now c.fragments.seen c.fragments.blocks.items c.fragments.invariant ended
