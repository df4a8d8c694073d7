use Rattle.std.proofs.Common.{◌≡◌, Some, rules, slice_get}
use Rattle.replay_areas.proofs.BelowLemmas.{fits_there, one_added}
use Rattle.replay_areas.proofs.below.add_entries.Goals as goal

pub loop-at-preserved : goal.loop-at-preserved
loop-at-preserved c =
    let entries = c.args.entries.now in
    let at = c.loop-at.at in
    let entry = c.in-Some.entry.now in
    let is : slice_get entries at ≡ Some entry = search rules in
    record {
      value = one_added c.args.root.now entries at entry is c.args.listed.now.items c.loop-at.listed.items c.add_entry.new.listed.items c.loop-at.invariant.value c.in_ok-add_entry.ensures.value;
      held = λ fit old. c.in_ok-add_entry.ensures.held (fits_there c.args.root.now entries at entry is fit) (c.loop-at.invariant.held fit old);
    }
