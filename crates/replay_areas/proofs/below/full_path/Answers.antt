use Rattle.std.proofs.Common.{rules}
use Rattle.std.proofs.lemmas.Str.{is_utf8-from_IsUtf8}
use Rattle.replay_areas.proofs.BelowLemmas.{admitted, full_is, refused, way_text}
use Rattle.replay_areas.proofs.below.full_path.Goals as goal

pub returns-in-Ok-clause-value : goal.returns-in-Ok-clause-value
returns-in-Ok-clause-value c = full_is c.args.root.now c.args.own.now c.in-Ok.path c.deref.result.now (search rules) c.len.ensures.proper c.in-Ok.ensures.joined

pub returns-in-Ok-clause-text : goal.returns-in-Ok-clause-text
returns-in-Ok-clause-text c fits =
    way_text c.args.root.now c.args.own.now c.in-Ok.path c.deref.result.now fits (search rules)
    (full_is c.args.root.now c.args.own.now c.in-Ok.path c.deref.result.now (search rules) c.len.ensures.proper c.in-Ok.ensures.joined)
    (is_utf8-from_IsUtf8 c.deref.result.now c.deref.utf8)

pub returns-clause-memory : goal.returns-clause-memory
returns-clause-memory c fits =
    c.place_fault.ensures.memory (refused _ _ c.in-Err.fault c.in-Err.ensures.refused (admitted c.args.root.now c.args.own.now c.deref.result.now fits (search rules) (is_utf8-from_IsUtf8 c.deref.result.now c.deref.utf8)))
