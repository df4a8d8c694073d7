use Rattle.std.proofs.Common.{◌<◌, length, sym, ◌∙◌, add-one, arith}
use Rattle.file_walk.specs.Excluded.{is_own_name}
use Rattle.file_walk.proofs.ExcludedLemmas.{any_found, any_more, none_past}
use Rattle.file_walk.proofs.excluding.has_own_name.Goals as goal
use Rattle.file_walk.proofs.excluding.has_own_name.Goals.{in-Some+else-is_own_name, in_default}

pub returns-then-is_own_name : goal.returns-then-is_own_name
returns-then-is_own_name c =
    any_found is_own_name c.args.path.now.parts c.loop-at.at c.in-Some.part.now c.in-Some.ensures (sym c.is_own_name.ensures ∙ c.if-is_own_name.true)

pub loop-at-preserved : goal.loop-at-preserved
loop-at-preserved c =
    elim c.match-part.branch [
      | in-Some+else-is_own_name w ↦
          rw add-one
          (any_more is_own_name c.args.path.now.parts c.loop-at.at w.in-Some.part.now w.in-Some.ensures c.loop-at.invariant (sym w.is_own_name.ensures ∙ w.if-is_own_name.false))
      | in_default w ↦
          let inside : c.loop-at.at < length c.args.path.now.parts = omega (arith, c.len-at-end.ensures.value) in
          absurd (none_past c.args.path.now.parts c.loop-at.at w.in_default.ensures inside)
    ]
