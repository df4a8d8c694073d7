use Rattle.std.proofs.Common.{◌<◌, ◌^◌, ap, rules, subst, sym}
use Rattle.wal_records.specs.Cursor.{CursorView}
use Rattle.replay_core.proofs.StandLemmas.{place-low}
use Rattle.replay_core.proofs.running.go_back.Goals as goal

pub returns-clause-within : goal.returns-clause-within
returns-clause-within c =
    let low : c.args.at < 2 ^ 64 = search rules in
    subst (λ n. n < 2 ^ 64) (sym (ap (λ (v : CursorView). v.place) c.go_to.ensures.value)) (place-low _ c.args.at low)
