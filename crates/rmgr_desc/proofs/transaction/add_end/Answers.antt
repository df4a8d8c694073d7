use Rattle.std.proofs.lemmas.Result.{IfOk-weaker}
use Rattle.rmgr_desc.specs.Transaction.{end_text}
use Rattle.rmgr_desc.proofs.ListLemmas.{added_in_turn, added_whole}
use Rattle.rmgr_desc.proofs.transaction.add_end.Goals as goal

pub returns : goal.returns
returns c =
    IfOk-weaker c.add_listed_rels.result _ _
    (λ done written. added_whole end_text _ c.in-Some.end _ _ c.in-Some.ensures
    (added_in_turn _ _ _ _ _ _ _ c.in_ok-add_time.ensures c.in_ok-add_listed_numbers.ensures written))
    c.add_listed_rels.ensures
