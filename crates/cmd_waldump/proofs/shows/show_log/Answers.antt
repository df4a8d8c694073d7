use Rattle.std.proofs.Common.{◌∙◌, [], ap, refl, sym}
use Rattle.cluster_tree.specs.Contents.{Contents}
use Rattle.log_folder.specs.Found.{found_in}
use Rattle.rmgr_hooks.specs.Custom.{handed_in}
use Rattle.run_acts.proofs.AnswerSteps.{carries_as, carries_look}
use Rattle.cmd_waldump.specs.Waldump.{found_answer, log_answer}
use Rattle.cmd_waldump.proofs.DumpLemmas.{folder_passes}
use Rattle.cmd_waldump.proofs.FormLemmas.{found-form, found-looks}
use Rattle.cmd_waldump.proofs.shows.show_log.Goals as goal

pub returns-in-Ok-clause-carries : goal.returns-in-Ok-clause-carries
returns-in-Ok-clause-carries g c err_tells err =
    let old = g.F.Tree.contents c.args.tree.now in
    let custom = handed_in g.M.Manager c.args.custom in
    carries_as (λ t. t) (λ t. ap (λ (x : Contents). log_answer custom x c.in-Ok.found) c.find_log.ensures.reads.same ∙ sym (ap (found_answer custom old) (c.in-Ok.ensures.exact t)))
    c.find_log.ensures.reads.same c.find_log.ensures.reads.uncalled (c.show_found.ensures.carries err_tells err)

pub returns-in-Err-clause-carries : goal.returns-in-Err-clause-carries
returns-in-Err-clause-carries g c err_tells err =
    let old = g.F.Tree.contents c.args.tree.now in
    let custom = handed_in g.M.Manager c.args.custom in
    let found = found_in old c.args.words.now in
    carries_look c.folder_cause.result (found-form custom old found) (found-looks custom old found) ([], refl) c.folder_cause.ensures.look
    (λ t. folder_passes custom c.folder_cause.result c.in-Err.fault old found c.folder_cause.ensures.value (c.in-Err.ensures.exact t))
    c.find_log.ensures.reads.same c.find_log.ensures.reads.uncalled
