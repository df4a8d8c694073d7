use Rattle.std.proofs.Common.{◌≡◌, ◌∙◌, true, rules}
use Rattle.slru_replay.specs.Cutting.{is_file_name}
use Rattle.slru_replay.proofs.NumberLemmas.{number_read}
use Rattle.slru_replay.proofs.names.file_number.Goals as goal

pub returns : goal.returns
returns c =
    let yes : is_file_name c.args.name.now ≡ true = search rules in
    c.ok.ensures.value ∙ number_read c.args.name.now c.from_str_radix.result yes c.from_str_radix.ensures.value
