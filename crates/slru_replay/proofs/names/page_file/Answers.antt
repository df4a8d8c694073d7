use Rattle.std.proofs.Common.{◌≡◌, ◌∙◌, rules}
use Rattle.slru_replay.specs.Area.{page_file}
use Rattle.slru_replay.proofs.NameLemmas.{file-admitted, file-is, file-is_held, file-is_deeper}
use Rattle.slru_replay.proofs.names.page_file.Goals as goal

pub below-requires : goal.below-requires
below-requires c =
    record { room = file-admitted c.args.root.now c.in_ok-folder.folder c.args.area c.args.page c.deref.result.now c.requires.room c.in_ok-folder.ensures.value (search rules) (c.deref.ensures ∙ c.in_ok-name.ensures) }

pub returns : goal.returns
returns c =
    let is : c.in_ok-path.path ≡ page_file c.args.root.now c.args.area c.args.page =
    file-is c.args.root.now c.in_ok-folder.folder c.in_ok-path.path c.args.area c.args.page c.deref.result.now c.in_ok-folder.ensures.value (search rules) (c.deref.ensures ∙ c.in_ok-name.ensures) c.in_ok-path.ensures in
    record {
      value = is;
      held = file-is_held c.args.root.now c.in_ok-path.path c.args.area c.args.page is;
      deeper = file-is_deeper c.args.root.now c.in_ok-path.path c.args.area c.args.page is;
    }
