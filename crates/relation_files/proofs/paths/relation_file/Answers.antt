use Rattle.std.proofs.Common.{◌≡◌, ◌∙◌, rules}
use Rattle.relation_files.specs.Paths.{relation_file}
use Rattle.relation_files.proofs.PathLemmas.{file-admitted, file-is, file-is_held, file-is_deeper}
use Rattle.relation_files.proofs.paths.relation_file.Goals as goal

pub below-requires : goal.below-requires
below-requires c =
    record { room = file-admitted c.args.root.now c.in_ok-folder.folder c.args.rel c.args.fork c.args.segment c.deref.result.now c.requires.room (search rules) (search rules) c.in_ok-folder.ensures.value (c.deref.ensures ∙ c.in_ok-name.ensures.ok) }

pub returns : goal.returns
returns c =
    let is : c.in_ok-path.path ≡ relation_file c.args.root.now c.args.rel c.args.fork c.args.segment =
    file-is c.args.root.now c.in_ok-folder.folder c.in_ok-path.path c.args.rel c.args.fork c.args.segment c.deref.result.now (search rules) (search rules) c.in_ok-folder.ensures.value (c.deref.ensures ∙ c.in_ok-name.ensures.ok) c.in_ok-path.ensures in
    record {
      value = is;
      held = file-is_held c.args.root.now c.in_ok-path.path c.args.rel c.args.fork c.args.segment is;
      deeper = file-is_deeper c.args.root.now c.in_ok-path.path c.args.rel c.args.fork c.args.segment is;
    }
