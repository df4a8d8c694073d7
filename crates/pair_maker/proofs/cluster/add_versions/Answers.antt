use Rattle.std.proofs.Common.{codes}
use Rattle.pair_maker.specs.Files.{version_bytes}
use Rattle.pair_maker.proofs.EntryLemmas.{adds-last, file-as, file-last}
use Rattle.pair_maker.proofs.cluster.add_versions.Goals as goal

pub returns : goal.returns
returns c =
    adds-last c.args.root.now _ c.add_file.new.entries.items _ _ _ c.add_file-2.result
    (file-as c.args.root.now _ _ (codes "PG_VERSION") c.in_ok-version.version.items version_bytes c.in_ok-version.ensures c.in_ok-add_file.ensures)
    (file-last c.args.root.now _ _ (codes "base/5/PG_VERSION") c.in_ok-version-2.version.items version_bytes c.add_file-2.result c.in_ok-version-2.ensures c.add_file-2.ensures)
