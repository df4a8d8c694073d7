use Rattle.storage_databases.proofs.PathLemmas.{version-room}
use Rattle.storage_databases.proofs.databases.version_file.Goals as goal

pub below-requires : goal.below-requires
below-requires c = record { room = version-room c.args.root.now c.in_ok-folder.folder c.args.database c.requires.room c.in_ok-folder.ensures.value }
