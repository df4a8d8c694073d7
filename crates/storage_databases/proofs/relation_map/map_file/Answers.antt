use Rattle.storage_databases.proofs.PathLemmas.{map-room}
use Rattle.storage_databases.proofs.relation_map.map_file.Goals as goal

pub below-requires : goal.below-requires
below-requires c = record { room = map-room c.args.root.now c.in_ok-folder.folder c.args.database c.requires.room c.in_ok-folder.ensures.value }
