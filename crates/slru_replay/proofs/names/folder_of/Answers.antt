use Rattle.slru_replay.proofs.names.folder_of.Goals as goal

pub returns-in-Offsets : goal.returns-in-Offsets
returns-in-Offsets c = record { value = rw c.in-Offsets.is c.below-in-Offsets.ensures }

pub returns-in-Members : goal.returns-in-Members
returns-in-Members c = record { value = rw c.in-Members.is c.below-in-Members.ensures }
