-- What the fields that were read name.
use Rattle.std.specs.Prelude.{List, [], ◌∷◌}
use Rattle.std.specs.List.{flat_map}
use Rattle.touched_blocks.specs.Named.{whole_rel}
use Rattle.touched_blocks.specs.declared.fields.Fields.{Fields}
use Rattle.touched_blocks.specs.declared.fields.Fields.TheVariants.{Nothing, One, Whole}
use Rattle.touched_blocks.specs.declared.named.Named.{Named}

abbrev pub names_of_fields : Fields → List Named
names_of_fields Nothing = []
names_of_fields (One named) = named ∷ []
names_of_fields (Whole rels) = flat_map whole_rel rels
