-- A name's bytes: few in place, or more in a list.
use Rattle.std.specs.Prelude.{ℕ, List}
use Rattle.nfs_values.specs.declared.name.NameBytes.{NameBytes}
use Rattle.nfs_values.specs.declared.name.NameBytes.TheVariants.{Short, Long}

abbrev pub name_bytes : NameBytes → List ℕ
name_bytes (Short bytes) = bytes
name_bytes (Long bytes) = bytes.items
