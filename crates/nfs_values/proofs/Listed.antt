-- What the two offers have, by program and number.
use Rattle.std.proofs.Common.{◌≡◌, refl}
use Rattle.nfs_values.specs.declared.procedure.Procedure.{Procedure}
use Rattle.nfs_values.specs.declared.procedure.Procedure.TheVariants.{Null}
use Rattle.nfs_values.specs.Procedure.{numbers_of}
use Rattle.nfs_values.specs.ProcedureSet.{basic, export, offers, basic_numbers, export_numbers, is_among}

pub basic-listed : (p : Procedure) → offers basic p ≡ is_among basic_numbers (numbers_of p)
basic-listed Null = refl
basic-listed p = refl

pub export-listed : (p : Procedure) → offers export p ≡ is_among export_numbers (numbers_of p)
export-listed Null = refl
export-listed p = refl
