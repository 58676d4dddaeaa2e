-- What a server offers: procedures, and how their handles are spelled.
use Rattle.std.specs.Prelude.{ℕ, Bool}
use Rattle.nfs_values.specs.ProcedureSet as procedures
use Rattle.nfs_values.specs.declared.procedure.Procedure.{Procedure}
use Rattle.rpc_msg.specs.declared.handle_form.HandleForm.{HandleForm}
use Rattle.rpc_msg.specs.declared.handle_form.HandleForm.TheVariants.{Plain, OfRun}
use Rattle.rpc_msg.specs.declared.offer.Offer.{Offer}

-- how handles are spelled
abbrev pub form_of : Offer → HandleForm
form_of offer = offer.handles

-- whether an offer has a procedure
abbrev pub offers : Offer → Procedure → Bool
offers offer procedure = procedures.offers offer.procedures procedure

-- whether it has one of a program
abbrev pub offers_program : Offer → ℕ → Bool
offers_program offer program = procedures.offers_program offer.procedures program

-- the offer of `replay` and `serve`
abbrev pub basic : Offer
basic = record { procedures = procedures.basic; handles = Plain }

-- the offer of a server that clients mount, in the run of this number: every procedure, and handles of the run
abbrev pub export : ℕ → Offer
export run = record { procedures = procedures.export; handles = OfRun run }
