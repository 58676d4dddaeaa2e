-- The procedures, and what each comes to (RFC 1833 sections 2.1, 2.2.1, 3.1 and 3.2).
use Rattle.std.specs.Prelude.{ℕ, ◌-◌, ◌^◌, List, ◌==◌, ◌||◌, nat_lt, Option, Some, None, Result, Ok, Err, if◌then◌else◌}
use Rattle.std.specs.declared.net.ip_addr.IpAddr.{IpAddr}
use Rattle.xdr.specs.declared.fault.Fault.{Fault}
use Rattle.xdr.specs.Shape.{Shape, Void, Word, Opaque, Value}
use Rattle.xdr.specs.Reading.{all_of}
use Rattle.port_mapper.specs.declared.registration.Registration.{Registration}
use Rattle.port_mapper.specs.declared.procedure.Procedure.{Procedure}
use Rattle.port_mapper.specs.declared.procedure.Procedure.TheVariants as procedures
use Rattle.port_mapper.specs.declared.outcome.Results.{Results}
use Rattle.port_mapper.specs.declared.outcome.Results.TheVariants as results
use Rattle.port_mapper.specs.declared.outcome.Outcome.{Outcome}
use Rattle.port_mapper.specs.declared.outcome.Outcome.TheVariants as outcomes
use Rattle.port_mapper.specs.declared.asking.Mapping.{Mapping}
use Rattle.port_mapper.specs.declared.asking.Binding.{Binding}
use Rattle.port_mapper.specs.Registered.{port_of}
use Rattle.port_mapper.specs.Addresses.{bound_port}
use Rattle.port_mapper.specs.Calls.{◌&◌, Call}

-- mapping (section 3.1): prog, vers, prot and port
abbrev pub mapping_shape : Shape
mapping_shape = Word & Word & Word & Word

-- string<>, of any length
abbrev pub string_shape : Shape
string_shape = Opaque (2 ^ 32 - 1)

-- rpcb (section 2.1): r_prog, r_vers, r_netid, r_addr and r_owner
abbrev pub binding_shape : Shape
binding_shape = Word & Word & string_shape & string_shape & string_shape

-- version 2 (section 3.1): NULL 0, SET 1, UNSET 2, GETPORT 3 and DUMP 4. CALLIT 5 isn't offered.
abbrev pub mapping_procedure : ℕ → Option Procedure
mapping_procedure number =
    if number == 0 then Some procedures.Null
    else if (number == 1) || (number == 2) then Some procedures.SetMapping
    else if number == 3 then Some procedures.GetPort
    else if number == 4 then Some procedures.DumpMappings
    else None

-- versions 3 and 4 (section 2.1): NULL 0, SET 1, UNSET 2, GETADDR 3 and DUMP 4. No others are offered.
abbrev pub binding_procedure : ℕ → Option Procedure
binding_procedure number =
    if number == 0 then Some procedures.Null
    else if (number == 1) || (number == 2) then Some procedures.SetBinding
    else if number == 3 then Some procedures.GetAddress
    else if number == 4 then Some procedures.DumpBindings
    else None

abbrev pub procedure_of : ℕ → ℕ → Option Procedure
procedure_of version number = if version == 2 then mapping_procedure number else binding_procedure number

-- what arguments that were read come to
abbrev pub with_arguments : {A : Type 0} → (A → Results) → Result A Fault → Result Results Fault
with_arguments come_to (Ok v) = Ok (come_to v)
with_arguments come_to (Err fault) = Err fault

-- What a procedure comes to by the bytes of its arguments, all of them. SET and UNSET change nothing, and say so by FALSE. GETPORT looks
-- at prog, vers and prot, GETADDR at r_prog, r_vers and r_netid.
abbrev pub results_of : List Registration → IpAddr → Procedure → List ℕ → Result Results Fault
results_of registered reached procedures.Null bytes = with_arguments (λ _. results.Nothing) (all_of Void bytes)
results_of registered reached procedures.SetMapping bytes = with_arguments (λ _. results.Unchanged) (all_of mapping_shape bytes)
results_of registered reached procedures.GetPort bytes =
    with_arguments (λ m. results.Port (port_of registered m.0 m.1.0 m.1.1.0)) (all_of mapping_shape bytes)
results_of registered reached procedures.DumpMappings bytes = with_arguments (λ _. results.Mappings) (all_of Void bytes)
results_of registered reached procedures.SetBinding bytes = with_arguments (λ _. results.Unchanged) (all_of binding_shape bytes)
results_of registered reached procedures.GetAddress bytes =
    with_arguments (λ b. results.Address (bound_port registered reached b.0 b.1.0 b.1.1.0)) (all_of binding_shape bytes)
results_of registered reached procedures.DumpBindings bytes = with_arguments (λ _. results.Bindings) (all_of Void bytes)

-- SUCCESS, or GARBAGE_ARGS (RFC 5531 section 9)
abbrev pub done : Result Results Fault → Outcome
done (Ok r) = outcomes.Done r
done (Err fault) = outcomes.GarbageArguments

-- PROC_UNAVAIL where the procedure isn't offered
abbrev pub outcome_by : List Registration → IpAddr → Option Procedure → List ℕ → Outcome
outcome_by registered reached (Some procedure) bytes = done (results_of registered reached procedure bytes)
outcome_by registered reached None bytes = outcomes.ProcedureUnavailable

-- PROG_UNAVAIL of another program than 100000, and PROG_MISMATCH of another version than 2, 3 and 4
abbrev pub outcome_of : List Registration → IpAddr → Call → Outcome
outcome_of registered reached call =
    if call.program == 100000
    then (
    if nat_lt call.version 2 || nat_lt 4 call.version then outcomes.ProgramMismatch
    else outcome_by registered reached (procedure_of call.version call.procedure) call.arguments)
    else outcomes.ProgramUnavailable

-- ---- what the code's values are

abbrev pub mapping_value : Mapping → Value mapping_shape
mapping_value m = (m.program, (m.version, (m.protocol, m.port)))

abbrev pub binding_value : Binding → Value binding_shape
binding_value b = (b.program, (b.version, (b.netid.now, (b.address.now, b.owner.now))))
