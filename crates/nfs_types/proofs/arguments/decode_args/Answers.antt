use Rattle.std.proofs.Common.{refl, subst}
use Rattle.nfs_values.specs.Call.{call_of}
use Rattle.nfs_types.specs.Arguments.{Makes, asked, takes_memory}
use Rattle.nfs_types.specs.lemmas.Numbered.{one_numbered}
use Rattle.nfs_types.proofs.arguments.decode_args.Goals as goal

pub returns-in-Some-clause-known : goal.returns-in-Some-clause-known
returns-in-Some-clause-known c = λ known is.
    subst (λ p. Makes call_of (takes_memory p) c.decode_call.result (asked p c.args.bytes.now))
    (one_numbered c.in-Some.known known _ c.in-Some.ensures.found is) c.decode_call.ensures

pub returns-in-Some-clause-unknown : goal.returns-in-Some-clause-unknown
returns-in-Some-clause-unknown c = λ none. absurd (none c.in-Some.known c.in-Some.ensures.found)

pub returns-in-None-clause-known : goal.returns-in-None-clause-known
returns-in-None-clause-known c = λ known is. absurd (c.in-None.ensures.none refl known is)
