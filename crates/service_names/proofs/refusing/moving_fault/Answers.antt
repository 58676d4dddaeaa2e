use Rattle.std.proofs.Common.{sym, ◌∙◌}
use Rattle.std.specs.Prelude.{◌==◌}
use Rattle.nfs_values.specs.Credential.{credential_of}
use Rattle.rights.specs.Protection.{protection_of}
use Rattle.service_names.proofs.Refused.{settled-unless}
use Rattle.service_names.proofs.refusing.moving_fault.Goals as goal

pub returns-then-is_settled : goal.returns-then-is_settled
returns-then-is_settled c =
    sym (settled-unless (credential_of c.args.who.now) (c.args.from.0 == c.args.to.0) (protection_of c.args.source.now) (protection_of c.args.target.now)
    (sym c.is_settled.ensures ∙ c.if-is_settled.true) _ _ _)
