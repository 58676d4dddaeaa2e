use Rattle.std.proofs.Common.{◌≡◌, ap, false, arith, Option}
use Rattle.std.specs.Prelude.{nat_le}
use Rattle.std.proofs.lemmas.Bool.Decides.{nat_tests}
use Rattle.nfs_model.specs.Types.{Status}
use Rattle.nfs_model.specs.Serial.Links.{most_links}
use Rattle.filer_state.specs.changes.Linking.{held_linked}
use Rattle.filer_state.specs.changes.Named.{unless_fault}
use Rattle.filer_state.specs.state.Sets.{logical_before}
use Rattle.service_names.specs.Making.{naming_in_parent}
use Rattle.service_names.specs.Naming.{node_value}
use Rattle.service_names.proofs.Linked.{few-enough}
use Rattle.service_names.proofs.Tying.{on-err}
use Rattle.service_names.proofs.linking.link_new.Goals as goal

pub returns-in_err-told-clause-would : goal.returns-in_err-told-clause-would
returns-in_err-told-clause-would c =
    let s = logical_before c.args.held.now in
    let n = naming_in_parent c.args.parent c.args.name.now s in
    let few : nat_le most_links c.args.object.inode.names ≡ false = grind (arith, nat_tests, c.if-object-ge-MOST_LINKS.false) in
    on-err c.from_residual.result
    (_, _, ap (λ (o : Option Status). (unless_fault o s (held_linked n (node_value c.args.object))).answer) (few-enough c.args.object.inode.names few))
