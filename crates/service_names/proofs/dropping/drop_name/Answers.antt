use Rattle.std.proofs.Common.{◌≡◌, ap, sym, ◌∙◌, arith, true, false}
use Rattle.std.specs.Prelude.{nat_le}
use Rattle.std.proofs.lemmas.Bool.Decides.{nat_tests}
use Rattle.nfs_values.specs.Moment.{moment_of}
use Rattle.filer_state.specs.state.Changes.{LogicalAnswer}
use Rattle.filer_state.specs.state.Sets.{logical_before}
use Rattle.service_names.specs.Naming.{node_value, naming_of}
use Rattle.service_names.proofs.NamesGone.{left-same, gone-more, gone-file, gone-bare}
use Rattle.service_names.proofs.dropping.drop_name.Goals as goal

pub returns-then-child-gt1-clause-set : goal.returns-then-child-gt1-clause-set
returns-then-child-gt1-clause-set c v =
    let n = naming_of v c.args.directory c.args.name.now (moment_of c.args.moment) (logical_before c.args.held.now) in
    let more : nat_le c.args.child.inode.names 1 ≡ false = grind (arith, nat_tests, c.if-child-gt1.true) in
    c.drop_one_name.ensures.set v ∙ sym (ap (λ (r : LogicalAnswer). r.set) (gone-more n (node_value c.args.child) more))

pub returns-then-is_file-clause-inode : goal.returns-then-is_file-clause-inode
returns-then-is_file-clause-inode c v =
    let n = naming_of v c.args.directory c.args.name.now (moment_of c.args.moment) (logical_before c.args.held.now) in
    c.drop_file.ensures.inode v ∙ left-same n (node_value c.args.child) (logical_before c.args.held.now)

pub returns-then-is_file-clause-set : goal.returns-then-is_file-clause-set
returns-then-is_file-clause-set c v =
    let n = naming_of v c.args.directory c.args.name.now (moment_of c.args.moment) (logical_before c.args.held.now) in
    let last : nat_le c.args.child.inode.names 1 ≡ true = grind (arith, nat_tests, c.if-child-gt1.false) in
    c.drop_file.ensures.set v
    ∙ sym (ap (λ (r : LogicalAnswer). r.set) (gone-file n (node_value c.args.child) last (sym c.is_file.ensures ∙ c.if-is_file.true)))

pub returns-clause-set : goal.returns-clause-set
returns-clause-set c v =
    let n = naming_of v c.args.directory c.args.name.now (moment_of c.args.moment) (logical_before c.args.held.now) in
    let last : nat_le c.args.child.inode.names 1 ≡ true = grind (arith, nat_tests, c.if-child-gt1.false) in
    c.drop_node.ensures.set v
    ∙ sym (ap (λ (r : LogicalAnswer). r.set) (gone-bare n (node_value c.args.child) last (sym c.is_file.ensures ∙ c.if-is_file.false)))
