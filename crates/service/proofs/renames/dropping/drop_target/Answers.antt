use Rattle.std.proofs.Common.{sym, ap, ◌∙◌, []}
use Rattle.std.specs.Option.{option_map}
use Rattle.inodes.specs.Inode.{kind_value}
use Rattle.filer_state.specs.state.Sets.{logical_before}
use Rattle.service_names.specs.Naming.{node_value}
use Rattle.service.specs.renames.Moving.{target_out}
use Rattle.service.proofs.renames.Emptied.{out-name, out-file, out-directory, out-special}
use Rattle.service.proofs.renames.dropping.drop_target.Goals as goal

pub returns-then-target-gt1-clause-set : goal.returns-then-target-gt1-clause-set
returns-then-target-gt1-clause-set c =
    let s = logical_before c.args.held.now in
    c.drop_name.ensures.set c.args.between.volume.0 []
    ∙ out-name c.args.between (node_value c.in-Some.target) s c.if-target-gt1.true
    ∙ ap (λ o. target_out c.args.between (option_map node_value o) s) (sym c.in-Some.is)

pub returns-in-RegularFile-clause-set : goal.returns-in-RegularFile-clause-set
returns-in-RegularFile-clause-set c =
    let s = logical_before c.args.held.now in
    c.drop_file.ensures.set c.args.between.volume.0 []
    ∙ out-file c.args.between (node_value c.in-Some.target) s c.if-target-gt1.false _ _ _ (ap kind_value c.in-RegularFile.is)
    ∙ ap (λ o. target_out c.args.between (option_map node_value o) s) (sym c.in-Some.is)

pub returns-in-Directory-clause-set : goal.returns-in-Directory-clause-set
returns-in-Directory-clause-set c =
    let s = logical_before c.args.held.now in
    c.drop_node.ensures.set c.args.between.volume.0 []
    ∙ out-directory c.args.between (node_value c.in-Some.target) s c.if-target-gt1.false _ _ (ap kind_value c.in-Directory.is)
    ∙ ap (λ o. target_out c.args.between (option_map node_value o) s) (sym c.in-Some.is)

pub returns-in-Special-clause-set : goal.returns-in-Special-clause-set
returns-in-Special-clause-set c =
    let s = logical_before c.args.held.now in
    c.drop_node-in-Special.ensures.set c.args.between.volume.0 []
    ∙ out-special c.args.between (node_value c.in-Some.target) s c.if-target-gt1.false _ _ (ap kind_value c.in-Special.is)
    ∙ ap (λ o. target_out c.args.between (option_map node_value o) s) (sym c.in-Some.is)
