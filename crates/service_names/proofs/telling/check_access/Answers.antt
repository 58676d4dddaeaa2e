use Rattle.std.proofs.Common.{sym, ap, ◌∙◌, refl}
use Rattle.nfs_model.specs.volume.Inodes.{inode_of}
use Rattle.nfs_model.specs.volume.Logical.{LogicalValue}
use Rattle.nfs_values.specs.Caller.{caller_of}
use Rattle.nfs_values.specs.declared.status.Status.TheVariants.{Stale}
use Rattle.inodes.specs.Inode.{inode_value}
use Rattle.filer_state.specs.state.Sets.{logical_before}
use Rattle.service_names.specs.lemmas.Whole.{whole-links}
use Rattle.service_names.proofs.Objects.{access-of, no-access, access-shown, object-there, none-there}
use Rattle.service_names.proofs.telling.check_access.Goals as goal

pub shown_now-object-requires-clause-links : goal.shown_now-object-requires-clause-links
shown_now-object-requires-clause-links c =
    whole-links c.args.volume.0 (logical_before c.args.held.now) c.requires.whole c.args.fileid.0 (inode_value c.in-Some.inode)
    (ap (λ (l : LogicalValue). inode_of l.inodes c.args.fileid.0) (sym c.get.ensures) ∙ sym c.in-Some.ensures)

pub returns-in-Some : goal.returns-in-Some
returns-in-Some c =
    let v = c.args.volume.0 in
    let fileid = c.args.fileid.0 in
    let set = logical_before c.args.held.now in
    let caller = caller_of c.args.caller.now in
    let inode = inode_value c.in-Some.inode in
    let there = ap (λ (l : LogicalValue). inode_of l.inodes fileid) (sym c.get.ensures) ∙ sym c.in-Some.ensures in
    record {
      right =
          access-of v fileid set c.shown_now-object.result (object-there v fileid set inode there c.shown_now-object.result c.shown_now-object.ensures)
          c.args.asked c.access_given-given.result caller
          (access-shown v fileid caller c.args.asked inode _ c.shown_now-object.result c.shown_now-object.ensures c.protection_of.result
          c.protection_of.ensures c.access_given-given.result c.access_given-given.ensures);
    }

pub returns-in-None : goal.returns-in-None
returns-in-None c =
    let fileid = c.args.fileid.0 in
    let set = logical_before c.args.held.now in
    let there = ap (λ (l : LogicalValue). inode_of l.inodes fileid) (sym c.get.ensures) ∙ sym c.in-None.ensures in
    record {
      right = no-access c.args.volume.0 fileid set (none-there c.args.volume.0 fileid set there) Stale refl c.args.asked (caller_of c.args.caller.now);
    }
