use Rattle.std.proofs.Common.{sym, ap, ◌∙◌, Ok, Err, Some, None}
use Rattle.nfs_model.specs.Types.{LookupDone}
use Rattle.nfs_values.specs.Status.{status_of}
use Rattle.nfs_values.specs.declared.status.Status.TheVariants.{NoEntry}
use Rattle.nfs_model.specs.volume.Inodes.{inode_of}
use Rattle.nfs_model.specs.volume.Logical.{LogicalValue}
use Rattle.inodes.specs.Inode.{inode_value}
use Rattle.filer_state.specs.state.Sets.{logical_before}
use Rattle.service_names.specs.lemmas.Whole.{whole-links}
use Rattle.service_names.proofs.Named.{looks-up, told_in, bad-name, no-entry, entry, handed_on}
use Rattle.service_names.proofs.looking.lookup.Goals as goal

pub returns-in_err-inode : goal.returns-in_err-inode
returns-in_err-inode c =
    let v = c.args.volume.0 in
    let fileid = c.args.directory.0 in
    let name = c.args.name.now in
    let set = logical_before c.args.held.now in
    record {
      right = looks-up v fileid name set c.from_residual.result
          (handed_on c.from_residual.result c.in_err-inode.field-0.0 c.from_residual.ensures.0 c.from_residual.ensures.1
          ∙ sym (c.in_err-inode.ensures.told (told_in v fileid name set)));
    }

pub returns-in-Some : goal.returns-in-Some
returns-in-Some c =
    let v = c.args.volume.0 in
    let fileid = c.args.directory.0 in
    let name = c.args.name.now in
    let set = logical_before c.args.held.now in
    let as_directory = c.in_ok-inode.ensures.told (told_in v fileid name set) in
    record {
      right = looks-up v fileid name set (Err c.in-Some.fault)
          (sym (bad-name v fileid name set (inode_value c.in_ok-inode.inode) c.in_ok-inode.parent.0 as_directory
          (status_of c.in-Some.fault) (sym c.in-Some.ensures)));
    }

pub returns-in-None : goal.returns-in-None
returns-in-None c =
    let v = c.args.volume.0 in
    let fileid = c.args.directory.0 in
    let name = c.args.name.now in
    let set = logical_before c.args.held.now in
    let as_directory = c.in_ok-inode.ensures.told (told_in v fileid name set) in
    record {
      right = looks-up v fileid name set (Err NoEntry)
          (sym (no-entry v fileid name set (inode_value c.in_ok-inode.inode) c.in_ok-inode.parent.0 as_directory (sym c.in_default.ensures)
          (sym c.in-None.ensures)));
    }

pub returns-in-None-get : goal.returns-in-None-get
returns-in-None-get c =
    let v = c.args.volume.0 in
    let fileid = c.args.directory.0 in
    let name = c.args.name.now in
    let set = logical_before c.args.held.now in
    let as_directory = c.in_ok-inode.ensures.told (told_in v fileid name set) in
    let there = sym (c.in-None-get.ensures ∙ ap (λ (l : LogicalValue). inode_of l.inodes c.in-Some-fileid_named.fileid.0) c.get.ensures) in
    record {
      right = looks-up v fileid name set (Err NoEntry)
          (sym (entry v fileid name set (inode_value c.in_ok-inode.inode) c.in_ok-inode.parent.0 as_directory (sym c.in_default.ensures)
          c.in-Some-fileid_named.fileid.0 (sym c.in-Some-fileid_named.ensures) None there));
    }

pub shown_now-requires-clause-links : goal.shown_now-requires-clause-links
shown_now-requires-clause-links c =
    whole-links c.args.volume.0 (logical_before c.args.held.now) c.requires.whole c.in-Some-fileid_named.fileid.0 (inode_value c.in-Some-get.object)
    (sym (c.in-Some-get.ensures ∙ ap (λ (l : LogicalValue). inode_of l.inodes c.in-Some-fileid_named.fileid.0) c.get.ensures))

pub shown-requires : goal.shown-requires
shown-requires c = record {
  few = whole-links c.args.volume.0 (logical_before c.args.held.now) c.requires.whole c.args.directory.0 (inode_value c.in_ok-inode.inode)
      c.in_ok-inode.ensures.there;
}

pub returns : goal.returns
returns c =
    let v = c.args.volume.0 in
    let fileid = c.args.directory.0 in
    let name = c.args.name.now in
    let set = logical_before c.args.held.now in
    let as_directory = c.in_ok-inode.ensures.told (told_in v fileid name set) in
    let q = c.in-Some-fileid_named.fileid.0 in
    let there = sym (c.in-Some-get.ensures ∙ ap (λ (l : LogicalValue). inode_of l.inodes q) c.get.ensures) in
    record {
      right = looks-up v fileid name set (Ok (record { handle = c.naming.result; object = c.shown_now.result; directory = c.shown.result }))
          ((λ j. LookupDone (c.naming.ensures j) (c.shown_now.ensures j) (c.shown.ensures j))
          ∙ sym (entry v fileid name set (inode_value c.in_ok-inode.inode) c.in_ok-inode.parent.0 as_directory (sym c.in_default.ensures) q
          (sym c.in-Some-fileid_named.ensures) (Some (inode_value c.in-Some-get.object)) there));
    }
