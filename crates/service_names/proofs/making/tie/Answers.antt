use Rattle.std.proofs.Common.{◌≡◌, ◌<◌, ◌^◌, None, ap, ◌∙◌}
use Rattle.inodes.specs.Inode.{kind_value}
use Rattle.nfs_model.specs.volume.Directories.{DirectoryValue, found}
use Rattle.service_names.specs.Making.{without_parts}
use Rattle.service_names.proofs.Tying.{on-err, on-err-then, directory-kept, without-first, without-kept}
use Rattle.service_names.proofs.making.tie.Goals as goal

pub returns-in_err-put_text-clause-err : goal.returns-in_err-put_text-clause-err
returns-in_err-put_text-clause-err c =
    on-err c.from_residual-in_err-put_text.result
    (ap (without_parts c.args.fileid.0) c.in_err-put_text.ensures.err
    ∙ without-first (kind_value c.args.kind) c.args.text c.args.fileid.0 c.args.held.now.own c.put_directory.new.held.own
    c.in_ok-put_directory.ensures.ok)

pub returns-in_err-put_cards-clause-err : goal.returns-in_err-put_cards-clause-err
returns-in_err-put_cards-clause-err c =
    on-err c.from_residual-in_err-put_cards.result
    (without-kept (kind_value c.args.kind) c.args.text c.args.fileid.0 c.args.held.now.own c.put_directory.new.held.own c.put_text.new.held.own
    c.put_cards.new.held.own c.in_ok-put_directory.ensures.ok c.in_ok-put_text.ensures.ok c.put_cards.ensures.own)

pub add_entry-requires-clause-cookies : goal.add_entry-requires-clause-cookies
add_entry-requires-clause-cookies c =
    directory-kept (kind_value c.args.kind) c.args.text c.args.fileid.0 c.args.held.now.own c.put_directory.new.held.own c.put_text.new.held.own
    c.put_cards.new.held.own c.in_ok-put_directory.ensures.ok c.in_ok-put_text.ensures.ok c.put_cards.ensures.own
    (λ (d : DirectoryValue). d.next < 2 ^ 63) c.args.directory.0 c.requires.apart c.requires.cookies

pub add_entry-requires-clause-absent : goal.add_entry-requires-clause-absent
add_entry-requires-clause-absent c =
    directory-kept (kind_value c.args.kind) c.args.text c.args.fileid.0 c.args.held.now.own c.put_directory.new.held.own c.put_text.new.held.own
    c.put_cards.new.held.own c.in_ok-put_directory.ensures.ok c.in_ok-put_text.ensures.ok c.put_cards.ensures.own
    (λ (d : DirectoryValue). found d c.args.name ≡ None) c.args.directory.0 c.requires.apart c.requires.absent

pub returns-clause-err : goal.returns-clause-err
returns-clause-err c =
    on-err-then c.add_entry.result
    (λ e. ap (without_parts c.args.fileid.0) e
    ∙ without-kept (kind_value c.args.kind) c.args.text c.args.fileid.0 c.args.held.now.own c.put_directory.new.held.own c.put_text.new.held.own
    c.put_cards.new.held.own c.in_ok-put_directory.ensures.ok c.in_ok-put_text.ensures.ok c.put_cards.ensures.own) c.add_entry.ensures.err
