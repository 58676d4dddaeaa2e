use Rattle.std.proofs.Common.{◌≡◌, ◌+◌, ◌<◌, ◌≤◌, ◌∙◌, ℕ, true, ap, sym, subst, arith}
use Rattle.parcels.specs.Filled.{is_filled}
use Rattle.std.specs.Prelude.{is_some, slice_get}
use Rattle.std.specs.FinMap.{len}
use Rattle.nfs_model.specs.volume.Inodes.{inode_of, inodes_of_a_volume}
use Rattle.nfs_values.specs.Ownership.{ownership_of}
use Rattle.inodes.specs.Inode.{inode_value}
use Rattle.service_names.specs.Cards.{InFirst, IsDropped}
use Rattle.service_names.specs.Changing.{text_given}
use Rattle.service_names.specs.Making.{node_unmade}
use Rattle.service_names.proofs.Unmade.{was-last, was-made, all-back, places-alike, all-made}
use Rattle.service_names.proofs.making.make_node.Goals as goal

pub create_inode-requires-clause-room : goal.create_inode-requires-clause-room
create_inode-requires-clause-room c =
    let room : len c.args.held.now.own.inodes.inodes < c.args.held.now.own.most_inodes = c.requires.may.room in
    let most : c.args.held.now.own.most_inodes ≤ inodes_of_a_volume = c.requires.may.most in
    omega (arith, room, most)

pub unmake-requires-clause-last : goal.unmake-requires-clause-last
unmake-requires-clause-last c =
    was-last c.args.parent c.args.name.now c.args.held.now c.requires.may (inode_value c.args.made) (text_given c.args.text.now) c.fileid-fileid.result.0
    (c.fileid-fileid.ensures ∙ c.in_ok-created.ensures.fileid) c.create_inode.new.held c.tie.new.held c.in_ok-created.ensures.ok
    c.create_inode.ensures.stripes c.tie.ensures.others c.in-Err.ensures.err
    ∙ ap (λ (q : ℕ). q + 1) c.fileid-fileid.ensures

pub unmake-requires-clause-made : goal.unmake-requires-clause-made
unmake-requires-clause-made c =
    subst (λ (q : ℕ). is_some (inode_of c.tie.new.held.own.inodes q) ≡ true) c.fileid-fileid.ensures
    (was-made c.args.parent c.args.name.now c.args.held.now c.requires.may (inode_value c.args.made) (text_given c.args.text.now) c.fileid-fileid.result.0
    (c.fileid-fileid.ensures ∙ c.in_ok-created.ensures.fileid) c.create_inode.new.held c.tie.new.held c.in_ok-created.ensures.ok
    c.create_inode.ensures.stripes c.tie.ensures.others c.in-Err.ensures.err)

pub returns-in-Ok-clause-ok : goal.returns-in-Ok-clause-ok
returns-in-Ok-clause-ok c =
    all-made c.args.parent c.args.name.now c.args.held.now c.requires.may (inode_value c.args.made) (text_given c.args.text.now) c.fileid-fileid.result.0
    (c.fileid-fileid.ensures ∙ c.in_ok-created.ensures.fileid) c.create_inode.new.held c.tie.new.held c.in_ok-created.ensures.ok
    c.create_inode.ensures.stripes c.tie.ensures.others
    c.set_directory.new.held c.set_directory.ensures.stripes c.in_ok-name.name c.in_ok-name.ensures.name c.in_ok-text.text c.in_ok-text.ensures
    c.in-Ok.ensures.own (ownership_of c.ownership-owner.result) c.ownership-owner.ensures c.in-Ok.ensures.cards c.set_directory.ensures.own

pub returns-in-Ok-clause-alike : goal.returns-in-Ok-clause-alike
returns-in-Ok-clause-alike c =
    places-alike c.args.parent c.args.name.now c.args.held.now c.requires.may (inode_value c.args.made) (text_given c.args.text.now) c.fileid-fileid.result.0
    (c.fileid-fileid.ensures ∙ c.in_ok-created.ensures.fileid) c.create_inode.new.held c.tie.new.held c.in_ok-created.ensures.ok
    c.create_inode.ensures.stripes c.tie.ensures.others
    c.set_directory.new.held c.set_directory.ensures.stripes

pub returns-in-Err-clause-err : goal.returns-in-Err-clause-err
returns-in-Err-clause-err c =
    all-back c.args.parent c.args.name.now c.args.held.now c.requires.may (inode_value c.args.made) (text_given c.args.text.now) c.fileid-fileid.result.0
    (c.fileid-fileid.ensures ∙ c.in_ok-created.ensures.fileid) c.create_inode.new.held c.tie.new.held c.in_ok-created.ensures.ok
    c.create_inode.ensures.stripes c.tie.ensures.others
    c.in-Err.ensures.err c.unmake.new.held (c.unmake.ensures.own ∙ ap (λ (q : ℕ). node_unmade q c.tie.new.held.own) (sym c.fileid-fileid.ensures))
    (subst (λ (q : ℕ). InFirst (IsDropped q) c.tie.new.held.own.stripes c.tie.new.held.stripes.at c.unmake.new.held.stripes.at)
    (sym c.fileid-fileid.ensures) c.unmake.ensures.cards)

pub returns-in-Err-clause-alike : goal.returns-in-Err-clause-alike
returns-in-Err-clause-alike c i = ap (λ h. is_filled (slice_get h.stripes.at i)) (sym (returns-in-Err-clause-err c))
