use Rattle.std.proofs.Common.{◌≡◌, ℕ, [], Option, Some, Result, Ok, Err, sym, ap, ◌∙◌, subst, false, List}
use Rattle.std.specs.FinMap.{get}
use Rattle.nfs_model.specs.Types.{SpecialType, Answer, Success, CommitDone, Failed, Invalid}
use Rattle.nfs_model.specs.Tree.{Logical}
use Rattle.nfs_model.specs.Shown.{before_of}
use Rattle.nfs_model.specs.volume.Inodes.{Inode, RegularFile, DirectoryKind, SpecialFile, inode_of}
use Rattle.nfs_model.specs.volume.Logical.{LogicalValue}
use Rattle.nfs_values.specs.Answer.{answer_of}
use Rattle.nfs_values.specs.declared.answer.Answer.TheVariants.{Commit}
use Rattle.nfs_values.specs.declared.answer.CommitResults.{CommitResults}
use Rattle.nfs_values.specs.declared.status.Status.{Status}
use Rattle.nfs_values.specs.declared.status.Status.TheVariants as statuses
use Rattle.inodes.specs.Inode.{inode_value, kind_value}
use Rattle.filer_state.specs.state.Tree.{file_touch}
use Rattle.filer_state.specs.state.Lenses.{LogicalSet, logical_lens}
use Rattle.filer_state.specs.state.Sets.{logical_before}
use Rattle.filer_state.specs.state.Promises.{RightOnVolume}
use Rattle.filer_state.specs.state.Jobs.{Replied}
use Rattle.filer_state.specs.state.Calls.{ServesOn}
use Rattle.filer_state.specs.state.Changes.{shown_inode}
use Rattle.filer_state.specs.changes.NameAnswers.{file_committed, inode_committed, commit_answer}
use Rattle.filer_state.specs.changes.NameLaws.{commit_call}
use Rattle.filer_state.specs.changes.ListingLemmas.{commit-right}
use Rattle.service_names.specs.Promises.{Commits}
use Rattle.service_names.proofs.committing.commit.Goals as goal

module _ (v fileid : ℕ) (set : LogicalSet) where
  -- a result is right where it tells what the inode and the touch do
  commits : (told : Result CommitResults Status) → answer_of (Commit told) ≡ commit_answer v fileid set → Commits v fileid set told
  commits told is handle =
      subst (λ (a : Answer). RightOnVolume v logical_lens (ServesOn (commit_call handle (Logical v) fileid) false) [] [] set (Replied (Success a)) set)
      (sym is) (commit-right v fileid handle (Logical v) set)

  module _ (inode : Inode) (there : get set.own.inodes.inodes fileid ≡ Some inode) where
    directory-kind-told : (parent subs : ℕ) → inode.kind ≡ DirectoryKind parent subs → commit_answer v fileid set ≡ Failed Invalid 2
    directory-kind-told parent subs is =
        ap (inode_committed v fileid set) there
        ∙ ap (file_committed (shown_inode v fileid inode (file_touch set.stripes fileid)) set.own.verifier) is

    special-kind-told : (special : SpecialType) (size : ℕ) → inode.kind ≡ SpecialFile special size → commit_answer v fileid set ≡ Failed Invalid 2
    special-kind-told special size is =
        ap (inode_committed v fileid set) there
        ∙ ap (file_committed (shown_inode v fileid inode (file_touch set.stripes fileid)) set.own.verifier) is

    file-told : (size filled : ℕ) (verifier : Option (List ℕ)) → inode.kind ≡ RegularFile size filled verifier
        → commit_answer v fileid set ≡ CommitDone (record {
          before = before_of (shown_inode v fileid inode (file_touch set.stripes fileid));
          after = shown_inode v fileid inode (file_touch set.stripes fileid);
        }) set.own.verifier
    file-told size filled verifier is =
        ap (inode_committed v fileid set) there
        ∙ ap (file_committed (shown_inode v fileid inode (file_touch set.stripes fileid)) set.own.verifier) is

pub returns-in-None : goal.returns-in-None
returns-in-None c =
    let v = c.args.volume.0 in
    let fileid = c.args.fileid.0 in
    let set = logical_before c.args.held.now in
    record {
      right = commits v fileid set (Err statuses.Stale)
          (ap (inode_committed v fileid set) (c.in-None.ensures ∙ ap (λ (l : LogicalValue). inode_of l.inodes fileid) c.get.ensures));
    }

pub returns-in-Directory : goal.returns-in-Directory
returns-in-Directory c =
    let v = c.args.volume.0 in
    let fileid = c.args.fileid.0 in
    let set = logical_before c.args.held.now in
    let there = sym (c.in-Some.ensures ∙ ap (λ (l : LogicalValue). inode_of l.inodes fileid) c.get.ensures) in
    record {
      right = commits v fileid set (Err statuses.Invalid)
          (sym (directory-kind-told v fileid set (inode_value c.in-Some.inode) there c.in-Directory.parent.0 c.in-Directory.subdirectories
          (ap kind_value c.in-Directory.is)));
    }

pub returns-in-Special : goal.returns-in-Special
returns-in-Special c =
    let v = c.args.volume.0 in
    let fileid = c.args.fileid.0 in
    let set = logical_before c.args.held.now in
    let there = sym (c.in-Some.ensures ∙ ap (λ (l : LogicalValue). inode_of l.inodes fileid) c.get.ensures) in
    record {
      right = commits v fileid set (Err statuses.Invalid)
          (sym (special-kind-told v fileid set (inode_value c.in-Some.inode) there _ c.in-Special.size (ap kind_value c.in-Special.is)));
    }

pub returns-in-RegularFile : goal.returns-in-RegularFile
returns-in-RegularFile c =
    let v = c.args.volume.0 in
    let fileid = c.args.fileid.0 in
    let set = logical_before c.args.held.now in
    let there = sym (c.in-Some.ensures ∙ ap (λ (l : LogicalValue). inode_of l.inodes fileid) c.get.ensures) in
    let inode = inode_value c.in-Some.inode in
    let after = c.shown_now-after.ensures in
    let before = c.prior-before.ensures ∙ ap before_of after in
    let verifier = ap (λ (l : LogicalValue). l.verifier) c.get-in-RegularFile.ensures in
    record {
      right = commits v fileid set
          (Ok (record {
            file = record { before = c.prior-before.result; after = c.shown_now-after.result };
            verifier = c.get-in-RegularFile.result.now.verifier;
          }))
          ((λ j. CommitDone (record { before = before j; after = after j }) (verifier j))
          ∙ sym (file-told v fileid set inode there c.in-RegularFile.size c.in-RegularFile.filled _ (ap kind_value c.in-RegularFile.is)));
    }
