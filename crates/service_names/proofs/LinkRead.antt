-- READLINK is right since it tells what is the serial server's.
use Rattle.std.proofs.Common.{◌≡◌, ℕ, ◌∙◌, Bool, true, false, [], Option, Some, None, Result, Ok, Err, ap, sym, subst, refl}
use Rattle.std.specs.Prelude.{IfOk, OnErr}
use Rattle.std.specs.FinMap.{get}
use Rattle.std.specs.declared.alloc.AllocError.{AllocError}
use Rattle.nfs_values.specs.Answer as values
use Rattle.nfs_values.specs.declared.answer.Answer.TheVariants as answers
use Rattle.nfs_values.specs.declared.answer.ReadLinkResults.{ReadLinkResults}
use Rattle.nfs_values.specs.declared.status.Status.{Status}
use Rattle.nfs_model.specs.Types.{Answer, Success, Failed, Stale, Invalid, ReadlinkDone}
use Rattle.nfs_model.specs.Types.{SymbolicLink, Fifo, Socket, BlockDevice, CharacterDevice}
use Rattle.nfs_model.specs.Work as works
use Rattle.nfs_model.specs.Tree.{Logical}
use Rattle.nfs_model.specs.volume.Inodes.{InodeKind, RegularFile, DirectoryKind, SpecialFile, Inode}
use Rattle.filer_state.specs.state.Lenses.{LogicalSet, logical_lens}
use Rattle.filer_state.specs.state.Changes.{shown_inode}
use Rattle.filer_state.specs.state.Running.{RunsOn}
use Rattle.filer_state.specs.state.Tree.{text_or_empty}
use Rattle.filer_state.specs.changes.NameAnswers.{readlink_answer, inode_read, link_read}
use Rattle.filer_state.specs.changes.NameLaws.{readlink_call, ReadlinkIsRight, ReadlinkMayStarve}
use Rattle.service_names.specs.Linking.{is_symbolic, TellsText}
use Rattle.service_names.specs.Promises.{reading_link_outcome, ReadsLink}

module _ (v fileid : ℕ) (set : LogicalSet) where
  -- by what it told: a reply that is the law's, or no memory where it would tell a text
  pub reads-link : ReadlinkIsRight → ReadlinkMayStarve → (r : Result (Result ReadLinkResults Status) AllocError)
      → IfOk r (λ told. values.answer_of (answers.ReadLink told) ≡ readlink_answer v fileid set)
      → OnErr r (TellsText (readlink_answer v fileid set)) → ReadsLink v fileid set r
  reads-link right starve (Ok told) tells would handle =
      subst (λ (a : Answer). RunsOn v logical_lens (readlink_call handle (Logical v) fileid) set (works.Replied (Success a)) set) (sym tells)
      (λ p hands hands' made has numbered sound moved.
      let r = right v fileid handle (Logical v) set p hands hands' made has numbered sound moved in
      (r.0.0, r.1))
  reads-link right starve (Err e) tells would handle = starve v fileid handle (Logical v) set would.0 would.1 would.2

  module _ (inode : Inode) (there : get set.own.inodes.inodes fileid ≡ Some inode) where
    -- INVAL for what isn't a symbolic link
    pub no-link : is_symbolic inode.kind ≡ false → readlink_answer v fileid set ≡ Failed Invalid 1
    no-link none = ap (inode_read v fileid set) there ∙ by inode.kind none
      where
        by : (k : InodeKind) → is_symbolic k ≡ false
            → link_read (shown_inode v fileid inode None) (text_or_empty (get set.own.texts fileid)) k ≡ Failed Invalid 1
        by (RegularFile size filled verifier) e = refl
        by (DirectoryKind parent subdirectories) e = refl
        by (SpecialFile SymbolicLink size) e = absurd cc
        by (SpecialFile Fifo size) e = refl
        by (SpecialFile Socket size) e = refl
        by (SpecialFile (BlockDevice device) size) e = refl
        by (SpecialFile (CharacterDevice device) size) e = refl

    -- the text of one
    pub a-link : is_symbolic inode.kind ≡ true
        → readlink_answer v fileid set ≡ ReadlinkDone (shown_inode v fileid inode None) (text_or_empty (get set.own.texts fileid))
    a-link is = ap (inode_read v fileid set) there ∙ by inode.kind is
      where
        by : (k : InodeKind) → is_symbolic k ≡ true
            → link_read (shown_inode v fileid inode None) (text_or_empty (get set.own.texts fileid)) k
            ≡ ReadlinkDone (shown_inode v fileid inode None) (text_or_empty (get set.own.texts fileid))
        by (RegularFile size filled verifier) e = absurd cc
        by (DirectoryKind parent subdirectories) e = absurd cc
        by (SpecialFile SymbolicLink size) e = refl
        by (SpecialFile Fifo size) e = absurd cc
        by (SpecialFile Socket size) e = absurd cc
        by (SpecialFile (BlockDevice device) size) e = absurd cc
        by (SpecialFile (CharacterDevice device) size) e = absurd cc
