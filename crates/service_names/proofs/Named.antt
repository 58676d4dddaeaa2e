-- LOOKUP of a set under Logical, as its checks come out.
use Rattle.std.proofs.Common.{◌≡◌, ℕ, false, List, [], Option, Some, None, sym, ap, ◌∙◌, subst, Result, Ok, Err}
use Rattle.std.specs.FinMap.{get}
use Rattle.std.specs.Result.{IsErr, IsErrAnd}
use Rattle.nfs_values.specs.Status.{status_of}
use Rattle.nfs_model.specs.Types.{Status, Answer, Success, Failed, NoEntry}
use Rattle.nfs_model.specs.Tree.{Logical}
use Rattle.nfs_model.specs.Names.{name_fault}
use Rattle.nfs_values.specs.Answer.{answer_of}
use Rattle.nfs_values.specs.declared.answer.Answer.TheVariants.{Lookup}
use Rattle.nfs_values.specs.declared.answer.LookupResults.{LookupResults}
use Rattle.nfs_values.specs.declared.status.Status as statuses
use Rattle.nfs_model.specs.volume.Inodes.{Inode}
use Rattle.filer_state.specs.state.Lenses.{LogicalSet, logical_lens}
use Rattle.filer_state.specs.state.Promises.{RightOnVolume}
use Rattle.filer_state.specs.state.Jobs.{Replied}
use Rattle.filer_state.specs.state.Calls.{ServesOn}
use Rattle.filer_state.specs.state.Changes.{shown_inode}
use Rattle.filer_state.specs.changes.NameAnswers.{entries_of, fileid_named, object_told, found_told, unless_fault, lookup_answer}
use Rattle.filer_state.specs.changes.NameLaws.{lookup_call}
use Rattle.filer_state.specs.changes.LookupLemmas.{lookup-right}
use Rattle.service_names.specs.Promises.{LooksUp}

module _ (v fileid : ℕ) (name : List ℕ) (set : LogicalSet) where
  -- a result is right where it tells what inodes and entries do
  pub looks-up : (told : Result LookupResults statuses.Status) → answer_of (Lookup told) ≡ lookup_answer v fileid name set → LooksUp v fileid name set told
  looks-up told is handle moment =
      subst (λ (a : Answer). RightOnVolume v logical_lens (ServesOn (lookup_call handle (Logical v) fileid name moment) false) [] [] set
      (Replied (Success a)) set) (sym is) (lookup-right v fileid handle name (Logical v) moment set)

  -- what is told of a directory
  abbrev pub told_in : Inode → ℕ → Answer
  told_in inode parent =
      unless_fault (name_fault name)
      (found_told v set (shown_inode v fileid inode None) (fileid_named fileid parent (entries_of set.own fileid) name))

  module _ (inode : Inode) (parent : ℕ) (as_directory : lookup_answer v fileid name set ≡ told_in inode parent) where
    pub bad-name : (status : Status) → name_fault name ≡ Some status → lookup_answer v fileid name set ≡ Failed status 1
    bad-name status bad =
        as_directory ∙ ap (λ (o : Option Status). unless_fault o
        (found_told v set (shown_inode v fileid inode None) (fileid_named fileid parent (entries_of set.own fileid) name))) bad

    good-name : name_fault name ≡ None → (o : Option ℕ) → fileid_named fileid parent (entries_of set.own fileid) name ≡ o
        → lookup_answer v fileid name set ≡ found_told v set (shown_inode v fileid inode None) o
    good-name good o named =
        as_directory ∙ ap (λ (f : Option Status). unless_fault f
        (found_told v set (shown_inode v fileid inode None) (fileid_named fileid parent (entries_of set.own fileid) name))) good
        ∙ ap (found_told v set (shown_inode v fileid inode None)) named

    pub no-entry : name_fault name ≡ None → fileid_named fileid parent (entries_of set.own fileid) name ≡ None
        → lookup_answer v fileid name set ≡ Failed NoEntry 1
    no-entry good named = good-name good None named

    pub entry : name_fault name ≡ None → (q : ℕ) → fileid_named fileid parent (entries_of set.own fileid) name ≡ Some q
        → (o : Option Inode) → get set.own.inodes.inodes q ≡ o
        → lookup_answer v fileid name set ≡ object_told v set (shown_inode v fileid inode None) q o
    entry good q named o there = good-name good (Some q) named ∙ ap (object_told v set (shown_inode v fileid inode None) q) there

-- a status handed on
pub handed_on : (r : Result LookupResults statuses.Status) (status : statuses.Status) → IsErr r → IsErrAnd r (λ x. x ≡ status)
    → answer_of (Lookup r) ≡ Failed (status_of status) 1
handed_on (Ok x) status is same = absurd cc
handed_on (Err x) status is same = ap (λ (y : statuses.Status). Failed (status_of y) 1) same
