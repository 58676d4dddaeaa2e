-- LINK is right since it comes to what is the serial server's.
use Rattle.std.proofs.Common.{◌≡◌, ℕ, Bool, false, ◌+◌, ◌∙◌, List, Option, Some, None, Result, Ok, Err, ap, sym, subst, refl, arith}
use Rattle.std.specs.Prelude.{IfOk, OnOk, OnErr, IfSome, nat_le, if◌then◌else◌}
use Rattle.std.specs.declared.alloc.AllocError.{AllocError}
use Rattle.nfs_values.specs.Answer as values
use Rattle.nfs_values.specs.declared.answer.Answer.TheVariants as answers
use Rattle.nfs_values.specs.declared.answer.LinkResults.{LinkResults}
use Rattle.nfs_values.specs.declared.status.Status.{Status}
use Rattle.nfs_model.specs.Types.{Moment, TooManyLinks}
use Rattle.nfs_model.specs.Types as model
use Rattle.nfs_model.specs.Serial.Links.{most_links}
use Rattle.nfs_model.specs.volume.Directories.{DirectoryValue, added}
use Rattle.nfs_model.specs.volume.Inodes.{InodeKind, RegularFile, DirectoryKind, SpecialFile, Inode, inode_set}
use Rattle.nfs_model.specs.volume.Logical.{LogicalValue}
use Rattle.nfs_model.specs.volume.Maps.{changed_at, changed_value}
use Rattle.nfs_model.specs.volume.Stripes.{StripeValue}
use Rattle.filer_state.specs.state.Contents.{each}
use Rattle.filer_state.specs.state.Sets.{FilerLogical, stripe_value, placed, logical_before, logical_after}
use Rattle.filer_state.specs.state.Tree.{file_touch}
use Rattle.filer_state.specs.state.Lenses.{LogicalSet, logical_lens}
use Rattle.filer_state.specs.state.Calls.{VolumeCall}
use Rattle.filer_state.specs.state.Changes.{LogicalAnswer, attributes_now, touches_taken}
use Rattle.filer_state.specs.state.Names.{parent_in}
use Rattle.filer_state.specs.state.Running.{RunsOn}
use Rattle.filer_state.specs.changes.Laws.{IsDone, MayStarve}
use Rattle.filer_state.specs.changes.Linking.{names_fault, linking_of, directory_linked, held_linked}
use Rattle.filer_state.specs.changes.Named.{HeldNaming, HeldNode}
use Rattle.filer_state.specs.changes.NodesMade.{directories_in, with_subdirectories}
use Rattle.filer_state.specs.changes.NodesMoved.{Naming, dated_inode, with_parent, node_hung, entries_hung}
use Rattle.service_names.specs.declared.parent.Parent.{Parent}
use Rattle.service_names.specs.Changing.{with_inodes, with_directories}
use Rattle.service_names.specs.Linking.{LinksOne, MayBeLinked}
use Rattle.service_names.specs.Making.{naming_in_parent}
use Rattle.service_names.specs.Promises.{linking_outcome}
use Rattle.service_names.proofs.Laws.{right-by}

-- by what came of it: a reply that is the law's, or no memory where it would get the name
pub linked-by : (v : ℕ) (call : VolumeCall) (old new : LogicalSet) (done : LogicalAnswer) → IsDone v call old done
    → (LinksOne done.answer → MayStarve v call old) → (r : Result (Result LinkResults Status) AllocError)
    → IfOk r (λ told. values.answer_of (answers.MakeLink told) ≡ done.answer) → OnOk r (new ≡ done.set) → OnErr r (LinksOne done.answer)
    → OnErr r (new ≡ old) → RunsOn v logical_lens call old (linking_outcome r) new
linked-by v call old new done law starve (Ok told) answers' leaves would back = λ p hands hands' made has numbered sound moved.
    let r = right-by v call old new (values.answer_of (answers.MakeLink told)) done law answers' leaves p hands hands' made has numbered sound moved in
    (r.0.0, r.1)
linked-by v call old new done law starve (Err e) answers' leaves would back =
    subst (λ (s : LogicalSet). RunsOn v logical_lens call old (linking_outcome (Err e)) s) (sym back) (starve would)

-- ---- a node that gets a name

-- one that has few enough may have one more
pub few-enough : (names : ℕ) → nat_le most_links names ≡ false → names_fault names ≡ None
few-enough names few = ap (λ (b : Bool). if b then Some TooManyLinks else None) few

same-links : (k : InodeKind) → with_subdirectories 0 k ≡ k
same-links (RegularFile size filled verifier) = refl
same-links (SpecialFile special size) = refl
same-links (DirectoryKind parent subdirectories) = ap (DirectoryKind parent) (let e : subdirectories + 0 ≡ subdirectories = omega arith in e)

-- what isn't a directory makes no directory's links more
pub no-more : (made kind : InodeKind) → parent_in made ≡ None → with_subdirectories (directories_in made) kind ≡ kind
no-more (DirectoryKind parent subdirectories) kind file = absurd cc
no-more (RegularFile size filled verifier) kind file = same-links kind
no-more (SpecialFile special size) kind file = same-links kind

-- and has no parent
no-parent : (directory : ℕ) (kind : InodeKind) → parent_in kind ≡ None → with_parent directory kind ≡ kind
no-parent directory (DirectoryKind parent subdirectories) file = absurd cc
no-parent directory (RegularFile size filled verifier) file = refl
no-parent directory (SpecialFile special size) file = refl

-- what is known of a directory that is there
pub on-there : (Q : DirectoryValue → Type 0) (o : Option DirectoryValue) (d : DirectoryValue) → o ≡ Some d → Q d → IfSome o Q
on-there Q o d there holds = subst (λ (x : Option DirectoryValue). IfSome x Q) (sym there) holds

module _ {P : Type 0} (old one two new : FilerLogical P) (w : Parent) (name : List ℕ) (object : HeldNode)
    (may : MayBeLinked (naming_in_parent w name (logical_before old)) object)
    (one_own : one.own ≡ with_directories (changed_at (added name object.fileid) w.fileid.0 old.own.directories) old.own)
    (one_stripes : one.stripes ≡ old.stripes) where
  abbrev s : LogicalSet
  s = logical_before old

  abbrev n : HeldNaming
  n = naming_in_parent w name s

  abbrev m : Naming
  m = linking_of n object

  abbrev touch_then : Option Moment
  touch_then = file_touch s.stripes object.fileid

  same-count : one.own.stripes ≡ old.own.stripes
  same-count = ap (λ (l : LogicalValue). l.stripes) one_own

  before : (logical_before one).stripes ≡ s.stripes
  before =
      ap (λ (k : ℕ). each (λ i. stripe_value (placed one.stripes.at i)) 0 k) same-count
      ∙ ap (λ st. each (λ i. stripe_value (placed st.at i)) 0 old.own.stripes) one_stripes

  pub linked-dated : (set : Inode) → set ≡ dated_inode n.moment n.inode.kind n.inode → set ≡ directory_linked m
  linked-dated set is = is ∙ ap (λ (k : InodeKind). dated_inode n.moment k n.inode) (sym (no-more object.inode.kind n.inode.kind may.no_directory))

  pub linked-hung : (hung : Inode) (touch : Option Moment) → touch ≡ file_touch (logical_before one).stripes object.fileid
      → hung.attributes ≡ record (attributes_now touch object.inode.attributes object.inode.kind) { ctime = n.moment }
      → hung.names ≡ object.inode.names + 1 → hung.kind ≡ object.inode.kind → hung ≡ node_hung m touch_then
  linked-hung hung touch latest attributes_is names_is kind_is = λ j. record { attributes = held j; names = names_is j; kind = kept j }
    where
      held : hung.attributes ≡ record (attributes_now touch_then object.inode.attributes object.inode.kind) { ctime = n.moment }
      held =
          attributes_is ∙ ap (λ (t : Option Moment). record (attributes_now t object.inode.attributes object.inode.kind) { ctime = n.moment })
          (latest ∙ ap (λ (stripes : List StripeValue). file_touch stripes object.fileid) before)

      kept : hung.kind ≡ with_parent n.fileid object.inode.kind
      kept = kind_is ∙ sym (no-parent n.fileid object.inode.kind may.no_directory)

  entries : changed_at (added name object.fileid) n.fileid old.own.directories ≡ entries_hung m old.own.directories
  entries = ap (λ (o : Option DirectoryValue). changed_value (added name object.fileid) o n.fileid old.own.directories) may.entered

  pub all-linked : (hung set : Inode) → two.own ≡ one.own → (logical_after one two).stripes ≡ touches_taken object.fileid (logical_before one).stripes
      → new.own ≡ with_inodes (inode_set object.fileid hung (inode_set n.fileid set two.own.inodes)) two.own → new.stripes ≡ two.stripes
      → set ≡ directory_linked m → hung ≡ node_hung m touch_then → logical_after old new ≡ (held_linked n object).set
  all-linked hung set two_own taken new_own new_stripes dated_is hung_is = λ j. record { own = own j; stripes = stripes j }
    where
      own : new.own ≡ (held_linked n object).set.own
      own =
          new_own
          ∙ ap (λ (l : LogicalValue). with_inodes (inode_set object.fileid hung (inode_set n.fileid set l.inodes)) l) (two_own ∙ one_own)
          ∙ (λ j. with_inodes (inode_set object.fileid (hung_is j) (inode_set n.fileid (dated_is j) old.own.inodes))
          (with_directories (entries j) old.own))

      stripes : (logical_after old new).stripes ≡ touches_taken object.fileid s.stripes
      stripes =
          ap (λ st. each (λ i. stripe_value (placed st.at i)) 0 old.own.stripes) new_stripes
          ∙ ap (λ (k : ℕ). each (λ i. stripe_value (placed two.stripes.at i)) 0 k) (sym same-count)
          ∙ taken ∙ ap (touches_taken object.fileid) before
