-- READDIR and COMMIT by what is under Logical.
use Rattle.std.proofs.Common.{◌≡◌, ℕ, Bool, true, false, List, [], ◌∷◌, Some, None, Option, refl, sym, ap, ◌∙◌, subst}
use Rattle.std.specs.Prelude.{◌-◌, min, nat_lt, if◌then◌else◌}
use Rattle.std.specs.Option.{option_map}
use Rattle.std.specs.FinMap.{get}
use Rattle.nfs_model.specs.Types.{Listed, Shown, Success, BadCookie, TooSmall, Failed, CommitDone}
use Rattle.nfs_model.specs.Tree.{Affinity}
use Rattle.nfs_model.specs.Types.{Answer, Readdir, ReaddirDone}
use Rattle.nfs_model.specs.Serial.Starve.{takes_memory}
use Rattle.nfs_model.specs.Work.{Starved}
use Rattle.std.specs.Prelude.{IsTrue}
use Rattle.nfs_model.specs.Server.{FileNode, Node, File, Directory, VolumeState, most_bytes}
use Rattle.nfs_model.specs.Shown.{shown, before_of, wcc}
use Rattle.nfs_model.specs.Locate.{Effect, Fails, Tells, on_file}
use Rattle.nfs_model.specs.Serial.Readdir.{all_listed, above_cookie, fitting, page_of, paged, readdir_from}
use Rattle.nfs_model.specs.volume.Inodes.{InodeKind, RegularFile, Inode}
use Rattle.filer_state.specs.state.Contents.{VolumeContents}
use Rattle.filer_state.specs.state.Tree.{volume_of, node_by, node_of, file_touch}
use Rattle.filer_state.specs.state.WellFormed.{WellFormed}
use Rattle.filer_state.specs.state.Jobs.{Replied}
use Rattle.filer_state.specs.state.Lenses.{LogicalSet, logical_lens}
use Rattle.filer_state.specs.state.Promises.{RightOnVolume}
use Rattle.filer_state.specs.state.Calls.{ServesOn, WorksOn, answer_of, answer_on, volume_left}
use Rattle.filer_state.specs.state.Changes.{shown_inode}
use Rattle.filer_state.specs.attributes.lemmas.Getting.{node-at, node-shown}
use Rattle.filer_state.specs.names.Answers.{is_bad_cookie, readdir_answer, file_committed, inode_committed, commit_answer}
use Rattle.filer_state.specs.names.Laws.{readdir_call, commit_call}
use Rattle.filer_state.specs.names.lemmas.Telling.{tells-right, starves-right}
use Rattle.filer_state.specs.names.lemmas.DirectoryKinds.{directory-stays, directory_at, directory-kind-told, directory-kind-shown}

-- ---- READDIR

module _ (volume : VolumeState) where
  paged-stays : (count : ℕ) (directory : Shown) (remaining page : List Listed) → volume ≡ volume_left volume (paged count directory remaining page)
  paged-stays count directory [] page = by (nat_lt count 104)
    where
      by : (b : Bool) → volume ≡ volume_left volume (if b then Fails TooSmall else page_of directory [] page)
      by true = refl
      by false = refl
  paged-stays count directory (e ∷ es) [] = refl
  paged-stays count directory (e ∷ es) (x ∷ xs) = refl

  listing-stays : (b : Bool) (count : ℕ) (directory : Shown) (remaining : List Listed)
      → volume ≡ volume_left volume (if b then Fails BadCookie else readdir_from count directory remaining)
  listing-stays true count directory remaining = refl
  listing-stays false count directory remaining = paged-stays count directory remaining (fitting (count - 104) remaining)

listing-told : (b : Bool) (count : ℕ) (mine theirs : Shown) (remaining : List Listed) → theirs ≡ mine
    → (if b then Failed BadCookie 1 else answer_of 1 (readdir_from count mine remaining))
    ≡ answer_of 1 (if b then Fails BadCookie else readdir_from count theirs remaining)
listing-told true count mine theirs remaining e = refl
listing-told false count mine theirs remaining e = ap (λ (s : Shown). answer_of 1 (readdir_from count s remaining)) (sym e)

module _ (v fileid : ℕ) (handle : List ℕ) (node : Affinity) (cookie : ℕ) (verifier : List ℕ) (count : ℕ) where
  -- by the directory's inode and entries
  readdir-told : (p : VolumeContents) → WellFormed p
      → readdir_answer p.number fileid cookie verifier count (logical_lens.of p) ≡ answer_on (readdir_call handle node fileid cookie verifier count) p
  readdir-told p well =
      directory-kind-told p fileid _ _ (λ inode parent there says.
      listing-told (is_bad_cookie cookie verifier) (min count most_bytes) (shown_inode p.number fileid inode None)
      (shown (volume_of p) fileid (Directory (directory_at p fileid inode parent)))
      (above_cookie cookie (all_listed fileid (directory_at p fileid inode parent))) (directory-kind-shown p fileid well inode parent there says))

  pub readdir-right : (set : LogicalSet)
      → RightOnVolume v logical_lens (ServesOn (readdir_call handle node fileid cookie verifier count) false) [] [] set
      (Replied (Success (readdir_answer v fileid cookie verifier count set))) set
  readdir-right =
      tells-right v (readdir_call handle node fileid cookie verifier count) (λ n s. readdir_answer n fileid cookie verifier count s) (λ p. refl) (λ p. refl)
      (λ p. directory-stays (volume_of p) (get (volume_of p).nodes fileid) _ (λ d.
      listing-stays (volume_of p) (is_bad_cookie cookie verifier) (min count most_bytes) (shown (volume_of p) fileid (Directory d))
      (above_cookie cookie (all_listed fileid d))))
      readdir-told

  -- memory may run out where it would list
  pub readdir-starves : (set : LogicalSet) (directory : Shown) (page : List Listed) (eof : Bool)
      → readdir_answer v fileid cookie verifier count set ≡ ReaddirDone directory page eof
      → RightOnVolume v logical_lens (WorksOn (readdir_call handle node fileid cookie verifier count)) [] [] set Starved set
  readdir-starves set directory page eof lists =
      starves-right v (readdir_call handle node fileid cookie verifier count) (λ n s. readdir_answer n fileid cookie verifier count s) (λ p. refl)
      readdir-told set (λ server answer is.
      subst (λ (a : Answer). IsTrue (takes_memory server (Readdir handle cookie verifier count) a)) (sym lists ∙ is) refl)

-- ---- COMMIT

file-stays : (volume : VolumeState) (fileid : ℕ) (o : Option Node)
    → volume ≡ volume_left volume (on_file o (λ f. Tells (CommitDone (wcc volume fileid (File f) volume (File f)) volume.verifier)))
file-stays volume fileid None = refl
file-stays volume fileid (Some (File f)) = refl
file-stays volume fileid (Some node) = refl

module _ (p : VolumeContents) (well : WellFormed p) (fileid : ℕ) where
  abbrev commits : FileNode → Effect
  commits f = Tells (CommitDone (wcc (volume_of p) fileid (File f) (volume_of p) (File f)) (volume_of p).verifier)

  kinds : (inode : Inode) → get p.logical.inodes.inodes fileid ≡ Some inode → (kind : InodeKind) → inode.kind ≡ kind
      → file_committed (shown_inode p.number fileid inode (file_touch p.stripes fileid)) p.logical.verifier kind
      ≡ answer_of 2 (on_file (Some (node_by p.stripes (get p.logical.directories fileid) (get p.logical.texts fileid) fileid inode.attributes inode.names kind)) commits)
  kinds inode there (RegularFile size filled verifier) is =
      let shows = sym (node-shown p well fileid inode there)
      ∙ ap (λ (k : InodeKind). shown (volume_of p) fileid (node_by p.stripes (get p.logical.directories fileid) (get p.logical.texts fileid) fileid inode.attributes inode.names k)) is in
      ap (λ (s : Shown). CommitDone (record { before = before_of s; after = s }) p.logical.verifier) shows
  kinds inode there kind is = refl

  by_inode : (o : Option Inode) → get p.logical.inodes.inodes fileid ≡ o
      → inode_committed p.number fileid (logical_lens.of p) o
      ≡ answer_of 2 (on_file (option_map (node_of p.stripes p.logical.directories p.logical.texts fileid) o) commits)
  by_inode None e = refl
  by_inode (Some inode) e = kinds inode e inode.kind refl

  commit-told : commit_answer p.number fileid (logical_lens.of p) ≡ answer_of 2 (on_file (get (volume_of p).nodes fileid) commits)
  commit-told =
      by_inode (get p.logical.inodes.inodes fileid) refl ∙ ap (λ (o : Option Node). answer_of 2 (on_file o commits)) (sym (node-at p fileid))

pub commit-right : (v fileid : ℕ) (handle : List ℕ) (node : Affinity) (set : LogicalSet)
    → RightOnVolume v logical_lens (ServesOn (commit_call handle node fileid) false) [] [] set
    (Replied (Success (commit_answer v fileid set))) set
commit-right v fileid handle node =
    tells-right v (commit_call handle node fileid) (λ n s. commit_answer n fileid s) (λ p. refl) (λ p. refl)
    (λ p. file-stays (volume_of p) fileid (get (volume_of p).nodes fileid)) (λ p well. commit-told p well fileid)
