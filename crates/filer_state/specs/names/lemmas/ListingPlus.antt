-- READDIRPLUS by what is under Logical.
use Rattle.std.proofs.Common.{◌≡◌, ℕ, Bool, true, false, List, [], ◌∷◌, Some, None, Option, refl, sym, ap, ◌∙◌, subst}
use Rattle.std.specs.Prelude.{min, not, ◌&&◌, nat_lt, if◌then◌else◌, IsTrue}
use Rattle.std.specs.Option.{option_map}
use Rattle.std.specs.FinMap.{get}
use Rattle.nfs_model.specs.Types.{DirectoryKind, Caller, Listed, ListedPlus, Shown, Success, BadCookie, TooSmall, Failed, Answer, Readdirplus, ReaddirplusDone}
use Rattle.nfs_model.specs.Tree.{Affinity}
use Rattle.nfs_model.specs.Serial.Starve.{takes_memory}
use Rattle.nfs_model.specs.Work.{Starved}
use Rattle.nfs_model.specs.Server.{Directory, VolumeState, most_bytes, handle_bytes}
use Rattle.nfs_model.specs.Shown.{shown}
use Rattle.nfs_model.specs.Locate.{Fails}
use Rattle.nfs_model.specs.Serial.Readdir.{all_listed, above_cookie}
use Rattle.nfs_model.specs.Serial.Readdirplus.{shown_at, listed_bare, listed_plus, listed_for, page_plus, page_plus_of, paged_plus, readdirplus_from}
use Rattle.nfs_model.specs.Serial.Rights.{may_search, protected}
use Rattle.nfs_model.specs.volume.Inodes.{Inode}
use Rattle.filer_state.specs.state.Contents.{VolumeContents}
use Rattle.filer_state.specs.state.Tree.{volume_of, node_of, file_touch}
use Rattle.filer_state.specs.state.WellFormed.{WellFormed}
use Rattle.filer_state.specs.state.Jobs.{Replied}
use Rattle.filer_state.specs.state.Lenses.{LogicalSet, logical_lens}
use Rattle.filer_state.specs.state.Promises.{RightOnVolume}
use Rattle.filer_state.specs.state.Calls.{ServesOn, WorksOn, answer_of, answer_on, volume_left}
use Rattle.filer_state.specs.state.Changes.{shown_inode}
use Rattle.filer_state.specs.attributes.lemmas.Getting.{node-at, node-shown}
use Rattle.filer_state.specs.names.Answers.{is_bad_cookie, object_in, entry_told, entry_for, readdirplus_answer}
use Rattle.filer_state.specs.names.Laws.{readdirplus_call}
use Rattle.filer_state.specs.names.lemmas.Telling.{tells-right, starves-right}
use Rattle.filer_state.specs.names.lemmas.DirectoryKinds.{directory-stays, directory_at, directory-kind-told, directory-kind-shown}

-- nothing changes
module _ (volume : VolumeState) (count : ℕ) (told : Listed → ListedPlus) (directory : Shown) where
  paged-stays : (remaining page : List Listed) → volume ≡ volume_left volume (paged_plus count told directory remaining page)
  paged-stays [] page = by (nat_lt count 104)
    where
      by : (b : Bool) → volume ≡ volume_left volume (if b then Fails TooSmall else page_plus_of told directory [] page)
      by true = refl
      by false = refl
  paged-stays (e ∷ es) [] = refl
  paged-stays (e ∷ es) (x ∷ xs) = refl

  listing-stays : (b : Bool) (names_count : ℕ) (remaining : List Listed)
      → volume ≡ volume_left volume (if b then Fails BadCookie else readdirplus_from names_count count told directory remaining)
  listing-stays true names_count remaining = refl
  listing-stays false names_count remaining = paged-stays remaining (page_plus names_count count remaining)

-- what is told is the same where entries and the directory are told the same
listing-told : (b : Bool) (names_count count : ℕ) (mine theirs : Listed → ListedPlus) (own other : Shown) (remaining : List Listed)
    → mine ≡ theirs → own ≡ other
    → (if b then Failed BadCookie 1 else answer_of 1 (readdirplus_from names_count count mine own remaining))
    ≡ answer_of 1 (if b then Fails BadCookie else readdirplus_from names_count count theirs other remaining)
listing-told true names_count count mine theirs own other remaining entries same = refl
listing-told false names_count count mine theirs own other remaining entries same =
    λ j. answer_of 1 (readdirplus_from names_count count (entries j) (same j) remaining)

-- an entry's attributes are those of its node
module _ (p : VolumeContents) (well : WellFormed p) where
  node-told : (fileid : ℕ) → object_in p.number fileid (logical_lens.of p) ≡ shown_at (volume_of p) fileid (get (volume_of p).nodes fileid)
  node-told fileid = by (get p.logical.inodes.inodes fileid) refl ∙ ap (shown_at (volume_of p) fileid) (sym (node-at p fileid))
    where
      by : (o : Option Inode) → get p.logical.inodes.inodes fileid ≡ o
          → option_map (λ inode. shown_inode p.number fileid inode (file_touch p.stripes fileid)) o
          ≡ shown_at (volume_of p) fileid (option_map (node_of p.stripes p.logical.directories p.logical.texts fileid) o)
      by None there = refl
      by (Some inode) there = ap Some (sym (node-shown p well fileid inode there))

  entries-told : entry_told p.number (logical_lens.of p) ≡ listed_plus (volume_of p)
  entries-told = λ j e. record { entry = e; attributes = node-told e.fileid j; handle = Some (handle_bytes p.number e.fileid) }

  -- and what a caller is told of an entry
  entries-for : (fileid : ℕ) (caller : Caller) (inode : Inode) (parent : ℕ)
      → entry_for caller p.number (logical_lens.of p) inode ≡ listed_for caller (volume_of p) (directory_at p fileid inode parent)
  entries-for fileid caller inode parent = λ j e.
      if caller.checked && not (may_search caller.credential (protected DirectoryKind inode.attributes)) then listed_bare e
      else entries-told j e

module _ (v fileid : ℕ) (handle : List ℕ) (node : Affinity) (cookie : ℕ) (verifier : List ℕ) (names_count count : ℕ) (caller : Caller) where
  -- by the directory's inode and entries, and by the inodes of these
  readdirplus-told : (p : VolumeContents) → WellFormed p
      → readdirplus_answer p.number fileid cookie verifier names_count count caller (logical_lens.of p)
      ≡ answer_on (readdirplus_call handle node fileid cookie verifier names_count count caller) p
  readdirplus-told p well =
      directory-kind-told p fileid _ _ (λ inode parent there says.
      listing-told (is_bad_cookie cookie verifier) (min names_count most_bytes) (min count most_bytes)
      (entry_for caller p.number (logical_lens.of p) inode) (listed_for caller (volume_of p) (directory_at p fileid inode parent))
      (shown_inode p.number fileid inode None) (shown (volume_of p) fileid (Directory (directory_at p fileid inode parent)))
      (above_cookie cookie (all_listed fileid (directory_at p fileid inode parent)))
      (entries-for p well fileid caller inode parent) (sym (directory-kind-shown p fileid well inode parent there says)))

  pub readdirplus-right : (set : LogicalSet)
      → RightOnVolume v logical_lens (ServesOn (readdirplus_call handle node fileid cookie verifier names_count count caller) false) [] [] set
      (Replied (Success (readdirplus_answer v fileid cookie verifier names_count count caller set))) set
  readdirplus-right =
      tells-right v (readdirplus_call handle node fileid cookie verifier names_count count caller)
      (λ n s. readdirplus_answer n fileid cookie verifier names_count count caller s) (λ p. refl) (λ p. refl)
      (λ p. directory-stays (volume_of p) (get (volume_of p).nodes fileid) _ (λ d.
      listing-stays (volume_of p) (min count most_bytes) (listed_for caller (volume_of p) d) (shown (volume_of p) fileid (Directory d))
      (is_bad_cookie cookie verifier) (min names_count most_bytes) (above_cookie cookie (all_listed fileid d))))
      readdirplus-told

  -- memory may run out where it would list
  pub readdirplus-starves : (set : LogicalSet) (directory : Shown) (page : List ListedPlus) (eof : Bool)
      → readdirplus_answer v fileid cookie verifier names_count count caller set ≡ ReaddirplusDone directory page eof
      → RightOnVolume v logical_lens (WorksOn (readdirplus_call handle node fileid cookie verifier names_count count caller)) [] [] set Starved set
  readdirplus-starves set directory page eof lists =
      starves-right v (readdirplus_call handle node fileid cookie verifier names_count count caller)
      (λ n s. readdirplus_answer n fileid cookie verifier names_count count caller s) (λ p. refl)
      readdirplus-told set (λ server answer is.
      subst (λ (a : Answer). IsTrue (takes_memory server (Readdirplus handle cookie verifier names_count count) a)) (sym lists ∙ is) refl)
