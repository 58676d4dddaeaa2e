-- What stands before the question of space in WRITE: by the inode, and by what the serial server does.
use Rattle.std.proofs.Common.{◌≡◌, ℕ, zero, suc, ◌+◌, ◌<◌, ◌==◌, not, min, Bool, true, false, List, length, Option, Some, None}
use Rattle.std.proofs.Common.{nat_lt, refl, ap, ◌∙◌, arith}
use Rattle.std.specs.Prelude.{if◌then◌else◌, is_none, is_some, Result, Ok, Err}
use Rattle.std.proofs.lemmas.Bool.{eqb-true}
use Rattle.std.proofs.lemmas.Bool.Decides.{nat_tests}
use Rattle.std.proofs.lemmas.List.{length-take}
use Rattle.std.specs.Option.{option_map}
use Rattle.std.specs.FinMap.{get}
use Rattle.nfs_model.specs.Types.{Status, Stale, Invalid, TooBig, WriteDone}
use Rattle.nfs_model.specs.Tree.{Affinity}
use Rattle.nfs_model.specs.Server.{FileNode, Node, File, VolumeState, most_bytes}
use Rattle.nfs_model.specs.Locate.{Effect, Fails, Tells, Changes, unless, on_file}
use Rattle.nfs_model.specs.Serial.Setattr.{with_node}
use Rattle.nfs_model.specs.Serial.Write.{Writing, bytes_kept, need, space_fault, write_some, written_file}
use Rattle.nfs_model.specs.Work.{Ready, move_by, move_if, ready, ready_bytes}
use Rattle.nfs_model.specs.volume.Inodes.{InodeKind, RegularFile, Inode}
use Rattle.filer_state.specs.state.Contents.{VolumeContents}
use Rattle.filer_state.specs.state.Tree.{node_by, node_of, volume_of}
use Rattle.filer_state.specs.state.Kinds.{IsFile}
use Rattle.filer_state.specs.state.Partition.{parts_of}
use Rattle.filer_state.specs.state.Calls.{VolumeCall, unasked, located_on, move_on}
use Rattle.filer_state.specs.attributes.lemmas.Getting.{node-at}
use Rattle.filer_state.specs.bytes.WritingLaws.{plain, write_call}
use Rattle.filer_state.specs.bytes.WritingUp.{file_due, kind_due, bytes_due}
use Rattle.filer_state.specs.bytes.lemmas.WrittenNodes.{file_before}

-- the change that is made where there is space
abbrev pub change_of : VolumeContents → ℕ → Writing → FileNode → Effect
change_of p f w file = Changes (WriteDone (length (bytes_kept w)) (volume_of p).verifier)
    (with_node (volume_of p) f (File (written_file file w.offset (bytes_kept w) w.moment)))

-- what there is to know of it
abbrev pub ready_of : VolumeContents → ℕ → Writing → FileNode → Ready
ready_of p f w file = record {
  need = need file w.offset (length (bytes_kept w));
  extends = nat_lt (length file.bytes) (w.offset + length (bytes_kept w));
  clears = false;
  fits = is_none (space_fault (volume_of p) file w.offset (length (bytes_kept w)));
}

module _ (p : VolumeContents) (f : ℕ) (handle : List ℕ) (w : Writing) (node : Affinity) where
  abbrev call : VolumeCall
  call = write_call handle node f w

  abbrev seen : VolumeState
  seen = volume_of p

  -- what there is to know of it at a node, if it passes the checks
  abbrev pub ready_on : Option Node → Option Ready
  ready_on x = ready (Some (located_on call p)) x unasked w.offset w.count (length w.written)

  -- at least one byte is to be written to a file
  pub record SomeBytes : Type 0 where
    pub inode : Inode
    pub size : ℕ
    pub blocks : ℕ
    pub verifier : Option (List ℕ)
    pub there : get p.logical.inodes.inodes f ≡ Some inode
    pub is_file : IsFile inode.kind size blocks verifier
    pub some : 0 < length (bytes_kept w)
    pub fits : nat_lt p.logical.largest (w.offset + length (bytes_kept w)) ≡ false
    pub node_is : get seen.nodes f ≡ Some (File (file_before p f inode size verifier))
    pub run : call.run seen ≡ unless (space_fault seen (file_before p f inode size verifier) w.offset (length (bytes_kept w)))
        (change_of p f w (file_before p f inode size verifier))
    pub is_ready : ready_on (get seen.nodes f) ≡ Some (ready_of p f w (file_before p f inode size verifier))
    pub moved : move_on call p ≡ move_by (Some (parts_of p)) node (ready_of p f w (file_before p f inode size verifier))

  abbrev pub Checked : Result ℕ Status → Type 0
  Checked (Err status) = (ready_on (get seen.nodes f) ≡ None) × (call.run seen ≡ Fails status)
  Checked (Ok zero) = (ready_on (get seen.nodes f) ≡ None) × (call.run seen ≡ Tells (WriteDone 0 p.logical.verifier))
  Checked (Ok (suc n)) = SomeBytes

  -- ---- by the node

  abbrev effect : Option Node → Effect
  effect x = on_file x (λ g. if not (w.count == length w.written) then Fails Invalid
      else if w.count == 0 then Tells (WriteDone 0 seen.verifier) else write_some seen f g (plain w))

  no-file : (x : Option Node) (status : Status) → get seen.nodes f ≡ x → ready_on x ≡ None → effect x ≡ Fails status → Checked (Err status)
  no-file x status is none run = (ap ready_on is ∙ none, ap effect is ∙ run)

  -- ---- a file

  module _ (inode : Inode) (there : get p.logical.inodes.inodes f ≡ Some inode) (size blocks : ℕ) (verifier : Option (List ℕ))
      (is_file : IsFile inode.kind size blocks verifier) where
    abbrev file : FileNode
    file = file_before p f inode size verifier

    abbrev n : ℕ
    n = length (bytes_kept w)

    node-is : get seen.nodes f ≡ Some (File file)
    node-is =
        node-at p f ∙ ap (option_map (node_of p.stripes p.logical.directories p.logical.texts f)) there
        ∙ ap (λ kind. Some (node_by p.stripes (get p.logical.directories f) (get p.logical.texts f) f inode.attributes inode.names kind)) is_file

    as-many : (w.count == length w.written) ≡ true → min w.count most_bytes ≡ n
    as-many e =
        let same : w.count ≡ length w.written = eqb-true w.count (length w.written) e in
        let kept = length-take most_bytes w.written in
        omega (arith, same, kept)

    -- ---- by the checks

    abbrev ran : Bool → Bool → Effect
    ran b t = if not b then Fails Invalid else if t then Tells (WriteDone 0 seen.verifier) else write_some seen f file (plain w)

    abbrev known : Bool → Bool → ℕ → Option Ready
    known b t k = if not b then None else if t then None else ready_bytes seen unasked file w.offset k

    abbrev told_if : Bool → Effect
    told_if b = unless (if b then Some TooBig else None) (unless (space_fault seen file w.offset n) (change_of p f w file))

    abbrev known_if : Bool → Option Ready
    known_if b = if is_some (if b then Some TooBig else None) then None else Some (ready_of p f w file)

    runs : call.run seen ≡ ran (w.count == length w.written) (w.count == 0)
    runs = ap effect node-is

    knows : ready_on (get seen.nodes f) ≡ known (w.count == length w.written) (w.count == 0) (min w.count most_bytes)
    knows = ap ready_on node-is

    -- where it passes the checks
    passes : (w.count == length w.written) ≡ true → (w.count == 0) ≡ false → nat_lt p.logical.largest (w.offset + n) ≡ false
        → ready_on (get seen.nodes f) ≡ Some (ready_of p f w file)
    passes e h past = knows ∙ (λ j. known (e j) (h j) (as-many e j)) ∙ ap known_if past

    -- at least one byte, within the largest size
    some-bytes : (k : ℕ) → n ≡ k → (w.count == length w.written) ≡ true → (w.count == 0) ≡ false
        → nat_lt p.logical.largest (w.offset + n) ≡ false → Checked (Ok k)
    some-bytes zero is e h past =
        let same : w.count ≡ length w.written = eqb-true w.count (length w.written) e in
        let kept = length-take most_bytes w.written in
        let some : 0 < w.count = grind (arith, nat_tests) in
        absurd (omega (arith, same, kept, some, is))
    some-bytes (suc k) is e h past = record {
      inode = inode;
      size = size;
      blocks = blocks;
      verifier = verifier;
      there = there;
      is_file = is_file;
      some = omega (arith, is);
      fits = past;
      node_is = node-is;
      run = runs ∙ (λ j. ran (e j) (h j)) ∙ ap told_if past;
      is_ready = passes e h past;
      moved = ap (move_if (Some (parts_of p)) node) (passes e h past);
    }

    by-checks : Checked (file_due p.logical.largest w)
    by-checks = by (w.count == length w.written) refl (w.count == 0) refl (nat_lt p.logical.largest (w.offset + n)) refl
      where
        by : (b : Bool) → (w.count == length w.written) ≡ b → (t : Bool) → (w.count == 0) ≡ t
            → (c : Bool) → nat_lt p.logical.largest (w.offset + n) ≡ c
            → Checked (if not b then Err Invalid else if t then Ok 0 else if c then Err TooBig else Ok n)
        by false e t h c past = (
          knows ∙ ap (λ (b : Bool). known b (w.count == 0) (min w.count most_bytes)) e,
          runs ∙ ap (λ (b : Bool). ran b (w.count == 0)) e,
        )
        by true e true h c past = (knows ∙ (λ j. known (e j) (h j) (min w.count most_bytes)), runs ∙ (λ j. ran (e j) (h j)))
        by true e false h true past = (
          knows ∙ (λ j. known (e j) (h j) (as-many e j)) ∙ ap known_if past,
          runs ∙ (λ j. ran (e j) (h j)) ∙ ap told_if past,
        )
        by true e false h false past = some-bytes n refl e h past

  -- ---- by the inode

  pub checked : Checked (bytes_due (get p.logical.inodes.inodes f) p.logical.largest w)
  checked = by (get p.logical.inodes.inodes f) refl
    where
      of-kind : (inode : Inode) → get p.logical.inodes.inodes f ≡ Some inode → (kind : InodeKind) → inode.kind ≡ kind
          → Checked (kind_due kind p.logical.largest w)
      of-kind inode there (RegularFile size blocks verifier) is = by-checks inode there size blocks verifier is
      of-kind inode there kind is =
          no-file (option_map (node_of p.stripes p.logical.directories p.logical.texts f) (Some (record inode { kind = kind }))) Invalid
          (node-at p f ∙ ap (option_map (node_of p.stripes p.logical.directories p.logical.texts f)) there
          ∙ ap (λ k. Some (node_by p.stripes (get p.logical.directories f) (get p.logical.texts f) f inode.attributes inode.names k)) is)
          refl refl

      by : (o : Option Inode) → get p.logical.inodes.inodes f ≡ o → Checked (bytes_due o p.logical.largest w)
      by None there =
          no-file None Stale (node-at p f ∙ ap (option_map (node_of p.stripes p.logical.directories p.logical.texts f)) there) refl refl
      by (Some inode) there = of-kind inode there inode.kind refl
