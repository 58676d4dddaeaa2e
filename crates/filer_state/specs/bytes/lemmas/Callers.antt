-- A call that another caller makes: where it moves and runs alike, and where it is refused.
use Rattle.std.proofs.Common.{◌≡◌, ℕ, List, Option, Some, None, refl, sym, ap, ◌∙◌, subst}
use Rattle.std.specs.Prelude.{IsTrue}
use Rattle.std.specs.Option.{option_map}
use Rattle.std.specs.FinMap.{get}
use Rattle.nfs_model.specs.Types.{Answer, Call, Caller, Ownership, Status, Success, Failed}
use Rattle.nfs_model.specs.Tree.{Affinity}
use Rattle.nfs_model.specs.Server.{Attributes, Node, File, VolumeState}
use Rattle.nfs_model.specs.Locate.{Effect, Fails}
use Rattle.nfs_model.specs.Serial.Absent.{absent_parts}
use Rattle.nfs_model.specs.Serial.Rights.{Protection, ownership_of}
use Rattle.nfs_model.specs.Serial.Permission.{of_file}
use Rattle.nfs_model.specs.Serial.Starve.{takes_memory}
use Rattle.nfs_model.specs.Moves.{PartsChange}
use Rattle.nfs_model.specs.Work.{Outcome, Replied, Starved, Moved}
use Rattle.nfs_model.specs.Parts.{Hand}
use Rattle.nfs_model.specs.volume.Inodes.{InodeKind, RegularFile, Inode}
use Rattle.nfs_model.specs.volume.Stripes.{Card}
use Rattle.filer_state.specs.state.Contents.{VolumeContents}
use Rattle.filer_state.specs.state.Tree.{node_by, node_of, volume_of}
use Rattle.filer_state.specs.state.Partition.{stored}
use Rattle.filer_state.specs.state.Sound.{IsSound}
use Rattle.filer_state.specs.state.WellFormed.{owner_shown, owner_by, owner_in}
use Rattle.filer_state.specs.state.Lenses.{Lens}
use Rattle.filer_state.specs.state.Calls.{VolumeCall, WorksOn, move_on, answer_of, volume_left}
use Rattle.filer_state.specs.state.Running.{RunsOn}
use Rattle.filer_state.specs.attributes.lemmas.Getting.{node-at, reads-right}
use Rattle.filer_state.specs.bytes.Permitted.{owner_on, owner_at, of_owner}

-- ---- calls

module _ (call : Call) (node : Affinity) (fileid : ℕ) (one two : Caller) (run other : VolumeState → Effect) where
  abbrev first : VolumeCall
  first = record { call = call; caller = one; node = node; fileid = fileid; run = run }

  abbrev second : VolumeCall
  second = record { call = call; caller = two; node = node; fileid = fileid; run = other }

  -- on one volume
  pub works-alike : (p q : VolumeContents) (outcome : Outcome) → move_on second p ≡ move_on first p → other (volume_of p) ≡ run (volume_of p)
      → WorksOn first p outcome q → WorksOn second p outcome q
  works-alike p q (Replied reply) moves runs done = (
    moves ∙ done.0,
    done.1 ∙ ap (λ e. Success (answer_of (absent_parts call) e)) (sym runs),
    done.2 ∙ ap (volume_left (volume_of p)) (sym runs),
    done.3,
  )
  works-alike p q Starved moves runs done = (
    moves ∙ done.0,
    λ server at. subst (λ (a : Answer). IsTrue (takes_memory server call a)) (ap (answer_of (absent_parts call)) (sym runs)) (done.1 server at),
    done.2,
  )
  works-alike p q (Moved a) moves runs done = (moves ∙ done.0, done.1)

  module _ {S : Type 0} (v : ℕ) (lens : Lens VolumeContents S) where
    -- where it is the same on each sound volume that has the part
    pub runs-alike : (old : S) (outcome : Outcome) (new : S)
        → ((p : VolumeContents) (hands : List Hand) (made : ℕ) → lens.of p ≡ old → IsSound p hands made
        → (move_on second p ≡ move_on first p) × (other (volume_of p) ≡ run (volume_of p)))
        → RunsOn v lens first old outcome new → RunsOn v lens second old outcome new
    runs-alike old outcome new same runs p hands hands' made has numbered sound moved =
        let r = runs p hands hands' made has numbered sound moved in
        let alike = same p hands made has sound in
        (works-alike p (lens.put new p) outcome alike.0 alike.1 r.0, r.1)

    -- where it is refused on each
    pub runs-refused : (status : Status) (s : S) → ((p : VolumeContents) → lens.put (lens.of p) p ≡ p)
        → ((p : VolumeContents) (hands : List Hand) (made : ℕ) → p.number ≡ v → lens.of p ≡ s → IsSound p hands made
        → (move_on second p ≡ None) × (other (volume_of p) ≡ Fails status) × PartsChange call node (stored p) (stored p))
        → RunsOn v lens second s (Replied (Success (Failed status (absent_parts call)))) s
    runs-refused status s back refused =
        reads-right v lens (WorksOn second) s (Replied (Success (Failed status (absent_parts call)))) back
        (λ p hands made numbered has sound.
        let is = refused p hands made numbered has sound in (
          is.0,
          ap (λ e. Success (answer_of (absent_parts call) e)) (sym is.1),
          ap (volume_left (volume_of p)) (sym is.1),
          is.2,
        ))

-- ---- who owns a file

-- by the node
abbrev pub owner_seen : Option Node → Option Ownership
owner_seen None = None
owner_seen (Some (File g)) = Some (ownership_of g.attributes)
owner_seen (Some node) = None

pub asked-seen : (x : Option Node) (ask : Protection → Option Status) → of_file x ask ≡ of_owner (owner_seen x) ask
asked-seen None ask = refl
asked-seen (Some (File g)) ask = refl
asked-seen (Some node) ask = refl

-- the node's is the inode's
pub seen-owner : (p : VolumeContents) (f : ℕ) → owner_seen (get (volume_of p).nodes f) ≡ owner_at (get p.logical.inodes.inodes f)
seen-owner p f = ap owner_seen (node-at p f) ∙ by (get p.logical.inodes.inodes f)
  where
    kind : (a : Attributes) (names : ℕ) (k : InodeKind)
        → owner_seen (Some (node_by p.stripes (get p.logical.directories f) (get p.logical.texts f) f a names k)) ≡ owner_by a k
    kind a names (RegularFile size filled verifier) = refl
    kind a names other = refl

    by : (o : Option Inode) → owner_seen (option_map (node_of p.stripes p.logical.directories p.logical.texts f) o) ≡ owner_at o
    by None = refl
    by (Some inode) = kind inode.attributes inode.names inode.kind

-- and so is the card's
pub card-owner : (card : Option Card) (inode : Option Inode) → option_map owner_shown card ≡ option_map owner_in inode → owner_on card ≡ owner_at inode
card-owner None None same = refl
card-owner None (Some inode) same = absurd cc
card-owner (Some card) None same = absurd cc
card-owner (Some card) (Some inode) same = let is : owner_shown card ≡ owner_in inode = cc in is
