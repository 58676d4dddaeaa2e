-- WRITE by the stripe in which its bytes lie.
use Rattle.std.proofs.Common.{◌≡◌, ℕ, ◌+◌, ◌<◌, ◌==◌, not, min, Bool, true, false, List, length, Option, Some, None}
use Rattle.std.proofs.Common.{refl, sym, ap, ◌∙◌, subst, arith}
use Rattle.std.specs.Prelude.{if◌then◌else◌}
use Rattle.std.proofs.lemmas.Bool.{eqb-true}
use Rattle.std.proofs.lemmas.List.{length-take}
use Rattle.std.specs.Option.{option_map}
use Rattle.std.specs.FinMap.{get}
use Rattle.nfs_model.specs.Types.{Moment, Answer, Failed, Stale, Invalid, WriteDone, Ownership}
use Rattle.nfs_model.specs.Tree.{Affinity, Stripe}
use Rattle.nfs_model.specs.Parts.{Hand}
use Rattle.nfs_model.specs.Server.{FileNode, Node, File, VolumeState, most_bytes}
use Rattle.nfs_model.specs.Locate.{Effect, Fails, Tells, on_file}
use Rattle.nfs_model.specs.Serial.Write.{Writing, bytes_kept, write_some}
use Rattle.nfs_model.specs.Work.{move_if, ready, ready_bytes}
use Rattle.depot_rule.specs.Sums.{total}
use Rattle.nfs_model.specs.volume.Inodes.{InodeKind, RegularFile, Inode}
use Rattle.nfs_model.specs.volume.Stripes.{Card, OfFile, OfDirectory, StripeValue}
use Rattle.filer_state.specs.state.Contents.{VolumeContents}
use Rattle.filer_state.specs.state.Tree.{stripe_at, node_by, node_of, volume_of}
use Rattle.filer_state.specs.state.Names.{size_in}
use Rattle.filer_state.specs.state.Kinds.{IsFile}
use Rattle.filer_state.specs.state.WellFormed.{StripeFits, size_shown}
use Rattle.filer_state.specs.state.Partition.{parts_of, times_in_hand}
use Rattle.filer_state.specs.state.Sound.{IsSound}
use Rattle.filer_state.specs.state.Lenses.{stripe_lens}
use Rattle.filer_state.specs.state.Calls.{VolumeCall, unasked, WorksOn, LieIn, located_on, move_on, answer_of, volume_left}
use Rattle.filer_state.specs.state.Running.{RunsOn}
use Rattle.filer_state.specs.laws.lemmas.InodeKinds.{file-is}
use Rattle.filer_state.specs.attributes.lemmas.Getting.{node-at}
use Rattle.filer_state.specs.bytes.Writing.{StripeOutcome, tells, fails, some_written, file_written, card_written, stripe_write}
use Rattle.filer_state.specs.bytes.WritingLaws.{plain, write_call}
use Rattle.filer_state.specs.bytes.lemmas.Reads.{is-there}
use Rattle.filer_state.specs.bytes.lemmas.WrittenNodes.{file_before}
use Rattle.filer_state.specs.bytes.lemmas.WriteBytes.{IsDone, answers, some}

module _ (p : VolumeContents) (i f : ℕ) (handle : List ℕ) (w : Writing) (hands hands' : List Hand) (made : ℕ) (sound : IsSound p hands made)
    (weigh : (n : ℕ) → total (times_in_hand p.number n) hands' ≡ total (times_in_hand p.number n) hands) (on : i < length p.stripes)
    (lies : LieIn (length p.stripes) i f w.offset (min w.count most_bytes)) where
  abbrev call : VolumeCall
  call = write_call handle (Stripe p.number i) f w

  abbrev s : StripeValue
  s = stripe_at p.stripes i

  abbrev seen : VolumeState
  seen = volume_of p

  abbrev n : ℕ
  n = length (bytes_kept w)

  abbrev Right : StripeOutcome → Type 0
  Right told = IsDone p i f handle w hands' made told

  fits : StripeFits p.logical i s
  fits = sound.well_formed.stripes i on

  -- ---- by the node

  abbrev moves : Option Node → Option Affinity
  moves x = move_if (Some (parts_of p)) (Stripe p.number i) (ready (Some (located_on call p)) x unasked w.offset w.count (length w.written))

  abbrev effect : Option Node → Effect
  effect x = on_file x (λ g. if not (w.count == length w.written) then Fails Invalid
      else if w.count == 0 then Tells (WriteDone 0 seen.verifier) else write_some seen f g (plain w))

  -- where there is no file
  no-file : (x : Option Node) (e : Effect) (answer : Answer) → get seen.nodes f ≡ x → moves x ≡ None → effect x ≡ e → answer ≡ answer_of 2 e
      → seen ≡ volume_left seen e → Right (tells answer s)
  no-file x e answer is stays run told left =
      answers p i f handle w hands hands' made sound weigh on answer e (ap moves is ∙ stays) (ap effect is ∙ run) told left

  -- ---- a file

  module _ (inode : Inode) (there : get p.logical.inodes.inodes f ≡ Some inode) (size blocks : ℕ) (verifier : Option (List ℕ))
      (is_file : IsFile inode.kind size blocks verifier) (touch : Option Moment) (owner : Ownership)
      (card : get s.cards f ≡ Some (OfFile size touch owner)) where
    abbrev file : FileNode
    file = file_before p f inode size verifier

    node-is : get seen.nodes f ≡ Some (File file)
    node-is =
        node-at p f ∙ ap (option_map (node_of p.stripes p.logical.directories p.logical.texts f)) there
        ∙ ap (λ kind. Some (node_by p.stripes (get p.logical.directories f) (get p.logical.texts f) f inode.attributes inode.names kind)) is_file

    -- ---- by its count

    as-many : (w.count == length w.written) ≡ true → min w.count most_bytes ≡ n
    as-many e =
        let same : w.count ≡ length w.written = eqb-true w.count (length w.written) e in
        let kept = length-take most_bytes w.written in
        omega (arith, same, kept)

    by-count : Right (file_written p.number f w s)
    by-count = by (w.count == length w.written) refl (w.count == 0) refl
      where
        runs : call.run seen ≡ effect (Some (File file))
        runs = ap effect node-is

        stays : move_on call p ≡ moves (Some (File file))
        stays = ap moves node-is

        by : (b : Bool) → (w.count == length w.written) ≡ b → (t : Bool) → (w.count == 0) ≡ t
            → Right (if not b then fails Invalid s else if t then tells (WriteDone 0 s.verifier) s else some_written p.number f w n s)
        by false e t h = answers p i f handle w hands hands' made sound weigh on (Failed Invalid 2) (Fails Invalid)
            (stays ∙ ap (λ (b : Bool). move_if (Some (parts_of p)) (Stripe p.number i) (if not b then None
            else if w.count == 0 then None else ready_bytes seen unasked file w.offset (min w.count most_bytes))) e)
            (runs ∙ ap (λ (b : Bool). if not b then Fails Invalid
            else if w.count == 0 then Tells (WriteDone 0 seen.verifier) else write_some seen f file (plain w)) e)
            refl refl
        by true e true h = answers p i f handle w hands hands' made sound weigh on (WriteDone 0 s.verifier) (Tells (WriteDone 0 seen.verifier))
            (stays ∙ (λ j. move_if (Some (parts_of p)) (Stripe p.number i) (if not (e j) then None
            else if h j then None else ready_bytes seen unasked file w.offset (min w.count most_bytes))))
            (runs ∙ (λ j. if not (e j) then Fails Invalid else if h j then Tells (WriteDone 0 seen.verifier) else write_some seen f file (plain w)))
            (ap (WriteDone 0) fits.verifier) refl
        by true e false h = some p i f handle w hands hands' made sound weigh on inode there size blocks verifier is_file touch owner card
            (runs ∙ (λ j. if not (e j) then Fails Invalid else if h j then Tells (WriteDone 0 seen.verifier) else write_some seen f file (plain w)))
            (stays ∙ (λ j. move_if (Some (parts_of p)) (Stripe p.number i) (if not (e j) then None
            else if h j then None else ready_bytes seen unasked file w.offset (as-many e j))))
            (subst (LieIn (length p.stripes) i f w.offset) (as-many e) lies)

  -- ---- by its card, which shows what its inode does

  by-card : Right (stripe_write p.number f w s)
  by-card = by (get s.cards f) refl (get p.logical.inodes.inodes f) refl (fits.cards f)
    where
      none : get p.logical.inodes.inodes f ≡ None → get seen.nodes f ≡ None
      none there = node-at p f ∙ ap (option_map (node_of p.stripes p.logical.directories p.logical.texts f)) there

      of-kind : (c : Card) → get s.cards f ≡ Some c → (inode : Inode) → get p.logical.inodes.inodes f ≡ Some inode
          → (kind : InodeKind) → inode.kind ≡ kind → size_shown c ≡ size_in kind → Right (card_written p.number f w (Some c) s)
      of-kind (OfFile size touch owner) card inode there kind is same =
          let file = file-is kind size (sym same) in by-count inode there size file.0 file.1 (is ∙ file.2) touch owner card
      of-kind OfDirectory card inode there (RegularFile other blocks verifier) is same = absurd cc
      of-kind OfDirectory card inode there kind is same =
          no-file (option_map (node_of p.stripes p.logical.directories p.logical.texts f) (Some (record inode { kind = kind })))
          (Fails Invalid) (Failed Invalid 2)
          (node-at p f ∙ ap (option_map (node_of p.stripes p.logical.directories p.logical.texts f)) there
          ∙ ap (λ k. Some (node_by p.stripes (get p.logical.directories f) (get p.logical.texts f) f inode.attributes inode.names k)) is)
          refl refl refl refl

      by : (c : Option Card) → get s.cards f ≡ c → (o : Option Inode) → get p.logical.inodes.inodes f ≡ o
          → option_map size_shown c ≡ option_map (λ (inode : Inode). size_in inode.kind) o → Right (card_written p.number f w c s)
      by None card None there same = no-file None (Fails Stale) (Failed Stale 2) (none there) refl refl refl refl
      by None card (Some inode) there same = absurd cc
      by (Some c) card None there same = absurd cc
      by (Some c) card (Some inode) there same =
          let shown : size_shown c ≡ size_in inode.kind = cc in of-kind c card inode there inode.kind refl shown

-- ---- the law

module _ (i f : ℕ) (handle : List ℕ) (w : Writing) (p : VolumeContents) (hands hands' : List Hand) (made : ℕ) where
  abbrev Done : ℕ → StripeValue → Type 0
  Done u t = WorksOn (write_call handle (Stripe u i) f w) p (stripe_write u f w t).outcome ((stripe_lens i).put (stripe_write u f w t).stripe p)
      × IsSound ((stripe_lens i).put (stripe_write u f w t).stripe p) hands' (made + 1)

  done : IsSound p hands made → ((n : ℕ) → total (times_in_hand p.number n) hands' ≡ total (times_in_hand p.number n) hands)
      → i < (stripe_at p.stripes i).stripes → LieIn (stripe_at p.stripes i).stripes i f w.offset (min w.count most_bytes)
      → Done p.number (stripe_at p.stripes i)
  done sound weigh many lies =
      let on = is-there p.stripes i many in
      let fits = sound.well_formed.stripes i on in
      let count : (stripe_at p.stripes i).stripes ≡ length p.stripes = fits.stripes ∙ sym sound.well_formed.as_many in
      by-card p i f handle w hands hands' made sound weigh on (subst (λ (n : ℕ). LieIn n i f w.offset (min w.count most_bytes)) count lies)

pub stripe-writes : (v i f : ℕ) (handle : List ℕ) (w : Writing) (s : StripeValue) → i < s.stripes → LieIn s.stripes i f w.offset (min w.count most_bytes)
    → RunsOn v (stripe_lens i) (write_call handle (Stripe v i) f w) s (stripe_write v f w s).outcome (stripe_write v f w s).stripe
stripe-writes v i f handle w s some lies p hands hands' made has numbered sound moved =
    subst (λ (t : StripeValue). i < t.stripes → LieIn t.stripes i f w.offset (min w.count most_bytes) → Done i f handle w p hands hands' made v t) has
    (λ many lie. subst (λ (u : ℕ). Done i f handle w p hands hands' made u (stripe_at p.stripes i)) numbered
    (done i f handle w p hands hands' made sound (λ n. let e = moved (times_in_hand p.number n) in omega (arith, e)) many lie)) some lies
