-- A node made, as the steps of its making leave it; and where memory runs out, all as it was.
use Rattle.std.proofs.Common.{◌≡◌, ℕ, ◌+◌, ◌<◌, ◌≤◌, ◌==◌, true, false, List, map, Option, Some, None}
use Rattle.std.proofs.Common.{refl, sym, ap, ◌∙◌, subst, arith, ⊎_elim}
use Rattle.std.proofs.lemmas.Bool.{cases_lt}
use Rattle.std.specs.Prelude.{is_some, IsSome, slice_get}
use Rattle.std.specs.Ordering.{nat_cmp}
use Rattle.std.specs.FinMap.{get, get-empty}
use Rattle.parcels.specs.Filled.{is_filled, AreFilledAlike}
use Rattle.nfs_model.specs.Types.{Ownership}
use Rattle.nfs_model.specs.Serial.Rights.{ownership_of}
use Rattle.nfs_model.specs.volume.Directories.{DirectoryValue, added}
use Rattle.nfs_model.specs.volume.Inodes.{InodeKind, Inode, inode_of, inode_created, inode_unmade, inode_set}
use Rattle.nfs_model.specs.volume.Logical.{LogicalValue}
use Rattle.nfs_model.specs.volume.Maps.{changed_at, changed_value}
use Rattle.nfs_model.specs.volume.Stripes.{StripeValue, Card}
use Rattle.nfs_model.specs.volume.lemmas.Inodes.{unmade-created, inode-created-there}
use Rattle.nfs_model.specs.volume.lemmas.Numbered.{remove-absent}
use Rattle.filer_state.specs.state.Contents.{each}
use Rattle.filer_state.specs.state.Names.{root}
use Rattle.filer_state.specs.state.Parcels.{no_stripe}
use Rattle.filer_state.specs.state.Tree.{stripe_at}
use Rattle.filer_state.specs.state.Sets.{FilerLogical, FilerStripe, stripe_value, placed, in_one, logical_before, logical_after}
use Rattle.filer_state.specs.laws.lemmas.Each.{each-same, each-map, each-index, get-there}
use Rattle.filer_state.specs.changes.NodesMade.{card_made, directories_made, texts_made, node_made}
use Rattle.filer_state.specs.changes.Making.{making_of}
use Rattle.service_names.specs.declared.parent.Parent.{Parent}
use Rattle.service_names.specs.Cards.{InFirst, place_dropped, DiffersByCard, HasCard, IsDropped}
use Rattle.service_names.specs.Making.{MayMake, naming_in_parent, inode_dated, without_parts, node_unmade}
use Rattle.service_names.specs.Changing.{with_inodes, with_directories, with_texts}
use Rattle.service_names.proofs.Dropped.{first-alike}
use Rattle.service_names.proofs.Putting.{same-places, there}
use Rattle.service_names.proofs.Tying.{made-get}

-- ---- places

module _ {P : Type 0} where
  dropped-none : (f : ℕ) (x : Option (FilerStripe P)) → get (stripe_value x).cards f ≡ None → place_dropped f x ≡ x
  dropped-none f None none = refl
  dropped-none f (Some s) none = ap (λ cards. Some (record s { own = record s.own { cards = cards } })) (remove-absent s.own.cards f none)

  filled-of : (f : ℕ) (x y : Option (FilerStripe P)) → place_dropped f y ≡ place_dropped f x → is_filled (Some x) ≡ is_filled (Some y)
  filled-of f None None e = refl
  filled-of f None (Some y) e = absurd cc
  filled-of f (Some x) None e = absurd cc
  filled-of f (Some x) (Some y) e = refl

  -- a place that has a card is filled
  there-of : (f : ℕ) (x : Option (FilerStripe P)) → IsSome (get (stripe_value x).cards f) → is_some x ≡ true
  there-of f None some = absurd (let no = subst IsSome (get-empty {X = Card} nat_cmp f) some in cc)
  there-of f (Some s) some = refl

  -- places that differ by cards are filled alike
  cards-alike : (f n : ℕ) (old now : List (Option (FilerStripe P))) → InFirst (DiffersByCard f) n old now → AreFilledAlike old now
  cards-alike f n old now t = first-alike (DiffersByCard f) (filled-of f) n old now t

  module _ (f n : ℕ) (old mid now : List (Option (FilerStripe P))) where
    -- the cards put in and taken out again, where there were none
    cards-back : ((i : ℕ) (x : Option (FilerStripe P)) → i < n → slice_get old i ≡ Some x → get (stripe_value x).cards f ≡ None)
        → InFirst (DiffersByCard f) n old mid → InFirst (IsDropped f) n mid now → now ≡ old
    cards-back none put gone = same-places old now (gone.long ∙ put.long) (λ i x y e h.
        let long = put.long in
        let less = get-there old i x e in
        let found = there mid i (omega arith) in
        let z = found.0 in
        ⊎_elim
        (λ (below : i < n). gone.first i z y below found.1 h ∙ put.first i x z below e found.1 ∙ dropped-none f x (none i x below e))
        (λ (on : n ≤ i). gone.others i z y on found.1 h ∙ put.others i x z on e found.1)
        (cases_lt i n))

  -- the stripes of a volume with the card of a new node
  cards-made : (owner : Ownership) (k : InodeKind) (f n : ℕ) (old now : List (Option (FilerStripe P)))
      → ((i : ℕ) → i < n → (x : Option (FilerStripe P)) × (slice_get old i ≡ Some x) × (is_some x ≡ true))
      → InFirst (HasCard owner k f) n old now
      → each (λ i. stripe_value (placed now i)) 0 n ≡ map (card_made owner k f) (each (λ i. stripe_value (placed old i)) 0 n)
  cards-made owner k f n old now some t =
      each-same (λ i. stripe_value (placed now i)) (λ i. card_made owner k f (stripe_value (placed old i))) 0 n (λ i on less.
      let long = t.long in
      let x = some i (omega arith) in
      let within = get-there old i x.0 x.1 in
      let y = there now i (omega arith) in
      ap (λ o. stripe_value (in_one o)) y.1 ∙ t.first i x.0 y.0 (omega arith) x.1 y.1 x.2
      ∙ sym (ap (λ o. card_made owner k f (stripe_value (in_one o))) x.1))
      ∙ sym (each-map (card_made owner k f) (λ i. stripe_value (placed old i)) 0 n)

-- ---- a node

module _ {P : Type 0} (parent : Parent) (name : List ℕ) (old : FilerLogical P) (may : MayMake (naming_in_parent parent name (logical_before old)))
    (made : Inode) (text : Option (List ℕ))
    (f : ℕ) (is : f ≡ old.own.inodes.next) where
  abbrev n : ℕ
  n = old.own.stripes

  abbrev d : ℕ
  d = parent.fileid.0

  abbrev was : ℕ → StripeValue
  was i = stripe_value (placed old.stripes.at i)

  -- what is known of a place is known of a stripe
  at-place : (i : ℕ) (x : Option (FilerStripe P)) → i < n → slice_get old.stripes.at i ≡ Some x → stripe_at (logical_before old).stripes i ≡ stripe_value x
  at-place i x less e = each-index was no_stripe n i less ∙ ap (λ o. stripe_value (in_one o)) e

  place-filled : (i : ℕ) → i < n → (x : Option (FilerStripe P)) × (slice_get old.stripes.at i ≡ Some x) × (is_some x ≡ true)
  place-filled i less = by (slice_get old.stripes.at i) refl
    where
      has : (o : Option (Option (FilerStripe P))) → slice_get old.stripes.at i ≡ o → IsSome (get (stripe_value (in_one o)).cards root)
      has o e = subst (λ (s : StripeValue). IsSome (get s.cards root)) (each-index was no_stripe n i less ∙ ap (λ x. stripe_value (in_one x)) e)
          (may.root_there i less)

      by : (o : Option (Option (FilerStripe P))) → slice_get old.stripes.at i ≡ o
          → (x : Option (FilerStripe P)) × (slice_get old.stripes.at i ≡ Some x) × (is_some x ≡ true)
      by None e = absurd (let no : false ≡ true = there-of {P = P} root None (has None e) in cc)
      by (Some x) e = (x, e, there-of root x (has (Some x) e))

  place-none : (i : ℕ) (x : Option (FilerStripe P)) → i < n → slice_get old.stripes.at i ≡ Some x → get (stripe_value x).cards f ≡ None
  place-none i x less e =
      ap (λ (q : ℕ). get (stripe_value x).cards q) is
      ∙ sym (ap (λ (s : StripeValue). get s.cards old.own.inodes.next) (at-place i x less e)) ∙ may.no_card i less

  apart-of : (d == f) ≡ false
  apart-of = ap (λ (q : ℕ). d == q) is ∙ may.apart

  module _ (one two : FilerLogical P) (created : one.own ≡ with_inodes (inode_created made old.own.inodes) old.own) (same : one.stripes ≡ old.stripes)
      (others : InFirst (DiffersByCard f) one.own.stripes one.stripes.at two.stripes.at) where
    differs : InFirst (DiffersByCard f) n old.stripes.at two.stripes.at
    differs = subst (λ (m : ℕ). InFirst (DiffersByCard f) m old.stripes.at two.stripes.at) (ap (λ (l : LogicalValue). l.stripes) created)
        (subst (λ xs. InFirst (DiffersByCard f) one.own.stripes xs two.stripes.at) (ap (λ s. s.at) same) others)

    -- where memory ran out
    module _ (failed : without_parts f two.own ≡ without_parts f one.own) where
      pub was-last : two.own.inodes.next ≡ f + 1
      was-last =
          ap (λ (l : LogicalValue). l.inodes.next) failed ∙ (ap (λ (l : LogicalValue). l.inodes.next) created ∙ ap (λ (q : ℕ). q + 1) (sym is))

      pub was-made : is_some (inode_of two.own.inodes f) ≡ true
      was-made =
          ap (λ (l : LogicalValue). is_some (inode_of l.inodes f)) failed
          ∙ (ap (λ (l : LogicalValue). is_some (inode_of l.inodes f)) created
          ∙ (ap (λ (q : ℕ). is_some (inode_of (inode_created made old.own.inodes) q)) is
          ∙ ap (λ (o : Option Inode). is_some o) (inode-created-there old.own.inodes made)))

      pub all-back : (three : FilerLogical P) → three.own ≡ node_unmade f two.own → InFirst (IsDropped f) two.own.stripes two.stripes.at three.stripes.at
          → three ≡ old
      all-back three gone dropped = λ j. record { own = own j; stripes = record { at = at j } }
        where
          unmade : LogicalValue → LogicalValue
          unmade l = with_inodes (inode_unmade l.inodes) l

          own : three.own ≡ old.own
          own =
              gone ∙ ap unmade failed ∙ ap (node_unmade f) created
              ∙ (λ j. record old.own {
                inodes = unmade-created old.own.inodes made may.inodes j;
                directories = remove-absent old.own.directories f (ap (λ (q : ℕ). get old.own.directories q) is ∙ may.no_directory) j;
                texts = remove-absent old.own.texts f (ap (λ (q : ℕ). get old.own.texts q) is ∙ may.no_text) j;
              })

          count : two.own.stripes ≡ n
          count = ap (λ (l : LogicalValue). l.stripes) failed ∙ ap (λ (l : LogicalValue). l.stripes) created

          at : three.stripes.at ≡ old.stripes.at
          at = cards-back f n old.stripes.at two.stripes.at three.stripes.at place-none differs
              (subst (λ (m : ℕ). InFirst (IsDropped f) m two.stripes.at three.stripes.at) count dropped)

    -- where it didn't
    module _ (three : FilerLogical P) (stripes : three.stripes ≡ two.stripes) where
      pub places-alike : AreFilledAlike old.stripes.at three.stripes.at
      places-alike = subst (λ s. AreFilledAlike old.stripes.at s.at) (sym stripes) (cards-alike f n old.stripes.at two.stripes.at differs)

      pub all-made : (title : List ℕ) → title ≡ name
          → (kept : Option (List ℕ)) → kept ≡ text
          → two.own ≡ with_directories (changed_at (added title f) d (directories_made made.kind f one.own.directories))
          (with_texts (texts_made kept f one.own.texts) one.own)
          → (owner : Ownership) → owner ≡ ownership_of made.attributes
          → InFirst (HasCard owner made.kind f) one.own.stripes one.stripes.at two.stripes.at
          → three.own ≡ with_inodes (inode_set d (inode_dated (naming_in_parent parent name (logical_before old)).inode made.kind
          (naming_in_parent parent name (logical_before old)).moment) two.own.inodes) two.own
          → logical_after old three ≡ node_made (making_of (naming_in_parent parent name (logical_before old)) made text) (logical_before old)
      all-made title titled kept texted tied owner owns cards set = λ j. record { own = own j; stripes = placed_now j }
        where
          dated : Inode
          dated = inode_dated (naming_in_parent parent name (logical_before old)).inode made.kind (naming_in_parent parent name (logical_before old)).moment

          entries : DirectoryValue
          entries = (naming_in_parent parent name (logical_before old)).entries

          entered : changed_at (added title f) d (directories_made made.kind f old.own.directories)
              ≡ changed_value (added name f) (Some entries) d (directories_made made.kind f old.own.directories)
          entered =
              ap (λ t. changed_at (added t f) d (directories_made made.kind f old.own.directories)) titled
              ∙ ap (λ o. changed_value (added name f) o d (directories_made made.kind f old.own.directories))
              (made-get made.kind text f old.own d apart-of ∙ may.entered)

          own : three.own ≡ (node_made (making_of (naming_in_parent parent name (logical_before old)) made text) (logical_before old)).own
          own =
              set ∙ ap (λ (l : LogicalValue). with_inodes (inode_set d dated l.inodes) l) tied
              ∙ ap (λ (l : LogicalValue). with_inodes (inode_set d dated l.inodes)
              (with_directories (changed_at (added title f) d (directories_made made.kind f l.directories)) (with_texts (texts_made kept f l.texts) l))) created
              ∙ (λ j. with_inodes (inode_set d dated (inode_created made old.own.inodes)) (with_directories (entered j)
              (with_texts (texts_made (texted j) f old.own.texts) old.own)))
              ∙ ap (λ (q : ℕ). with_inodes (inode_set d dated (inode_created made old.own.inodes))
              (with_directories (changed_value (added name q) (Some entries) d (directories_made made.kind q old.own.directories))
              (with_texts (texts_made text q old.own.texts) old.own))) is

          has : InFirst (HasCard owner made.kind f) n old.stripes.at two.stripes.at
          has = subst (λ (m : ℕ). InFirst (HasCard owner made.kind f) m old.stripes.at two.stripes.at) (ap (λ (l : LogicalValue). l.stripes) created)
              (subst (λ xs. InFirst (HasCard owner made.kind f) one.own.stripes xs two.stripes.at) (ap (λ s. s.at) same) cards)

          placed_now : (logical_after old three).stripes ≡ map (card_made (ownership_of made.attributes) made.kind old.own.inodes.next)
              (logical_before old).stripes
          placed_now =
              ap (λ s. each (λ i. stripe_value (placed s.at i)) 0 n) stripes
              ∙ cards-made owner made.kind f n old.stripes.at two.stripes.at place-filled has
              ∙ ap (λ (o : Ownership). map (card_made o made.kind f) (each was 0 n)) owns
              ∙ ap (λ (q : ℕ). map (card_made (ownership_of made.attributes) made.kind q) (each was 0 n)) is
