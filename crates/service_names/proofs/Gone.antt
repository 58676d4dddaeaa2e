-- A file emptied and then dropped.
use Rattle.std.proofs.Common.{◌≡◌, ℕ, ◌==◌, Bool, true, false, List, [], ◌∷◌, map, Option, Some, None, refl, sym, ap, ◌∙◌}
use Rattle.std.specs.Prelude.{if◌then◌else◌}
use Rattle.std.specs.Cmp.{nat_cmp_total}
use Rattle.std.specs.FinMap.{nat_cmp-IsAntisymmetric}
use Rattle.nfs_model.specs.volume.lemmas.Numbered.{get-remove_at}
use Rattle.std.specs.FinMap as maps
use Rattle.std.specs.Ordering.{nat_cmp}
use Rattle.nfs_model.specs.Types.{Moment, Ownership}
use Rattle.nfs_model.specs.Serial.Rights.{ownership_of}
use Rattle.nfs_model.specs.volume.Inodes.{Inode}
use Rattle.nfs_model.specs.volume.Stripes.{Card, OfFile, StripeValue, card_dropped, cut, touch_of, touch_taken}
use Rattle.filer_state.specs.state.Lenses.{LogicalSet}
use Rattle.filer_state.specs.state.Parcels.{no_stripe}
use Rattle.filer_state.specs.state.Sets.{FilerStripe, FilerLogical, stripe_value, logical_set, logical_before, logical_after}
use Rattle.filer_state.specs.changes.NodesSized.{Sizing, stripe_sized, file_sized}
use Rattle.filer_state.specs.changes.NodesDropped.{Dropping, directory_left, node_dropped}
use Rattle.filer_state.specs.changes.Named.{HeldNode}
use Rattle.filer_state.specs.changes.Dropping.{dropping_of, emptying_of, child_emptied}
use Rattle.service_names.specs.Naming.{naming_in}
use Rattle.service_names.specs.Shaping.{stripe_shaped, file_shaped}
use Rattle.service_names.proofs.Putting.{remove-put}

-- an empty place stays as it is
pub vacant-dropped : {P : Type 0} (o : Option (FilerStripe P)) (fileid : ℕ) → o ≡ None → stripe_value o ≡ card_dropped fileid (stripe_value o)
vacant-dropped None fileid e = λ j. record no_stripe {
  cards = sym (maps.same_map nat_cmp_total nat_cmp-IsAntisymmetric (maps.remove no_stripe.cards fileid) no_stripe.cards none) j;
}
  where
    none : (q : ℕ) → maps.get (maps.remove no_stripe.cards fileid) q ≡ maps.get no_stripe.cards q
    none q = get-remove_at no_stripe.cards fileid q ∙ by (q == fileid)
      where
        by : (b : Bool) → (if b then None else maps.get no_stripe.cards q) ≡ maps.get no_stripe.cards q
        by true = sym (maps.get-empty {X = Card} nat_cmp q)
        by false = refl
vacant-dropped (Some s) fileid e = absurd cc

-- a card that is dropped needn't be set before
card-gone : (fileid size : ℕ) (owner : Ownership) (s : StripeValue)
    → card_dropped fileid (stripe_shaped fileid size None s) ≡ card_dropped fileid (stripe_sized fileid size owner s)
card-gone fileid size owner s =
    let cut_there = cut fileid size (touch_taken fileid s) in
    ap (λ cards. record cut_there { cards = cards })
    (sym (remove-put cut_there.cards fileid (OfFile size (touch_of (maps.get cut_there.cards fileid)) owner)))

cards-gone : (fileid size : ℕ) (owner : Ownership) (stripes : List StripeValue)
    → map (card_dropped fileid) (map (stripe_shaped fileid size None) stripes)
    ≡ map (card_dropped fileid) (map (stripe_sized fileid size owner) stripes)
cards-gone fileid size owner [] = refl
cards-gone fileid size owner (s ∷ stripes) = λ j. card-gone fileid size owner s j ∷ cards-gone fileid size owner stripes j

-- a file dropped, whose cards stayed when it lost its bytes
dropped-alike : (m : Sizing) (d : Dropping) → d.fileid ≡ m.fileid → (s : LogicalSet)
    → node_dropped d (file_shaped m None s) ≡ node_dropped d (file_sized m s)
dropped-alike m d same s =
    let owner = ownership_of m.attributes in
    λ j. record (node_dropped d (file_sized m s)) {
      stripes = (ap (λ (f : ℕ). map (card_dropped f) (map (stripe_shaped m.fileid m.size None) s.stripes)) same
          ∙ cards-gone m.fileid m.size owner s.stripes
          ∙ ap (λ (f : ℕ). map (card_dropped f) (map (stripe_sized m.fileid m.size owner) s.stripes)) (sym same)) j;
    }

module _ {P : Type 0} (old mid new : FilerLogical P) (v directory : ℕ) (as_directory : Inode) (name : List ℕ) (moment : Moment) (child : HeldNode)
    (emptied left : Inode) (is : emptied ≡ (child_emptied child (logical_before old)).inode) where
  -- the file without bytes
  abbrev there : Inode → HeldNode
  there i = record { fileid = child.fileid; inode = i }

  pub emptied-left : left ≡ directory_left (dropping_of (naming_in v directory as_directory name moment (logical_before mid)) (there emptied))
      → left ≡ directory_left (dropping_of (naming_in v directory as_directory name moment (logical_before old)) (child_emptied child (logical_before old)))
  emptied-left left_is =
      left_is ∙ ap (λ (i : Inode). directory_left (dropping_of (naming_in v directory as_directory name moment (logical_before mid)) (there i))) is

  pub emptied-gone : logical_after old mid ≡ file_shaped (emptying_of child) None (logical_before old)
      → logical_after mid new
      ≡ node_dropped (dropping_of (naming_in v directory as_directory name moment (logical_before mid)) (there emptied)) (logical_before mid)
      → logical_after old new
      ≡ node_dropped (dropping_of (naming_in v directory as_directory name moment (logical_before old)) (child_emptied child (logical_before old)))
      (file_sized (emptying_of child) (logical_before old))
  emptied-gone sized gone =
      let same : mid.own.stripes ≡ old.own.stripes = ap (λ (s : LogicalSet). s.own.stripes) sized in
      let at : logical_before mid ≡ file_shaped (emptying_of child) None (logical_before old) = ap (λ (n : ℕ). logical_set n mid) same ∙ sized in
      ap (λ (n : ℕ). logical_set n new) (sym same) ∙ gone
      ∙ ap (λ (i : Inode). node_dropped (dropping_of (naming_in v directory as_directory name moment (logical_before mid)) (there i)) (logical_before mid)) is
      ∙ ap (λ (s : LogicalSet). node_dropped (dropping_of (naming_in v directory as_directory name moment s) (child_emptied child (logical_before old))) s) at
      ∙ dropped-alike (emptying_of child)
      (dropping_of (naming_in v directory as_directory name moment (logical_before old)) (child_emptied child (logical_before old))) refl
      (logical_before old)
