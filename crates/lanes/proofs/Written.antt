-- What a lane's type says of a connection that is closed.
use Rattle.std.proofs.Common.{◌≡◌, ◌∙◌, ℕ, List, Option, Some, None, refl, sym, subst}
use Rattle.std.proofs.Math.Logic.{∥∥₁_map}
use Rattle.std.proofs.lemmas.Option.{none-some, same_Some}
use Rattle.std.specs.Prelude.{IfSome}
use Rattle.slab.specs.Slab.{Slab, get}
use Rattle.outboxes.specs.Boxes.{Boxes}
use Rattle.granted_calls.specs.Filers.{layout_in}
use Rattle.connections.specs.declared.connection.Connection.{Connection}
use Rattle.connections.specs.declared.device.Device as devices
use Rattle.connections.specs.Connections.{now_of, number_of}
use Rattle.connections.specs.Keyed.{Closes}
use Rattle.connections.specs.Writing.{Writes}
use Rattle.lanes.specs.declared.lane.Lane.{Lane}
use Rattle.lanes.specs.Story.{Life, HasLived, number_at, told_to}
use Rattle.lanes.specs.Words.{boxes_in, closed_in, connections_in, count_in, filer_in, index_in, offer_in, HasStory}
use Rattle.lanes.specs.Written.{WasWritten}

module _ {D R : Type 0} {G : devices.Ghosts D} where
  -- of one that is open
  while-open : (lane : Lane D R G) → HasStory G.unread G.written lane → (key : ℕ) (c : Connection D) → get (connections_in lane) key ≡ Some c
      → WasWritten G.written lane key (now_of c)
  while-open lane s key c is =
      let k = s.known key c is in
      let l = subst (λ (life : Life). HasLived G.unread G.written (layout_in (filer_in lane)) (offer_in lane) s.came s.endings (boxes_in lane)
      (get (connections_in lane)) (closed_in lane) (number_at (index_in lane) (count_in lane) k.0) life) k.2 (s.each k.0 k.1) in
      let same : l.0 ≡ c = same_Some l.0 c (sym l.2 ∙ is) in
      let w = subst (λ (x : Connection D). Writes G.written x.opened.value x l.1 (told_to (offer_in lane) (number_of x) s.endings)) same l.5.writes in
      record {
        connection = c;
        stood = is;
        device_is = refl;
        ended = s.endings;
        finished = s.finished;
        given = w.given;
        waits = w.left;
        went_out = w.went_out;
        are = w.are;
      }

  -- and so of the device that comes back
  by-slot : (lane : Lane D R G) (key : ℕ) (o : Option (Connection D)) → get (connections_in lane) key ≡ o → (result : Option D)
      (slab' : Slab (Connection D)) (boxes' : Boxes) → Closes (connections_in lane) key (boxes_in lane) o result slab' boxes'
      → IfSome result (λ device. ∥ WasWritten G.written lane key device ∥₁)
  by-slot lane key o is None slab' boxes' h = tt
  by-slot lane key None is (Some device) slab' boxes' (none, _, _) = absurd (none-some device (sym none))
  by-slot lane key (Some c) is (Some device) slab' boxes' (back, _, _) =
      ∥∥₁_map lane.story (λ s. subst (λ (d : D). WasWritten G.written lane key d) (sym (same_Some device (now_of c) back)) (while-open lane s key c is))

  pub written-told : (lane : Lane D R G) (key : ℕ) (result : Option D) (slab' : Slab (Connection D)) (boxes' : Boxes)
      → Closes (connections_in lane) key (boxes_in lane) (get (connections_in lane) key) result slab' boxes'
      → IfSome result (λ device. ∥ WasWritten G.written lane key device ∥₁)
  written-told lane key result slab' boxes' h = by-slot lane key (get (connections_in lane) key) refl result slab' boxes' h
