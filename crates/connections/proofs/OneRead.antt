-- One read of a connection, by its answer.
use Rattle.std.proofs.Common.{◌≡◌, ◌<◌, ℕ, Bool, true, false, List, [], ◌++◌, length, take, Option, Some, None, refl, sym, ap, subst}
use Rattle.std.proofs.Common.{append-nil, arith}
use Rattle.std.proofs.KnownBytes.{Keeps-refl}
use Rattle.std.specs.Io.KnownBytes.{Keeps}
use Rattle.rpc_msg.specs.declared.offer.Offer.{Offer}
use Rattle.nfs_model.specs.Tree.{Layout}
use Rattle.tcp_front.specs.declared.stream.Stopped.{Stopped}
use Rattle.tcp_front.specs.declared.stream.Stream.{Stream}
use Rattle.tcp_front.specs.Arrivals.{Arrival, most_records}
use Rattle.connections.specs.declared.connection.Connection.{Connection}
use Rattle.connections.specs.declared.reading.Came.{Came}
use Rattle.connections.specs.declared.reading.Came.TheVariants as cames
use Rattle.connections.specs.declared.told.Told.TheVariants as tolds
use Rattle.connections.specs.declared.watched.Watched.{Watched}
use Rattle.connections.specs.Incoming.{Incoming, Gives, GivesNone}
use Rattle.connections.specs.Told.{HasCalled}
use Rattle.connections.specs.lemmas.Incoming.{gives-kept, gives-none}
use Rattle.connections.specs.Connections.{has_stopped, kept_of, now_of}
use Rattle.connections.specs.Cutting.{HasCut}
use Rattle.connections.specs.Reading.{Cuts, HasRead, HasSameWriting, IsTold}
use Rattle.connections.proofs.Cut.{adds-nothing}

module _ {D S : Type 0} (unread : D → Incoming) (written : D → Option (List ℕ)) (came : S → List Arrival → S → Type 0) (room : S → Bool)
    (layout : Layout) (offer : Offer) (old : Connection D) (sink : S) (size : ℕ) where
  cuts-stopped : (o : Option Stopped) (s : Stream) (kept : List ℕ) → has_stopped o → came sink [] sink
      → Cuts came room layout offer o s sink kept [] [] o s sink kept
  cuts-stopped None s kept h none = absurd h
  cuts-stopped (Some stop) s kept h none = (none, refl, refl, refl, refl, refl)

  -- nothing where the reading had stopped
  pub read-stopped : came sink [] sink → has_stopped old.stopped
      → HasRead unread written came room layout offer old sink size cames.Stopped old sink
  read-stopped none h = record {
    read = [];
    heard = [];
    taken = gives-none (unread (now_of old));
    apart = Keeps-refl (written (now_of old));
    given = none;
    cuts = cuts-stopped old.stopped old.stream old.kept h none;
    told = (h, refl);
    number = refl;
    peer = refl;
    same = (refl, refl, refl, refl, refl);
  }

  cuts-idle : (o : Option Stopped) (s : Stream) (kept : List ℕ) → o ≡ None → s.records < most_records
      → (0 < length kept → room sink ≡ false) → came sink [] sink → Cuts came room layout offer o s sink kept [] [] o s sink kept
  cuts-idle None s kept e few full none = (
    record {
      cut = [];
      lost = [];
      split = refl;
      taken = record {
        heard = [];
        given = none;
        count = omega arith;
        same = (refl, refl);
        stops = (adds-nothing offer s.reassembler, few);
      };
      none_lost = λ e. refl;
      full = λ e. full;
    },
    refl,
  )
  cuts-idle (Some stop) s kept e few full none = absurd cc

  -- nothing is cut, whatever the device told
  pub read-nothing : (new : Connection D) (result : Came) → old.stopped ≡ None → (0 < length (kept_of old) → room sink ≡ false)
      → came sink [] sink → Gives (unread (now_of old)) (unread (now_of new)) [] → Keeps (written (now_of old)) (written (now_of new))
      → IsTold unread (room sink) size result old new
      → new.stream ≡ old.stream → new.kept ≡ old.kept → new.stopped ≡ old.stopped → HasSameWriting old new
      → HasRead unread written came room layout offer old sink size result new sink
  read-nothing new result none full law taken apart told s k st same = record {
    read = [];
    heard = [];
    taken = taken;
    apart = apart;
    given = law;
    cuts = subst (λ (x : Stream). Cuts came room layout offer old.stopped old.stream sink old.kept [] [] new.stopped x sink new.kept) (sym s)
        (subst (λ (x : List ℕ). Cuts came room layout offer old.stopped old.stream sink old.kept [] [] new.stopped old.stream sink x) (sym k)
        (subst (λ (x : Option Stopped). Cuts came room layout offer old.stopped old.stream sink old.kept [] [] x old.stream sink old.kept) (sym st)
        (cuts-idle old.stopped old.stream old.kept none (old.few none) full law)));
    told = told;
    number = ap (λ (x : Stream). x.connection) s;
    peer = ap (λ (x : Stream). x.peer) s;
    same = same;
  }

  cuts-by : (o : Option Stopped) (read : List ℕ) (s : Stream) (kept : List ℕ) (stopped : Option Stopped) (s' : Stream) (sink' : S) (kept' : List ℕ)
      → o ≡ None → (h : HasCut came room layout offer s sink (kept ++ read) stopped s' sink' kept')
      → Cuts came room layout offer o s sink kept read h.taken.heard stopped s' sink' kept'
  cuts-by None read s kept stopped s' sink' kept' e h = (h, refl)
  cuts-by (Some stop) read s kept stopped s' sink' kept' e h = absurd cc

  -- what was read is cut, with what was kept
  read-cut : (new : Connection D) (sink' : S) (result : Came) (read : List ℕ) → old.stopped ≡ None
      → (h : HasCut came room layout offer old.stream sink (kept_of old ++ read) new.stopped new.stream sink' (kept_of new))
      → Gives (unread (now_of old)) (unread (now_of new)) read → Keeps (written (now_of old)) (written (now_of new))
      → IsTold unread (room sink) size result old new → HasSameWriting old new
      → HasRead unread written came room layout offer old sink size result new sink'
  read-cut new sink' result read none h taken apart told same = record {
    read = read;
    heard = h.taken.heard;
    taken = taken;
    apart = apart;
    given = h.taken.given;
    cuts = cuts-by old.stopped read old.stream old.kept new.stopped new.stream sink' new.kept none h;
    told = told;
    number = h.taken.same.0;
    peer = h.taken.same.1;
    same = same;
  }

  pub read-kept : (new : Connection D) (sink' : S) → old.stopped ≡ None → room sink ≡ true → 0 < length (kept_of old) → new.device ≡ old.device
      → HasCut came room layout offer old.stream sink (kept_of old) new.stopped new.stream sink' (kept_of new) → HasSameWriting old new
      → HasRead unread written came room layout offer old sink size cames.Cut new sink'
  read-kept new sink' none roomy some device h same =
      read-cut new sink' cames.Cut [] none
      (subst (λ (l : List ℕ). HasCut came room layout offer old.stream sink l new.stopped new.stream sink' (kept_of new)) (sym (append-nil old.kept)) h)
      (subst (λ (x : D). Gives (unread (now_of old)) (unread x) []) (ap (λ (x : Watched D). x.device) (sym device))
      (gives-none (unread (now_of old))))
      (subst (λ (x : D). Keeps (written (now_of old)) (written x)) (ap (λ (x : Watched D). x.device) (sym device))
      (Keeps-refl (written (now_of old))))
      (none, roomy, some, device) same

  pub read-new : (new : Connection D) (sink' : S) (n : ℕ) (read : List ℕ) → old.stopped ≡ None → room sink ≡ true → old.kept ≡ [] → 0 < n
      → HasCut came room layout offer old.stream sink read new.stopped new.stream sink' (kept_of new)
      → Gives (unread (now_of old)) (unread (now_of new)) read → Keeps (written (now_of old)) (written (now_of new))
      → HasCalled old.device size (tolds.Moved n) new.device → HasSameWriting old new
      → HasRead unread written came room layout offer old sink size (cames.Read n) new sink'
  read-new new sink' n read none roomy empty some h taken apart called same =
      read-cut new sink' (cames.Read n) read none
      (subst (λ (l : List ℕ). HasCut came room layout offer old.stream sink (l ++ read) new.stopped new.stream sink' (kept_of new)) (sym empty) h)
      taken apart ((none, empty), roomy, called, some) same

pub took-none : (a b : Incoming) → GivesNone a b → Gives a b []
took-none a b k = gives-kept a a b [] (gives-none a) k

pub took-zero : (a b : Incoming) (n : ℕ) (block : List ℕ) → n ≡ 0 → Gives a b (take n block) → Gives a b []
took-zero a b n block e h = subst (λ (k : ℕ). Gives a b (take k block)) e h

-- none of some
pub none-some : (xs : List ℕ) (b : Bool) → xs ≡ [] → 0 < length xs → b ≡ false
none-some xs b e some = absurd (omega (arith, ap (λ (l : List ℕ). length l) e, some))
