-- A connection that bytes come on.
use Rattle.std.specs.Prelude.{◌≡◌, ℕ, Bool, false, ◌&&◌, List, Option, Some, None, is_none}
use Rattle.std.specs.List.{AllByRecursion}
use Rattle.rpc_msg.specs.declared.offer.Offer.{Offer}
use Rattle.engine_feed.specs.declared.stop.Stop.{Stop}
use Rattle.engine_feed.specs.declared.state.ConnectionState.{ConnectionState}
use Rattle.engine_feed.specs.declared.state.CallsState.{CallsState}
use Rattle.engine_feed.specs.Seen.{layout_in, messages_of}
use Rattle.engine_feed.specs.Sound.{IsAdmitted}
use Rattle.engine_feed.specs.Streams.{scan_stream}
use Rattle.engine_feed.specs.Words.{TakesInput, HasFed, Adds}
use Rattle.slab.specs.Slab.{Slab, get, with_value}
use Rattle.engine.specs.Connections.{Held, Open}
use Rattle.engine.specs.Seen.{connection_seen}

-- open, and at no fault, by what is offered
abbrev pub takes_bytes : Offer → Held → Bool
takes_bytes offer c = is_none (connection_seen c).closed && is_none (scan_stream offer (connection_seen c).stream).fault

-- this many of the bytes were taken, and this stopped the taking
pub record IsFed (offer : Offer) (calls : CallsState) (old : Held) (number : ℕ) (bytes : List ℕ) (taken : ℕ) (stop : Stop)
    (calls' : CallsState) (new : Held) : Type 0 where
  pub before : ConnectionState
  pub after : ConnectionState
  pub was : old ≡ Open before
  pub is : new ≡ Open after
  pub takes : TakesInput before
  pub feeds : HasFed offer calls before number bytes taken stop calls' after
  pub adds : Adds calls before number calls' after
  pub admitted : AllByRecursion (IsAdmitted (layout_in calls')) (messages_of calls')

-- bytes are taken where the connection takes any; else nothing changes
abbrev pub Receives : Offer → CallsState → Held → ℕ → List ℕ → Option (ℕ × Stop) → CallsState → Held → Type 0
Receives offer calls old number bytes None calls' new = (takes_bytes offer old ≡ false) × (new ≡ old) × (calls' ≡ calls)
Receives offer calls old number bytes (Some r) calls' new = IsFed offer calls old number bytes r.0 r.1 calls' new

-- the open connection that is kept under a key
pub record ReceivesUnder (offer : Offer) (calls : CallsState) (slab : Slab ConnectionState) (key number : ℕ) (bytes : List ℕ) (answer : Option (ℕ × Stop))
    (calls' : CallsState) (slab' : Slab ConnectionState) : Type 0 where
  pub before : ConnectionState
  pub after : ConnectionState
  pub was : get slab key ≡ Some before
  pub is : slab' ≡ with_value slab key after
  pub receives : Receives offer calls (Open before) number bytes answer calls' (Open after)
