-- Connections by number, read through the slab that keeps the open ones.
use Rattle.std.specs.Prelude.{◌≡◌, ℕ, List, map, Option, Some, None, slice_get}
use Rattle.slab.specs.Slab.{Slab, get}
use Rattle.engine_feed.specs.declared.state.ConnectionState.{ConnectionState}
use Rattle.engine.specs.declared.connection.Connection.{Connection}
use Rattle.engine.specs.declared.connection.Connection.TheVariants as places
use Rattle.engine.specs.declared.connection.ClosedConnection.{ClosedConnection}

-- what a number has: an open connection or a closed one, or a key under which nothing is kept, which no number of an engine has
pub data Held : Type 0 where
  Open : (state : ConnectionState) → Held
  Closed : (closed : ClosedConnection) → Held
  Missing : Held

abbrev pub held_under : Option ConnectionState → Held
held_under None = Missing
held_under (Some x) = Open x

abbrev pub held_at : Slab ConnectionState → Connection → Held
held_at slab (places.Open key) = held_under (get slab key)
held_at slab (places.Closed c) = Closed c

-- what each number has
abbrev pub held_by : List Connection → Slab ConnectionState → List Held
held_by cs slab = map (held_at slab) cs

-- the key of an open connection
abbrev pub key_at : Option Connection → Option ℕ
key_at None = None
key_at (Some (places.Open key)) = Some key
key_at (Some (places.Closed c)) = None

-- an open connection is kept under its key, and no two have one key
pub record AreKeyed (cs : List Connection) (slab : Slab ConnectionState) : Type 0 where
  pub kept : (i key : ℕ) → slice_get cs i ≡ Some (places.Open key) → (x : ConnectionState) × (get slab key ≡ Some x)
  pub apart : (i j key : ℕ) → slice_get cs i ≡ Some (places.Open key) → slice_get cs j ≡ Some (places.Open key) → i ≡ j
