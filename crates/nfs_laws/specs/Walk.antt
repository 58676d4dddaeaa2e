-- A feed told byte by byte: what a byte brings the stream to, and where taking stops. It says the same as `Feeds`, for
-- a program that takes bytes one after another.
use Rattle.std.specs.Prelude.{◌≡◌, ℕ, ◌+◌, Bool, true, false, ◌&&◌, IsTrue, ◌⊎◌, List, [], ◌∷◌, ◌++◌, Option, Some, None, slice_get}
use Rattle.nfs_model.specs.World.{Heard, Scanned, Setup, World, Connection, is_crowded}
use Rattle.nfs_model.specs.Events.Feed.{stream_of, served_count, with_bytes, bytes_taken, heard_in, MayStarveIf, is_of_record, Feeding}

-- what a byte brings a stream to
pub data Reached : Type 0 where
  Further : Reached
  Complete : (heard : Heard) → Reached
  AtFault : (number : ℕ) → Reached

-- by the fault that it reached, if any, and the record that it completed, if any
abbrev pub reached_at : Option ℕ → Option Heard → Reached
reached_at (Some number) heard = AtFault number
reached_at None None = Further
reached_at None (Some heard) = Complete heard

-- by a stream's records and the number of the next
abbrev pub reached_by : Scanned → ℕ → Reached
reached_by after n = reached_at after.fault (slice_get after.served n)

-- what a byte brings a connection's stream to
abbrev pub reached : Setup → World → ℕ → ℕ → Reached
reached setup w c b = reached_by (setup.codec.scan (stream_of w c ++ b ∷ [])) (served_count setup w c)

-- whether a record is complete
abbrev pub is_complete : Reached → Bool
is_complete Further = false
is_complete (Complete heard) = true
is_complete (AtFault number) = is_of_record number

-- a connection with one more byte taken
abbrev pub with_byte : ℕ → Connection → Connection
with_byte b x = with_bytes (b ∷ []) x

-- a world with one more byte taken
abbrev pub byte_taken : World → ℕ → ℕ → World
byte_taken w c b = bytes_taken w c (b ∷ [])

-- a byte is taken, and taking goes on
abbrev pub Takes : Setup → World → ℕ → ℕ → Reached → World → Type 0
Takes setup w c b Further new = new ≡ byte_taken w c b
Takes setup w c b (Complete h) new =
    (is_crowded w ≡ false) × ((starved : Bool) × MayStarveIf starved h.asked × (new ≡ heard_in setup (byte_taken w c b) c (served_count setup w c) h starved))
Takes setup w c b (AtFault number) new = ⊥

-- a byte is taken, and reaches a fault
abbrev pub TakesFault : World → ℕ → ℕ → Reached → ℕ → ℕ → World → Type 0
TakesFault w c b (AtFault number) taken stop new =
    ((is_crowded w && is_complete (AtFault number)) ≡ false) × (taken ≡ 1) × (stop ≡ number) × (new ≡ byte_taken w c b)
TakesFault w c b Further taken stop new = ⊥
TakesFault w c b (Complete h) taken stop new = ⊥

-- a byte isn't taken: the places are full (31), which is looked at first, or memory ran out (90)
abbrev pub Stops : World → Reached → ℕ → ℕ → World → Type 0
Stops w at taken stop new =
    (taken ≡ 0) × (new ≡ w) × (((stop ≡ 31) × IsTrue (is_crowded w && is_complete at)) ⊎ ((stop ≡ 90) × ((is_crowded w && is_complete at) ≡ false)))

module _ (setup : Setup) (c stop : ℕ) (new : World) where
  -- The bytes of a feed that are left, of which this many are taken: all are (0), or taking stops before
  -- a byte, or at the fault that a byte reaches.
  abbrev pub WalksOver : World → List ℕ → ℕ → Type 0
  WalksOver w [] taken = (taken ≡ 0) × (stop ≡ 0) × (new ≡ w)
  WalksOver w (b ∷ bs) taken =
      Stops w (reached setup w c b) taken stop new
      ⊎ (TakesFault w c b (reached setup w c b) taken stop new
      ⊎ ((middle : World) × (rest : ℕ) × (taken ≡ rest + 1) × Takes setup w c b (reached setup w c b) middle × WalksOver middle bs rest))

-- a feed, byte by byte
abbrev pub Walks : Setup → Feeding → World → World → Type 0
Walks setup f w new = WalksOver setup f.connection f.stop new w f.bytes f.taken
