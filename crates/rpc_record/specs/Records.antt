-- Record marking (RFC 5531, section 11): what the records of a stream are.
use Rattle.std.specs.Prelude.{◌≡◌, ℕ, ◌+◌, ◌^◌, ◌≤◌, ◌<◌, Bool, true, false, List, [], ◌∷◌, ◌++◌, length, if◌then◌else◌}
use Rattle.std.specs.List.{flat_map, concat}
use Rattle.std.specs.Int.{w32, to_be_bytes}

-- the most bytes of a record: our profile, as the RFC sets no limit
abbrev pub limit : ℕ
limit = 131072

-- the bit of a header that marks the last fragment (RFC 5531, section 11)
abbrev pub last_bit : ℕ
last_bit = 2 ^ 31

-- a fragment's header (RFC 5531, section 11): its size in the low 31 bits, and the top bit where
-- it is the last
abbrev pub header : Bool → ℕ → List ℕ
header last size = to_be_bytes w32 (size + (if last then last_bit else 0))

-- a fragment (RFC 5531, section 11): its header, then its data
abbrev pub fragment : Bool → List ℕ → List ℕ
fragment last part = header last (length part) ++ part

-- fragments that are not the last
abbrev pub front : List (List ℕ) → List ℕ
front parts = flat_map (fragment false) parts

-- The bytes spell the record (RFC 5531, section 11): fragments, of which just the final one is
-- marked as the last, and whose joined data is the record.
pub record IsRecord (made bytes : List ℕ) : Type 0 where
  pub parts : List (List ℕ)
  pub last : List ℕ
  pub joined : made ≡ concat parts ++ last
  pub small : length made ≤ limit
  pub bytes_are : bytes ≡ front parts ++ fragment true last

-- the bytes begin with the record as one fragment
abbrev pub BeginsWith : List ℕ → List ℕ → Type 0
BeginsWith made bytes = (length made ≤ limit) × ((rest : List ℕ) × (bytes ≡ fragment true made ++ rest))

-- no beginning of the bytes spells a record
abbrev pub HasNoRecord : List ℕ → Type 0
HasNoRecord bytes = (made spelled after : List ℕ) → bytes ≡ spelled ++ after → IsRecord made spelled → ⊥

-- The bytes are whole fragments, none the last, and one more header, which brings the record
-- above the limit (our profile).
pub record IsAtFault (bytes : List ℕ) : Type 0 where
  pub parts : List (List ℕ)
  pub last : Bool
  pub size : ℕ
  pub fits : size < 2 ^ 31
  pub before : length (concat parts) ≤ limit
  pub above : limit < length (concat parts) + size
  pub bytes_are : bytes ≡ front parts ++ header last size

-- a beginning of the bytes ends in a header at fault
abbrev pub HasFault : List ℕ → Type 0
HasFault bytes = (begun : List ℕ) × (after : List ℕ) × (bytes ≡ begun ++ after) × IsAtFault begun

-- no beginning of the bytes ends in a header at fault
abbrev pub HasNoFault : List ℕ → Type 0
HasNoFault bytes = (begun after : List ℕ) → bytes ≡ begun ++ after → IsAtFault begun → ⊥

-- The bytes are spellings of the records, one after another.
abbrev pub AreRecords : List (List ℕ) → List ℕ → Type 0
AreRecords [] bytes = bytes ≡ []
AreRecords (made ∷ others) bytes =
    (spelled : List ℕ) × (after : List ℕ) × (bytes ≡ spelled ++ after) × IsRecord made spelled × AreRecords others after

-- The stream is spellings of the records, one after another, and then rest, in which no record
-- is whole.
pub record Records (stream : List ℕ) (records : List (List ℕ)) (rest : List ℕ) : Type 0 where
  pub spelled : List ℕ
  pub stream_is : stream ≡ spelled ++ rest
  pub are_records : AreRecords records spelled
  pub none_left : HasNoRecord rest
