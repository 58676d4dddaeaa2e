-- Values by fileid: a chunk has 32 fileids, a page 256 chunks.
use Rattle.std.specs.Prelude.{Bool, ◌≡◌, ℕ, ◌+◌, ◌/◌, ◌%◌, ◌==◌, List, [], ◌∷◌, Option, Some, None, is_some, slice_index_or, if◌then◌else◌}

-- how many fileids a chunk has
abbrev pub chunk_size : ℕ
chunk_size = 32

-- a chunk: the value of each slot, if there is one
abbrev pub Slots : Type 0 → Type 0
Slots V = List (Option V)

-- the value of a fileid in its chunk
abbrev pub slot_of : {V : Type 0} → Slots V → ℕ → Option V
slot_of slots fileid = slice_index_or slots (fileid % chunk_size) None

abbrev pub one_if : Bool → ℕ
one_if b = if b then 1 else 0

-- how many values a chunk has
abbrev pub used_in : {V : Type 0} → Slots V → ℕ
used_in [] = 0
used_in (slot ∷ slots) = one_if (is_some slot) + used_in slots

-- of what is under each fileid: what is in the slot of one set
abbrev pub SetsAt : {V : Type 0} → ℕ → Option V → (ℕ → Option V) → (ℕ → Option V) → Type 0
SetsAt fileid value old new = (q : ℕ) → new q ≡ (if q % chunk_size == fileid % chunk_size then value else old q)

-- ---- pages

-- how many chunks a page has
abbrev pub page_chunks : ℕ
page_chunks = 256

-- how many fileids a page has
abbrev pub page_size : ℕ
page_size = 8192

-- the place of a fileid's chunk on its page
abbrev pub place_of : ℕ → ℕ
place_of fileid = (fileid / chunk_size) % page_chunks

-- the chunk at a place, if there is one
abbrev pub chunk_at : {C : Type 0} → List (Option C) → ℕ → Option C
chunk_at page place = slice_index_or page place None

-- the value of a fileid, where there may be no chunk, by what a chunk has under a fileid
abbrev pub slot_by : {C V : Type 0} → (C → ℕ → Option V) → Option C → ℕ → Option V
slot_by slot None fileid = None
slot_by slot (Some chunk) fileid = slot chunk fileid

-- the value of a fileid on its page
abbrev pub value_on : {C V : Type 0} → (C → ℕ → Option V) → List (Option C) → ℕ → Option V
value_on slot page fileid = slot_by slot (chunk_at page (place_of fileid)) fileid

-- ---- what is done, of what is under each fileid

-- the same under each
abbrev pub SameAt : {V : Type 0} → (ℕ → Option V) → (ℕ → Option V) → Type 0
SameAt old new = (q : ℕ) → new q ≡ old q

-- what is under one set
abbrev pub Sets : {V : Type 0} → ℕ → Option V → (ℕ → Option V) → (ℕ → Option V) → Type 0
Sets fileid value old new = (q : ℕ) → new q ≡ (if q == fileid then value else old q)

-- what is under one set, among those of its chunk, or of its page
abbrev pub SetsAmong : {V : Type 0} → ℕ → ℕ → Option V → (ℕ → Option V) → (ℕ → Option V) → Type 0
SetsAmong size fileid value old new = (q : ℕ) → q / size ≡ fileid / size → new q ≡ (if q == fileid then value else old q)
