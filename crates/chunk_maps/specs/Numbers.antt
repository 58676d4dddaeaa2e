-- Pages by their numbers, which rise.
use Rattle.std.specs.Prelude.{◌≡◌, ℕ, zero, suc, ◌+◌, ◌/◌, ◌<◌, ◌≤◌, ◌==◌, List, [], ◌∷◌, length, Option, Some, None, if◌then◌else◌}
use Rattle.std.specs.Global.{Vec}
use Rattle.chunk_maps.specs.Chunks.{page_size, value_on}

-- the page of a number, if there is one
abbrev pub page_of : {P : Type 0} → List (ℕ × P) → ℕ → Option P
page_of [] number = None
page_of (page ∷ pages) number = if number == page.0 then Some page.1 else page_of pages number

-- the numbers rise, and the first is no less than this one
abbrev pub Rise : {P : Type 0} → ℕ → List (ℕ × P) → Type 0
Rise least [] = Unit {0}
Rise least (page ∷ pages) = (least ≤ page.0) × Rise (page.0 + 1) pages

-- the number at a place
abbrev pub number_at : {P : Type 0} → List (ℕ × P) → ℕ → ℕ
number_at [] place = 0
number_at (page ∷ pages) zero = page.0
number_at (page ∷ pages) (suc place) = number_at pages place

-- the page of a number is at a place
pub record IsAt {P : Type 0} (pages : List (ℕ × P)) (number place : ℕ) : Type 0 where
  pub within : place < length pages
  pub has : number_at pages place ≡ number

-- a number has no page, which would be at a place
pub record IsGap {P : Type 0} (pages : List (ℕ × P)) (number place : ℕ) : Type 0 where
  pub within : place ≤ length pages
  pub less : (j : ℕ) → j < place → number_at pages j < number
  pub greater : (j : ℕ) → place ≤ j → j < length pages → number < number_at pages j

-- the value of a fileid, where there may be no page
abbrev pub value_in : {C V : Type 0} → (C → ℕ → Option V) → Option (Vec (Option C)) → ℕ → Option V
value_in slot None fileid = None
value_in slot (Some page) fileid = value_on slot page.items fileid

-- the value of a fileid among pages, by what a chunk has under a fileid
abbrev pub value_among : {C V : Type 0} → (C → ℕ → Option V) → List (ℕ × Vec (Option C)) → ℕ → Option V
value_among slot pages fileid = value_in slot (page_of pages (fileid / page_size)) fileid
