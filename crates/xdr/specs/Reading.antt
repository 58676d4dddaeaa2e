-- Reading from left to right, to the first fault that is met.
use Rattle.std.specs.Prelude.{◌≡◌, ℕ, zero, suc, ◌+◌, Bool, true, false, List, [], ◌∷◌, length, take, drop, Some, None, Result, Ok, Err, nat_lt, ◌==◌}
use Rattle.std.specs.Prelude.{if◌then◌else◌}
use Rattle.std.specs.List.{list_any, list_all}
use Rattle.std.specs.Int.{Width, w32, w64, byte_len, from_be_bytes}
use Rattle.std.proofs.Common.{inl, inr}
use Rattle.xdr.specs.declared.fault.Fault.{Fault}
use Rattle.xdr.specs.declared.fault.Fault.TheVariants.{Short, BadBool, BadEnum, BadPad, TooLong, LeftOver}
use Rattle.xdr.specs.Shape.{Shape, Void, Word, Hyper, Boolean, Choice, Fixed, Opaque, Pair, Array, Case, NoCase, Optional, Chain, Value, padding}

infixl 10 ◌>>=◌
abbrev pub ◌>>=◌ : {A B : Type 0} → Result A Fault → (A → Result B Fault) → Result B Fault
(Ok x) >>= f = f x
(Err e) >>= f = Err e

-- What is read first, and what stands behind it.
abbrev pub Reads : Type 0 → Type 0
Reads A = Result (A × List ℕ) Fault

abbrev pub number_at : Width → List ℕ → Reads ℕ
number_at w bytes = if nat_lt (length bytes) (byte_len w) then Err Short else Ok (from_be_bytes w (take (byte_len w) bytes), drop (byte_len w) bytes)

abbrev pub boolean_of : ℕ → List ℕ → Reads Bool
boolean_of n rest = if n == 0 then Ok (false, rest) else if n == 1 then Ok (true, rest) else Err BadBool

unfoldable pub boolean_at : List ℕ → Reads Bool
boolean_at bytes = number_at w32 bytes >>= λ n. boolean_of n.0 n.1

unfoldable pub choice_at : List ℕ → List ℕ → Reads ℕ
choice_at numbers bytes = number_at w32 bytes >>= λ n. if list_any (λ m. m == n.0) numbers then Ok n else Err BadEnum

unfoldable pub fixed_at : ℕ → List ℕ → Reads (List ℕ)
fixed_at size bytes =
    if nat_lt (length bytes) (size + padding size) then Err Short
    else if list_all (λ b. b == 0) (take (padding size) (drop size bytes)) then Ok (take size bytes, drop (padding size) (drop size bytes))
    else Err BadPad

-- a length of at most this many
unfoldable pub length_at : ℕ → List ℕ → Reads ℕ
length_at most bytes = number_at w32 bytes >>= λ n. if nat_lt most n.0 then Err TooLong else Ok n

unfoldable pub opaque_at : ℕ → List ℕ → Reads (List ℕ)
opaque_at most bytes = length_at most bytes >>= λ n. fixed_at n.0 n.1

-- this many items
abbrev pub items_at : {A : Type 0} → (List ℕ → Reads A) → ℕ → List ℕ → Reads (List A)
items_at item zero bytes = Ok ([], bytes)
items_at item (suc n) bytes = item bytes >>= λ x. items_at item n x.1 >>= λ xs. Ok (x.0 ∷ xs.0, xs.1)

-- items up to the flag that is false, of which there are at most this many
abbrev pub links_at : {A : Type 0} → (List ℕ → Reads A) → ℕ → List ℕ → Reads (List A)
links_at item zero bytes = Err Short
links_at item (suc n) bytes =
    boolean_at bytes >>= λ there. if there.0 then (item there.1 >>= λ x. links_at item n x.1 >>= λ xs. Ok (x.0 ∷ xs.0, xs.1)) else Ok ([], there.1)

-- Only a union stands behind an arm.
abbrev pub is_union : Shape → Bool
is_union (Case number arm others) = true
is_union NoCase = true
is_union shape = false

-- The value whose spelling the bytes begin with. A list of links has fewer of them than bytes.
abbrev pub read : (shape : Shape) → List ℕ → Reads (Value shape)
read Void bytes = Ok (tt, bytes)
read Word bytes = number_at w32 bytes
read Hyper bytes = number_at w64 bytes
read Boolean bytes = boolean_at bytes
read (Choice numbers) bytes = choice_at numbers bytes
read (Fixed size) bytes = fixed_at size bytes
read (Opaque most) bytes = opaque_at most bytes
read (Pair first second) bytes = read first bytes >>= λ x. read second x.1 >>= λ y. Ok ((x.0, y.0), y.1)
read (Array most element) bytes = length_at most bytes >>= λ n. items_at (λ rest. read element rest) n.0 n.1
read (Case number arm others) bytes =
    number_at w32 bytes
    >>= λ n.
    if n.0 == number then (read arm n.1 >>= λ x. Ok (inl x.0, x.1))
    else if is_union others then (read others bytes >>= λ x. Ok (inr x.0, x.1))
    else Err BadEnum
read NoCase bytes = number_at w32 bytes >>= λ n. Err BadEnum
read (Optional shape) bytes = boolean_at bytes >>= λ there. if there.0 then (read shape there.1 >>= λ x. Ok (Some x.0, x.1)) else Ok (None, there.1)
read (Chain element) bytes = links_at (λ rest. read element rest) (length bytes) bytes

-- Nothing is left.
abbrev pub all_read : List ℕ → Result (Unit {0}) Fault
all_read bytes = if length bytes == 0 then Ok tt else Err LeftOver

-- the value that these bytes spell, with nothing left over
abbrev pub all_of : (shape : Shape) → List ℕ → Result (Value shape) Fault
all_of shape bytes = read shape bytes >>= λ x. all_read x.1 >>= λ _. Ok x.0

-- What a call returned, seen by view, and what it left are what reading gives. At a fault nothing is taken.
abbrev pub Takes : {X Y : Type 0} → (X → Y) → Result X Fault → Reads Y → List ℕ → List ℕ → Type 0
Takes view (Ok x) reads old new = reads ≡ Ok (view x, new)
Takes view (Err fault) reads old new = (reads ≡ Err fault) × (new ≡ old)

-- The same, but at a fault some bytes may be taken.
abbrev pub Gives : {X Y : Type 0} → (X → Y) → Result X Fault → Reads Y → List ℕ → Type 0
Gives view (Ok x) reads new = reads ≡ Ok (view x, new)
Gives view (Err fault) reads new = reads ≡ Err fault

-- What a call returned, seen by view, is what reading all of the bytes gives.
abbrev pub GivesAll : {X Y : Type 0} → (X → Y) → Result X Fault → Result Y Fault → Type 0
GivesAll view (Ok x) reads = reads ≡ Ok (view x)
GivesAll view (Err fault) reads = reads ≡ Err fault
