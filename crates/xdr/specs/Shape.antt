-- XDR (RFC 4506): the types, the values of each, and the one spelling of each value.
use Rattle.std.specs.Prelude.{◌≡◌, ◌≢◌, ℕ, ◌-◌, ◌%◌, ◌^◌, ◌<◌, ◌≤◌, ◌==◌, Bool, true, List, [], ◌∷◌, ◌++◌, length, Option, Some, None, IsSomeAnd, ◌⊎◌}
use Rattle.std.specs.Prelude.{replicate, if◌then◌else◌}
use Rattle.std.specs.List.{list_any, flat_map, AllByRecursion}
use Rattle.std.specs.Int.{w32, w64, to_be_bytes}
use Rattle.std.proofs.Common.{inl, inr}

-- A type of XDR. Sections are those of RFC 4506.
pub data Shape : Type 0 where
  -- 4.16
  Void : Shape
  -- 4.2, 4.5
  Word : Shape
  Hyper : Shape
  -- 4.4, 4.3: a boolean, and an enumeration of these numbers
  Boolean : Shape
  Choice : (numbers : List ℕ) → Shape
  -- 4.9, 4.10 and 4.11: this many bytes, and at most this many
  Fixed : (size : ℕ) → Shape
  Opaque : (most : ℕ) → Shape
  -- 4.14: a structure, two members at a time
  Pair : (first second : Shape) → Shape
  -- 4.13: at most this many elements
  Array : (most : ℕ) (element : Shape) → Shape
  -- 4.15: a discriminated union, an arm at a time; the others are Case again, or NoCase
  Case : (number : ℕ) (arm others : Shape) → Shape
  NoCase : Shape
  -- 4.19: optional data, and a list that is linked by it
  Optional : (shape : Shape) → Shape
  Chain : (element : Shape) → Shape

-- The values of a type.
abbrev pub Value : Shape → Type 0
Value Void = Unit {0}
Value Word = ℕ
Value Hyper = ℕ
Value Boolean = Bool
Value (Choice numbers) = ℕ
Value (Fixed size) = List ℕ
Value (Opaque most) = List ℕ
Value (Pair first second) = Value first × Value second
Value (Array most element) = List (Value element)
Value (Case number arm others) = Value arm ⊎ Value others
Value NoCase = ⊥
Value (Optional shape) = Option (Value shape)
Value (Chain element) = List (Value element)

-- an unsigned integer: four bytes, the highest first (4.2)
abbrev pub word : ℕ → List ℕ
word n = to_be_bytes w32 n

-- an unsigned hyper integer: eight bytes, the highest first (4.5)
abbrev pub hyper : ℕ → List ℕ
hyper n = to_be_bytes w64 n

-- FALSE is 0 and TRUE is 1 (4.4)
abbrev pub flag : Bool → ℕ
flag b = if b then 1 else 0

-- how many zero bytes make n bytes a multiple of four (3)
abbrev pub padding : ℕ → ℕ
padding n = (4 - n % 4) % 4

-- bytes and their padding (4.9)
abbrev pub padded : List ℕ → List ℕ
padded bytes = bytes ++ replicate (padding (length bytes)) 0

-- a length, and this many bytes with their padding (4.10)
abbrev pub counted : List ℕ → List ℕ
counted bytes = word (length bytes) ++ padded bytes

-- elements, each behind TRUE, and FALSE at the end (4.19)
abbrev pub linked : {A : Type 0} → (A → List ℕ) → List A → List ℕ
linked spell [] = word 0
linked spell (x ∷ xs) = word 1 ++ (spell x ++ linked spell xs)

-- The bytes that spell a value.
abbrev pub spelling : (shape : Shape) → Value shape → List ℕ
spelling Void v = []
spelling Word n = word n
spelling Hyper n = hyper n
spelling Boolean b = word (flag b)
spelling (Choice numbers) n = word n
spelling (Fixed size) bytes = padded bytes
spelling (Opaque most) bytes = counted bytes
spelling (Pair first second) v = spelling first v.0 ++ spelling second v.1
spelling (Array most element) vs = word (length vs) ++ flat_map (λ v. spelling element v) vs
spelling (Case number arm others) (inl v) = word number ++ spelling arm v
spelling (Case number arm others) (inr v) = spelling others v
spelling NoCase v = absurd v
spelling (Optional shape) None = word 0
spelling (Optional shape) (Some v) = word 1 ++ spelling shape v
spelling (Chain element) vs = linked (λ v. spelling element v) vs

-- the number before a union's arm
abbrev pub discriminant : (shape : Shape) → Value shape → Option ℕ
discriminant (Case number arm others) (inl v) = Some number
discriminant (Case number arm others) (inr v) = discriminant others v
discriminant shape v = None

-- The value is within its type's bounds. A number that stands at two arms means the first.
abbrev pub Fits : (shape : Shape) → Value shape → Type 0
Fits Void v = Unit {0}
Fits Word n = n < 2 ^ 32
Fits Hyper n = n < 2 ^ 64
Fits Boolean b = Unit {0}
Fits (Choice numbers) n = (list_any (λ m. m == n) numbers ≡ true) × (n < 2 ^ 32)
Fits (Fixed size) bytes = length bytes ≡ size
Fits (Opaque most) bytes = (length bytes ≤ most) × (length bytes < 2 ^ 32)
Fits (Pair first second) v = Fits first v.0 × Fits second v.1
Fits (Array most element) vs = (length vs ≤ most) × (length vs < 2 ^ 32) × AllByRecursion (λ v. Fits element v) vs
Fits (Case number arm others) (inl v) = (number < 2 ^ 32) × Fits arm v
Fits (Case number arm others) (inr v) = IsSomeAnd (discriminant others v) (λ n. n ≢ number) × Fits others v
Fits NoCase v = ⊥
Fits (Optional shape) None = Unit {0}
Fits (Optional shape) (Some v) = Fits shape v
Fits (Chain element) vs = AllByRecursion (λ v. Fits element v) vs

-- The bytes spell the value.
abbrev pub Spells : (shape : Shape) → Value shape → List ℕ → Type 0
Spells shape v bytes = Fits shape v × (bytes ≡ spelling shape v)
