-- A walk over bytes, turn by turn.
use Rattle.std.proofs.Common.{◌≡◌, ℕ, ◌+◌, ◌-◌, ◌≤◌, List, [], ◌++◌, length, take, drop, min, refl, sym, ap, ◌∙◌, arith}
use Rattle.std.proofs.Common.{length-append, length-take, length-drop}
use Rattle.std.proofs.lemmas.List.{drop-drop, drop_all, take_all, take-append-le}
use Rattle.rpc_record.specs.Machine.{Outcome, scan}
use Rattle.rpc_record.specs.declared.position.Position.{Position}
use Rattle.rpc_record.specs.declared.position.Turn.{Turn}
use Rattle.rpc_record.specs.declared.position.Turn.TheVariants as turns
use Rattle.rpc_record.specs.Position.{state, next_of, data_of, joined_by, rest_of, Turns, walk_to}

-- what is left, as a slice from there on shows it
pub left-is : (taken : ℕ) (bytes : List ℕ) → take (length bytes - taken) (drop taken bytes) ≡ drop taken bytes
left-is taken bytes = take_all (length bytes - taken) (drop taken bytes) (omega (arith, length-drop taken bytes))

module _ (o : Outcome) (position new : Position) (joined after bytes rest : List ℕ) (taken n : ℕ) (turn : Turn)
    (so_far : o ≡ scan taken (state joined position) (drop taken bytes)) (size : length joined ≡ position.joined) (left : rest ≡ drop taken bytes)
    (grown : after ≡ joined ++ data_of position rest) (turned : Turns position rest n turn new) where
  -- one turn more
  pub joins-on : (next : Turn) → turn ≡ next → o ≡ rest_of (taken + n) (next_of next after new) (drop (taken + n) bytes)
  joins-on next is =
      so_far ∙ ap (λ (xs : List ℕ). scan taken (state joined position) xs) (sym left) ∙ turned joined taken size
      ∙ ap (λ (xs : List ℕ). rest_of (taken + n) (next_of turn xs new) (drop n rest)) (sym grown)
      ∙ ap (λ (t : Turn). rest_of (taken + n) (next_of t after new) (drop n rest)) is
      ∙ ap (λ (xs : List ℕ). rest_of (taken + n) (next_of next after new) (drop n xs)) left
      ∙ ap (λ (xs : List ℕ). rest_of (taken + n) (next_of next after new) xs) (drop-drop n taken bytes)

-- the data of a slice in front of what is left
pub grown-by : (position : Position) (joined after rest : List ℕ) (size : ℕ) → size ≡ min position.left (length rest) → after ≡ joined ++ take size rest
    → after ≡ joined ++ data_of position rest
grown-by position joined after rest size is grown = grown ∙ ap (λ (k : ℕ). joined ++ take k rest) is

-- after the last byte
pub joins-all : (o : Outcome) (position : Position) (joined bytes : List ℕ) (taken : ℕ) → o ≡ scan taken (state joined position) (drop taken bytes)
    → length bytes ≤ taken → o ≡ scan taken (state joined position) []
joins-all o position joined bytes taken so_far most =
    so_far ∙ ap (λ (xs : List ℕ). scan taken (state joined position) xs) (drop_all taken bytes most)

-- what is in front stays there
pub kept-still : (k : ℕ) (first joined after : List ℕ) → take k joined ≡ first → after ≡ joined → take k after ≡ first
kept-still k first joined after kept same = ap (λ (xs : List ℕ). take k xs) same ∙ kept

pub kept-before : (k : ℕ) (first joined after more : List ℕ) → take k joined ≡ first → k ≡ length first → after ≡ joined ++ more → take k after ≡ first
kept-before k first joined after more kept size grown =
    let same : length (take k joined) ≡ length first = ap length kept in
    let within : k ≤ length joined = omega (arith, length-take k joined) in
    ap (λ (xs : List ℕ). take k xs) grown ∙ take-append-le k joined more within ∙ kept

-- what a walk that stands here has come from
abbrev pub HasWalked : Position → List ℕ → ℕ → Position → Type 0
HasWalked old bytes taken new =
    (joined : List ℕ) → length joined ≡ old.joined
    → (now : List ℕ) × (length now ≡ new.joined) × (scan 0 (state joined old) bytes ≡ scan taken (state now new) (drop taken bytes))

-- the data after one turn more
data-more : (joined left : ℕ) (now rest : List ℕ) → length now ≡ joined → length (now ++ take (min left (length rest)) rest) ≡ joined + min left (length rest)
data-more joined left now rest size = omega (arith, length-append now (take (min left (length rest)) rest), length-take (min left (length rest)) rest)

module _ (old position new : Position) (bytes rest : List ℕ) (taken n : ℕ) (turn : Turn) (walked : HasWalked old bytes taken position)
    (left : rest ≡ drop taken bytes) (turned : Turns position rest n turn new) where
  -- where one turn more leads
  leads : (next : Turn) → turn ≡ next → (before now : List ℕ) → length now ≡ position.joined
      → scan 0 (state before old) bytes ≡ scan taken (state now position) (drop taken bytes)
      → scan 0 (state before old) bytes ≡ rest_of (taken + n) (next_of next (now ++ data_of position rest) new) (drop (taken + n) bytes)
  leads next is before now size so_far =
      joins-on (scan 0 (state before old) bytes) position new now (now ++ data_of position rest) bytes rest taken n turn so_far size left refl turned next is

  pub walked-on : turn ≡ turns.Goes → new.joined ≡ joined_by position rest → HasWalked old bytes (taken + n) new
  walked-on is joined before size =
      let w = walked before size in
      (w.0 ++ data_of position rest, data-more position.joined position.left w.0 rest w.1 ∙ sym joined, leads turns.Goes is before w.0 w.1 w.2)

  pub walked-to-end : turn ≡ turns.Ends → (before : List ℕ) → length before ≡ old.joined
      → (taken + n, turns.Ends) ≡ walk_to bytes (scan 0 (state before old) bytes)
  walked-to-end is before size = let w = walked before size in sym (ap (walk_to bytes) (leads turns.Ends is before w.0 w.1 w.2))

  pub walked-to-fault : turn ≡ turns.Faults → (before : List ℕ) → length before ≡ old.joined
      → (taken + n, turns.Faults) ≡ walk_to bytes (scan 0 (state before old) bytes)
  walked-to-fault is before size = let w = walked before size in sym (ap (walk_to bytes) (leads turns.Faults is before w.0 w.1 w.2))

pub walked-all : (old position : Position) (bytes : List ℕ) (taken : ℕ) → HasWalked old bytes taken position → length bytes ≤ taken → taken ≤ length bytes
    → (before : List ℕ) → length before ≡ old.joined → (taken, turns.Goes) ≡ walk_to bytes (scan 0 (state before old) bytes)
walked-all old position bytes taken walked most within before size =
    let w = walked before size in
    let all : taken ≡ length bytes = omega arith in
    ap (λ (k : ℕ). (k, turns.Goes)) all
    ∙ sym (ap (walk_to bytes) (joins-all (scan 0 (state before old) bytes) position w.0 bytes taken w.2 most))
