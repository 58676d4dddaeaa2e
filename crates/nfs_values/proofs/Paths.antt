-- Paths, cut at their slashes.
use Rattle.std.proofs.Common.{◌≡◌, ◌≢◌, ℕ, ◌≤◌, ◌<◌, Bool, true, false, List, [], ◌∷◌, ◌++◌, length, take, drop, refl, ap, sym, ◌∙◌, arith}
use Rattle.std.proofs.Common.{append_assoc, append-nil}
use Rattle.std.proofs.lemmas.Bool.Decides.{nat_tests}
use Rattle.std.specs.Prelude.{◌==◌, if◌then◌else◌}
use Rattle.std.specs.List.{filter}
use Rattle.nfs_model.specs.Serial.Mount.{between_slashes, is_telling, parts}
use Rattle.nfs_values.specs.MountPath.{before_slash, behind_slash}

-- a part before others, if it says something
abbrev told : List ℕ → List (List ℕ) → List (List ℕ)
told part others = if is_telling part then part ∷ others else others

abbrev Cuts : List ℕ → Type 0
Cuts path = (part : List ℕ) → filter is_telling (between_slashes part path) ≡ told (part ++ before_slash path) (parts (behind_slash path))

cuts-by : (b : Bool) (part : List ℕ) (c : ℕ) (cs : List ℕ) → Cuts cs
    → filter is_telling (if b then part ∷ between_slashes [] cs else between_slashes (part ++ c ∷ []) cs)
    ≡ told (part ++ (if b then [] else c ∷ before_slash cs)) (parts (if b then cs else behind_slash cs))
cuts-by true part c cs others = ap (λ (p : List ℕ). told p (parts cs)) (sym (append-nil part))
cuts-by false part c cs others =
    others (part ++ c ∷ []) ∙ ap (λ (p : List ℕ). told p (parts (behind_slash cs))) (append_assoc part (c ∷ []) (before_slash cs))

cuts : (path : List ℕ) → Cuts path
cuts [] = λ part. ap (λ (p : List ℕ). told p []) (sym (append-nil part))
cuts (c ∷ cs) = λ part. cuts-by (c == 47) part c cs (cuts cs)

-- the parts of a path, by what stands before and behind its first slash
pub parts-cut : (path : List ℕ) → parts path ≡ told (before_slash path) (parts (behind_slash path))
parts-cut path = cuts path []

-- ---- where a path is cut

-- the bytes before the first slash are the first ones
take-by : (b : Bool) (c : ℕ) (cs : List ℕ) → take (length (before_slash cs)) cs ≡ before_slash cs
    → take (length (if b then [] else c ∷ before_slash cs)) (c ∷ cs) ≡ (if b then [] else c ∷ before_slash cs)
take-by true c cs others = refl
take-by false c cs others = ap (λ (l : List ℕ). c ∷ l) others

pub take-before : (path : List ℕ) → take (length (before_slash path)) path ≡ before_slash path
take-before [] = refl
take-before (c ∷ cs) = take-by (c == 47) c cs (take-before cs)

-- what is behind them but for the slash
drop-by : (b : Bool) (c : ℕ) (cs : List ℕ) → drop 1 (drop (length (before_slash cs)) cs) ≡ behind_slash cs
    → drop 1 (drop (length (if b then [] else c ∷ before_slash cs)) (c ∷ cs)) ≡ (if b then cs else behind_slash cs)
drop-by true c cs others = refl
drop-by false c cs others = others

pub drop-before : (path : List ℕ) → drop 1 (drop (length (before_slash path)) path) ≡ behind_slash path
drop-before [] = refl
drop-before (c ∷ cs) = drop-by (c == 47) c cs (drop-before cs)

-- a part, by where the path is cut
pub part-is : (path part : List ℕ) (size : ℕ) → size ≡ length (before_slash path) → part ≡ take size path → part ≡ before_slash path
part-is path part size long taken = taken ∙ ap (λ (n : ℕ). take n path) long ∙ take-before path

pub behind-is : (path behind : List ℕ) (size : ℕ) → size ≡ length (before_slash path) → behind ≡ drop size path → drop 1 behind ≡ behind_slash path
behind-is path behind size long dropped =
    ap (λ (l : List ℕ). drop 1 l) (dropped ∙ ap (λ (n : ℕ). drop n path) long) ∙ drop-before path

-- nothing is behind the end
pub none-behind : (path behind : List ℕ) (size : ℕ) → size ≡ length (before_slash path) → behind ≡ drop size path → length behind ≡ 0
    → behind ≡ behind_slash path
none-behind path [] size long dropped none = behind-is path [] size long dropped
none-behind path (c ∷ cs) size long dropped none = absurd (omega (arith, none))

-- ---- a path whose first bytes are cut off

-- what is behind the first slash is no longer
most-by : (b : Bool) (cs : List ℕ) → length (behind_slash cs) ≤ length cs → length (if b then cs else behind_slash cs) ≤ length cs
most-by true cs others = omega arith
most-by false cs others = others

behind-most : (path : List ℕ) → length (behind_slash path) ≤ length path
behind-most [] = omega arith
behind-most (c ∷ cs) = let most = most-by (c == 47) cs (behind-most cs) in omega (arith, most)

-- it is shorter
pub behind-less : (path : List ℕ) → length path ≢ 0 → length (behind_slash path) < length path
behind-less [] some = absurd (some refl)
behind-less (c ∷ cs) some = let most = most-by (c == 47) cs (behind-most cs) in omega (arith, most)

-- one whose first part says nothing has the others
pub passed : (path part behind : List ℕ) → part ≡ before_slash path → behind ≡ behind_slash path → is_telling part ≡ false
    → parts behind ≡ parts path
passed path part behind first others quiet =
    sym (parts-cut path ∙ ap (λ (p : List ℕ). told p (parts (behind_slash path))) (sym first)
    ∙ ap (λ (b : Bool). if b then part ∷ parts (behind_slash path) else parts (behind_slash path)) quiet
    ∙ ap parts (sym others))

-- one whose first part says something begins with it
pub begins : (path part behind : List ℕ) → part ≡ before_slash path → behind ≡ behind_slash path → is_telling part ≡ true
    → parts path ≡ part ∷ parts behind
begins path part behind first others telling =
    parts-cut path ∙ ap (λ (p : List ℕ). told p (parts (behind_slash path))) (sym first)
    ∙ ap (λ (b : Bool). if b then part ∷ parts (behind_slash path) else parts (behind_slash path)) telling
    ∙ ap (λ (l : List ℕ). part ∷ parts l) (sym others)

-- what is behind the first part is shorter than what was left of a path, where something was
pub shorter : (left behind : List ℕ) → behind ≡ behind_slash left → false ≡ (length left == 0) → length behind < length left
shorter left behind others some =
    let less = behind-less left (λ none. grind (arith, nat_tests, none, some)) in omega (arith, ap (λ (l : List ℕ). length l) others, less)
