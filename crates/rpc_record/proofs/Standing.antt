-- What the scan finds is spelled so.
use Rattle.std.proofs.Common.{◌≡◌, ℕ, suc, ◌+◌, ◌-◌, ◌%◌, ◌^◌, ◌<◌, ◌≤◌, ◌≢◌, Bool, true, false, cond, eqb, ltb, List, [], ◌∷◌, ◌++◌, length, take, refl, sym}
use Rattle.std.proofs.Common.{ap, subst, ◌∙◌, append_assoc, arith, length-append}
use Rattle.std.specs.Prelude.{nat_le}
use Rattle.std.specs.List.{concat}
use Rattle.std.specs.Int.{w32, to_be_bytes, from_be_bytes}
use Rattle.std.proofs.lemmas.Bool.Decides.{nat_tests}
use Rattle.std.proofs.lemmas.Bool.{eqb-true, eqb-false, ltb-true, ltb-false, leb-true}
use Rattle.std.proofs.lemmas.List.{append-nil}
use Rattle.std.proofs.lemmas.Nat.{be_bytes_4}
use Rattle.rpc_record.specs.Stream.{AreBytes}
use Rattle.rpc_record.proofs.Bytes.{AreBytes-append, below}
use Rattle.rpc_record.specs.Records.{limit, last_bit, header, fragment, front, IsRecord, IsAtFault}
use Rattle.rpc_record.specs.Machine.{State, InHeader, InData, Next, Goes, Ends, Faults, Outcome, More, Made, Fault, after_fragment, after_header, after}
use Rattle.rpc_record.specs.Machine.{go}
use Rattle.rpc_record.specs.Machine.{scan}

-- bytes that end in fewer than four of a header
pub record HeaderStands (came joined header : List ℕ) : Type 0 where
  pub parts : List (List ℕ)
  pub joined_is : joined ≡ concat parts
  pub came_is : came ≡ front parts ++ header
  pub short : length header ≤ 3
  pub bytes : AreBytes header
  pub small : length joined ≤ limit

-- bytes that end in a beginning of a fragment's data
pub record DataStands (came joined : List ℕ) (left : ℕ) (last : Bool) : Type 0 where
  pub parts : List (List ℕ)
  pub part : List ℕ
  pub size : ℕ
  pub joined_is : joined ≡ concat parts ++ part
  pub came_is : came ≡ front parts ++ (header last size ++ part)
  pub size_is : length part + left ≡ size
  pub some : 0 < left
  pub small : length (concat parts) + size ≤ limit

-- the state after these bytes
abbrev pub Stands : List ℕ → State → Type 0
Stands came (InHeader joined header) = HeaderStands came joined header
Stands came (InData joined left last) = DataStands came joined left last

-- what one more byte led to, with it
abbrev pub Leads : List ℕ → Next → Type 0
Leads came (Goes s) = Stands came s
Leads came (Ends made) = IsRecord made came
Leads came Faults = IsAtFault came

-- one part more
concat-push : (parts : List (List ℕ)) (p : List ℕ) → concat (parts ++ p ∷ []) ≡ concat parts ++ p
concat-push [] p = append-nil p
concat-push (q ∷ parts) p = ap (λ (x : List ℕ). q ++ x) (concat-push parts p) ∙ sym (append_assoc q (concat parts) p)

-- one fragment more
front-push : (parts : List (List ℕ)) (p : List ℕ) → front (parts ++ p ∷ []) ≡ front parts ++ fragment false p
front-push [] p = append-nil _
front-push (q ∷ parts) p =
    ap (λ (x : List ℕ). fragment false q ++ x) (front-push parts p) ∙ sym (append_assoc (fragment false q) (front parts) (fragment false p))

-- at a fragment's end
ended : (parts : List (List ℕ)) (p came : List ℕ) (last : Bool) → length (concat parts) + length p ≤ limit → came ≡ front parts ++ fragment last p
    → Leads came (after_fragment (concat parts ++ p) last)
ended parts p came true h e = record { parts = parts; last = p; joined = refl; small = omega (arith, length-append (concat parts) p); bytes_are = e }
ended parts p came false h e = record {
  parts = parts ++ p ∷ [];
  joined_is = sym (concat-push parts p);
  came_is = e ∙ sym (front-push parts p) ∙ sym (append-nil (front (parts ++ p ∷ [])));
  short = omega arith;
  bytes = tt;
  small = omega (arith, length-append (concat parts) p);
}

-- by a test
cond_leads : (b : Bool) (x y : Next) (came : List ℕ) → (b ≡ true → Leads came x) → (b ≡ false → Leads came y) → Leads came (cond b x y)
cond_leads true x y came p q = p refl
cond_leads false x y came p q = q refl

-- a header by its top bit
number_by : (b : Bool) (number : ℕ) → number < 2 ^ 32 → nat_le last_bit number ≡ b → number ≡ number % last_bit + cond b last_bit 0
number_by true number h e = omega (arith, leb-true last_bit number e)
number_by false number h e = let lt : number < last_bit = grind (arith, nat_tests) in omega arith

-- a header is its size and its top bit
number_is : (number : ℕ) → number < 2 ^ 32 → number ≡ number % last_bit + cond (nat_le last_bit number) last_bit 0
number_is number h = number_by (nat_le last_bit number) number h refl

-- at a header's end
entered : (parts : List (List ℕ)) (came : List ℕ) (number : ℕ) → number < 2 ^ 32 → length (concat parts) ≤ limit
    → came ≡ front parts ++ to_be_bytes w32 number → Leads came (after_header (concat parts) number)
entered parts came number fits small e =
    let size = number % last_bit in
    let last = nat_le last_bit number in
    let split : number ≡ size + cond last last_bit 0 = number_is number fits in
    cond_leads (ltb limit (length (concat parts) + size)) Faults
    (cond (eqb size 0) (after_fragment (concat parts) last) (Goes (InData (concat parts) size last))) came
    (λ big. record {
      parts = parts;
      last = last;
      size = size;
      fits = omega arith;
      before = small;
      above = ltb-true _ _ big;
      bytes_are = e
          ∙ ap (λ (n : ℕ). front parts ++ to_be_bytes w32 n) split;
    })
    (λ room. cond_leads (eqb size 0) (after_fragment (concat parts) last) (Goes (InData (concat parts) size last)) came
    (λ none. let zero_size : size ≡ 0 = eqb-true _ _ none in
    subst (λ (j : List ℕ). Leads came (after_fragment j last)) (append-nil (concat parts))
    (ended parts [] came last (omega arith) (e
    ∙ ap (λ (n : ℕ). front parts ++ to_be_bytes w32 n) (split ∙ ap (λ (k : ℕ). k + cond last last_bit 0) zero_size)
    ∙ ap (λ (x : List ℕ). front parts ++ x) (sym (append-nil _)))))
    (λ some. let positive : 0 < size = grind (arith, nat_tests) in
    record {
      parts = parts;
      part = [];
      size = size;
      joined_is = sym (append-nil (concat parts));
      came_is = e ∙ ap (λ (n : ℕ). front parts ++ to_be_bytes w32 n) split ∙ ap (λ (x : List ℕ). front parts ++ x) (sym (append-nil _));
      size_is = omega arith;
      some = positive;
      small = ltb-false _ _ room;
    }))

-- one byte
pub leads : (came : List ℕ) (s : State) (b : ℕ) → b < 256 → Stands came s → Leads (came ++ b ∷ []) (after s b)
leads came (InHeader joined header) b lt h =
    let bytes = header ++ b ∷ [] in
    let now : came ++ b ∷ [] ≡ front h.parts ++ bytes = ap (λ (x : List ℕ). x ++ b ∷ []) h.came_is ∙ append_assoc (front h.parts) header (b ∷ []) in
    cond_leads (eqb (length header) 3) (after_header joined (from_be_bytes w32 bytes)) (Goes (InHeader joined bytes)) (came ++ b ∷ [])
    (λ full.
    let len : length bytes ≡ 4 = omega (arith, length-append header (b ∷ []), eqb-true (length header) 3 full) in
    let all : AreBytes bytes = AreBytes-append header (b ∷ []) h.bytes (lt, tt) in
    let number = from_be_bytes w32 bytes in
    let fits : number < 2 ^ 32 = omega (arith, below bytes all 0, below bytes all 1, below bytes all 2, below bytes all 3) in
    let spelled : to_be_bytes w32 number ≡ bytes = be_bytes_4 bytes number len (below bytes all) refl in
    subst (λ (j : List ℕ). Leads (came ++ b ∷ []) (after_header j number)) (sym h.joined_is)
    (entered h.parts (came ++ b ∷ []) number fits (omega (arith, ap length h.joined_is, h.small)) (now
    ∙ ap (λ (x : List ℕ). front h.parts ++ x) (sym spelled))))
    (λ short.
    let less : length header ≢ 3 = eqb-false (length header) 3 short in
    record {
      parts = h.parts;
      joined_is = h.joined_is;
      came_is = now;
      short = omega
          (arith, length-append header (b ∷ []), h.short);
      bytes = AreBytes-append header (b ∷ []) h.bytes (lt, tt);
      small = h.small;
    })
leads came (InData joined left last) b lt h =
    let part = h.part ++ b ∷ [] in
    let head = header last h.size in
    let now : came ++ b ∷ [] ≡ front h.parts ++ (head ++ part) = ap (λ (x : List ℕ). x ++ b ∷ []) h.came_is
    ∙ append_assoc (front h.parts) (head ++ h.part) (b ∷ []) ∙ ap (λ (x : List ℕ). front h.parts ++ x) (append_assoc head h.part (b ∷ [])) in
    let joins : joined ++ b ∷ [] ≡ concat h.parts ++ part = ap (λ (x : List ℕ). x ++ b ∷ []) h.joined_is ∙ append_assoc (concat h.parts) h.part (b ∷ []) in
    cond_leads (eqb left 1) (after_fragment (joined ++ b ∷ []) last) (Goes (InData (joined ++ b ∷ []) (left - 1) last)) (came ++ b ∷ [])
    (λ full.
    let len : h.size ≡ length part = omega (arith, length-append h.part (b ∷ []), eqb-true left 1 full, h.size_is) in
    subst (λ (j : List ℕ). Leads (came ++ b ∷ []) (after_fragment j last)) (sym joins)
    (ended h.parts part (came ++ b ∷ []) last (omega (arith, h.small, len)) (now
    ∙ ap (λ (n : ℕ). front h.parts ++ (to_be_bytes w32 (n + cond last last_bit 0) ++ part)) len)))
    (λ more.
    let less : left ≢ 1 = eqb-false left 1 more in
    record {
      parts = h.parts;
      part = part;
      size = h.size;
      joined_is = joins;
      came_is = now;
      size_is = omega
          (arith, length-append h.part (b ∷ []), h.size_is, h.some);
      some = omega (arith, h.some);
      small = h.small;
    })

-- the next byte is one that has come
cons-front : (came : List ℕ) (b : ℕ) (bytes : List ℕ) → (came ++ b ∷ []) ++ bytes ≡ came ++ b ∷ bytes
cons-front came b bytes = append_assoc came (b ∷ []) bytes

-- what a scan over bytes says, after those that came
abbrev pub Says : ℕ → List ℕ → List ℕ → Outcome → Type 0
Says t came bytes (More s) = Stands (came ++ bytes) s
Says t came bytes (Made n made) = (k : ℕ) × (n ≡ t + k) × (k ≤ length bytes) × IsRecord made (came ++ take k bytes)
Says t came bytes (Fault n) = (k : ℕ) × (n ≡ t + k) × (k ≤ length bytes) × IsAtFault (came ++ take k bytes)

-- the same, from a byte before
says-cons : (t : ℕ) (came : List ℕ) (b : ℕ) (bytes : List ℕ) (o : Outcome) → Says (t + 1) (came ++ b ∷ []) bytes o → Says t came (b ∷ bytes) o
says-cons t came b bytes (More s) h = subst (λ (x : List ℕ). Stands x s) (cons-front came b bytes) h
says-cons t came b bytes (Made n made) h = (suc h.0, omega (arith, h.1), omega (arith, h.2), subst (IsRecord made) (cons-front came b (take h.0 bytes)) h.3)
says-cons t came b bytes (Fault n) h = (suc h.0, omega (arith, h.1), omega (arith, h.2), subst IsAtFault (cons-front came b (take h.0 bytes)) h.3)

-- past one byte
next_says : (n : Next) (t : ℕ) (came bytes : List ℕ) → ((next : State) → Stands came next → Says t came bytes (scan t next bytes)) → Leads came n
    → Says t came bytes (go t n (λ next. scan t next bytes))
next_says (Goes s) t came bytes f h = f s h
next_says (Ends made) t came bytes f h = (0, omega arith, omega arith, subst (IsRecord made) (sym (append-nil came)) h)
next_says Faults t came bytes f h = (0, omega arith, omega arith, subst IsAtFault (sym (append-nil came)) h)

-- A scan says where the bytes stand, or that they end in a record or a fault.
pub scan_says : (t : ℕ) (came : List ℕ) (s : State) (bytes : List ℕ) → AreBytes bytes → Stands came s → Says t came bytes (scan t s bytes)
scan_says t came s [] f h = subst (λ (x : List ℕ). Stands x s) (sym (append-nil came)) h
scan_says t came s (b ∷ bytes) f h =
    says-cons t came b bytes (scan t s (b ∷ bytes))
    (next_says (after s b) (t + 1) (came ++ b ∷ []) bytes (λ next p. scan_says (t + 1) (came ++ b ∷ []) next bytes f.1 p) (leads came s b f.0 h))
