-- What a step of a head that did not stop says.
use Rattle.std.proofs.Common.{◌≡◌, ℕ, eqb, List, Result, Ok, Err, refl, inl, inr}
use Rattle.std.proofs.lemmas.Bool.{eqb-true}
use Rattle.xdr.specs.Reading.{Reads}
use Rattle.xdr.specs.lemmas.Steps.{chosen}
use Rattle.rpc_msg.specs.Heads.{◌>>=◌, Stop, whole, xid_of}

pub then_ok : {A B : Type 0} (r : Result A Stop) (f : A → Result B Stop) (y : B) → (r >>= f) ≡ Ok y → (x : A) × (r ≡ Ok x) × (f x ≡ Ok y)
then_ok (Ok x) f y e = (x, refl, e)
then_ok (Err stop) f y e = absurd cc

pub then_is : {A B : Type 0} (r : Result A Stop) (f : A → Result B Stop) (x : A) → r ≡ Ok x → (r >>= f) ≡ f x
then_is r f x e = rw e refl

abbrev sure : {A : Type 0} → A → Result A Stop
sure x = Ok x

pub sure_is : {A : Type 0} (x y : A) → sure x ≡ sure y → x ≡ y
sure_is x y e = cc

pub whole_ok : {A : Type 0} (r : Reads A) (x : A × List ℕ) → whole r ≡ Ok x → r ≡ Ok x
whole_ok (Ok y) x e = cc
whole_ok (Err fault) x e = absurd cc

abbrev xid_read : ℕ → ℕ → List ℕ → Reads (ℕ × ℕ)
xid_read xid kind rest = Ok ((xid, kind), rest)

abbrev told : ℕ × List ℕ → Result (ℕ × List ℕ) ℕ
told x = Ok x

xid_same : (xid kind : ℕ) (rest : List ℕ) (m : ℕ × List ℕ) → kind ≡ 0 → told (xid, rest) ≡ told m → xid_read xid kind rest ≡ xid_read m.0 0 m.1
xid_same xid kind rest m zero e =
    let same : told (xid, rest) ≡ told m = e in
    let xid_is : xid ≡ m.0 = cc in
    let rest_is : rest ≡ m.1 = cc in
    rw (zero, xid_is, rest_is) refl

pub xid_ok : (r : Reads (ℕ × ℕ)) (m : ℕ × List ℕ) → xid_of r ≡ Ok m → r ≡ Ok ((m.0, 0), m.1)
xid_ok (Ok y) m e =
    elim (chosen (eqb y.0.1 0) (told (y.0.0, y.1)) (Err 13) (told m) e) [
      | inl h ↦ xid_same y.0.0 y.0.1 y.1 m (eqb-true y.0.1 0 h.0) h.1
      | inr h ↦ absurd cc
    ]
xid_ok (Err fault) m e = absurd cc
