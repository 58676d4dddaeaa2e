-- The data of a WRITE, where they stand in its record.
use Rattle.std.proofs.Common.{◌≡◌, ℕ, ◌+◌, ◌-◌, ◌≤◌, List, ◌++◌, length, take, drop, replicate, Result, Ok, refl, sym, ap, ◌∙◌, append_assoc}
use Rattle.std.proofs.Common.{arith}
use Rattle.std.proofs.lemmas.List.{length-append, length-drop, length-replicate, take_all, take_at, drop_at, take-append-drop}
use Rattle.xdr.specs.declared.fault.Fault.{Fault}
use Rattle.xdr.specs.Shape.{Value, word, hyper, padding, spelling}
use Rattle.xdr.specs.Reading.{◌>>=◌, all_of}
use Rattle.xdr.specs.lemmas.Items.{IsBytes, IsBytes-drop}
use Rattle.xdr.specs.lemmas.Shapes.{all_found}
use Rattle.nfs_model.specs.Types as model
use Rattle.nfs_types.specs.Shapes.{handle_shape}
use Rattle.nfs_types.specs.Arguments.{asked_by, write_call, writing_shape}

-- all from one on
pub rest-is : (bytes lent : List ℕ) (from : ℕ) → lent ≡ bytes → take (length lent - from) (drop from lent) ≡ drop from bytes
rest-is bytes lent from e =
    take_all (length lent - from) (drop from lent) (omega (arith, length-drop from lent)) ∙ ap (λ (l : List ℕ). drop from l) e

-- where data end but for their padding, in a record of this many bytes
abbrev pub start_of : ℕ → List ℕ → ℕ
start_of len given = len - (length given + padding (length given))

-- they stand there
pub record Stands (record_bytes given : List ℕ) (len : ℕ) : Type 0 where
  pub fits : length given + padding (length given) ≤ len
  pub within : start_of len given + length given ≤ length record_bytes
  pub there : take (length given) (drop (start_of len given) record_bytes) ≡ given

stands-behind : (front given zeros bytes : List ℕ) (len : ℕ) → bytes ≡ front ++ (given ++ zeros) → length zeros ≡ padding (length given)
    → len ≡ length bytes → Stands bytes given len
stands-behind front given zeros bytes len e pad is =
    let size : length bytes ≡ length (front ++ (given ++ zeros)) = ap (λ (l : List ℕ). length l) e in
    let outer = length-append front (given ++ zeros) in
    let inner = length-append given zeros in
    let at : length front ≡ start_of len given = omega (arith, size, outer, inner, pad, is) in
    record {
      fits = omega (arith, size, outer, inner, pad, is);
      within = omega (arith, size, outer, inner, pad, is);
      there = ap (λ (l : List ℕ). take (length given) (drop (start_of len given) l)) e
          ∙ ap (λ (l : List ℕ). take (length given) l) (drop_at front (given ++ zeros) (start_of len given) at)
          ∙ take_at given zeros (length given) refl;
    }

-- The arguments of a WRITE, read from the bytes of its record from one on.
module _ (bytes slice : List ℕ) (from len : ℕ) (v : Value writing_shape) (fits : IsBytes bytes) (same : slice ≡ drop from bytes)
    (e : all_of writing_shape slice ≡ Ok v) where
  abbrev given : List ℕ
  given = v.1.1.1.1

  pub stands : len ≡ length bytes → Stands bytes given len
  stands is =
      let zeros : List ℕ = replicate (padding (length given)) 0 in
      let read : all_of writing_shape (drop from bytes) ≡ Ok v = ap (all_of writing_shape) (sym same) ∙ e in
      let s = all_found writing_shape (drop from bytes) v (IsBytes-drop from bytes fits) read in
      let whole : bytes ≡ take from bytes ++ spelling writing_shape v =
      sym (take-append-drop from bytes) ∙ ap (λ (l : List ℕ). take from bytes ++ l) s.1 in
      let front : List ℕ = take from bytes ++ (spelling handle_shape v.0 ++ (hyper v.1.0 ++ (word v.1.1.0 ++ (word v.1.1.1.0 ++ word (length given))))) in
      let parts : take from bytes ++ spelling writing_shape v ≡ front ++ (given ++ zeros) = simp append_assoc in
      stands-behind front given zeros bytes len (whole ∙ parts) (length-replicate (padding (length given)) 0) is

  pub asked-is : (written : List ℕ) → written ≡ given
      → asked_by writing_shape write_call (drop from bytes) ≡ Ok (model.Write v.0 v.1.0 v.1.1.0 written)
  asked-is written is =
      ap (asked_by writing_shape write_call) (sym same)
      ∙ ap (λ (r : Result (Value writing_shape) Fault). r >>= λ w. Ok (write_call w)) e
      ∙ ap (λ (d : List ℕ). Ok (model.Write v.0 v.1.0 v.1.1.0 d)) (sym is)
