-- Pieces of a stream.
use Rattle.std.proofs.Common.{◌≡◌, ℕ, ◌<◌, List, [], ◌++◌, length, take, drop, Option, Some, None, sym, ap, subst, ◌∙◌, append_assoc}
use Rattle.std.proofs.lemmas.List.{take-append-drop, append-nil}
use Rattle.std.specs.Prelude.{IfSome, IfErr, Result, Ok, Err}
use Rattle.std.specs.Io.KnownBytes.{Consumes, Keeps, IsAtEnd}
use Rattle.rpc_record.specs.Records.{IsRecord, IsAtFault, HasFault, HasNoFault, HasNoRecord}
use Rattle.rpc_record.specs.Machine.{State}
use Rattle.admin_client.specs.declared.fault.AdminFault.{AdminFault}
use Rattle.admin_client.specs.declared.fault.AdminFault.TheVariants.{Stream, Late, Cut, TooLong, Malformed, OfAnotherCall, Refused, NoMemory}
use Rattle.admin_client.specs.Incoming.{BeginsWith, HasNext, IsFailure, IsOfStream, Takes}

-- ---- what is in a piece

split_piece : (came piece : List ℕ) (n : ℕ) → came ++ piece ≡ (came ++ take n piece) ++ drop n piece
split_piece came piece n =
    ap (λ (l : List ℕ). came ++ l) (sym (take-append-drop n piece)) ∙ sym (append_assoc came (take n piece) (drop n piece))

pub record_begins : (made came piece : List ℕ) (n : ℕ) → IsRecord made (came ++ take n piece) → BeginsWith made (came ++ piece)
record_begins made came piece n r = (came ++ take n piece, drop n piece, split_piece came piece n, r)

pub fault_begins : (came piece : List ℕ) (n : ℕ) → IsAtFault (came ++ take n piece) → HasFault (came ++ piece)
fault_begins came piece n f = (came ++ take n piece, drop n piece, split_piece came piece n, f)

-- ---- bytes that were read

pub consumed_more : (a b c : Option (List ℕ)) (xs ys : List ℕ) → Consumes a b xs → Consumes b c ys → Consumes a c (xs ++ ys)
consumed_more None b c xs ys p q = tt
consumed_more (Some l) None c xs ys p q = absurd p
consumed_more (Some l) (Some m) None xs ys p q = absurd q
consumed_more (Some l) (Some m) (Some n) xs ys p q = p ∙ ap (λ (t : List ℕ). xs ++ t) q ∙ sym (append_assoc xs ys n)

pub consumed_kept : (a b c : Option (List ℕ)) (xs : List ℕ) → Consumes a b xs → Keeps b c → Consumes a c xs
consumed_kept None b c xs p q = tt
consumed_kept (Some l) None c xs p q = absurd p
consumed_kept (Some l) (Some m) None xs p q = absurd q
consumed_kept (Some l) (Some m) (Some n) xs p q = p ∙ ap (λ (t : List ℕ). xs ++ t) (sym q)

-- ---- what a stream that tells its bytes has next

begins_known : (a c : Option (List ℕ)) (made read : List ℕ) → Consumes a c read → BeginsWith made read → IfSome a (BeginsWith made)
begins_known None c made read p b = tt
begins_known (Some l) None made read p b = absurd p
begins_known (Some l) (Some m) made read p b =
    (b.0, b.1 ++ m, p ∙ ap (λ (t : List ℕ). t ++ m) b.2 ∙ append_assoc b.0 b.1 m, b.3)

fault_known : (a c : Option (List ℕ)) (read : List ℕ) → Consumes a c read → HasFault read → IfSome a HasFault
fault_known None c read p f = tt
fault_known (Some l) None read p f = absurd p
fault_known (Some l) (Some m) read p f =
    (f.0, f.1 ++ m, p ∙ ap (λ (t : List ℕ). t ++ m) f.2 ∙ append_assoc f.0 f.1 m, f.3)

pub end_known : (a c : Option (List ℕ)) (read : List ℕ) → Consumes a c read → IsAtEnd c → HasNoRecord read → HasNoFault read
    → IfSome a (λ bytes. HasNoRecord bytes × HasNoFault bytes)
end_known None c read p q r f = tt
end_known (Some l) None read p q r f = absurd p
end_known (Some l) (Some m) read p q r f =
    let all : read ≡ l = sym (p ∙ ap (λ (t : List ℕ). read ++ t) q ∙ append-nil read) in
    (subst HasNoRecord all r, subst HasNoFault all f)

-- nothing is said of it
nothing_known : (a : Option (List ℕ)) → IfSome a (λ bytes. Unit {0})
nothing_known None = tt
nothing_known (Some l) = tt

pub consumed_end : (a b c : Option (List ℕ)) (xs : List ℕ) → Consumes a b xs → Consumes b c [] → Consumes a c xs
consumed_end None b c xs p q = tt
consumed_end (Some l) None c xs p q = absurd p
consumed_end (Some l) (Some m) None xs p q = absurd q
consumed_end (Some l) (Some m) (Some n) xs p q = p ∙ ap (λ (t : List ℕ). xs ++ t) q

-- a read that gave nothing is at the end
pub read_ended : (b c : Option (List ℕ)) (n : ℕ) (block : List ℕ) → n ≡ 0 → 0 < length block
    → Consumes b c (take n block) × (n ≡ 0 → 0 < length block → IsAtEnd c) → Consumes b c [] × IsAtEnd c
read_ended b c n block e some r = (subst (λ (m : ℕ). Consumes b c (take m block)) e r.0, r.1 e some)

module _ {X : Type 0} (view : X → List ℕ) where
  pub failure_known : (a : Option (List ℕ)) (fault : AdminFault) → IsFailure fault → IfSome a (HasNext view (Err fault))
  failure_known a Stream f = nothing_known a
  failure_known a Late f = nothing_known a
  failure_known a Cut f = absurd f
  failure_known a TooLong f = absurd f
  failure_known a NoMemory f = absurd f
  failure_known a (Malformed fault) f = absurd f
  failure_known a OfAnotherCall f = absurd f
  failure_known a (Refused refusal) f = absurd f

  pub taken_known : (a c : Option (List ℕ)) (came piece : List ℕ) (r : Result X AdminFault) (new : Option State) → Consumes a c (came ++ piece)
      → Takes view came piece (Some r) new → IfSome a (HasNext view r)
  taken_known a c came piece (Ok made) new p t = begins_known a c (view made) (came ++ piece) p t
  taken_known a c came piece (Err Stream) new p t = absurd t
  taken_known a c came piece (Err Late) new p t = absurd t
  taken_known a c came piece (Err Cut) new p t = absurd t
  taken_known a c came piece (Err TooLong) new p t = fault_known a c (came ++ piece) p t
  taken_known a c came piece (Err NoMemory) new p t = nothing_known a
  taken_known a c came piece (Err (Malformed fault)) new p t = absurd t
  taken_known a c came piece (Err OfAnotherCall) new p t = absurd t
  taken_known a c came piece (Err (Refused refusal)) new p t = absurd t

  pub taken_fault : (came piece : List ℕ) (r : Result X AdminFault) (new : Option State) → Takes view came piece (Some r) new → IfErr r IsOfStream
  taken_fault came piece (Ok made) new t = tt
  taken_fault came piece (Err Stream) new t = absurd t
  taken_fault came piece (Err Late) new t = absurd t
  taken_fault came piece (Err Cut) new t = absurd t
  taken_fault came piece (Err TooLong) new t = tt
  taken_fault came piece (Err NoMemory) new t = tt
  taken_fault came piece (Err (Malformed fault)) new t = absurd t
  taken_fault came piece (Err OfAnotherCall) new t = absurd t
  taken_fault came piece (Err (Refused refusal)) new t = absurd t
