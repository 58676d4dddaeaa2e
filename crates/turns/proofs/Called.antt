-- The inner call of a tend fits the hand that it is made with.
use Rattle.std.proofs.Common.{◌≡◌, Bool, true, false, ◌&&◌, nat_lt, [], ◌∷◌, length, Ok, Err, Result, refl, sym, subst}
use Rattle.std.specs.Prelude.{if◌then◌else◌}
use Rattle.std.proofs.lemmas.Bool.{and_parts, ltb-true}
use Rattle.nfs_model.specs.Tree.{Layout, range_blocks_of}
use Rattle.nfs_model.specs.Parts.{Hand, Empty, Fresh, Dead, most_ranges, range_of}
use Rattle.filer_state.specs.state.Jobs as jobs
use Rattle.filer_state.specs.state.Jobs.{InnerCall}
use Rattle.turns.specs.declared.tend.Tend.{Tend}
use Rattle.turns.specs.declared.tend.Tend.TheVariants.{Fetch, Cull, PutDown}
use Rattle.turns.specs.declared.tend.Tended.{Tended}
use Rattle.turns.specs.declared.tend.TendRefusal.{TendRefusal}
use Rattle.turns.specs.declared.tend.TendRefusal.TheVariants.{NoSuchRange}
use Rattle.turns.specs.declared.worker.Worker.{Worker}
use Rattle.turns.specs.Carries.{FitsHand}
use Rattle.turns.specs.Tends.{call_of, Answers, Tends}
use Rattle.turns.specs.Words.{IsHandIn}

pub fits-hand : (layout : Layout) (tend : Tend) (hand : Hand) (call : InnerCall) → IsHandIn layout hand → call_of layout tend hand ≡ Ok call
    → FitsHand layout call hand
fits-hand layout (Fetch v r) Empty call inside e = by (nat_lt v.0 (length layout.volumes) && nat_lt r most_ranges) refl e
  where
    by : (b : Bool) → (nat_lt v.0 (length layout.volumes) && nat_lt r most_ranges) ≡ b
        → (if b then Ok (jobs.Fetch v.0 r) else Err NoSuchRange) ≡ Ok call → FitsHand layout call Empty
    by true is e =
        let both = and_parts (nat_lt v.0 (length layout.volumes)) (nat_lt r most_ranges) is in
        let same : jobs.Fetch v.0 r ≡ call = cc in
        subst (λ (x : InnerCall). FitsHand layout x Empty) same
        (record { node = (ltb-true v.0 (length layout.volumes) both.0, ltb-true r 16 both.1); fits = refl })
    by false is e = absurd (let no : ⊥ = cc in no)
fits-hand layout (Cull v) Empty call inside e = by (nat_lt v.0 (length layout.volumes)) refl e
  where
    by : (b : Bool) → nat_lt v.0 (length layout.volumes) ≡ b
        → (if b then Ok (jobs.Cull v.0) else Err NoSuchRange) ≡ Ok call → FitsHand layout call Empty
    by true is e =
        let same : jobs.Cull v.0 ≡ call = cc in
        subst (λ (x : InnerCall). FitsHand layout x Empty) same
        (record { node = ltb-true v.0 (length layout.volumes) is; fits = refl })
    by false is e = absurd (let no : ⊥ = cc in no)
fits-hand layout PutDown Empty call inside e = absurd (let no : ⊥ = cc in no)
fits-hand layout PutDown (Fresh v blocks) call inside e =
    let same : jobs.Deliver v ≡ call = cc in
    subst (λ (x : InnerCall). FitsHand layout x (Fresh v blocks)) same (record { node = inside.0; fits = (blocks, refl, inside.1, inside.2) })
fits-hand layout PutDown (Dead v []) call inside e = absurd (let no : ⊥ = cc in no)
fits-hand layout PutDown (Dead v (b ∷ bs)) call inside e =
    let same : jobs.Free v (range_of (range_blocks_of layout v) (b ∷ bs)) ≡ call = cc in
    subst (λ (x : InnerCall). FitsHand layout x (Dead v (b ∷ bs))) same (record { node = inside.0; fits = (b ∷ bs, refl, inside.1, inside.2) })
fits-hand layout (Fetch v r) (Fresh u blocks) call inside e = absurd (let no : ⊥ = cc in no)
fits-hand layout (Fetch v r) (Dead u blocks) call inside e = absurd (let no : ⊥ = cc in no)
fits-hand layout (Cull v) (Fresh u blocks) call inside e = absurd (let no : ⊥ = cc in no)
fits-hand layout (Cull v) (Dead u blocks) call inside e = absurd (let no : ⊥ = cc in no)

-- what a worker's inner call answers, its tend does
pub tends-by : (layout : Layout) (before after : Worker) (tend : Tend) (asked : Result InnerCall TendRefusal) (answer : Result Tended TendRefusal)
    → call_of layout tend before.hand ≡ asked → Answers layout before asked answer after → Tends layout before tend answer after
tends-by layout before after tend asked answer e did =
    subst (λ (x : Result InnerCall TendRefusal). Answers layout before x answer after) (sym e) did
