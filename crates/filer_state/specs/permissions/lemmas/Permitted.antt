-- A call that does the same on each volume that fits runs alike; and one that is refused changes nothing.
use Rattle.std.proofs.Common.{◌≡◌, ℕ, ◌+◌, List, Option, Some, None, refl, sym, ap, ◌∙◌, subst, arith}
use Rattle.std.specs.Prelude.{IsTrue}
use Rattle.nfs_model.specs.Types.{Caller, Answer, Failed, Status, Success}
use Rattle.nfs_model.specs.Server.{Server, VolumeState}
use Rattle.nfs_model.specs.Locate.{Effect, Fails, locate}
use Rattle.nfs_model.specs.Serial.Absent.{absent_parts}
use Rattle.nfs_model.specs.Serial.Starve.{takes_memory}
use Rattle.nfs_model.specs.Moves.{PartsChange}
use Rattle.nfs_model.specs.Parts.{Hand}
use Rattle.nfs_model.specs.Work.{Outcome, Replied, Starved, Moved}
use Rattle.filer_state.specs.state.Contents.{VolumeContents}
use Rattle.filer_state.specs.state.Tree.{volume_of}
use Rattle.filer_state.specs.state.Partition.{stored, times_in_hand}
use Rattle.filer_state.specs.state.Sound.{IsSound}
use Rattle.filer_state.specs.state.Lenses.{Lens}
use Rattle.filer_state.specs.state.Running.{RunsOn}
use Rattle.filer_state.specs.state.Calls.{VolumeCall, WorksOn, answer_of, volume_left, move_on, handle_in, located_on}
use Rattle.filer_state.specs.laws.lemmas.Steps.{sound-later}

-- two calls that differ in what they do, and in their caller, where they move alike on each volume that fits and do the same there
module _ {S : Type 0} (v : ℕ) (lens : Lens VolumeContents S) (c d : VolumeCall) (call : d.call ≡ c.call) (node : d.node ≡ c.node)
    (fileid : d.fileid ≡ c.fileid) (old : S)
    (moves : (p : VolumeContents) (hands : List Hand) (made : ℕ) → lens.of p ≡ old → p.number ≡ v → IsSound p hands made → move_on d p ≡ move_on c p)
    (same : (p : VolumeContents) (hands : List Hand) (made : ℕ) → lens.of p ≡ old → p.number ≡ v → IsSound p hands made
    → d.run (volume_of p) ≡ c.run (volume_of p)) where
  pub runs-alike : (outcome : Outcome) (new : S) → RunsOn v lens c old outcome new → RunsOn v lens d old outcome new
  runs-alike (Moved to) new right = λ p hands hands' made has numbered sound moved.
      let r = right p hands hands' made has numbered sound moved in
      ((moves p hands made has numbered sound ∙ r.0.0, r.0.1), r.1)
  runs-alike Starved new right = λ p hands hands' made has numbered sound moved.
      let r = right p hands hands' made has numbered sound moved in
      let runs = same p hands made has numbered sound in (
        (
          moves p hands made has numbered sound ∙ r.0.0,
          (λ server there. subst (λ (e : Effect). IsTrue (takes_memory server d.call (answer_of (absent_parts d.call) e))) (sym runs)
              (subst (λ x. IsTrue (takes_memory server x (answer_of (absent_parts x) (c.run (volume_of p))))) (sym call)
              (r.0.1 server (ap (λ x. locate server (handle_in x)) (sym call) ∙ there
              ∙ ap (λ (n : ℕ). Some (located_on (record c { fileid = n }) p)) fileid)))),
          r.0.2,
        ),
        r.1,
      )
  runs-alike (Replied reply) new right = λ p hands hands' made has numbered sound moved.
      let r = right p hands hands' made has numbered sound moved in
      let runs = same p hands made has numbered sound in (
        (
          moves p hands made has numbered sound ∙ r.0.0,
          r.0.1 ∙ (λ j. Success (answer_of (absent_parts (sym call j)) (sym runs j))),
          r.0.2 ∙ ap (volume_left (volume_of p)) (sym runs),
          subst (λ x. PartsChange x d.node (stored p) (stored (lens.put new p))) (sym call)
              (subst (λ x. PartsChange c.call x (stored p) (stored (lens.put new p))) (sym node) r.0.3),
        ),
        r.1,
      )

-- one that fails on each volume that fits, and changes nothing where it leaves all as it is
pub fails-right : {S : Type 0} (v : ℕ) (lens : Lens VolumeContents S) (c : VolumeCall) (status : Status) (old : S)
    → ((p : VolumeContents) → lens.put (lens.of p) p ≡ p)
    → ((p : VolumeContents) → PartsChange c.call c.node (stored p) (stored p))
    → ((p : VolumeContents) (hands : List Hand) (made : ℕ) → lens.of p ≡ old → p.number ≡ v → IsSound p hands made → move_on c p ≡ None)
    → ((p : VolumeContents) (hands : List Hand) (made : ℕ) → lens.of p ≡ old → p.number ≡ v → IsSound p hands made
    → c.run (volume_of p) ≡ Fails status)
    → RunsOn v lens c old (Replied (Success (Failed status (absent_parts c.call)))) old
fails-right v lens c status old put parts moves runs = λ p hands hands' made has numbered sound moved.
    let fails = runs p hands made has numbered sound in
    let back : lens.put old p ≡ p = ap (λ s. lens.put s p) (sym has) ∙ put p in
    subst (λ (q : VolumeContents). WorksOn c p (Replied (Success (Failed status (absent_parts c.call)))) q × IsSound q hands' (made + 1)) (sym back) (
      (
        moves p hands made has numbered sound,
        ap (λ (e : Effect). Success (answer_of (absent_parts c.call) e)) (sym fails),
        ap (volume_left (volume_of p)) (sym fails),
        parts p,
      ),
      sound-later p hands hands' made (λ n. let e = moved (times_in_hand p.number n) in omega (arith, e)) sound,
    )
