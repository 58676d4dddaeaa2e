-- Calls that tell and change nothing.
use Rattle.std.proofs.Common.{◌≡◌, ℕ, false, [], None, refl, sym, ap, ◌∙◌}
use Rattle.nfs_model.specs.Types.{Answer, Success}
use Rattle.nfs_model.specs.Moves.{PartsChange}
use Rattle.nfs_model.specs.Server.{Server}
use Rattle.nfs_model.specs.Serial.Starve.{takes_memory}
use Rattle.nfs_model.specs.Work.{Starved}
use Rattle.std.specs.Prelude.{IsTrue}
use Rattle.filer_state.specs.state.Contents.{VolumeContents}
use Rattle.filer_state.specs.state.Tree.{volume_of}
use Rattle.filer_state.specs.state.WellFormed.{WellFormed}
use Rattle.filer_state.specs.state.Partition.{stored}
use Rattle.filer_state.specs.state.Jobs.{Replied}
use Rattle.filer_state.specs.state.Lenses.{LogicalSet, logical_lens}
use Rattle.filer_state.specs.state.Promises.{RightOnVolume}
use Rattle.filer_state.specs.state.Calls.{VolumeCall, ServesOn, WorksOn, answer_on, volume_left, move_on}
use Rattle.filer_state.specs.attributes.lemmas.Getting.{reads-right}

-- such a call is right where its answer is that of what is under Logical
pub tells-right : (v : ℕ) (c : VolumeCall) (answer : ℕ → LogicalSet → Answer)
    → ((p : VolumeContents) → move_on c p ≡ None)
    → ((p : VolumeContents) → PartsChange c.call c.node (stored p) (stored p))
    → ((p : VolumeContents) → volume_of p ≡ volume_left (volume_of p) (c.run (volume_of p)))
    → ((p : VolumeContents) → WellFormed p → answer p.number (logical_lens.of p) ≡ answer_on c p)
    → (set : LogicalSet) → RightOnVolume v logical_lens (ServesOn c false) [] [] set (Replied (Success (answer v set))) set
tells-right v c answer moves parts stays says set =
    reads-right v logical_lens (ServesOn c false) set (Replied (Success (answer v set))) (λ p. refl)
    (λ p hands made numbered has sound.
    let told : answer v set ≡ answer_on c p =
    sym (ap (λ (n : ℕ). answer n (logical_lens.of p)) numbered ∙ ap (answer v) has) ∙ says p sound.well_formed in
    ((moves p, ap Success told, stays p, parts p), λ e. absurd cc))

-- one that would answer this may starve where that answer takes memory
pub starves-right : (v : ℕ) (c : VolumeCall) (answer : ℕ → LogicalSet → Answer)
    → ((p : VolumeContents) → move_on c p ≡ None)
    → ((p : VolumeContents) → WellFormed p → answer p.number (logical_lens.of p) ≡ answer_on c p)
    → (set : LogicalSet) → ((server : Server) (a : Answer) → answer v set ≡ a → IsTrue (takes_memory server c.call a))
    → RightOnVolume v logical_lens (WorksOn c) [] [] set Starved set
starves-right v c answer moves says set takes =
    reads-right v logical_lens (WorksOn c) set Starved (λ p. refl)
    (λ p hands made numbered has sound.
    let told : answer v set ≡ answer_on c p =
    sym (ap (λ (n : ℕ). answer n (logical_lens.of p)) numbered ∙ ap (answer v) has) ∙ says p sound.well_formed in
    (moves p, (λ server at. takes server (answer_on c p) told), refl))
