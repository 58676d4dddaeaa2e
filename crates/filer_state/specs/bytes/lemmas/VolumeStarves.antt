-- WRITE by what is under Volume may find no memory where it fills a hole.
use Rattle.std.proofs.Common.{◌≡◌, ℕ, suc, ◌+◌, ◌<◌, Bool, false, List, length, Some, None, nat_lt, refl, sym, ap, ◌∙◌, subst}
use Rattle.std.specs.Prelude.{if◌then◌else◌, Ok}
use Rattle.std.specs.FinMap.{get}
use Rattle.nfs_model.specs.Tree.{Volume}
use Rattle.nfs_model.specs.Parts.{Hand}
use Rattle.nfs_model.specs.Serial.Write.{Writing}
use Rattle.nfs_model.specs.Work.{Starved}
use Rattle.filer_state.specs.state.Contents.{VolumeContents}
use Rattle.filer_state.specs.state.Sound.{IsSound}
use Rattle.filer_state.specs.state.Lenses.{VolumeSet, volume_lens}
use Rattle.filer_state.specs.state.Calls.{WorksOn}
use Rattle.filer_state.specs.state.Running.{RunsOn}
use Rattle.filer_state.specs.attributes.lemmas.Getting.{reads-right}
use Rattle.filer_state.specs.bytes.WritingLaws.{write_call}
use Rattle.filer_state.specs.bytes.WritingUp.{bytes_due, holes_of, for_holes, all_blocks}
use Rattle.filer_state.specs.bytes.lemmas.Checks.{SomeBytes, Checked, checked}
use Rattle.filer_state.specs.bytes.lemmas.LogicalStarves.{may-starve}
use Rattle.filer_state.specs.bytes.lemmas.VolumeWrites.{moves-if, space-is}

module _ (v f k : ℕ) (handle : List ℕ) (w : Writing) where
  starves : (p : VolumeContents) (hands : List Hand) (made : ℕ) → IsSound p hands made
      → bytes_due (get p.logical.inodes.inodes f) p.logical.largest w ≡ Ok (suc k)
      → nat_lt (all_blocks (volume_lens.of p)) (p.logical.inodes.used + length (holes_of f w (volume_lens.of p).logical)) ≡ false
      → nat_lt (for_holes (volume_lens.of p)) (length (holes_of f w (volume_lens.of p).logical)) ≡ false
      → 0 < length (holes_of f w (volume_lens.of p).logical) → WorksOn (write_call handle (Volume p.number) f w) p Starved p
  starves p hands made sound due fits enough some =
      by (subst (Checked p f handle w (Volume p.number)) due (checked p f handle w (Volume p.number)))
    where
      by : SomeBytes p f handle w (Volume p.number) → WorksOn (write_call handle (Volume p.number) f w) p Starved p
      by bytes = (
        moves-if p f handle w hands hands made sound (λ n. refl) bytes fits
            ∙ ap (λ (b : Bool). if b then Some (Volume p.number) else None) enough,
        may-starve p f handle w (Volume p.number) bytes hands made sound some
            (space-is p f handle w hands hands made sound (λ n. refl) bytes ∙ fits),
        refl,
      )

  pub volume-write-starves : (s : VolumeSet) → bytes_due (get s.logical.own.inodes.inodes f) s.logical.own.largest w ≡ Ok (suc k)
      → nat_lt (all_blocks s) (s.logical.own.inodes.used + length (holes_of f w s.logical)) ≡ false
      → nat_lt (for_holes s) (length (holes_of f w s.logical)) ≡ false → 0 < length (holes_of f w s.logical)
      → RunsOn v volume_lens (write_call handle (Volume v) f w) s Starved s
  volume-write-starves s due fits enough some =
      reads-right v volume_lens (WorksOn (write_call handle (Volume v) f w)) s Starved (λ p. refl)
      (λ p hands made numbered has sound.
      subst (λ (u : ℕ). WorksOn (write_call handle (Volume u) f w) p Starved p) numbered
      (starves p hands made sound
      (subst (λ (t : VolumeSet). bytes_due (get t.logical.own.inodes.inodes f) t.logical.own.largest w ≡ Ok (suc k)) (sym has) due)
      (subst (λ (t : VolumeSet). nat_lt (all_blocks t) (t.logical.own.inodes.used + length (holes_of f w t.logical)) ≡ false) (sym has) fits)
      (subst (λ (t : VolumeSet). nat_lt (for_holes t) (length (holes_of f w t.logical)) ≡ false) (sym has) enough)
      (subst (λ (t : VolumeSet). 0 < length (holes_of f w t.logical)) (sym has) some)))
