-- WRITE by what is under Logical may find no memory where it fills a hole.
use Rattle.std.proofs.Common.{◌≡◌, ℕ, suc, ◌+◌, ◌<◌, Bool, true, false, List, length, Option, Some, None, nat_lt, refl, sym, ap, ◌∙◌, subst, arith}
use Rattle.std.specs.Prelude.{if◌then◌else◌, Ok}
use Rattle.std.proofs.lemmas.Bool.Decides.{nat_tests}
use Rattle.std.specs.FinMap.{get}
use Rattle.std.specs.FinSet.{len}
use Rattle.nfs_model.specs.Types.{Write, NoSpace, WriteDone}
use Rattle.nfs_model.specs.Tree.{Affinity, Logical, Volume}
use Rattle.nfs_model.specs.Parts.{Hand}
use Rattle.nfs_model.specs.Server.{FileNode, Node, used}
use Rattle.nfs_model.specs.Locate.{Located, locate, node_named, unless}
use Rattle.nfs_model.specs.Serial.Write.{Writing, bytes_kept, need}
use Rattle.nfs_model.specs.Serial.Starve.{need_in, takes_memory}
use Rattle.nfs_model.specs.Work.{Starved}
use Rattle.filer_state.specs.state.Contents.{VolumeContents}
use Rattle.filer_state.specs.state.Tree.{volume_of}
use Rattle.filer_state.specs.state.Sound.{IsSound}
use Rattle.filer_state.specs.state.Lenses.{LogicalSet, logical_lens}
use Rattle.filer_state.specs.state.Calls.{VolumeCall, MayStarveOn, WorksOn, answer_on, answer_of}
use Rattle.filer_state.specs.state.Running.{RunsOn}
use Rattle.filer_state.specs.attributes.lemmas.Getting.{reads-right}
use Rattle.filer_state.specs.laws.lemmas.Counted.{used-is}
use Rattle.filer_state.specs.bytes.Extending.{holes}
use Rattle.filer_state.specs.bytes.WritingLaws.{write_call}
use Rattle.filer_state.specs.bytes.WritingUp.{bytes_due, holes_of}
use Rattle.filer_state.specs.bytes.lemmas.WrittenNodes.{file_before}
use Rattle.filer_state.specs.bytes.lemmas.Checks.{SomeBytes, Checked, checked, change_of}
use Rattle.filer_state.specs.bytes.lemmas.WrittenUp.{need-is, not-past, within-not}
use Rattle.filer_state.specs.bytes.lemmas.Listed.{stock-fits}

module _ (p : VolumeContents) (f : ℕ) (handle : List ℕ) (w : Writing) (node : Affinity) (bytes : SomeBytes p f handle w node)
    (hands : List Hand) (made : ℕ) (sound : IsSound p hands made)
    (some : 0 < length (holes p.stripes f w.offset (length (bytes_kept w)))) where
  abbrev call : VolumeCall
  call = write_call handle node f w

  abbrev n : ℕ
  n = length (bytes_kept w)

  abbrev file : FileNode
  file = file_before p f bytes.inode bytes.size bytes.verifier

  more-than-none : (k : ℕ) → 0 < k → nat_lt 0 k ≡ true
  more-than-none k h = grind (arith, nat_tests)

  -- where there is space it takes memory
  pub may-starve : nat_lt (volume_of p).total (used (volume_of p) + need file w.offset n) ≡ false → MayStarveOn call p
  may-starve space server at =
      subst (λ (b : Bool). b ≡ true) (sym memory) refl
    where
      answer : answer_on call p ≡ WriteDone n (volume_of p).verifier
      answer =
          ap (answer_of 2) (bytes.run ∙ ap (λ (b : Bool). unless (if b then Some NoSpace else None) (change_of p f w file)) space)

      kept : (k : ℕ) → nat_lt 0 (need_in (node_named (locate server handle)) w.offset k) ≡ nat_lt 0 (need file w.offset k)
      kept k =
          ap (λ (l : Option Located). nat_lt 0 (need_in (node_named l) w.offset k)) at
          ∙ ap (λ (x : Option Node). nat_lt 0 (need_in x w.offset k)) bytes.node_is

      memory : takes_memory server (Write handle w.offset w.count w.written) (answer_on call p) ≡ true
      memory =
          ap (takes_memory server (Write handle w.offset w.count w.written)) answer
          ∙ kept n ∙ more-than-none (need file w.offset n) (let needs = need-is p f handle w node bytes hands made sound in omega (arith, needs, some))

-- ---- by what is under Logical

module _ (v f k : ℕ) (handle : List ℕ) (w : Writing) where
  starves : (p : VolumeContents) (hands : List Hand) (made : ℕ) → IsSound p hands made
      → bytes_due (get p.logical.inodes.inodes f) p.logical.largest w ≡ Ok (suc k)
      → nat_lt (len p.logical.stock) (length (holes_of f w (logical_lens.of p))) ≡ false
      → 0 < length (holes_of f w (logical_lens.of p)) → WorksOn (write_call handle (Logical p.number) f w) p Starved p
  starves p hands made sound due enough some =
      by (subst (Checked p f handle w (Logical p.number)) due (checked p f handle w (Logical p.number)))
    where
      by : SomeBytes p f handle w (Logical p.number) → WorksOn (write_call handle (Logical p.number) f w) p Starved p
      by bytes = (
        bytes.moved
            ∙ ap (λ (j : ℕ). if nat_lt (len p.logical.stock) j then Some (Volume p.number) else None)
            (need-is p f handle w (Logical p.number) bytes hands made sound)
            ∙ ap (λ (b : Bool). if b then Some (Volume p.number) else None) enough,
        may-starve p f handle w (Logical p.number) bytes hands made sound some (
            let needs = need-is p f handle w (Logical p.number) bytes hands made sound in
            let fits = stock-fits p hands sound.well_formed sound.partition in
            let was = used-is p sound.well_formed in
            let few = not-past (len p.logical.stock) (length (holes_of f w (logical_lens.of p))) enough in
            within-not (volume_of p).total (used (volume_of p)
            + need (file_before p f bytes.inode bytes.size bytes.verifier) w.offset (length (bytes_kept w)))
            (omega (arith, needs, fits, was, few))),
        refl,
      )

  pub logical-write-starves : (s : LogicalSet) → bytes_due (get s.own.inodes.inodes f) s.own.largest w ≡ Ok (suc k)
      → nat_lt (len s.own.stock) (length (holes_of f w s)) ≡ false → 0 < length (holes_of f w s)
      → RunsOn v logical_lens (write_call handle (Logical v) f w) s Starved s
  logical-write-starves s due enough some =
      reads-right v logical_lens (WorksOn (write_call handle (Logical v) f w)) s Starved (λ p. refl)
      (λ p hands made numbered has sound.
      subst (λ (u : ℕ). WorksOn (write_call handle (Logical u) f w) p Starved p) numbered
      (starves p hands made sound
      (subst (λ (t : LogicalSet). bytes_due (get t.own.inodes.inodes f) t.own.largest w ≡ Ok (suc k)) (sym has) due)
      (subst (λ (t : LogicalSet). nat_lt (len t.own.stock) (length (holes_of f w t)) ≡ false) (sym has) enough)
      (subst (λ (t : LogicalSet). 0 < length (holes_of f w t)) (sym has) some)))
