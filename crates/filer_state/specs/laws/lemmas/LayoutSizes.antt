-- The ranges of stored volumes have as many blocks as the layout says.
use Rattle.std.proofs.Common.{◌≡◌, ℕ, zero, suc, ◌<◌, List, [], ◌∷◌, length, map, Option, Some, None, sym, ap, ◌∙◌, subst, arith}
use Rattle.std.specs.Prelude.{slice_get}
use Rattle.nfs_model.specs.Tree.{Layout, Logical, Range, range_blocks_of}
use Rattle.nfs_model.specs.Server.{Server, opening}
use Rattle.nfs_model.specs.Parts.{Hand}
use Rattle.nfs_model.specs.Replay.{server_after}
use Rattle.nfs_laws.specs.Sizes.{HaveSizes}
use Rattle.nfs_laws.specs.lemmas.Sizes.{sizes_after, opening_sizes}
use Rattle.affinity.specs.Fault.{fault_of}
use Rattle.affinity.specs.Numbers.{parents}
use Rattle.depot_rule.specs.declared.view.Entry.{Entry}
use Rattle.depot_rule.specs.History.{after, Legal, SoundThroughout, behaviour}
use Rattle.parcels.specs.Sets.{range_parcels, logical_parcels}
use Rattle.nfs_model.specs.volume.Ranges.{RangeValue}
use Rattle.filer_state.specs.state.Parcels.{FilerParcel}
use Rattle.filer_state.specs.state.Contents.{VolumeContents, FilerContents, volume_at, filer_contents}
use Rattle.filer_state.specs.state.Tree.{volume_of, server_of, tree}
use Rattle.filer_state.specs.state.WellFormed.{range_at}
use Rattle.filer_state.specs.state.Sound.{IsFiler}
use Rattle.filer_state.specs.state.Jobs.{Job, JobReply, takes, gives}
use Rattle.filer_state.specs.state.Deeds.{FilerSteps}
use Rattle.filer_state.specs.state.Replayed.{calls_of}
use Rattle.filer_state.specs.state.Lenses.{LogicalSet, volume_or_none}
use Rattle.filer_state.specs.state.Opening.{AreOpening}
use Rattle.filer_state.specs.state.Running.{HasSizedFiler}
use Rattle.filer_state.specs.state.Sets.{FilerRange, FilerLogical}
use Rattle.filer_state.specs.laws.lemmas.Opening.{opening-tree}
use Rattle.filer_state.specs.laws.lemmas.Replays.{history-replays}
use Rattle.filer_state.specs.laws.lemmas.SeenSets.{range-seen, logical-seen}
use Rattle.filer_state.specs.laws.lemmas.Steps.{laid-out, get-some}

-- ---- after a history

pub history-sized : {P : Type 0} (layout : Layout) → fault_of layout ≡ None → (verifier : List ℕ) (f : ℕ → Option (FilerParcel P))
    → AreOpening layout verifier f → (log : List (Entry (FilerParcel P) Job JobReply)) → Legal FilerSteps (parents layout) f log
    → SoundThroughout (behaviour FilerSteps takes gives IsFiler) (parents layout) f log
    → HaveSizes layout (tree layout (after (parents layout) f log))
history-sized layout lawful verifier f opened log legal sound =
    let replayed = history-replays layout lawful f log legal sound in
    let is : tree layout (after (parents layout) f log) ≡ server_after (opening layout verifier) (calls_of log) =
    replayed.server ∙ ap (λ (s : Server). server_after s (calls_of log)) (opening-tree layout lawful verifier f opened) in
    subst (λ (s : Server). HaveSizes layout s) (sym is)
    (sizes_after layout (calls_of log) (opening layout verifier) (opening_sizes layout verifier))

-- ---- of a volume

volume-there : (volumes : List VolumeContents) (v : ℕ) (p : VolumeContents) → slice_get volumes v ≡ Some p
    → slice_get (map volume_of volumes) v ≡ Some (volume_of p)
volume-there [] v p e = absurd cc
volume-there (x ∷ xs) zero p e = let same : x ≡ p = cc in ap (λ q. Some (volume_of q)) same
volume-there (x ∷ xs) (suc v) p e = volume-there xs v p e

-- a volume that is stored has the layout's
pub contents-sized : (layout : Layout) (c : FilerContents) → HaveSizes layout (server_of c) → (v : ℕ) (p : VolumeContents) → volume_at c v ≡ Some p
    → p.logical.dead.range_blocks ≡ range_blocks_of layout v
contents-sized layout c sized v p there = sized.ranges v (volume_of p) (volume-there c.volumes v p there)

module _ {P : Type 0} (layout : Layout) (lawful : fault_of layout ≡ None) (given : List Hand) (v : ℕ) (on : v < length layout.volumes) where
  -- and so has a range that is granted
  pub range-sized : (r : ℕ) → r < 16 → (held : FilerRange P) → HasSizedFiler layout (Range v r) given (range_parcels layout (Range v r) held)
      → held.own.range_blocks ≡ range_blocks_of layout v
  range-sized r less held h =
      let c : FilerContents = filer_contents layout h.0.0 in
      let found = get-some c.volumes v (let count = (laid-out layout h.0.0).volumes in omega (arith, count, on)) in
      let s = h.0.7 v found.0 found.1 in
      let own : range_at found.0.ranges r ≡ held.own =
      ap (λ (o : Option VolumeContents). range_at (volume_or_none o).ranges r) (sym found.1)
      ∙ (range-seen layout lawful v on r less held).has h.0.0 h.0.4 in
      ap (λ (x : RangeValue). x.range_blocks) (sym own)
      ∙ (s.1.well_formed.ranges r (let long = s.1.well_formed.sixteen in omega (arith, long, less))).blocks
      ∙ contents-sized layout c h.1 v found.0 found.1

  -- and what is under Logical
  pub logical-sized : (held : FilerLogical P) → HasSizedFiler layout (Logical v) given (logical_parcels layout (Logical v) held)
      → held.own.dead.range_blocks ≡ range_blocks_of layout v
  logical-sized held h =
      let c : FilerContents = filer_contents layout h.0.0 in
      let found = get-some c.volumes v (let count = (laid-out layout h.0.0).volumes in omega (arith, count, on)) in
      ap (λ (s : LogicalSet). s.own.dead.range_blocks) (sym ((logical-seen layout lawful v on held).has h.0.0 h.0.4))
      ∙ ap (λ (o : Option VolumeContents). (volume_or_none o).logical.dead.range_blocks) found.1
      ∙ contents-sized layout c h.1 v found.0 found.1
