-- No call changes how many blocks a range of a volume has.
use Rattle.std.proofs.Common.{◌≡◌, ℕ, zero, suc, ◌+◌, Bool, true, false, List, [], ◌∷◌, Option, Some, None, refl, sym, ap, ◌∙◌, subst}
use Rattle.std.specs.Prelude.{◌*◌, slice_get, slice_set}
use Rattle.nfs_model.specs.Types as model
use Rattle.nfs_model.specs.Memo.{Told}
use Rattle.nfs_model.specs.Server.{opening_volume, opening_volumes, opening, VolumeState, Server}
use Rattle.nfs_model.specs.Tree.{Layout, VolumeLayout, range_blocks_in, range_blocks_of}
use Rattle.nfs_model.specs.Replay.{FinishedCall, server_after}
use Rattle.nfs_model.specs.Locate.{Effect, Fails, Tells, Changes}
use Rattle.nfs_model.specs.Serial.Once.{told_before, remembering, remembered, or_told}
use Rattle.nfs_model.specs.Serial.Grow.{grown}
use Rattle.nfs_model.specs.Serial.Step.{Step, placed, serve, serial}
use Rattle.nfs_laws.specs.Sizes.{HaveSizes}
use Rattle.nfs_laws.specs.lemmas.Effects.{Ends, Keeping, Telling, ends_changes}
use Rattle.nfs_laws.specs.lemmas.Served.{served}

-- ---- the server

-- a fact of each volume by its number
abbrev pub All : (ℕ → VolumeState → Type 0) → List VolumeState → Type 0
All P volumes = (i : ℕ) (v : VolumeState) → slice_get volumes i ≡ Some v → P i v

pub set_all : (P : ℕ → VolumeState → Type 0) (volumes : List VolumeState) (j : ℕ) (new : VolumeState) → P j new → All P volumes
    → All P (slice_set volumes j new)
set_all P [] j new p all i v e = all i v e
set_all P (x ∷ xs) zero new p all zero v e = subst (λ w. P zero w) (let same : new ≡ v = cc in same) p
set_all P (x ∷ xs) zero new p all (suc i) v e = all (suc i) v e
set_all P (x ∷ xs) (suc j) new p all zero v e = all zero v e
set_all P (x ∷ xs) (suc j) new p all (suc i) v e = set_all (λ k. P (suc k)) xs j new p (λ k w g. all (suc k) w g) i v e

module _ (layout : Layout) where
  set_sized : (server : Server) (spare : List ℕ) (j : ℕ) (old new : VolumeState) → slice_get server.volumes j ≡ Some old
      → new.range_blocks ≡ old.range_blocks → HaveSizes layout server
      → HaveSizes layout (record { spare = spare; volumes = slice_set server.volumes j new })
  set_sized server spare j old new at e h =
      record { ranges = set_all (λ i v. v.range_blocks ≡ range_blocks_of layout i) server.volumes j new (e ∙ h.ranges j old at) h.ranges }

  placed_sized : (server : Server) (absent index : ℕ) (old : VolumeState) (x : Effect) → slice_get server.volumes index ≡ Some old
      → Ends Keeping old x → HaveSizes layout server → HaveSizes layout (placed server absent index x).server
  placed_sized server absent index old (Fails status) at f h = h
  placed_sized server absent index old (Tells answer) at f h = h
  placed_sized server absent index old (Changes answer new) at f h =
      set_sized server server.spare index old new at (ends_changes Keeping old answer new f).1.range_blocks h

  -- a call that is done once
  remembered_sized : (server : Server) (absent index : ℕ) (old : VolumeState) (who : model.Caller) (call : model.Call) (moment : model.Moment)
      (x : Effect) → slice_get server.volumes index ≡ Some old → Ends Telling old x → HaveSizes layout server
      → HaveSizes layout (placed server absent index (remembered who call moment old x)).server
  remembered_sized server absent index old who call moment (Fails status) at f h = h
  remembered_sized server absent index old who call moment (Tells answer) at f h =
      set_sized server server.spare index old (remembering who call moment answer old) at refl h
  remembered_sized server absent index old who call moment (Changes answer new) at f h =
      set_sized server server.spare index old (remembering who call moment answer new) at (ends_changes Telling old answer new f).1.0.range_blocks h

  told_sized : (server : Server) (absent index : ℕ) (old : VolumeState) (o : Option Told) (x : Effect)
      → HaveSizes layout (placed server absent index x).server → HaveSizes layout server → HaveSizes layout (placed server absent index (or_told old o x)).server
  told_sized server absent index old None x h g = h
  told_sized server absent index old (Some told) x h g = g

  serve_sized : (server : Server) (call : model.Call) (who : model.Caller) (moment : model.Moment) → HaveSizes layout server
      → HaveSizes layout (serve server call who moment).server
  serve_sized server call who moment h = served server call who moment (λ (s : Step). HaveSizes layout s.server) (record {
    untouched = λ answer e. h;
    plain = λ absent i old effect none at f. placed_sized server absent i old effect at f h;
    kept = λ absent i old effect good same at f.
        told_sized server absent i old (told_before old.memos who call moment) (remembered who call moment old effect)
        (remembered_sized server absent i old who call moment effect at f h) h;
    grows = λ i ranges old none at.
        set_sized server (grown server i old ranges).spare i old (record old { total = old.total + old.range_blocks * ranges }) at refl h;
  })

  serial_sized : (server : Server) (asked : model.Asked) (moment : model.Moment) (starved : Bool) → HaveSizes layout server
      → HaveSizes layout (serial server asked moment starved).server
  serial_sized server asked moment true h = h
  serial_sized server (model.Ask call who) moment false h = serve_sized server call who moment h
  serial_sized server (model.Refused reply) moment false h = h
  serial_sized server model.Undecoded moment false h = h

  -- nor do calls one after another
  pub sizes_after : (calls : List FinishedCall) (server : Server) → HaveSizes layout server → HaveSizes layout (server_after server calls)
  sizes_after [] server h = h
  sizes_after (e ∷ es) server h = sizes_after es (serial server e.asked e.moment e.starved).server (serial_sized server e.asked e.moment e.starved h)

-- ---- as a run begins

opens_sized : (verifier : List ℕ) (from : ℕ) (layouts : List VolumeLayout) (v : ℕ) (volume : VolumeState)
    → slice_get (opening_volumes verifier from layouts) v ≡ Some volume → volume.range_blocks ≡ range_blocks_in (slice_get layouts v)
opens_sized verifier from [] v volume e = absurd cc
opens_sized verifier from (x ∷ xs) zero volume e =
    let same : opening_volume verifier from x ≡ volume = cc in
    ap (λ (w : VolumeState). w.range_blocks) (sym same)
opens_sized verifier from (x ∷ xs) (suc v) volume e = opens_sized verifier (from + 1) xs v volume e

pub opening_sizes : (layout : Layout) (verifier : List ℕ) → HaveSizes layout (opening layout verifier)
opening_sizes layout verifier = record { ranges = λ v volume e. opens_sized verifier 0 layout.volumes v volume e }
