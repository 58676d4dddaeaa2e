-- The home of bytes that is a stripe is where they lie.
use Rattle.std.proofs.Common.{◌≡◌, ℕ, ◌+◌, ◌-◌, ◌/◌, ◌%◌, ◌<◌, ◌==◌, Bool, true, false, Some, refl, ◌∙◌, arith, inl, inr, ◌⊎◌}
use Rattle.std.specs.Prelude.{◌||◌, if◌then◌else◌}
use Rattle.std.proofs.lemmas.Bool.{eqb-true}
use Rattle.nfs_model.specs.Tree.{Layout, Stripe, Logical, stripes_of}
use Rattle.nfs_model.specs.Server.{Named, block_size}
use Rattle.nfs_model.specs.Home.{span_bytes, stripe_of_span, bytes_home}
use Rattle.nfs_model.specs.volume.Stripes.{stripe_of}
use Rattle.filer_state.specs.state.Calls.{LieIn}

in-one : (offset n : ℕ) (b c : Bool) → (n == 0) ≡ b → (offset / span_bytes == (offset + n - 1) / span_bytes) ≡ c → (b || c) ≡ true
    → (n ≡ 0) ⊎ (offset / span_bytes ≡ (offset + n - 1) / span_bytes)
in-one offset n true c none one some = inl (eqb-true n 0 none)
in-one offset n false true none one some = inr (eqb-true (offset / span_bytes) ((offset + n - 1) / span_bytes) one)
in-one offset n false false none one some = absurd cc

module _ (layout : Layout) (h : Named) (offset n v i : ℕ) where
  -- the stripe is of the handle's volume, there is such a stripe, and the bytes lie in it
  pub home-lies : (stripes : ℕ) → bytes_home layout (Some h) offset n ≡ Some (Stripe v i) → stripes ≡ stripes_of layout h.volume → 0 < stripes
      → (h.volume ≡ v) × (i < stripes) × LieIn stripes i h.fileid offset n
  home-lies stripes home many some = by ((n == 0) || (offset / span_bytes == (offset + n - 1) / span_bytes)) refl home
    where
      by : (b : Bool) → ((n == 0) || (offset / span_bytes == (offset + n - 1) / span_bytes)) ≡ b
          → (if b then Some (stripe_of_span layout h (offset / span_bytes)) else Some (Logical h.volume)) ≡ Some (Stripe v i)
          → (h.volume ≡ v) × (i < stripes) × LieIn stripes i h.fileid offset n
      by false e is = absurd cc
      by true e is =
          let volume : h.volume ≡ v = cc in
          let stripe : (h.fileid + offset / span_bytes) % stripes_of layout h.volume ≡ i = cc in
          let span : offset / block_size / 64 ≡ offset / span_bytes = omega arith in
          let here : stripe_of stripes h.fileid (offset / block_size) ≡ i =
          (λ j. (h.fileid + span j) % many j) ∙ stripe in
          (volume, omega (arith, some, here), record { span = in-one offset n _ _ refl refl e; stripe = here })
