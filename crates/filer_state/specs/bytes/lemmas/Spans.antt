-- Bytes that lie in one span are read from its stripe.
use Rattle.std.proofs.Common.{◌≡◌, ℕ, ◌+◌, ◌-◌, ◌/◌, ◌%◌, ◌<◌, ◌≤◌, List, length, sym, ap, ◌∙◌, arith, inl, inr, ◌⊎◌}
use Rattle.nfs_model.specs.Server.{block_size}
use Rattle.nfs_model.specs.Home.{span_bytes}
use Rattle.nfs_model.specs.volume.Stripes.{StripeValue, span_blocks, stripe_of, byte_at, bytes_read}
use Rattle.filer_state.specs.state.Tree.{stripe_at, file_byte}
use Rattle.filer_state.specs.state.Calls.{LieIn}
use Rattle.filer_state.specs.bytes.Reading.{bytes_under}
use Rattle.filer_state.specs.bytes.lemmas.Bytes.{same-map}

-- the span of each byte is the offset's
one-span : (offset n k : ℕ) → (n ≡ 0) ⊎ (offset / span_bytes ≡ (offset + n - 1) / span_bytes) → offset ≤ k → k < offset + n
    → k / block_size / span_blocks ≡ offset / block_size / span_blocks
one-span offset n k (inl none) from below = absurd (omega (arith, none))
one-span offset n k (inr one) from below = omega (arith, one)

-- so is its stripe
pub same-stripe : (stripes i fileid offset n k : ℕ) → LieIn stripes i fileid offset n → offset ≤ k → k < offset + n
    → stripe_of stripes fileid (k / block_size) ≡ i
same-stripe stripes i fileid offset n k lies from below =
    ap (λ (span : ℕ). (fileid + span) % stripes) (one-span offset n k lies.span from below) ∙ lies.stripe

module _ (stripes : List StripeValue) (i fileid offset most : ℕ) (lies : LieIn (length stripes) i fileid offset most) where
  byte-here : (k : ℕ) → offset ≤ k → k < offset + most → file_byte stripes fileid k ≡ byte_at (stripe_at stripes i) fileid k
  byte-here k from below =
      ap (λ (m : ℕ). byte_at (stripe_at stripes m) fileid k) (same-stripe (length stripes) i fileid offset most k lies from below)

  -- fewer bytes lie there too
  pub bytes-here : (n : ℕ) → n ≤ most → bytes_read (stripe_at stripes i) fileid offset n ≡ bytes_under stripes fileid offset n
  bytes-here n fewer =
      sym (same-map (file_byte stripes fileid) (byte_at (stripe_at stripes i) fileid) offset n
      (λ k from below. byte-here k from (omega (arith, fewer, below))))
