-- Bytes that are cut, and those that aren't.
use Rattle.std.proofs.Common.{◌≡◌, ◌<◌, ℕ, Bool, true, false, true≢false, List, [], ◌∷◌, ◌++◌, length, take, drop, Option, Some, None, refl}
use Rattle.std.proofs.Common.{sym, ap, subst, ◌∙◌, append-nil, take-append-drop, arith}
use Rattle.std.specs.Prelude.{IsTrue}
use Rattle.std.specs.Option.{is_some}
use Rattle.rpc_record.specs.Machine.{State}
use Rattle.rpc_record.specs.Stream.{read_stream}
use Rattle.rpc_msg.specs.declared.offer.Offer.{Offer}
use Rattle.nfs_model.specs.Tree.{Layout}
use Rattle.nfs_model.specs.World.{Heard, Scanned}
use Rattle.engine_feed.specs.Streams.{scan_stream}
use Rattle.tcp_front.specs.declared.stream.Stopped.{Stopped}
use Rattle.tcp_front.specs.declared.stream.Stopped.TheVariants as stops
use Rattle.tcp_front.specs.declared.stream.Stream.{Stream}
use Rattle.tcp_front.specs.Arrivals.{Arrival}
use Rattle.tcp_front.specs.Steps.{Adds, HasTaken}
use Rattle.connections.specs.Connections.{has_stopped}
use Rattle.connections.specs.Cutting.{HasCut}

pub stopped-is : (o : Option Stopped) (b : Bool) → b ≡ is_some o → b ≡ true → has_stopped o
stopped-is None b e t = absurd (true≢false (sym t ∙ e))
stopped-is (Some stop) b e t = tt

pub none-is : (o : Option Stopped) (b : Bool) → b ≡ is_some o → b ≡ false → o ≡ None
none-is None b e f = refl
none-is (Some stop) b e f = absurd (true≢false (sym e ∙ f))

-- what isn't empty has a byte
pub some-of : (xs : List ℕ) (b : Bool) → (IsTrue b → xs ≡ []) × (xs ≡ [] → IsTrue b) → b ≡ false → 0 < length xs
some-of [] b h e = absurd (true≢false (sym (h.1 refl) ∙ e))
some-of (x ∷ xs) b h e = omega arith

not-none : (o : Option Stopped) → has_stopped o → o ≡ None → ⊥
not-none None h e = h
not-none (Some stop) h e = absurd cc

pub adds-nothing : (offer : Offer) (at : Option State) → Adds offer at [] [] at
adds-nothing offer at = record {
  brings = λ fed e sound.
      ap (scan_stream offer) (append-nil fed) ∙ ap (λ (f : Option ℕ). record { served = (scan_stream offer fed).served; fault = f }) sound
      ∙ ap (λ (l : List Heard). record { served = l; fault = None }) (sym (append-nil (scan_stream offer fed).served));
  leads = λ fed e sound. ap (λ (l : List ℕ). (read_stream l).at) (append-nil fed) ∙ e;
}

module _ {S : Type 0} (came : S → List Arrival → S → Type 0) (room : S → Bool) (layout : Layout) (offer : Offer) where
  module _ (s s' : Stream) (sink sink' : S) (bytes : List ℕ) (n : ℕ) (kept : List ℕ) where
    -- behind a stop nothing is kept
    pub cut-stopped : (o : Option Stopped) → HasTaken came layout offer s sink (take n bytes) o s' sink' → has_stopped o → kept ≡ []
        → HasCut came room layout offer s sink bytes o s' sink' kept
    cut-stopped o h stopped none = record {
      cut = take n bytes;
      lost = drop n bytes;
      split = sym (take-append-drop n bytes) ∙ ap (λ (l : List ℕ). take n bytes ++ (l ++ drop n bytes)) (sym none);
      taken = h;
      none_lost = λ e. absurd (not-none o stopped e);
      full = λ e some. absurd (not-none o stopped e);
    }

    -- nor without memory
    pub cut-no-memory : (o : Option Stopped) → o ≡ None → HasTaken came layout offer s sink (take n bytes) o s' sink' → kept ≡ []
        → HasCut came room layout offer s sink bytes (Some stops.NoMemory) s' sink' kept
    cut-no-memory o is before none =
        let h = subst (λ (x : Option Stopped). HasTaken came layout offer s sink (take n bytes) x s' sink') is before in record {
          cut = take n bytes;
          lost = drop n bytes;
          split = sym (take-append-drop n bytes) ∙ ap (λ (l : List ℕ). take n bytes ++ (l ++ drop n bytes)) (sym none);
          taken = record {
            heard = h.heard;
            given = h.given;
            count = h.count;
            same = h.same;
            stops = λ fed e sound. (
              [],
              ap (λ (x : Scanned). x.served) (h.stops.0.brings fed e sound)
                  ∙ ap (λ (l : List Heard). (scan_stream offer fed).served ++ l) (sym (append-nil h.heard)),
            );
          };
          none_lost = λ e. absurd cc;
          full = λ e some. absurd cc;
        }
