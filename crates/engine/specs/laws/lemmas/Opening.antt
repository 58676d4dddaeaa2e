-- The books of a desk as a run begins stand for the world as it begins.
use Rattle.std.proofs.Common.{◌≡◌, ℕ, zero, suc, ◌+◌, [], replicate, Option, Some, None, refl, sym, ap, ◌∙◌}
use Rattle.std.proofs.Common.{subst, arith}
use mathlib.Core.Option.{some, some-injective, some-ne-none}
use lib.ListN.{get_elem?}
use Rattle.nfs_model.specs.Tree.{Layout}
use Rattle.nfs_model.specs.Parts.{Empty}
use Rattle.nfs_model.specs.World.{Setup, Worker}
use Rattle.nfs_model.specs.Headline.{opening_world}
use Rattle.affinity.specs.Fault.{fault_of}
use Rattle.affinity.specs.Numbers.{number_of, node_count}
use Rattle.affinity.specs.lemmas.Smaller.{length-parents}
use Rattle.affinity.specs.lemmas.Standing.{number-place}
use Rattle.depot_rule.specs.History.{listed, by_number}
use Rattle.depot_rule.specs.lemmas.Listed.{by-number-at}
use Rattle.desk.specs.laws.Books.{Lent, overlaid, HasHands, opening_books}
use Rattle.filer_state.specs.state.Parcels.{FilerParcel}
use Rattle.filer_state.specs.state.Contents.{filer_contents}
use Rattle.filer_state.specs.state.Tree.{tree}
use Rattle.filer_state.specs.state.Partition.{all_parts}
use Rattle.filer_state.specs.state.Opening.{AreOpening}
use Rattle.filer_state.specs.laws.Laws.{OpensSound, OpensAsServer, OpensFree}
use Rattle.filer_state.specs.state.Jobs.{Job, JobReply}
use Rattle.engine.specs.laws.Store.{FilerBooks, filer, RunOn, StandsFor, batches_carried}

abbrev idle : Worker
idle = record { running = None; hand = Empty }

none-lent : {P : Type 0} (n i : ℕ) (l : Lent (FilerParcel P)) → get_elem? (replicate n None) i ≡ some (Some l) → ⊥
none-lent zero i l at = absurd (some-ne-none (Some l) (sym at))
none-lent (suc n) zero l at = absurd (wrong (some-injective None (Some l) at))
  where
    wrong : None ≡ Some l → ⊥
    wrong e = absurd cc
none-lent (suc n) (suc i) l at = none-lent n i l at

none-carried : (n : ℕ) → batches_carried (replicate n idle) ≡ []
none-carried zero = refl
none-carried (suc n) = none-carried n

none-over : {P : Type 0} (layout : Layout) (n : ℕ) (f : ℕ → Option (FilerParcel P)) → overlaid layout (replicate n None) f ≡ f
none-over layout zero f = refl
none-over layout (suc n) f = none-over layout n f

module _ {P C R : Type 0} (job : C → Job) (told : R → JobReply) (sound : OpensSound P) (server : OpensAsServer P) (free : OpensFree P) (setup : Setup)
    (lawful : fault_of setup.layout ≡ None)
    (f : ℕ → Option (FilerParcel P)) (opening : AreOpening setup.layout setup.verifier f) where
  abbrev L : Layout
  L = setup.layout

  abbrev b : FilerBooks P C R
  b = opening_books L f setup.workers

  -- the parcels as they are listed
  abbrev g : ℕ → Option (FilerParcel P)
  g = listed (by_number f (1 + node_count L))

  listed-open : AreOpening L setup.verifier g
  listed-open node is =
      let place = number-place L node is in let size = length-parents L in
      by-number-at f (1 + node_count L) (number_of L node) (omega arith) ∙ opening node is

  all-idle : (n : ℕ) → RunOn setup b (replicate n idle) (replicate n None)
  all-idle zero = tt
  all-idle (suc n) = (tt, all-idle n)

  pub opening-stands : StandsFor job told setup (opening_world setup) b
  opening-stands = record {
    layout = refl;
    lawful = lawful;
    lent = record {
      node = λ i l at. absurd (none-lent setup.workers i l at);
      apart = λ i j l k at there ne. absurd (none-lent setup.workers i l at);
    };
    server = sym (server L setup.verifier g lawful listed-open) ∙ ap (λ h. tree L h) (sym (none-over L setup.workers g));
    parts = sym (free L setup.verifier g lawful listed-open) ∙ ap (λ h. all_parts (filer_contents L h)) (sym (none-over L setup.workers g));
    finished = sym (server L setup.verifier g lawful listed-open);
    stamps = refl;
    workers = all-idle setup.workers;
    hands = subst (λ hs. HasHands (filer job told) b hs) (sym (none-carried setup.workers)) (λ weigh. refl);
    sound = ([], (λ weigh. refl), sound L setup.verifier g lawful listed-open);
    opening = listed-open;
    legal = tt;
    calls = refl;
  }
