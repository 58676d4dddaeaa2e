-- What the history of a seat says of the world that its books stand for.
use Rattle.std.proofs.Common.{◌≡◌, ℕ, List, [], ◌∷◌, map, Option, Some, None, refl, sym, ap, ◌∙◌, subst}
use Rattle.std.proofs.lemmas.List.{length-map}
use Rattle.nfs_model.specs.Tree.{Layout}
use Rattle.nfs_model.specs.World.{Setup, World, Running, Worker}
use Rattle.affinity.specs.Numbers.{parents}
use Rattle.depot_rule.specs.declared.view.Entry.{Entry}
use Rattle.depot_rule.specs.History.{Legal, after, listed, put_in}
use Rattle.desk.specs.laws.Books.{Lent, overlaid}
use Rattle.filer_state.specs.state.Parcels.{FilerParcel}
use Rattle.filer_state.specs.state.Contents.{filer_contents}
use Rattle.filer_state.specs.state.Tree.{tree}
use Rattle.filer_state.specs.state.Partition.{all_parts}
use Rattle.filer_state.specs.state.Jobs.{Job, JobReply}
use Rattle.filer_state.specs.state.Deeds.{FilerSteps}
use Rattle.engine.specs.laws.Store.{FilerBooks, filer, RunsOn, RunOn, StandsFor, calls_served, with_served}
use Rattle.engine.specs.laws.History.{SeatHistory, entry_seen, IsLentFor, AreLentFor, IsHistory}

module _ {P C R : Type 0} (job : C → Job) (told : R → JobReply) where
  -- the parcels after entries are those after the entries that are seen
  after-seen : (ps : List ℕ) (f : ℕ → Option (FilerParcel P)) (es : List (Entry (FilerParcel P) C R))
      → after ps f (map (entry_seen job told) es) ≡ after ps f es
  after-seen ps f [] = refl
  after-seen ps f (e ∷ es) = after-seen ps (put_in ps e f) es

  legal-seen : (ps : List ℕ) (f : ℕ → Option (FilerParcel P)) (es : List (Entry (FilerParcel P) C R)) → Legal (filer job told).steps ps f es
      → Legal FilerSteps ps f (map (entry_seen job told) es)
  legal-seen ps f [] legal = tt
  legal-seen ps f (e ∷ es) legal = (legal.0, legal-seen ps (put_in ps e f) es legal.1)

  calls-seen : (es : List (Entry (FilerParcel P) C R)) → calls_served (λ (j : Job). j) (map (entry_seen job told) es) ≡ calls_served job es
  calls-seen [] = refl
  calls-seen (e ∷ es) = ap (with_served (job e.call)) (calls-seen es)

  module _ (setup : Setup) (b : FilerBooks P C R) where
    one-lent : (o : Option Running) (x : Option (Lent (FilerParcel P))) → RunsOn setup b o x → IsLentFor o x
    one-lent None None runs = tt
    one-lent None (Some l) runs = runs
    one-lent (Some r) None runs = runs
    one-lent (Some r) (Some l) runs = runs.0

    all-lent : (ks : List Worker) (xs : List (Option (Lent (FilerParcel P)))) → RunOn setup b ks xs → AreLentFor ks xs
    all-lent [] [] run = tt
    all-lent [] (x ∷ xs) run = run
    all-lent (k ∷ ks) [] run = run
    all-lent (k ∷ ks) (x ∷ xs) run = (one-lent k.running x run.0, all-lent ks xs run.1)

  -- the books of a seat that stand for a world have its history
  pub stands-history : (setup : Setup) (w : World) (layout : Layout) (first : List (Option (FilerParcel P))) (es : List (Entry (FilerParcel P) C R))
      (lent : List (Option (Lent (FilerParcel P))))
      → StandsFor job told setup w (record { layout = layout; first = listed first; entries = es; lent = lent })
      → IsHistory setup.layout setup w (record { first = first; entries = map (entry_seen job told) es })
  stands-history setup w layout first es lent s =
      let seen : SeatHistory P = record { first = first; entries = map (entry_seen job told) es } in
      let left : ℕ → Option (FilerParcel P) = after (parents layout) (listed first) es in
      let same = sym (after-seen (parents layout) (listed first) es) in
      subst (λ (x : Layout). IsHistory x setup w seen) s.layout (record {
        opening = s.opening;
        legal = legal-seen (parents layout) (listed first) es s.legal;
        calls = calls-seen es ∙ s.calls;
        stamps = s.stamps ∙ sym (length-map es (entry_seen job told));
        lent = lent;
        lent_to = all-lent setup (record { layout = layout; first = listed first; entries = es; lent = lent }) w.workers lent s.workers;
        server = s.server ∙ ap (λ f. tree layout (overlaid layout lent f)) same;
        parts = s.parts ∙ ap (λ f. all_parts (filer_contents layout (overlaid layout lent f))) same;
        finished = s.finished ∙ ap (λ f. tree layout f) same;
      })
