-- A call that ends while its grant stays: what is known of its seat afterwards.
use Rattle.std.proofs.Common.{◌≡◌, ◌≢◌, ℕ, ◌+◌, ◌<◌, ◌≤◌, List, [], ◌∷◌, ◌++◌, length, set, sym, refl, ap, ◌∙◌, subst, arith}
use Rattle.std.proofs.Common.{length-append, ⊎_elim, Option, Some, None}
use mathlib.Core.Option.{some}
use mathlib.Core.Logic.{dite}
use native.Mathlib.Decide.{dec_lt}
use lib.ListN.{get_elem?}
use Rattle.atomic_table.proofs.Lists.{at_set, set_here}
use Rattle.nfs_model.specs.Tree.{Layout, Affinity}
use Rattle.affinity.specs.declared.affinity.Kind.{Kind}
use Rattle.affinity.specs.Fault.{fault_of}
use Rattle.affinity.specs.Tree.{IsNode}
use Rattle.affinity.specs.Numbers.{number_of, node_count}
use Rattle.parcels.specs.Exact.{HasExactly}
use Rattle.depot_rule.specs.declared.view.View.{View}
use Rattle.depot_rule.specs.declared.view.Read.{Read}
use Rattle.depot_rule.specs.declared.view.Entry.{Entry}
use Rattle.depot_rule.specs.Shares.{worn, made, Has}
use Rattle.depot_rule.specs.History.{Behaviour, by_number}
use Rattle.depot_rule.specs.Seats.{view_of}
use Rattle.depot_rule.specs.Plays.{IsOnly, Counts, with_entry}
use Rattle.depot.specs.Calls.{IsExcluded, known}
use Rattle.depot.specs.Holds.{IsGathered, IsApart}
use Rattle.depot.specs.Grants.{entry_of, IsSeatOf, HasWith, ListsAs, IsLow, IsLast, IsBegun, IsAfter, IsStamped, IsFinished, IsRenewed, HasGoneOn}
use Rattle.depot_rule.proofs.Grants.{at-length}
use Rattle.depot.proofs.Apart.{again-apart}
use Rattle.depot.proofs.Begun.{HasLookedAt, IsAsIdle}
use Rattle.depot.proofs.Ended.{set-again, left-at, stamped-gathered}

module _ {P E : Type 0} where
  -- the ticket was found at 2^62 - 1 or more: nothing but reads was added
  pub record HasStopped (v : View P E) (views : List (List (View P E))) : Type 0 where
    pub now : View P E
    pub full : views ≡ (now ∷ []) ∷ []
    pub idle : IsAsIdle v now
    pub last : IsLast v (known views)
    pub gathered : IsGathered now
    pub apart : IsApart now

  pub stopped : (v : View P E) (found : ℕ) (ws : List (View P E)) (views : List (List (View P E))) → views ≡ ws ∷ [] → 4611686018427387903 ≤ found
      → HasLookedAt v found ws → IsGathered v → IsApart v → HasStopped v views
  stopped v found ws views is high look gathered apart =
      let r : Read = record { word = 0; value = found; shares = 0 } in
      let enough : IsOnly v → (worn ≤ made v + 1) × (worn ≤ length v.seen + 1) = λ only. let count = look.2 only in let made_so = count.0 in let
      seen_so = count.1 in (let a : worn ≤ made v + 1 = omega arith in a, let a : worn ≤ length v.seen + 1 = omega arith in a) in
      let one_more : worn ≤ found + 1 = omega arith in
      dite (dec_lt found worn)
      (λ low. let w : View P E = record v { looked = 1; reads = r ∷ v.reads } in let full = is ∙ ap (λ us. us ∷ []) (look.0 low) in record {
        now = w;
        full = full;
        idle = (refl, refl, refl, refl, refl, refl, refl);
        last = (1, r ∷ [], ap known full, (found, one_more, (0, refl)), enough);
        gathered = gathered;
        apart = apart;
      })
      (λ not_low. let most : worn ≤ found = omega arith in
      let w : View P E = record v { reads = r ∷ v.reads } in let full = is ∙ ap (λ us. us ∷ []) (look.1 most) in record {
        now = w;
        full = full;
        idle = (refl, refl, refl, refl, refl, refl, refl);
        last = (v.looked, r ∷ [], ap known full, (found, one_more, (0, refl)), enough);
        gathered = gathered;
        apart = apart;
      })

module _ {P C R B : Type 0} (m : Behaviour P C R B) where
  -- the seat of a call that went on
  pub record HasRenewed (v : View P (Entry P C R)) (b : ℕ) (f : ℕ → Option P) (e : Entry P C R) (views : List (List (View P (Entry P C R)))) : Type 0 where
    pub now : View P (Entry P C R)
    pub full : views ≡ (now ∷ []) ∷ []
    pub idle : IsAsIdle v now
    pub gone_on : HasGoneOn m v b f e (known views)
    pub gathered : IsGathered now
    pub apart : IsApart now

  module _ (kind : P → Kind) (layout : Layout) (lawful : fault_of layout ≡ None) (a : Affinity) (node : IsNode layout a) (v : View P (Entry P C R))
      (seat : IsSeatOf kind layout v) (before f : ℕ → Option P) (open_grant : HasWith v (number_of layout a) before) (exact : HasExactly kind layout a f)
      (call : C) (reply : R) (unstamped : v.stamped ≡ 0) (gathered : IsGathered v) (apart : IsApart v) (looked_at ticket found : ℕ)
      (us ws xs : List (View P (Entry P C R))) (views : List (List (View P (Entry P C R))))
      (look : us ≡ record v { looked = 1; reads = record { word = 0; value = looked_at; shares = 0 } ∷ v.reads } ∷ [])
      (few : looked_at < 4611686018427387903) (own : IsOnly v → Counts v looked_at)
      (stamped : IsStamped m (view_of us) (entry_of layout a f call reply) ticket ws)
      (renewed : IsRenewed m (view_of ws) found xs) (is : views ≡ xs ∷ []) where
    abbrev n : ℕ
    n = number_of layout a

    abbrev e : Entry P C R
    e = entry_of layout a f call reply

    abbrev g : List (Option P)
    g = by_number f (1 + node_count layout)

    abbrev read_at : ℕ → Read
    read_at x = record { word = 0; value = x; shares = 0 }

    abbrev looked_view : View P (Entry P C R)
    looked_view = record v { looked = 1; reads = read_at looked_at ∷ v.reads }

    stamp : IsStamped m looked_view e ticket ws
    stamp = subst (λ l. IsStamped m (view_of l) e ticket ws) look stamped

    abbrev between : List (Entry P C R)
    between = stamp.0

    abbrev stamped_view : View P (Entry P C R)
    stamped_view = record (with_entry looked_view between e) {
      stamped = n;
      held = set v.held n (Some g);
      reads = read_at ticket ∷ (read_at looked_at ∷ v.reads);
    }

    again : IsRenewed m stamped_view found xs
    again = subst (λ l. IsRenewed m (view_of l) found xs) stamp.1 renewed

    abbrev last_view : View P (Entry P C R)
    last_view = record stamped_view { looked = 0; stamped = 0; reads = read_at found ∷ (read_at ticket ∷ (read_at looked_at ∷ v.reads)) }

    -- as by a call that was finished: its reads are the next call's
    abbrev mid : View P (Entry P C R)
    mid = record (with_entry v between e) { stamped = 0; held = set v.held n None }

    finished : IsFinished m v n e mid
    finished = (v.gone, [], between, refl, stamp.2)

    here : Has stamped_view n g
    here = set_here v.held n (Some g) (at-length v.held n (Some open_grant.0) open_grant.1)

    lists : ListsAs mid n g f
    lists k pos lt cover = left-at kind layout lawful a node v seat f exact k (subst (λ (t : List ℕ). k < length t) seat.0 lt)

    not_excluded : IsExcluded mid n → ⊥
    not_excluded x = ⊎_elim
        (λ (t : (x.0 ≡ n) × (None ≡ Some x.1)). absurd (let bad : None ≡ Some x.1 = t.1 in let no_way : ⊥ = cc in no_way))
        (λ (t : (x.0 ≢ n) × (get_elem? v.held x.0 ≡ some (Some x.1))). absurd (t.0 (sym (apart n x.0 open_grant.0 x.1 open_grant.1 t.1 x.3))))
        (at_set v.held n x.0 None (Some x.1) x.2)

    low : IsLow mid (read_at found ∷ (read_at ticket ∷ (read_at looked_at ∷ [])))
    low = dite (dec_lt found worn)
        (λ small. (found, (small, again.1), (0, refl)))
        (λ large. (
          looked_at,
          (
            (let l : looked_at < worn = omega arith in l),
            λ only.
                let now = (again.1 only).0 in let then = (own only).0 in
                let more = length-append v.mine (length (v.seen ++ between) ∷ []) in absurd (omega arith),
          ),
          (2, refl),
        ))

    begun : IsBegun mid n f last_view
    begun = (
      g,
      v.gone,
      read_at found ∷ (read_at ticket ∷ (read_at looked_at ∷ [])),
      ap (λ (h : List (Option (List (Option P)))). let z : View P (Entry P C R) = record last_view { held = h } in z) (sym (set-again v.held n None (Some g))),
      lists,
      set_here v.held n None (at-length v.held n (Some open_grant.0) open_grant.1),
      not_excluded,
      low,
    )

    current : IsAfter m mid n f
    current = let q = again.2 n g here in (q.0, q.1, q.2, q.3, λ k pos lt cover. sym (lists k pos lt cover) ∙ q.4 k pos lt cover)

    abbrev last : views ≡ (last_view ∷ []) ∷ []
    last = is ∙ ap (λ l. l ∷ []) again.0

    pub goes-on : HasRenewed v (number_of layout a) f (entry_of layout a f call reply) views
    goes-on = record {
      now = last_view;
      full = last;
      idle = (refl, refl, refl, sym unstamped, refl, refl, refl);
      gone_on = subst (HasGoneOn m v n f e) (sym (ap known last)) (mid, finished, begun, current);
      gathered = stamped-gathered v n open_grant.0 g (read_at found ∷ (read_at ticket ∷ (read_at looked_at ∷ v.reads)))
          ((v.seen ++ between) ++ e ∷ []) (v.mine ++ length (v.seen ++ between) ∷ []) gathered open_grant.1;
      apart = again-apart v.tree v.held n open_grant.0 g open_grant.1 apart;
    }
