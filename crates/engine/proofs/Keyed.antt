-- Connections by number whose open ones a slab keeps: one of them is written to, opened or closed.
use Rattle.std.proofs.Common.{◌≡◌, ◌≢◌, ◌<◌, ◌≤◌, ℕ, zero, suc, ◌+◌, ◌⊎◌, inl, inr, false, List, [], ◌∷◌, ◌++◌, map, length, Option, Some, None}
use Rattle.std.proofs.Common.{refl, sym, ap, subst, ◌∙◌, arith}
use Rattle.std.specs.Prelude.{slice_get, slice_set, slice_index_or, option_map, IsSome}
use Rattle.std.proofs.lemmas.Bool.{cases_eq}
use Rattle.std.proofs.lemmas.List.{map_push}
use Rattle.std.proofs.lemmas.Option.{slice_get-map}
use Rattle.slab.specs.Slab.{Slab, get, slab_len, entries_from, ContainsKey, Updates, with_value}
use Rattle.slab.proofs.SlabLemmas.{Updates-with_value, length-entries}
use Rattle.nfs_model.specs.World.{Setup}
use Rattle.nfs_model.specs.Events.Refusals.{is_open, takes_input}
use Rattle.engine_feed.specs.declared.state.ConnectionState.{ConnectionState}
use Rattle.engine.specs.declared.connection.Connection.{Connection}
use Rattle.engine.specs.declared.connection.Connection.TheVariants as places
use Rattle.engine.specs.declared.connection.ClosedConnection.{ClosedConnection}
use Rattle.engine.specs.Connections.{Open, Closed, Missing, held_under, held_at, held_by, key_at, AreKeyed}
use Rattle.engine.specs.Seen.{connection_seen}
use Rattle.engine.proofs.Lists.{inner, none-some}

zero-suc : (i : ℕ) → zero ≡ suc i → ⊥
zero-suc i e = absurd (omega (arith, e))

suc-zero : (i : ℕ) → suc i ≡ zero → ⊥
suc-zero i e = absurd (omega (arith, e))

suc-inner : (i j : ℕ) → suc i ≡ suc j → i ≡ j
suc-inner i j e = omega (arith, e)

same-key : (k l : ℕ) → places.Open k ≡ places.Open l → k ≡ l
same-key k l e = cc

-- ---- keys

pub open-at : (o : Option Connection) (key : ℕ) → key_at o ≡ Some key → o ≡ Some (places.Open key)
open-at None key e = absurd (none-some key e)
open-at (Some (places.Open k)) key e = ap (λ (n : ℕ). Some (places.Open n)) (inner k key e)
open-at (Some (places.Closed c)) key e = absurd (none-some key e)

-- what was found under its key
pub found-open : (cs : List Connection) (slab : Slab ConnectionState) (i key : ℕ) (x : ConnectionState) → slice_get cs i ≡ Some (places.Open key)
    → get slab key ≡ Some x → slice_get (held_by cs slab) i ≡ Some (Open x)
found-open cs slab i key x at is = slice_get-map (held_at slab) cs i ∙ ap (option_map (held_at slab)) at ∙ ap (λ o. Some (held_under o)) is

-- nothing was found under its key
pub found-missing : (cs : List Connection) (slab : Slab ConnectionState) (i key : ℕ) → slice_get cs i ≡ Some (places.Open key) → get slab key ≡ None
    → slice_get (held_by cs slab) i ≡ Some Missing
found-missing cs slab i key at is = slice_get-map (held_at slab) cs i ∙ ap (option_map (held_at slab)) at ∙ ap (λ o. Some (held_under o)) is

-- what was looked up in a list
pub found-key : (xs cs : List Connection) (i key : ℕ) (o : Option ℕ) → o ≡ key_at (slice_get xs i) → xs ≡ cs → o ≡ Some key
    → slice_get cs i ≡ Some (places.Open key)
found-key xs cs i key o told same is = open-at (slice_get cs i) key (ap (λ (l : List Connection). key_at (slice_get l i)) (sym same) ∙ sym told ∙ is)

pub no-key : (xs cs : List Connection) (i : ℕ) (o : Option ℕ) → o ≡ key_at (slice_get xs i) → xs ≡ cs → o ≡ None → key_at (slice_get cs i) ≡ None
no-key xs cs i o told same is = ap (λ (l : List Connection). key_at (slice_get l i)) (sym same) ∙ sym told ∙ is

pub contains : (slab : Slab ConnectionState) (key : ℕ) (x : ConnectionState) → get slab key ≡ Some x → ContainsKey slab key
contains slab key x is = subst (λ (o : Option ConnectionState). IsSome o) (sym is) refl

-- a number without a key has no open connection
pub is-shut : (cs : List Connection) (slab : Slab ConnectionState) (i : ℕ) → key_at (slice_get cs i) ≡ None
    → is_open (slice_get (map connection_seen (held_by cs slab)) i) ≡ false
is-shut [] slab i e = refl
is-shut (places.Open k ∷ cs) slab zero e = absurd (none-some k (sym e))
is-shut (places.Closed c ∷ cs) slab zero e = refl
is-shut (d ∷ cs) slab (suc i) e = is-shut cs slab i e

pub takes-none : (setup : Setup) (cs : List Connection) (slab : Slab ConnectionState) (i : ℕ) → key_at (slice_get cs i) ≡ None
    → takes_input setup (slice_get (map connection_seen (held_by cs slab)) i) ≡ false
takes-none setup [] slab i e = refl
takes-none setup (places.Open k ∷ cs) slab zero e = absurd (none-some k (sym e))
takes-none setup (places.Closed c ∷ cs) slab zero e = refl
takes-none setup (d ∷ cs) slab (suc i) e = takes-none setup cs slab i e

pub closed-at : (cs : List Connection) (i : ℕ) → i < length cs → key_at (slice_get cs i) ≡ None
    → (c : ClosedConnection) × (slice_get cs i ≡ Some (places.Closed c))
closed-at [] i within e = absurd (omega (arith, within))
closed-at (places.Open k ∷ cs) zero within e = absurd (none-some k (sym e))
closed-at (places.Closed c ∷ cs) zero within e = (c, refl)
closed-at (d ∷ cs) (suc i) within e = closed-at cs i (omega (arith, within)) e

pub found-closed : (cs : List Connection) (slab : Slab ConnectionState) (i : ℕ) (c : ClosedConnection) → slice_get cs i ≡ Some (places.Closed c)
    → slice_get (held_by cs slab) i ≡ Some (Closed c)
found-closed cs slab i c at = slice_get-map (held_at slab) cs i ∙ ap (option_map (held_at slab)) at

-- a number past all has nothing
pub past : (cs : List Connection) (slab : Slab ConnectionState) (i : ℕ) → length cs ≤ i → slice_get (map connection_seen (held_by cs slab)) i ≡ None
past [] slab i beyond = refl
past (d ∷ cs) slab zero beyond = absurd (omega (arith, beyond))
past (d ∷ cs) slab (suc i) beyond = past cs slab i (omega (arith, beyond))

-- ---- what the other numbers have

module _ (slab new : Slab ConnectionState) where
  head-same : (d : Connection) → ((k : ℕ) → d ≡ places.Open k → get new k ≡ get slab k) → held_at new d ≡ held_at slab d
  head-same (places.Open k) same = ap held_under (same k refl)
  head-same (places.Closed c) same = refl

  same-held : (cs : List Connection) → ((j k : ℕ) → slice_get cs j ≡ Some (places.Open k) → get new k ≡ get slab k) → held_by cs new ≡ held_by cs slab
  same-held [] same = refl
  same-held (d ∷ cs) same = λ n. head-same d (λ k at. same 0 k (ap Some at)) n ∷ same-held cs (λ j k at. same (suc j) k at) n

  set-held : (cs : List Connection) (i key : ℕ) (y : ConnectionState) → slice_get cs i ≡ Some (places.Open key) → get new key ≡ Some y
      → ((j k : ℕ) → slice_get cs j ≡ Some (places.Open k) → j ≢ i → get new k ≡ get slab k)
      → held_by cs new ≡ slice_set (held_by cs slab) i (Open y)
  set-held [] i key y e is same = absurd (none-some (places.Open key) e)
  set-held (d ∷ cs) zero key y e is same =
      let here : held_at new d ≡ Open y = ap (held_at new) (inner d (places.Open key) e) ∙ ap held_under is in
      λ n. here n ∷ same-held cs (λ j k at. same (suc j) k at (suc-zero j)) n
  set-held (d ∷ cs) (suc i) key y e is same =
      λ n. head-same d (λ k at. same 0 k (ap Some at) (zero-suc i)) n
      ∷ set-held cs i key y e is (λ j k at ne. same (suc j) k at (λ z. ne (suc-inner j i z))) n

  set-closed : (cs : List Connection) (i : ℕ) (c : ClosedConnection)
      → ((j k : ℕ) → slice_get cs j ≡ Some (places.Open k) → j ≢ i → get new k ≡ get slab k)
      → held_by (slice_set cs i (places.Closed c)) new ≡ slice_set (held_by cs slab) i (Closed c)
  set-closed [] i c same = refl
  set-closed (d ∷ cs) zero c same = λ n. Closed c ∷ same-held cs (λ j k at. same (suc j) k at (suc-zero j)) n
  set-closed (d ∷ cs) (suc i) c same =
      λ n. head-same d (λ k at. same 0 k (ap Some at) (zero-suc i)) n
      ∷ set-closed cs i c (λ j k at ne. same (suc j) k at (λ z. ne (suc-inner j i z))) n

-- ---- one is written to

module _ (cs : List Connection) (slab new : Slab ConnectionState) (keyed : AreKeyed cs slab) (i key : ℕ) (at : slice_get cs i ≡ Some (places.Open key))
    (x y : ConnectionState) (was : get slab key ≡ Some x) (is : new ≡ with_value slab key y) where
  updates : Updates slab new key (Some y)
  updates = subst (λ (n : Slab ConnectionState). Updates slab n key (Some y)) (sym is) (Updates-with_value slab key y (contains slab key x was))

  pub written : held_by cs new ≡ slice_set (held_by cs slab) i (Open y)
  written = set-held slab new cs i key y at updates.changed
      (λ j k there ne. updates.others k (λ same. ne (keyed.apart j i key (there ∙ ap (λ (n : ℕ). Some (places.Open n)) same) at)))

  pub written-keyed : AreKeyed cs new
  written-keyed = record {
    kept = λ j k there. elim (cases_eq k key) [
      | inl same ↦ (y, ap (get new) same ∙ updates.changed)
      | inr differs ↦ ((keyed.kept j k there).0, updates.others k differs ∙ (keyed.kept j k there).1)
    ];
    apart = keyed.apart;
  }

len-set : (first : ℕ) (slots : List (Option ConnectionState)) (i : ℕ) (x y : ConnectionState) → slice_index_or slots i None ≡ Some x
    → length (entries_from first (slice_set slots i (Some y))) ≡ length (entries_from first slots)
len-set first [] i x y e = refl
len-set first (o ∷ slots) zero x y e = sym (ap (λ (p : Option ConnectionState). length (entries_from first (p ∷ slots))) e)
len-set first (None ∷ slots) (suc i) x y e = len-set (first + 1) slots i x y e
len-set first (Some z ∷ slots) (suc i) x y e = ap (λ (n : ℕ). suc n) (len-set (first + 1) slots i x y e)

-- as many are kept
pub written-len : (slab new : Slab ConnectionState) (key : ℕ) (x y : ConnectionState) → get slab key ≡ Some x → new ≡ with_value slab key y
    → slab_len new ≡ slab_len slab
written-len slab new key x y was is =
    ap (λ (n : Slab ConnectionState). slab_len n) is ∙ sym (length-entries (with_value slab key y)) ∙ len-set 0 slab.slots key x y was ∙ length-entries slab

-- ---- one is opened

at-push : (cs : List Connection) (d : Connection) (j : ℕ) (x : Connection) → slice_get (cs ++ d ∷ []) j ≡ Some x
    → (slice_get cs j ≡ Some x) ⊎ ((j ≡ length cs) × (d ≡ x))
at-push [] d zero x e = inr (refl, inner d x e)
at-push [] d (suc j) x e = absurd (none-some x e)
at-push (c ∷ cs) d zero x e = inl e
at-push (c ∷ cs) d (suc j) x e = elim (at-push cs d j x e) [ inl f ↦ inl f | inr p ↦ inr (ap (λ (n : ℕ). suc n) p.0, p.1) ]

module _ (cs : List Connection) (slab new : Slab ConnectionState) (keyed : AreKeyed cs slab) (key : ℕ) (x : ConnectionState)
    (vacant : get slab key ≡ None) (updates : Updates slab new key (Some x)) where
  -- it has a key of its own
  fresh : (j k : ℕ) → slice_get cs j ≡ Some (places.Open k) → k ≢ key
  fresh j k there = λ same.
      let one = keyed.kept j k there in
      none-some one.0 (sym vacant ∙ ap (get slab) (sym same) ∙ one.1)

  pub opened : held_by (cs ++ places.Open key ∷ []) new ≡ held_by cs slab ++ Open x ∷ []
  opened = map_push (held_at new) cs (places.Open key)
      ∙ (λ n. same-held slab new cs (λ j k there. updates.others k (fresh j k there)) n ++ held_under (updates.changed n) ∷ [])

  kept-then : (j k : ℕ) → (slice_get cs j ≡ Some (places.Open k)) ⊎ ((j ≡ length cs) × (places.Open key ≡ places.Open k))
      → (y : ConnectionState) × (get new k ≡ Some y)
  kept-then j k (inl there) = ((keyed.kept j k there).0, updates.others k (fresh j k there) ∙ (keyed.kept j k there).1)
  kept-then j k (inr last) = (x, ap (get new) (sym (same-key key k last.1)) ∙ updates.changed)

  apart-then : (i j k : ℕ) → (slice_get cs i ≡ Some (places.Open k)) ⊎ ((i ≡ length cs) × (places.Open key ≡ places.Open k))
      → (slice_get cs j ≡ Some (places.Open k)) ⊎ ((j ≡ length cs) × (places.Open key ≡ places.Open k)) → i ≡ j
  apart-then i j k (inl one) (inl other) = keyed.apart i j k one other
  apart-then i j k (inl one) (inr last) = absurd (fresh i k one (sym (same-key key k last.1)))
  apart-then i j k (inr last) (inl other) = absurd (fresh j k other (sym (same-key key k last.1)))
  apart-then i j k (inr last) (inr least) = last.0 ∙ sym least.0

  pub opened-keyed : AreKeyed (cs ++ places.Open key ∷ []) new
  opened-keyed = record {
    kept = λ j k there. kept-then j k (at-push cs (places.Open key) j (places.Open k) there);
    apart = λ i j k one other.
        apart-then i j k (at-push cs (places.Open key) i (places.Open k) one) (at-push cs (places.Open key) j (places.Open k) other);
  }

-- ---- one is closed

open-still : (cs : List Connection) (i : ℕ) (c : ClosedConnection) (j k : ℕ) → slice_get (slice_set cs i (places.Closed c)) j ≡ Some (places.Open k)
    → (slice_get cs j ≡ Some (places.Open k)) × (j ≢ i)
open-still [] i c j k e = absurd (none-some (places.Open k) e)
open-still (d ∷ cs) zero c zero k e = absurd (differ (inner (places.Closed c) (places.Open k) e))
  where
    differ : places.Closed c ≡ places.Open k → ⊥
    differ e = absurd cc
open-still (d ∷ cs) zero c (suc j) k e = (e, suc-zero j)
open-still (d ∷ cs) (suc i) c zero k e = (e, zero-suc i)
open-still (d ∷ cs) (suc i) c (suc j) k e =
    let one = open-still cs i c j k e in
    (one.0, λ z. one.1 (suc-inner j i z))

module _ (cs : List Connection) (slab new : Slab ConnectionState) (keyed : AreKeyed cs slab) (i key : ℕ) (at : slice_get cs i ≡ Some (places.Open key))
    (updates : Updates slab new key None) (c : ClosedConnection) where
  others-stay : (j k : ℕ) → slice_get cs j ≡ Some (places.Open k) → j ≢ i → get new k ≡ get slab k
  others-stay j k there ne = updates.others k (λ same. ne (keyed.apart j i key (there ∙ ap (λ (n : ℕ). Some (places.Open n)) same) at))

  pub closed : held_by (slice_set cs i (places.Closed c)) new ≡ slice_set (held_by cs slab) i (Closed c)
  closed = set-closed slab new cs i c others-stay

  pub closed-keyed : AreKeyed (slice_set cs i (places.Closed c)) new
  closed-keyed = record {
    kept = λ j k there.
        let one = open-still cs i c j k there in
        ((keyed.kept j k one.0).0, others-stay j k one.0 one.1 ∙ (keyed.kept j k one.0).1);
    apart = λ j l k one other. keyed.apart j l k (open-still cs i c j k one).0 (open-still cs i c l k other).0;
  }
