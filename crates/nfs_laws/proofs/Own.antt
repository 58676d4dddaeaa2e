-- Entries and messages are of records of the streams, and stay so as the streams grow.
use Rattle.std.proofs.Common.{◌≡◌, ℕ, ◌<◌, List, ◌++◌, length, Some, sym, subst, ◌∙◌, arith, inl, inr}
use Rattle.std.specs.Prelude.{slice_get}
use Rattle.std.specs.List.{AllByRecursion}
use Rattle.std.proofs.lemmas.Bool.Decides.{eqb_tells}
use Rattle.nfs_model.specs.Types.{Asked, Ask, Refused, Undecoded}
use Rattle.nfs_model.specs.Replay.{FinishedCall}
use Rattle.nfs_model.specs.World.{Heard, Setup, World, Connection, Message, IsScan, IsDecoded, changed_at}
use Rattle.nfs_model.specs.Headline.{served, IsHeard, IsOwn, IsOwnCall, IsOwnMessage}
use Rattle.nfs_laws.proofs.Lists.{All-weaker, All-get, slice_get-append, slice_get_below, slice_get-changed_at, slice_get-changed_elsewhere}

-- each connection is there still, with the records that it had
abbrev pub IsLater : Setup → List Connection → List Connection → Type 0
IsLater setup old new = (c : ℕ) (x : Connection) → slice_get old c ≡ Some x
    → (y : Connection) × (slice_get new c ≡ Some y) × ((n : ℕ) (h : Heard) → slice_get (served setup x) n ≡ Some h → slice_get (served setup y) n ≡ Some h)

pub later_pushed : (setup : Setup) (connections more : List Connection) → IsLater setup connections (connections ++ more)
later_pushed setup connections more c x e = (x, slice_get-append connections more c x e, λ n h q. q)

pub later_changed : (setup : Setup) (connections : List Connection) (f : Connection → Connection) (k : ℕ)
    → ((x : Connection) → slice_get connections k ≡ Some x → (n : ℕ) (h : Heard) → slice_get (served setup x) n ≡ Some h
    → slice_get (served setup (f x)) n ≡ Some h)
    → IsLater setup connections (changed_at f connections k)
later_changed setup connections f k keeps c x e =
    elim (eqb_tells c k) [
      | inl same ↦
          let at : slice_get connections k ≡ Some x = subst (λ (i : ℕ). slice_get connections i ≡ Some x) same.1 e in
          (f x, subst (λ (i : ℕ). slice_get (changed_at f connections k) i ≡ Some (f x)) (sym same.1) (slice_get-changed_at f connections k x at), keeps x at)
      | inr other ↦ (x, slice_get-changed_elsewhere f connections k c other.1 ∙ e, λ n h q. q)
    ]

pub later_then : (setup : Setup) (old middle new : List Connection) → IsLater setup old middle → IsLater setup middle new → IsLater setup old new
later_then setup old middle new p q c x e =
    let a = p c x e in
    let b = q c a.0 a.1 in
    (b.0, b.1, λ n h s. b.2 n h (a.2 n h s))

module _ (setup : Setup) (old new : World) (later : IsLater setup old.connections new.connections) where
  pub heard_later : (c n xid : ℕ) (asked : Asked) → IsHeard setup old c n xid asked → IsHeard setup new c n xid asked
  heard_later c n xid asked h =
      let a = later c h.0 h.1 in
      (a.0, a.1, a.2 n (record { xid = xid; asked = asked }) h.2)

  pub own_later : (e : FinishedCall) (asked : Asked) → IsOwn setup old e asked → IsOwn setup new e asked
  own_later e (Ask call caller) h = heard_later e.connection e.number e.xid (Ask call caller) h
  own_later e (Refused reply) h = heard_later e.connection e.number e.xid (Refused reply) h
  own_later e Undecoded h = (h.0, heard_later e.connection e.number e.xid h.0 h.1, h.2, h.3, h.4)

  pub entries_later : (es : List FinishedCall) → AllByRecursion (IsOwnCall setup old) es → AllByRecursion (IsOwnCall setup new) es
  entries_later es p = All-weaker (IsOwnCall setup old) (IsOwnCall setup new) (λ e h. own_later e e.asked h) es p

  pub messages_later : (ms : List Message) → AllByRecursion (IsOwnMessage setup old) ms → AllByRecursion (IsOwnMessage setup new) ms
  messages_later ms p = All-weaker (IsOwnMessage setup old) (IsOwnMessage setup new) (λ m h. heard_later m.connection m.number m.xid m.asked h) ms p

-- an entry of a record that is heard is of it
pub own_of_heard : (setup : Setup) (w : World) (e : FinishedCall) (asked : Asked) → IsScan setup.codec → IsHeard setup w e.connection e.number e.xid asked
    → IsOwn setup w e asked
own_of_heard setup w e (Ask call caller) scan h = h
own_of_heard setup w e (Refused reply) scan h = h
own_of_heard setup w e Undecoded scan h =
    absurd (All-get (λ (x : Heard). IsDecoded x.asked) (served setup h.0) e.number (record { xid = e.xid; asked = Undecoded }) h.2 (scan.decoded h.0.stream))

-- ---- the connection of an entry is there

heard_below : (setup : Setup) (w : World) (c n xid : ℕ) (asked : Asked) → IsHeard setup w c n xid asked → c < length w.connections
heard_below setup w c n xid asked h = slice_get_below w.connections c h.0 h.1

own_below : (setup : Setup) (w : World) (e : FinishedCall) (asked : Asked) → IsOwn setup w e asked → e.connection < length w.connections
own_below setup w e (Ask call caller) h = heard_below setup w e.connection e.number e.xid (Ask call caller) h
own_below setup w e (Refused reply) h = heard_below setup w e.connection e.number e.xid (Refused reply) h
own_below setup w e Undecoded h = heard_below setup w e.connection e.number e.xid h.0 h.1

pub entries_elsewhere : (setup : Setup) (w : World) (es : List FinishedCall) → AllByRecursion (IsOwnCall setup w) es
    → AllByRecursion (λ e. e.connection ≡ length w.connections → ⊥) es
entries_elsewhere setup w es p =
    All-weaker (IsOwnCall setup w) (λ e. e.connection ≡ length w.connections → ⊥) (λ e h same. let below = own_below setup w e e.asked h in omega arith) es p

pub messages_elsewhere : (setup : Setup) (w : World) (ms : List Message) → AllByRecursion (IsOwnMessage setup w) ms
    → AllByRecursion (λ m. m.connection ≡ length w.connections → ⊥) ms
messages_elsewhere setup w ms p =
    All-weaker (IsOwnMessage setup w) (λ m. m.connection ≡ length w.connections → ⊥)
    (λ m h same. let below = heard_below setup w m.connection m.number m.xid m.asked h in omega arith) ms p
