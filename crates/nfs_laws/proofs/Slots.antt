-- Workers: what runs, where one worker begins or ends a call, and which affinities stay apart.
use Rattle.std.proofs.Common.{◌≡◌, ℕ, zero, suc, ◌+◌, Bool, true, false, List, [], ◌∷◌, ◌++◌, Option, Some, None, refl, sym, ap, ◌∙◌, arith}
use Rattle.std.specs.Prelude.{slice_get, ◌||◌}
use Rattle.std.specs.List.{AllByRecursion, list_any}
use Rattle.std.proofs.lemmas.List.{map-append}
use Rattle.std.proofs.Math.Bool.{or_comm}
use Rattle.std.proofs.lemmas.List.Folds.{list_any-append}
use Rattle.nfs_model.specs.Tree.{Affinity, Layout, excludes, begins, path}
use Rattle.nfs_model.specs.Server.{Server}
use Rattle.nfs_model.specs.World.{Message, Running, Worker, with_held, all_running, affinities, hands_blocks, with_running, changed_at}
use Rattle.nfs_model.specs.Parts.{hand_blocks}
use Rattle.nfs_model.specs.Headline.{Apart, server_worked, worked_by, messages, tally_messages}
use Rattle.nfs_laws.proofs.Lists.{Some_same}

-- ---- one worker among the others

-- what runs before and after a worker's call
pub record Slot (workers : List Worker) (i : ℕ) (k : Worker) : Type 0 where
  pub before : List Running
  pub after : List Running
  pub was : all_running workers ≡ before ++ with_held k.running after
  pub becomes : (running : Option Running) → all_running (changed_at (with_running running) workers i) ≡ before ++ with_held running after
  pub hands : (v : ℕ) (running : Option Running) → hands_blocks v (changed_at (with_running running) workers i) ≡ hands_blocks v workers

with_held-append : (o : Option Running) (xs ys : List Running) → with_held o (xs ++ ys) ≡ with_held o xs ++ ys
with_held-append None xs ys = refl
with_held-append (Some r) xs ys = refl

pub slot : (workers : List Worker) (i : ℕ) (k : Worker) → slice_get workers i ≡ Some k → Slot workers i k
slot [] i k e = absurd cc
slot (x ∷ workers) zero k e = record {
  before = [];
  after = all_running workers;
  was = ap (λ (y : Worker). with_held y.running (all_running workers)) (Some_same x k e);
  becomes = λ running. refl;
  hands = λ v running. refl;
}
slot (x ∷ workers) (suc i) k e =
    let rest = slot workers i k e in
    record {
      before = with_held x.running rest.before;
      after = rest.after;
      was = ap (λ (rs : List Running). with_held x.running rs) rest.was ∙ with_held-append x.running rest.before (with_held k.running rest.after);
      becomes = λ running. ap (λ (rs : List Running). with_held x.running rs) (rest.becomes running)
          ∙ with_held-append x.running rest.before (with_held running rest.after);
      hands = λ v running. ap (λ (bs : List ℕ). hand_blocks v x.hand ++ bs) (rest.hands v running);
    }

-- ---- the messages that run

pub messages-between : (xs ys : List Running) (r : Running) → messages (xs ++ r ∷ ys) ≡ messages xs ++ r.message ∷ messages ys
messages-between xs ys r = map-append (λ q. q.message) xs (r ∷ ys)

pub affinities-append : (xs ys : List Running) → affinities (xs ++ ys) ≡ affinities xs ++ affinities ys
affinities-append xs ys = map-append (λ q. q.message.affinity) xs ys

pub tally-between : (c n : ℕ) (xs ys : List Running) (r : Running)
    → tally_messages c n (messages (xs ++ r ∷ ys)) ≡ tally_messages c n (messages (xs ++ ys)) + tally_messages c n (r.message ∷ [])
tally-between c n [] ys r = omega arith
tally-between c n (x ∷ xs) ys r = omega (arith, tally-between c n xs ys r)

pub messages_between : (P : Message → Type 0) (xs ys : List Running) (r : Running) → P r.message → AllByRecursion P (messages (xs ++ ys))
    → AllByRecursion P (messages (xs ++ r ∷ ys))
messages_between P [] ys r h p = (h, p)
messages_between P (x ∷ xs) ys r h p = (p.0, messages_between P xs ys r h p.1)

pub messages_without : (P : Message → Type 0) (xs ys : List Running) (r : Running) → AllByRecursion P (messages (xs ++ r ∷ ys))
    → AllByRecursion P (messages (xs ++ ys))
messages_without P [] ys r p = p.1
messages_without P (x ∷ xs) ys r p = (p.0, messages_without P xs ys r p.1)

pub messages_there : (P : Message → Type 0) (xs ys : List Running) (r : Running) → AllByRecursion P (messages (xs ++ r ∷ ys)) → P r.message
messages_there P [] ys r p = p.0
messages_there P (x ∷ xs) ys r p = messages_there P xs ys r p.1

-- ---- the server that is worked

server_worked-append : (s : Server) (xs ys : List Running) → server_worked s (xs ++ ys) ≡ server_worked (server_worked s xs) ys
server_worked-append s [] ys = refl
server_worked-append s (x ∷ xs) ys = server_worked-append (worked_by s x x.outcome) xs ys

-- a call that changes nothing yet, between others
pub server_worked-between : (s : Server) (xs ys : List Running) (r : Running) → ((t : Server) → worked_by t r r.outcome ≡ t)
    → server_worked s (xs ++ r ∷ ys) ≡ server_worked s (xs ++ ys)
server_worked-between s xs ys r same =
    server_worked-append s xs (r ∷ ys) ∙ ap (λ (t : Server). server_worked t ys) (same (server_worked s xs)) ∙ sym (server_worked-append s xs ys)

-- ---- affinities apart

excludes_comm : (layout : Layout) (a b : Affinity) → excludes layout a b ≡ excludes layout b a
excludes_comm layout a b = or_comm (begins (path layout a) (path layout b)) (begins (path layout b) (path layout a))

or_false : (a b : Bool) → (a || b) ≡ false → (a ≡ false) × (b ≡ false)
or_false true b e = absurd cc
or_false false b e = (refl, e)

or_none : (a b : Bool) → a ≡ false → b ≡ false → (a || b) ≡ false
or_none true b e f = absurd cc
or_none false b e f = f

any_parts : (p : Affinity → Bool) (xs ys : List Affinity) → list_any p (xs ++ ys) ≡ false → (list_any p xs ≡ false) × (list_any p ys ≡ false)
any_parts p xs ys e = or_false (list_any p xs) (list_any p ys) (sym (list_any-append p xs ys) ∙ e)

any_joined : (p : Affinity → Bool) (xs ys : List Affinity) → list_any p xs ≡ false → list_any p ys ≡ false → list_any p (xs ++ ys) ≡ false
any_joined p xs ys e f = list_any-append p xs ys ∙ or_none (list_any p xs) (list_any p ys) e f

pub Apart-between : (layout : Layout) (xs ys : List Affinity) (a : Affinity) → Apart layout (xs ++ ys) → list_any (excludes layout a) (xs ++ ys) ≡ false
    → Apart layout (xs ++ a ∷ ys)
Apart-between layout [] ys a p e = (e, p)
Apart-between layout (x ∷ xs) ys a p e =
    let none = or_false (excludes layout a x) (list_any (excludes layout a) (xs ++ ys)) e in
    let others = any_parts (excludes layout x) xs ys p.0 in (
      any_joined (excludes layout x) xs (a ∷ ys) others.0 (or_none (excludes layout x a) (list_any (excludes layout x) ys) (excludes_comm layout x a
          ∙ none.0) others.1),
      Apart-between layout xs ys a p.1 none.1,
    )

pub Apart-without : (layout : Layout) (xs ys : List Affinity) (a : Affinity) → Apart layout (xs ++ a ∷ ys) → Apart layout (xs ++ ys)
Apart-without layout [] ys a p = p.1
Apart-without layout (x ∷ xs) ys a p =
    let others = any_parts (excludes layout x) xs (a ∷ ys) p.0 in (
      any_joined (excludes layout x) xs ys others.0 (or_false (excludes layout x a) (list_any (excludes layout x) ys) others.1).1,
      Apart-without layout xs ys a p.1,
    )
