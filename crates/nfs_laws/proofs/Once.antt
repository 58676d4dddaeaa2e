-- Each record served is finished, waiting or running, just once: how the count goes on.
use Rattle.std.proofs.Common.{◌≡◌, ℕ, zero, suc, ◌+◌, Bool, true, false, List, [], ◌∷◌, ◌++◌, length, Some, refl, sym, ap, subst, ◌∙◌, arith, length-append}
use Rattle.std.specs.Prelude.{slice_get, ◌==◌, ◌&&◌, nat_lt, if◌then◌else◌}
use Rattle.std.specs.List.{AllByRecursion, remove}
use Rattle.std.proofs.lemmas.Bool.{ne_eqb, eq-eqb}
use Rattle.std.proofs.lemmas.Bool.Decides.{nat_tests}
use Rattle.nfs_model.specs.Replay.{FinishedCall}
use Rattle.nfs_model.specs.World.{Heard, Setup, World, Connection, Message, all_running, changed_at}
use Rattle.nfs_model.specs.Headline.{served, messages, tally_finished, tally_messages}
use Rattle.nfs_model.specs.Parts.{one_if}
use Rattle.nfs_laws.proofs.Lists.{changed_all, pushed_all, Some_same}

-- ---- counts of lists

pub tally_finished-append : (c n : ℕ) (xs ys : List FinishedCall) → tally_finished c n (xs ++ ys) ≡ tally_finished c n xs + tally_finished c n ys
tally_finished-append c n [] ys = omega arith
tally_finished-append c n (x ∷ xs) ys = omega (arith, tally_finished-append c n xs ys)

pub tally_messages-append : (c n : ℕ) (xs ys : List Message) → tally_messages c n (xs ++ ys) ≡ tally_messages c n xs + tally_messages c n ys
tally_messages-append c n [] ys = omega arith
tally_messages-append c n (x ∷ xs) ys = omega (arith, tally_messages-append c n xs ys)

pub tally_messages-remove : (c n : ℕ) (xs : List Message) (i : ℕ) (m : Message) → slice_get xs i ≡ Some m
    → tally_messages c n xs ≡ tally_messages c n (remove xs i) + tally_messages c n (m ∷ [])
tally_messages-remove c n [] i m e = absurd cc
tally_messages-remove c n (y ∷ xs) zero m e =
    subst (λ (z : Message). tally_messages c n (y ∷ xs) ≡ tally_messages c n xs + tally_messages c n (z ∷ [])) (Some_same y m e) (omega arith)
tally_messages-remove c n (y ∷ xs) (suc i) m e = omega (arith, tally_messages-remove c n xs i m e)

uncounted : (b d : Bool) (t : ℕ) → b ≡ false → t ≡ 0 → (if b && d then 1 else 0) + t ≡ 0
uncounted true d t e z = absurd cc
uncounted false d t e z = omega arith

-- a connection that none names
pub tally_finished_none : (c n : ℕ) (es : List FinishedCall) → AllByRecursion (λ e. e.connection ≡ c → ⊥) es → tally_finished c n es ≡ 0
tally_finished_none c n [] p = refl
tally_finished_none c n (e ∷ es) p = uncounted (e.connection == c) (e.number == n) _ (ne_eqb e.connection c p.0) (tally_finished_none c n es p.1)

pub tally_messages_none : (c n : ℕ) (ms : List Message) → AllByRecursion (λ m. m.connection ≡ c → ⊥) ms → tally_messages c n ms ≡ 0
tally_messages_none c n [] p = refl
tally_messages_none c n (m ∷ ms) p = uncounted (m.connection == c) (m.number == n) _ (ne_eqb m.connection c p.0) (tally_messages_none c n ms p.1)

-- ---- all connections

-- each record of each connection is counted once
abbrev pub IsOnce : Setup → List Connection → (ℕ → ℕ → ℕ) → Type 0
IsOnce setup connections total = (c : ℕ) (x : Connection) → slice_get connections c ≡ Some x → (n : ℕ) → total c n ≡ one_if (nat_lt n (length (served setup x)))

-- in how many places of a world a record stands
abbrev pub total_in : World → ℕ → ℕ → ℕ
total_in w c n = tally_finished c n w.finished + tally_messages c n w.waiting + tally_messages c n (messages (all_running w.workers))

-- no record comes, and none goes
pub once_changed : (setup : Setup) (connections : List Connection) (old new : ℕ → ℕ → ℕ) (f : Connection → Connection) (k : ℕ)
    → ((x : Connection) → slice_get connections k ≡ Some x → served setup (f x) ≡ served setup x)
    → ((c n : ℕ) → new c n ≡ old c n) → IsOnce setup connections old → IsOnce setup (changed_at f connections k) new
once_changed setup connections old new f k keeps same o =
    changed_all (λ c x. (n : ℕ) → new c n ≡ one_if (nat_lt n (length (served setup x)))) f connections k
    (λ c x at ne n. same c n ∙ o c x at n)
    (λ x at n. same k n ∙ o k x at n ∙ ap (λ (hs : List Heard). one_if (nat_lt n (length hs))) (sym (keeps x at)))

one_more : (n l t : ℕ) → t ≡ one_if (nat_lt n l) → t + one_if (l == n) ≡ one_if (nat_lt n (l + 1))
one_more n l t e = grind (arith, nat_tests)

here_more : (b : Bool) (l n t : ℕ) → b ≡ true → t ≡ one_if (nat_lt n l) → t + one_if (b && (l == n)) ≡ one_if (nat_lt n (l + 1))
here_more true l n t e h = one_more n l t h
here_more false l n t e h = absurd cc

none_more : (b d : Bool) (t : ℕ) → b ≡ false → t + one_if (b && d) ≡ t
none_more true d t e = absurd cc
none_more false d t e = omega arith

-- one record of one connection comes
pub once_heard : (setup : Setup) (connections : List Connection) (old new : ℕ → ℕ → ℕ) (f : Connection → Connection) (k number : ℕ) (h : Heard)
    → ((x : Connection) → slice_get connections k ≡ Some x → (served setup (f x) ≡ served setup x ++ h ∷ []) × (number ≡ length (served setup x)))
    → ((c n : ℕ) → new c n ≡ old c n + one_if ((k == c) && (number == n))) → IsOnce setup connections old → IsOnce setup (changed_at f connections k) new
once_heard setup connections old new f k number h longer more o =
    changed_all (λ c x. (n : ℕ) → new c n ≡ one_if (nat_lt n (length (served setup x)))) f connections k
    (λ c x at ne n. more c n ∙ none_more (k == c) (number == n) (old c n) (ne_eqb k c (λ q. ne (sym q))) ∙ o c x at n)
    (λ x at n.
    let l = longer x at in
    let counted : number ≡ length (served setup x) = l.1 in
    let length_is : length (served setup (f x)) ≡ number + 1 = ap length l.0 ∙ length-append (served setup x) (h ∷ []) ∙ ap (λ (i : ℕ). i + 1) (sym counted) in
    more k n ∙ here_more (k == k) number n (old k n) (eq-eqb k k refl) (o k x at n ∙ ap (λ (i : ℕ). one_if (nat_lt n i)) (sym counted))
    ∙ ap (λ (i : ℕ). one_if (nat_lt n i)) (sym length_is))

none_below : (n t : ℕ) → t ≡ 0 → t ≡ one_if (nat_lt n 0)
none_below n t e = grind (arith, nat_tests)

-- a connection without a record comes
pub once_pushed : (setup : Setup) (connections : List Connection) (total : ℕ → ℕ → ℕ) (y : Connection)
    → served setup y ≡ [] → ((n : ℕ) → total (length connections) n ≡ 0) → IsOnce setup connections total → IsOnce setup (connections ++ y ∷ []) total
once_pushed setup connections total y empty none o =
    pushed_all (λ c x. (n : ℕ) → total c n ≡ one_if (nat_lt n (length (served setup x)))) connections y o
    (λ n. none_below n (total (length connections) n) (none n) ∙ ap (λ (hs : List Heard). one_if (nat_lt n (length hs))) (sym empty))
