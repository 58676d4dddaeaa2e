-- A worker put to others.
use Rattle.std.proofs.Common.{◌≡◌, ℕ, ◌+◌, List, [], ◌∷◌, ◌++◌, Option, Some, None, refl, ap, arith, ◌⊎◌, ⊎_elim}
use Rattle.std.specs.Prelude.{option_to_list}
use Rattle.nfs_model.specs.Parts.{Hand}
use Rattle.depot_rule.specs.declared.view.Entry.{Entry}
use Rattle.depot_rule.specs.History.{batches_of, AreHands}
use Rattle.depot_rule.specs.Shares.{Has}
use Rattle.depot_rule.specs.Sums.{total}
use Rattle.depot_rule.specs.lemmas.Sums.{total-append}
use Rattle.filer_state.specs.state.Parcels.{FilerParcel}
use Rattle.filer_state.specs.declared.files.Files.{Files}
use Rattle.turns.specs.Jobs.{job_takes, job_gives}
use Rattle.granted_calls.specs.shared_waiting.Balance.{both}
use Rattle.granted_calls.specs.Messages.{Message}
use Rattle.granted_calls.specs.Balance.{FilerEntry, FilerView, Passed, Weight, by_entry, by_key, by_kept, IsEven}
use Rattle.tends.specs.Even.{IsEvenWith}

-- ---- balances

pub kept-once : (h : Weight) (kept : Option Message) → total (by_key h) (option_to_list kept) ≡ by_kept h kept
kept-once h None = refl
kept-once h (Some m) = omega arith

-- of one more
pub even-both : (v u w : Passed) (es ds all : List FilerEntry) (kept more : List Message) (k : Option Message) → w ≡ both v u
    → ((weight : FilerEntry → ℕ) → total weight all ≡ total weight es + total weight ds) → more ≡ kept ++ option_to_list k
    → IsEvenWith v es kept → IsEven u ds k → IsEvenWith w all more
even-both v u w es ds all kept more k is sum put one other h =
    let a = ap (λ (x : Passed). total (by_key h) x.picked) is in
    let b = total-append (by_key h) v.picked u.picked in
    let c = ap (λ (x : Passed). total (by_key h) x.put) is in
    let d = total-append (by_key h) v.put u.put in
    let e = sum (by_entry h) in
    let f = ap (total (by_key h)) put in
    let g = total-append (by_key h) kept (option_to_list k) in
    let o = kept-once h k in
    let p = one h in
    let q = other h in
    omega (arith, a, b, c, d, e, f, g, o, p, q)

-- ---- hands

moved-weigh : {P C R B : Type 0} (batches : C → R → List B) (weigh : B → ℕ) (es : List (Entry P C R))
    → total weigh (batches_of batches es) ≡ total (λ (e : Entry P C R). total weigh (batches e.call e.reply)) es
moved-weigh batches weigh [] = refl
moved-weigh batches weigh (e ∷ es) =
    let r = moved-weigh batches weigh es in
    let a = total-append weigh (batches e.call e.reply) (batches_of batches es) in
    omega (arith, r, a)

pub hands-first : (es : List FilerEntry) (none all hand : List Hand) → none ≡ [] → all ≡ none ++ hand → AreHands job_takes job_gives es hand
    → AreHands job_takes job_gives es all
hands-first es none all hand empty is own weigh =
    let a = ap (total weigh) is in
    let b = total-append weigh none hand in
    let c = ap (total weigh) empty in
    let d = own weigh in
    omega (arith, a, b, c, d)

pub hands-both : (xs ys zs : List FilerEntry) (one other all : List Hand)
    → ((weight : FilerEntry → ℕ) → total weight zs ≡ total weight xs + total weight ys) → all ≡ one ++ other
    → AreHands job_takes job_gives xs one → AreHands job_takes job_gives ys other → AreHands job_takes job_gives zs all
hands-both xs ys zs one other all sum is a b weigh =
    let gx = moved-weigh job_gives weigh xs in
    let gy = moved-weigh job_gives weigh ys in
    let gz = moved-weigh job_gives weigh zs in
    let tx = moved-weigh job_takes weigh xs in
    let ty = moved-weigh job_takes weigh ys in
    let tz = moved-weigh job_takes weigh zs in
    let g = sum (λ (e : FilerEntry). total weigh (job_gives e.call e.reply)) in
    let t = sum (λ (e : FilerEntry). total weigh (job_takes e.call e.reply)) in
    let n = ap (total weigh) is in
    let m = total-append weigh one other in
    let p = a weigh in
    let q = b weigh in
    omega (arith, gx, gy, gz, tx, ty, tz, g, t, n, m, p, q)

-- of the same entries in another order
pub hands-again : (xs zs : List FilerEntry) (hands : List Hand) → ((weight : FilerEntry → ℕ) → total weight xs ≡ total weight zs)
    → AreHands job_takes job_gives xs hands → AreHands job_takes job_gives zs hands
hands-again xs zs hands sum a weigh =
    let gx = moved-weigh job_gives weigh xs in
    let gz = moved-weigh job_gives weigh zs in
    let tx = moved-weigh job_takes weigh xs in
    let tz = moved-weigh job_takes weigh zs in
    let g = sum (λ (e : FilerEntry). total weigh (job_gives e.call e.reply)) in
    let t = sum (λ (e : FilerEntry). total weigh (job_takes e.call e.reply)) in
    let p = a weigh in
    omega (arith, gx, gz, tx, tz, g, t, p)

-- ---- seats

pub none-both : (v w j : FilerView) → ((b : ℕ) (g : List (Option (FilerParcel Files))) → Has v b g → ⊥)
    → ((b : ℕ) (g : List (Option (FilerParcel Files))) → Has w b g → ⊥)
    → ((b : ℕ) (g : List (Option (FilerParcel Files))) → Has j b g → Has v b g ⊎ Has w b g)
    → (b : ℕ) (g : List (Option (FilerParcel Files))) → Has j b g → ⊥
none-both v w j one other either b g has = ⊎_elim (one b g) (other b g) (either b g has)
