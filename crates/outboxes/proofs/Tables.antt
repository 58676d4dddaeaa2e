-- What the table of outboxes shows, and the numbers that were given.
use Rattle.std.proofs.Common.{◌≡◌, ℕ, ◌+◌, ◌<◌, ◌≤◌, ◌==◌, Bool, true, false, cond, List, [], drop, None, Some, refl, sym, ap, subst, ◌∙◌, arith}
use Rattle.std.proofs.Common.{if◌then◌else◌}
use Rattle.std.specs.Option.{option_map}
use Rattle.std.specs.Ordering.{nat_cmp}
use Rattle.std.specs.FinMap as maps
use Rattle.std.specs.FinMap.{FinMap, empty, get, insert, get-empty}
use Rattle.std.proofs.lemmas.Bool.Decides.{nat_tests}
use Rattle.std.proofs.lemmas.Map.Views.{exact_unsigned_eq}
use Rattle.nfs_model.specs.volume.Maps.{changed_at}
use Rattle.nfs_model.specs.volume.lemmas.Numbered.{get-insert_at, get-remove_at, get-changed_at}
use Rattle.outboxes.specs.Boxes.{Addressed, addressed, opened, put, shut, taken, with_last}
use Rattle.outboxes.specs.Messages.{ReplyMessage}
use Rattle.outboxes.specs.Tables.{boxes_of, NoneFrom}

-- each number is larger than the one before
pub rises : (next step : ℕ) → 0 < step → next < next + step
rises next step h = omega (arith, h)

either : {X : Type 0} (b : Bool) (x : X) → cond b x x ≡ x
either true x = refl
either false x = refl

-- ---- what is open has a number that was given

-- the number that is given next isn't open
pub fresh : (next : ℕ) (m : FinMap nat_cmp (List ReplyMessage)) → NoneFrom next m → get m next ≡ None
fresh next m none = none next (omega arith)

pub none-empty : (next : ℕ) (m : FinMap nat_cmp (List ReplyMessage)) → m ≡ empty → NoneFrom next m
none-empty next m is = subst (λ w. NoneFrom next w) (sym is) (λ q le. get-empty nat_cmp q)

module _ (next : ℕ) (m n : FinMap nat_cmp (List ReplyMessage)) (none : NoneFrom next m) where
  pub none-opened : (step : ℕ) → 0 < step → n ≡ insert m next [] → NoneFrom (next + step) n
  none-opened step more is = subst (λ w. NoneFrom (next + step) w) (sym is) (λ q le.
      let other : (q == next) ≡ false = grind (arith, nat_tests, more, le) in
      get-insert_at m next [] q ∙ ap (λ b. cond b (Some []) (get m q)) other ∙ none q (omega (arith, le)))

  pub none-shut : (k : ℕ) → n ≡ maps.remove m k → NoneFrom next n
  none-shut k is = subst (λ w. NoneFrom next w) (sym is) (λ q le.
      get-remove_at m k q ∙ ap (cond (q == k) None) (none q le) ∙ either (q == k) None)

  pub none-changed : (g : List ReplyMessage → List ReplyMessage) (k : ℕ) → n ≡ changed_at g k m → NoneFrom next n
  none-changed g k is = subst (λ w. NoneFrom next w) (sym is) (λ q le. get-changed_at g k m q ∙ by q le (q == k) refl)
    where
      by : (q : ℕ) → next ≤ q → (b : Bool) → b ≡ (q == k) → (if b then option_map g (get m k) else get m q) ≡ None
      by q le true p = ap (option_map g) (ap (get m) (sym (exact_unsigned_eq q k (sym p))) ∙ none q le)
      by q le false p = none q le

-- ---- changes

module _ (most next step : ℕ) (old new : FinMap nat_cmp (List ReplyMessage)) where
  -- a connection more
  pub opens : new ≡ insert old next [] → boxes_of most (next + step) step new ≡ opened (boxes_of most next step old)
  opens is = ap (λ w. boxes_of most (next + step) step w) is

  -- a connection less
  pub shuts : (k : ℕ) → new ≡ maps.remove old k → boxes_of most next step new ≡ shut k (boxes_of most next step old)
  shuts k is = ap (λ w. boxes_of most next step w) is

  -- a record more, by where it goes
  pub puts-addressed : (k : ℕ) (numbered : ReplyMessage) (a : Addressed) → addressed k numbered ≡ a → new ≡ changed_at (with_last numbered) k old
      → boxes_of most next step new ≡ put a (boxes_of most next step old)
  puts-addressed k numbered a e is =
      ap (λ w. boxes_of most next step w) is ∙ ap (λ (x : Addressed). put x (boxes_of most next step old)) e

  -- a record less
  pub takes : (k : ℕ) → new ≡ changed_at (drop 1) k old → boxes_of most next step new ≡ taken k (boxes_of most next step old)
  takes k is = ap (λ w. boxes_of most next step w) is
