-- Cards of a file, before it is cut and after.
use Rattle.std.proofs.Common.{◌≡◌, ℕ, Bool, true, false, Option, Some, None, refl, sym, ap, ◌∙◌, subst}
use Rattle.std.specs.Prelude.{IsSome, if◌then◌else◌}
use Rattle.std.specs.Option.{option_map}
use Rattle.std.specs.FinMap.{get, get-empty}
use Rattle.std.specs.Ordering.{nat_cmp}
use Rattle.nfs_model.specs.volume.Stripes.{StripeValue, Card, card_settled, touch_taken, cut}
use Rattle.nfs_model.specs.volume.lemmas.Numbered.{itself, get-changed_at}
use Rattle.filer_state.specs.state.Sets.{FilerStripe, stripe_value}

settled-some : (o : Option Card) → IsSome o → IsSome (option_map card_settled o)
settled-some None some = let h : false ≡ true = some in absurd cc
settled-some (Some card) some = refl

-- a card stays where its touch is taken and its blocks are cut
pub card-stays : (fileid size : ℕ) (s taken now : StripeValue) → IsSome (get s.cards fileid) → taken ≡ touch_taken fileid s
    → now ≡ cut fileid size taken → IsSome (get now.cards fileid)
card-stays fileid size s taken now some took cuts =
    subst IsSome (sym (ap (λ (x : StripeValue). get x.cards fileid) (cuts ∙ ap (cut fileid size) took)
    ∙ get-changed_at card_settled fileid s.cards fileid
    ∙ ap (λ (b : Bool). if b then option_map card_settled (get s.cards fileid) else get s.cards fileid) (itself fileid)))
    (settled-some (get s.cards fileid) some)

none-some : (o : Option Card) → o ≡ None → IsSome o → ⊥
none-some None e some = let h : false ≡ true = some in absurd cc
none-some (Some x) e some = absurd cc

-- an empty place has none
pub vacant-card : {P : Type 0} (o : Option (FilerStripe P)) (fileid : ℕ) → o ≡ None → IsSome (get (stripe_value o).cards fileid) → ⊥
vacant-card None fileid e some = none-some _ (get-empty {X = Card} nat_cmp fileid) some
vacant-card (Some s) fileid e some = absurd cc
