-- A file of which one hole is filled with a block of zeros: all stays sound, and it has the bytes and touch that it had.
use Rattle.std.proofs.Common.{◌≡◌, ◌≢◌, ℕ, zero, suc, ◌+◌, ◌*◌, ◌/◌, ◌%◌, ◌<◌, ◌==◌, ◌||◌, ◌&&◌, Bool, true, false, cond, List, [], ◌∷◌, length}
use Rattle.std.proofs.Common.{Option, Some, None, refl, sym, ap, ◌∙◌, subst, arith, ⊎_elim}
use Rattle.std.specs.Prelude.{is_some, slice_set, slice_index_or}
use Rattle.std.proofs.lemmas.Bool.{cases_eq, eqb-true}
use Rattle.std.proofs.lemmas.List.{length-set, length-replicate, get_or-set_same, get_or-set_other}
use Rattle.std.specs.List.{range_with_len}
use Rattle.std.specs.Ordering.{nat_cmp}
use Rattle.std.specs.Cmp.{nat_cmp_total, unsigned_tied}
use Rattle.std.specs.FinMap.{get, len, nat_cmp-IsAntisymmetric}
use Rattle.std.specs.FinSet as sets
use Rattle.std.specs.FinSet.{contains, from_list, insert, contains-insert, contains-from_list_nat}
use Rattle.nfs_model.specs.Parts.{one_if}
use Rattle.nfs_model.specs.Server.{block_size}
use Rattle.depot_rule.specs.Sums.{total}
use Rattle.nfs_model.specs.volume.Inodes.{Inode}
use Rattle.nfs_model.specs.volume.Stripes.{Block, StripeValue, stripe_of, byte_of, byte_at, zero_block, block_inserted, is_filled, touch_of}
use Rattle.filer_state.specs.state.Contents.{VolumeContents}
use Rattle.filer_state.specs.state.Parcels.{no_stripe}
use Rattle.filer_state.specs.state.Tree.{stripe_at, home_stripe, file_byte, file_filled, file_touch, most_file_blocks}
use Rattle.filer_state.specs.state.Kinds.{IsFile}
use Rattle.filer_state.specs.state.WellFormed.{BlockFits, WellFormed}
use Rattle.filer_state.specs.state.Partition.{times_in_stripe}
use Rattle.filer_state.specs.bytes.Extending.{home_changed}
use Rattle.filer_state.specs.bytes.lemmas.OneStripe.{home-put}
use Rattle.filer_state.specs.bytes.lemmas.Refiled.{Refits, Refiles, touch-alike, some-stripes}
use Rattle.filer_state.specs.bytes.lemmas.Holes.{any-below, seen-filled-at}
use Rattle.filer_state.specs.bytes.lemmas.Grown.{card-shows, own-block}
use Rattle.filer_state.specs.bytes.lemmas.Inserted.{insert-other, insert-else, insert-here, insert-len, insert-times, zero-byte}

-- a sum with one summand changed
pub total-put : {A : Type 0} (g : A → ℕ) (xs : List A) (i : ℕ) (d y : A) → i < length xs
    → total g (slice_set xs i y) + g (slice_index_or xs i d) ≡ total g xs + g y
total-put g [] i d y less = absurd (omega (arith, less))
total-put g (x ∷ xs) zero d y less = omega arith
total-put g (x ∷ xs) (suc i) d y less = let rest = total-put g xs i d y (omega (arith, less)) in omega (arith, rest)

is-none : (o : Option Block) → is_some o ≡ false → o ≡ None
is-none None e = refl
is-none (Some x) e = absurd cc

module _ (p : VolumeContents) (f b n : ℕ) (inode : Inode) (size blocks : ℕ) (verifier : Option (List ℕ))
    (there : get p.logical.inodes.inodes f ≡ Some inode) (is_file : IsFile inode.kind size blocks verifier) (well : WellFormed p)
    (starts : block_size * b < size) (below : b < most_file_blocks) (hole : is_filled (home_stripe p.stripes f b) f b ≡ false) where
  abbrev i : ℕ
  i = stripe_of (length p.stripes) f b

  abbrev was : StripeValue
  was = home_stripe p.stripes f b

  abbrev now : StripeValue
  now = block_inserted f b n was

  abbrev stripes : List StripeValue
  stripes = home_changed f b (block_inserted f b n) p.stripes

  on : i < length p.stripes
  on = let some = some-stripes p well in omega (arith, some)

  none : get was.blocks (f, b) ≡ None
  none = is-none (get was.blocks (f, b)) hole

  -- ---- the stripes fit

  zeros-fit : BlockFits p.logical.stripes i f b size (zero_block n)
  zeros-fit = record {
    lies = ap (λ (k : ℕ). stripe_of k f b) (sym well.as_many);
    starts = starts;
    zeros = λ at past. zero-byte n at;
  }

  own-now : (c : ℕ) (x : Block) → get now.blocks (f, c) ≡ Some x → BlockFits p.logical.stripes i f c size x × (length x.bytes ≡ block_size)
  own-now c x e = by (c == b) refl
    where
      by : (t : Bool) → (c == b) ≡ t → BlockFits p.logical.stripes i f c size x × (length x.bytes ≡ block_size)
      by true h =
          let is : c ≡ b = eqb-true c b h in
          let zero_is : zero_block n ≡ x = (let says = sym (insert-here f b n was) ∙ ap (λ (k : ℕ). get now.blocks (f, k)) (sym is) ∙ e in cc) in
          subst (λ (y : Block). BlockFits p.logical.stripes i f c size y × (length y.bytes ≡ block_size)) zero_is
          (subst (λ (k : ℕ). BlockFits p.logical.stripes i f k size (zero_block n) × (length (zero_block n).bytes ≡ block_size)) (sym is)
          (zeros-fit, length-replicate {A = ℕ} block_size 0))
      by false h =
          own-block p f 0 inode size blocks verifier there is_file well i on c x (sym (insert-else f b n was c h) ∙ e)

  refits-here : Refits p.logical.stripes i f size was now
  refits-here = record {
    verifier = refl;
    striped = refl;
    largest = refl;
    card = card-shows p f 0 inode size blocks verifier there is_file well i on;
    owner = refl;
    cards = λ q ne. refl;
    blocks = λ q block ne. insert-other f b n was q block ne;
    own = own-now;
  }

  refits-same : (k : ℕ) → k < length p.stripes → Refits p.logical.stripes k f size (stripe_at p.stripes k) (stripe_at p.stripes k)
  refits-same k less = record {
    verifier = refl;
    striped = refl;
    largest = refl;
    card = card-shows p f 0 inode size blocks verifier there is_file well k less;
    owner = refl;
    cards = λ q ne. refl;
    blocks = λ q block ne. refl;
    own = own-block p f 0 inode size blocks verifier there is_file well k less;
  }

  refits : (k : ℕ) → k < length p.stripes → Refits p.logical.stripes k f size (stripe_at p.stripes k) (stripe_at stripes k)
  refits k less = ⊎_elim
      (λ (e : k ≡ i). subst (λ (m : ℕ). Refits p.logical.stripes m f size (stripe_at p.stripes m) (stripe_at stripes m)) (sym e)
      (subst (Refits p.logical.stripes i f size was) (sym (get_or-set_same p.stripes i now no_stripe on)) refits-here))
      (λ (ne : k ≢ i). subst (Refits p.logical.stripes k f size (stripe_at p.stripes k)) (sym (get_or-set_other p.stripes i k now no_stripe ne))
      (refits-same k less))
      (cases_eq k i)

  -- ---- filled blocks

  filled-there : (s : StripeValue) (c : ℕ) → is_filled (block_inserted f b n s) f c ≡ ((c == b) || is_filled s f c)
  filled-there s c = by (c == b) refl
    where
      by : (t : Bool) → (c == b) ≡ t → is_filled (block_inserted f b n s) f c ≡ (t || is_filled s f c)
      by true e = ap (λ (k : ℕ). is_filled (block_inserted f b n s) f k) (eqb-true c b e) ∙ ap (λ o. is_some o) (insert-here f b n s)
      by false e = ap (λ o. is_some o) (insert-else f b n s c e)

  pub filled-at : (c : ℕ) → is_filled (home_stripe stripes f c) f c ≡ ((c == b) || is_filled (home_stripe p.stripes f c) f c)
  filled-at c = home-put p.stripes i now on (λ s. is_filled s f c) (λ s. (c == b) || is_filled s f c) f c
      (λ e. filled-there was c)
      (λ ne. by ne (c == b) refl)
    where
      by : stripe_of (length p.stripes) f c ≢ i → (t : Bool) → (c == b) ≡ t
          → is_filled (home_stripe p.stripes f c) f c ≡ (t || is_filled (home_stripe p.stripes f c) f c)
      by ne true e = absurd (ne (ap (λ (k : ℕ). stripe_of (length p.stripes) f k) (eqb-true c b e)))
      by ne false e = refl

  abbrev all : sets.FinSet nat_cmp
  all = from_list (range_with_len 0 most_file_blocks)

  in-all : contains all b ≡ true
  in-all = contains-from_list_nat (range_with_len 0 most_file_blocks) b ∙ any-below b 0 most_file_blocks (omega arith) (omega (arith, below))

  filled-set : file_filled stripes f ≡ insert (file_filled p.stripes f) b
  filled-set = sets.same_set nat_cmp_total nat_cmp-IsAntisymmetric _ _ (λ q.
      seen-filled-at stripes f q ∙ ap (λ t. contains all q && t) (filled-at q)
      ∙ by q (q == b) refl (is_filled (home_stripe p.stripes f q) f q)
      ∙ sym (contains-insert nat_cmp_total (file_filled p.stripes f) b q
      ∙ (λ j. unsigned_tied q b j || seen-filled-at p.stripes f q j)))
    where
      by : (q : ℕ) (t : Bool) → (q == b) ≡ t → (u : Bool) → (contains all q && (t || u)) ≡ (t || (contains all q && u))
      by q true e u = ap (λ (x : Bool). x && true) (ap (contains all) (eqb-true q b e) ∙ in-all)
      by q false e u = refl

  not-there : contains (file_filled p.stripes f) b ≡ false
  not-there = seen-filled-at p.stripes f b ∙ ap (λ t. contains all b && t) hole ∙ ap (λ (t : Bool). t && false) in-all

  pub fills : Refiles p f size 1 stripes
  fills = record {
    as_many = length-set p.stripes i now;
    each = refits;
    used = (
        let put = total-put (λ (s : StripeValue). len s.blocks) p.stripes i no_stripe now on in
        let more = insert-len f b n was none in
        omega (arith, put, more));
    filled =
        ap sets.len filled-set ∙ sets.len-insert nat_cmp_total (file_filled p.stripes f) b
        ∙ ap (λ (t : Bool). cond t (sets.len (file_filled p.stripes f)) (sets.len (file_filled p.stripes f) + 1)) not-there;
  }

  -- ---- what else stays or comes

  pub times-filled : (m : ℕ) → total (times_in_stripe m) stripes ≡ one_if (n == m) + total (times_in_stripe m) p.stripes
  times-filled m =
      let put = total-put (times_in_stripe m) p.stripes i no_stripe now on in
      let more = insert-times f b n was none m in
      omega (arith, put, more)

  pub touch-filled : (q : ℕ) → file_touch stripes q ≡ file_touch p.stripes q
  touch-filled q = touch-alike stripes p.stripes q (length-set p.stripes i now) (λ k less. ⊎_elim
      (λ (e : k ≡ i). ap (λ (m : ℕ). touch_of (get (stripe_at stripes m).cards q)) e
      ∙ ap (λ (s : StripeValue). touch_of (get s.cards q)) (get_or-set_same p.stripes i now no_stripe on)
      ∙ ap (λ (m : ℕ). touch_of (get (stripe_at p.stripes m).cards q)) (sym e))
      (λ (ne : k ≢ i). ap (λ (s : StripeValue). touch_of (get s.cards q)) (get_or-set_other p.stripes i k now no_stripe ne))
      (cases_eq k i))

  pub byte-filled : (k : ℕ) → file_byte stripes f k ≡ file_byte p.stripes f k
  byte-filled k = home-put p.stripes i now on (λ s. byte_at s f k) (λ s. byte_at s f k) f (k / block_size)
      (λ e. by (k / block_size == b) refl)
      (λ ne. refl)
    where
      by : (t : Bool) → (k / block_size == b) ≡ t → byte_at now f k ≡ byte_at was f k
      by true e =
          let is : k / block_size ≡ b = eqb-true (k / block_size) b e in
          ap (λ (c : ℕ). byte_of (get now.blocks (f, c)) (k % block_size)) is
          ∙ ap (λ o. byte_of o (k % block_size)) (insert-here f b n was) ∙ zero-byte n (k % block_size)
          ∙ sym (ap (λ (c : ℕ). byte_of (get was.blocks (f, c)) (k % block_size)) is ∙ ap (λ o. byte_of o (k % block_size)) none)
      by false e = ap (λ o. byte_of o (k % block_size)) (insert-else f b n was (k / block_size) e)
