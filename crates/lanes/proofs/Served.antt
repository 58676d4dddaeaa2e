-- What is known of one connection, as the lane goes on.
use Rattle.std.proofs.Common.{◌≡◌, ◌≢◌, ◌==◌, ℕ, zero, suc, Bool, true, false, if◌then◌else◌, List, [], ◌∷◌, ◌++◌, length, map, Option, Some}
use Rattle.std.proofs.Common.{option_map, refl, sym, ap, subst, ◌∙◌, append_assoc, append-nil, ne_eqb}
use Rattle.std.specs.List.{slice_get}
use Rattle.std.specs.FinMap.{get}
use Rattle.std.proofs.lemmas.Bool.{eqb-false}
use Rattle.std.proofs.lemmas.Map.Views.{exact_unsigned_eq}
use Rattle.std.proofs.lemmas.List.{map_push}
use Rattle.rpc_msg.specs.declared.offer.Offer.{Offer}
use Rattle.rpc_msg.specs.Offer.{form_of}
use Rattle.granted_calls.specs.Telling.{answer_told, message_told}
use Rattle.nfs_model.specs.Tree.{Layout}
use Rattle.nfs_model.specs.volume.lemmas.Numbered.{itself, get-changed_at}
use Rattle.outboxes.specs.Boxes.{Addressed, Boxes, put, with_last}
use Rattle.outboxes.specs.Messages.{ReplyMessage}
use Rattle.tcp_front.specs.Arrivals.{Arrival}
use Rattle.connections.specs.Incoming.{Incoming}
use Rattle.connections.specs.declared.connection.Connection.{Connection}
use Rattle.connections.specs.Connections.{number_of}
use Rattle.lanes.specs.Intakes.{all_put}
use Rattle.lanes.specs.Story.{of_connection, Ending, AtOnce, said_by, with_reply, replies_to, told_to, IsServed, Life, Open, Closed, HasLived}
use Rattle.connections.specs.Writing.{Writes}
use Rattle.connections.specs.lemmas.Writing.{writes-put}
use Rattle.lanes.proofs.Lists.{replies-append}

-- ---- a list with one more

module _ {X : Type 0} where
  -- what was in the list
  pub get-before : (xs : List X) (x : X) (at : ℕ) (y : X) → slice_get xs at ≡ Some y → slice_get (xs ++ x ∷ []) at ≡ Some y
  get-before [] x at y h = let no : ⊥ = cc in absurd no
  get-before (z ∷ zs) x zero y h = h
  get-before (z ∷ zs) x (suc at) y h = get-before zs x at y h

  -- the one more
  pub get-last : (xs : List X) (x : X) → slice_get (xs ++ x ∷ []) (length xs) ≡ Some x
  get-last [] x = refl
  get-last (z ∷ zs) x = get-last zs x

-- ---- a reply more

-- a reply to a connection, among its replies
one-reply : (n : ℕ) (x : Ending) (a : Addressed) → said_by x ≡ Some a → n ≡ a.connection → replies_to n (x ∷ []) ≡ a.message ∷ []
one-reply n x a said is =
    ap (λ (o : Option Addressed). with_reply n o []) said
    ∙ ap (λ (b : Bool). if b then a.message ∷ [] else []) (ap (λ m. m == n) (sym is) ∙ itself n)

no-reply : (n : ℕ) (x : Ending) (a : Addressed) → said_by x ≡ Some a → n ≢ a.connection → replies_to n (x ∷ []) ≡ []
no-reply n x a said d =
    ap (λ (o : Option Addressed). with_reply n o []) said
    ∙ ap (λ (b : Bool). if b then a.message ∷ [] else []) (ne_eqb a.connection n (λ e. d (sym e)))

module _ {D : Type 0} (unread : D → Incoming) (written : D → Option (List ℕ)) (layout : Layout) (offer : Offer) where
  abbrev pub Slots : Type 0
  Slots = ℕ → Option (Connection D)

  -- ---- an ending whose reply was put

  module _ (boxes : Boxes) (came : List Arrival) (endings : List Ending) (c : Connection D) (waiting : List ReplyMessage)
      (box : get boxes.waiting (number_of c) ≡ Some waiting) (x : Ending) (a : Addressed) (said : said_by x ≡ Some a)
      (s : IsServed unread written layout offer came endings waiting c) where
    abbrev Put : Type 0
    Put = (waiting' : List ReplyMessage) × (get (put (answer_told (form_of offer) a) boxes).waiting (number_of c) ≡ Some waiting')
        × IsServed unread written layout offer came (endings ++ x ∷ []) waiting' c

    served-put : Put
    served-put = by (number_of c == a.connection) refl
      where
        n : ℕ
        n = number_of c

        told : ReplyMessage
        told = message_told (form_of offer) a.message

        found : get (put (answer_told (form_of offer) a) boxes).waiting n
            ≡ (if n == a.connection then option_map (with_last told) (get boxes.waiting a.connection) else get boxes.waiting n)
        found = get-changed_at (with_last told) a.connection boxes.waiting n

        with_box : (waiting' : List ReplyMessage) → get (put (answer_told (form_of offer) a) boxes).waiting n ≡ Some waiting'
            → Writes written c.opened.value c waiting' (told_to offer n (endings ++ x ∷ [])) → Put
        with_box waiting' is writes = (waiting', is, record { heard = s.heard; arrived = s.arrived; reads = s.reads; writes = writes })

        by : (b : Bool) → (n == a.connection) ≡ b → Put
        by true is =
            let e : n ≡ a.connection = exact_unsigned_eq n a.connection is in
            with_box (waiting ++ told ∷ [])
            (found ∙ ap (λ (b : Bool). if b then option_map (with_last told) (get boxes.waiting a.connection) else get boxes.waiting n) is
            ∙ ap (λ m. option_map (with_last told) (get boxes.waiting m)) (sym e) ∙ ap (option_map (with_last told)) box)
            (subst (λ (l : List ReplyMessage). Writes written c.opened.value c (waiting ++ told ∷ []) l)
            (sym (ap (λ (l : List ReplyMessage). map (message_told (form_of offer)) l)
            (replies-append n endings (x ∷ []) ∙ ap (λ (l : List ReplyMessage). replies_to n endings ++ l) (one-reply n x a said e))
            ∙ map_push (message_told (form_of offer)) (replies_to n endings) a.message))
            (writes-put written c.opened.value c waiting (told_to offer n endings) told s.writes))
        by false is =
            with_box waiting
            (found ∙ ap (λ (b : Bool). if b then option_map (with_last told) (get boxes.waiting a.connection) else get boxes.waiting n) is
            ∙ box)
            (subst (λ (l : List ReplyMessage). Writes written c.opened.value c waiting l)
            (sym (ap (λ (l : List ReplyMessage). map (message_told (form_of offer)) l)
            (replies-append n endings (x ∷ [])
            ∙ ap (λ (l : List ReplyMessage). replies_to n endings ++ l) (no-reply n x a said (eqb-false n a.connection is))
            ∙ append-nil (replies_to n endings))))
            s.writes)

  -- so it is of each connection that the lane had
  pub lived-put : (boxes : Boxes) (slots : Slots) (closed : List (Connection D)) (came : List Arrival) (endings : List Ending) (x : Ending) (a : Addressed) → said_by x ≡ Some a
      → (number : ℕ) (life : Life) → HasLived unread written layout offer came endings boxes slots closed number life
      → HasLived unread written layout offer came (endings ++ x ∷ []) (put (answer_told (form_of offer) a) boxes) slots closed number life
  lived-put boxes slots closed came endings x a said number (Open key) h =
      let c = h.0 in
      let p = served-put boxes came endings c h.1 (ap (λ n. get boxes.waiting n) h.3 ∙ h.4) x a said h.5 in
      (c, p.0, h.2, h.3, ap (λ n. get (put (answer_told (form_of offer) a) boxes).waiting n) (sym h.3) ∙ p.1, p.2)
  lived-put boxes slots closed came endings x a said number (Closed at waiting ended) h =
      (h.0, h.1 ++ x ∷ [], h.2, h.3, ap (λ (l : List Ending). l ++ x ∷ []) h.4 ∙ append_assoc ended h.1 (x ∷ []), h.5)

  -- replies at once, all put
  pub lived-at-once : (xs : List Addressed) (boxes : Boxes) (slots : Slots) (closed : List (Connection D)) (came : List Arrival) (endings : List Ending) (number : ℕ) (life : Life)
      → HasLived unread written layout offer came endings boxes slots closed number life
      → HasLived unread written layout offer came (endings ++ map AtOnce xs) (all_put (map (answer_told (form_of offer)) xs) boxes) slots closed number life
  lived-at-once [] boxes slots closed came endings number life h =
      subst (λ (l : List Ending). HasLived unread written layout offer came l boxes slots closed number life) (sym (append-nil endings)) h
  lived-at-once (x ∷ xs) boxes slots closed came endings number life h =
      subst (λ (l : List Ending). HasLived unread written layout offer came l
      (all_put (map (answer_told (form_of offer)) xs) (put (answer_told (form_of offer) x) boxes)) slots closed number life)
      (append_assoc endings (AtOnce x ∷ []) (map AtOnce xs))
      (lived-at-once xs (put (answer_told (form_of offer) x) boxes) slots closed came (endings ++ AtOnce x ∷ []) number life
      (lived-put boxes slots closed came endings (AtOnce x) x refl number life h))

  -- ---- another connection goes on

  still-arrived : (came came' : List Arrival) (endings : List Ending) (waiting : List ReplyMessage) (c : Connection D)
      → of_connection (number_of c) came' ≡ of_connection (number_of c) came → IsServed unread written layout offer came endings waiting c
      → IsServed unread written layout offer came' endings waiting c
  still-arrived came came' endings waiting c same s =
      record { heard = s.heard; arrived = same ∙ s.arrived; reads = s.reads; writes = s.writes }

  -- nothing came of it, and what waits for it is as it was, and so is itself
  pub lived-beside : (came came' : List Arrival) (endings : List Ending) (boxes boxes' : Boxes) (slots slots' : Slots) (closed : List (Connection D)) (number : ℕ) (life : Life)
      → of_connection number came' ≡ of_connection number came → get boxes'.waiting number ≡ get boxes.waiting number
      → ((key : ℕ) (c : Connection D) → slots key ≡ Some c → number_of c ≡ number → slots' key ≡ Some c)
      → HasLived unread written layout offer came endings boxes slots closed number life
      → HasLived unread written layout offer came' endings boxes' slots' closed number life
  lived-beside came came' endings boxes boxes' slots slots' closed number (Open key) same box there h =
      let c = h.0 in (
        c,
        h.1,
        there key c h.2 h.3,
        h.3,
        box ∙ h.4,
        still-arrived came came' endings h.1 c
            (subst (λ n. of_connection n came' ≡ of_connection n came) (sym h.3) same) h.5,
      )
  lived-beside came came' endings boxes boxes' slots slots' closed number (Closed at waiting ended) same box there h =
      let last = h.0 in (
        last,
        h.1,
        h.2,
        h.3,
        h.4,
        still-arrived came came' ended waiting last (subst (λ n. of_connection n came' ≡ of_connection n came) (sym h.3) same) h.5,
      )

  -- ---- another connection is closed

  pub lived-shut : (came : List Arrival) (endings : List Ending) (boxes : Boxes) (slots : Slots) (closed : List (Connection D)) (c : Connection D)
      (number : ℕ) (life : Life) → HasLived unread written layout offer came endings boxes slots closed number life
      → HasLived unread written layout offer came endings boxes slots (closed ++ c ∷ []) number life
  lived-shut came endings boxes slots closed c number (Open key) h = h
  lived-shut came endings boxes slots closed c number (Closed at waiting ended) h =
      (h.0, h.1, get-before closed c at h.0 h.2, h.3, h.4, h.5)
