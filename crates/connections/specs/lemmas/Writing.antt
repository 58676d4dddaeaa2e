-- The writing of a connection, call after call.
use Rattle.std.proofs.Common.{◌≡◌, ◌+◌, ◌<◌, ℕ, Bool, true, false, List, [], ◌∷◌, ◌++◌, length, Option, Some, None, refl, sym, ap, subst}
use Rattle.std.proofs.Common.{◌∙◌, append_assoc, arith}
use Rattle.std.proofs.KnownBytes.{Appends-trans}
use Rattle.std.specs.FinMap.{get}
use Rattle.std.specs.Io.KnownBytes.{Appends}
use Rattle.connections.specs.Incoming.{Incoming, GivesNone}
use Rattle.connections.specs.lemmas.Incoming.{gives-kept, gives-none-still}
use Rattle.rpc_msg.specs.declared.offer.Offer.{Offer}
use Rattle.rpc_msg.specs.Replies.{reply_record, reply_bytes}
use Rattle.outboxes.specs.Boxes.{Boxes}
use Rattle.outboxes.specs.Messages.{ReplyMessage, record_of}
use Rattle.outboxes.specs.lemmas.Messages.{record_is}
use Rattle.tcp_front.specs.Writing.{records_of}
use Rattle.connections.specs.declared.connection.Connection.{Connection}
use Rattle.connections.specs.declared.writing.Sent.{Sent}
use Rattle.tcp_front.specs.declared.stream.Stopped.{Stopped}
use Rattle.tcp_front.specs.declared.stream.Stream.{Stream}
use Rattle.nfs_model.specs.World.{Heard}
use Rattle.connections.specs.Connections.{due_of, now_of, number_of}
use Rattle.connections.specs.Reading.{IsReadFrom, Reads}
use Rattle.connections.specs.lemmas.Taking.{takes-none}
use Rattle.connections.specs.Owing.{Pays}
use Rattle.connections.specs.Taking.{Takes, TakesOf}
use Rattle.connections.specs.Writing.{HasWritten, HasWrittenAs, IsWrittenTo, Writes}

pub records-append : (ms ks : List ReplyMessage) → records_of (ms ++ ks) ≡ records_of ms ++ records_of ks
records-append [] ks = refl
records-append (m ∷ ms) ks =
    ap (λ (l : List ℕ). record_of m ++ l) (records-append ms ks)
    ∙ sym (append_assoc (record_of m) (records_of ms) (records_of ks))

-- a record has its header at least
pub record-some : (m : ReplyMessage) → 0 < length (record_of m)
record-some m =
    let size : length (record_of m) ≡ length (reply_record m.xid m.reply) = ap (λ (bs : List ℕ). length bs) (record_is m.xid m.reply) in
    let parts : length (reply_record m.xid m.reply) ≡ 4 + length (reply_bytes m.xid m.reply) = omega arith in
    omega (arith, size, parts)

module _ {D : Type 0} (written : D → Option (List ℕ)) (opened : D) where
  -- a reply more, behind those that wait and behind all
  pub writes-put : (c : Connection D) (waiting replies : List ReplyMessage) (m : ReplyMessage) → Writes written opened c waiting replies
      → Writes written opened c (waiting ++ m ∷ []) (replies ++ m ∷ [])
  writes-put c waiting replies m h =
      let more = records_of (m ∷ []) in record {
        given = h.given;
        left = h.left ++ more;
        went_out = h.went_out;
        are = sym (append_assoc h.given h.left more) ∙ ap (λ (l : List ℕ). l ++ more) h.are ∙ sym (records-append replies (m ∷ []));
        whole = λ e. ap (λ (l : List ℕ). l ++ more) (h.whole e) ∙ append_assoc c.rest (records_of waiting) more
            ∙ ap (λ (l : List ℕ). c.rest ++ l) (sym (records-append waiting (m ∷ [])));
      }

  -- bytes more that went out, and replies that were taken
  written-more : (now now' : D) (rest rest' sent : List ℕ) (is_broken : Bool) (waiting waiting' taken replies : List ReplyMessage)
      → IsWrittenTo written opened now rest false waiting replies → waiting ≡ taken ++ waiting'
      → rest ++ records_of taken ≡ sent ++ rest' → Appends (written now) (written now') sent
      → IsWrittenTo written opened now' rest' is_broken waiting' replies
  written-more now now' rest rest' sent is_broken waiting waiting' taken replies h w split out =
      let left = rest' ++ records_of waiting' in
      let parts : h.left ≡ sent ++ left = h.whole refl ∙ ap (λ (l : List ReplyMessage). rest ++ records_of l) w
      ∙ ap (λ (l : List ℕ). rest ++ l) (records-append taken waiting') ∙ sym (append_assoc rest (records_of taken) (records_of waiting'))
      ∙ ap (λ (l : List ℕ). l ++ records_of waiting') split ∙ append_assoc sent rest' (records_of waiting') in record {
        given = h.given ++ sent;
        left = left;
        went_out = Appends-trans (written opened) (written now) (written now') _ _ h.went_out out;
        are = append_assoc h.given sent left ∙ ap (λ (l : List ℕ). h.given ++ l) (sym parts) ∙ h.are;
        whole = λ e. refl;
      }

-- ---- one call

left-of : (o o' : Option (List ReplyMessage)) (taken w : List ReplyMessage) → o ≡ Some w → TakesOf o taken o'
    → (w' : List ReplyMessage) × ((o' ≡ Some w') × (w ≡ taken ++ w'))
left-of None o' taken w e h = absurd cc
left-of (Some v) None taken w e h = absurd h
left-of (Some v) (Some u) taken w e h = let same : w ≡ v = cc in (u, (refl, same ∙ h))

module _ {D : Type 0} (unread : D → Incoming) (written : D → Option (List ℕ)) (old : Connection D) (boxes : Boxes) (result : Sent) (new : Connection D)
    (boxes' : Boxes) (h : HasWritten unread written old boxes result new boxes') where
  -- these were taken from its outbox
  pub written-takes : (taken : List ReplyMessage) × Takes (number_of old) taken boxes boxes'
  written-takes = by old.is_broken h
    where
      by : (b : Bool) → HasWrittenAs b unread written old boxes result new boxes'
          → (taken : List ReplyMessage) × Takes (number_of old) taken boxes boxes'
      by true k = ([], subst (Takes (number_of old) [] boxes) (sym k.2) (takes-none (number_of old) boxes))
      by false k = (k.0.taken, k.0.takes)

  -- and are owed no more
  pub written-pays : (taken : List ReplyMessage) × Takes (number_of old) taken boxes boxes' × Pays taken (due_of old) (due_of new)
  written-pays = by old.is_broken h
    where
      by : (b : Bool) → HasWrittenAs b unread written old boxes result new boxes'
          → (taken : List ReplyMessage) × Takes (number_of old) taken boxes boxes' × Pays taken (due_of old) (due_of new)
      by true k = (
        [],
        subst (Takes (number_of old) [] boxes) (sym k.2) (takes-none (number_of old) boxes),
        ap (λ (c : Connection D). due_of c) k.1,
      )
      by false k = (k.0.taken, k.0.takes, k.0.pays)

  -- its replies go on to it
  pub writes-on : (opened : D) (w replies : List ReplyMessage) → get boxes.waiting (number_of old) ≡ Some w
      → Writes written opened old w replies
      → (w' : List ReplyMessage) × ((get boxes'.waiting (number_of old) ≡ Some w') × Writes written opened new w' replies)
  writes-on opened w replies e g = by old.is_broken refl h
    where
      by : (b : Bool) → old.is_broken ≡ b → HasWrittenAs b unread written old boxes result new boxes'
          → (w' : List ReplyMessage) × ((get boxes'.waiting (number_of old) ≡ Some w') × Writes written opened new w' replies)
      by true s k = (
        w,
        (
          ap (λ (b : Boxes). get b.waiting (number_of old)) k.2 ∙ e,
          subst (λ (c : Connection D). Writes written opened c w replies) (sym k.1) g,
        ),
      )
      by false s k =
          let p = k.0 in
          let l = left-of (get boxes.waiting (number_of old)) (get boxes'.waiting (number_of old)) p.taken w e p.takes.own in (
            l.0,
            (
              l.1.0,
              written-more written opened (now_of old) (now_of new) old.rest new.rest p.sent new.is_broken w l.0 p.taken replies
                  (subst (λ (b : Bool). IsWrittenTo written opened (now_of old) old.rest b w replies) s g) l.1.1 p.split p.went_out,
            ),
          )

  -- what a call of write leaves as it was
  pub written-same : (new.stream ≡ old.stream) × (new.kept ≡ old.kept) × (new.stopped ≡ old.stopped) × (new.opened ≡ old.opened)
      × (new.flags ≡ old.flags)
  written-same = by old.is_broken h
    where
      by : (b : Bool) → HasWrittenAs b unread written old boxes result new boxes'
          → (new.stream ≡ old.stream) × (new.kept ≡ old.kept) × (new.stopped ≡ old.stopped) × (new.opened ≡ old.opened)
          × (new.flags ≡ old.flags)
      by true k = (
        ap (λ (c : Connection D). c.stream) k.1,
        ap (λ (c : Connection D). c.kept) k.1,
        ap (λ (c : Connection D). c.stopped) k.1,
        ap (λ (c : Connection D). c.opened) k.1,
        ap (λ (c : Connection D). c.flags) k.1,
      )
      by false k = (
        ap (λ (c : Connection D). c.stream) k.1,
        ap (λ (c : Connection D). c.kept) k.1,
        ap (λ (c : Connection D). c.stopped) k.1,
        ap (λ (c : Connection D). c.opened) k.1,
        ap (λ (c : Connection D). c.flags) k.1,
      )

  -- nor does it read
  written-apart : GivesNone (unread (now_of old)) (unread (now_of new))
  written-apart = by old.is_broken h
    where
      by : (b : Bool) → HasWrittenAs b unread written old boxes result new boxes' → GivesNone (unread (now_of old)) (unread (now_of new))
      by true k = subst (λ (c : Connection D). GivesNone (unread (now_of old)) (unread (now_of c))) (sym k.1) (gives-none-still (unread (now_of old)))
      by false k = k.0.apart

  -- the reading stands as it did
  pub reads-kept : (offer : Offer) (opened : D) (heard : List Heard) → Reads offer unread opened old heard → Reads offer unread opened new heard
  reads-kept offer opened heard g =
      let s = written-same in
      let moved : IsReadFrom offer unread opened (now_of new) old.stream old.kept old.stopped heard = record {
        read = g.read;
        lost = g.lost;
        taken = gives-kept (unread opened) (unread (now_of old)) (unread (now_of new)) _ g.taken written-apart;
        stands = g.stands;
        count = g.count;
        none_lost = g.none_lost;
      } in
      subst (λ (x : Stream). IsReadFrom offer unread opened (now_of new) x new.kept new.stopped heard) (sym s.0)
      (subst (λ (x : List ℕ). IsReadFrom offer unread opened (now_of new) old.stream x new.stopped heard) (sym s.1)
      (subst (λ (x : Option Stopped). IsReadFrom offer unread opened (now_of new) old.stream old.kept x heard) (sym s.2) moved))
