-- An inner call made on the engine's desk: what it needs at each step, and what it comes to.
use Rattle.std.proofs.Common.{◌≡◌, ℕ, ◌<◌, ◌++◌, length, Some, Ok, Err, refl, sym, ◌∙◌, subst}
use Rattle.nfs_model.specs.Tree.{Affinity, range_blocks_of}
use Rattle.nfs_model.specs.Parts.{Hand, Empty}
use Rattle.affinity.specs.Tree.{IsNode}
use Rattle.filer_state.specs.state.Parcels.{FilerParcel}
use Rattle.filer_state.specs.state.Jobs as jobs
use Rattle.filer_state.specs.state.Jobs.{InnerCall, Inner, batches_in, inner_node, inner_volume}
use Rattle.filer_state.specs.state.Contents.{VolumeContents, volume_at, contents_of, filer_contents}
use Rattle.filer_state.specs.state.Running.{IsRefusedIn, IsRefusedOn}
use Rattle.filer_state.specs.laws.lemmas.Each.{each-get}
use Rattle.desk.specs.laws.Books.{Lent, settled, stamps}
use Rattle.desk.specs.laws.Calls as desks
use Rattle.desk.specs.laws.Calls.{HasBegun, MayWork, HasWorked, MayFinish, HasFinished, MayPutBack, HasPutBack, AreApart, MayEnd, HasEnded}
use Rattle.desk.specs.BeginRefusal.{IsRefused}
use Rattle.desk.specs.declared.refusal.BeginRefusal as declined
use Rattle.desk.specs.declared.refusal.BeginRefusal.TheVariants.{Taken, Worn}
use Rattle.engine.specs.laws.Store.{FilerBooks, filer, IsApart}
use Rattle.engine.specs.laws.lemmas.Making as laws
use Rattle.service.specs.Inner.{AsksForInner, InnerHasRun, InnerOutcome, IsHandFor, IsInner}
use Rattle.service.specs.Jobs.{job_of, job_reply_of}
use Rattle.service.specs.declared.inner.Undone.{Undone}
use Rattle.service.specs.declared.inner.Undone.TheVariants.{NoSuchRange, NoMemory}
use Rattle.service.specs.declared.job.Job.{Job}
use Rattle.service.specs.declared.job.JobReply.{JobReply}
use Rattle.engine.specs.declared.event.Refusal.TheVariants as refusals
use Rattle.engine.specs.Inner.{MayMake, IsMade, IsRefusedFor, refusal_by}

module _ {P A : Type 0} (entered : A → JobReply) (b : FilerBooks P Job JobReply) (i : ℕ) (call : InnerCall) (hand : Hand) (may : MayMake b i call hand)
    (c : FilerBooks P Job JobReply) (begins : HasBegun b i (inner_node call) c) (apart : IsApart c) where
  abbrev told : A → jobs.JobReply
  told reply = job_reply_of (entered reply)

  -- it may run on what was lent
  may_run : MayWork (AsksForInner call hand) c i
  may_run = record {
    lent = record { affinity = inner_node call; parcels = begins.parcels };
    is_lent = laws.lent job_of job_reply_of b may.lawful call may.node i may.idle c begins apart;
    fits = (
      refl,
      subst (λ (x : FilerBooks P Job JobReply). IsHandFor (range_blocks_of x.layout (inner_volume call)) call hand) (sym begins.books) may.fits,
      laws.some-filer job_of job_reply_of b may.lawful call may.node i may.idle c begins apart hand may.others may.hands may.sound may.few may.sized,
    );
  }

  module _ (d : FilerBooks P Job JobReply) (o : InnerOutcome A) (works : HasWorked (InnerHasRun told call hand) c i o d) where
    abbrev Ran : InnerOutcome A → Type 0
    Ran x = InnerHasRun told call hand c.layout works.lent.affinity works.lent.parcels x works.parcels

    -- ---- it is done

    module _ (reply : A) (is : o ≡ Ok reply) (entry : Job) (is_entry : job_of entry ≡ Inner call) where
      did : Ran (Ok reply)
      did = subst Ran is works.did

      may_finish : MayFinish (filer job_of job_reply_of) d i entry (entered reply)
      may_finish = laws.may-finish job_of job_reply_of b may.lawful call may.node i may.idle c begins apart (InnerHasRun told call hand) o d works entry
          (entered reply) is_entry did.0 hand did.1 may.others may.hands

      is_made : (e : FilerBooks P Job JobReply) → HasFinished (filer job_of job_reply_of) d i entry (entered reply) e → IsMade b call hand (entered reply) e
      is_made e done = laws.made job_of job_reply_of b may.lawful call may.node i may.idle c begins apart (InnerHasRun told call hand) o d works entry
          (entered reply) is_entry did.0 hand did.1 e done

    -- ---- it did nothing

    put_back : (e : FilerBooks P Job JobReply) → HasPutBack d i e → e ≡ b
    put_back e back = laws.put-back job_of job_reply_of b may.lawful call may.node i may.idle c begins apart (InnerHasRun told call hand) o d works e back

    module _ (is : o ≡ Err NoSuchRange) where
      refused : Ran (Err NoSuchRange)
      refused = subst Ran is works.did

      may_go_back_refused : MayPutBack d i
      may_go_back_refused = laws.may-put-back job_of job_reply_of b may.lawful call may.node i may.idle c begins apart (InnerHasRun told call hand) o d works
          refused.1

      is_refused : IsRefusedFor b call refusals.NoSuchRange
      is_refused = (
        laws.is-free job_of job_reply_of b may.lawful call may.node i may.idle c begins apart,
        λ g hands made under sound p there.
            subst (λ (x : FilerBooks P Job JobReply). IsRefusedIn x.layout (inner_node call) call begins.parcels) begins.books
            (subst (λ (x : Lent (FilerParcel P)). IsRefusedIn c.layout x.affinity call x.parcels)
            (laws.ran-on job_of job_reply_of b may.lawful call may.node i may.idle c begins apart (InnerHasRun told call hand) o d works) refused.0)
            g hands made
            (λ k cover. under k cover ∙ sym (laws.granted job_of job_reply_of b may.lawful call may.node i may.idle c begins apart k cover)) sound p there,
      )

      -- then it would fetch, and its hand is empty
      empty_hand : hand ≡ Empty
      empty_hand = by call may.node may.fits (is_refused.1 (settled b) (batches_in hand ++ may.others) (stamps b) (λ k cover. refl)
          (laws.settled-sound b may.lawful job_of job_reply_of (batches_in hand ++ may.others) may.hands may.sound))
        where
          at : (v : ℕ) → v < length b.layout.volumes → volume_at (filer_contents b.layout (settled b)) v ≡ Some (contents_of b.layout (settled b) v)
          at v less = each-get (contents_of b.layout (settled b)) (length b.layout.volumes) v less

          by : (x : InnerCall) → IsNode b.layout (inner_node x) → IsHandFor (range_blocks_of b.layout (inner_volume x)) x hand
              → ((p : VolumeContents) → volume_at (filer_contents b.layout (settled b)) (inner_volume x) ≡ Some p → IsRefusedOn x p) → hand ≡ Empty
          by (jobs.Fetch v r) node fits why = fits
          by (jobs.Deliver v) node fits why = absurd (why (contents_of b.layout (settled b) v) (at v node))
          by (jobs.Cull v) node fits why = absurd (why (contents_of b.layout (settled b) v) (at v node))
          by (jobs.Free v r) node fits why = absurd (why (contents_of b.layout (settled b) v) (at v node.0))
          by (jobs.Survey v) node fits why = absurd (why (contents_of b.layout (settled b) v) (at v node))

    module _ (back : Hand) (is : o ≡ Err (NoMemory back)) where
      starved : Ran (Err (NoMemory back))
      starved = subst Ran is works.did

      may_go_back_starved : MayPutBack d i
      may_go_back_starved = laws.may-put-back job_of job_reply_of b may.lawful call may.node i may.idle c begins apart (InnerHasRun told call hand) o d works
          starved.2

      is_starved : IsRefusedFor b call refusals.NoMemory
      is_starved = (laws.is-free job_of job_reply_of b may.lawful call may.node i may.idle c begins apart, starved.0)

      hand_back : back ≡ hand
      hand_back = starved.1

-- ---- at once

module _ {P A : Type 0} (entered : A → JobReply) (asks : desks.Asks (FilerParcel P)) (does : desks.DoesTask (FilerParcel P) (InnerOutcome A))
    (b : FilerBooks P Job JobReply) (i : ℕ) (call : InnerCall) (hand : Hand) (inner : IsInner (λ reply. job_reply_of (entered reply)) asks does call hand)
    (may : MayMake b i call hand) (entry : Job) (is_entry : job_of entry ≡ Inner call) where
  abbrev does_so : desks.DoesTask (FilerParcel P) (InnerOutcome A)
  does_so = InnerHasRun (λ reply. job_reply_of (entered reply)) call hand

  apart-so : (c : FilerBooks P Job JobReply) → AreApart c → IsApart c
  apart-so c apart = record { node = apart.node; apart = apart.apart }

  -- what the work did is what the call does
  worked-so : (c : FilerBooks P Job JobReply) (o : InnerOutcome A) (d : FilerBooks P Job JobReply) → HasWorked does c i o d → HasWorked does_so c i o d
  worked-so c o d works = record {
    lent = works.lent;
    is_lent = works.is_lent;
    parcels = works.parcels;
    did = inner.leaves c.layout works.lent.affinity works.lent.parcels o works.parcels works.did;
    books = works.books;
    now_is = works.now_is;
  }

  -- the desk may make it
  pub may_at_once : desks.MayMake (filer job_of job_reply_of) entered asks does b i (inner_node call) entry
  may_at_once c begins apart = (
    record { lent = runs.lent; is_lent = runs.is_lent; fits = inner.finds c.layout runs.lent.affinity runs.lent.parcels runs.fits },
    (λ o d works. ends o d (worked-so c o d works)),
  )
    where
      runs : MayWork (AsksForInner call hand) c i
      runs = may_run entered b i call hand may c begins (apart-so c apart)

      ends : (o : InnerOutcome A) (d : FilerBooks P Job JobReply) → HasWorked does_so c i o d → MayEnd (filer job_of job_reply_of) entered d i entry o
      ends (Ok reply) d works = may_finish entered b i call hand may c begins (apart-so c apart) d (Ok reply) works reply refl entry is_entry
      ends (Err NoSuchRange) d works = may_go_back_refused entered b i call hand may c begins (apart-so c apart) d (Err NoSuchRange) works refl
      ends (Err (NoMemory back)) d works = may_go_back_starved entered b i call hand may c begins (apart-so c apart) d (Err (NoMemory back)) works back refl

  -- and it made it so
  module _ (o : InnerOutcome A) (e : FilerBooks P Job JobReply) (node : Affinity) (at : node ≡ inner_node call)
      (made : desks.HasMade (filer job_of job_reply_of) entered does b i node entry o e) where
    h : desks.HasMade (filer job_of job_reply_of) entered does b i (inner_node call) entry o e
    h = subst (λ (a : Affinity). desks.HasMade (filer job_of job_reply_of) entered does b i a entry o e) at made

    works : HasWorked does_so h.begun i o h.worked
    works = worked-so h.begun o h.worked h.works

    ended : (x : InnerOutcome A) → o ≡ x → HasEnded (filer job_of job_reply_of) entered h.worked i entry x e
    ended x is = subst (λ (y : InnerOutcome A). HasEnded (filer job_of job_reply_of) entered h.worked i entry y e) is h.ends

    pub made_at_once : (reply : A) → o ≡ Ok reply → IsMade b call hand (entered reply) e
    made_at_once reply is = is_made entered b i call hand may h.begun h.begins (apart-so h.begun h.apart) h.worked o works reply is entry is_entry e
        (ended (Ok reply) is)

    pub same_at_once : (undone : Undone) → o ≡ Err undone → e ≡ b
    same_at_once undone is = put_back entered b i call hand may h.begun h.begins (apart-so h.begun h.apart) h.worked o works e (ended (Err undone) is)

    module _ (is : o ≡ Err NoSuchRange) where
      pub refused_at_once : IsRefusedFor b call refusals.NoSuchRange
      refused_at_once = is_refused entered b i call hand may h.begun h.begins (apart-so h.begun h.apart) h.worked o works is

      pub empty_at_once : hand ≡ Empty
      empty_at_once = empty_hand entered b i call hand may h.begun h.begins (apart-so h.begun h.apart) h.worked o works is

    module _ (back : Hand) (is : o ≡ Err (NoMemory back)) where
      pub starved_at_once : IsRefusedFor b call refusals.NoMemory
      starved_at_once = is_starved entered b i call hand may h.begun h.begins (apart-so h.begun h.apart) h.worked o works back is

      pub hand_at_once : back ≡ hand
      hand_at_once = hand_back entered b i call hand may h.begun h.begins (apart-so h.begun h.apart) h.worked o works back is

-- why it doesn't begin
pub refused_so : {P : Type 0} (b : FilerBooks P Job JobReply) (call : InnerCall) (refusal : declined.BeginRefusal) → IsRefused b (inner_node call) refusal
    → IsRefusedFor b call (refusal_by refusal)
refused_so b call Taken why = why
refused_so b call Worn why = why
