-- A message under a grant that stays open, and the one after it.
use Rattle.std.proofs.Common.{◌≡◌, ℕ, ◌≤◌, Bool, true, false, List, [], ◌∷◌, ◌++◌, length, set, Option, Some, None}
use Rattle.std.proofs.Common.{inr, refl, sym, ap, ◌∙◌, subst, append_assoc}
use Rattle.nfs_model.specs.Tree.{Layout}
use Rattle.nfs_values.specs.Reply.{reply_of}
use Rattle.nfs_values.specs.declared.moment.Moment.{Moment}
use Rattle.nfs_values.specs.declared.reply.Reply.{Reply}
use Rattle.affinity.specs.declared.affinity.CallNode.{CallNode}
use Rattle.affinity.specs.Affinity.{call_node}
use Rattle.affinity.specs.Fault.{fault_of}
use Rattle.affinity.specs.Numbers.{number_of, parents}
use Rattle.parcels.specs.Exact.{kind_in}
use Rattle.depot_rule.specs.declared.view.Read.{Read}
use Rattle.depot_rule.specs.Plays.{with_entry}
use Rattle.depot.specs.Grants.{entry_of, IsFinished}
use Rattle.desk.specs.laws.Backing.{CanFinish, IsGranted}
use Rattle.outboxes.specs.Boxes.{Addressed, addressed}
use Rattle.outboxes.specs.Messages as replies
use Rattle.outboxes.specs.Messages.{record_of}
use Rattle.service.specs.declared.job.Job.{Job}
use Rattle.service.specs.declared.job.JobReply.{JobReply}
use Rattle.service.specs.declared.job.JobReply.TheVariants.{Replied}
use Rattle.service.specs.declared.outcome.Outcome.{Outcome}
use Rattle.rpc_msg.specs.declared.handle_form.HandleForm.{HandleForm}
use Rattle.rpc_msg.specs.Handles.{reply_told}
use Rattle.granted_calls.specs.declared.entering.Entry.{Entry}
use Rattle.granted_calls.specs.Balance.{Passed, FilerView, FilerEntry}
use Rattle.granted_calls.specs.Messages.{IsPlaced, Message}
use Rattle.granted_calls.specs.Chains.{IsAhead, left_standing}
use Rattle.granted_calls.specs.Links.{job_in, IsEntered, IsToEnter, HasLinked, HasOnlyRead, HasRoom, HasRunSo, IsOver, Stands}
use Rattle.granted_calls.specs.declared.linking.Tried.{Tried}
use Rattle.granted_calls.specs.declared.linking.Tried.TheVariants as tries
use Rattle.granted_calls.specs.declared.linking.Link.TheVariants as links
use Rattle.granted_calls.specs.Runs.{FilerLent, HasRunFrom, HasRunOn, IsLentFor}
use Rattle.granted_calls.specs.Served.{filer_behaviour, job_of_message, HasFinished, Standing, HasDoneFrom}
use Rattle.granted_calls.specs.Filers.{IsReady}
use Rattle.granted_calls.proofs.Entered.{entry-answer, entry-can, entry-finished, entry-room}
use Rattle.granted_calls.proofs.Replayed.{RoomyBegins, RoomyStays, RepliesFit}
use Rattle.granted_calls.proofs.Finished.{may-finish, may-starve, entered, entered-ready, fits, starved-room}

-- ---- reads

-- a call was finished after reads, so it was finished, but for what its seat had looked at
pub unread : (w w' u : FilerView) (n : ℕ) (e : FilerEntry) → HasOnlyRead w w' → IsFinished filer_behaviour w' n e u
    → IsFinished filer_behaviour w n e (record u { looked = w.looked })
unread w w' u n e (looked, more, is) f =
    let w1 : FilerView = record w { looked = looked; reads = more ++ w.reads } in
    let d : IsFinished filer_behaviour w1 n e u = subst (λ (x : FilerView). IsFinished filer_behaviour x n e u) is f in (
      d.0,
      d.1 ++ more,
      d.2,
      ap (λ (x : FilerView). let z : FilerView = record x { looked = w.looked } in z) d.3
          ∙ ap (λ (rs : List Read). let z : FilerView = record w1 {
            looked = w.looked;
            seen = (with_entry w1 d.2 e).seen;
            mine = (with_entry w1 d.2 e).mine;
            stamped = 0;
            held = set w.held n None;
            gone = d.0;
            reads = rs;
          } in z) (sym (append_assoc d.1 more w.reads)),
      d.4,
    )

pub can-read : (layout : Layout) (w w' : FilerView) (l : FilerLent) (job : Job) (told : JobReply) → HasOnlyRead w w'
    → CanFinish kind_in filer_behaviour layout w l job told → CanFinish kind_in filer_behaviour layout w' l job told
can-read layout w w' l job told (looked, more, is) can =
    subst (λ (x : FilerView). CanFinish kind_in filer_behaviour layout x l job told) (sym is)
    (record { node = can.node; exact = can.exact; step = can.step; hand = can.hand })

module _ (layout : Layout) (lawful : fault_of layout ≡ None) (verifier : List ℕ) (b : Standing) (m : Message) (placed : IsPlaced layout m)
    (moment : Moment) (pass : Passed) (l : FilerLent) (w : FilerView) (stands : Stands layout verifier b m pass l w) where
  pub holding-tree : w.tree ≡ parents layout
  holding-tree = ap (λ (x : FilerView). x.tree) stands.granted.begun.3 ∙ stands.tree

  pub lent-for : IsLentFor layout m l
  lent-for = record { before = b.view; holding = w; tree = stands.tree; granted = stands.granted }

  pub ran-on : (outcome : Outcome) (l' : FilerLent) → HasRunFrom layout m moment l outcome l' → HasRunOn layout b.view m moment outcome l' w
  ran-on outcome l' ran = record { before = l; granted = stands.granted; done = ran.done; whole = ran.whole }

  module _ (e : Entry) (told : Reply) (l' : FilerLent) (enters : IsToEnter layout m moment l e told l') where
    run : HasRunOn layout b.view m enters.moment enters.outcome l' w
    run = record { before = l; granted = stands.granted; done = enters.ran.done; whole = enters.ran.whole }

    pub may-enter : CanFinish kind_in filer_behaviour layout w l' (job_in e) (Replied told)
    may-enter = entry-can m enters.moment enters.starved e enters.entry told layout w l' (by enters.starved enters.is)
      where
        by : (starved : Bool) → IsEntered enters.outcome told starved
            → CanFinish kind_in filer_behaviour layout w l' (job_of_message m enters.moment starved) (Replied told)
        by false is = may-finish layout lawful m placed enters.moment b.view w stands.tree holding-tree enters.outcome l' run told is
        by true is = may-starve layout lawful m placed enters.moment b.view w stands.tree holding-tree enters.outcome l' run told is.1 is.0

    pub has-room : length verifier ≡ 8 → RoomyBegins → RoomyStays → RepliesFit → HasRoom e told
    has-room eight begins stays fit = entry-room m enters.moment enters.starved e enters.entry told (by enters.starved enters.is)
      where
        by : (starved : Bool) → IsEntered enters.outcome told starved
            → (form : HandleForm) → length (record_of (replies.message m.origin.xid (reply_told form (reply_of told)))) ≤ m.room
        by false is = fits layout lawful m placed enters.moment b.view w stands.tree holding-tree enters.outcome l' run verifier eight stands.ready.opened
            begins stays fit told is
        by true is = starved-room layout lawful m placed enters.moment b.view w stands.tree holding-tree enters.outcome l' run verifier eight stands.ready.opened
            begins stays fit told is.1

    -- ---- it was entered

    module _ (u : FilerView)
        (finished : IsFinished filer_behaviour w (number_of layout l'.affinity) (entry_of layout l'.affinity l'.parcels (job_in e) (Replied told)) u) where
      ends : IsFinished filer_behaviour w (number_of layout l'.affinity)
          (entry_of layout l'.affinity l'.parcels (job_of_message m enters.moment enters.starved) (Replied told)) u
      ends = entry-finished m enters.moment enters.starved e enters.entry told layout w l' u finished

      pub is-ready : IsReady layout verifier u
      is-ready =
          entered-ready layout lawful m placed enters.moment b.view w stands.tree holding-tree enters.outcome l' run u told enters.starved ends verifier
          stands.ready

      module _ (a : Addressed) (is : a ≡ addressed e.origin.connection.0 (replies.message e.origin.xid (reply_of told))) where
        is-finished : HasFinished b.view m moment a u
        is-finished =
            entered layout lawful m placed enters.moment b.view w stands.tree holding-tree enters.outcome l' run u told enters.starved ends moment enters.at a
            (entry-answer m enters.moment enters.starved e enters.entry told a is)

        pub is-done : HasDoneFrom b moment a (left_standing u pass None)
        is-done = record { message = m; next = stands.picked.next; put = stands.picked.put; kept = refl; finished = is-finished }

      -- the next has the grant
      stands-on : (next : Message) (pass' : Passed) (w' : FilerView) → next.affinity ≡ m.affinity → IsAhead pass pass' (Some next)
          → IsGranted kind_in filer_behaviour layout u l'.affinity l' w'
          → Stands layout verifier (left_standing u pass None) next pass' l' w'
      stands-on next pass' w' same ahead granted = record {
        ready = is-ready;
        tree = ap (λ (x : FilerView). x.tree) finished.3 ∙ holding-tree;
        granted = subst (λ a. IsGranted kind_in filer_behaviour layout u a l' w')
            (enters.ran.done.affinity ∙ stands.granted.affinity ∙ ap call_node (sym same)) granted;
        picked = record { view = refl; next = inr (refl, ahead.0); put = ahead.1 };
      }

-- ---- what came of a run

pub entered-so : (layout : Layout) (m : Message) (moment : Moment) (l l' : FilerLent) (tried : Tried) (told : Reply) (e : Entry)
    (next : Option Message) → tried ≡ tries.Entered e next → HasRunSo layout m moment l tried told l' → IsToEnter layout m moment l e told l'
entered-so layout m moment l l' tried told e next is ran = (subst (λ (t : Tried). HasRunSo layout m moment l t told l') is ran).1

module _ (layout : Layout) (lawful : fault_of layout ≡ None) (verifier : List ℕ) (b : Standing) (m : Message) (placed : IsPlaced layout m)
    (moment : Moment) (pass : Passed) (l : FilerLent) (w : FilerView) (stands : Stands layout verifier b m pass l w) (said : Reply)
    (l' : FilerLent) where
  pub link-moved : (tried : Tried) (back : Message) (to : CallNode) → tried ≡ tries.Moved back to → HasRunSo layout m moment l tried said l'
      → IsOver layout verifier moment b (tries.Moved back to) said pass l' w
  link-moved tried back to is ran = record {
    message = m;
    placed = placed;
    pass = pass;
    before = l;
    holding = w;
    stands = stands;
    ran = subst (λ (t : Tried). HasRunSo layout m moment l t said l') is ran;
    stayed = refl;
    ahead = refl;
  }

  module _ (e : Entry) (enters : IsToEnter layout m moment l e said l') (pass' : Passed) (w' : FilerView) where
    pub link-over : (next : Option Message) → IsAhead pass pass' next → HasOnlyRead w w'
        → IsOver layout verifier moment b (tries.Entered e next) said pass' l' w'
    link-over next ahead read = record {
      message = m;
      placed = placed;
      pass = pass;
      before = l;
      holding = w;
      stands = stands;
      ran = enters;
      stayed = read;
      ahead = ahead;
    }

    pub link-on : {S : Type 0} (took : S → List Addressed → S → Type 0) (sink sink' : S) (next : Message) (after : Reply) → next.affinity ≡ m.affinity
        → IsAhead pass pass' (Some next) → (mid : FilerView)
        → IsFinished filer_behaviour w (number_of layout l'.affinity) (entry_of layout l'.affinity l'.parcels (job_in e) (Replied said)) mid
        → IsGranted kind_in filer_behaviour layout mid l'.affinity l' w'
        → took sink (addressed e.origin.connection.0 (replies.message e.origin.xid (reply_of said)) ∷ []) sink'
        → HasLinked took layout verifier b m moment pass l w sink (links.On next) after pass' l' w' sink'
    link-on took sink sink' next after same ahead mid finished granted told = (
      addressed e.origin.connection.0 (replies.message e.origin.xid (reply_of said)),
      left_standing mid pass None,
      is-done layout lawful verifier b m placed moment pass l w stands e said l' enters mid finished _ refl,
      told,
      stands-on layout lawful verifier b m placed moment pass l w stands e said l' enters mid finished next pass' w' same ahead granted,
    )

pub none-read : (w : FilerView) → HasOnlyRead w w
none-read w = (w.looked, [], refl)
