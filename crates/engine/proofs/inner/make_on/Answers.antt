use Rattle.std.proofs.Common.{◌≡◌, Err, refl, sym, ap, ◌∙◌, subst}
use Rattle.nfs_model.specs.Tree.{Affinity}
use Rattle.affinity.specs.Affinity.{affinity_of, kind_of}
use Rattle.affinity.specs.Tree.{IsNode}
use Rattle.desk.specs.laws.Calls as desks
use Rattle.desk.specs.BeginRefusal.{IsRefused}
use Rattle.desk.specs.Words.{books, machine_in}
use Rattle.service.specs.Jobs.{inner_of}
use Rattle.service.specs.declared.job.Job.TheVariants.{Inner}
use Rattle.engine.specs.Inner.{IsRefusedFor}
use Rattle.engine.specs.declared.event.Refusal.{Refusal}
use Rattle.engine.proofs.Made.{may_at_once, made_at_once, same_at_once, refused_at_once, empty_at_once, starved_at_once, hand_at_once, refused_so}
use Rattle.engine.proofs.inner.make_on.Goals as goal

-- ---- it may be made

pub make-made-requires-clause-node : goal.make-made-requires-clause-node
make-made-requires-clause-node g c =
    subst (λ (a : Affinity). IsNode (books c.args.desk.now).layout a × (kind_of a ≡ g.N.Node.KIND)) (sym c.node_of.ensures)
    (c.requires.may.node, c.requires.kind)

pub make-made-requires-clause-idle : goal.make-made-requires-clause-idle
make-made-requires-clause-idle g c = c.requires.may.idle

pub make-made-requires-clause-may : goal.make-made-requires-clause-may
make-made-requires-clause-may g c =
    subst (λ (a : Affinity). desks.MayMake (machine_in c.args.desk.now) g.A.Entered.entered (g.W.WorkOn.asks c.args.work) (g.W.WorkOn.does c.args.work)
    (books c.args.desk.now) c.args.worker a (Inner c.args.call)) (sym c.node_of.ensures)
    (may_at_once g.A.Entered.entered (g.W.WorkOn.asks c.args.work) (g.W.WorkOn.does c.args.work) (books c.args.desk.now) c.args.worker
    (inner_of c.args.call) (g.W.HandWork.carried c.args.work) c.requires.runs c.requires.may (Inner c.args.call) refl)

-- ---- it doesn't begin

pub returns-in-Err-clause-refused : goal.returns-in-Err-clause-refused
returns-in-Err-clause-refused g c =
    subst (λ (r : Refusal). IsRefusedFor (books c.args.desk.now) (inner_of c.args.call) r) (sym c.refusal_of.ensures)
    (refused_so (books c.args.desk.now) (inner_of c.args.call) c.in-Err.refusal
    (subst (λ (a : Affinity). IsRefused (books c.args.desk.now) a c.in-Err.refusal) c.node_of.ensures c.in-Err.ensures.refused))

pub returns-in-Err-clause-hand : goal.returns-in-Err-clause-hand
returns-in-Err-clause-hand g c = c.into_hand.ensures ∙ ap (λ x. g.W.HandWork.carried x) c.in-Err.ensures.work

-- ---- it was made

pub returns-in-Ok-outcome-clause-made : goal.returns-in-Ok-outcome-clause-made
returns-in-Ok-outcome-clause-made g c =
    made_at_once g.A.Entered.entered (g.W.WorkOn.asks c.args.work) (g.W.WorkOn.does c.args.work) (books c.args.desk.now) c.args.worker
    (inner_of c.args.call) (g.W.HandWork.carried c.args.work) c.requires.runs c.requires.may (Inner c.args.call) refl c.in-Ok.outcome
    (books c.make-made.new.self) (affinity_of c.node_of.result) c.node_of.ensures c.in-Ok.ensures.made c.in-Ok-outcome.reply c.in-Ok-outcome.is

pub returns-in-Err-NoSuchRange-clause-refused : goal.returns-in-Err-NoSuchRange-clause-refused
returns-in-Err-NoSuchRange-clause-refused g c =
    refused_at_once g.A.Entered.entered (g.W.WorkOn.asks c.args.work) (g.W.WorkOn.does c.args.work) (books c.args.desk.now) c.args.worker
    (inner_of c.args.call) (g.W.HandWork.carried c.args.work) c.requires.runs c.requires.may (Inner c.args.call) refl c.in-Ok.outcome
    (books c.make-made.new.self) (affinity_of c.node_of.result) c.node_of.ensures c.in-Ok.ensures.made
    (c.in-Err-NoSuchRange.is ∙ ap Err c.in-Err-NoSuchRange.field-0-is)

pub returns-in-Err-NoSuchRange-clause-hand : goal.returns-in-Err-NoSuchRange-clause-hand
returns-in-Err-NoSuchRange-clause-hand g c =
    c.new.ensures
    ∙ sym (empty_at_once g.A.Entered.entered (g.W.WorkOn.asks c.args.work) (g.W.WorkOn.does c.args.work) (books c.args.desk.now) c.args.worker
    (inner_of c.args.call) (g.W.HandWork.carried c.args.work) c.requires.runs c.requires.may (Inner c.args.call) refl c.in-Ok.outcome
    (books c.make-made.new.self) (affinity_of c.node_of.result) c.node_of.ensures c.in-Ok.ensures.made
    (c.in-Err-NoSuchRange.is ∙ ap Err c.in-Err-NoSuchRange.field-0-is))

pub returns-in-Err-NoSuchRange-clause-same : goal.returns-in-Err-NoSuchRange-clause-same
returns-in-Err-NoSuchRange-clause-same g c =
    same_at_once g.A.Entered.entered (g.W.WorkOn.asks c.args.work) (g.W.WorkOn.does c.args.work) (books c.args.desk.now) c.args.worker
    (inner_of c.args.call) (g.W.HandWork.carried c.args.work) c.requires.runs c.requires.may (Inner c.args.call) refl c.in-Ok.outcome
    (books c.make-made.new.self) (affinity_of c.node_of.result) c.node_of.ensures c.in-Ok.ensures.made _ c.in-Err-NoSuchRange.is

pub returns-in-Err-NoMemory-clause-refused : goal.returns-in-Err-NoMemory-clause-refused
returns-in-Err-NoMemory-clause-refused g c =
    starved_at_once g.A.Entered.entered (g.W.WorkOn.asks c.args.work) (g.W.WorkOn.does c.args.work) (books c.args.desk.now) c.args.worker
    (inner_of c.args.call) (g.W.HandWork.carried c.args.work) c.requires.runs c.requires.may (Inner c.args.call) refl c.in-Ok.outcome
    (books c.make-made.new.self) (affinity_of c.node_of.result) c.node_of.ensures c.in-Ok.ensures.made c.in-Err-NoMemory.hand
    (c.in-Err-NoMemory.is ∙ ap Err c.in-Err-NoMemory.field-0-is)

pub returns-in-Err-NoMemory-clause-hand : goal.returns-in-Err-NoMemory-clause-hand
returns-in-Err-NoMemory-clause-hand g c =
    hand_at_once g.A.Entered.entered (g.W.WorkOn.asks c.args.work) (g.W.WorkOn.does c.args.work) (books c.args.desk.now) c.args.worker
    (inner_of c.args.call) (g.W.HandWork.carried c.args.work) c.requires.runs c.requires.may (Inner c.args.call) refl c.in-Ok.outcome
    (books c.make-made.new.self) (affinity_of c.node_of.result) c.node_of.ensures c.in-Ok.ensures.made c.in-Err-NoMemory.hand
    (c.in-Err-NoMemory.is ∙ ap Err c.in-Err-NoMemory.field-0-is)

pub returns-in-Err-NoMemory-clause-same : goal.returns-in-Err-NoMemory-clause-same
returns-in-Err-NoMemory-clause-same g c =
    same_at_once g.A.Entered.entered (g.W.WorkOn.asks c.args.work) (g.W.WorkOn.does c.args.work) (books c.args.desk.now) c.args.worker
    (inner_of c.args.call) (g.W.HandWork.carried c.args.work) c.requires.runs c.requires.may (Inner c.args.call) refl c.in-Ok.outcome
    (books c.make-made.new.self) (affinity_of c.node_of.result) c.node_of.ensures c.in-Ok.ensures.made _ c.in-Err-NoMemory.is
