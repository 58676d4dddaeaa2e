use Rattle.std.proofs.Common.{◌≡◌, List, [], ap, ◌∙◌}
use Rattle.std.specs.Prelude.{length}
use Rattle.nfs_model.specs.Tree.{Serial}
use Rattle.affinity.specs.Layout.{layout_of}
use Rattle.parcels.specs.Sets.{serial_parcels}
use Rattle.desk.specs.Words.{books}
use Rattle.engine_feed.specs.Seen.{layout_in}
use Rattle.engine.specs.declared.connection.Connection.{Connection}
use Rattle.engine.specs.Connections.{held_by}
use Rattle.engine.specs.Sound.{IsPlaced}
use Rattle.engine.proofs.Opened.{AreOpened, seen-opens, seen-stands, same-layout, none-run, no-stamps, none-wait, none-ready, few-workers, none-open}
use Rattle.engine.proofs.Opened.{none-there, none-keyed, none-kept, setup-opened}
use Rattle.engine.proofs.opening.open.Goals as goal

-- no connection
none-held : (c : goal.After-new-4) → held_by c.new-3.result.items c.new-4.result ≡ []
none-held c = ap (λ (cs : List Connection). held_by cs c.new-4.result) c.new-3.ensures.items

are-opened : (c : goal.After-new-4)
    → AreOpened c.args.verifier (books c.in_ok-desk.desk) c.in_ok-calls.calls c.in_ok-idle.idle.items (held_by c.new-3.result.items c.new-4.result)
are-opened c = record {
  layout = layout_of c.args.layout;
  count = c.args.workers;
  few = c.requires.most;
  parcels = serial_parcels (layout_of c.args.layout) Serial c.in_ok-parcels.parcels;
  lawful = c.args.layout.lawful;
  opening = c.in_ok-parcels.ensures.opening;
  books = c.in_ok-desk.ensures.opened;
  given = layout_of c.in_ok-copy.copy;
  new = c.in_ok-calls.ensures;
  same = c.in_ok-copy.ensures;
  workers = c.in_ok-idle.ensures;
  none = none-held c;
}

pub returns-clause-setup : goal.returns-clause-setup
unfolding are-opened
returns-clause-setup c =
    setup-opened c.args.verifier (books c.in_ok-desk.desk) c.in_ok-calls.calls c.in_ok-idle.idle.items
    (held_by c.new-3.result.items c.new-4.result) (are-opened c) c.args.offer

pub returns-clause-opening : goal.returns-clause-opening
returns-clause-opening c =
    let laws = c.begins_sound.ensures in
    seen-opens laws.sound laws.server laws.free c.args.verifier (books c.in_ok-desk.desk) c.in_ok-calls.calls c.in_ok-idle.idle.items
    (held_by c.new-3.result.items c.new-4.result) (are-opened c) c.args.offer

pub returns-clause-sound : goal.returns-clause-sound
returns-clause-sound c =
    let laws = c.begins_sound.ensures in
    let b = books c.in_ok-desk.desk in
    let calls = c.in_ok-calls.calls in
    let ks = c.in_ok-idle.idle.items in
    let connections = held_by c.new-3.result.items c.new-4.result in
    let h = are-opened c in record {
      layout = same-layout c.args.verifier b calls ks connections h;
      kept = c.in_ok-desk.ensures.kept;
      stands = seen-stands laws.sound laws.server laws.free c.args.verifier b calls ks connections h c.args.offer;
      running = none-run c.args.verifier b calls ks connections h;
      waiting = none-wait c.args.verifier b calls ks connections h (IsPlaced (layout_in calls) (length connections));
      workers = none-ready c.args.verifier b calls ks connections h;
      few = few-workers c.args.verifier b calls ks connections h;
      stamps = no-stamps c.args.verifier b calls ks connections h;
      keyed = none-keyed c.new-3.result.items c.new-4.result c.new-3.ensures.items;
      opened = none-kept c.new-4.result c.new-4.ensures.empty ∙ none-open c.args.verifier b calls ks connections h;
      owed = λ n x at. none-there connections (none-held c) n _ at;
    }
