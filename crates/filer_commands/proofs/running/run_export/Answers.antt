use Rattle.std.proofs.Common.{◌≡◌, ◌∙◌, ap, subst}
use Rattle.rpc_msg.specs.Offer.{export}
use Rattle.rpc_msg.specs.declared.offer.Offer.{Offer}
use Rattle.server.specs.Served.{HasServed}
use Rattle.server.specs.contracts.socket.SocketDevice.TheImpl.{ghosts}
use Rattle.server_options.specs.declared.options.Options.{Options}
use Rattle.filer_commands.proofs.running.run_export.Goals as goal

-- the options that were served are those that were asked for, with the offer of the run, and its moment
pub returns-in-Ok-clause-ended : goal.returns-in-Ok-clause-ended
returns-in-Ok-clause-ended g c =
    let options = c.args.exporting.now.options in
    let run = c.run_now.result in
    let begun = c.begun_now.result in
    let offered : c.with_offer.result ≡ record options { offer = export run } =
    c.with_offer.ensures ∙ ap (λ (o : Offer). let z : Options = record options { offer = o } in z) c.export-offer.ensures in
    let same : c.with_begun.result ≡ record options { offer = export run; begun = begun } =
    c.with_begun.ensures ∙ ap (λ (o : Options). let z : Options = record o { begun = begun } in z) offered in
    let headline = subst (λ (o : Options). HasServed g.row.R.Denot ghosts o c.in-Ok._left) same c.in-Ok.ensures.headline in
    (run, begun, (c.in-Ok._left, headline, c.in-Ok.ensures.printed))
