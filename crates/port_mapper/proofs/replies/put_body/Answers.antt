use Rattle.std.proofs.Common.{◌++◌, ap, ◌∙◌, sym}
use Rattle.std.proofs.lemmas.Result.{on_ok_weaker}
use Rattle.port_mapper.specs.Replies.{body_bytes}
use Rattle.port_mapper.proofs.Appends.{joined_two}
use Rattle.port_mapper.proofs.replies.put_body.Goals as goal

pub returns-in_ok-put_accepted-in-Done : goal.returns-in_ok-put_accepted-in-Done
returns-in_ok-put_accepted-in-Done c =
    on_ok_weaker c.put_results.result
    (λ results. joined_two c.args.out.now.items c.put_accepted.new.out.items c.put_results.new.out.items _ _ c.in_ok-put_accepted-in-Done.ensures results
    ∙ ap (λ o. c.args.out.now.items ++ body_bytes c.args.registered.now c.args.reached.now o) (sym c.in-Done.is))
    c.put_results.ensures
