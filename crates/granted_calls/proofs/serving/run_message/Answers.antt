use Rattle.std.proofs.Common.{sym, ap, ◌∙◌}
use Rattle.affinity.specs.declared.affinity.CallNode.{CallNode}
use Rattle.affinity.specs.Affinity.{call_node, kind_of}
use Rattle.granted_calls.proofs.serving.run_message.Goals as goal

pub run_message_on-requires-clause-kind : goal.run_message_on-requires-clause-kind
run_message_on-requires-clause-kind g c =
    (c.requires.placed.node, ap (λ (h : CallNode). kind_of (call_node h)) (sym c.affinity.ensures ∙ c.in-Stripe.is))

pub run_message_on-requires-in-Logical-clause-kind : goal.run_message_on-requires-in-Logical-clause-kind
run_message_on-requires-in-Logical-clause-kind g c =
    (c.requires.placed.node, ap (λ (h : CallNode). kind_of (call_node h)) (sym c.affinity.ensures ∙ c.in-Logical.is))

pub run_message_on-requires-in-Volume-clause-kind : goal.run_message_on-requires-in-Volume-clause-kind
run_message_on-requires-in-Volume-clause-kind g c =
    (c.requires.placed.node, ap (λ (h : CallNode). kind_of (call_node h)) (sym c.affinity.ensures ∙ c.in-Volume.is))

pub run_message_on-requires-in-Aggregate-clause-kind : goal.run_message_on-requires-in-Aggregate-clause-kind
run_message_on-requires-in-Aggregate-clause-kind g c =
    (c.requires.placed.node, ap (λ (h : CallNode). kind_of (call_node h)) (sym c.affinity.ensures ∙ c.in-Aggregate.is))

pub run_message_on-requires-in-Serial-clause-kind : goal.run_message_on-requires-in-Serial-clause-kind
run_message_on-requires-in-Serial-clause-kind g c =
    (c.requires.placed.node, ap (λ (h : CallNode). kind_of (call_node h)) (sym c.affinity.ensures ∙ c.in-Serial.is))
