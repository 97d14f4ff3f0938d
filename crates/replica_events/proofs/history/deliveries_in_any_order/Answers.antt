use Rattle.replica_events.proofs.Deliveries.{lost_message, repeated_delivery, reordered_events}
use Rattle.replica_events.proofs.SentFirst.{delivered_again}
use Rattle.replica_events.proofs.history.deliveries_in_any_order.Goals as goal

pub returns-clause-lost : goal.returns-clause-lost
returns-clause-lost c before after sender k none i h = lost_message before after sender k none i h

pub returns-clause-repeated : goal.returns-clause-repeated
returns-clause-repeated c before between after i k none unsent j h = repeated_delivery before between after i k none unsent j h

pub returns-clause-again : goal.returns-clause-again
returns-clause-again c = delivered_again

pub returns-clause-reordered : goal.returns-clause-reordered
returns-clause-reordered c before after x y one two i h = reordered_events before after x y one two i h
