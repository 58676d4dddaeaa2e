-- A history owns nothing, so it may go to another thread.
use denote.RattleType.{RattleType}
use denote.Param.Send.{IsSend, owning_send, sendable}
use Rattle.histories.specs.contracts.history.History.{the_row, the_type}

pub send : (A : RattleType) → IsSend (the_row A)
send A = owning_send (the_type A) (search sendable, tt) (λ d. tt) (λ k x w. tt)
