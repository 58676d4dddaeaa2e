use Rattle.std.proofs.Common.{sym, ap, ◌∙◌}
use Rattle.service.specs.Hands.{hand_of}
use Rattle.turns.proofs.tending.is_empty.Goals as goal

pub returns-in-Empty-clause-empty : goal.returns-in-Empty-clause-empty
returns-in-Empty-clause-empty c = λ e. sym c.hand.ensures ∙ ap hand_of c.in-Empty.is

pub returns-in-Fresh-clause-empty : goal.returns-in-Fresh-clause-empty
returns-in-Fresh-clause-empty c = λ e. absurd (let no : ⊥ = cc in no)

pub returns-in-Dead-clause-empty : goal.returns-in-Dead-clause-empty
returns-in-Dead-clause-empty c = λ e. absurd (let no : ⊥ = cc in no)
