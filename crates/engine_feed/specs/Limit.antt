-- The room that is made for a reply before it is known which.
use Rattle.std.specs.Prelude.{ℕ}

-- the most bytes of the reply record of a call, or of a record that is refused
abbrev pub reply_limit : ℕ
reply_limit = 65584
