-- The lines that are printed (our profile).
use Rattle.std.specs.Prelude.{ℕ, List, [], ◌∷◌, ◌++◌, Option, Some, None, codes}
use Rattle.std.specs.Fmt.{decimal}
use Rattle.affinity.specs.Affinity.{affinity_text, call_affinity}
use Rattle.engine.specs.declared.event.Done.{Done}
use Rattle.engine.specs.declared.event.Done.TheVariants.{Opened, Fed, Closed, Granted, Replied, Starved}
use Rattle.engine.specs.declared.event.Done.TheVariants.{Moved, Written, PutBack, InHand, PutDown, Surveyed}

-- each number behind a space
unfoldable pub spaced : List ℕ → List ℕ
spaced [] = []
spaced (n ∷ ns) = codes " " ++ decimal n ++ spaced ns

-- The line of what an event came to. Those of a feed, a close and a reply name a connection, and
-- what was written there.
abbrev pub line_of : Done → Option (List ℕ)
line_of (Opened connection) = Some (codes "conn " ++ decimal connection.0)
line_of (Fed taken stop) = None
line_of Closed = None
line_of (Granted affinity) = Some (codes "granted " ++ affinity_text (call_affinity affinity))
line_of Replied = Some (codes "reply")
line_of Starved = Some (codes "starved")
line_of (Moved affinity) = Some (codes "move " ++ affinity_text (call_affinity affinity))
line_of (Written connection count) = None
line_of PutBack = Some (codes "back")
line_of (InHand count) = Some (codes "hand " ++ decimal count)
line_of (PutDown count) = Some (codes "put " ++ decimal count)
line_of (Surveyed counts) = Some (codes "free" ++ spaced counts.items)
