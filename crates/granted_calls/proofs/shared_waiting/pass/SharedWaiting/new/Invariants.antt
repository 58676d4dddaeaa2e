use Rattle.std.proofs.Common.{Some}
use Rattle.granted_calls.proofs.shared_waiting.pass.SharedWaiting.new.Given as goal

abbrev pub ghosts-name_as : goal.ghosts-name_as
ghosts-name_as g a = record { name = Some a.key.now }
