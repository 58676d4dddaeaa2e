use Rattle.std.proofs.Common.{ap, sym, ◌∙◌}
use Rattle.nfs_values.specs.Handle.{form_bytes, named_in}
use Rattle.nfs_values.proofs.handle.FileHandle.named.Goals as goal

pub returns-in-Naming : goal.returns-in-Naming
returns-in-Naming c = c.named_by_numbers.ensures ∙ ap named_in (sym (ap form_bytes c.in-Naming.is) ∙ c.self.view_is)
