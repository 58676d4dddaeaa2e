use Rattle.directories.proofs.sequences.part.Part.narrowed.Goals as goal

pub returns : goal.returns
returns g c = λ all h. c.narrowed-first.ensures.positions all (rw (← c.self.view_is) at h)
