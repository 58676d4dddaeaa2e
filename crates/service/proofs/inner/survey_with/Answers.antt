use Rattle.std.proofs.Common.{refl}
use Rattle.service.proofs.inner.survey_with.Goals as goal

pub returns-in-Ok : goal.returns-in-Ok
returns-in-Ok c = λ v. (c.in-Ok.ensures v, (λ u other n. refl), refl)

pub returns-in-Err : goal.returns-in-Err
returns-in-Err c = λ v. (tt, c.new.ensures)
