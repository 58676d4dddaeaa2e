use Rattle.engine.specs.laws.lemmas.Working.{works}
use Rattle.engine.proofs.laws.laws.work_is_the_models.Goals as goal

pub returns : goal.returns
returns g c = λ job told setup w b s i k there r runs fresh o d done. works job told setup w b s i k there r runs fresh o d done
