use Rattle.service_data.proofs.Spanned.{vacant-place}
use Rattle.service_data.proofs.spans.read_place.Goals as goal

pub returns-in-None-clause-bytes : goal.returns-in-None-clause-bytes
returns-in-None-clause-bytes c = λ some. absurd (vacant-place c.args.place.now c.in-None.is some)
