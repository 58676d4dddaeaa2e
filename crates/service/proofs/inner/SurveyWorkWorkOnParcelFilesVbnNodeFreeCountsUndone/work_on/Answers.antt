use Rattle.nfs_model.specs.Parts.{Empty}
use Rattle.affinity.specs.Affinity.{affinity_of}
use Rattle.affinity.specs.Layout.{layout_of}
use Rattle.service.proofs.Handed.{survey-runs}
use Rattle.service.proofs.inner.SurveyWorkWorkOnParcelFilesVbnNodeFreeCountsUndone.work_on.Goals as goal

pub returns-clause-does : goal.returns-clause-does
returns-clause-does c =
    let L = layout_of c.args.arg2.now in
    let a = affinity_of c.args.arg3 in
    let v = c.args.self.volume.0 in
    survey-runs L c.args.arg2.now.lawful v a c.requires.asks.0 c.requires.node Empty c.requires.asks.1 c.args.held.now c.survey_with.result
    (c.survey_with.ensures v)
