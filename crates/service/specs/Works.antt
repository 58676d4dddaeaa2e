-- What workers' calls with their hands are, and what they carry.
use Rattle.nfs_model.specs.Parts.{Hand, Empty, Fresh, Dead}
use Rattle.filer_state.specs.state.Jobs as jobs
use Rattle.filer_state.specs.state.Jobs.{InnerCall}
use Rattle.service.specs.declared.works.RangeWork.{RangeWork}
use Rattle.service.specs.declared.works.RangeWork.TheVariants.{Fetch, Free}
use Rattle.service.specs.declared.works.LogicalWork.{LogicalWork}
use Rattle.service.specs.declared.works.LogicalWork.TheVariants.{Deliver, Cull}
use Rattle.service.specs.declared.works.BatchWork.{BatchWork}
use Rattle.service.specs.declared.works.BatchWork.TheVariants.{Range, Logical}
use Rattle.service.specs.declared.works.SurveyWork.{SurveyWork}

-- ---- under a range

abbrev pub range_call_of : RangeWork → InnerCall
range_call_of (Fetch volume range) = jobs.Fetch volume.0 range
range_call_of (Free volume range batch) = jobs.Free volume.0 range

abbrev pub range_hand_of : RangeWork → Hand
range_hand_of (Fetch volume range) = Empty
range_hand_of (Free volume range batch) = Dead volume.0 batch

-- ---- under Logical

abbrev pub logical_call_of : LogicalWork → InnerCall
logical_call_of (Deliver volume batch) = jobs.Deliver volume.0
logical_call_of (Cull volume) = jobs.Cull volume.0

abbrev pub logical_hand_of : LogicalWork → Hand
logical_hand_of (Deliver volume batch) = Fresh volume.0 batch
logical_hand_of (Cull volume) = Empty

-- ---- at either

abbrev pub batch_call_of : BatchWork → InnerCall
batch_call_of (Range work) = range_call_of work
batch_call_of (Logical work) = logical_call_of work

abbrev pub batch_hand_of : BatchWork → Hand
batch_hand_of (Range work) = range_hand_of work
batch_hand_of (Logical work) = logical_hand_of work

-- ---- under the block numbers

abbrev pub survey_call_of : SurveyWork → InnerCall
survey_call_of work = jobs.Survey work.volume.0
