use Rattle.filer_state.specs.laws.lemmas.Limits.{used-fits, few-directories}
use Rattle.filer_state.proofs.laws.laws.counts_fit.Goals as goal

pub returns-clause-used : goal.returns-clause-used
returns-clause-used c = λ p hands made sound. used-fits p hands sound.well_formed sound.partition

pub returns-clause-subdirectories : goal.returns-clause-subdirectories
returns-clause-subdirectories c = λ p hands made sound fileid d there.
    few-directories p.logical.inodes.inodes p.logical.directories sound.well_formed.logical.named fileid d there
