use Rattle.filer_state.specs.changes.lemmas.Linking.{link-is-done, link-starves}
use Rattle.filer_state.proofs.changes.laws.linking_calls_are_right.Goals as goal

pub returns-clause-link : goal.returns-clause-link
returns-clause-link c = λ v fileid directory_id handle directory name node moment s.
    link-is-done handle directory node fileid directory_id name moment v s

pub returns-clause-link_starves : goal.returns-clause-link_starves
returns-clause-link_starves c = λ v fileid directory_id handle directory name node moment s object change is.
    link-starves v fileid directory_id handle directory name node moment s object change is
