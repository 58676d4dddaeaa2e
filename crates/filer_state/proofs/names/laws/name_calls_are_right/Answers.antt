use Rattle.filer_state.specs.names.lemmas.Lookup.{lookup-right}
use Rattle.filer_state.specs.names.lemmas.Listing.{readdir-right, readdir-starves, commit-right}
use Rattle.filer_state.specs.names.lemmas.ListingPlus.{readdirplus-right, readdirplus-starves}
use Rattle.filer_state.specs.names.lemmas.Objects.{access-right, fsinfo-right, pathconf-right}
use Rattle.filer_state.specs.names.lemmas.Readlink.{readlink-right, readlink-starves}
use Rattle.filer_state.specs.names.lemmas.Mount.{mount-right}
use Rattle.filer_state.proofs.names.laws.name_calls_are_right.Goals as goal

pub returns-clause-lookup : goal.returns-clause-lookup
returns-clause-lookup c = λ v fileid handle name node moment set. lookup-right v fileid handle name node moment set

pub returns-clause-readlink : goal.returns-clause-readlink
returns-clause-readlink c = λ v fileid handle node set. readlink-right v fileid handle node set

pub returns-clause-starved_link : goal.returns-clause-starved_link
returns-clause-starved_link c = λ v fileid handle node set object text lists. readlink-starves v fileid handle node set object text lists

pub returns-clause-readdir : goal.returns-clause-readdir
returns-clause-readdir c = λ v fileid handle node cookie verifier count set. readdir-right v fileid handle node cookie verifier count set

pub returns-clause-commit : goal.returns-clause-commit
returns-clause-commit c = λ v fileid handle node set. commit-right v fileid handle node set

pub returns-clause-starved : goal.returns-clause-starved
returns-clause-starved c =
    λ v fileid handle node cookie verifier count set directory page eof lists.
    readdir-starves v fileid handle node cookie verifier count set directory page eof lists

pub returns-clause-readdirplus : goal.returns-clause-readdirplus
returns-clause-readdirplus c =
    λ v fileid handle node cookie verifier names_count count caller set.
    readdirplus-right v fileid handle node cookie verifier names_count count caller set

pub returns-clause-starved_plus : goal.returns-clause-starved_plus
returns-clause-starved_plus c =
    λ v fileid handle node cookie verifier names_count count caller set directory page eof lists.
    readdirplus-starves v fileid handle node cookie verifier names_count count caller set directory page eof lists

pub returns-clause-access : goal.returns-clause-access
returns-clause-access c = λ v fileid handle node asked caller set. access-right v fileid handle node asked caller set

pub returns-clause-fsinfo : goal.returns-clause-fsinfo
returns-clause-fsinfo c = λ v fileid handle node set. fsinfo-right v fileid handle node set

pub returns-clause-pathconf : goal.returns-clause-pathconf
returns-clause-pathconf c = λ v fileid handle node caller set. pathconf-right v fileid handle node caller set

pub returns-clause-mount : goal.returns-clause-mount
returns-clause-mount c = λ v fileid root path node caller set. mount-right v fileid root path node caller set
