use Rattle.filer_state.specs.changes.lemmas.Makes.{create-is-done, mkdir-is-done, create-starves, mkdir-starves}
use Rattle.filer_state.specs.changes.lemmas.Makes.{symlink-is-done, mknod-is-done, symlink-starves, mknod-starves}
use Rattle.filer_state.proofs.changes.laws.making_calls_are_right.Goals as goal

pub returns-clause-create : goal.returns-clause-create
returns-clause-create c = λ v fileid handle name node mode caller moment s.
    create-is-done handle node fileid name mode caller moment v s

pub returns-clause-mkdir : goal.returns-clause-mkdir
returns-clause-mkdir c = λ v fileid handle name node set caller moment s.
    mkdir-is-done handle node fileid name set caller moment v s

pub returns-clause-create_starves : goal.returns-clause-create_starves
returns-clause-create_starves c = λ v fileid handle name node mode caller moment s made object directory is absent.
    create-starves v fileid handle name node mode caller moment s made object directory is absent

pub returns-clause-mkdir_starves : goal.returns-clause-mkdir_starves
returns-clause-mkdir_starves c = λ v fileid handle name node set caller moment s made object directory is.
    mkdir-starves v fileid handle name node set caller moment s made object directory is

pub returns-clause-symlink : goal.returns-clause-symlink
returns-clause-symlink c = λ v fileid handle name node set text caller moment s.
    symlink-is-done handle node fileid name set text caller moment v s

pub returns-clause-symlink_starves : goal.returns-clause-symlink_starves
returns-clause-symlink_starves c = λ v fileid handle name node set text caller moment s made object directory is.
    symlink-starves v fileid handle name node set text caller moment s made object directory is

pub returns-clause-mknod : goal.returns-clause-mknod
returns-clause-mknod c = λ v fileid handle name node kind set caller moment s.
    mknod-is-done handle node fileid name kind set caller moment v s

pub returns-clause-mknod_starves : goal.returns-clause-mknod_starves
returns-clause-mknod_starves c = λ v fileid handle name node kind set caller moment s made object directory is.
    mknod-starves v fileid handle name node kind set caller moment s made object directory is
