use Rattle.nfs_laws.proofs.Refusals.{free_is_served, free_searches, free_is_permitted, free_is_permitted_two, free_sets, free_sets_over, free_writes, free_clears, free_is_written, free_makes, free_lists, free_has}
use Rattle.nfs_laws.proofs.laws.unchecked_callers_are_free.Goals as goal

pub returns-clause-served : goal.returns-clause-served
returns-clause-served c = free_is_served

pub returns-clause-one : goal.returns-clause-one
returns-clause-one c = free_is_permitted

pub returns-clause-two : goal.returns-clause-two
returns-clause-two c = free_is_permitted_two

pub returns-clause-sets : goal.returns-clause-sets
returns-clause-sets c = free_sets

pub returns-clause-over : goal.returns-clause-over
returns-clause-over c = free_sets_over

pub returns-clause-writes : goal.returns-clause-writes
returns-clause-writes c = free_writes

pub returns-clause-makes : goal.returns-clause-makes
returns-clause-makes c = free_makes

pub returns-clause-lists : goal.returns-clause-lists
returns-clause-lists c = free_lists

pub returns-clause-rights : goal.returns-clause-rights
returns-clause-rights c = free_has

pub returns-clause-mounts : goal.returns-clause-mounts
returns-clause-mounts c = free_searches

pub returns-clause-clears : goal.returns-clause-clears
returns-clause-clears c = free_clears

pub returns-clause-written : goal.returns-clause-written
returns-clause-written c = free_is_written
