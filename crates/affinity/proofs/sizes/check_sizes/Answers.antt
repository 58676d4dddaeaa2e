use Rattle.std.proofs.Common.{refl, sym, ◌∙◌, true, false}
use Rattle.affinity.proofs.Tested.{sizes_fault_by}
use Rattle.affinity.proofs.sizes.check_sizes.Goals as goal

pub returns-then-not-have_lawful_ranges-clause-err : goal.returns-then-not-have_lawful_ranges-clause-err
returns-then-not-have_lawful_ranges-clause-err c =
    let broken = sym c.have_lawful_ranges.ensures ∙ c.if-not-have_lawful_ranges.true in
    sym (sizes_fault_by c.args.volumes.now false _ _ broken refl refl)

pub returns-then-not-have_lawful_files-clause-err : goal.returns-then-not-have_lawful_files-clause-err
returns-then-not-have_lawful_files-clause-err c =
    let ranges = sym c.have_lawful_ranges.ensures ∙ c.if-not-have_lawful_ranges.false in
    let broken = sym c.have_lawful_files.ensures ∙ c.if-not-have_lawful_files.true in
    sym (sizes_fault_by c.args.volumes.now true false _ ranges broken refl)

pub returns-then-not-have_lawful_inodes-clause-err : goal.returns-then-not-have_lawful_inodes-clause-err
returns-then-not-have_lawful_inodes-clause-err c =
    let ranges = sym c.have_lawful_ranges.ensures ∙ c.if-not-have_lawful_ranges.false in
    let files = sym c.have_lawful_files.ensures ∙ c.if-not-have_lawful_files.false in
    let broken = sym c.have_lawful_inodes.ensures ∙ c.if-not-have_lawful_inodes.true in
    sym (sizes_fault_by c.args.volumes.now true true false ranges files broken)

pub returns-clause-ok : goal.returns-clause-ok
returns-clause-ok c =
    let ranges = sym c.have_lawful_ranges.ensures ∙ c.if-not-have_lawful_ranges.false in
    let files = sym c.have_lawful_files.ensures ∙ c.if-not-have_lawful_files.false in
    let inodes = sym c.have_lawful_inodes.ensures ∙ c.if-not-have_lawful_inodes.false in
    sizes_fault_by c.args.volumes.now true true true ranges files inodes
