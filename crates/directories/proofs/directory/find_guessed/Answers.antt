use Rattle.std.proofs.Common.{◌-◌, length, arith}
use Rattle.directories.proofs.Halved.{digit-less, few-digits}
use Rattle.directories.proofs.directory.find_guessed.Goals as goal

pub guessed-requires : goal.guessed-requires
guessed-requires c = c.requires.indexed.directory.names

pub find_fileid-requires-clause-around : goal.find_fileid-requires-clause-around
find_fileid-requires-clause-around c = c.whole.ensures.around c.args.hash

pub returns-in-Some-guessed-clause-compared : goal.returns-in-Some-guessed-clause-compared
returns-in-Some-guessed-clause-compared c =
    let one = digit-less 0 (length c.args.by_name.now) c.in-Some.ensures.half.some (omega arith) in omega (arith, one)

pub overflow_add-result : goal.overflow_add-result
overflow_add-result c =
    let half = c.in-Some.ensures.half in
    let less = digit-less (c.in-Some.half.high - c.in-Some.half.low) (length c.args.by_name.now) half.some half.half in
    let few = few-digits (length c.args.by_name.now) in
    omega (arith, less, few, c.find_fileid-fileid.ensures.compared, c.in-Some.ensures.room)

pub returns-clause-compared : goal.returns-clause-compared
returns-clause-compared c =
    let half = c.in-Some.ensures.half in
    let less = digit-less (c.in-Some.half.high - c.in-Some.half.low) (length c.args.by_name.now) half.some half.half in
    omega (arith, less, c.find_fileid-fileid.ensures.compared)
