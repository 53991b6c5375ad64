use Rattle.std.proofs.Common.{◌≡◌, ◌^◌, Some, arith}
use Rattle.std.specs.List.{zip}
use Rattle.data_meaning.specs.Stamping.{newest_in}
use Rattle.data_meaning.proofs.Newest.{newest_within}
use Rattle.data_meaning.proofs.timestamps.timestamp.Goals as goal

pub overflow_add-before : goal.overflow_add-before
overflow_add-before c =
    let is : c.newest-before.result ≡ newest_in (zip c.args.records.now c.args.timestamps.now) (Some c.args.«record».now.past) = c.newest-before.ensures in
    let within = newest_within (Some c.args.«record».now.past) (2 ^ 127) c.args.records.now c.args.timestamps.now c.requires in
    omega arith

pub returns-in-Operation-Assign-clause-range : goal.returns-in-Operation-Assign-clause-range
returns-in-Operation-Assign-clause-range c = λ limit low all.
    let is : c.newest-before.result ≡ newest_in (zip c.args.records.now c.args.timestamps.now) (Some c.args.«record».now.past) = c.newest-before.ensures in
    let within = newest_within (Some c.args.«record».now.past) limit c.args.records.now c.args.timestamps.now all in
    omega arith
