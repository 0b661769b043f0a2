use Rattle.std.proofs.Common.{sym, ◌∙◌}
use Rattle.hfs_extents.proofs.FoundLaws.{fault_answers, fault_refuses, fault_tells, found_tells, ends_inside, few_bytes, found_is, found_placed, found_covered, sound_lies}
use Rattle.hfs_extents.proofs.fork.pieces_and_slack.Goals as goal

pub returns-in-Some-clause-found : goal.returns-in-Some-clause-found
returns-in-Some-clause-found c = fault_answers c.args.header.now c.args.records.now c.args.fork.now c.args.place c.in-Some.refusal c.from.result c.in-Some.ensures.value c.from.ensures

pub returns-in-Some-clause-refusals : goal.returns-in-Some-clause-refusals
returns-in-Some-clause-refusals c = fault_refuses c.args.header.now c.args.records.now c.args.fork.now c.args.place c.in-Some.refusal c.from.result c.in-Some.ensures.value c.from.ensures

pub pieces_of-requires-clause-inside : goal.pieces_of-requires-clause-inside
pieces_of-requires-clause-inside c =
    ends_inside c.args.header.now c.args.records.now c.args.fork.now c.args.place c.as_slice-extents.result.now c.in_default.ensures.value (c.as_slice-extents.ensures.value ∙ c.in_ok-list.ensures)

pub pieces_of-requires-clause-few : goal.pieces_of-requires-clause-few
pieces_of-requires-clause-few c =
    few_bytes c.args.header.now c.args.records.now c.args.fork.now c.args.place c.as_slice-extents.result.now c.in_default.ensures.value (c.as_slice-extents.ensures.value ∙ c.in_ok-list.ensures) c.in_default.ensures.fits

pub slack_of-requires-clause-inside : goal.slack_of-requires-clause-inside
slack_of-requires-clause-inside c =
    ends_inside c.args.header.now c.args.records.now c.args.fork.now c.args.place c.as_slice-extents.result.now c.in_default.ensures.value (c.as_slice-extents.ensures.value ∙ c.in_ok-list.ensures)

pub slack_of-requires-clause-few : goal.slack_of-requires-clause-few
slack_of-requires-clause-few c =
    few_bytes c.args.header.now c.args.records.now c.args.fork.now c.args.place c.as_slice-extents.result.now c.in_default.ensures.value (c.as_slice-extents.ensures.value ∙ c.in_ok-list.ensures) c.in_default.ensures.fits

pub returns-clause-found : goal.returns-clause-found
returns-clause-found c =
    found_is c.args.header.now c.args.records.now c.args.fork.now c.args.place c.as_slice-extents.result.now c.in_ok-pieces_of.field-0 c.in_ok-slack_of.field-0 (sym c.in_default.ensures.value)
    (c.as_slice-extents.ensures.value ∙ c.in_ok-list.ensures) c.in_ok-pieces_of.ensures.value c.in_ok-slack_of.ensures

pub returns-clause-placed : goal.returns-clause-placed
returns-clause-placed c =
    found_placed c.args.header.now c.args.records.now c.args.fork.now c.args.place c.as_slice-extents.result.now c.in_ok-pieces_of.field-0 c.requires.sound c.in_default.ensures.value
    (c.as_slice-extents.ensures.value ∙ c.in_ok-list.ensures) c.in_ok-pieces_of.ensures.value

pub pieces_of-requires-clause-lies : goal.pieces_of-requires-clause-lies
pieces_of-requires-clause-lies c = sound_lies c.args.header.now c.requires.sound c.requires.ends

pub slack_of-requires-clause-lies : goal.slack_of-requires-clause-lies
slack_of-requires-clause-lies c = sound_lies c.args.header.now c.requires.sound c.requires.ends

pub returns-clause-covered : goal.returns-clause-covered
returns-clause-covered c =
    found_covered c.args.header.now c.args.records.now c.args.fork.now c.in_ok-pieces_of.field-0
    (found_placed c.args.header.now c.args.records.now c.args.fork.now c.args.place c.as_slice-extents.result.now c.in_ok-pieces_of.field-0 c.requires.sound c.in_default.ensures.value
    (c.as_slice-extents.ensures.value ∙ c.in_ok-list.ensures) c.in_ok-pieces_of.ensures.value)

pub returns-in-Some-clause-tells : goal.returns-in-Some-clause-tells
returns-in-Some-clause-tells c = fault_tells c.args.header.now c.args.records.now c.args.fork.now c.args.place c.in-Some.refusal c.from.result c.in-Some.ensures.value c.from.ensures

pub returns-clause-tells : goal.returns-clause-tells
returns-clause-tells c = λ sort at. found_tells c.args.header.now c.args.records.now c.args.fork.now c.args.place sort at c.in_default.ensures.value
