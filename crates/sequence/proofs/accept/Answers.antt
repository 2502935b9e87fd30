-- `sequence::accept` meets its contract: each answer is that of the first test that refuses, those before it having passed.
-- Assumes nothing.
use mathlib.Core.Path.{◌≡◌, sym, ◌∙◌}
use mathlib.Core.Bool.{false}
use Rattle.std.proofs.Common.{None, Ok}
use Rattle.rules.specs.Records.{record_count}
use Rattle.rules.specs.Check.{wrong_length, field_place}
use Rattle.shape.specs.File.{file_shape}
use Rattle.sequence.specs.Answer.{wrong_count}
use Rattle.sequence.proofs.Below.{below}
use Rattle.sequence.proofs.Tests.{place_few, shape_few, length_refuses, field_refuses, count_refuses, shape_refuses, depth_refuses, accepts}
use Rattle.sequence.proofs.accept.Goals as goal
use Rattle.sequence.proofs.accept.Goals.{Else-wrong_length, In_default, Else-wrong_count, In_default-of}

-- the tests that have passed
even : (c : Else-wrong_length) → wrong_length c.args.file.now ≡ false
even c = sym c.wrong_length.ensures ∙ c.if-wrong_length.false

named : (c : In_default) → below (record_count c.args.file.now) (field_place c.args.file.now) ≡ None
named c = sym c.field_place.ensures ∙ c.in_default.is

counted : (c : Else-wrong_count) → wrong_count c.args.file.now ≡ false
counted c = sym c.wrong_count.ensures ∙ c.if-wrong_count.false

shaped : (c : In_default-of) → file_shape c.args.file.now ≡ Ok tt
shaped c = sym c.of.ensures ∙ c.in_default-of.is

pub returns-then-wrong_length : goal.returns-then-wrong_length
returns-then-wrong_length c =
    c.at.ensures ∙ sym (length_refuses _ (sym c.wrong_length.ensures ∙ c.if-wrong_length.true))

pub at-requires-in-Some : goal.at-requires-in-Some
at-requires-in-Some c =
    let way = goal.at.at-requires-in-Some c in
    place_few _ (even way.Else-wrong_length) _ _ (sym c.field_place.ensures ∙ c.in-Some.is)

pub returns-in-Some : goal.returns-in-Some
returns-in-Some c =
    let way = goal.at.returns-in-Some c in
    c.at-in-Some.ensures ∙ sym (field_refuses _ (even way.Else-wrong_length) _ (sym c.field_place.ensures ∙ c.in-Some.is))

pub returns-then-wrong_count : goal.returns-then-wrong_count
returns-then-wrong_count c =
    let way = goal.at.returns-then-wrong_count c in
    c.at-then-wrong_count.ensures
    ∙ sym (count_refuses _ (even way.Else-wrong_length) (named way.In_default) (sym c.wrong_count.ensures ∙ c.if-wrong_count.true))

pub at-requires-in-Err : goal.at-requires-in-Err
at-requires-in-Err c =
    let way = goal.at.at-requires-in-Err c in
    shape_few _ (even way.Else-wrong_length) _ (sym c.of.ensures ∙ c.in-Err.is)

pub returns-in-Err : goal.returns-in-Err
returns-in-Err c =
    let way = goal.at.returns-in-Err c in
    c.at-in-Err.ensures
    ∙ sym (shape_refuses _ (even way.Else-wrong_length) (named way.In_default) (counted way.Else-wrong_count) _ (sym c.of.ensures ∙ c.in-Err.is))

pub returns-in-Some-depth_place : goal.returns-in-Some-depth_place
returns-in-Some-depth_place c =
    let way = goal.at.returns-in-Some-depth_place c in
    c.at-in-Some-depth_place.ensures
    ∙ sym (depth_refuses _ (even way.Else-wrong_length) (named way.In_default) (counted way.Else-wrong_count)
    (shaped way.In_default-of) _ (sym c.depth_place.ensures ∙ c.in-Some-depth_place.is))

pub returns : goal.returns
returns c =
    let way = goal.at.returns c in
    sym (accepts _ (even way.Else-wrong_length) (named way.In_default) (counted way.Else-wrong_count)
    (shaped way.In_default-of) (sym c.depth_place.ensures ∙ c.in_default-depth_place.is))
