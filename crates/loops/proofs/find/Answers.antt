-- `loops::find` meets its contract: after n records what is known is what the first n records of the file come to. Past the
-- 512th OD there is no room, and a store there would change nothing.
-- Assumes nothing.
use mathlib.Core.Path.{◌∙◌, ◌≡◌}
use mathlib.Core.List.{[], ◌∷◌, ◌++◌}
use Prim.Native.Nat.{◌+◌}
use lib.ListN.{length, length-append, length-set, get_or}
use borrow.Author.Rules.{rules}
use Rattle.rules.specs.Words.{values}
use Rattle.rules.specs.Records.{record_at}
use Rattle.loops.specs.Loops.{seek_records}
use Rattle.loops.proofs.Left.{Left, left_all, left_more, kind_read}
use Rattle.loops.proofs.Seek.{sought_more, sought_found, sought_full, noted_found, noted_full, noted_none}
use Rattle.loops.proofs.find.Goals as goal
use Rattle.loops.proofs.find.Goals.{In-Some}

-- what reading a record leaves, and its kind
module _ (c : In-Some) where
  pub counted : length (c.loop-record.yielded ++ (c.in-Some.record ∷ [])) ≡ length c.loop-record.yielded + 1
  counted = simp length-append

  pub size : c.next.new.self.size ≡ 8
  size = c.in-Some.ensures.steps.0 ∙ c.loop-record.invariant.size

  pub left : Left c.args.file.now (length (c.loop-record.yielded ++ (c.in-Some.record ∷ []))) c.next.new.self.rest.now
  left =
      let step = c.in-Some.ensures.steps.1 in
      left_more _ _ _ _ _ c.loop-record.invariant.left step.0 (step.1 ∙ c.loop-record.invariant.size) _ counted

  pub kind : get_or c.in-Some.record.now 0 0 ≡ (record_at c.args.file.now (length c.loop-record.yielded)).kind
  kind =
      let step = c.in-Some.ensures.steps.1 in
      kind_read _ _ _ _ _ c.loop-record.invariant.left step.0 (step.1 ∙ c.loop-record.invariant.size)

pub loop-record-init : goal.loop-record-init
unfolding values seek_records
loop-record-init c =
    record {
      room = search rules;
      size = search rules;
      left = search (rules, left_all);
      so_far = search rules;
    }

pub loop-record-preserved-then-kind-ne-OD : goal.loop-record-preserved-then-kind-ne-OD
loop-record-preserved-then-kind-ne-OD c =
    let s = c.loop-record.s in
    let at = (goal.at.loop-record-preserved-then-kind-ne-OD c).In-Some in
    record {
      room = c.loop-record.invariant.room;
      size = size at;
      left = left at;
      so_far = sought_more _ _ _ _ _ _ _ _ (counted at) (kind at) c.loop-record.invariant.so_far
          c.seek-s.ensures (noted_none s _ _ c.if-kind-ne-OD.true);
    }

pub loop-record-preserved-then-s-lt-MAX_LOOPS : goal.loop-record-preserved-then-s-lt-MAX_LOOPS
loop-record-preserved-then-s-lt-MAX_LOOPS c =
    let s = c.loop-record.s in
    let at = (goal.at.loop-record-preserved-then-s-lt-MAX_LOOPS c).In-Some in
    record {
      room = simp length-set c.loop-record.invariant.room;
      size = size at;
      left = left at;
      so_far = sought_more _ _ _ _ _ _ _ _ (counted at) (kind at) c.loop-record.invariant.so_far
          (c.leave-s.ensures ∙ sought_found s _ c.if-kind-ne-OD.false c.if-s-lt-MAX_LOOPS.true)
          (rw c.innermost.ensures (noted_found s _ _ c.if-kind-ne-OD.false));
    }

pub loop-record-preserved : goal.loop-record-preserved
loop-record-preserved c =
    let s = c.loop-record.s in
    let at = (goal.at.loop-record-preserved c).In-Some in
    record {
      room = c.loop-record.invariant.room;
      size = size at;
      left = left at;
      so_far = sought_more _ _ _ _ _ _ _ _ (counted at) (kind at) c.loop-record.invariant.so_far
          (c.leave-s-else-s-lt-MAX_LOOPS.ensures ∙ sought_full s _ c.if-kind-ne-OD.false c.if-s-lt-MAX_LOOPS.false)
          (noted_full s _ _ c.if-kind-ne-OD.false c.loop-record.invariant.room c.if-s-lt-MAX_LOOPS.false);
    }
