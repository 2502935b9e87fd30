-- `run::single::steps` meets its contract: the picks, the list and the state are tested before any step. Assumes nothing.
use Rattle.rules.specs.Run as rules
use Rattle.picking.proofs.Refused.{not_none}
use Rattle.run.proofs.Judged.{run_known}
use Rattle.run.proofs.single.steps.Goals as goal

pub returns-in-Err : goal.returns-in-Err
unfolding rules.run
returns-in-Err c = rw (← c.in-Err.ensures, not_none c.in-Err.refusal)

pub counted-requires : goal.counted-requires
counted-requires c =
    (run_known _ _ c.args.picks.now c.in_default.ensures, c.requires.0, c.requires.1)

pub returns : goal.returns
unfolding rules.run
returns c = rw (← c.in_default.ensures) (rw c.min.ensures at c.counted.ensures)
