use Rattle.cb_controlled_laws.proofs.DiceRun as dice
use Rattle.cb_controlled_laws.proofs.laws.dice_run.Goals as goal

pub returns : goal.returns
returns c = dice.dice_run
