use Rattle.cb_controlled_laws.proofs.Dice as dice
use Rattle.cb_controlled_laws.proofs.laws.dice_are_safe.Goals as goal

pub returns : goal.returns
returns c = dice.dice_are_safe
