use Rattle.std.proofs.Common.{◌≡◌, IfOk, subst}
use Rattle.cb_symbolic.specs.Stores.{meaning_of}
use Rattle.cb_symbolic.proofs.ReadingLemmas.{opened_is}
use Rattle.cb_symbolic.proofs.entries.read_formula.Goals as goal

pub returns : goal.returns
returns c =
    subst (λ x. IfOk c.change_formula.result (λ f. f ≡ x)) (opened_is (meaning_of c.args.entries.now) c.args.opened.now c.args.formula.now) c.change_formula.ensures
