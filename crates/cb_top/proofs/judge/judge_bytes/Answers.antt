use Rattle.std.proofs.lemmas.Result.{IfOk-weaker}
use Rattle.cb_top.proofs.judge.judge_bytes.Goals as goal

pub returns-in-List : goal.returns-in-List
returns-in-List c = rw c.in-List.is (IfOk-weaker c.list_bytes.result _ _ (λ o a. a _) c.list_bytes.ensures)

pub returns-in-Check : goal.returns-in-Check
returns-in-Check c = rw c.in-Check.is (IfOk-weaker c.check_bytes.result _ _ (λ o a. a _) c.check_bytes.ensures)

pub returns-in-Sim : goal.returns-in-Sim
returns-in-Sim c = rw c.in-Sim.is (IfOk-weaker c.run_bytes.result _ _ (λ o a. a _) c.run_bytes.ensures)
