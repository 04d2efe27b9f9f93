use Rattle.cb_spec.proofs.StoreLemmas.{get_here, get_gap}
use Rattle.cb_spec.proofs.store.Store.get.Goals as goal

pub returns-in-Ok : goal.returns-in-Ok
returns-in-Ok c = get_here _ _ _ c.deref.ensures.value c.self.view_is c.self.invariant _ _ c.in-Ok.ensures.within c.in-Ok.ensures.here _ c.index.ensures

pub returns-in-Err : goal.returns-in-Err
returns-in-Err c = get_gap _ _ _ c.deref.ensures.value c.self.view_is c.self.invariant _ _ c.in-Err.ensures.gap
