use Rattle.cb_spec.proofs.StoreLemmas.{put_over, put_between}
use Rattle.cb_spec.proofs.store.Store.insert.Goals as goal

pub invariant_of-self : goal.invariant_of-self
invariant_of-self c = (put_over _ _ _ c.deref.ensures.value c.self.view_is c.self.invariant _ _ _ c.in-Ok.ensures.within c.in-Ok.ensures.here).0

pub invariant_of-self-in-Err : goal.invariant_of-self-in-Err
invariant_of-self-in-Err c =
    (put_between _ _ _ c.deref.ensures.value c.self.view_is c.self.invariant _ _ _ c.in-Err.ensures.no_further c.in-Err.ensures.gap _ c.in_ok-insert-in-Err.ensures.items).0

pub returns-in-Ok-clause-ok : goal.returns-in-Ok-clause-ok
returns-in-Ok-clause-ok c = (put_over _ _ _ c.deref.ensures.value c.self.view_is c.self.invariant _ _ _ c.in-Ok.ensures.within c.in-Ok.ensures.here).1

pub returns-in_ok-insert-in-Err-clause-ok : goal.returns-in_ok-insert-in-Err-clause-ok
returns-in_ok-insert-in-Err-clause-ok c =
    (put_between _ _ _ c.deref.ensures.value c.self.view_is c.self.invariant _ _ _ c.in-Err.ensures.no_further c.in-Err.ensures.gap _ c.in_ok-insert-in-Err.ensures.items).1
