use Rattle.std.proofs.Common.{Some, IsSome, ap, sym, subst, ◌∙◌}
use Rattle.cb_spec.proofs.StoreLemmas.{get_here, get_gap, put_kept}
use Rattle.cb_spec.proofs.store.Store.replace.Goals as goal

pub invariant_of-self : goal.invariant_of-self
invariant_of-self c = (put_kept _ _ _ c.deref.ensures.value c.self.view_is c.self.invariant _ _ c.index_mut.result.now c.replace.new.dest c.args.value c.replace.ensures.after c.in-Ok.ensures.within c.in-Ok.ensures.here c.index_mut.ensures.value).0

pub unreachable-requires : goal.unreachable-requires
unreachable-requires c =
    let none = subst IsSome (sym (get_gap _ _ _ c.deref.ensures.value c.self.view_is c.self.invariant _ _ c.in-Err.ensures.gap)) c.requires in
    absurd (cc)

pub returns-clause-new : goal.returns-clause-new
returns-clause-new c = (put_kept _ _ _ c.deref.ensures.value c.self.view_is c.self.invariant _ _ c.index_mut.result.now c.replace.new.dest c.args.value c.replace.ensures.after c.in-Ok.ensures.within c.in-Ok.ensures.here c.index_mut.ensures.value).1

pub returns-clause-old : goal.returns-clause-old
returns-clause-old c =
    ap Some c.replace.ensures.value ∙ get_here _ _ _ c.deref.ensures.value c.self.view_is c.self.invariant _ _ c.in-Ok.ensures.within c.in-Ok.ensures.here c.index_mut.result.now c.index_mut.ensures.value
