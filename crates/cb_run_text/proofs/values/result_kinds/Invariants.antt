use Rattle.std.specs.Prelude.{◌≡◌, take, map}
use Rattle.cb_term.specs.declared.kind.Kind.{Kind}
use Rattle.cb_term.specs.declared.name.Name.{Name}
use Rattle.cb_run_text.proofs.values.result_kinds.Given as goal

abbrev pub invariant-loop-result : goal.invariant-loop-result
invariant-loop-result l = l.kinds ≡ map (λ (q : Name × Kind). q.1) (take l.result-index l.results)
