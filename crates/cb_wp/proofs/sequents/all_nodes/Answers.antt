use Rattle.std.proofs.Common.{ap, arith}
use Rattle.cb_term.proofs.Steps.{drop_step}
use Rattle.cb_wp.specs.Limits.{formulas_nodes}
use Rattle.cb_wp.proofs.CountLemmas.{no_formula_left}
use Rattle.cb_wp.proofs.sequents.all_nodes.Goals as goal

pub loop-formula-preserved : goal.loop-formula-preserved
loop-formula-preserved c =
    let e = drop_step _ _ c.formula-item.result c.loop-formula-test.true c.formula-item.is in
    record {
      same = omega (arith, c.loop-formula.invariant.same, ap formulas_nodes e);
      fits = omega arith;
    }

pub returns : goal.returns
returns c =
    let z = no_formula_left c.args.formulas.now c.loop-formula.formula-index (omega (arith, c.loop-formula-test.false)) in
    omega (arith, z, c.loop-formula.invariant.same, c.loop-formula.invariant.fits)
