use Rattle.std.proofs.Common.{ap, ◌∙◌}
use Rattle.cb_seq.specs.Tree.{Node}
use Rattle.cb_verdicts.specs.Certificates.{rule_of}
use Rattle.cb_verdicts.proofs.Certs.{one_more, all_made}
use Rattle.cb_verdicts.proofs.certificates.+cert_of.Goals as goal

pub loop-child-preserved : goal.loop-child-preserved
loop-child-preserved t c =
    rw c.in_ok-push.ensures.items (one_more c.args.symbols.now c.loop-child.children.items c.as_slice-written.result.now c.loop-child.child-index c.child-item.result
    c.in_ok-cert_of.field-0 c.loop-child-test.true c.child-item.is c.in_ok-cert_of.ensures ∙ c.loop-child.invariant)

pub returns : goal.returns
returns t c =
    rw (← c.raw.view_is) (rw (← c.as_slice-written.ensures.value) (rw c.in_ok-rule_of.ensures
    (ap (Node (rule_of c.args.symbols.now c.raw.inside.rule)) (all_made c.args.symbols.now c.loop-child.children.items c.as_slice-written.result.now c.loop-child.child-index c.loop-child-test.false c.loop-child.invariant))))
