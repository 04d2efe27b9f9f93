use Rattle.std.proofs.Common.{◌≡◌, ◌+◌, ◌<◌, length, drop, None}
use Rattle.cb_term.specs.Table.{sizes_of}
use Rattle.cb_seq.specs.Tree.{certs_of}
use Rattle.cb_seq.specs.Size.{cert_nodes, certs_nodes}
use Rattle.cb_check.specs.Derives.{first_number, first_bad, first_bad_child}
use Rattle.cb_check.specs.Ways.{capped, claim_on, IsAsBefore}
use Rattle.cb_check.proofs.WalkSteps.{before}
use Rattle.cb_check.proofs.walk.+walk_over.Given as goal

abbrev pub decreases-walk_over : goal.decreases-walk_over
decreases-walk_over l = cert_nodes l.cert.now

abbrev pub invariant-loop-child : goal.invariant-loop-child
invariant-loop-child l = record {
  bad : first_bad (sizes_of l.sets) l.cert (claim_on l.fn.way l.goal)
      ≡ first_number None (before l.cert (drop l.child-index l.children)) (first_bad_child (sizes_of l.sets) (certs_of (drop l.child-index l.children)) (claim_on l.fn.way l.goal) l.premises);
  count : l.met ≡ capped (before l.cert (drop l.child-index l.children));
  fewer : certs_nodes (certs_of (drop l.child-index l.children)) < cert_nodes l.cert;
  as_many : length l.premises + l.child-index ≡ length l.children;
  kept : IsAsBefore l.fn.way l.way;
}
