use Rattle.std.proofs.Common.{◌++◌, List, map, sym, ap, ◌∙◌, arith}
use Rattle.std.proofs.lemmas.List.{append-nil}
use Rattle.std.proofs.lemmas.Result.{on_ok_weaker}
use Rattle.cb_obligations.specs.Branches.{opened, branches_from, branches_of_each}
use Rattle.cb_term.specs.declared.name.Name.{Name}
use Rattle.cb_wp.specs.declared.branches.Begun.{Begun}
use Rattle.cb_spec.specs.Domains.{kind_of_domain}
use Rattle.cb_wp.specs.Parts.{begun_of, after, guarded, bound}
use Rattle.cb_wp.proofs.LiveLemmas.{side_nodes}
use Rattle.cb_wp.proofs.BranchLemmas.{of_together, of_if, of_any, no_side_left}
use Rattle.cb_wp.proofs.branches.+branches.Goals as goal

pub add_sides-add_branches-requires : goal.add_sides-add_branches-requires
add_sides-add_branches-requires t c =
    let fewer = side_nodes c.args.sides.now c.loop-side.side-index c.side-item.result c.loop-side-test.true c.side-item.is in
    (omega (arith, fewer, c.decreases), tt)

pub add_sides-returns : goal.add_sides-returns
add_sides-returns t c =
    sym (append-nil (map begun_of c.loop-side.into.items))
    ∙ ap (λ ss. map begun_of c.loop-side.into.items ++ after (λ k. branches_of_each k c.args.scope.now ss) (begun_of c.args.begun)) (sym (no_side_left c.args.sides.now c.loop-side.side-index (omega (arith, c.loop-side-test.false))))
    ∙ c.loop-side.invariant

pub add_together-returns : goal.add_together-returns
add_together-returns t c =
    on_ok_weaker c.add_each.result
    (of_together c.args.scope.now c.args.a.now c.args.b.now (begun_of c.args.begun) (map begun_of c.add_branches.new.into.items) (map begun_of c.args.into.now.items) (map begun_of c.add_each.new.into.items)
    (c.in_ok-add_branches.ensures ∙ ap (λ (bs : List Begun). map begun_of bs ++ after (λ k. branches_from k c.args.scope.now c.args.a.now) (begun_of c.args.begun)) c.new-firsts.ensures.items))
    c.add_each.ensures

pub add_if-returns : goal.add_if-returns
add_if-returns t c =
    on_ok_weaker c.add_branches-2.result
    (of_if c.args.scope.now c.args.side.now c.args.other.now c.args.test.now (begun_of c.args.begun)
    (begun_of c.in_ok-first.first) (begun_of c.in_ok-second.second) (map begun_of c.args.into.now.items) (map begun_of c.add_branches.new.into.items) (map begun_of c.add_branches-2.new.into.items)
    (c.in_ok-first.ensures ∙ ap (λ (b : Begun). guarded (begun_of b) (opened c.args.scope.now c.args.test.now)) c.in_ok-copied.ensures)
    c.in_ok-second.ensures
    c.in_ok-add_branches.ensures)
    c.add_branches-2.ensures

pub add_any-returns : goal.add_any-returns
add_any-returns t c =
    let inner : List Name = c.in_ok-inner.inner in
    let written = on_ok_weaker c.add_branches.result
    (λ e. e ∙ ap (λ xs. map begun_of c.args.into.now.items ++ after (λ k. branches_from k xs c.args.body.now) (begun_of c.in_ok-inside.inside)) c.as_slice-2.ensures)
    c.add_branches.ensures in
    on_ok_weaker c.add_branches.result
    (of_any c.args.scope.now inner c.args.body.now c.args.name.now c.args.domain c.args.test.now c.in_ok-number.number
    (begun_of c.args.begun) (begun_of c.in_ok-inside.inside) (map begun_of c.args.into.now.items) (map begun_of c.add_branches.new.into.items)
    c.in_ok-number.ensures
    c.in_ok-inner.ensures
    (c.in_ok-inside.ensures
    ∙ ap (λ xs. bound (begun_of c.args.begun) c.in_ok-number.number c.args.name.now (kind_of_domain c.args.domain) (opened xs c.args.test.now)) c.as_slice.ensures))
    written
