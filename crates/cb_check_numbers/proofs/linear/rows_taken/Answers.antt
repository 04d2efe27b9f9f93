use Rattle.std.proofs.Common.{[], ◌∷◌, map, rules}
use Rattle.std.proofs.lemmas.List.{map-append}
use Rattle.cb_term.specs.Table.{sizes_of}
use Rattle.cb_lin.specs.Rows.{form_of}
use Rattle.cb_seq.specs.Premises.{claim_at}
use Rattle.cb_check_numbers.proofs.RowSteps.{one_more, none_left, all_taken}
use Rattle.cb_check_numbers.proofs.linear.rows_taken.Goals as goal

pub returns-in_default-clause-same : goal.returns-in_default-clause-same
returns-in_default-clause-same c =
    none_left (sizes_of c.args.sets.now) (claim_at c.args.sequent.now) (map form_of c.loop-multiple.rows.items) c.args.multiples.now c.loop-multiple.multiple-index c.loop-multiple.invariant.rows _ c.loop-multiple-test.true
    (rw c.in_default.is at c.in_ok-row.ensures)

pub loop-multiple-preserved : goal.loop-multiple-preserved
loop-multiple-preserved c =
    let taken = rw c.in-Some.is at c.in_ok-row.ensures in
    record {
      rows =
          rw (c.in_ok-push.ensures.items, map-append form_of c.loop-multiple.rows.items (c.in-Some.row ∷ []))
          (one_more (sizes_of c.args.sets.now) (claim_at c.args.sequent.now) (map form_of c.loop-multiple.rows.items) c.args.multiples.now c.loop-multiple.multiple-index c.loop-multiple.invariant.rows _ (form_of c.in-Some.row) c.loop-multiple-test.true taken);
      all = search rules;
    }

pub returns-clause-same : goal.returns-clause-same
returns-clause-same c =
    all_taken (sizes_of c.args.sets.now) (claim_at c.args.sequent.now) (map form_of c.loop-multiple.rows.items) c.args.multiples.now c.loop-multiple.multiple-index c.loop-multiple.invariant.rows c.loop-multiple-test.false
