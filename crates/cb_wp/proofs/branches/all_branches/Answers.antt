use Rattle.std.proofs.Common.{List, [], ap, map, ◌++◌, ◌∙◌}
use Rattle.std.proofs.lemmas.Result.{IfOk-weaker}
use Rattle.cb_obligations.specs.Branches.{branches_from}
use Rattle.cb_wp.specs.declared.branches.Begun.{Begun}
use Rattle.cb_wp.specs.Parts.{begun_of, after}
use Rattle.cb_wp.proofs.BranchLemmas.{all_plain}
use Rattle.cb_wp.proofs.branches.all_branches.Goals as goal

pub returns : goal.returns
returns c =
    IfOk-weaker c.without_numbers.result _ _
    (λ _ e. e ∙ all_plain c.add_branches.new.into.items (branches_from 0 [] c.args.subst.now)
    (c.in_ok-add_branches.ensures
    ∙ ap (λ (bs : List Begun). map begun_of bs ++ after (λ k. branches_from k [] c.args.subst.now) (begun_of c.begin.result)) c.new-made.ensures.items
    ∙ ap (after (λ k. branches_from k [] c.args.subst.now)) c.begin.ensures))
    c.without_numbers.ensures
