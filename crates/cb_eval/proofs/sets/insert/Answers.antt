use Rattle.std.proofs.Common.{◌≡◌, ◌∙◌, sym, subst}
use Rattle.std.proofs.lemmas.Int.{to_z-of_z}
use Rattle.cb_term.specs.Sets.{IsAscending, insert}
use Rattle.cb_eval.proofs.SetLemmas.{searched_insert, searched_here, insert_ascends}
use Rattle.cb_eval.proofs.sets.insert.Goals as goal

pub returns-in-Ok-clause-set : goal.returns-in-Ok-clause-set
returns-in-Ok-clause-set c =
    subst (λ z. c.args.items.now.items ≡ insert z c.args.items.now.items) (to_z-of_z _ c.args.x c.ranges.x)
    (searched_here _ _ _ _ c.deref.ensures.value c.requires c.in-Ok.ensures.bound c.in-Ok.ensures.ok)

pub returns-in_ok-insert-in-Err-clause-set : goal.returns-in_ok-insert-in-Err-clause-set
returns-in_ok-insert-in-Err-clause-set c =
    subst (λ z. c.insert.new.self.items ≡ insert z c.args.items.now.items) (to_z-of_z _ c.args.x c.ranges.x)
    (c.in_ok-insert-in-Err.ensures.items ∙ searched_insert _ _ _ _ c.deref.ensures.value c.requires c.in-Err.ensures.bound c.in-Err.ensures.position)

pub returns-in_ok-insert-in-Err-clause-ascending : goal.returns-in_ok-insert-in-Err-clause-ascending
returns-in_ok-insert-in-Err-clause-ascending c =
    subst IsAscending (sym (returns-in_ok-insert-in-Err-clause-set c)) (insert_ascends c.args.x _ c.requires)
