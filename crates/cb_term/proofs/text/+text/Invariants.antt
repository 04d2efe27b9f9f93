use Rattle.std.proofs.Common.{◌≡◌, ◌++◌, drop, true}
use Rattle.cb_term.specs.Tree.{trees_of}
use Rattle.cb_term.specs.Text.{terms_text}
use Rattle.cb_term.proofs.text.+text.Given as goal

abbrev pub invariant-term_within-loop-term : goal.invariant-term_within-loop-term
invariant-term_within-loop-term l =
    (l.out.items ++ terms_text l.sets.sets.items l.bound l.first (trees_of (drop l.term-index l.term-items))
    ≡ l.initial.out.items ++ terms_text l.initial.sets.sets.items l.initial.bound true (trees_of l.term-items))
    × (l.bound ≡ l.initial.bound)
