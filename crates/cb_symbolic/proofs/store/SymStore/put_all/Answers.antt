use Rattle.std.proofs.Common.{rules, ◌≡◌, ◌++◌, ◌∷◌, [], sym, ap, ◌∙◌}
use Rattle.cb_conditions.specs.Reading.{with_terms}
use Rattle.cb_symbolic.specs.Stores.{meaning_of}
use Rattle.cb_symbolic.proofs.EntryLemmas.{put_step, still_first}
use Rattle.cb_symbolic.proofs.store.SymStore.put_all.Goals as goal

pub loop-name-preserved : goal.loop-name-preserved
loop-name-preserved c =
    let popped : c.loop-name.writes ≡ c.pop.new.self ++ (c.in-Some.name, c.in-Some.term) ∷ [] = search rules in
    let put : c.put.new.self ≡ c.loop-name.self ++ (c.in-Some.name, c.in-Some.term) ∷ [] = c.in_ok-put.ensures in
    record {
      meaning = put_step c.loop-name.writes c.pop.new.self c.loop-name.self c.put.new.self (c.in-Some.name, c.in-Some.term) _ popped put c.loop-name.invariant.meaning;
      before = still_first c.args.self.now c.loop-name.self c.put.new.self (c.in-Some.name, c.in-Some.term) put c.loop-name.invariant.before;
    }

pub returns-clause-meaning : goal.returns-clause-meaning
returns-clause-meaning c = ap (λ ws. with_terms ws (meaning_of c.loop-name.self)) (sym c.in_default.ensures.0) ∙ c.loop-name.invariant.meaning
