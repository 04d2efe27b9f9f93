use Rattle.std.proofs.Common.{ℕ, IfOk, subst, ◌∷◌, []}
use Rattle.cb_engine.specs.declared.Symbol.TheVariants as symbol
use Rattle.cb_engine.specs.Readings.{IsReading}
use Rattle.cb_grammar.specs.Misreadings.{language}
use Rattle.cb_grammar.proofs.Fine.{grammar_decides, grammar_light, leaves_if}
use Rattle.cb_grammar.proofs.reading.read_terminals.Goals as goal

pub read-requires-clause-decides : goal.read-requires-clause-decides
read-requires-clause-decides c = grammar_decides

pub read-requires-clause-light : goal.read-requires-clause-light
read-requires-clause-light c = grammar_light

pub returns-clause-reading : goal.returns-clause-reading
unfolding language
returns-clause-reading c =
    subst (λ (n : ℕ). IfOk c.read.result (λ reading. IsReading language (symbol.Part n ∷ []) c.args.terminals.now reading)) c.number_of_part.ensures c.read.ensures

pub returns-clause-fits : goal.returns-clause-fits
returns-clause-fits c = leaves_if c.args.part c.args.terminals.now c.read.result (returns-clause-reading c)
