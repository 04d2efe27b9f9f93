-- Symbolic stores: written names with the terms that they stand for.
use Rattle.std.specs.Prelude.{ℕ, List, [], ◌∷◌}
use Rattle.cb_term.specs.declared.name.Name.{Name}
use Rattle.cb_term.specs.Change.{mapped_term, name_stays}
use Rattle.cb_term.specs.Size.{term_nodes}
use Rattle.cb_term.specs.Tree.{TermTree, FormulaTree}
use Rattle.cb_obligations.specs.Branches.{Assigned}
use Rattle.cb_obligations.specs.Pieces.{freed, with_opened}
use Rattle.cb_conditions.specs.Reading.{Meaning, itself, with_terms, read}

-- the entries over a meaning, the later ones over the earlier
abbrev pub standing : Meaning → Assigned → Meaning
standing s [] = s
standing s (e ∷ es) = standing (with_terms (e ∷ []) s) es

-- what the names of a store stand for: the last entry of a name counts, and a name without an entry stands for itself
abbrev pub meaning_of : Assigned → Meaning
meaning_of es = standing itself es

-- how many nodes the name's term has
abbrev pub nodes_of : Assigned → Name → ℕ
nodes_of es y = term_nodes (meaning_of es y)

-- the names' terms, with opened names in the places of the variables that are bound outside
abbrev pub opened_names : Meaning → List Name → ℕ → Name → TermTree
opened_names s ys k y = mapped_term name_stays (freed ys) k (s y)

-- the formula as it is read, with opened names in the places of the variables that are bound outside
abbrev pub read_opened : Meaning → List Name → FormulaTree → FormulaTree
read_opened s ys f = with_opened ys (read s f)
