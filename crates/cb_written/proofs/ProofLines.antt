-- The lines of proofs, obligations and nodes.
use Rattle.std.specs.Prelude.{ℕ, Bool, ◌||◌, eqb, List, [], ◌∷◌, ◌++◌, take, drop, codes, refl}
use Rattle.std.proofs.Common.{append_assoc}
use Rattle.cb_lex.specs.declared.token.Sign.TheVariants as sign
use Rattle.cb_engine.specs.declared.Symbol.{Symbol}
use Rattle.cb_engine.specs.declared.Symbol.TheVariants.{Take, Act, Part}
use Rattle.cb_engine.specs.Lines.{alternatives, Among, Repeated}
use Rattle.cb_grammar.specs.declared.table.TheConstants.{GRAMMAR}
use Rattle.cb_grammar.specs.declared.actions.TheConstants as action
use Rattle.cb_grammar.specs.Classes.{sign_class, words}
use Rattle.cb_grammar.specs.Numbers as part
use Rattle.cb_grammar.specs.Written.{closing}
use Rattle.cb_written.specs.Shapes.{Exactly, ◌before◌}
use Rattle.cb_written.specs.Texts.{one_proof, finish}
use Rattle.cb_written.specs.Proofs.{proof_or_finish, BeforeProofsLine, BeforeProofsIsWritten, ProofsLine, ProofsAreWritten, OnlyProofsAreWritten, obligation_lines, ObligationIsWritten, row_lines, RowIsWritten, NodeLine, NodeIsWritten, first_rules, LinearLine, second_rules, ElementsLine, last_rules, more_row, more_node, first_node, word, term}
use Rattle.cb_written.proofs.Standing.{Stands, AllStand, exact, line, more_lines, both_lines, part_of, choice, many, ◌then◌, told_as, is_written}
use Rattle.cb_written.proofs.Lines.{one_line, lines_expanded, of_expanded}

pub before_proofs_written : BeforeProofsIsWritten
before_proofs_written = one_line part.before_proofs _ BeforeProofsLine refl (exact (Part part.text ∷ []) refl then choice part.before_proofs_1 proof_or_finish refl refl)

proofs_stand : Stands (Part part.proofs ∷ []) ProofsLine
proofs_stand = part_of part.proofs _ ProofsLine refl (line _ ProofsLine (exact (Act action.NO_PROOFS ∷ []) refl then many part.proofs_1 (one_proof ∷ []) refl refl))

pub proofs_written : ProofsAreWritten
proofs_written = is_written part.proofs ProofsLine proofs_stand

pub only_proofs_written : OnlyProofsAreWritten
only_proofs_written = one_line part.only_proofs _ (ProofsLine before Exactly (Take finish ∷ [])) refl (proofs_stand then exact (Take finish ∷ []) refl)

pub obligation_written : ObligationIsWritten
unfolding words
obligation_written = of_expanded (λ n. eqb n part.of_part || eqb n part.obligation_1) 1 part.obligation obligation_lines refl refl

pub row_written : RowIsWritten
row_written = of_expanded (λ n. eqb n part.row_1) 1 part.row row_lines refl refl

-- the premises of rules have parts of their own
abbrev of_premises : ℕ → Bool
of_premises n =
    eqb n part.no_premise || (eqb n part.one_premise || (eqb n part.two_premises || (eqb n part.hypothesis_one_premise || (eqb n part.hypothesis_two_premises || (eqb n part.term_one_premise ||
    (eqb n part.two_terms_two_premises || (eqb n part.one_node || (eqb n part.two_nodes || eqb n part.three_nodes))))))))

abbrev nodes : List (List Symbol)
nodes = alternatives GRAMMAR part.node

first_stand : AllStand (take 5 nodes) (Among first_rules)
unfolding words
first_stand = lines_expanded of_premises 2 (take 5 nodes) first_rules refl refl

second_stand : AllStand (take 22 (drop 6 nodes)) (Among second_rules)
unfolding words
second_stand = lines_expanded of_premises 2 (take 22 (drop 6 nodes)) second_rules refl refl

last_stand : AllStand (drop 29 nodes) (Among last_rules)
unfolding words
last_stand = lines_expanded of_premises 2 (drop 29 nodes) last_rules refl refl

abbrev linear_head : List Symbol
linear_head = word (codes "LIN") ∷ Take (sign_class sign.OpenBracket) ∷ Act action.NO_ROWS ∷ Part part.row ∷ Act action.APPEND_ROW ∷ []

abbrev linear_end : List Symbol
linear_end = Take (sign_class sign.CloseBracket) ∷ Act action.NO_NODES ∷ Act action.RULE_ROWS ∷ []

linear_stands : Stands (linear_head ++ (Part part.node_1 ∷ linear_end)) LinearLine
linear_stands = exact linear_head refl then many part.node_1 (more_row ∷ []) refl refl then exact linear_end refl

abbrev elements_head : List Symbol
elements_head = word (codes "ELEMS") ∷ term

-- the nodes of the premises of ELEMS
some_nodes_stand : Stands (Part part.some_nodes ∷ []) (Exactly first_node before Repeated (more_node ∷ []) before Exactly (closing ∷ []))
some_nodes_stand = part_of part.some_nodes _ _ refl (line _ _ (exact first_node refl then many part.some_nodes_1 (more_node ∷ []) refl refl then exact (closing ∷ []) refl))

-- the symbols before and behind a sequence may stand with its first and its last
regrouped : (u v : List Symbol) (ws : List (List Symbol)) (x y r : List Symbol) → Stands r (Exactly u before ((Exactly v before Repeated ws before Exactly x) before Exactly y)) → Stands r (Exactly (u ++ v) before Repeated ws before Exactly (x ++ y))
regrouped u v ws x y r s = told_as r (Exactly u before ((Exactly v before Repeated ws before Exactly x) before Exactly y)) (Exactly (u ++ v) before Repeated ws before Exactly (x ++ y)) to from s
  where
    to : (w : List Symbol) → (Exactly u before ((Exactly v before Repeated ws before Exactly x) before Exactly y)) w → (Exactly (u ++ v) before Repeated ws before Exactly (x ++ y)) w
    to w (a, b, p, (c, d, (g, h, q, (i, j, m, n, o), l), f, e), z) = (u ++ v, i ++ (x ++ y), refl, (i, x ++ y, m, refl, refl), rw (z, p, e, l, q, o, n, f) (simp append_assoc refl))

    from : (w : List Symbol) → (Exactly (u ++ v) before Repeated ws before Exactly (x ++ y)) w → (Exactly u before ((Exactly v before Repeated ws before Exactly x) before Exactly y)) w
    from w (a, b, p, (i, j, m, q, e), z) = (u, (v ++ (i ++ x)) ++ y, refl, (v ++ (i ++ x), y, (v, i ++ x, refl, (i, x, m, refl, refl), refl), refl, refl), rw (z, p, e, q) (simp append_assoc refl))

elements_stand : Stands (elements_head ++ (Part part.some_nodes ∷ Act action.RULE_TERM ∷ [])) ElementsLine
elements_stand = regrouped elements_head first_node (more_node ∷ []) (closing ∷ []) (Act action.RULE_TERM ∷ []) _ (exact elements_head refl then some_nodes_stand then exact (Act action.RULE_TERM ∷ []) refl)

pub node_written : NodeIsWritten
unfolding words
node_written =
    is_written part.node NodeLine (part_of part.node nodes NodeLine refl
    (both_lines (take 5 nodes) _ (Among first_rules) _ first_stand
    (more_lines (linear_head ++ (Part part.node_1 ∷ linear_end)) _ LinearLine _ linear_stands
    (both_lines (take 22 (drop 6 nodes)) _ (Among second_rules) _ second_stand
    (more_lines (elements_head ++ (Part part.some_nodes ∷ Act action.RULE_TERM ∷ [])) (drop 29 nodes) ElementsLine (Among last_rules) elements_stand last_stand)))))
