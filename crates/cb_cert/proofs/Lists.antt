-- What is written for the premises of a rule with one more at their end.
use Rattle.std.proofs.Common.{◌≡◌, List, [], ◌∷◌, ◌++◌, refl, append_assoc}
use Rattle.cb_lex.specs.RawCertTree.{RawCertTree, raw_certs}
use Rattle.cb_grammar.specs.declared.actions.TheConstants.{NO_NODES, APPEND_NODE}
use Rattle.cb_amn_parse.specs.Lexemes.{Lexeme, Did}
use Rattle.cb_amn_parse.specs.Proofs.{node_out, children_out}

children_last : (cs : List RawCertTree) (c : RawCertTree) → children_out (raw_certs (cs ++ c ∷ [])) ≡ children_out (raw_certs cs) ++ node_out c ++ Did APPEND_NODE ∷ []
children_last [] c = refl
children_last (d ∷ cs) c = let h = children_last cs c in rw h (simp append_assoc refl)

-- one more at the end of the list on top
pub appended_node : (s s1 s2 : List Lexeme) (cs ds : List RawCertTree) (c : RawCertTree) → s ≡ s1 ++ node_out c → s1 ≡ s2 ++ Did NO_NODES ∷ children_out (raw_certs cs) → ds ≡ cs ++ c ∷ [] →
    s2 ++ Did NO_NODES ∷ children_out (raw_certs ds) ≡ s ++ Did APPEND_NODE ∷ []
appended_node s s1 s2 cs ds c p q r = let h = children_last cs c in rw (p, q, r, h) (simp append_assoc refl)
