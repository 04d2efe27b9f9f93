-- What is written for a list with one more at its end.
use Rattle.std.proofs.Common.{◌≡◌, List, [], ◌∷◌, ◌++◌, refl, ap, append_assoc, sym, ◌∙◌}
use Rattle.cb_lex.specs.RawTermTree.{RawTermTree, raw_terms}
use Rattle.cb_lex.specs.RawSubstTree.{RawSubstTree, raw_substs}
use Rattle.cb_grammar.specs.declared.actions.TheConstants.{NO_TERMS, APPEND_TERM, NO_SIDES, APPEND_SIDE}
use Rattle.cb_amn_parse.specs.Lexemes.{Lexeme, Did}
use Rattle.cb_amn_parse.specs.Formulas.{term_out, listed_out}
use Rattle.cb_amn_parse.specs.Machines.{subst_out, choice_out}

pub listed_last : (ts : List RawTermTree) (t : RawTermTree) → listed_out (raw_terms (ts ++ t ∷ [])) ≡ listed_out (raw_terms ts) ++ term_out t ++ Did APPEND_TERM ∷ []
listed_last [] t = refl
listed_last (u ∷ ts) t = let h = listed_last ts t in rw h (simp append_assoc refl)

pub choice_last : (ss : List RawSubstTree) (s : RawSubstTree) → choice_out (raw_substs (ss ++ s ∷ [])) ≡ choice_out (raw_substs ss) ++ subst_out s ++ Did APPEND_SIDE ∷ []
choice_last [] s = refl
choice_last (u ∷ ss) s = let h = choice_last ss s in rw h (simp append_assoc refl)

-- the parts of a machine, taken from the top one by one
pub gathered : (s s1 s2 s3 h b c d e f t : List Lexeme) → s ≡ s1 ++ f → s1 ≡ s2 ++ c ++ d ++ e → s2 ≡ s3 ++ h ++ b → s3 ++ (h ++ b ++ c ++ d ++ e ++ f ++ t) ≡ s ++ t
gathered s s1 s2 s3 h b c d e f t p q r =
    let front : s3 ++ (h ++ b ++ c ++ d ++ e) ≡ s1 = rw (q, r) (simp append_assoc refl) in
    let joined : s3 ++ (h ++ b ++ c ++ d ++ e) ++ f ++ t ≡ s ++ t = rw (front, p) refl in
    let x = h ++ b ++ c ++ d ++ e in
    sym (append_assoc s3 (x ++ f) t) ∙ (ap (λ (y : List Lexeme). y ++ t) (sym (append_assoc s3 x f)) ∙ joined)

-- one more at the end of the list on top
pub appended_term : (s s1 s2 : List Lexeme) (ts us : List RawTermTree) (t : RawTermTree) → s ≡ s1 ++ term_out t → s1 ≡ s2 ++ Did NO_TERMS ∷ listed_out (raw_terms ts) → us ≡ ts ++ t ∷ [] →
    s2 ++ Did NO_TERMS ∷ listed_out (raw_terms us) ≡ s ++ Did APPEND_TERM ∷ []
appended_term s s1 s2 ts us t p q r = let h = listed_last ts t in rw (p, q, r, h) (simp append_assoc refl)

pub appended_side : (s s1 s2 : List Lexeme) (ts us : List RawSubstTree) (t : RawSubstTree) → s ≡ s1 ++ subst_out t → s1 ≡ s2 ++ Did NO_SIDES ∷ choice_out (raw_substs ts) → us ≡ ts ++ t ∷ [] →
    s2 ++ Did NO_SIDES ∷ choice_out (raw_substs us) ≡ s ++ Did APPEND_SIDE ∷ []
appended_side s s1 s2 ts us t p q r = let h = choice_last ts t in rw (p, q, r, h) (simp append_assoc refl)
