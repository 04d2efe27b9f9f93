-- What is written for a list with one more at its end.
use Rattle.std.proofs.Common.{◌≡◌, List, [], ◌∷◌, ◌++◌, refl, append_assoc, append-nil}
use Rattle.std.specs.List.{flat_map}
use Rattle.cb_lex.specs.RawProcessTree.{RawProcessTree, raw_processes}
use Rattle.cb_grammar.specs.declared.actions.TheConstants.{APPEND_PROCESS}
use Rattle.cb_amn_parse.specs.Lexemes.{Lexeme, Did}
use Rattle.cb_amn_parse.specs.Processes.{process_out, others_out}

last_entry : {X : Type 0} (f : X → List Lexeme) (xs : List X) (x : X) → flat_map f (xs ++ x ∷ []) ≡ flat_map f xs ++ f x
last_entry f [] x = append-nil (f x)
last_entry f (y ∷ xs) x = let h = last_entry f xs x in rw h (simp append_assoc refl)

-- one more at the end of the list on top
pub appended : {X : Type 0} (f : X → List Lexeme) (empty more : Lexeme) (s s1 s2 e : List Lexeme) (xs ys : List X) (x : X) →
    s ≡ s1 ++ e → s1 ≡ s2 ++ empty ∷ flat_map f xs → ys ≡ xs ++ x ∷ [] → f x ≡ e ++ more ∷ [] → s2 ++ empty ∷ flat_map f ys ≡ s ++ more ∷ []
appended f empty more s s1 s2 e xs ys x p q r g = let h = last_entry f xs x in rw (p, q, r, h, g) (simp append_assoc refl)

pub others_last : (ps : List RawProcessTree) (p : RawProcessTree) → others_out (raw_processes (ps ++ p ∷ [])) ≡ others_out (raw_processes ps) ++ process_out p ++ Did APPEND_PROCESS ∷ []
others_last [] p = refl
others_last (q ∷ ps) p = let h = others_last ps p in rw h (simp append_assoc refl)
