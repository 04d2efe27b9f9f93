-- Lists of terms as trees hold them, and what stands in place of a name that is not found.
use Rattle.std.proofs.Common.{◌≡◌, ℕ, List, [], ◌∷◌, map, Option, Some, None, refl, ap}
use Rattle.cb_lex.specs.RawTermTree.{RawTermTree, raw_terms}
use Rattle.cb_term.specs.declared.name.Name.{Name}
use Rattle.cb_term.specs.Tree.{trees_of}
use Rattle.cb_term.specs.Tree as tree
use Rattle.cb_arguments.specs.Scopes.{Symbols, or_else}
use Rattle.cb_arguments.specs.Arguments.{term_in, terms_in}

pub normal_terms : (symbols : Symbols) (bound : List Name) (ts : List RawTermTree) → terms_in symbols bound (raw_terms ts) ≡ trees_of (map (term_in symbols bound) ts)
normal_terms symbols bound [] = refl
normal_terms symbols bound (t ∷ ts) = ap (tree.More (term_in symbols bound t)) (normal_terms symbols bound ts)

pub or_assoc : (a b c : Option ℕ) → or_else (or_else a b) c ≡ or_else a (or_else b c)
or_assoc None b c = refl
or_assoc (Some k) b c = refl
