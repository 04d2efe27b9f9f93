-- Lists of terms as trees hold them.
use Rattle.std.proofs.Common.{◌≡◌, ℕ, suc, Bool, true, false, ◌&&◌, List, [], ◌∷◌, map, length, refl, ap}
use Rattle.cb_term.specs.declared.name.Name.{Name}
use Rattle.cb_term.specs.Tree.{TermTree, More, trees_of}
use Rattle.cb_term.specs.Change.{mapped_term, mapped_terms}
use Rattle.cb_term.specs.Same.{same_term, same_terms}

pub mapped_trees : (names : ℕ → Name → TermTree) (bounds : ℕ → ℕ → TermTree) (k : ℕ) (ts : List TermTree) →
    mapped_terms names bounds k (trees_of ts) ≡ trees_of (map (mapped_term names bounds k) ts)
mapped_trees names bounds k [] = refl
mapped_trees names bounds k (t ∷ ts) = ap (More (mapped_term names bounds k t)) (mapped_trees names bounds k ts)

no_and : (b c : Bool) → false ≡ c → false ≡ (b && c)
no_and true c e = e
no_and false c e = refl

-- lists of unlike lengths are not the same
pub unlike_lengths : (ts us : List TermTree) → (length ts ≡ length us → ⊥) → false ≡ same_terms (trees_of ts) (trees_of us)
unlike_lengths [] [] ne = absurd (ne refl)
unlike_lengths [] (u ∷ us) ne = refl
unlike_lengths (t ∷ ts) [] ne = refl
unlike_lengths (t ∷ ts) (u ∷ us) ne = no_and (same_term t u) (same_terms (trees_of ts) (trees_of us)) (unlike_lengths ts us (λ e. ne (ap suc e)))
