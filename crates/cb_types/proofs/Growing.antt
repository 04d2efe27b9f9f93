-- Declarations add names at the end alone.
use Rattle.std.proofs.Common.{◌≡◌, ℕ, Bool, true, false, List, [], ◌∷◌, ◌++◌, take, length, is_some, refl, sym, ap, ◌∙◌, append_assoc}
use Rattle.cb_lex.specs.declared.raw.name.RawName.{RawName}
use Rattle.cb_lex.specs.declared.raw.text.RawOperation.{RawOperation}
use Rattle.cb_forms.specs.Find.{found, inside, free_spelling}
use Rattle.cb_judge.specs.declared.names.Entry.{Entry}
use Rattle.cb_judge.specs.Meanings.{Names}
use Rattle.cb_types.specs.declared.declare.Sort.{Sort}
use Rattle.cb_types.specs.declared.declare.Sort.TheVariants as sort
use Rattle.cb_types.specs.Declares.{Numbers, Domains, next, with_entry, with_name, declared}
use Rattle.cb_types.specs.MachineFaults.{with_results, inside_operation}

abbrev Grows : Names → Names → Type 0
Grows w v = (es : Names) × (v ≡ w ++ es)

nothing : (w : Names) → w ++ [] ≡ w
nothing [] = refl
nothing (e ∷ w) = ap (λ v. e ∷ v) (nothing w)

stays : (w : Names) → Grows w w
stays w = ([], sym (nothing w))

one : (x : List ℕ) (e : Entry) (w : Names) → Grows w (inside x e w)
one x e w = by (is_some (found x w)) refl
  where
    by : (b : Bool) → is_some (found x w) ≡ b → Grows w (inside x e w)
    by true q = rw q (stays w)
    by false q = rw q ((x, e) ∷ [], refl)

entered : (s : Sort) (x : List ℕ) (e : Entry) (w : Names) → Grows w (with_entry s x e w)
entered (sort.Element owner set) x e w = one x e w
entered (sort.Constant owner) x e w = one x e w
entered (sort.Variable owner) x e w = one x e w
entered sort.Parameter x e w = one (free_spelling x w) e w
entered sort.Result x e w = one (free_spelling x w) e w

two : (w v u : Names) → Grows w v → Grows v u → Grows w u
two w v u g h = (g.0 ++ h.0, h.1 ∙ ap (λ t. t ++ h.0) g.1 ∙ append_assoc w g.0 h.0)

grows : (s : Sort) (ns : Numbers) (ds : Domains) (i : ℕ) (w : Names) (xs : List RawName) → Grows w (declared s ns ds i w xs)
grows s ns ds i w [] = stays w
grows s ns ds i w (x ∷ xs) = two w (with_name s ns ds i x w) (declared s ns ds (next i) (with_name s ns ds i x w) xs) (entered s x.text _ w) (grows s ns ds (next i) (with_name s ns ds i x w) xs)

front : (w es : Names) → take (length w) (w ++ es) ≡ w
front [] es = refl
front (e ∷ w) es = ap (λ v. e ∷ v) (front w es)

-- the names outside of an operation are in front
pub take_operation : (ds : Domains) (o : RawOperation) (w : Names) → take (length w) (inside_operation ds o w) ≡ w
take_operation ds o w =
    let g = two w (with_results o w) (inside_operation ds o w) (grows sort.Result [] [] 0 w o.results) (grows sort.Parameter [] ds 0 (with_results o w) o.parameters) in
    ap (take (length w)) g.1 ∙ front w g.0
