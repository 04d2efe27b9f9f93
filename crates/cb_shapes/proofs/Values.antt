-- What is written for a value, and what its kinds say of the value.
use Rattle.std.proofs.Common.{◌≡◌, ℕ, Bool, true, false, List, [], ◌∷◌, ◌++◌, refl}
use Rattle.std.specs.Prelude.{Option, Some, None, slice_get}
use Rattle.std.specs.List.{flat_map}
use Rattle.cb_lex.specs.declared.token.Place.{Place}
use Rattle.cb_lex.specs.declared.token.Token.{Token}
use Rattle.cb_lex.specs.declared.token.Sort.{Sort}
use Rattle.cb_lex.specs.declared.token.Sort.TheVariants as sort
use Rattle.cb_lex.specs.declared.raw.name.RawName.{RawName}
use Rattle.cb_lex.specs.declared.raw.sign.RawAtom.{RawAtom}
use Rattle.cb_lex.specs.declared.raw.sign.RawAtom.TheVariants as atom
use Rattle.cb_lex.specs.declared.raw.sign.RawOperator.{RawOperator}
use Rattle.cb_lex.specs.declared.raw.sign.RawOperator.TheVariants as operator
use Rattle.cb_lex.specs.declared.raw.domain.RawLiteral.{RawLiteral}
use Rattle.cb_lex.specs.declared.raw.domain.RawLiteral.TheVariants as literal
use Rattle.cb_lex.specs.declared.raw.domain.RawBound.{RawBound}
use Rattle.cb_lex.specs.declared.raw.domain.RawEnd.{RawEnd}
use Rattle.cb_lex.specs.declared.raw.domain.RawEnd.TheVariants as end
use Rattle.cb_lex.specs.declared.raw.domain.RawDomain.{RawDomain}
use Rattle.cb_lex.specs.declared.raw.domain.RawDomain.TheVariants as domain
use Rattle.cb_lex.specs.declared.raw.text.RawProperty.{RawProperty}
use Rattle.cb_lex.specs.RawTermTree.{RawTermTree, RawTerms, RawFormulaTree}
use Rattle.cb_lex.specs.RawTermTree as tree
use Rattle.cb_engine.specs.declared.Item.{Item}
use Rattle.cb_engine.specs.declared.Item.TheVariants.{Word, Do}
use Rattle.cb_grammar.specs.declared.actions.TheConstants.{RANGE}
use Rattle.cb_grammar.specs.Signatures.{names_kind, literal_kind, properties_kind, condition_kind, terms_kind, term_kind, formula_kind, domain_kind, bound_kind, end_kind}
use Rattle.cb_amn_parse.specs.Lexemes.{Lexeme, Named, Said, Did, Lost, heard, lexemes}
use Rattle.cb_amn_parse.specs.Words.{atom_sort, atom_action, operator_action}
use Rattle.cb_amn_parse.specs.Formulas.{term_out, listed_out, formula_out, names_out, name_entry, condition_out}
use Rattle.cb_amn_parse.specs.Machines.{literal_out, end_out, bound_action, bound_out, domain_out, property_entry, properties_out}
use Rattle.cb_shapes.proofs.Finer.{acted, pushed, kinds}
use Rattle.cb_shapes.proofs.Table.{finer, word_kind, no_names, no_properties}

-- ---- lexemes

-- the kinds after the lexemes
abbrev pub told : List Lexeme → Option (List ℕ) → Option (List ℕ)
told [] o = o
told (Named x ∷ ls) o = told ls (pushed word_kind o)
told (Said s p ∷ ls) o = told ls (pushed word_kind o)
told (Lost ∷ ls) o = told ls (pushed word_kind o)
told (Did a ∷ ls) o = told ls (acted (finer.action a) o)

told_heard : (t : Option Token) (ls : List Lexeme) (o : Option (List ℕ)) → told (heard t ∷ ls) o ≡ told ls (pushed word_kind o)
told_heard None ls o = refl
told_heard (Some t) ls o = go t.sort
  where
    go : (s : Sort) → told (heard (Some (record { sort = s; place = t.place })) ∷ ls) o ≡ told ls (pushed word_kind o)
    go (sort.Word text) = refl
    go (sort.Opened text n) = refl
    go (sort.Number n) = refl
    go (sort.Keyword k) = refl
    go (sort.Sign s) = refl
    go sort.Finish = refl

pub told_items : (ts : List Token) (items : List Item) (o : Option (List ℕ)) → told (lexemes ts items) o ≡ kinds finer items o
told_items ts [] o = refl
told_items ts (Word t ∷ items) o = rw (told_heard (slice_get ts t.index) (lexemes ts items) o) (told_items ts items (pushed word_kind o))
told_items ts (Do a ∷ items) o = told_items ts items (acted (finer.action a) o)

pub told_append : (a b : List Lexeme) (o : Option (List ℕ)) → told (a ++ b) o ≡ told b (told a o)
told_append [] b o = refl
told_append (Named x ∷ a) b o = told_append a b (pushed word_kind o)
told_append (Said s p ∷ a) b o = told_append a b (pushed word_kind o)
told_append (Lost ∷ a) b o = told_append a b (pushed word_kind o)
told_append (Did x ∷ a) b o = told_append a b (acted (finer.action x) o)

pub told_none : (ls : List Lexeme) → told ls None ≡ None
told_none [] = refl
told_none (Named x ∷ ls) = told_none ls
told_none (Said s p ∷ ls) = told_none ls
told_none (Lost ∷ ls) = told_none ls
told_none (Did a ∷ ls) = told_none ls

-- what is told of the whole is told of its front
pub front_told : (a b : List Lexeme) (k last : List ℕ) → told (a ++ b) (Some k) ≡ Some last → (m : List ℕ) × (told a (Some k) ≡ Some m) × (told b (Some m) ≡ Some last)
front_told a b k last e = go (told a (Some k)) refl (rw (told_append a b (Some k)) at e)
  where
    go : (o : Option (List ℕ)) → told a (Some k) ≡ o → told b o ≡ Some last → (m : List ℕ) × (told a (Some k) ≡ Some m) × (told b (Some m) ≡ Some last)
    go None f e = absurd (let h : told b None ≡ None = told_none b in cc)
    go (Some m) f e = (m, f, e)

-- ---- values that say nothing of it

abbrev pub Tells : List Lexeme → ℕ → Type 0
Tells ls x = (k : List ℕ) → told ls (Some k) ≡ Some (x ∷ k)

told_atom : (a : RawAtom) (p : Place) → Tells (Said (atom_sort a) p ∷ Did (atom_action a) ∷ []) term_kind
told_atom atom.True p k = refl
told_atom atom.False p k = refl
told_atom atom.MaxInt p k = refl
told_atom atom.MinInt p k = refl
told_atom atom.Nat p k = refl
told_atom atom.Nat1 p k = refl
told_atom atom.Int p k = refl
told_atom atom.Truths p k = refl

told_operator : (o : RawOperator) (k : List ℕ) → told (Did (operator_action o) ∷ []) (Some (term_kind ∷ word_kind ∷ term_kind ∷ k)) ≡ Some (term_kind ∷ k)
told_operator operator.Plus k = refl
told_operator operator.Minus k = refl
told_operator operator.Times k = refl
told_operator operator.Divide k = refl
told_operator operator.Mod k = refl
told_operator operator.UpTo k = refl
told_operator operator.Union k = refl
told_operator operator.Intersection k = refl

mutual
  pub told_term : (t : RawTermTree) → Tells (term_out t) term_kind
  told_term (tree.Number n p) k = refl
  told_term (tree.Name x) k = refl
  told_term (tree.Atom a p) k = told_atom a p k
  told_term (tree.Binary o p l r) k = simp (told_append, told_term l, told_term r) (told_operator o k)
  told_term (tree.Minus p t) k = simp (told_append, told_term t) refl
  told_term (tree.Card p t) k = simp (told_append, told_term t) refl
  told_term (tree.TruthOf p f) k = simp (told_append, told_formula f) refl
  told_term (tree.Listed p ts) k = simp (told_append, told_listed ts) refl

  told_listed : (ts : RawTerms) (k : List ℕ) → told (listed_out ts) (Some (terms_kind ∷ k)) ≡ Some (terms_kind ∷ k)
  told_listed tree.End k = refl
  told_listed (tree.More t ts) k = simp (told_append, told_term t, told_listed ts) refl

  pub told_formula : (f : RawFormulaTree) → Tells (formula_out f) formula_kind
  told_formula tree.True k = refl
  told_formula tree.False k = refl
  told_formula (tree.Not f) k = simp (told_append, told_formula f) refl
  told_formula (tree.And f g) k = simp (told_append, told_formula f, told_formula g) refl
  told_formula (tree.Or f g) k = simp (told_append, told_formula f, told_formula g) refl
  told_formula (tree.Implies f g) k = simp (told_append, told_formula f, told_formula g) refl
  told_formula (tree.Equivalent f g) k = simp (told_append, told_formula f, told_formula g) refl
  told_formula (tree.Relation r p a b) k = simp (told_append, told_term a, told_term b) refl
  told_formula (tree.Every x d f) k = simp (told_append, told_formula d, told_formula f) refl
  told_formula (tree.Exists x f) k = simp (told_append, told_formula f) refl

pub told_condition : (c : Option RawFormulaTree) → Tells (condition_out c) condition_kind
told_condition None k = refl
told_condition (Some f) k = simp (told_append, told_formula f) refl

told_literal : (l : RawLiteral) → Tells (literal_out l) literal_kind
told_literal (literal.Number true n p) k = refl
told_literal (literal.Number false n p) k = refl
told_literal (literal.MaxInt p) k = refl
told_literal (literal.MinInt p) k = refl

told_end : (e : RawEnd) → Tells (end_out e) end_kind
told_end (end.Number n p) k = refl
told_end (end.MaxInt p) k = refl
told_end (end.MinInt p) k = refl
told_end (end.Name x) k = refl

told_bound : (b : RawBound) → Tells (bound_out b) bound_kind
told_bound b k = rw (told_append (end_out b.end) (Did (bound_action b.minus) ∷ []), told_end b.end k) (signed b.minus)
  where
    signed : (minus : Bool) → told (Did (bound_action minus) ∷ []) (Some (end_kind ∷ k)) ≡ Some (bound_kind ∷ k)
    signed true = refl
    signed false = refl

pub told_domain : (d : RawDomain) → Tells (domain_out d) domain_kind
told_domain (domain.Range low high) k =
    let both : told (bound_out low ++ bound_out high) (Some k) ≡ Some (bound_kind ∷ bound_kind ∷ k) = rw (told_append (bound_out low) (bound_out high) (Some k), told_bound low k) (told_bound high (bound_kind ∷ k)) in
    rw (told_append (bound_out low ++ bound_out high) (Did RANGE ∷ []) (Some k), both) refl
told_domain (domain.Nat p) k = refl
told_domain (domain.Nat1 p) k = refl
told_domain (domain.Int p) k = refl
told_domain (domain.Truths p) k = refl
told_domain (domain.Name x) k = refl

-- ---- names and properties, which may be none

abbrev pub kind_of : {X : Type 0} → ℕ → ℕ → List X → ℕ
kind_of none more [] = none
kind_of none more (x ∷ xs) = more

more_names : (xs : List RawName) (k : List ℕ) → told (flat_map name_entry xs) (Some (names_kind ∷ k)) ≡ Some (names_kind ∷ k)
more_names [] k = refl
more_names (x ∷ xs) k = more_names xs k

pub told_names : (xs : List RawName) → Tells (names_out xs) (kind_of no_names names_kind xs)
told_names [] k = refl
told_names (x ∷ xs) k = more_names xs k

more_properties : (ps : List RawProperty) (k : List ℕ) → told (flat_map property_entry ps) (Some (properties_kind ∷ k)) ≡ Some (properties_kind ∷ k)
more_properties [] k = refl
more_properties (p ∷ ps) k = simp (told_append, told_literal p.literal, more_properties ps) refl

pub told_properties : (ps : List RawProperty) → Tells (properties_out ps) (kind_of no_properties properties_kind ps)
told_properties [] k = refl
told_properties (p ∷ ps) k = simp (told_append, told_literal p.literal, more_properties ps) refl
