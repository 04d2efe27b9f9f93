-- How a substitution runs, when it is live, and when it fits. `sizes` has the number of elements of each enumerated set.
use Rattle.std.specs.Prelude.{ℕ, ◌≡◌, ◌⊎◌, Bool, true, false, ◌||◌, ◌&&◌, not, List, [], ◌∷◌, ◌++◌, IsSome, ⊤}
use Rattle.cb_term.specs.declared.name.Name.{Name}
use Rattle.cb_term.specs.declared.value.Value.{Value}
use Rattle.cb_term.specs.Names.{same_name}
use Rattle.cb_term.specs.Tree.{TermTree, FormulaTree}
use Rattle.cb_term.specs.Tree as tree
use Rattle.cb_term.specs.Values.{Look, set_at}
use Rattle.cb_term.specs.Holds.{Holds, IsValue}
use Rattle.cb_term.specs.Free.{free_in_term, free_in}
use Rattle.cb_spec.specs.SubstTree.{SubstTree, Skip, Assign, Together, Choice, If, AnyOf, SubstTrees, End, More}
use Rattle.cb_spec.specs.Stores.{Writes, found}
use Rattle.cb_spec.specs.Domains.{In, HasElements, typing}

-- no name has a value in both maps
abbrev pub Apart : Writes → Writes → Type 0
Apart d e = (x : Name) → IsSome (found d x) → IsSome (found e x) → ⊥

module _ (sizes : List ℕ) where
  abbrev mutual
    -- run where names stand for what `look` says, the substitution may write the map
    pub Runs : SubstTree → Look → Writes → Type 0
    Runs Skip look d = d ≡ []
    Runs (Assign x e) look d = (v : Value) × (IsValue sizes look e [] v × (d ≡ (x, v) ∷ []))
    Runs (Together a b) look d = (da : Writes) × ((db : Writes) × (Runs a look da × Runs b look db × Apart da db × (d ≡ da ++ db)))
    Runs (Choice ss) look d = RunsOne ss look d
    Runs (If p a b) look d = (Holds sizes look p [] × Runs a look d) ⊎ ((¬ Holds sizes look p []) × Runs b look d)
    Runs (AnyOf z domain p s) look d = (v : Value) × (In sizes domain v × Holds sizes (set_at look z v) p [] × Runs s (set_at look z v) d)

    pub RunsOne : SubstTrees → Look → Writes → Type 0
    RunsOne End look d = ⊥
    RunsOne (More s ss) look d = Runs s look d ⊎ RunsOne ss look d

  abbrev mutual
    -- each choice of a value that is come to has one to choose: not each value of the domain fails the test
    pub Live : SubstTree → Look → Type 0
    Live Skip look = ⊤
    Live (Assign x e) look = ⊤
    Live (Together a b) look = Live a look × Live b look
    Live (Choice ss) look = LiveEach ss look
    Live (If p a b) look = (Holds sizes look p [] → Live a look) × ((¬ Holds sizes look p []) → Live b look)
    Live (AnyOf z domain p s) look =
        (¬ ((v : Value) → In sizes domain v → ¬ Holds sizes (set_at look z v) p []))
        × ((v : Value) → In sizes domain v → Holds sizes (set_at look z v) p [] → Live s (set_at look z v))

    pub LiveEach : SubstTrees → Look → Type 0
    LiveEach End look = ⊤
    LiveEach (More s ss) look = Live s look × LiveEach ss look

-- the formula is one of the other's top conjunction
abbrev pub HasConjunct : FormulaTree → FormulaTree → Type 0
HasConjunct g (tree.And a b) = HasConjunct g a ⊎ HasConjunct g b
HasConjunct g f = f ≡ g

-- whether the substitution assigns to the name
module _ (x : Name) where
  abbrev mutual
    pub writes : SubstTree → Bool
    writes Skip = false
    writes (Assign y e) = same_name x y
    writes (Together a b) = writes a || writes b
    writes (Choice ss) = one_writes ss
    writes (If p a b) = writes a || writes b
    writes (AnyOf z domain p s) = writes s

    pub one_writes : SubstTrees → Bool
    one_writes End = false
    one_writes (More s ss) = writes s || one_writes ss

-- whether the name stands free in the substitution's terms and tests
module _ (x : Name) where
  abbrev mutual
    pub reads : SubstTree → Bool
    reads Skip = false
    reads (Assign y e) = free_in_term x e
    reads (Together a b) = reads a || reads b
    reads (Choice ss) = one_reads ss
    reads (If p a b) = free_in x p || (reads a || reads b)
    reads (AnyOf z domain p s) = not (same_name x z) && (free_in x p || reads s)

    pub one_reads : SubstTrees → Bool
    one_reads End = false
    one_reads (More s ss) = reads s || one_reads ss

-- no name is assigned to by both
abbrev pub WriteApart : SubstTree → SubstTree → Type 0
WriteApart a b = (x : Name) → writes x a ≡ true → writes x b ≡ true → ⊥

module _ (sizes : List ℕ) where
  abbrev mutual
    -- each test of an ANY has the conjunct of its domain, and that is not empty; each CHOICE has a side; sides of `||` write apart
    pub Fits : SubstTree → Type 0
    Fits Skip = ⊤
    Fits (Assign x e) = ⊤
    Fits (Together a b) = WriteApart a b × Fits a × Fits b
    Fits (Choice End) = ⊥
    Fits (Choice (More s ss)) = Fits s × FitEach ss
    Fits (If p a b) = Fits a × Fits b
    Fits (AnyOf z domain p s) = HasConjunct (typing (tree.Var z) domain) p × HasElements sizes domain × Fits s

    pub FitEach : SubstTrees → Type 0
    FitEach End = ⊤
    FitEach (More s ss) = Fits s × FitEach ss
