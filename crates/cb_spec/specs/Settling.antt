-- How a process is resolved. `sizes` has the number of elements of each enumerated set.
use Rattle.std.specs.Prelude.{ℕ, zero, suc, ◌+◌, ◌*◌, ◌≡◌, ◌⊎◌, Bool, true, false, List, [], ◌∷◌, ◌++◌, ⊤}
use Rattle.cb_term.specs.declared.value.Value.{Value}
use Rattle.cb_term.specs.Tree.{TermTree}
use Rattle.cb_term.specs.Values.{Look}
use Rattle.cb_term.specs.Holds.{Holds, IsValue}
use Rattle.cb_spec.specs.declared.system.Definition.{Definition}
use Rattle.cb_spec.specs.ProcessTree.{ProcessTree, Stop, Skip, Call, Prefix, Choice, Internal, If}
use Rattle.cb_spec.specs.Bound.{names, bound_look}
use Rattle.cb_spec.specs.States.{IsAt, BranchView, ControlView, Offering, Done}

-- the values of the terms, in order
abbrev pub AreValues : List ℕ → Look → List TermTree → List Value → Type 0
AreValues sizes look [] [] = ⊤
AreValues sizes look [] (v ∷ vs) = ⊥
AreValues sizes look (t ∷ ts) [] = ⊥
AreValues sizes look (t ∷ ts) (v ∷ vs) = IsValue sizes look t [] v × AreValues sizes look ts vs

-- the sides that are taken, true for a right one, as a number: the first is the lowest bit
abbrev pub number_of : List Bool → ℕ
number_of [] = 0
number_of (false ∷ sides) = 2 * number_of sides
number_of (true ∷ sides) = 1 + 2 * number_of sides

-- the process is resolved to the control, its internal choices taking these sides in order. A call that stands inside n others
-- is resolved as its definition's body
abbrev pub Settles : List ℕ → List Definition → (n : ℕ) → ProcessTree → Look → List Bool → ControlView → Type 0
Settles sizes ds n Stop env sides c = (sides ≡ []) × (c ≡ Offering [])
Settles sizes ds n Skip env sides c = (sides ≡ []) × (c ≡ Done)
Settles sizes ds n (Prefix e p) env sides c = (sides ≡ []) × (c ≡ Offering (record { event = e; next = p; env = env } ∷ []))
Settles sizes ds n (Choice p q) env sides c =
    (left : List BranchView) × ((right : List BranchView) × ((us : List Bool) × ((ws : List Bool)
    × (Settles sizes ds n p env us (Offering left) × Settles sizes ds n q env ws (Offering right) × (sides ≡ us ++ ws) × (c ≡ Offering (left ++ right))))))
Settles sizes ds n (Internal p q) env [] c = ⊥
Settles sizes ds n (Internal p q) env (false ∷ sides) c = Settles sizes ds n p env sides c
Settles sizes ds n (Internal p q) env (true ∷ sides) c = Settles sizes ds n q env sides c
Settles sizes ds n (If f p q) env sides c =
    (Holds sizes env f [] × Settles sizes ds n p env sides c) ⊎ ((¬ Holds sizes env f []) × Settles sizes ds n q env sides c)
Settles sizes ds zero (Call k ts) env sides c = ⊥
Settles sizes ds (suc n) (Call k ts) env sides c =
    (d : Definition) × ((vs : List Value) × (IsAt ds k d × AreValues sizes env ts vs × Settles sizes ds n d.body (bound_look (names d.params) vs) sides c))
