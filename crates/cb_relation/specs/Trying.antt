-- How a value is sought that meets a test, and what is known of names meanwhile.
use Rattle.std.specs.Prelude.{ℕ, ◌≡◌, List, []}
use Rattle.cb_term.specs.declared.name.Name.{Name}
use Rattle.cb_term.specs.declared.kind.Domain.{Domain}
use Rattle.cb_term.specs.declared.value.Value.{Value}
use Rattle.cb_term.specs.Tree.{FormulaTree}
use Rattle.cb_term.specs.Values.{Look, set_at}
use Rattle.cb_term.specs.Holds.{Holds}
use Rattle.cb_spec.specs.Stores.{Writes, look_of}
use Rattle.cb_spec.specs.Domains.{In}
use Rattle.cb_eval.specs.TypedIn.{TypedIn}
use Rattle.cb_relation.specs.declared.known.Known.{Known}
use Rattle.cb_relation.specs.declared.known.Known.TheVariants.{Given, Own}

-- what names stand for
abbrev pub writes_of : Known → Writes
writes_of (Given store) = store.now
writes_of (Own store) = store

abbrev pub look_in : Known → Look
look_in known = look_of (writes_of known)

-- the test is typed whichever value of the domain the name has
abbrev pub TypedForEach : List ℕ → Look → Name → Domain → FormulaTree → Type 0
TypedForEach sizes look z domain p = (v : Value) → In sizes domain v → TypedIn sizes (set_at look z v) p

-- not each value of the domain fails the test
abbrev pub SomeMeets : List ℕ → Look → Name → Domain → FormulaTree → Type 0
SomeMeets sizes look z domain p = ¬ ((v : Value) → In sizes domain v → ¬ Holds sizes (set_at look z v) p [])

-- the name has a value of the domain that meets the test, and other names stand for what they did
abbrev pub IsChosen : List ℕ → (old new : Look) → Name → Domain → FormulaTree → Type 0
IsChosen sizes old new z domain p =
    (v : Value) × (In sizes domain v × Holds sizes (set_at old z v) p [] × (new ≡ set_at old z v))
