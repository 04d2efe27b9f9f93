-- What is true of every domain and every substitution.
use Rattle.std.specs.Prelude.{ℕ, ◌≡◌, true, ◌↔◌, List, [], IsSome}
use Rattle.cb_term.specs.declared.name.Name.{Name}
use Rattle.cb_term.specs.declared.kind.Domain.{Domain}
use Rattle.cb_term.specs.Tree.{Var}
use Rattle.cb_term.specs.Values.{Look, IsOf}
use Rattle.cb_term.specs.Holds.{Holds}
use Rattle.cb_spec.specs.SubstTree.{SubstTree, Together}
use Rattle.cb_spec.specs.Stores.{Writes, found}
use Rattle.cb_spec.specs.Domains.{kind_of_domain, In, typing}
use Rattle.cb_spec.specs.Runs.{Apart, Runs, Live, writes, reads, Fits}

-- a value is in a domain where it is of the domain's kind and the typing conjunct holds
abbrev pub DomainIsItsTyping : Type 0
DomainIsItsTyping = (sizes : List ℕ) (domain : Domain) (look : Look) (x : Name) →
    In sizes domain (look x) ↔ (IsOf sizes (kind_of_domain domain) (look x) × Holds sizes look (typing (Var x) domain) [])

-- a run writes to no name but those that are assigned to
abbrev pub RunsWriteTargets : Type 0
RunsWriteTargets = (sizes : List ℕ) (s : SubstTree) (look : Look) (d : Writes) → Runs sizes s look d → (x : Name) → IsSome (found d x) → writes x s ≡ true

-- so maps of the two sides of a `||` that fits have no name in common
abbrev pub SidesRunApart : Type 0
SidesRunApart = (sizes : List ℕ) (a b : SubstTree) (look : Look) (d e : Writes) → Fits sizes (Together a b) →
    Runs sizes a look d → Runs sizes b look e → Apart d e

-- a substitution that fits and is live cannot be without a run
abbrev pub LiveHasRun : Type 0
LiveHasRun = (sizes : List ℕ) (s : SubstTree) (look : Look) → Fits sizes s → Live sizes s look → ¬ ((d : Writes) → ¬ Runs sizes s look d)

-- a substitution that cannot fail to be live is live
abbrev pub LiveIsStable : Type 0
LiveIsStable = (sizes : List ℕ) (s : SubstTree) (look : Look) → ¬ ¬ Live sizes s look → Live sizes s look

-- a run depends on the names alone that stand free in terms and tests
abbrev pub RunsReadNames : Type 0
RunsReadNames = (sizes : List ℕ) (s : SubstTree) (look look' : Look) → ((y : Name) → reads y s ≡ true → look y ≡ look' y) →
    (d : Writes) → Runs sizes s look d → Runs sizes s look' d

-- so does what is live
abbrev pub LiveReadsNames : Type 0
LiveReadsNames = (sizes : List ℕ) (s : SubstTree) (look look' : Look) → ((y : Name) → reads y s ≡ true → look y ≡ look' y) →
    Live sizes s look → Live sizes s look'
