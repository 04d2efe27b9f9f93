-- Domains of sets, by the domain of their elements.
use Rattle.std.specs.Prelude.{ℕ, Option, Some, None}
use Rattle.cb_term.specs.declared.kind.Domain.{Domain}
use Rattle.cb_term.specs.declared.kind.Domain.TheVariants as domain
use Rattle.cb_judge.specs.declared.domain.Choice.{Choice as Chosen}
use Rattle.cb_judge.specs.Choices.{choice}

abbrev pub sets_within : Domain → ℕ → Option Chosen
sets_within (domain.Range lo hi) size = Some (choice (domain.Subsets lo hi) size)
sets_within (domain.Elems set) size = Some (choice (domain.ElemSubsets set) size)
sets_within d size = None

abbrev pub sets_of : Option Chosen → Option Chosen
sets_of None = None
sets_of (Some c) = sets_within c.domain c.size
