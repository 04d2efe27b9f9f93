-- The operations of all machines, by their names.
use Rattle.std.specs.Prelude.{ℕ, ◌≡◌, List, Option, Some, None, slice_get}
use Rattle.cb_lex.specs.declared.raw.text.RawMachine.{RawMachine}
use Rattle.cb_forms.specs.Find.{found}
use Rattle.cb_judge.specs.Meanings.{Names}
use Rattle.cb_text_laws.specs.Signatures.{Callee, callee_at}

-- for each machine its operations
abbrev pub Callees : Type 0
Callees = List (List (List ℕ × Callee))

abbrev pub among : Option (List (List ℕ × Callee)) → List ℕ → Option Callee
among None x = None
among (Some os) x = found x os

-- the operation of this name of the machine with this number
abbrev pub callee_among : Callees → Option ℕ → List ℕ → Option Callee
callee_among os None x = None
callee_among os (Some k) x = among (slice_get os k) x

-- the operations are those of the machines
abbrev pub AreCallees : (before globals : Names) → List RawMachine → Callees → Type 0
AreCallees before globals ms os = (k : Option ℕ) (x : List ℕ) → callee_among os k x ≡ callee_at before globals ms k x
