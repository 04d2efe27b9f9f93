-- A process has as many prefixes as its text.
use Rattle.std.proofs.Common.{◌≡◌, ℕ, ◌+◌, List, refl, arith}
use Rattle.cb_lex.specs.declared.raw.text.RawChannel.{RawChannel}
use Rattle.cb_lex.specs.declared.raw.text.RawMachine.{RawMachine}
use Rattle.cb_lex.specs.RawProcessTree.{RawProcessTree, RawProcesses}
use Rattle.cb_lex.specs.RawProcessTree as raw
use Rattle.cb_spec.specs.ProcessTree.{ProcessTree, Choice, Internal}
use Rattle.cb_spec.specs.Silent.{prefixes}
use Rattle.cb_judge.specs.declared.names.View.{View}
use Rattle.cb_judge.specs.Meanings.{Names}
use Rattle.cb_text_laws.specs.Signatures.{Definitions}
use Rattle.cb_text_laws.specs.ProcessFaults.{after_event}
use Rattle.cb_text_laws.specs.NormalProcesses.{process_in, choices_in, internals_in}
use Rattle.cb_text_laws.specs.SpelledText.{raw_prefixes, prefixes_of_each}

module _ (before globals : Names) (ms : List RawMachine) (channels : List RawChannel) (v : View) (own : List ℕ) (ds : Definitions) where
  abbrev In : Names → RawProcessTree → ProcessTree
  In = process_in before globals ms channels v own ds

  mutual
    pub prefixes_are : (names : Names) (p : RawProcessTree) → prefixes (In names p) ≡ raw_prefixes p
    prefixes_are names (raw.Stop p) = refl
    prefixes_are names (raw.Skip p) = refl
    prefixes_are names (raw.Call c) = refl
    prefixes_are names (raw.If p f a b) = let l = prefixes_are names a in let r = prefixes_are names b in omega (arith, l, r)
    prefixes_are names (raw.Prefix e a) = let r = prefixes_are (after_event before globals ms channels v own ds names e) a in omega (arith, r)
    prefixes_are names (raw.External raw.NoOperand) = refl
    prefixes_are names (raw.External (raw.Operand p ps)) = let l = prefixes_are names p in let r = choices_are names (In names p) ps in omega (arith, l, r)
    prefixes_are names (raw.Internal raw.NoOperand) = refl
    prefixes_are names (raw.Internal (raw.Operand p ps)) = let l = prefixes_are names p in let r = internals_are names (In names p) ps in omega (arith, l, r)

    choices_are : (names : Names) (done : ProcessTree) (ps : RawProcesses) → prefixes (choices_in before globals ms channels v own ds names done ps) ≡ prefixes done + prefixes_of_each ps
    choices_are names done raw.NoOperand = omega arith
    choices_are names done (raw.Operand p ps) = let l = prefixes_are names p in let r = choices_are names (Choice done (In names p)) ps in omega (arith, l, r)

    internals_are : (names : Names) (done : ProcessTree) (ps : RawProcesses) → prefixes (internals_in before globals ms channels v own ds names done ps) ≡ prefixes done + prefixes_of_each ps
    internals_are names done raw.NoOperand = omega arith
    internals_are names done (raw.Operand p ps) = let l = prefixes_are names p in let r = internals_are names (Internal done (In names p)) ps in omega (arith, l, r)
