-- The normal form of a process by those of its parts, which are taken where the names are the same again.
use Rattle.std.proofs.Common.{◌≡◌, ◌<◌, ◌+◌, ℕ, List, drop, length, get_or, refl, sym, ap, ◌∙◌}
use Rattle.cb_lex.specs.declared.raw.event.RawEvent.{RawEvent}
use Rattle.cb_lex.specs.declared.raw.text.RawChannel.{RawChannel}
use Rattle.cb_lex.specs.declared.raw.text.RawMachine.{RawMachine}
use Rattle.cb_lex.specs.RawProcessTree.{RawProcessTree, RawProcesses, NoOperand, Operand, raw_processes}
use Rattle.cb_lex.specs.RawProcessTree as raw
use Rattle.cb_lex.specs.RawTermTree.{RawFormulaTree}
use Rattle.cb_term.proofs.Steps.{drop_step}
use Rattle.cb_term.specs.Tree.{FormulaTree}
use Rattle.cb_spec.specs.declared.event.Event.{Event}
use Rattle.cb_spec.specs.ProcessTree.{ProcessTree}
use Rattle.cb_spec.specs.ProcessTree as tree
use Rattle.cb_judge.specs.declared.names.View.{View}
use Rattle.cb_judge.specs.Meanings.{Names}
use Rattle.cb_normal.specs.Normal.{formula_in}
use Rattle.cb_systems.specs.declared.process.ChainSign.{ChainSign}
use Rattle.cb_systems.specs.declared.process.ChainSign.TheVariants as sign
use Rattle.cb_systems.specs.Joins.{joined, joined_in, chain_in}
use Rattle.cb_text_laws.specs.NormalProcesses.{event_in, process_in, choices_in, internals_in}
use Rattle.cb_text_laws.specs.ProcessFaults.{after_event}
use Rattle.cb_text_laws.specs.Signatures.{Definitions}

module _ (before globals : Names) (ms : List RawMachine) (channels : List RawChannel) (v : View) (own : List ℕ) (ds : Definitions) (names : Names) where
  -- ---- chains

  external_joins : (done : ProcessTree) (ps : RawProcesses) → joined_in sign.External before globals ms channels v own ds names done ps ≡ choices_in before globals ms channels v own ds names done ps
  external_joins done NoOperand = refl
  external_joins done (Operand p ps) = external_joins (tree.Choice done (process_in before globals ms channels v own ds names p)) ps

  internal_joins : (done : ProcessTree) (ps : RawProcesses) → joined_in sign.Internal before globals ms channels v own ds names done ps ≡ internals_in before globals ms channels v own ds names done ps
  internal_joins done NoOperand = refl
  internal_joins done (Operand p ps) = internal_joins (tree.Internal done (process_in before globals ms channels v own ds names p)) ps

  pub external_chain : (ps : RawProcesses) → chain_in sign.External before globals ms channels v own ds names ps ≡ process_in before globals ms channels v own ds names (raw.External ps)
  external_chain NoOperand = refl
  external_chain (Operand p ps) = external_joins (process_in before globals ms channels v own ds names p) ps

  pub internal_chain : (ps : RawProcesses) → chain_in sign.Internal before globals ms channels v own ds names ps ≡ process_in before globals ms channels v own ds names (raw.Internal ps)
  internal_chain NoOperand = refl
  internal_chain (Operand p ps) = internal_joins (process_in before globals ms channels v own ds names p) ps

  -- a further operand is joined to what is done already
  pub joins_step : (s : ChainSign) (g n : Names) (ps : List RawProcessTree) (i : ℕ) (p : RawProcessTree) (done joining : ProcessTree) →
      i < length ps → p ≡ get_or ps i p → g ≡ globals → n ≡ names → joining ≡ joined s done (process_in before g ms channels v own ds n p) →
      joined_in s before globals ms channels v own ds names joining (raw_processes (drop (i + 1) ps)) ≡ joined_in s before globals ms channels v own ds names done (raw_processes (drop i ps))
  joins_step s g n ps i p done joining lt is same_globals same_names step =
      let rest = raw_processes (drop (i + 1) ps) in
      ap (λ (q : ProcessTree). joined_in s before globals ms channels v own ds names q rest)
      (step
      ∙ ap (λ (w : Names). joined s done (process_in before w ms channels v own ds n p)) same_globals
      ∙ ap (λ (w : Names). joined s done (process_in before globals ms channels v own ds w p)) same_names)
      ∙ sym (ap (λ (qs : List RawProcessTree). joined_in s before globals ms channels v own ds names done (raw_processes qs)) (drop_step ps i p lt is))

  -- ---- IF and prefixes

  pub if_of_parts : (g n : Names) (f : RawFormulaTree) (a b : RawProcessTree) (test : FormulaTree) (then other whole : ProcessTree) →
      g ≡ globals → n ≡ names → test ≡ formula_in v n f → then ≡ process_in before g ms channels v own ds n a → other ≡ process_in before globals ms channels v own ds names b →
      whole ≡ tree.If test then other →
      whole ≡ tree.If (formula_in v names f) (process_in before globals ms channels v own ds names a) (process_in before globals ms channels v own ds names b)
  if_of_parts g n f a b test then other whole same_globals same_names is_test is_then is_other is =
      is
      ∙ ap (λ (t : FormulaTree). tree.If t then other) (is_test ∙ ap (λ (w : Names). formula_in v w f) same_names)
      ∙ ap (λ (q : ProcessTree). tree.If (formula_in v names f) q other)
      (is_then
      ∙ ap (λ (w : Names). process_in before w ms channels v own ds n a) same_globals
      ∙ ap (λ (w : Names). process_in before globals ms channels v own ds w a) same_names)
      ∙ ap (tree.If (formula_in v names f) (process_in before globals ms channels v own ds names a)) is_other

  pub prefix_of_parts : (g n : Names) (e : RawEvent) (p : RawProcessTree) (offered : Event) (then whole : ProcessTree) →
      g ≡ globals → n ≡ after_event before globals ms channels v own ds names e → offered ≡ event_in before globals ms channels v own ds names e →
      then ≡ process_in before g ms channels v own ds n p → whole ≡ tree.Prefix offered then →
      whole ≡ process_in before globals ms channels v own ds names (raw.Prefix e p)
  prefix_of_parts g n e p offered then whole same_globals same_names is_event is_then is =
      is
      ∙ ap (λ (o : Event). tree.Prefix o then) is_event
      ∙ ap (tree.Prefix (event_in before globals ms channels v own ds names e))
      (is_then
      ∙ ap (λ (w : Names). process_in before w ms channels v own ds n p) same_globals
      ∙ ap (λ (w : Names). process_in before globals ms channels v own ds w p) same_names)
