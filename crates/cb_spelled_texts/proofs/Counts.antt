-- What is counted in a channel or a controller is no more than its words.
use Rattle.std.proofs.Common.{ℕ, ◌+◌, ◌<◌, ◌≤◌, ◌^◌, List, [], ◌∷◌, ◌++◌, length, Option, Some, None, arith}
use Rattle.std.specs.List.{flat_map}
use Rattle.cb_lex.specs.declared.raw.event.RawEvent.{RawEvent}
use Rattle.cb_lex.specs.declared.raw.event.RawEvent.TheVariants as event
use Rattle.cb_lex.specs.declared.raw.name.RawName.{RawName}
use Rattle.cb_lex.specs.declared.raw.text.RawChannel.{RawChannel}
use Rattle.cb_lex.specs.declared.raw.text.RawController.{RawController}
use Rattle.cb_lex.specs.declared.raw.text.RawDefinition.{RawDefinition}
use Rattle.cb_lex.specs.RawProcessTree.{RawProcessTree, RawProcesses}
use Rattle.cb_lex.specs.RawProcessTree as tree
use Rattle.cb_lex.specs.RawSubstTree as subst
use Rattle.cb_lex.specs.RawTermTree.{RawTermTree, RawFormulaTree}
use Rattle.cb_grammar.specs.declared.actions.TheConstants.{ASSIGN}
use Rattle.cb_amn_parse.specs.Lexemes.{Lexeme, Did}
use Rattle.cb_amn_parse.specs.Formulas.{term_out, terms_out, condition_out}
use Rattle.cb_amn_parse.specs.Processes.{event_out, process_out, operands_out, second_out, others_out, definition_entry, controller_entry, channel_entry}
use Rattle.cb_shapes.specs.Words.{words}
use Rattle.cb_typing.specs.Depths.{term_depth, formula_depth}
use Rattle.cb_typing.specs.WrittenText.{FitsNumbers, IsWrittenFormula}
use Rattle.cb_text_laws.specs.SpelledText.{AreWrittenTerms, IsWrittenEvent, raw_prefixes, prefixes_of_each, AreWrittenChannels}
use Rattle.cb_spelled.proofs.Parts.{words_append, parts_are_words}
use Rattle.cb_spelled.proofs.Depths.{formula_words, subst_words}

below : (m n k : ℕ) → m ≤ n → n < k → m < k
below m n k a b = omega arith

pub few : (m n : ℕ) → m ≤ n → FitsNumbers n → FitsNumbers m
few m n = below m n (2 ^ 32)

pub front_few : (a b : List Lexeme) → FitsNumbers (words (a ++ b)) → FitsNumbers (words a)
front_few a b = few (words a) (words (a ++ b)) (omega (arith, words_append a b))

pub back_few : (a b : List Lexeme) → FitsNumbers (words (a ++ b)) → FitsNumbers (words b)
back_few a b = few (words b) (words (a ++ b)) (omega (arith, words_append a b))

-- ---- terms and conditions

-- a term goes no deeper than the assignment of it
term_words : (x : RawName) (t : RawTermTree) → term_depth t ≤ words (term_out t) + 1
term_words x t = let h = subst_words (subst.Assign x t) in omega (arith, h, words_append (term_out t) (Did ASSIGN ∷ []))

-- terms behind a name
pub terms_written : (x : RawName) (ts : List RawTermTree) → FitsNumbers (words (terms_out ts) + 1) → AreWrittenTerms ts
terms_written x [] h = tt
terms_written x (t ∷ ts) h = (
  few (term_depth t) (words (terms_out (t ∷ ts)) + 1) (simp words_append (omega (arith, term_words x t))) h,
  terms_written x ts (few (words (terms_out ts) + 1) (words (terms_out (t ∷ ts)) + 1) (simp words_append (omega arith)) h),
)

pub condition_written : (f : Option RawFormulaTree) → FitsNumbers (words (condition_out f)) → IsWrittenFormula f
condition_written None h = tt
condition_written (Some f) h = few (formula_depth f) (words (condition_out (Some f))) (simp words_append (omega (arith, formula_words f))) h

-- ---- events and channels

pub event_written : (e : RawEvent) → FitsNumbers (words (event_out e)) → IsWrittenEvent e
event_written (event.Output x ts f) h = (
  terms_written x ts (few (words (terms_out ts) + 1) (words (event_out (event.Output x ts f))) (simp words_append (omega arith)) h),
  condition_written f (few (words (condition_out f)) (words (event_out (event.Output x ts f))) (simp words_append (omega arith)) h),
)
event_written (event.Input x xs f) h = condition_written f (few (words (condition_out f)) (words (event_out (event.Input x xs f))) (simp words_append (omega arith)) h)
event_written (event.Operation m o ts xs) h =
    terms_written m ts (few (words (terms_out ts) + 1) (words (event_out (event.Operation m o ts xs))) (simp words_append (omega arith)) h)

pub channels_written : (cs : List RawChannel) → FitsNumbers (words (flat_map channel_entry cs)) → AreWrittenChannels cs
channels_written [] h = tt
channels_written (c ∷ cs) h = (
  condition_written c.condition (few (words (condition_out c.condition)) (words (channel_entry c)) (simp words_append (omega arith)) (front_few (channel_entry c) (flat_map channel_entry cs) h)),
  channels_written cs (back_few (channel_entry c) (flat_map channel_entry cs) h),
)

pub channels_are_words : (cs : List RawChannel) → length cs ≤ words (flat_map channel_entry cs)
channels_are_words cs = parts_are_words channel_entry (λ c. simp words_append (omega arith)) cs

pub definitions_are_words : (ds : List RawDefinition) → length ds ≤ words (flat_map definition_entry ds)
definitions_are_words ds = parts_are_words definition_entry (λ d. simp words_append (omega arith)) ds

pub controllers_are_words : (cs : List RawController) → length cs ≤ words (flat_map controller_entry cs)
controllers_are_words cs = parts_are_words controller_entry (λ c. simp words_append (omega arith)) cs

-- ---- prefixes

event_words : (e : RawEvent) → 1 ≤ words (event_out e)
event_words (event.Output x ts f) = simp words_append (omega arith)
event_words (event.Input x xs f) = simp words_append (omega arith)
event_words (event.Operation m o ts xs) = simp words_append (omega arith)

mutual
  pub prefix_words : (p : RawProcessTree) → raw_prefixes p ≤ words (process_out p)
  prefix_words (tree.Stop p) = omega arith
  prefix_words (tree.Skip p) = omega arith
  prefix_words (tree.Call c) = omega arith
  prefix_words (tree.If p f a b) = simp words_append (omega (arith, prefix_words a, prefix_words b))
  prefix_words (tree.Prefix e a) = simp words_append (omega (arith, event_words e, prefix_words a))
  prefix_words (tree.External ps) = simp words_append (omega (arith, operand_words ps))
  prefix_words (tree.Internal ps) = simp words_append (omega (arith, operand_words ps))

  operand_words : (ps : RawProcesses) → prefixes_of_each ps ≤ words (operands_out ps)
  operand_words tree.NoOperand = omega arith
  operand_words (tree.Operand p ps) = simp words_append (omega (arith, prefix_words p, second_words ps))

  second_words : (ps : RawProcesses) → prefixes_of_each ps ≤ words (second_out ps)
  second_words tree.NoOperand = omega arith
  second_words (tree.Operand p ps) = simp words_append (omega (arith, prefix_words p, other_words ps))

  other_words : (ps : RawProcesses) → prefixes_of_each ps ≤ words (others_out ps)
  other_words tree.NoOperand = omega arith
  other_words (tree.Operand p ps) = simp words_append (omega (arith, prefix_words p, other_words ps))
