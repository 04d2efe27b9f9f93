-- On a stack that has its chains, each chain has two operands or more.
use Rattle.std.proofs.Common.{◌≡◌, ℕ, ◌+◌, ◌≤◌, List, [], ◌∷◌, ◌++◌, refl, ap, ◌∙◌, append_assoc, map, reverse, eqb, arith}
use Rattle.std.specs.Prelude.{Option, Some, None}
use Rattle.std.proofs.lemmas.List.{map-append, reverse-append}
use Rattle.cb_lex.specs.declared.raw.name.RawName.{RawName}
use Rattle.cb_lex.specs.declared.raw.text.RawText.{RawText}
use Rattle.cb_lex.specs.RawProcessTree.{RawProcessTree, raw_processes}
use Rattle.cb_lex.specs.RawSubstTree.{raw_substs}
use Rattle.cb_grammar.specs.declared.actions.TheConstants.{APPEND_PROCESS}
use Rattle.cb_grammar.specs.Signatures.{process_kind, chain_kind}
use Rattle.cb_amn_parse.specs.declared.value.Value.{Value}
use Rattle.cb_amn_parse.specs.declared.value.Value.TheVariants as value
use Rattle.cb_amn_parse.specs.Lexemes.{Lexeme, Did}
use Rattle.cb_amn_parse.specs.Formulas.{formula_out, term_out, terms_out, names_out, condition_out}
use Rattle.cb_amn_parse.specs.Machines.{literal_out, end_out, bound_out, domain_out, subst_out, sides_out, sets_out, properties_out, state_out, operations_out, machine_out}
use Rattle.cb_amn_parse.specs.Processes.{process_out, operands_out, event_out, parameter_out, machines_out, rest_out, text_out}
use Rattle.cb_amn_parse.specs.Proofs.{obligation_out, row_out, rows_out, node_out, nodes_out, proofs_out}
use Rattle.cb_amn_parse.specs.Values.{value_out, kind_of, stack_out, kinds_of}
use Rattle.cb_amn_parse.proofs.Building.{Term, Literal, End, Bound, Subst, Sides, Sets, Properties, State, Operations}
use Rattle.cb_csp_parse.specs.Begun.{one, firsts, lasts, chains, HasItsChains}
use Rattle.cb_csp_parse.proofs.Appending.{others_last}
use Rattle.cb_csp_parse.proofs.MachinesAgain.{go_term, go_literal, go_end, go_bound, go_subst, go_choice, side_list, go_sets, go_properties, go_state, go_operations}
use Rattle.cb_csp_parse.proofs.TextsAgain.{short}
use Rattle.cb_csp_parse.proofs.Chains.{Quiet, quiet, firsts_append, lasts_append, chains_append, formula_quiet, terms_quiet, names_quiet, condition_quiet, domain_quiet, machine_quiet, event_quiet, parameter_quiet, parameters_quiet, channels_quiet, machines_quiet, process_lacks, operands_lack, definitions_lack, controller_lacks, controllers_lack}
use Rattle.cb_csp_parse.proofs.ProofsQuiet.{obligation_quiet, row_quiet, rows_quiet, node_quiet, nodes_quiet, proofs_quiet}

no_more : (ls : List Lexeme) (n : ℕ) → Quiet ls → firsts ls ≤ lasts ls + n
no_more ls n q = omega (arith, q.0)

rest_least : (t : RawText) (order : Option (List RawName)) → firsts (rest_out t order) ≤ lasts (rest_out t order)
rest_least t None = omega arith
rest_least t (Some order) =
    let a = channels_quiet t.channels in
    let b = names_quiet order in
    let x = controllers_lack t.controllers in
    simp (firsts_append, lasts_append) (omega (arith, a.0, a.1, b.0, b.1, x))

text_least : (t : RawText) → firsts (text_out t) ≤ lasts (text_out t)
text_least t =
    let m = machines_quiet t.machines in
    let r = rest_least t t.order in
    let a = firsts_append (machines_out t.machines) (rest_out t t.order) in
    let b = lasts_append (machines_out t.machines) (rest_out t t.order) in
    omega (arith, m.0, m.1, r, a, b)

-- no value begins more chains than it ends, but a chain
value_least : (v : Value) → firsts (value_out v) ≤ lasts (value_out v) + one (eqb (kind_of v) chain_kind)
value_least (value.Name x) = omega arith
value_least (value.Number n p) = omega arith
value_least (value.Limit l p) = omega arith
value_least (value.Truth b p) = omega arith
value_least (value.SetWord s p) = omega arith
value_least (value.Relation r p) = omega arith
value_least (value.Operator o p) = omega arith
value_least (value.Card p) = omega arith
value_least (value.Bool p) = omega arith
value_least (value.Brace p) = omega arith
value_least (value.Stop p) = omega arith
value_least (value.Skip p) = omega arith
value_least (value.If p) = omega arith
value_least (value.Initialisation p) = omega arith
value_least (value.Start p) = omega arith
value_least (value.Formula f) = no_more (formula_out f) 0 (formula_quiet f)
value_least (value.Term t) = no_more (term_out t) 0 (quiet (term_out t) [] (Term t ∷ []) (go_term t []))
value_least (value.Terms ts) = no_more (terms_out ts) 0 (terms_quiet ts)
value_least (value.Names xs) = no_more (names_out xs) 0 (names_quiet xs)
value_least (value.Condition c) = no_more (condition_out c) 0 (condition_quiet c)
value_least (value.Literal l) = no_more (literal_out l) 0 (quiet (literal_out l) [] (Literal l ∷ []) (go_literal l []))
value_least (value.End e) = no_more (end_out e) 0 (quiet (end_out e) [] (End e ∷ []) (go_end e []))
value_least (value.Bound b) = no_more (bound_out b) 0 (quiet (bound_out b) [] (Bound b ∷ []) (go_bound b []))
value_least (value.Domain d) = no_more (domain_out d) 0 (domain_quiet d)
value_least (value.Subst s) = no_more (subst_out s) 0 (quiet (subst_out s) [] (Subst s ∷ []) (go_subst s []))
value_least (value.Sides ss) = no_more (sides_out ss) 0 (quiet (sides_out ss) [] (Sides (side_list (raw_substs ss)) ∷ []) (go_choice (raw_substs ss) [] []))
value_least (value.Sets ss) = no_more (sets_out ss) 0 (quiet (sets_out ss) [] (Sets ss ∷ []) (go_sets ss []))
value_least (value.Properties ps) = no_more (properties_out ps) 0 (quiet (properties_out ps) [] (Properties ps ∷ []) (go_properties ps []))
value_least (value.State s) = no_more (state_out s) 0 (quiet (state_out s) [] (State s ∷ []) (go_state s []))
value_least (value.Operations os) = no_more (operations_out os) 0 (quiet (operations_out os) [] (Operations os ∷ []) (go_operations os []))
value_least (value.Machine m) = no_more (machine_out m) 0 (machine_quiet m)
value_least (value.Machines ms) = let a = machines_quiet ms in omega (arith, a.0)
value_least (value.Channels cs) = let a = channels_quiet cs in omega (arith, a.0)
value_least (value.Parameter p) = no_more (parameter_out p) 0 (parameter_quiet p)
value_least (value.Parameters ps) = let a = parameters_quiet ps in omega (arith, a.0)
value_least (value.Event e) = no_more (event_out e) 0 (event_quiet e)
value_least (value.Process p) = let a = process_lacks p in omega (arith, a)
value_least (value.Chain ps) = let a = operands_lack (raw_processes ps) in omega (arith, a)
value_least (value.Definitions ds) = let a = definitions_lack ds in omega (arith, a)
value_least (value.Controller c) = let a = controller_lacks c in omega (arith, a)
value_least (value.Controllers cs) = let a = controllers_lack cs in omega (arith, a)
value_least (value.Text t) = let a = text_least t in omega (arith, a)
value_least (value.Obligation o) = no_more (obligation_out o) 0 (obligation_quiet o)
value_least (value.Row r) = no_more (row_out r) 0 (row_quiet r)
value_least (value.Rows rs) = no_more (rows_out rs) 0 (rows_quiet rs)
value_least (value.Node c) = no_more (node_out c) 0 (node_quiet c)
value_least (value.Nodes cs) = no_more (nodes_out cs.items) 0 (nodes_quiet cs.items)
value_least (value.Proofs ps) = no_more (proofs_out ps) 0 (proofs_quiet ps)

chains_reverse : (s : List Value) → chains (kinds_of s) ≡ chains (map kind_of s)
chains_reverse [] = refl
chains_reverse (v ∷ s) =
    let h = chains_reverse s in
    let r : kinds_of (v ∷ s) ≡ kinds_of s ++ kind_of v ∷ [] = ap (map kind_of) (reverse-append (v ∷ []) s) ∙ map-append kind_of (reverse s) (v ∷ []) in
    let a : chains (kinds_of (v ∷ s)) ≡ chains (kinds_of s ++ kind_of v ∷ []) = ap chains r in
    let b = chains_append (kinds_of s) (kind_of v ∷ []) in
    omega (arith, h, a, b)

stack_least : (s : List Value) → firsts (stack_out s) ≤ lasts (stack_out s) + chains (map kind_of s)
stack_least [] = omega arith
stack_least (v ∷ s) =
    let h = stack_least s in
    let x = value_least v in
    let a = firsts_append (value_out v) (stack_out s) in
    let b = lasts_append (value_out v) (stack_out s) in
    omega (arith, h, x, a, b)

-- one more at the end of two or more
more_operands : (ps : List RawProcessTree) (p : RawProcessTree) → short (raw_processes ps) ≡ 0 →
    operands_out (raw_processes (ps ++ p ∷ [])) ≡ operands_out (raw_processes ps) ++ process_out p ++ Did APPEND_PROCESS ∷ []
more_operands [] p e = absurd (omega (arith, e))
more_operands (a ∷ []) p e = absurd (omega (arith, e))
more_operands (a ∷ (b ∷ ps)) p e = let h = others_last ps p in rw h (simp append_assoc refl)

pub appended_process : (old rest : List Value) (ks : List ℕ) (s : List Lexeme) (ps us : List RawProcessTree) (p : RawProcessTree) →
    HasItsChains old → stack_out old ≡ s ++ process_out p → s ≡ stack_out rest ++ operands_out (raw_processes ps) → kinds_of old ≡ process_kind ∷ ks → ks ≡ chain_kind ∷ kinds_of rest → us ≡ ps ++ p ∷ [] →
    stack_out rest ++ operands_out (raw_processes us) ≡ stack_out old ++ Did APPEND_PROCESS ∷ []
appended_process old rest ks s ps us p has below under top next longer =
    let e : stack_out old ≡ (stack_out rest ++ operands_out (raw_processes ps)) ++ process_out p = below ∙ ap (λ (y : List Lexeme). y ++ process_out p) under in
    let fa : firsts (stack_out old) ≡ firsts ((stack_out rest ++ operands_out (raw_processes ps)) ++ process_out p) = ap firsts e in
    let la : lasts (stack_out old) ≡ lasts ((stack_out rest ++ operands_out (raw_processes ps)) ++ process_out p) = ap lasts e in
    let fb = firsts_append (stack_out rest ++ operands_out (raw_processes ps)) (process_out p) in
    let lb = lasts_append (stack_out rest ++ operands_out (raw_processes ps)) (process_out p) in
    let fc = firsts_append (stack_out rest) (operands_out (raw_processes ps)) in
    let lc = lasts_append (stack_out rest) (operands_out (raw_processes ps)) in
    let k : chains (kinds_of old) ≡ chains (process_kind ∷ (chain_kind ∷ kinds_of rest)) = ap chains (top ∙ ap (λ (y : List ℕ). process_kind ∷ y) next) in
    let x = process_lacks p in
    let y = operands_lack (raw_processes ps) in
    let z = stack_least rest in
    let r = chains_reverse rest in
    let full : short (raw_processes ps) ≡ 0 = omega (arith, has, fa, la, fb, lb, fc, lc, k, x, y, z, r) in
    let l = more_operands ps p full in
    rw (longer, l, e) (simp append_assoc refl)
