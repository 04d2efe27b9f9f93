-- In a text that is read each chain has two operands or more.
use Rattle.std.proofs.Common.{◌≡◌, ℕ, zero, suc, ◌+◌, Bool, true, false, not, ◌&&◌, ◌||◌, List, [], ◌∷◌, ◌++◌, refl, ap, ◌∙◌, cond, eqb, arith}
use Rattle.std.specs.Prelude.{Option, Some, None, slice_get, slice_index}
use Rattle.std.specs.List.{flat_map}
use Rattle.cb_lex.specs.declared.token.Token.{Token}
use Rattle.cb_lex.specs.declared.token.Sort.{Sort}
use Rattle.cb_lex.specs.declared.token.Sort.TheVariants as sort
use Rattle.cb_lex.specs.declared.raw.domain.RawDomain.{RawDomain}
use Rattle.cb_lex.specs.declared.raw.domain.RawParam.{RawParam}
use Rattle.cb_lex.specs.declared.raw.domain.RawParam.TheVariants as param
use Rattle.cb_lex.specs.declared.raw.event.RawEvent.{RawEvent}
use Rattle.cb_lex.specs.declared.raw.event.RawEvent.TheVariants as event
use Rattle.cb_lex.specs.declared.raw.name.RawName.{RawName}
use Rattle.cb_lex.specs.declared.raw.text.RawText.{RawText}
use Rattle.cb_lex.specs.declared.raw.text.RawMachine.{RawMachine}
use Rattle.cb_lex.specs.declared.raw.text.RawChannel.{RawChannel}
use Rattle.cb_lex.specs.declared.raw.text.RawController.{RawController}
use Rattle.cb_lex.specs.declared.raw.text.RawDefinition.{RawDefinition}
use Rattle.cb_lex.specs.RawTermTree.{RawTermTree, RawFormulaTree}
use Rattle.cb_lex.specs.RawProcessTree.{RawProcessTree, RawProcesses}
use Rattle.cb_lex.specs.RawProcessTree as tree
use Rattle.cb_engine.specs.declared.Item.{Item}
use Rattle.cb_engine.specs.declared.Item.TheVariants.{Word, Do}
use Rattle.cb_engine.specs.Rules.{group}
use Rattle.cb_engine.specs.Kinds.{Effect, effect_or, kinds, signature, all_lead}
use Rattle.cb_engine.specs.Leading.{tested, led}
use Rattle.cb_engine.specs.Deciding.{both}
use Rattle.cb_grammar.specs.declared.actions.TheConstants.{APPEND_MACHINE, APPEND_CONTROLLER, FIRST_TWO, EXTERNAL, INTERNAL}
use Rattle.cb_grammar.specs.declared.parts.Part.{Part}
use Rattle.cb_grammar.specs.declared.parts.Part.TheVariants as part
use Rattle.cb_grammar.specs.declared.table.TheConstants.{GRAMMAR}
use Rattle.cb_grammar.specs.Misreadings.{language, IsRead}
use Rattle.cb_grammar.specs.Parts.{kinds_left}
use Rattle.cb_grammar.specs.Signatures.{signatures, actions, word_kinds, chain_kind}
use Rattle.cb_grammar.proofs.PartsFit.{part_fits}
use Rattle.cb_amn_parse.specs.declared.value.Value.{Value}
use Rattle.cb_amn_parse.specs.Values.{stack_out, kinds_of}
use Rattle.cb_amn_parse.specs.Lexemes.{Lexeme, Named, Said, Did, Lost, heard, heard_at, lexemes}
use Rattle.cb_amn_parse.specs.Formulas.{formula_out, terms_out, names_out, condition_out}
use Rattle.cb_amn_parse.specs.Machines.{domain_out, machine_out}
use Rattle.cb_amn_parse.specs.Processes.{process_out, operands_out, others_out, event_out, parameter_out, parameter_entry, definition_entry, controller_out, controller_entry, channel_entry, machine_entry, machines_out, rest_out, text_out}
use Rattle.cb_amn_parse.specs.Spelling.{IsSpelled}
use Rattle.cb_amn_parse.proofs.Building.{Built, Formula, Terms, Names, Condition, Domain, Machine, told}
use Rattle.cb_csp_parse.specs.TextKinds.{are_of_texts}
use Rattle.cb_csp_parse.specs.Laws.{StandsAlone}
use Rattle.cb_csp_parse.specs.Begun.{one, begins, ends, is_first, is_last, firsts, lasts, chains, HasItsChains}
use Rattle.cb_csp_parse.proofs.TextOwning.{fitting}
use Rattle.cb_csp_parse.proofs.MachinesAgain.{is_new, is_new_lexeme, go, go_formula, go_terms, go_names, go_condition, go_domain, go_machine}
use Rattle.cb_csp_parse.proofs.TextsAgain.{stays, short, process_shorts, operand_shorts, definition_shorts, controller_shorts}

pub firsts_append : (a b : List Lexeme) → firsts (a ++ b) ≡ firsts a + firsts b
firsts_append [] b = omega arith
firsts_append (x ∷ a) b = let h = firsts_append a b in omega (arith, h)

pub lasts_append : (a b : List Lexeme) → lasts (a ++ b) ≡ lasts a + lasts b
lasts_append [] b = omega arith
lasts_append (x ∷ a) b = let h = lasts_append a b in omega (arith, h)

differs : (a n : ℕ) → is_new n ≡ true → is_new a ≡ false → eqb a n ≡ false
differs a n t f = pick (eqb a n) refl
  where
    equal : eqb a n ≡ true → a ≡ n
    equal e = grind arith

    pick : (b : Bool) → eqb a n ≡ b → b ≡ false
    pick false e = refl
    pick true e = let h : a ≡ n = equal e in absurd (clash h)
      where
        clash : a ≡ n → ⊥
        clash h = let g : is_new n ≡ false = rw (← h) f in absurd (cc)

none_of : (a b : Bool) → a ≡ false → b ≡ false → (a || b) ≡ false
none_of a b e f = rw (e, f) refl

old_first : (x : Lexeme) → is_new_lexeme x ≡ false → is_first x ≡ false
old_first (Did a) e = differs a FIRST_TWO refl e
old_first (Named x) e = refl
old_first (Said w p) e = refl
old_first Lost e = refl

old_last : (x : Lexeme) → is_new_lexeme x ≡ false → is_last x ≡ false
old_last (Did a) e = none_of (eqb a EXTERNAL) (eqb a INTERNAL) (differs a EXTERNAL refl e) (differs a INTERNAL refl e)
old_last (Named x) e = refl
old_last (Said w p) e = refl
old_last Lost e = refl

abbrev pub Quiet : List Lexeme → Type 0
Quiet ls = (firsts ls ≡ 0) × (lasts ls ≡ 0)

pub more_quiet : (x : Lexeme) (ls : List Lexeme) → is_first x ≡ false → is_last x ≡ false → Quiet ls → Quiet (x ∷ ls)
more_quiet x ls e f q = (rw (e, q.0) refl, rw (f, q.1) refl)

pub quiet_append : (a b : List Lexeme) → Quiet a → Quiet b → Quiet (a ++ b)
quiet_append a b p q = (rw (firsts_append a b, p.0, q.0) refl, rw (lasts_append a b, p.1, q.1) refl)

-- what is written for parts of machines has neither
pub quiet : (ls : List Lexeme) (s t : List Built) → go ls (Some s) ≡ Some t → Quiet ls
quiet [] s t e = (refl, refl)
quiet (x ∷ ls) s t e = pick (is_new_lexeme x) refl e (quiet ls (told x s) t)
  where
    pick : (b : Bool) → is_new_lexeme x ≡ b → go ls (cond b None (Some (told x s))) ≡ Some t → (go ls (Some (told x s)) ≡ Some t → Quiet ls) → Quiet (x ∷ ls)
    pick true n e f = absurd (stays ls t e)
    pick false n e f = more_quiet x ls (old_first x n) (old_last x n) (f e)

pub formula_quiet : (f : RawFormulaTree) → Quiet (formula_out f)
formula_quiet f = quiet (formula_out f) [] (Formula f ∷ []) (go_formula f [])

pub terms_quiet : (ts : List RawTermTree) → Quiet (terms_out ts)
terms_quiet ts = quiet (terms_out ts) [] (Terms ts ∷ []) (go_terms ts [])

pub names_quiet : (xs : List RawName) → Quiet (names_out xs)
names_quiet xs = quiet (names_out xs) [] (Names xs ∷ []) (go_names xs [])

pub condition_quiet : (c : Option RawFormulaTree) → Quiet (condition_out c)
condition_quiet c = quiet (condition_out c) [] (Condition c ∷ []) (go_condition c [])

pub domain_quiet : (d : RawDomain) → Quiet (domain_out d)
domain_quiet d = quiet (domain_out d) [] (Domain d ∷ []) (go_domain d [])

pub machine_quiet : (m : RawMachine) → Quiet (machine_out m)
machine_quiet m = quiet (machine_out m) [] (Machine m ∷ []) (go_machine m [])

pub event_quiet : (e : RawEvent) → Quiet (event_out e)
event_quiet (event.Output x ts c) =
    let a = terms_quiet ts in
    let b = condition_quiet c in
    (simp (firsts_append, a.0, b.0) refl, simp (lasts_append, a.1, b.1) refl)
event_quiet (event.Input x xs c) =
    let a = names_quiet xs in
    let b = condition_quiet c in
    (simp (firsts_append, a.0, b.0) refl, simp (lasts_append, a.1, b.1) refl)
event_quiet (event.Operation m o ts rs) =
    let a = terms_quiet ts in
    let b = names_quiet rs in
    (simp (firsts_append, a.0, b.0) refl, simp (lasts_append, a.1, b.1) refl)

-- as many chains are ended and not begun as have fewer than two operands
mutual
  pub process_lacks : (p : RawProcessTree) → firsts (process_out p) + process_shorts p ≡ lasts (process_out p)
  process_lacks (tree.Stop p) = refl
  process_lacks (tree.Skip p) = refl
  process_lacks (tree.Call c) =
      let a = terms_quiet c.arguments in
      simp (firsts_append, lasts_append, a.0, a.1) refl
  process_lacks (tree.If p f a b) =
      let q = formula_quiet f in
      let x = process_lacks a in
      let y = process_lacks b in
      simp (firsts_append, lasts_append) (omega (arith, q.0, q.1, x, y))
  process_lacks (tree.Prefix e a) =
      let q = event_quiet e in
      let x = process_lacks a in
      simp (firsts_append, lasts_append) (omega (arith, q.0, q.1, x))
  process_lacks (tree.External ps) = let x = operands_lack ps in simp (firsts_append, lasts_append) (omega (arith, x))
  process_lacks (tree.Internal ps) = let x = operands_lack ps in simp (firsts_append, lasts_append) (omega (arith, x))

  pub operands_lack : (ps : RawProcesses) → firsts (operands_out ps) + (short ps + operand_shorts ps) ≡ lasts (operands_out ps) + 1
  operands_lack tree.NoOperand = refl
  operands_lack (tree.Operand p tree.NoOperand) = let x = process_lacks p in simp (firsts_append, lasts_append) (omega (arith, x))
  operands_lack (tree.Operand p (tree.Operand q ps)) =
      let x = process_lacks p in
      let y = process_lacks q in
      let z = others_lack ps in
      simp (firsts_append, lasts_append) (omega (arith, x, y, z))

  others_lack : (ps : RawProcesses) → firsts (others_out ps) + operand_shorts ps ≡ lasts (others_out ps)
  others_lack tree.NoOperand = refl
  others_lack (tree.Operand p ps) =
      let x = process_lacks p in
      let y = others_lack ps in
      simp (firsts_append, lasts_append) (omega (arith, x, y))

pub parameter_quiet : (p : RawParam) → Quiet (parameter_out p)
parameter_quiet (param.Member x d) = let a = domain_quiet d in (simp (firsts_append, a.0) refl, simp (lasts_append, a.1) refl)
parameter_quiet (param.Subset x d) = let a = domain_quiet d in (simp (firsts_append, a.0) refl, simp (lasts_append, a.1) refl)

pub parameters_quiet : (ps : List RawParam) → Quiet (flat_map parameter_entry ps)
parameters_quiet [] = (refl, refl)
parameters_quiet (p ∷ ps) =
    let a = parameter_quiet p in
    let b = parameters_quiet ps in
    (simp (firsts_append, a.0, b.0) refl, simp (lasts_append, a.1, b.1) refl)

pub definitions_lack : (ds : List RawDefinition) → firsts (flat_map definition_entry ds) + definition_shorts ds ≡ lasts (flat_map definition_entry ds)
definitions_lack [] = refl
definitions_lack (d ∷ ds) =
    let a = parameters_quiet d.parameters in
    let b = condition_quiet d.invariant in
    let x = process_lacks d.process in
    let y = definitions_lack ds in
    simp (firsts_append, lasts_append) (omega (arith, a.0, a.1, b.0, b.1, x, y))

pub controller_lacks : (c : RawController) → firsts (controller_out c) + definition_shorts c.definitions ≡ lasts (controller_out c)
controller_lacks c =
    let a = names_quiet c.machines in
    let b = terms_quiet c.start.arguments in
    let x = definitions_lack c.definitions in
    simp (firsts_append, lasts_append) (omega (arith, a.0, a.1, b.0, b.1, x))

pub controllers_lack : (cs : List RawController) → firsts (flat_map controller_entry cs) + controller_shorts cs ≡ lasts (flat_map controller_entry cs)
controllers_lack [] = refl
controllers_lack (c ∷ cs) =
    let x = controller_lacks c in
    let y = controllers_lack cs in
    let a = firsts_append (controller_out c) (Did APPEND_CONTROLLER ∷ []) in
    let b = lasts_append (controller_out c) (Did APPEND_CONTROLLER ∷ []) in
    let d = firsts_append (controller_entry c) (flat_map controller_entry cs) in
    let e = lasts_append (controller_entry c) (flat_map controller_entry cs) in
    omega (arith, x, y, a, b, d, e)

pub channels_quiet : (cs : List RawChannel) → Quiet (flat_map channel_entry cs)
channels_quiet [] = (refl, refl)
channels_quiet (c ∷ cs) =
    let a = names_quiet c.values in
    let b = condition_quiet c.condition in
    let d = channels_quiet cs in
    (simp (firsts_append, a.0, b.0, d.0) refl, simp (lasts_append, a.1, b.1, d.1) refl)

pub machines_quiet : (ms : List RawMachine) → Quiet (flat_map machine_entry ms)
machines_quiet [] = (refl, refl)
machines_quiet (m ∷ ms) =
    quiet_append (machine_entry m) (flat_map machine_entry ms) (quiet_append (machine_out m) (Did APPEND_MACHINE ∷ []) (machine_quiet m) (refl, refl)) (machines_quiet ms)

rest_lacks : (t : RawText) (order : Option (List RawName)) → (order ≡ None → controller_shorts t.controllers ≡ 0) → firsts (rest_out t order) + controller_shorts t.controllers ≡ lasts (rest_out t order)
rest_lacks t None alone = let n = alone refl in omega (arith, n)
rest_lacks t (Some order) alone =
    let a = channels_quiet t.channels in
    let b = names_quiet order in
    let x = controllers_lack t.controllers in
    simp (firsts_append, lasts_append) (omega (arith, a.0, a.1, b.0, b.1, x))

text_lacks : (t : RawText) → (t.order ≡ None → controller_shorts t.controllers ≡ 0) → firsts (text_out t) + controller_shorts t.controllers ≡ lasts (text_out t)
text_lacks t alone =
    let m = machines_quiet t.machines in
    let r = rest_lacks t t.order alone in
    let a = firsts_append (machines_out t.machines) (rest_out t t.order) in
    let b = lasts_append (machines_out t.machines) (rest_out t t.order) in
    omega (arith, m.0, m.1, r, a, b)

none_short : (t : RawText) → StandsAlone t → t.order ≡ None → controller_shorts t.controllers ≡ 0
none_short t alone o = let e = (alone o).1 in rw e refl

pub chains_append : (a b : List ℕ) → chains (a ++ b) ≡ chains a + chains b
chains_append [] b = omega arith
chains_append (k ∷ a) b = let h = chains_append a b in omega (arith, h)

abbrev no_chain : List ℕ → Bool
no_chain [] = true
no_chain (k ∷ ks) = not (eqb k chain_kind) && no_chain ks

words_differ : no_chain word_kinds ≡ true
words_differ = refl

word_at : (ks : List ℕ) (n : ℕ) → no_chain ks ≡ true → one (eqb (slice_index ks n) chain_kind) ≡ 0
word_at [] n e = refl
word_at (k ∷ ks) zero e = pick (eqb k chain_kind) (both e).0
  where
    pick : (b : Bool) → not b ≡ true → one b ≡ 0
    pick true e = absurd (cc)
    pick false e = refl
word_at (k ∷ ks) (suc n) e = word_at ks n (both e).1

-- the test of an action: it begins as many chains as it leaves more, and ends as many as it leaves fewer
abbrev all_even : ℕ → List Effect → Bool
all_even i [] = true
all_even i (e ∷ es) = eqb (chains e.leaves + one (ends i)) (chains e.takes + one (begins i)) && all_even (i + 1) es

evened : all_even 0 actions ≡ true
evened = refl

same_number : (a b : ℕ) → eqb a b ≡ true → a ≡ b
same_number a b e = grind arith

even_at : (i n : ℕ) (es : List Effect) → all_even i es ≡ true → are_of_texts (effect_or (slice_get es n)).leaves ≡ true →
    chains (effect_or (slice_get es n)).leaves + one (ends (i + n)) ≡ chains (effect_or (slice_get es n)).takes + one (begins (i + n))
even_at i n [] e o = absurd (cc)
even_at i zero (x ∷ es) e o = let q : i + 0 ≡ i = omega arith in rw q (same_number (chains x.leaves + one (ends i)) (chains x.takes + one (begins i)) (both e).0)
even_at i (suc n) (x ∷ es) e o =
    let q : i + suc n ≡ (i + 1) + n = omega arith in
    rw q (even_at (i + 1) n es (both e).1 o)

even : (n : ℕ) → are_of_texts (signatures.action n).leaves ≡ true → chains (signatures.action n).leaves + one (ends n) ≡ chains (signatures.action n).takes + one (begins n)
even n o = let q : 0 + n ≡ n = omega arith in rw q at (even_at 0 n actions evened o)

heard_quiet : (o : Option Token) → (is_first (heard o) ≡ false) × (is_last (heard o) ≡ false)
heard_quiet None = (refl, refl)
heard_quiet (Some t) = pick t.sort
  where
    pick : (s : Sort) → (is_first (heard_at s t.place) ≡ false) × (is_last (heard_at s t.place) ≡ false)
    pick (sort.Word text) = (refl, refl)
    pick (sort.Opened text number) = (refl, refl)
    pick (sort.Number n) = (refl, refl)
    pick (sort.Keyword k) = (refl, refl)
    pick (sort.Sign s) = (refl, refl)
    pick sort.Finish = (refl, refl)

balanced : (ts : List Token) (items : List Item) (k end : List ℕ) → kinds signatures items k ≡ Some end → are_of_texts end ≡ true → chains end + lasts (lexemes ts items) ≡ chains k + firsts (lexemes ts items)
balanced ts [] k end e o = let q : k ≡ end = cc in rw q refl
balanced ts (Word t ∷ items) k end e o =
    let h = balanced ts items (signatures.word (group t.class) ∷ k) end e o in
    let w = word_at word_kinds (group t.class) words_differ in
    let q = heard_quiet (slice_get ts t.index) in
    rw (q.0, q.1) (omega (arith, h, w))
balanced ts (Do n ∷ items) k end e o =
    let f = fitting n items k end e o in
    let h = balanced ts items ((signatures.action n).leaves ++ f.below) end f.on o in
    let a = chains_append (signatures.action n).leaves f.below in
    let b = chains_append (signatures.action n).takes f.below in
    let v = even n f.own in
    rw f.top (omega (arith, h, a, b, v))

all_fit : all_lead signatures GRAMMAR ≡ true
all_fit = refl

read_fits : (p : Part) (depth : ℕ) (opened : Bool) (ts : List Token) (taken : ℕ) (items : List Item) → IsRead p depth opened ts taken items → kinds signatures items [] ≡ Some (kinds_left p)
unfolding language
read_fits p depth opened ts taken items read =
    led signatures (signature false [] (kinds_left p) []) (tested signatures GRAMMAR all_fit) read.whole.spelled [] (part_fits p)

pub no_short : (ts : List Token) (taken : ℕ) (x : RawText) → StandsAlone x → IsSpelled part.Text 0 false ts taken (text_out x) → controller_shorts x.controllers ≡ 0
no_short ts taken x alone s =
    let b : chains (kinds_left part.Text) + lasts (lexemes ts s.items) ≡ chains [] + firsts (lexemes ts s.items) = balanced ts s.items [] (kinds_left part.Text) (read_fits part.Text 0 false ts taken s.items s.read) refl in
    let l = text_lacks x (none_short x alone) in
    let f : firsts (lexemes ts s.items) ≡ firsts (text_out x) = ap firsts s.told in
    let g : lasts (lexemes ts s.items) ≡ lasts (text_out x) = ap lasts s.told in
    omega (arith, b, l, f, g)

pub no_short_within : (depth : ℕ) (opened : Bool) (ts : List Token) (taken : ℕ) (c : RawController) → IsSpelled part.Controller depth opened ts taken (controller_out c) → definition_shorts c.definitions ≡ 0
no_short_within depth opened ts taken c s =
    let b : chains (kinds_left part.Controller) + lasts (lexemes ts s.items) ≡ chains [] + firsts (lexemes ts s.items) =
    balanced ts s.items [] (kinds_left part.Controller) (read_fits part.Controller depth opened ts taken s.items s.read) refl in
    let l = controller_lacks c in
    let f : firsts (lexemes ts s.items) ≡ firsts (controller_out c) = ap firsts s.told in
    let g : lasts (lexemes ts s.items) ≡ lasts (controller_out c) = ap lasts s.told in
    omega (arith, b, l, f, g)

-- the stack while items are taken: what is left of them ends all chains that are on it
pub begun : (ts : List Token) (items rest : List Item) (s : List Value) (end : List ℕ) → kinds signatures items [] ≡ Some end → are_of_texts end ≡ true → kinds signatures rest (kinds_of s) ≡ kinds signatures items [] →
    stack_out s ++ lexemes ts rest ≡ lexemes ts items → HasItsChains s
begun ts items rest s end e o f out =
    let a : chains end + lasts (lexemes ts items) ≡ chains [] + firsts (lexemes ts items) = balanced ts items [] end e o in
    let b = balanced ts rest (kinds_of s) end (f ∙ e) o in
    let p = firsts_append (stack_out s) (lexemes ts rest) in
    let q = lasts_append (stack_out s) (lexemes ts rest) in
    let g : firsts (stack_out s ++ lexemes ts rest) ≡ firsts (lexemes ts items) = ap firsts out in
    let h : lasts (stack_out s ++ lexemes ts rest) ≡ lasts (lexemes ts items) = ap lasts out in
    omega (arith, a, b, p, q, g, h)
