-- The pieces of a machine are spelled by the grammar.
use Rattle.std.proofs.Common.{◌≡◌, ℕ, Bool, true, List, [], ◌∷◌, ◌++◌, refl, sym, ◌∙◌, append_assoc, subst, inl, inr}
use Rattle.std.specs.Prelude.{Option, Some, None}
use Rattle.std.specs.List.{flat_map}
use Rattle.cb_lex.specs.declared.token.Keyword.TheVariants as keyword
use Rattle.cb_lex.specs.declared.token.Sign.TheVariants as sign
use Rattle.cb_lex.specs.declared.raw.name.RawName.{RawName}
use Rattle.cb_lex.specs.declared.raw.text.RawMachine.{RawMachine}
use Rattle.cb_lex.specs.declared.raw.text.RawSet.{RawSet}
use Rattle.cb_lex.specs.declared.raw.text.RawProperty.{RawProperty}
use Rattle.cb_lex.specs.declared.raw.text.RawState.{RawState}
use Rattle.cb_lex.specs.declared.raw.text.RawOperation.{RawOperation}
use Rattle.cb_lex.specs.RawTermTree.{RawFormulaTree}
use Rattle.cb_lex.specs.RawSubstTree.{RawSubstTree}
use Rattle.cb_engine.specs.declared.Symbol.{Symbol}
use Rattle.cb_engine.specs.declared.Symbol.TheVariants.{Take, Keep, Act, Part}
use Rattle.cb_engine.specs.Lines.{alternatives, Among}
use Rattle.cb_grammar.specs.declared.table.TheConstants.{GRAMMAR}
use Rattle.cb_grammar.specs.declared.actions.TheConstants as action
use Rattle.cb_grammar.specs.Classes.{keyword_class, sign_class}
use Rattle.cb_grammar.specs.Numbers as part
use Rattle.cb_written.specs.Texts.{OperationIsWritten, OperationLine, results, parameters, bodies}
use Rattle.cb_written.specs.Texts.OperationLine.{operation}
use Rattle.cb_amn_parse.specs.Lexemes.{Named, Did}
use Rattle.cb_amn_parse.specs.Formulas.{formula_out, names_out, condition_out}
use Rattle.cb_amn_parse.specs.Machines.{literal_out, subst_out, set_entry, sets_out, property_entry, properties_out, state_out, operation_entry, operations_out, machine_out}
use Rattle.cb_shapes.specs.Full.{some, IsFullSubst, AllOf, IsFullState, IsFull}
use Rattle.cb_amn_print.proofs.Scripts.{Piece, Done}
use Rattle.cb_amn_print.proofs.Lines.{Good, join, sign_taken, word_taken, act, by_line, by_table}
use Rattle.cb_amn_print.proofs.Spelled.{AllFine, parted, formula_good}
use Rattle.cb_amn_print.proofs.MachinePieces.{word, names_script}
use Rattle.cb_amn_print.proofs.WholePieces.{some_entry, named_part, set_script, sets_rest, sets_script, property_script, properties_rest, properties_script, state_script, results_script, parameters_script, body_script, operation_script, operations_rest, operations_script, machine_script}
use Rattle.cb_amn_print.proofs.MachineSpelled.{MoreLaws, empty, name_good, names_good, literal_good, subst_part, subst_good}

abbrev set_line : List Symbol
set_line = Keep 1 ∷ (Take (sign_class sign.Equal) ∷ (Take (sign_class sign.OpenBrace) ∷ (Part part.names ∷ (Take (sign_class sign.CloseBrace) ∷ (Act action.APPEND_SET ∷ [])))))

abbrev property_line : List Symbol
property_line = Keep 1 ∷ (Take (sign_class sign.Equal) ∷ (Part part.literal ∷ (Act action.APPEND_PROPERTY ∷ [])))

abbrev constants_line : List Symbol
constants_line = Take (keyword_class keyword.Constants) ∷ (Part part.names ∷ (Take (keyword_class keyword.Properties) ∷ (Act action.NO_PROPERTIES ∷ (Part part.property ∷ (Part part.constants_1 ∷ [])))))

abbrev state_line : List Symbol
state_line =
    Take (keyword_class keyword.Variables) ∷ (Part part.names ∷ (Take (keyword_class keyword.Invariant) ∷ (Part part.formula ∷ (Take (keyword_class keyword.Initialisation) ∷ (Part part.substitution ∷ (Act action.SOME_STATE ∷ []))))))

abbrev machine_line : List Symbol
machine_line =
    Take (keyword_class keyword.Machine) ∷ (Keep 1 ∷ (Part part.machine_1 ∷ (Act action.NO_SETS ∷ (Part part.machine_3 ∷ (Part part.constants ∷ (Part part.state ∷ (Act action.NO_OPERATIONS ∷ (Part part.machine_5
    ∷ (Take (keyword_class keyword.End) ∷ (Act action.MACHINE ∷ []))))))))))

set_lines : alternatives GRAMMAR part.enumerated_set ≡ set_line ∷ []
set_lines = refl

more_set_lines : alternatives GRAMMAR part.machine_2 ≡ (Take (sign_class sign.Semicolon) ∷ (Part part.enumerated_set ∷ (Part part.machine_2 ∷ []))) ∷ ([] ∷ [])
more_set_lines = refl

sets_lines : alternatives GRAMMAR part.machine_3 ≡ (Take (keyword_class keyword.Sets) ∷ (Part part.enumerated_set ∷ (Part part.machine_2 ∷ []))) ∷ ([] ∷ [])
sets_lines = refl

sees_lines : alternatives GRAMMAR part.machine_1 ≡ (Take (keyword_class keyword.Sees) ∷ (Part part.names ∷ [])) ∷ ((Act action.NO_NAMES ∷ []) ∷ [])
sees_lines = refl

property_lines : alternatives GRAMMAR part.property ≡ property_line ∷ []
property_lines = refl

more_property_lines : alternatives GRAMMAR part.constants_1 ≡ (Take (sign_class sign.And) ∷ (Part part.property ∷ (Part part.constants_1 ∷ []))) ∷ ([] ∷ [])
more_property_lines = refl

constants_lines : alternatives GRAMMAR part.constants ≡ constants_line ∷ ((Act action.NO_NAMES ∷ (Act action.NO_PROPERTIES ∷ [])) ∷ [])
constants_lines = refl

state_lines : alternatives GRAMMAR part.state ≡ state_line ∷ ((Act action.NO_STATE ∷ []) ∷ [])
state_lines = refl

more_operation_lines : alternatives GRAMMAR part.machine_4 ≡ (Take (sign_class sign.Semicolon) ∷ (Part part.operation ∷ (Part part.machine_4 ∷ []))) ∷ ([] ∷ [])
more_operation_lines = refl

operations_lines : alternatives GRAMMAR part.machine_5 ≡ (Take (keyword_class keyword.Operations) ∷ (Part part.operation ∷ (Part part.machine_4 ∷ []))) ∷ ([] ∷ [])
operations_lines = refl

machine_lines : alternatives GRAMMAR part.machine ≡ machine_line ∷ []
machine_lines = refl

never : (X : Type 0) → some {X = X} [] ≡ true → ⊥
never X e = cc

module _ (opened : Bool) (m : MoreLaws) (operation_law : OperationIsWritten) where
  abbrev G : List Symbol → List Piece → Type 0
  G k p = Good opened k p

  table : (n : ℕ) (ls : List (List Symbol)) → alternatives GRAMMAR n ≡ ls → (w : List Symbol) (p : List Piece) → Among ls w → G w p → G (Part n ∷ []) p
  table n ls e w p a g = by_table opened m.laws.plain n ls e w p a g

  sees_good : (xs : List RawName) → AllFine opened (names_out xs) → G (Part part.machine_1 ∷ []) (named_part keyword.Sees xs)
  sees_good [] f = table part.machine_1 _ sees_lines _ _ (inr (inl refl)) (act opened action.NO_NAMES)
  sees_good (x ∷ xs) f = table part.machine_1 _ sees_lines _ _ (inl refl) (join opened (word_taken opened keyword.Sees refl) (names_good opened m x xs f))

  some_names : (xs : List RawName) → some xs ≡ true → AllFine opened (names_out xs) → G (Part part.names ∷ []) (names_script xs)
  some_names [] e f = absurd (never RawName e)
  some_names (x ∷ xs) e f = names_good opened m x xs f

  set_good : (s : RawSet) → some s.elements ≡ true → AllFine opened (set_entry s) → G (Part part.enumerated_set ∷ []) (set_script s)
  set_good s e f =
      let q = (parted opened (names_out s.elements) (Did action.APPEND_SET ∷ []) f.1).0 in
      table part.enumerated_set _ set_lines _ _ (inl refl) (join opened (name_good opened m s.name f.0) (join opened (sign_taken opened sign.Equal) (join opened (sign_taken opened sign.OpenBrace)
      (join opened (some_names s.elements e q) (join opened (sign_taken opened sign.CloseBrace) (act opened action.APPEND_SET))))))

  more_sets : (ss : List RawSet) → AllOf (λ s. some s.elements ≡ true) ss → AllFine opened (flat_map set_entry ss) → G (Part part.machine_2 ∷ []) (sets_rest ss)
  more_sets [] u f = table part.machine_2 _ more_set_lines _ _ (inr (inl refl)) (empty opened m)
  more_sets (s ∷ ss) u f =
      let q = parted opened (set_entry s) (flat_map set_entry ss) f in
      table part.machine_2 _ more_set_lines _ _ (inl refl) (join opened (sign_taken opened sign.Semicolon) (join opened (set_good s u.0 q.0) (more_sets ss u.1 q.1)))

  sets_good : (ss : List RawSet) → AllOf (λ s. some s.elements ≡ true) ss → AllFine opened (flat_map set_entry ss) → G (Part part.machine_3 ∷ []) (sets_script ss)
  sets_good [] u f = table part.machine_3 _ sets_lines _ _ (inr (inl refl)) (empty opened m)
  sets_good (s ∷ ss) u f =
      let q = parted opened (set_entry s) (flat_map set_entry ss) f in
      table part.machine_3 _ sets_lines _ _ (inl refl) (join opened (word_taken opened keyword.Sets refl) (join opened (set_good s u.0 q.0) (more_sets ss u.1 q.1)))

  property_good : (p : RawProperty) → AllFine opened (property_entry p) → G (Part part.property ∷ []) (property_script p)
  property_good p f =
      let q = (parted opened (literal_out p.literal) (Did action.APPEND_PROPERTY ∷ []) f.1).0 in
      table part.property _ property_lines _ _ (inl refl) (join opened (name_good opened m p.name f.0) (join opened (sign_taken opened sign.Equal) (join opened (literal_good opened m p.literal q) (act opened action.APPEND_PROPERTY))))

  more_properties : (ps : List RawProperty) → AllFine opened (flat_map property_entry ps) → G (Part part.constants_1 ∷ []) (properties_rest ps)
  more_properties [] f = table part.constants_1 _ more_property_lines _ _ (inr (inl refl)) (empty opened m)
  more_properties (p ∷ ps) f =
      let q = parted opened (property_entry p) (flat_map property_entry ps) f in
      table part.constants_1 _ more_property_lines _ _ (inl refl) (join opened (sign_taken opened sign.And) (join opened (property_good p q.0) (more_properties ps q.1)))

  constants_good : (xs : List RawName) (ps : List RawProperty) → some xs ≡ some ps → AllFine opened (names_out xs) → AllFine opened (properties_out ps) → G (Part part.constants ∷ []) (named_part keyword.Constants xs ++ properties_script ps)
  constants_good [] [] e f h = table part.constants _ constants_lines _ _ (inr (inl refl)) (join opened (act opened action.NO_NAMES) (act opened action.NO_PROPERTIES))
  constants_good [] (p ∷ ps) e f h = absurd (never RawName (e ∙ some_entry p ps))
  constants_good (x ∷ xs) [] e f h = absurd (never RawProperty (sym e ∙ some_entry x xs))
  constants_good (x ∷ xs) (p ∷ ps) e f h =
      let q = parted opened (property_entry p) (flat_map property_entry ps) h.1 in
      table part.constants _ constants_lines _ _ (inl refl) (join opened (word_taken opened keyword.Constants refl) (join opened (names_good opened m x xs f)
      (join opened (word_taken opened keyword.Properties refl) (join opened (act opened action.NO_PROPERTIES) (join opened (property_good p q.0) (more_properties ps q.1))))))

  state_good : (s : Option RawState) → IsFullState s → AllFine opened (state_out s) → G (Part part.state ∷ []) (state_script s)
  state_good None u f = table part.state _ state_lines _ _ (inr (inl refl)) (act opened action.NO_STATE)
  state_good (Some s) u f =
      let d = (parted opened ((names_out s.variables ++ formula_out s.invariant) ++ subst_out s.initialisation) (Did action.SOME_STATE ∷ []) f).0 in
      let e = parted opened (names_out s.variables ++ formula_out s.invariant) (subst_out s.initialisation) d in
      let q = parted opened (names_out s.variables) (formula_out s.invariant) e.0 in
      let a = formula_good opened m.laws s.invariant q.1 in
      table part.state _ state_lines _ _ (inl refl) (join opened (word_taken opened keyword.Variables refl) (join opened (some_names s.variables u.0 q.0) (join opened (word_taken opened keyword.Invariant refl) (join opened a.formula
      (join opened (word_taken opened keyword.Initialisation refl) (join opened (subst_part opened m s.initialisation (subst_good opened m s.initialisation u.1 e.1)) (act opened action.SOME_STATE)))))))

  abbrev OneOfThese : List (List Symbol) → List Piece → Type 0
  OneOfThese ls p = (w : List Symbol) × (Among ls w × G w p)

  results_good : (xs : List RawName) → AllFine opened (names_out xs) → OneOfThese results (results_script xs)
  results_good [] f = (_, (inr (inl refl), act opened action.NO_NAMES))
  results_good (x ∷ xs) f = (_, (inl refl, join opened (names_good opened m x xs f) (sign_taken opened sign.Returns)))

  parameters_good : (xs : List RawName) → AllFine opened (names_out xs) → OneOfThese parameters (parameters_script xs)
  parameters_good [] f = (_, (inr (inl refl), act opened action.NO_NAMES))
  parameters_good (x ∷ xs) f = (_, (inl refl, join opened (sign_taken opened sign.OpenParenthesis) (join opened (names_good opened m x xs f) (sign_taken opened sign.CloseParenthesis))))

  body_good : (c : Option RawFormulaTree) (s : RawSubstTree) → IsFullSubst s → AllFine opened (condition_out c) → AllFine opened (subst_out s) → OneOfThese bodies (body_script c s)
  body_good None s u f h = (_, (inr (inl refl), join opened (act opened action.NO_CONDITION) (subst_part opened m s (subst_good opened m s u h))))
  body_good (Some c) s u f h =
      let a = formula_good opened m.laws c (parted opened (formula_out c) (Did action.SOME_CONDITION ∷ []) f).0 in (
        _,
        (
          inl refl,
          join opened (word_taken opened keyword.Pre refl) (join opened a.formula (join opened (act opened action.SOME_CONDITION) (join opened (word_taken opened keyword.Then refl)
              (join opened (subst_part opened m s (subst_good opened m s u h)) (word_taken opened keyword.End refl))))),
        ),
      )

  operation_good : (o : RawOperation) → IsFullSubst o.body → AllFine opened (operation_entry o) → G (Part part.operation ∷ []) (operation_script o)
  operation_good o u f =
      let d = (parted opened (((names_out o.results ++ (Named o.name ∷ names_out o.parameters)) ++ condition_out o.precondition) ++ subst_out o.body) (Did action.APPEND_OPERATION ∷ []) f).0 in
      let e = parted opened ((names_out o.results ++ (Named o.name ∷ names_out o.parameters)) ++ condition_out o.precondition) (subst_out o.body) d in
      let g = parted opened (names_out o.results ++ (Named o.name ∷ names_out o.parameters)) (condition_out o.precondition) e.0 in
      let q = parted opened (names_out o.results) (Named o.name ∷ names_out o.parameters) g.0 in
      let r = results_good o.results q.0 in
      let p = parameters_good o.parameters q.1.1 in
      let b = body_good o.precondition o.body u g.1 e.1 in
      by_line opened part.operation OperationLine operation_law _ _ (operation r.0 p.0 b.0 r.1.0 p.1.0 b.1.0)
      (join opened r.1.1 (join opened (name_good opened m o.name q.1.0) (join opened p.1.1 (join opened (sign_taken opened sign.Equal) (join opened b.1.1 (act opened action.APPEND_OPERATION))))))

  more_operations : (os : List RawOperation) → AllOf (λ o. IsFullSubst o.body) os → AllFine opened (flat_map operation_entry os) → G (Part part.machine_4 ∷ []) (operations_rest os)
  more_operations [] u f = table part.machine_4 _ more_operation_lines _ _ (inr (inl refl)) (empty opened m)
  more_operations (o ∷ os) u f =
      let q = parted opened (operation_entry o) (flat_map operation_entry os) f in
      table part.machine_4 _ more_operation_lines _ _ (inl refl) (join opened (sign_taken opened sign.Semicolon) (join opened (operation_good o u.0 q.0) (more_operations os u.1 q.1)))

  operations_good : (os : List RawOperation) → AllOf (λ o. IsFullSubst o.body) os → AllFine opened (flat_map operation_entry os) → G (Part part.machine_5 ∷ []) (operations_script os)
  operations_good [] u f = table part.machine_5 _ operations_lines _ _ (inr (inl refl)) (empty opened m)
  operations_good (o ∷ os) u f =
      let q = parted opened (operation_entry o) (flat_map operation_entry os) f in
      table part.machine_5 _ operations_lines _ _ (inl refl) (join opened (word_taken opened keyword.Operations refl) (join opened (operation_good o u.0 q.0) (more_operations os u.1 q.1)))

  pub machine_good : (x : RawMachine) → IsFull x → AllFine opened (machine_out x) → G (Part part.machine ∷ []) (machine_script x)
  machine_good x u f =
      let f6 = (parted opened ((((((Named x.name ∷ names_out x.sees) ++ sets_out x.sets) ++ names_out x.constants) ++ properties_out x.properties) ++ state_out x.state) ++ operations_out x.operations) (Did action.MACHINE ∷ []) f).0 in
      let f5 = parted opened (((((Named x.name ∷ names_out x.sees) ++ sets_out x.sets) ++ names_out x.constants) ++ properties_out x.properties) ++ state_out x.state) (operations_out x.operations) f6 in
      let f4 = parted opened ((((Named x.name ∷ names_out x.sees) ++ sets_out x.sets) ++ names_out x.constants) ++ properties_out x.properties) (state_out x.state) f5.0 in
      let f3 = parted opened (((Named x.name ∷ names_out x.sees) ++ sets_out x.sets) ++ names_out x.constants) (properties_out x.properties) f4.0 in
      let f2 = parted opened ((Named x.name ∷ names_out x.sees) ++ sets_out x.sets) (names_out x.constants) f3.0 in
      let f1 = parted opened (Named x.name ∷ names_out x.sees) (sets_out x.sets) f2.0 in
      let ended : List Piece = state_script x.state ++ (Done action.NO_OPERATIONS ∷ (operations_script x.operations ++ (word keyword.End ∷ (Done action.MACHINE ∷ [])))) in
      let tail = join opened (state_good x.state u.state f4.1) (join opened (act opened action.NO_OPERATIONS) (join opened (operations_good x.operations u.operations f5.1.1) (join opened (word_taken opened keyword.End refl) (act opened action.MACHINE)))) in
      let rest : G (Part part.constants ∷ (Part part.state ∷ (Act action.NO_OPERATIONS ∷ (Part part.machine_5 ∷ (Take (keyword_class keyword.End) ∷ (Act action.MACHINE ∷ [])))))) (named_part keyword.Constants x.constants ++ (properties_script x.properties ++ ended)) =
      subst (λ (p : List Piece). G (Part part.constants ∷ (Part part.state ∷ (Act action.NO_OPERATIONS ∷ (Part part.machine_5 ∷ (Take (keyword_class keyword.End) ∷ (Act action.MACHINE ∷ [])))))) p) (append_assoc (named_part keyword.Constants x.constants) (properties_script x.properties) ended)
      (join opened (constants_good x.constants x.properties u.constants f2.1 f3.1) tail) in
      table part.machine _ machine_lines _ _ (inl refl) (join opened (word_taken opened keyword.Machine refl) (join opened (name_good opened m x.name f1.0.0) (join opened (sees_good x.sees f1.0.1)
      (join opened (act opened action.NO_SETS) (join opened (sets_good x.sets u.sets f1.1.1) rest)))))
