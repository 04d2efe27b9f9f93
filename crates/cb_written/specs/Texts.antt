-- The lines of texts and operations as one usually writes them, where the table has them in pieces.
use Rattle.std.specs.Prelude.{ℕ, List, [], ◌∷◌, ◌++◌}
use Rattle.cb_lex.specs.declared.token.Keyword.TheVariants as keyword
use Rattle.cb_lex.specs.declared.token.Sign.TheVariants as sign
use Rattle.cb_engine.specs.declared.Symbol.{Symbol}
use Rattle.cb_engine.specs.declared.Symbol.TheVariants.{Take, Keep, Act, Part}
use Rattle.cb_engine.specs.Lines.{Among, Repeated}
use Rattle.cb_grammar.specs.declared.actions.TheConstants as action
use Rattle.cb_grammar.specs.Classes.{keyword_class, sign_class}
use Rattle.cb_grammar.specs.Numbers as part
use Rattle.cb_grammar.specs.Written.{IsWritten}

-- [names "<--"]
abbrev pub results : List (List Symbol)
results = (Part part.names ∷ Take (sign_class sign.Returns) ∷ []) ∷ (Act action.NO_NAMES ∷ []) ∷ []

-- ["(" names ")"]
abbrev pub parameters : List (List Symbol)
parameters = (Take (sign_class sign.OpenParenthesis) ∷ Part part.names ∷ Take (sign_class sign.CloseParenthesis) ∷ []) ∷ (Act action.NO_NAMES ∷ []) ∷ []

-- PRE formula THEN substitution END | substitution
abbrev pub bodies : List (List Symbol)
bodies =
    (Take (keyword_class keyword.Pre) ∷ Part part.formula ∷ Act action.SOME_CONDITION ∷ Take (keyword_class keyword.Then) ∷ Part part.substitution ∷ Take (keyword_class keyword.End) ∷ []) ∷
    (Act action.NO_CONDITION ∷ Part part.substitution ∷ []) ∷ []

-- operation = [names "<--"] name ["(" names ")"] "=" (PRE formula THEN substitution END | substitution)
pub data OperationLine : List Symbol → Type 0 where
  operation : (r p b : List Symbol) → Among results r → Among parameters p → Among bodies b → OperationLine (r ++ Keep 1 ∷ (p ++ Take (sign_class sign.Equal) ∷ (b ++ Act action.APPEND_OPERATION ∷ [])))

abbrev pub OperationIsWritten : Type 0
OperationIsWritten = IsWritten part.operation OperationLine

abbrev pub one_machine : List Symbol
one_machine = Part part.machine ∷ Act action.APPEND_MACHINE ∷ []

abbrev pub one_controller : List Symbol
one_controller = Part part.controller ∷ Act action.APPEND_CONTROLLER ∷ []

-- [channels]
abbrev pub channels_or_none : List (List Symbol)
channels_or_none = (Part part.channels ∷ []) ∷ (Act action.NO_CHANNELS ∷ []) ∷ []

-- text = machine+ | machine* [channels] controller+ system
pub data TextLine : List Symbol → Type 0 where
  machines : (x : List Symbol) → Repeated (one_machine ∷ []) x → TextLine (Act action.NO_MACHINES ∷ one_machine ++ (x ++ Act action.MACHINES_ALONE ∷ []))
  system : (x c y : List Symbol) → Repeated (one_machine ∷ []) x → Among channels_or_none c → Repeated (one_controller ∷ []) y →
      TextLine (Act action.NO_MACHINES ∷ (x ++ (c ++ Act action.NO_CONTROLLERS ∷ one_controller ++ (y ++ Part part.system ∷ []))))

abbrev pub TextIsWritten : Type 0
TextIsWritten = IsWritten part.text TextLine

-- PROOF obligation node END
abbrev pub one_proof : List Symbol
one_proof = Take (keyword_class keyword.Proof) ∷ Part part.obligation ∷ Part part.node ∷ Take (keyword_class keyword.End) ∷ Act action.APPEND_PROOF ∷ []

-- what stands at the end of a text
abbrev pub finish : ℕ
finish = 3

-- a whole text is a text and then proof*
pub data WholeLine : List Symbol → Type 0 where
  whole : (w x : List Symbol) → TextLine w → Repeated (one_proof ∷ []) x → WholeLine (w ++ Act action.NO_PROOFS ∷ (x ++ Take finish ∷ []))

abbrev pub WholeIsWritten : Type 0
WholeIsWritten = IsWritten part.whole WholeLine
