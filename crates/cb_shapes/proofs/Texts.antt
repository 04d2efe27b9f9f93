-- Each machine of a text is a machine among what is written.
use Rattle.std.proofs.Common.{◌≡◌, ℕ, Bool, List, [], ◌∷◌, ◌++◌, refl, append_assoc, subst}
use Rattle.std.specs.List.{flat_map}
use Rattle.cb_lex.specs.declared.token.Token.{Token}
use Rattle.cb_lex.specs.declared.raw.text.RawMachine.{RawMachine}
use Rattle.cb_grammar.specs.declared.actions.TheConstants.{NO_MACHINES, APPEND_MACHINE}
use Rattle.cb_grammar.specs.declared.parts.Part.{Part}
use Rattle.cb_amn_parse.specs.Lexemes.{Lexeme, Did}
use Rattle.cb_amn_parse.specs.Machines.{machine_out}
use Rattle.cb_amn_parse.specs.Processes.{machine_entry, machines_out, rest_out}
use Rattle.cb_amn_parse.specs.Spelling.{IsSpelled}
use Rattle.cb_shapes.specs.Full.{AllOf, IsFull}
use Rattle.cb_shapes.specs.Laws.{MachinesAreFull, TextIsFull}

each_full : MachinesAreFull → (p : Part) (depth : ℕ) (opened : Bool) (ts : List Token) (taken : ℕ) (ms : List RawMachine) (front rest : List Lexeme) → IsSpelled p depth opened ts taken (front ++ (flat_map machine_entry ms ++ rest)) → AllOf IsFull ms
each_full law p depth opened ts taken [] front rest q = tt
each_full law p depth opened ts taken (m ∷ ms) front rest q =
    let more : List Lexeme = flat_map machine_entry ms ++ rest in
    let a : front ++ ((machine_entry m ++ flat_map machine_entry ms) ++ rest) ≡ front ++ machine_out m ++ (Did APPEND_MACHINE ∷ more) = simp append_assoc refl in
    let b : front ++ ((machine_entry m ++ flat_map machine_entry ms) ++ rest) ≡ (front ++ machine_entry m) ++ more = simp append_assoc refl in (
      law p depth opened ts taken front (Did APPEND_MACHINE ∷ more) m (subst (λ (ls : List Lexeme). IsSpelled p depth opened ts taken ls) a q),
      each_full law p depth opened ts taken ms (front ++ machine_entry m) rest (subst (λ (ls : List Lexeme). IsSpelled p depth opened ts taken ls) b q),
    )

pub text_full : MachinesAreFull → TextIsFull
text_full law p depth opened ts taken rest t q =
    each_full law p depth opened ts taken t.machines (Did NO_MACHINES ∷ []) (rest_out t t.order ++ rest)
    (subst (λ (ls : List Lexeme). IsSpelled p depth opened ts taken ls) (append_assoc (machines_out t.machines) (rest_out t t.order) rest) q)
