-- What is printed spells the value again.
use Rattle.std.proofs.Common.{◌≡◌, ℕ, Bool, true, false, List, [], ◌∷◌, ◌++◌, refl, sym, ◌∙◌, subst}
use Rattle.std.specs.Prelude.{map, Ok, drop, ◌-◌}
use Rattle.cb_written.specs.Texts.{OperationIsWritten}
use Rattle.cb_amn_parse.specs.Machines.{machine_out}
use Rattle.cb_shapes.specs.Laws.{MachineIsFull}
use Rattle.cb_amn_print.specs.Machines.{machine_text}
use Rattle.cb_amn_print.proofs.WholePieces.{machine_script, machine-text, machine-told}
use Rattle.cb_amn_print.proofs.MachineSpelled.{MoreLaws}
use Rattle.cb_amn_print.proofs.WholeSpelled.{machine_good}
use Rattle.cb_lex.specs.Lexes.{Lexes, start}
use Rattle.cb_engine.specs.declared.Terminal.{Terminal}
use Rattle.cb_engine.specs.Rules.{Spells}
use Rattle.cb_grammar.specs.declared.parts.Part.{Part}
use Rattle.cb_grammar.specs.declared.parts.Part.TheVariants as part
use Rattle.cb_grammar.specs.Parts.{number_of}
use Rattle.cb_grammar.specs.Misreadings.{language, symbols_of}
use Rattle.cb_amn_parse.specs.Lexemes.{Lexeme}
use Rattle.cb_amn_parse.specs.Formulas.{formula_out, term_out}
use Rattle.cb_amn_print.specs.Formulas.{formula_text, term_text}
use Rattle.cb_amn_print.specs.Printed.{unplaced, SpellsBack, IsPrintedBack}
use Rattle.cb_amn_print.proofs.Scripts.{Piece, text_of, told_of, items, cut_of}
use Rattle.cb_amn_print.proofs.Pieces.{formula_script, term_script, formula-text, term-text, formula-told, term-told}
use Rattle.cb_amn_print.proofs.Ended.{ended_told}
use Rattle.cb_amn_print.proofs.Lines.{Good}
use Rattle.cb_amn_print.proofs.Spelled.{Laws, AllFine, formula_good, term_good}
use Rattle.cb_amn_print.proofs.Premises.{lexed_read, dropped_read}
use Rattle.cb_amn_print.proofs.Heard.{is_without, spelled_fine}

-- from the pieces of a value
pub spells_back : (p : Part) (opened : Bool) (pieces : List Piece) (text : List ℕ) (out : List Lexeme) → text_of pieces ≡ text → told_of pieces ≡ map unplaced out → Good opened (symbols_of p) pieces → SpellsBack p opened text out
spells_back p opened pieces text out t o g =
    let q = cut_of opened pieces start g.fit in
    record {
      tokens = q.tokens;
      last = q.last;
      items = items opened 0 pieces;
      ends = q.ends;
      cut = subst (λ (x : List ℕ). Lexes x start (Ok (q.tokens ++ q.last ∷ []))) t q.cut;
      spelled = subst (λ (ts : List Terminal). Spells language (symbols_of p) ts (items opened 0 pieces)) (sym (q.classes 0)) (g.spelled.runs 0);
      told = ended_told opened pieces 0 q.tokens (q.last ∷ []) (q.told 0 q.tokens refl) ∙ o;
    }

-- what the pieces of each value are good for
pub printed_back : {X : Type 0} (p : Part) (text : X → List ℕ) (out : X → List Lexeme) (pieces : X → List Piece) → is_without (number_of p) ≡ true → ((x : X) → text_of (pieces x) ≡ text x) → ((x : X) → told_of (pieces x) ≡ map unplaced (out x)) →
    ((opened : Bool) (x : X) → AllFine opened (out x) → Good opened (symbols_of p) (pieces x)) → IsPrintedBack text out p
printed_back p text out pieces w t o g bytes all depth opened from to x lexed spelled =
    let a = dropped_read from all (lexed_read lexed) in
    spells_back p opened (pieces x) (text x) (out x) (t x) (o x) (g opened x (spelled_fine p depth opened _ _ (out x) w a spelled.spelled))

pub formula_printed_back : Laws → IsPrintedBack (formula_text false) formula_out part.Formula
formula_printed_back laws = printed_back part.Formula (formula_text false) formula_out (formula_script false) refl (formula-text false) (formula-told false) (λ opened f q. let h = formula_good opened laws f q in h.formula)

pub term_printed_back : Laws → IsPrintedBack (term_text false) term_out part.Term
term_printed_back laws = printed_back part.Term (term_text false) term_out (term_script false) refl (term-text false) (term-told false) (λ opened t q. (term_good opened laws t q).1)

-- each spelled machine is full
pub machine_printed_back : MachineIsFull → MoreLaws → OperationIsWritten → IsPrintedBack machine_text machine_out part.Machine
machine_printed_back full m o bytes all depth opened from to x lexed spelled =
    let a = dropped_read from all (lexed_read lexed) in
    let f = spelled_fine part.Machine depth opened (drop from all) (to - from) (machine_out x) refl a spelled.spelled in
    let u = full depth opened (drop from all) (to - from) x spelled.spelled in
    spells_back part.Machine opened (machine_script x) (machine_text x) (machine_out x) (machine-text x) (machine-told x) (machine_good opened m o x u f)
