-- The tests of the engine over the table.
use Rattle.std.specs.Prelude.{◌≡◌, true, false, refl, List, [], Result, Ok, Err, IfOk}
use Rattle.std.specs.declared.alloc.AllocError.{AllocError}
use Rattle.cb_engine.specs.declared.Terminal.{Terminal}
use Rattle.cb_engine.specs.declared.Reading.{Reading}
use Rattle.cb_engine.specs.Rules.{Hints, Decides}
use Rattle.cb_engine.specs.Tables.{rules_of}
use Rattle.cb_engine.specs.Readings.{Light, weight_in, IsReading}
use Rattle.cb_engine.specs.Deciding.{each_is_fine, decides, light}
use Rattle.cb_engine.specs.Kinds.{Leaves, signature, all_lead}
use Rattle.cb_engine.specs.Leading.{tested, reading_leaves}
use Rattle.cb_engine.specs.Plain.{each_alone}
use Rattle.cb_grammar.specs.declared.parts.Part.{Part}
use Rattle.cb_grammar.specs.declared.table.TheConstants.{GRAMMAR, WEIGHTS}
use Rattle.cb_grammar.specs.Misreadings.{language, symbols_of}
use Rattle.cb_grammar.specs.Parts.{number_of, kinds_left}
use Rattle.cb_grammar.specs.Signatures.{signatures}
use Rattle.cb_grammar.proofs.Hinted.{hints}
use Rattle.cb_grammar.proofs.PartsFit.{part_fits}

-- one token decides, and reading ends
fine : each_is_fine GRAMMAR hints (weight_in WEIGHTS) GRAMMAR ≡ true
fine = refl

pub grammar_decides : (h : Hints) × Decides (rules_of GRAMMAR) h
grammar_decides = (hints, decides GRAMMAR hints (weight_in WEIGHTS) fine)

pub grammar_light : Light (rules_of GRAMMAR) (weight_in WEIGHTS)
grammar_light = light GRAMMAR hints (weight_in WEIGHTS) fine

-- no alternative is dead, and their order is free
pub all_alone : each_alone GRAMMAR GRAMMAR ≡ true
all_alone = refl

-- the actions of each alternative fit
all_fit : all_lead signatures GRAMMAR ≡ true
all_fit = refl

pub leaves_if : (p : Part) (ts : List Terminal) (result : Result Reading AllocError) → IfOk result (λ reading. IsReading language (symbols_of p) ts reading) → IfOk result (λ reading. Leaves signatures (kinds_left p) reading)
unfolding language
leaves_if p ts (Ok reading) e = reading_leaves (rules_of GRAMMAR) signatures (signature false [] (kinds_left p) []) (number_of p) ts reading (tested signatures GRAMMAR all_fit) (part_fits p) e
leaves_if p ts (Err x) e = tt
