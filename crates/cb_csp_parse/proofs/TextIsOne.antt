-- There is one text for what is written, and so for channels and a controller.
use Rattle.std.proofs.Common.{◌≡◌, ℕ, Bool, false, List, [], ◌∷◌, ap, sym, ◌∙◌}
use Rattle.cb_lex.specs.declared.token.Token.{Token}
use Rattle.cb_lex.specs.declared.raw.text.RawText.{RawText}
use Rattle.cb_lex.specs.declared.raw.text.RawChannel.{RawChannel}
use Rattle.cb_lex.specs.declared.raw.text.RawController.{RawController}
use Rattle.cb_grammar.specs.declared.parts.Part.TheVariants as part
use Rattle.cb_amn_parse.specs.Lexemes.{Lexeme}
use Rattle.cb_amn_parse.specs.Processes.{text_out, channels_out, controller_out}
use Rattle.cb_amn_parse.specs.Spelling.{IsSpelled}
use Rattle.cb_amn_parse.proofs.Once.{same_out}
use Rattle.cb_csp_parse.specs.Laws.{StandsAlone}
use Rattle.cb_csp_parse.proofs.TextsAgain.{Two, Text, Channels, Controller, walk, walk_text, walk_channels_on, walk_controller}
use Rattle.cb_csp_parse.proofs.Chains.{no_short, no_short_within}

pub text_once : (ts : List Token) (taken : ℕ) (x y : RawText) → StandsAlone x → StandsAlone y → IsSpelled part.Text 0 false ts taken (text_out x) → IsSpelled part.Text 0 false ts taken (text_out y) → x ≡ y
text_once ts taken x y a b p q =
    let e = same_out part.Text 0 false ts taken (text_out x) (text_out y) p q in
    let v = walk_text x a (no_short ts taken x a p) in
    let w = walk_text y b (no_short ts taken y b q) in
    let s : Two [] (Text x ∷ []) ≡ Two [] (Text y ∷ []) = sym v ∙ (ap (λ (ls : List Lexeme). walk ls (Two [] [])) e ∙ w) in
    cc

pub channels_once : (depth : ℕ) (opened : Bool) (ts : List Token) (taken : ℕ) (x y : List RawChannel) → IsSpelled part.Channels depth opened ts taken (channels_out x) → IsSpelled part.Channels depth opened ts taken (channels_out y) → x ≡ y
channels_once depth opened ts taken x y p q =
    let e = same_out part.Channels depth opened ts taken (channels_out x) (channels_out y) p q in
    let s : Two [] (Channels x ∷ []) ≡ Two [] (Channels y ∷ []) = sym (walk_channels_on x [] [] []) ∙ (ap (λ (ls : List Lexeme). walk ls (Two [] [])) e ∙ walk_channels_on y [] [] []) in
    cc

pub controller_once : (depth : ℕ) (opened : Bool) (ts : List Token) (taken : ℕ) (x y : RawController) → IsSpelled part.Controller depth opened ts taken (controller_out x) → IsSpelled part.Controller depth opened ts taken (controller_out y) → x ≡ y
controller_once depth opened ts taken x y p q =
    let e = same_out part.Controller depth opened ts taken (controller_out x) (controller_out y) p q in
    let v = walk_controller x [] [] (no_short_within depth opened ts taken x p) in
    let w = walk_controller y [] [] (no_short_within depth opened ts taken y q) in
    let s : Two [] (Controller x ∷ []) ≡ Two [] (Controller y ∷ []) = sym v ∙ (ap (λ (ls : List Lexeme). walk ls (Two [] [])) e ∙ w) in
    cc
