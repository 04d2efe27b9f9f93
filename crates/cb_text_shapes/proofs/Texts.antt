-- A text that tokens spell is whole.
use Rattle.std.proofs.Common.{◌≡◌, ℕ, true, false, List, [], ◌∷◌, ◌++◌, refl, append_assoc, append-nil, subst, sym, arith}
use Rattle.std.specs.Prelude.{Option, Some, None}
use Rattle.std.specs.List.{flat_map}
use Rattle.cb_lex.specs.declared.raw.name.RawName.{RawName}
use Rattle.cb_lex.specs.declared.raw.text.RawChannel.{RawChannel}
use Rattle.cb_lex.specs.declared.raw.text.RawController.{RawController}
use Rattle.cb_lex.specs.declared.raw.text.RawDefinition.{RawDefinition}
use Rattle.cb_lex.specs.declared.raw.text.RawMachine.{RawMachine}
use Rattle.cb_grammar.specs.declared.actions.TheConstants.{MACHINES_ALONE, NO_CONTROLLERS, APPEND_CONTROLLER, SYSTEM, NO_DEFINITIONS, CONTROLLER}
use Rattle.cb_grammar.specs.declared.parts.Part.TheVariants as part
use Rattle.cb_amn_parse.specs.Lexemes.{Lexeme, Named, Did}
use Rattle.cb_amn_parse.specs.Formulas.{terms_out, names_out}
use Rattle.cb_amn_parse.specs.Processes.{definitions_out, controller_out, controller_entry, controllers_out, channels_out, machines_out, text_out}
use Rattle.cb_amn_parse.specs.Spelling.{IsSpelled}
use Rattle.cb_csp_parse.proofs.Chains.{no_short}
use Rattle.cb_shapes.specs.Full.{some, AllOf}
use Rattle.cb_shapes.specs.Laws.{TextIsFull}
use Rattle.cb_text_shapes.specs.Whole.{IsChained, IsWholeController, IsWholeSystem, IsWholeRest}
use Rattle.cb_text_shapes.specs.Laws.{TextIsWhole}
use Rattle.cb_text_shapes.proofs.Counted.{spelled_follows}
use Rattle.cb_text_shapes.proofs.Refused.{told, told_items, no_machine, no_definition, no_name, no_controller}
use Rattle.cb_text_shapes.proofs.Chained.{controllers_chained}

some_more : {X : Type 0} (x : X) (xs : List X) → some (x ∷ xs) ≡ true
some_more x xs = grind arith

-- the lexemes have kinds
abbrev Goes : List Lexeme → List ℕ → Type 0
Goes ls last = told ls (Some []) ≡ Some last

goes_as : (a b : List Lexeme) (last : List ℕ) → a ≡ b → Goes a last → Goes b last
goes_as a b last e g = subst (λ (ls : List Lexeme). Goes ls last) e g

-- ---- controllers

-- what is written before the definitions
abbrev head_out : RawController → List Lexeme
head_out c = Named c.name ∷ names_out c.machines ++ Named c.start.name ∷ terms_out c.start.arguments

defined : (c : RawController) (front more : List Lexeme) (last : List ℕ) → Goes (front ++ (controller_out c ++ more)) last → some c.definitions ≡ true
defined c front more last e = go c.definitions e
  where
    spread : (h : List Lexeme) → front ++ (((h ++ (Did NO_DEFINITIONS ∷ [])) ++ (Did CONTROLLER ∷ [])) ++ more) ≡ (front ++ h) ++ (Did NO_DEFINITIONS ∷ Did CONTROLLER ∷ more)
    spread h = simp append_assoc refl

    go : (ds : List RawDefinition) → Goes (front ++ ((head_out c ++ definitions_out ds ++ Did CONTROLLER ∷ []) ++ more)) last → some ds ≡ true
    go [] e = absurd (no_definition (front ++ head_out c) more last (goes_as _ _ last (spread (head_out c)) e))
    go (d ∷ ds) e = some_more d ds

each_defined : (cs : List RawController) (front more : List Lexeme) (last : List ℕ) → Goes (front ++ (flat_map controller_entry cs ++ more)) last → AllOf (λ c. some c.definitions ≡ true) cs
each_defined [] front more last e = tt
each_defined (c ∷ cs) front more last e =
    let rest : List Lexeme = flat_map controller_entry cs ++ more in
    let a : front ++ ((controller_entry c ++ flat_map controller_entry cs) ++ more) ≡ front ++ (controller_out c ++ (Did APPEND_CONTROLLER ∷ rest)) = spread (controller_out c) (flat_map controller_entry cs) in
    let b : front ++ ((controller_entry c ++ flat_map controller_entry cs) ++ more) ≡ (front ++ controller_entry c) ++ rest = onward (controller_entry c) (flat_map controller_entry cs) in
    (defined c front (Did APPEND_CONTROLLER ∷ rest) last (goes_as _ _ last a e), each_defined cs (front ++ controller_entry c) more last (goes_as _ _ last b e))
  where
    spread : (x y : List Lexeme) → front ++ (((x ++ (Did APPEND_CONTROLLER ∷ [])) ++ y) ++ more) ≡ front ++ (x ++ (Did APPEND_CONTROLLER ∷ (y ++ more)))
    spread x y = simp append_assoc refl

    onward : (x y : List Lexeme) → front ++ ((x ++ y) ++ more) ≡ (front ++ x) ++ (y ++ more)
    onward x y = simp append_assoc refl

each_whole : (cs : List RawController) → AllOf (λ c. some c.definitions ≡ true) cs → AllOf (λ c. AllOf (λ d. IsChained d.process) c.definitions) cs → AllOf IsWholeController cs
each_whole [] a b = tt
each_whole (c ∷ cs) a b = (record { defined = a.0; chained = b.0 }, each_whole cs a.1 b.1)

-- ---- a system

-- what is written behind the machines
abbrev behind : List RawChannel → List RawController → List RawName → List Lexeme
behind chs cs xs = channels_out chs ++ controllers_out cs ++ names_out xs ++ Did SYSTEM ∷ []

controlled : (front : List Lexeme) (cs : List RawController) (xs : List RawName) (last : List ℕ) → Goes (front ++ (controllers_out cs ++ (names_out xs ++ (Did SYSTEM ∷ [])))) last → some cs ≡ true
controlled front [] xs last e = absurd (no_controller front xs [] last e)
controlled front (c ∷ cs) xs last e = some_more c cs

ordered : (front : List Lexeme) (xs : List RawName) (last : List ℕ) → Goes (front ++ (names_out xs ++ (Did SYSTEM ∷ []))) last → some xs ≡ true
ordered front [] last e = absurd (no_name front [] last e)
ordered front (x ∷ xs) last e = some_more x xs

spread_system : (m h c n : List Lexeme) → m ++ (h ++ c ++ n ++ Did SYSTEM ∷ []) ≡ (m ++ h) ++ (c ++ (n ++ (Did SYSTEM ∷ [])))
spread_system m h c n = simp append_assoc refl

system : (ms : List RawMachine) (chs : List RawChannel) (cs : List RawController) (xs : List RawName) (last : List ℕ) → AllOf (λ c. AllOf (λ d. IsChained d.process) c.definitions) cs → Goes (machines_out ms ++ behind chs cs xs) last → IsWholeSystem cs xs
system ms chs cs xs last chains e =
    let front : List Lexeme = machines_out ms ++ channels_out chs in
    let end : List Lexeme = names_out xs ++ (Did SYSTEM ∷ []) in
    let g : Goes (front ++ (controllers_out cs ++ end)) last = goes_as _ _ last (spread_system (machines_out ms) (channels_out chs) (controllers_out cs) (names_out xs)) e in
    let d : Goes ((front ++ (Did NO_CONTROLLERS ∷ [])) ++ (flat_map controller_entry cs ++ end)) last = goes_as _ _ last (sym (append_assoc front (Did NO_CONTROLLERS ∷ []) (flat_map controller_entry cs ++ end))) g in
    let o : Goes ((front ++ controllers_out cs) ++ end) last = goes_as _ _ last (sym (append_assoc front (controllers_out cs) end)) g in
    record {
      controlled = controlled front cs xs last g;
      ordered = ordered (front ++ controllers_out cs) xs last o;
      each = each_whole cs (each_defined cs (front ++ (Did NO_CONTROLLERS ∷ [])) end last d) chains;
    }

alone : (ms : List RawMachine) (last : List ℕ) → Goes (machines_out ms ++ (Did MACHINES_ALONE ∷ [])) last → some ms ≡ true
alone [] last e = absurd (no_machine [] last e)
alone (m ∷ ms) last e = some_more m ms

-- ---- the law

pub whole_text : TextIsFull → TextIsWhole
whole_text full ts taken t stands q = record {
  machines = full part.Text 0 false ts taken [] t (subst (λ (ls : List Lexeme). IsSpelled part.Text 0 false ts taken ls) (sym (append-nil (text_out t))) q);
  rest = go t.order refl;
}
  where
    end : (last : List ℕ) × Goes (text_out t) last
    end =
        let f = spelled_follows _ q.items q.read.whole.spelled in
        (f.0, subst (λ (ls : List Lexeme). Goes ls f.0) q.told (rw (told_items ts q.items (Some [])) f.1))

    go : (o : Option (List RawName)) → t.order ≡ o → IsWholeRest t o
    go None e = alone t.machines end.0 (rw e at (end.1))
    go (Some xs) e = system t.machines t.channels t.controllers xs end.0 (controllers_chained t.controllers (no_short ts taken t stands q)) (rw e at (end.1))
