-- No SYSTEM is written behind no controller.
use Rattle.std.proofs.Common.{◌≡◌, ℕ, true, eqb, List, [], ◌∷◌, ◌++◌, refl}
use Rattle.std.specs.Prelude.{Option, Some, None, slice_get, if◌then◌else◌}
use Rattle.std.specs.List.{flat_map}
use Rattle.cb_lex.specs.declared.token.Token.{Token}
use Rattle.cb_lex.specs.declared.token.Sort.{Sort}
use Rattle.cb_lex.specs.declared.token.Sort.TheVariants as sort
use Rattle.cb_lex.specs.declared.raw.name.RawName.{RawName}
use Rattle.cb_engine.specs.Kinds.{Effect}
use Rattle.cb_engine.specs.Rules.{Spells}
use Rattle.cb_engine.specs.declared.Terminal.{Terminal}
use Rattle.cb_engine.specs.declared.Item.{Item}
use Rattle.cb_engine.specs.declared.Item.TheVariants.{Word, Do}
use Rattle.cb_grammar.specs.declared.table.TheConstants.{GRAMMAR}
use Rattle.cb_grammar.specs.declared.actions.TheConstants.{NO_CONTROLLERS, APPEND_CONTROLLER, SYSTEM}
use Rattle.cb_grammar.specs.declared.parts.Part.{Part}
use Rattle.cb_grammar.specs.declared.parts.Part.TheVariants as part
use Rattle.cb_grammar.specs.Misreadings.{language, symbols_of}
use Rattle.cb_grammar.specs.Parts.{kinds_left}
use Rattle.cb_grammar.specs.Signatures.{controller_kind, controllers_kind, names_kind}
use Rattle.cb_amn_parse.specs.Lexemes.{Lexeme, Named, Said, Did, Lost, heard, lexemes}
use Rattle.cb_amn_parse.specs.Formulas.{names_out, name_entry}
use Rattle.cb_shapes.proofs.Finer.{Outcome, Finer, acted, pushed, kinds, leads, all_lead}
use Rattle.cb_shapes.proofs.Following.{follows, tested}
use Rattle.cb_shapes.proofs.Table.{finer, word_kind, no_names}
use Rattle.cb_shapes.proofs.Values.{kind_of}
use Rattle.cb_spelled_texts.proofs.Acting.{only}

-- a list of no controllers; the kind of controllers is that of one or more
abbrev no_controllers : ℕ
no_controllers = 54

abbrev counted_action : ℕ → List Effect
counted_action a = if eqb a NO_CONTROLLERS then only [] (no_controllers ∷ []) else if eqb a APPEND_CONTROLLER then only (controller_kind ∷ no_controllers ∷ []) (controllers_kind ∷ []) ++ only (controller_kind ∷ controllers_kind ∷ []) (controllers_kind ∷ []) else finer.action a

abbrev counted : Finer
counted = record { word = word_kind; action = counted_action; part = finer.part }

-- ---- the test of the grammar's table

table_leads : all_lead counted GRAMMAR ≡ true
table_leads = refl

abbrev left : Part → List Outcome
left p = (None, kinds_left p) ∷ []

part_leads : (p : Part) → leads counted (left p) (symbols_of p) None [] ≡ true
part_leads part.Whole = refl
part_leads part.Text = refl
part_leads part.Proofs = refl
part_leads part.Machine = refl
part_leads part.Channels = refl
part_leads part.Controller = refl
part_leads part.Formula = refl
part_leads part.Term = refl
part_leads part.Domain = refl

spelled_follows : (p : Part) (ts : List Terminal) (out : List Item) → Spells language (symbols_of p) ts out → (end : List ℕ) × (kinds counted out (Some []) ≡ Some end)
unfolding language
spelled_follows p ts out m = let h = follows counted (left p) (tested counted GRAMMAR table_leads) m [] (part_leads p) in (h.end, h.run)

-- ---- the kinds after lexemes

abbrev told : List Lexeme → Option (List ℕ) → Option (List ℕ)
told [] o = o
told (Named x ∷ ls) o = told ls (pushed word_kind o)
told (Said s p ∷ ls) o = told ls (pushed word_kind o)
told (Lost ∷ ls) o = told ls (pushed word_kind o)
told (Did a ∷ ls) o = told ls (acted (counted_action a) o)

told_heard : (t : Option Token) (ls : List Lexeme) (o : Option (List ℕ)) → told (heard t ∷ ls) o ≡ told ls (pushed word_kind o)
told_heard None ls o = refl
told_heard (Some t) ls o = go t.sort
  where
    go : (s : Sort) → told (heard (Some (record { sort = s; place = t.place })) ∷ ls) o ≡ told ls (pushed word_kind o)
    go (sort.Word text) = refl
    go (sort.Opened text n) = refl
    go (sort.Number n) = refl
    go (sort.Keyword k) = refl
    go (sort.Sign s) = refl
    go sort.Finish = refl

told_items : (ts : List Token) (items : List Item) (o : Option (List ℕ)) → told (lexemes ts items) o ≡ kinds counted items o
told_items ts [] o = refl
told_items ts (Word t ∷ items) o = rw (told_heard (slice_get ts t.index) (lexemes ts items) o) (told_items ts items (pushed word_kind o))
told_items ts (Do a ∷ items) o = told_items ts items (acted (counted_action a) o)

told_append : (a b : List Lexeme) (o : Option (List ℕ)) → told (a ++ b) o ≡ told b (told a o)
told_append [] b o = refl
told_append (Named x ∷ a) b o = told_append a b (pushed word_kind o)
told_append (Said s p ∷ a) b o = told_append a b (pushed word_kind o)
told_append (Lost ∷ a) b o = told_append a b (pushed word_kind o)
told_append (Did x ∷ a) b o = told_append a b (acted (counted_action x) o)

told_none : (ls : List Lexeme) → told ls None ≡ None
told_none [] = refl
told_none (Named x ∷ ls) = told_none ls
told_none (Said s p ∷ ls) = told_none ls
told_none (Lost ∷ ls) = told_none ls
told_none (Did a ∷ ls) = told_none ls

no_more : {X : Type 0} (more : List Lexeme) (last : List ℕ) → told more None ≡ Some last → X
no_more more last e = absurd (let h : told more None ≡ None = told_none more in cc)

more_names : (xs : List RawName) (k : List ℕ) → told (flat_map name_entry xs) (Some (names_kind ∷ k)) ≡ Some (names_kind ∷ k)
more_names [] k = refl
more_names (x ∷ xs) k = more_names xs k

told_names : (xs : List RawName) (k : List ℕ) → told (names_out xs) (Some k) ≡ Some (kind_of no_names names_kind xs ∷ k)
told_names [] k = refl
told_names (x ∷ xs) k = more_names xs k

-- ---- SYSTEM

system_fails : (xs : List RawName) (more : List Lexeme) (m last : List ℕ) → told (Did SYSTEM ∷ more) (Some (kind_of no_names names_kind xs ∷ no_controllers ∷ m)) ≡ Some last → ⊥
system_fails [] more [] last e = no_more more last e
system_fails [] more (x ∷ []) last e = no_more more last e
system_fails [] more (x ∷ (y ∷ m)) last e = no_more more last e
system_fails (z ∷ xs) more [] last e = no_more more last e
system_fails (z ∷ xs) more (x ∷ []) last e = no_more more last e
system_fails (z ∷ xs) more (x ∷ (y ∷ m)) last e = no_more more last e

-- whatever stands before
fails : (front : List Lexeme) (xs : List RawName) (more : List Lexeme) (last : List ℕ) → told (front ++ (Did NO_CONTROLLERS ∷ (names_out xs ++ Did SYSTEM ∷ more))) (Some []) ≡ Some last → ⊥
fails front xs more last e = go (told front (Some [])) (rw (told_append front (Did NO_CONTROLLERS ∷ (names_out xs ++ Did SYSTEM ∷ more)) (Some [])) at e)
  where
    go : (o : Option (List ℕ)) → told (Did NO_CONTROLLERS ∷ (names_out xs ++ Did SYSTEM ∷ more)) o ≡ Some last → ⊥
    go None e = no_more (Did NO_CONTROLLERS ∷ (names_out xs ++ Did SYSTEM ∷ more)) last e
    go (Some m) e =
        let h : told (names_out xs ++ Did SYSTEM ∷ more) (Some (no_controllers ∷ m)) ≡ Some last = e in
        system_fails xs more m last (rw (told_append (names_out xs) (Did SYSTEM ∷ more) (Some (no_controllers ∷ m)), told_names xs (no_controllers ∷ m)) at h)

pub no_system : (p : Part) (ts : List Token) (terminals : List Terminal) (items : List Item) → Spells language (symbols_of p) terminals items → (front : List Lexeme) (xs : List RawName) (more : List Lexeme) →
    lexemes ts items ≡ front ++ (Did NO_CONTROLLERS ∷ (names_out xs ++ Did SYSTEM ∷ more)) → ⊥
no_system p ts terminals items m front xs more e =
    let f = spelled_follows p terminals items m in
    let h : told (lexemes ts items) (Some []) ≡ Some f.0 = rw (told_items ts items (Some [])) f.1 in
    fails front xs more f.0 (rw e at h)
