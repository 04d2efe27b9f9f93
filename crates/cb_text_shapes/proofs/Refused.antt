-- What no text writes: an action over a list that has no entry.
use Rattle.std.proofs.Common.{◌≡◌, ℕ, List, [], ◌∷◌, ◌++◌, refl}
use Rattle.std.specs.Prelude.{Option, Some, None, slice_get}
use Rattle.std.specs.List.{flat_map}
use Rattle.cb_lex.specs.declared.token.Token.{Token}
use Rattle.cb_lex.specs.declared.token.Sort.{Sort}
use Rattle.cb_lex.specs.declared.token.Sort.TheVariants as sort
use Rattle.cb_lex.specs.declared.raw.name.RawName.{RawName}
use Rattle.cb_engine.specs.declared.Item.{Item}
use Rattle.cb_engine.specs.declared.Item.TheVariants.{Word, Do}
use Rattle.cb_grammar.specs.declared.actions.TheConstants.{NO_MACHINES, MACHINES_ALONE, NO_CONTROLLERS, SYSTEM, NO_DEFINITIONS, CONTROLLER, NO_NAMES}
use Rattle.cb_grammar.specs.Signatures.{machines_kind, channels_kind, controllers_kind, names_kind, terms_kind}
use Rattle.cb_amn_parse.specs.Lexemes.{Lexeme, Named, Said, Did, Lost, heard, lexemes}
use Rattle.cb_amn_parse.specs.Formulas.{names_out, name_entry}
use Rattle.cb_shapes.proofs.Finer.{onto, split, within, acted, pushed, kinds}
use Rattle.cb_shapes.proofs.Table.{word_kind, no_names}
use Rattle.cb_shapes.proofs.Values.{kind_of}
use Rattle.cb_text_shapes.proofs.Counted.{no_controllers, no_definitions, counted_action, counted}

-- ---- the kinds after lexemes

abbrev pub told : List Lexeme → Option (List ℕ) → Option (List ℕ)
told [] o = o
told (Named x ∷ ls) o = told ls (pushed word_kind o)
told (Said s p ∷ ls) o = told ls (pushed word_kind o)
told (Lost ∷ ls) o = told ls (pushed word_kind o)
told (Did a ∷ ls) o = told ls (acted (counted_action a) o)

told_heard : (t : Option Token) (ls : List Lexeme) (o : Option (List ℕ)) → told (heard t ∷ ls) o ≡ told ls (pushed word_kind o)
told_heard None ls o = refl
told_heard (Some t) ls o = go t.sort
  where
    go : (s : Sort) → told (heard (Some (record { sort = s; place = t.place })) ∷ ls) o ≡ told ls (pushed word_kind o)
    go (sort.Word text) = refl
    go (sort.Opened text n) = refl
    go (sort.Number n) = refl
    go (sort.Keyword k) = refl
    go (sort.Sign s) = refl
    go sort.Finish = refl

pub told_items : (ts : List Token) (items : List Item) (o : Option (List ℕ)) → told (lexemes ts items) o ≡ kinds counted items o
told_items ts [] o = refl
told_items ts (Word t ∷ items) o = rw (told_heard (slice_get ts t.index) (lexemes ts items) o) (told_items ts items (pushed word_kind o))
told_items ts (Do a ∷ items) o = told_items ts items (acted (counted_action a) o)

told_append : (a b : List Lexeme) (o : Option (List ℕ)) → told (a ++ b) o ≡ told b (told a o)
told_append [] b o = refl
told_append (Named x ∷ a) b o = told_append a b (pushed word_kind o)
told_append (Said s p ∷ a) b o = told_append a b (pushed word_kind o)
told_append (Lost ∷ a) b o = told_append a b (pushed word_kind o)
told_append (Did x ∷ a) b o = told_append a b (acted (counted_action x) o)

told_none : (ls : List Lexeme) → told ls None ≡ None
told_none [] = refl
told_none (Named x ∷ ls) = told_none ls
told_none (Said s p ∷ ls) = told_none ls
told_none (Lost ∷ ls) = told_none ls
told_none (Did a ∷ ls) = told_none ls

-- what goes on nowhere stands nowhere
refused : (front ls : List Lexeme) (last : List ℕ) → ((k : List ℕ) → told ls (Some k) ≡ None) → told (front ++ ls) (Some []) ≡ Some last → ⊥
refused front ls last stops e = go (told front (Some [])) (rw (told_append front ls (Some [])) at e)
  where
    go : (o : Option (List ℕ)) → told ls o ≡ Some last → ⊥
    go None e = let h : told ls None ≡ None = told_none ls in cc
    go (Some k) e = let h : told ls (Some k) ≡ None = stops k in cc

more_names : (xs : List RawName) (k : List ℕ) → told (flat_map name_entry xs) (Some (names_kind ∷ k)) ≡ Some (names_kind ∷ k)
more_names [] k = refl
more_names (x ∷ xs) k = more_names xs k

told_names : (xs : List RawName) (k : List ℕ) → told (names_out xs) (Some k) ≡ Some (kind_of no_names names_kind xs ∷ k)
told_names [] k = refl
told_names (x ∷ xs) k = more_names xs k

-- ---- such actions

abbrev Pair : Type 0
Pair = Option (List ℕ × List ℕ)

definitions_fail : (k : List ℕ) → acted (counted_action CONTROLLER) (Some (no_definitions ∷ k)) ≡ None
definitions_fail k = go (split (terms_kind ∷ word_kind ∷ names_kind ∷ word_kind ∷ []) k)
  where
    go : (o : Pair) → within (counted_action CONTROLLER) (onto no_definitions o) ≡ None
    go None = refl
    go (Some p) = refl

names_fail : (k : List ℕ) → acted (counted_action SYSTEM) (Some (no_names ∷ k)) ≡ None
names_fail k = go (split (controllers_kind ∷ channels_kind ∷ machines_kind ∷ []) k)
  where
    go : (o : Pair) → within (counted_action SYSTEM) (onto no_names o) ≡ None
    go None = refl
    go (Some p) = refl

controllers_fail : (xs : List RawName) (k : List ℕ) → acted (counted_action SYSTEM) (Some (kind_of no_names names_kind xs ∷ no_controllers ∷ k)) ≡ None
controllers_fail [] k = names_fail (no_controllers ∷ k)
controllers_fail (x ∷ xs) k = go (split (channels_kind ∷ machines_kind ∷ []) k)
  where
    go : (o : Pair) → within (counted_action SYSTEM) (onto names_kind (onto no_controllers o)) ≡ None
    go None = refl
    go (Some p) = refl

-- ---- whatever stands before and behind

pub no_machine : (more : List Lexeme) (last : List ℕ) → told (Did NO_MACHINES ∷ Did MACHINES_ALONE ∷ more) (Some []) ≡ Some last → ⊥
no_machine more last e = let h : told more None ≡ None = told_none more in cc

pub no_definition : (front more : List Lexeme) (last : List ℕ) → told (front ++ (Did NO_DEFINITIONS ∷ Did CONTROLLER ∷ more)) (Some []) ≡ Some last → ⊥
no_definition front more last e = refused front (Did NO_DEFINITIONS ∷ Did CONTROLLER ∷ more) last (λ k. rw (definitions_fail k) (told_none more)) e

pub no_name : (front more : List Lexeme) (last : List ℕ) → told (front ++ (Did NO_NAMES ∷ Did SYSTEM ∷ more)) (Some []) ≡ Some last → ⊥
no_name front more last e = refused front (Did NO_NAMES ∷ Did SYSTEM ∷ more) last (λ k. rw (names_fail k) (told_none more)) e

pub no_controller : (front : List Lexeme) (xs : List RawName) (more : List Lexeme) (last : List ℕ) → told (front ++ (Did NO_CONTROLLERS ∷ (names_out xs ++ (Did SYSTEM ∷ more)))) (Some []) ≡ Some last → ⊥
no_controller front xs more last e =
    refused front (Did NO_CONTROLLERS ∷ (names_out xs ++ (Did SYSTEM ∷ more))) last
    (λ k. rw (told_append (names_out xs) (Did SYSTEM ∷ more) (Some (no_controllers ∷ k)), told_names xs (no_controllers ∷ k), controllers_fail xs k) (told_none more)) e
