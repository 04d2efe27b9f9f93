-- Texts, with their proofs or without.
use Rattle.std.specs.Prelude.{◌≡◌, ◌<◌, ℕ, zero, suc, List, [], ◌∷◌, ◌++◌, refl, length}
use Rattle.std.proofs.Common.{arith, inl, inr, append_assoc}
use Rattle.cb_lex.specs.declared.token.Keyword.TheVariants as keyword
use Rattle.cb_engine.specs.declared.Symbol.{Symbol}
use Rattle.cb_engine.specs.declared.Symbol.TheVariants.{Take, Keep, Act, Part}
use Rattle.cb_engine.specs.declared.Terminal.{Terminal}
use Rattle.cb_engine.specs.declared.Item.{Item}
use Rattle.cb_engine.specs.Lines.{alternatives, OneOf, NoThen, Among, Repeated}
use Rattle.cb_engine.specs.Lines.Repeated.{none, more}
use Rattle.cb_engine.specs.Tables.{rules_of}
use Rattle.cb_engine.specs.Splitting.{Split, split, rejoined}
use Rattle.cb_engine.specs.Repeating.{part_no_then}
use Rattle.cb_grammar.specs.declared.table.TheConstants.{GRAMMAR}
use Rattle.cb_grammar.specs.declared.actions.TheConstants as action
use Rattle.cb_grammar.specs.Classes.{keyword_class}
use Rattle.cb_grammar.specs.Numbers as part
use Rattle.cb_written.specs.Texts.{one_machine, one_controller, channels_or_none, TextLine, one_proof, finish, WholeLine}
use Rattle.cb_written.specs.Texts.TextLine.{machines, system}
use Rattle.cb_written.specs.Texts.WholeLine.{whole}
use Rattle.cb_written.proofs.Pieces.{Run, Into, Read, Means, take_no_then, act_no_then, act_first, act_last, under, open_part, close_part, open_only, close_only, expand, contract, many_behind, behind_many}

-- the table has these parts within other lines too
abbrev machine_symbols : List Symbol
machine_symbols =
    Take (keyword_class keyword.Machine) ∷ Keep 1 ∷ Part part.machine_1 ∷ Act action.NO_SETS ∷ Part part.machine_3 ∷ Part part.constants ∷ Part part.state ∷ Act action.NO_OPERATIONS ∷ Part part.machine_5 ∷
    Take (keyword_class keyword.End) ∷ Act action.MACHINE ∷ []

abbrev channels_symbols : List Symbol
channels_symbols = Take (keyword_class keyword.Channels) ∷ Act action.NO_CHANNELS ∷ Part part.channel ∷ Part part.channels_1 ∷ Take (keyword_class keyword.End) ∷ []

abbrev controller_symbols : List Symbol
controller_symbols = Take (keyword_class keyword.Controller) ∷ Part part.controller_rest ∷ []

abbrev append : Symbol
append = Act action.APPEND_CONTROLLER

abbrev with_channels : List Symbol
with_channels = Act action.NO_CONTROLLERS ∷ Part part.controller ∷ append ∷ Part part.more_controllers ∷ []

abbrev no_channels : List Symbol
no_channels = Take (keyword_class keyword.Controller) ∷ Act action.NO_CHANNELS ∷ Act action.NO_CONTROLLERS ∷ Part part.controller_rest ∷ append ∷ Part part.more_controllers ∷ []

abbrev machine_more : List Symbol
machine_more = machine_symbols ++ Act action.APPEND_MACHINE ∷ Part part.more_text ∷ []

abbrev more_texts : List (List Symbol)
more_texts = machine_more ∷ (channels_symbols ++ with_channels) ∷ no_channels ∷ (Act action.MACHINES_ALONE ∷ []) ∷ []

abbrev controller_lists : List (List Symbol)
controller_lists = (controller_symbols ++ append ∷ Part part.more_controllers ∷ []) ∷ (Part part.system ∷ []) ∷ []

machine_lines : alternatives GRAMMAR part.machine ≡ machine_symbols ∷ []
machine_lines = refl

channels_lines : alternatives GRAMMAR part.channels ≡ channels_symbols ∷ []
channels_lines = refl

controller_lines : alternatives GRAMMAR part.controller ≡ controller_symbols ∷ []
controller_lines = refl

system_text_lines : alternatives GRAMMAR part.system_text ≡ (Part part.channels ∷ with_channels) ∷ no_channels ∷ []
system_text_lines = refl

more_text_lines : alternatives GRAMMAR part.more_text ≡ more_texts
more_text_lines = refl

controller_list_lines : alternatives GRAMMAR part.more_controllers ≡ controller_lists
controller_list_lines = refl

text_lines : alternatives GRAMMAR part.text ≡ (Act action.NO_MACHINES ∷ Part part.text_1 ∷ []) ∷ []
text_lines = refl

text_rest_lines : alternatives GRAMMAR part.text_1 ≡ machine_more ∷ (Part part.system_text ∷ []) ∷ []
text_rest_lines = refl

-- controllers

record Controllers (k : List Symbol) (ts : List Terminal) (out : List Item) : Type 0 where
  pub each : List Symbol
  pub are : Repeated (one_controller ∷ []) each
  pub runs : Run (each ++ (Part part.system ∷ k)) ts out

controllers_within : (f : ℕ) (k : List Symbol) (ts : List Terminal) (out : List Item) → length ts < f → Run (Part part.more_controllers ∷ k) ts out → Controllers k ts out
controllers_within zero k ts out l m = absurd (omega arith)
controllers_within (suc f) k ts out l m = go (open_part part.more_controllers controller_lists controller_list_lines k ts out m) (λ us o s. controllers_within f k us o s)
  where
    go : OneOf (λ a. Run (a ++ k) ts out) controller_lists → ((us : List Terminal) (o : List Item) → length us < f → Run (Part part.more_controllers ∷ k) us o → Controllers k us o) → Controllers k ts out
    go (inl p) again =
        let s = split p (controller_symbols ++ append ∷ []) (Part part.more_controllers ∷ k) (part_no_then _ _) refl in
        let t = s.token refl in
        let q = again s.back s.late (omega (arith, t, l)) s.rest in
        let r : Run (controller_symbols ++ (append ∷ (q.each ++ (Part part.system ∷ k)))) ts out = rejoined s (q.each ++ (Part part.system ∷ k)) q.runs in
        record { each = one_controller ++ q.each; are = more one_controller q.each (inl refl) q.are; runs = close_only part.controller controller_symbols controller_lines (append ∷ (q.each ++ (Part part.system ∷ k))) ts out r }
    go (inr (inl p)) again = record { each = []; are = none; runs = p }
    go (inr (inr p)) again = absurd p

controllers_no_then : (y k : List Symbol) → Repeated (one_controller ∷ []) y → NoThen (y ++ (Part part.system ∷ k))
controllers_no_then y k none = part_no_then _ _
controllers_no_then y k (more w x (inl e) q) = rw e (λ a b j g. absurd (cc))
controllers_no_then y k (more w x (inr e) q) = absurd e

of_controllers : (y k : List Symbol) → Repeated (one_controller ∷ []) y → Into (y ++ (Part part.system ∷ k)) (Part part.more_controllers ∷ k)
of_controllers y k none ts out m = close_part part.more_controllers controller_lists controller_list_lines k ts out (inr (inl m))
of_controllers y k (more w x (inl e) q) ts out m =
    let p : Run (one_controller ++ (x ++ (Part part.system ∷ k))) ts out = rw (e, append_assoc one_controller x (Part part.system ∷ k)) at m in
    let r = under one_controller (x ++ (Part part.system ∷ k)) (Part part.more_controllers ∷ k) (controllers_no_then x k q) (of_controllers x k q) ts out p in
    close_part part.more_controllers controller_lists controller_list_lines k ts out (inl (open_only part.controller controller_symbols controller_lines (append ∷ Part part.more_controllers ∷ k) ts out r))
of_controllers y k (more w x (inr e) q) ts out m = absurd e

-- what stands behind the machines

abbrev system_end : List Symbol → List Symbol → List Symbol → List Symbol
system_end c y k = c ++ (Act action.NO_CONTROLLERS ∷ Part part.controller ∷ append ∷ (y ++ (Part part.system ∷ k)))

record System (k : List Symbol) (ts : List Terminal) (out : List Item) : Type 0 where
  pub channels : List Symbol
  pub controllers : List Symbol
  pub are_channels : Among channels_or_none channels
  pub are_controllers : Repeated (one_controller ∷ []) controllers
  pub runs : Run (system_end channels controllers k) ts out

-- the word of a controller stands behind what is written before it
controller_word : (k : List Symbol) → Into (no_channels ++ k) (Act action.NO_CHANNELS ∷ (with_channels ++ k))
controller_word k ts out m =
    let a = act_first (keyword_class keyword.Controller) action.NO_CHANNELS (Act action.NO_CONTROLLERS ∷ Part part.controller_rest ∷ append ∷ Part part.more_controllers ∷ k) ts out m in
    let b = under (Act action.NO_CHANNELS ∷ []) _ _ (take_no_then _ _) (act_first (keyword_class keyword.Controller) action.NO_CONTROLLERS (Part part.controller_rest ∷ append ∷ Part part.more_controllers ∷ k)) ts out a in
    under (Act action.NO_CHANNELS ∷ Act action.NO_CONTROLLERS ∷ []) _ _ (take_no_then _ _) (close_only part.controller controller_symbols controller_lines (append ∷ Part part.more_controllers ∷ k)) ts out b

word_controller : (k : List Symbol) → Into (Act action.NO_CHANNELS ∷ (with_channels ++ k)) (no_channels ++ k)
word_controller k ts out m =
    let a = under (Act action.NO_CHANNELS ∷ Act action.NO_CONTROLLERS ∷ []) _ _ (part_no_then _ _) (open_only part.controller controller_symbols controller_lines (append ∷ Part part.more_controllers ∷ k)) ts out m in
    let b = under (Act action.NO_CHANNELS ∷ []) _ _ (act_no_then _ _) (act_last (keyword_class keyword.Controller) action.NO_CONTROLLERS (Part part.controller_rest ∷ append ∷ Part part.more_controllers ∷ k)) ts out a in
    act_last (keyword_class keyword.Controller) action.NO_CHANNELS (Act action.NO_CONTROLLERS ∷ Part part.controller_rest ∷ append ∷ Part part.more_controllers ∷ k) ts out b

with_system : (c k : List Symbol) → Among channels_or_none c → (ts : List Terminal) (out : List Item) → Run (c ++ (with_channels ++ k)) ts out → System k ts out
with_system c k a ts out m =
    let u : List Symbol = c ++ (Act action.NO_CONTROLLERS ∷ Part part.controller ∷ append ∷ []) in
    let s = split m u (Part part.more_controllers ∷ k) (part_no_then _ _) (rw (append_assoc c (Act action.NO_CONTROLLERS ∷ Part part.controller ∷ append ∷ []) (Part part.more_controllers ∷ k)) refl) in
    let q = controllers_within (suc (length s.back)) k s.back s.late (omega arith) s.rest in
    record {
      channels = c;
      controllers = q.each;
      are_channels = a;
      are_controllers = q.are;
      runs = rw (append_assoc c (Act action.NO_CONTROLLERS ∷ Part part.controller ∷ append ∷ []) (q.each ++ (Part part.system ∷ k))) at (rejoined s (q.each ++ (Part part.system ∷ k)) q.runs);
    }

system_reads : (k : List Symbol) (ts : List Terminal) (out : List Item) → Run (Part part.system_text ∷ k) ts out → System k ts out
system_reads k ts out m = go (open_part part.system_text _ system_text_lines k ts out m)
  where
    go : OneOf (λ a. Run (a ++ k) ts out) ((Part part.channels ∷ with_channels) ∷ no_channels ∷ []) → System k ts out
    go (inl p) = with_system (Part part.channels ∷ []) k (inl refl) ts out p
    go (inr (inl p)) = with_system (Act action.NO_CHANNELS ∷ []) k (inr (inl refl)) ts out (controller_word k ts out p)
    go (inr (inr p)) = absurd p

of_system : (c y k : List Symbol) → Among channels_or_none c → Repeated (one_controller ∷ []) y → Into (system_end c y k) (Part part.system_text ∷ k)
of_system c y k a q ts out m = go a (rw (append_assoc c front (Part part.more_controllers ∷ k)) at (under (c ++ front) (y ++ (Part part.system ∷ k)) (Part part.more_controllers ∷ k) (controllers_no_then y k q) (of_controllers y k q) ts out (rw (append_assoc c front (y ++ (Part part.system ∷ k))) m)))
  where
    front : List Symbol
    front = Act action.NO_CONTROLLERS ∷ Part part.controller ∷ append ∷ []

    go : Among channels_or_none c → Run (c ++ (with_channels ++ k)) ts out → Run (Part part.system_text ∷ k) ts out
    go (inl e) p = close_part part.system_text _ system_text_lines k ts out (inl (rw e at p))
    go (inr (inl e)) p = close_part part.system_text _ system_text_lines k ts out (inr (inl (word_controller k ts out (rw e at p))))
    go (inr (inr e)) p = absurd e

-- machines

-- behind machines stands the end of a text
data Ended (k : List Symbol) (ts : List Terminal) (out : List Item) : Type 0 where
  alone : (x : List Symbol) → Repeated (one_machine ∷ []) x → Run (x ++ (Act action.MACHINES_ALONE ∷ k)) ts out → Ended k ts out
  by_system : (x c y : List Symbol) → Repeated (one_machine ∷ []) x → Among channels_or_none c → Repeated (one_controller ∷ []) y → Run (x ++ system_end c y k) ts out → Ended k ts out

ended : (k : List Symbol) (ts : List Terminal) (out : List Item) → System k ts out → Ended k ts out
ended k ts out q = by_system [] q.channels q.controllers none q.are_channels q.are_controllers q.runs

more_within : (f : ℕ) (k : List Symbol) (ts : List Terminal) (out : List Item) → length ts < f → Run (Part part.more_text ∷ k) ts out → Ended k ts out
more_within zero k ts out l m = absurd (omega arith)
more_within (suc f) k ts out l m = go (open_part part.more_text more_texts more_text_lines k ts out m) (λ us o s. more_within f k us o s)
  where
    front : List Symbol
    front = machine_symbols ++ Act action.APPEND_MACHINE ∷ []

    whole_machine : (j : List Symbol) → Into (machine_symbols ++ (Act action.APPEND_MACHINE ∷ j)) (one_machine ++ j)
    whole_machine j us o m = close_only part.machine machine_symbols machine_lines (Act action.APPEND_MACHINE ∷ j) us o m

    behind_it : (s : Split (rules_of GRAMMAR) front (Part part.more_text ∷ k) ts out) → Ended k s.back s.late → Ended k ts out
    behind_it s (alone x q r) = alone (one_machine ++ x) (more one_machine x (inl refl) q) (whole_machine (x ++ (Act action.MACHINES_ALONE ∷ k)) ts out (rejoined s (x ++ (Act action.MACHINES_ALONE ∷ k)) r))
    behind_it s (by_system x c y q a b r) = by_system (one_machine ++ x) c y (more one_machine x (inl refl) q) a b (whole_machine (x ++ system_end c y k) ts out (rejoined s (x ++ system_end c y k) r))

    go : OneOf (λ a. Run (a ++ k) ts out) more_texts → ((us : List Terminal) (o : List Item) → length us < f → Run (Part part.more_text ∷ k) us o → Ended k us o) → Ended k ts out
    go (inl p) again =
        let s = split p front (Part part.more_text ∷ k) (part_no_then part.more_text k) refl in
        let t = s.token refl in
        behind_it s (again s.back s.late (omega (arith, t, l)) s.rest)
    go (inr (inl p)) again = ended k ts out (with_system (Part part.channels ∷ []) k (inl refl) ts out (close_only part.channels channels_symbols channels_lines (with_channels ++ k) ts out p))
    go (inr (inr (inl p))) again = ended k ts out (with_system (Act action.NO_CHANNELS ∷ []) k (inr (inl refl)) ts out (controller_word k ts out p))
    go (inr (inr (inr (inl p)))) again = alone [] none p
    go (inr (inr (inr (inr p)))) again = absurd p

-- the end as the line has it
flat : (x c y k : List Symbol) → (x ++ (c ++ Act action.NO_CONTROLLERS ∷ one_controller ++ (y ++ Part part.system ∷ []))) ++ k ≡ x ++ system_end c y k
flat x c y k = simp append_assoc refl

text_reads : (k : List Symbol) (ts : List Terminal) (out : List Item) → Run (Part part.text ∷ k) ts out → Read TextLine k ts out
text_reads k ts out m = go (expand part.text_1 _ text_rest_lines (Act action.NO_MACHINES ∷ []) k ts out (open_only part.text _ text_lines k ts out m))
  where
    -- a machine before the end, which is machines alone or a system
    first : (s : Split (rules_of GRAMMAR) (Act action.NO_MACHINES ∷ one_machine) (Part part.more_text ∷ k) ts out) → Ended k s.back s.late → Read TextLine k ts out
    first s (alone x q r) =
        (Act action.NO_MACHINES ∷ one_machine ++ (x ++ Act action.MACHINES_ALONE ∷ []), (machines x q, rw (append_assoc x (Act action.MACHINES_ALONE ∷ []) k) (rejoined s (x ++ (Act action.MACHINES_ALONE ∷ k)) r)))
    first s (by_system x c y q a b r) =
        (Act action.NO_MACHINES ∷ one_machine ++ (x ++ (c ++ Act action.NO_CONTROLLERS ∷ one_controller ++ (y ++ Part part.system ∷ []))), (system (one_machine ++ x) c y (more one_machine x (inl refl) q) a b, rw (flat x c y k) (rejoined s (x ++ system_end c y k) r)))

    only : (s : Split (rules_of GRAMMAR) (Act action.NO_MACHINES ∷ []) (Part part.system_text ∷ k) ts out) → System k s.back s.late → Read TextLine k ts out
    only s q = (
      Act action.NO_MACHINES ∷ (q.channels ++ Act action.NO_CONTROLLERS ∷ one_controller ++ (q.controllers ++ Part part.system ∷ [])),
      (system [] q.channels q.controllers none q.are_channels q.are_controllers, rw (flat [] q.channels q.controllers k) (rejoined s (system_end q.channels q.controllers k) q.runs)),
    )

    go : (p : List Symbol) × (Among (machine_more ∷ (Part part.system_text ∷ []) ∷ []) p × Run (Act action.NO_MACHINES ∷ (p ++ k)) ts out) → Read TextLine k ts out
    go (p, (inl e, m)) =
        let n : Run (Act action.NO_MACHINES ∷ (one_machine ++ (Part part.more_text ∷ k))) ts out = under (Act action.NO_MACHINES ∷ []) _ _ (take_no_then _ _) (close_only part.machine machine_symbols machine_lines (Act action.APPEND_MACHINE ∷ Part part.more_text ∷ k)) ts out (rw e at m) in
        let s = split n (Act action.NO_MACHINES ∷ one_machine) (Part part.more_text ∷ k) (part_no_then part.more_text k) refl in
        first s (more_within (suc (length s.back)) k s.back s.late (omega arith) s.rest)
    go (p, (inr (inl e), m)) =
        let n : Run (Act action.NO_MACHINES ∷ Part part.system_text ∷ k) ts out = rw e at m in
        let s = split n (Act action.NO_MACHINES ∷ []) (Part part.system_text ∷ k) (part_no_then part.system_text k) refl in
        only s (system_reads k s.back s.late s.rest)
    go (p, (inr (inr e), m)) = absurd e

machines_no_then : (x k : List Symbol) → Repeated (one_machine ∷ []) x → NoThen k → NoThen (x ++ k)
machines_no_then x k none free = free
machines_no_then x k (more w y (inl e) q) free = rw e (λ a b j g. absurd (cc))
machines_no_then x k (more w y (inr e) q) free = absurd e

-- machines before what may stand behind them
of_machines : (x j k : List Symbol) → Repeated (one_machine ∷ []) x → NoThen j → Into j (Part part.more_text ∷ k) → Into (x ++ j) (Part part.more_text ∷ k)
of_machines x j k none free f ts out m = f ts out m
of_machines x j k (more w y (inl e) q) free f ts out m =
    let p : Run (one_machine ++ (y ++ j)) ts out = rw (e, append_assoc one_machine y j) at m in
    let r = under one_machine (y ++ j) (Part part.more_text ∷ k) (machines_no_then y j q free) (of_machines y j k q free f) ts out p in
    close_part part.more_text more_texts more_text_lines k ts out (inl (open_only part.machine machine_symbols machine_lines (Act action.APPEND_MACHINE ∷ Part part.more_text ∷ k) ts out r))
of_machines x j k (more w y (inr e) q) free f ts out m = absurd e

more_of_system : (k : List Symbol) → Into (Part part.system_text ∷ k) (Part part.more_text ∷ k)
more_of_system k ts out m = go (open_part part.system_text _ system_text_lines k ts out m)
  where
    go : OneOf (λ a. Run (a ++ k) ts out) ((Part part.channels ∷ with_channels) ∷ no_channels ∷ []) → Run (Part part.more_text ∷ k) ts out
    go (inl p) = close_part part.more_text more_texts more_text_lines k ts out (inr (inl (open_only part.channels channels_symbols channels_lines (with_channels ++ k) ts out p)))
    go (inr (inl p)) = close_part part.more_text more_texts more_text_lines k ts out (inr (inr (inl p)))
    go (inr (inr p)) = absurd p

-- a text of what stands behind its first action
of_start : (p k : List Symbol) → Among (machine_more ∷ (Part part.system_text ∷ []) ∷ []) p → NoThen (p ++ k) → Into (Act action.NO_MACHINES ∷ (p ++ k)) (Part part.text ∷ k)
of_start p k a free ts out m = close_only part.text _ text_lines k ts out (contract part.text_1 _ text_rest_lines (Act action.NO_MACHINES ∷ []) p k a free ts out m)

of_first : (x j k : List Symbol) → Repeated (one_machine ∷ []) x → NoThen j → Into j (Part part.more_text ∷ k) → Into (Act action.NO_MACHINES ∷ one_machine ++ (x ++ j)) (Part part.text ∷ k)
of_first x j k q free f ts out m =
    let r = under (Act action.NO_MACHINES ∷ one_machine) (x ++ j) (Part part.more_text ∷ k) (machines_no_then x j q free) (of_machines x j k q free f) ts out m in
    of_start machine_more k (inl refl) (take_no_then _ _) ts out (under (Act action.NO_MACHINES ∷ []) _ _ (part_no_then _ _) (open_only part.machine machine_symbols machine_lines (Act action.APPEND_MACHINE ∷ Part part.more_text ∷ k)) ts out r)

channels_no_then : (c j : List Symbol) → Among channels_or_none c → NoThen (c ++ j)
channels_no_then c j (inl e) = rw e (part_no_then _ _)
channels_no_then c j (inr (inl e)) = rw e (act_no_then _ _)
channels_no_then c j (inr (inr e)) = absurd e

text_spells : (w : List Symbol) → TextLine w → (k : List Symbol) → NoThen k → Into (w ++ k) (Part part.text ∷ k)
text_spells w (machines x q) k free ts out m =
    of_first x (Act action.MACHINES_ALONE ∷ k) k q (act_no_then _ _) (λ us o r. close_part part.more_text more_texts more_text_lines k us o (inr (inr (inr (inl r))))) ts out (rw (append_assoc x (Act action.MACHINES_ALONE ∷ []) k) at m)
text_spells w (system x c y none a b) k free ts out m =
    let p : Run (Act action.NO_MACHINES ∷ system_end c y k) ts out = rw (flat [] c y k) at m in
    of_start (Part part.system_text ∷ []) k (inr (inl refl)) (part_no_then _ _) ts out (under (Act action.NO_MACHINES ∷ []) (system_end c y k) (Part part.system_text ∷ k) (channels_no_then c _ a) (of_system c y k a b) ts out p)
text_spells w (system x c y (more v z (inl e) q) a b) k free ts out m =
    let p : Run (Act action.NO_MACHINES ∷ one_machine ++ (z ++ system_end c y k)) ts out = rw (e, append_assoc one_machine z (system_end c y k)) at (rw (flat (v ++ z) c y k) at m) in
    of_first z (system_end c y k) k q (channels_no_then c _ a) (λ us o r. more_of_system k us o (of_system c y k a b us o r)) ts out p
text_spells w (system x c y (more v z (inr e) q) a b) k free ts out m = absurd e

pub text_means : Means part.text TextLine
text_means = record { reads = text_reads; spells = text_spells }

-- with proofs

abbrev finished : List Symbol
finished = Take finish ∷ []

whole_lines : alternatives GRAMMAR part.whole ≡ (Part part.text ∷ Part part.proofs ∷ finished) ∷ []
whole_lines = refl

proofs_lines : alternatives GRAMMAR part.proofs ≡ (Act action.NO_PROOFS ∷ Part part.proofs_1 ∷ []) ∷ []
proofs_lines = refl

flat_whole : (w x k : List Symbol) → (w ++ Act action.NO_PROOFS ∷ (x ++ finished)) ++ k ≡ (w ++ Act action.NO_PROOFS ∷ []) ++ (x ++ (finished ++ k))
flat_whole w x k = simp append_assoc refl

whole_reads : (k : List Symbol) (ts : List Terminal) (out : List Item) → Run (Part part.whole ∷ k) ts out → Read WholeLine k ts out
whole_reads k ts out m =
    let r = text_reads (Part part.proofs ∷ finished ++ k) ts out (open_only part.whole _ whole_lines k ts out m) in
    let p : Run (r.0 ++ (Act action.NO_PROOFS ∷ Part part.proofs_1 ∷ finished ++ k)) ts out = under r.0 (Part part.proofs ∷ finished ++ k) _ (part_no_then _ _) (open_only part.proofs _ proofs_lines (finished ++ k)) ts out r.1.1 in
    let q = many_behind part.proofs_1 (one_proof ∷ []) refl refl (r.0 ++ Act action.NO_PROOFS ∷ []) (finished ++ k) ts out (rw (append_assoc r.0 (Act action.NO_PROOFS ∷ []) (Part part.proofs_1 ∷ finished ++ k)) p) in
    (r.0 ++ Act action.NO_PROOFS ∷ (q.0 ++ finished), (whole r.0 q.0 r.1.0 q.1.0, rw (flat_whole r.0 q.0 k) q.1.1))

whole_spells : (w : List Symbol) → WholeLine w → (k : List Symbol) → NoThen k → Into (w ++ k) (Part part.whole ∷ k)
whole_spells v (whole w x l q) k free ts out m =
    let a = behind_many part.proofs_1 (one_proof ∷ []) refl refl (w ++ Act action.NO_PROOFS ∷ []) (finished ++ k) (take_no_then _ _) x q ts out (rw (flat_whole w x k) at m) in
    let b : Run (w ++ (Act action.NO_PROOFS ∷ Part part.proofs_1 ∷ finished ++ k)) ts out = rw (append_assoc w (Act action.NO_PROOFS ∷ []) (Part part.proofs_1 ∷ finished ++ k)) at a in
    let c = under w _ (Part part.proofs ∷ finished ++ k) (act_no_then _ _) (close_only part.proofs _ proofs_lines (finished ++ k)) ts out b in
    close_only part.whole _ whole_lines k ts out (text_spells w l (Part part.proofs ∷ finished ++ k) (part_no_then _ _) ts out c)

pub whole_means : Means part.whole WholeLine
whole_means = record { reads = whole_reads; spells = whole_spells }
