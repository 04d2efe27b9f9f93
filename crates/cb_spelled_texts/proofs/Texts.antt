-- A text that few tokens spell is a spelled text.
use Rattle.std.proofs.Common.{◌≡◌, ℕ, ◌<◌, ◌≤◌, List, [], ◌∷◌, ◌++◌, length, Option, Some, None, refl, append_assoc, subst, ap, ◌∙◌, sym, arith}
use Rattle.std.specs.List.{flat_map}
use Rattle.cb_lex.specs.declared.raw.name.RawName.{RawName}
use Rattle.cb_lex.specs.declared.raw.text.RawChannel.{RawChannel}
use Rattle.cb_lex.specs.declared.raw.text.RawController.{RawController}
use Rattle.cb_lex.specs.declared.raw.text.RawMachine.{RawMachine}
use Rattle.cb_lex.specs.declared.raw.text.RawText.{RawText}
use Rattle.cb_grammar.specs.declared.actions.TheConstants.{NO_CONTROLLERS, SYSTEM}
use Rattle.cb_grammar.specs.Signatures.{machines_kind, channels_kind}
use Rattle.cb_amn_parse.specs.Lexemes.{Lexeme, Did}
use Rattle.cb_amn_parse.specs.Formulas.{names_out}
use Rattle.cb_amn_parse.specs.Processes.{machines_out, channel_entry, channels_out, controller_entry, controllers_out, text_out}
use Rattle.cb_csp_parse.specs.Laws.{StandsAlone}
use Rattle.cb_shapes.specs.Full.{AllOf}
use Rattle.cb_shapes.specs.Laws.{WordsAreTokens}
use Rattle.cb_shapes.specs.Words.{words}
use Rattle.cb_shapes.proofs.Table.{spelled_follows}
use Rattle.cb_shapes.proofs.Values.{told, told_items}
use Rattle.cb_typing.specs.WrittenText.{FitsNumbers, IsWrittenText}
use Rattle.cb_text_laws.specs.SpelledText.{IsSpelledText}
use Rattle.cb_spelled.specs.Laws.{SpelledIsWritten}
use Rattle.cb_spelled.proofs.Parts.{words_append}
use Rattle.cb_spelled_texts.specs.Laws.{SpelledIsSpelledText}
use Rattle.cb_spelled_texts.proofs.Counts.{few, front_few, channels_written, channels_are_words, controllers_are_words}
use Rattle.cb_spelled_texts.proofs.Chains.{past}
use Rattle.cb_spelled_texts.proofs.Controllers.{past_machines, told_channels, HasChains, chained_controllers}
use Rattle.cb_spelled_texts.proofs.Written.{controllers_written}
use Rattle.cb_spelled_texts.proofs.Systems.{no_system}

-- ---- a text without an order

none_few : FitsNumbers 0
none_few = omega arith

without_order : (t : RawText) → IsWrittenText t.machines → t.order ≡ None → StandsAlone t → IsSpelledText t
without_order t m e f =
    let a : (t.channels ≡ []) × (t.controllers ≡ []) = f e in
    record {
      machines = m;
      few_channels = rw (a.0) none_few;
      channels = rw (a.0) tt;
      few_controllers = rw (a.1) none_few;
      controllers = rw (a.1) tt;
      system = rw e a;
    }

-- ---- a text with an order

-- what is written for it, behind its machines
abbrev system_out : List RawChannel → List RawController → List RawName → List Lexeme
system_out chs cs xs = channels_out chs ++ controllers_out cs ++ names_out xs ++ Did SYSTEM ∷ []

-- what is behind the controllers
abbrev last_out : List RawName → List Lexeme → List Lexeme
last_out xs rest = names_out xs ++ Did SYSTEM ∷ rest

behind_machines : (chs : List RawChannel) (cs : List RawController) (xs : List RawName) (rest : List Lexeme) → system_out chs cs xs ++ rest ≡ channels_out chs ++ (controllers_out cs ++ last_out xs rest)
behind_machines chs cs xs rest = simp append_assoc refl

spread : (ms : List RawMachine) (chs : List RawChannel) (cs : List RawController) (xs : List RawName) (rest : List Lexeme) →
    (machines_out ms ++ system_out chs cs xs) ++ rest ≡ machines_out ms ++ (channels_out chs ++ (controllers_out cs ++ last_out xs rest))
spread ms chs cs xs rest = append_assoc (machines_out ms) (system_out chs cs xs) rest ∙ ap (λ (ls : List Lexeme). machines_out ms ++ ls) (behind_machines chs cs xs rest)

have_chains : (ms : List RawMachine) (chs : List RawChannel) (cs : List RawController) (xs : List RawName) (rest : List Lexeme) (last : List ℕ) →
    told ((machines_out ms ++ system_out chs cs xs) ++ rest) (Some []) ≡ Some last → AllOf HasChains cs
have_chains ms chs cs xs rest last e =
    let h : told (machines_out ms ++ (channels_out chs ++ (controllers_out cs ++ last_out xs rest))) (Some []) ≡ Some last = subst (λ (ls : List Lexeme). told ls (Some []) ≡ Some last) (spread ms chs cs xs rest) e in
    let i = past_machines ms (channels_out chs ++ (controllers_out cs ++ last_out xs rest)) [] last h in
    let j = rw (past (channels_out chs) (controllers_out cs ++ last_out xs rest) channels_kind (told_channels chs) (machines_kind ∷ [])) at i in
    (chained_controllers cs (last_out xs rest) (channels_kind ∷ machines_kind ∷ []) last refl j).0

channels_in : (ms : List RawMachine) (chs : List RawChannel) (cs : List RawController) (xs : List RawName) → words (flat_map channel_entry chs) ≤ words (machines_out ms ++ system_out chs cs xs)
channels_in ms chs cs xs = simp words_append (omega arith)

controllers_in : (ms : List RawMachine) (chs : List RawChannel) (cs : List RawController) (xs : List RawName) → words (flat_map controller_entry cs) ≤ words (machines_out ms ++ system_out chs cs xs)
controllers_in ms chs cs xs = simp words_append (omega arith)

-- ---- the law

pub spelled_text : SpelledIsWritten → WordsAreTokens → SpelledIsSpelledText
spelled_text written are_tokens p depth opened ts taken rest t h alone q = go t.order refl
  where
    machines : IsWrittenText t.machines
    machines = written p depth opened ts taken rest t h q

    few_words : FitsNumbers (words (text_out t))
    few_words = front_few (text_out t) rest (few _ _ (are_tokens p depth opened ts taken (text_out t ++ rest) q) h)

    end : (last : List ℕ) × (told (text_out t ++ rest) (Some []) ≡ Some last)
    end =
        let f = spelled_follows p _ q.items q.read.whole.spelled in
        (f.0, subst (λ (ls : List Lexeme). told ls (Some []) ≡ Some f.0) q.told (rw (told_items ts q.items (Some [])) f.1))

    has_controllers : (xs : List RawName) → t.order ≡ Some xs → (cs : List RawController) → t.controllers ≡ cs → 0 < length cs
    has_controllers xs e (c ∷ cs) f = omega arith
    has_controllers xs e [] f =
        let a : text_out t ++ rest ≡ (machines_out t.machines ++ system_out t.channels [] xs) ++ rest = rw (e, f) refl in
        let b : (machines_out t.machines ++ channels_out t.channels) ++ (Did NO_CONTROLLERS ∷ last_out xs rest) ≡ machines_out t.machines ++ (channels_out t.channels ++ (Did NO_CONTROLLERS ∷ last_out xs rest)) = append_assoc (machines_out t.machines) (channels_out t.channels) (Did NO_CONTROLLERS ∷ last_out xs rest) in
        absurd (no_system p ts _ q.items q.read.whole.spelled (machines_out t.machines ++ channels_out t.channels) xs rest (q.told ∙ a ∙ spread t.machines t.channels [] xs rest ∙ sym b))

    with_order : (xs : List RawName) → t.order ≡ Some xs → IsSpelledText t
    with_order xs e =
        let g : FitsNumbers (words (machines_out t.machines ++ system_out t.channels t.controllers xs)) = rw e at few_words in
        let i : told ((machines_out t.machines ++ system_out t.channels t.controllers xs) ++ rest) (Some []) ≡ Some end.0 = rw e at (end.1) in
        let channels : FitsNumbers (words (flat_map channel_entry t.channels)) = few _ _ (channels_in t.machines t.channels t.controllers xs) g in
        let controllers : FitsNumbers (words (flat_map controller_entry t.controllers)) = few _ _ (controllers_in t.machines t.channels t.controllers xs) g in
        record {
          machines = machines;
          few_channels = few _ _ (channels_are_words t.channels) channels;
          channels = channels_written t.channels channels;
          few_controllers = few _ _ (controllers_are_words t.controllers) controllers;
          controllers = controllers_written t.controllers (have_chains t.machines t.channels t.controllers xs rest end.0 i) controllers;
          system = rw e (has_controllers xs e t.controllers refl);
        }

    go : (o : Option (List RawName)) → t.order ≡ o → IsSpelledText t
    go None e = without_order t machines e alone
    go (Some xs) e = with_order xs e
