use Rattle.std.proofs.Common.{◌≡◌, ℕ, [], ◌∷◌, true, sym, ◌∙◌, subst}
use Rattle.cb_lex.specs.declared.token.Token.{Token}
use Rattle.cb_engine.specs.Rules.{stands, group}
use Rattle.cb_grammar.specs.Signatures.{word_kind}
use Rattle.cb_amn_parse.specs.Lexemes.{heard_at}
use Rattle.cb_amn_parse.specs.Own.{own_kinds, sort_kind}
use Rattle.cb_amn_parse.specs.Values.{value_out}
use Rattle.cb_cert.specs.Own.{proof_kinds}
use Rattle.cb_cert.proofs.Hearing.{formula_word, token_at}
use Rattle.cb_cert.proofs.words.word.Goals as goal

pub word-requires-clause-own : goal.word-requires-clause-own
word-requires-clause-own c =
    let h = c.requires.heard in
    let t = c.index-tokens-terminal.result in
    let q : t ≡ h.0 = token_at c.args.tokens.now c.args.terminal.index t h.0 h.1 c.index-tokens-terminal.is in
    let s : sort_kind t.sort ≡ word_kind (group c.args.terminal.class) = rw q h.2 in
    subst (λ (k : ℕ). stands own_kinds k ≡ true) s (formula_word t.sort c.in-None.ensures.other (subst (λ (k : ℕ). stands proof_kinds k ≡ true) (sym s) c.requires.own))

pub returns-in-Some-clause-out : goal.returns-in-Some-clause-out
returns-in-Some-clause-out c =
    let h = c.requires.heard in
    let t = c.index-tokens-terminal.result in
    let q : t ≡ h.0 = token_at c.args.tokens.now c.args.terminal.index t h.0 h.1 c.index-tokens-terminal.is in
    let e : value_out c.in-Some.value ≡ heard_at h.0.sort h.0.place ∷ [] = subst (λ (x : Token). value_out c.in-Some.value ≡ heard_at x.sort x.place ∷ []) q c.in-Some.ensures.out in
    rw h.1 e

pub returns-in-Some-clause-kind : goal.returns-in-Some-clause-kind
returns-in-Some-clause-kind c =
    let h = c.requires.heard in
    let t = c.index-tokens-terminal.result in
    let q : t ≡ h.0 = token_at c.args.tokens.now c.args.terminal.index t h.0 h.1 c.index-tokens-terminal.is in
    let s : sort_kind t.sort ≡ word_kind (group c.args.terminal.class) = rw q h.2 in
    c.in-Some.ensures.kind ∙ s
