use Rattle.std.proofs.Common.{sym, ◌∙◌}
use Rattle.cb_engine.specs.Rules.{group}
use Rattle.cb_grammar.specs.Signatures.{word_kind}
use Rattle.cb_csp_parse.proofs.TextOwning.{other_at}
use Rattle.cb_csp_parse.proofs.words.word.Goals as goal

pub word-requires-clause-own : goal.word-requires-clause-own
word-requires-clause-own c =
    let h = c.requires.heard in
    other_at c.args.tokens.now c.args.terminal.index (word_kind (group c.args.terminal.class)) h.0 c.index-tokens-terminal.result h.1 h.2 c.index-tokens-terminal.is c.requires.own (sym c.is_process_word.ensures ∙ c.if-is_process_word.false)
