use Rattle.std.proofs.lemmas.Result.{IfOk-weaker}
use Rattle.cb_engine.specs.Rules.{group}
use Rattle.cb_grammar.specs.Signatures.{word_kind}
use Rattle.cb_amn_parse.specs.Own.{GoesOn}
use Rattle.cb_amn_parse.specs.Values.{kinds_of, Turns}
use Rattle.cb_amn_parse.proofs.Owning.{acted}
use Rattle.cb_cert.proofs.Owning.{word_of_proofs, fitting}
use Rattle.cb_cert.proofs.evaluate.take_item.Goals as goal

pub word-requires-clause-own : goal.word-requires-clause-own
word-requires-clause-own c =
    let fits = rw c.in-Word.is at c.requires.own.2 in
    word_of_proofs c.requires.own.0 (word_kind (group c.in-Word.terminal.class)) (kinds_of c.args.stack.now.items) c.requires.own.1 fits c.requires.own.3

pub act-requires-clause-own : goal.act-requires-clause-own
act-requires-clause-own c =
    let fits = rw c.in-Do.is at c.requires.own.2 in
    (fitting c.in-Do.action c.requires.own.0 (kinds_of c.args.stack.now.items) c.requires.own.1 fits c.requires.own.3).own

pub act-requires-clause-takes : goal.act-requires-clause-takes
act-requires-clause-takes c =
    let fits = rw c.in-Do.is at c.requires.own.2 in
    let f = fitting c.in-Do.action c.requires.own.0 (kinds_of c.args.stack.now.items) c.requires.own.1 fits c.requires.own.3 in
    (f.below, f.top)

pub returns-in-Do-clause-fits : goal.returns-in-Do-clause-fits
returns-in-Do-clause-fits c =
    let old = c.args.stack.now.items in
    let new = c.act.new.stack.items in
    IfOk-weaker c.act.result (λ _. Turns old new c.in-Do.action) (λ _. GoesOn (kinds_of old) (kinds_of new) c.args.item)
    (λ x turns items end e. acted c.in-Do.action (kinds_of old) (kinds_of new) items end turns (rw c.in-Do.is at e)) c.act.ensures.turns
