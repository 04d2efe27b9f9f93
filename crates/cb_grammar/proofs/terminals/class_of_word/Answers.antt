use Rattle.std.proofs.Common.{◌≡◌, ◌+◌, ◌∙◌, sym, suc, arith, true, false, nat_eq}
use Rattle.std.specs.Cmp.Lexicographic.{pointwise}
use Rattle.cb_grammar.specs.Classes.{words}
use Rattle.cb_grammar.proofs.Words.{class_next, no_capitals, no_more}
use Rattle.cb_grammar.proofs.terminals.class_of_word.Goals as goal

pub returns-then-not-begins_with_capitals : goal.returns-then-not-begins_with_capitals
returns-then-not-begins_with_capitals c = sym (no_capitals c.args.text.now (sym c.begins_with_capitals.ensures ∙ c.if-not-begins_with_capitals.true))

pub returns-then-eq : goal.returns-then-eq
returns-then-eq c =
    let t : pointwise nat_eq c.args.text.now c.word_at.result.now ≡ true = sym c.eq.ensures ∙ c.if-eq.true in
    let n = class_next words c.loop-number.number (128 + c.loop-number.number) c.args.text.now c.word_at.result.now c.word_at.ensures in
    sym (rw t at n) ∙ c.loop-number.invariant

pub loop-number-preserved : goal.loop-number-preserved
loop-number-preserved c =
    let t : pointwise nat_eq c.args.text.now c.word_at.result.now ≡ false = sym c.eq.ensures ∙ c.if-eq.false in
    let n = class_next words c.loop-number.number (128 + c.loop-number.number) c.args.text.now c.word_at.result.now c.word_at.ensures in
    let a : c.loop-number.number + 1 ≡ suc c.loop-number.number = omega arith in
    let b : 128 + suc c.loop-number.number ≡ suc (128 + c.loop-number.number) = omega arith in
    rw (a, b) (sym (rw t at n) ∙ c.loop-number.invariant)

pub returns : goal.returns
returns c =
    let e : c.loop-number.number ≡ 49 = omega (arith, c.loop-number-test.false, c.loop-number.auto.number-end) in
    sym (no_more c.args.text.now) ∙ rw e at c.loop-number.invariant
