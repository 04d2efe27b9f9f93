use Rattle.std.proofs.Common.{rules, ap, ap₂, true, ◌≡◌, ◌∙◌, Option, Some, None, IsSomeAnd}
use Rattle.std.proofs.lemmas.Result.{IfOk-weaker}
use Rattle.clap.specs.Words.{app_of, rule_of, with_rule}
use Rattle.clap.specs.Simple.{app_of_fields, on_top}
use Rattle.clap.specs.Lexer.{usize_max}
use Rattle.clap.specs.declared.builder.range.ValueRange.{ValueRange}
use Rattle.cb_words.specs.Line.{line_app, plain_app, action_rule, files_rule, limit_rule, seed_rule}
use Rattle.cb_words.proofs.line.line_command.Goals as goal

some_of : (o : Option ValueRange) (v : ValueRange) → IsSomeAnd o (λ r. r ≡ v) → o ≡ Some v
some_of None v h = absurd h
some_of (Some r) v h = ap Some h

pub returns : goal.returns
unfolding line_app
returns c =
    let action_is : rule_of c.action-action.result ≡ action_rule = search rules in
    let files_before : rule_of (record c.action.result { num_vals = Some (record { start_inclusive = 0; end_inclusive = usize_max }) }) ≡ files_rule = search rules in
    let files_is : rule_of c.num_args-files.result ≡ files_rule =
    ap rule_of c.num_args-files.ensures.0
    ∙ ap (λ (n : Option ValueRange). rule_of (record c.action.result { num_vals = n })) (some_of _ _ c.num_args-files.ensures.1)
    ∙ files_before in
    let limit_is : rule_of c.action-limit.result ≡ limit_rule = search rules in
    let seed_is : rule_of c.action-seed.result ≡ seed_rule = search rules in
    let plain_is : app_of c.disable_version_flag.result ≡ plain_app =
    ap app_of_fields c.disable_version_flag.ensures
    ∙ ap (on_top (λ s. record s { disable_version_flag = true })) (ap app_of_fields c.disable_help_flag.ensures
    ∙ ap (on_top (λ s. record s { disable_help_flag = true })) (ap app_of_fields c.no_binary_name.ensures
    ∙ ap (on_top (λ s. record s { no_binary_name = true })) c.new-5.ensures.app)) in
    let first : app_of c.in_ok-arg.field-0 ≡ with_rule plain_app action_rule =
    c.in_ok-arg.ensures.shape (search rules) ∙ ap₂ with_rule plain_is action_is in
    let second : app_of c.in_ok-arg-2.field-0 ≡ with_rule (with_rule plain_app action_rule) files_rule =
    c.in_ok-arg-2.ensures.shape (search rules) ∙ ap₂ with_rule first files_is in
    let third : app_of c.in_ok-arg-3.field-0 ≡ with_rule (with_rule (with_rule plain_app action_rule) files_rule) limit_rule =
    c.in_ok-arg-3.ensures.shape (search rules) ∙ ap₂ with_rule second limit_is in
    IfOk-weaker c.arg-4.result _ _ (λ m h. h.shape (search rules) ∙ ap₂ with_rule third seed_is) c.arg-4.ensures
