use Rattle.std.proofs.Common.{ap, subst, refl, true, ◌≡◌, ◌∙◌, inl, inr, List, ℕ, []}
use Rattle.clap.specs.Words.{App, app_of, fault_of, is_simple, is_simple_and_free, HasKind, IsAmong, Kinds, kind_of}
use Rattle.clap.specs.declared.error.Error.{Error}
use Rattle.clap.specs.declared.error.kind.ErrorKind.TheVariants.{OutOfMemory}
use Rattle.clap.proofs.OnLiterals.{clap_on_literals}
use Rattle.cb_words.specs.Line.{line_app}
use Rattle.cb_words.proofs.line.line_matches.Goals as goal

line_is_simple : is_simple line_app ≡ true
unfolding clap_on_literals line_app
line_is_simple = refl

line_is_free : is_simple_and_free line_app ≡ true
unfolding clap_on_literals line_app
line_is_free = refl

-- an error that isn't want of memory comes of the words
refused : (a : App) (words : List (List ℕ)) (e : Error) → a ≡ line_app → (kind_of e ≡ OutOfMemory → ⊥) →
    HasKind (fault_of a words) e → fault_of line_app words ≡ [] → ⊥
refused a words e same other (inl memory) none = other memory
refused a words e same other (inr among) none =
    let P : Kinds → Type 0 = λ kinds. IsAmong (kind_of e) kinds in
    subst P (ap (λ b. fault_of b words) same ∙ none) among

pub returns-in-Ok-clause-fits : goal.returns-in-Ok-clause-fits
returns-in-Ok-clause-fits c =
    rw (← c.in_ok-command.ensures) (c.in-Ok.ensures.kinds (ap is_simple_and_free c.in_ok-command.ensures ∙ line_is_free))

pub returns-in-Ok-clause-rows : goal.returns-in-Ok-clause-rows
returns-in-Ok-clause-rows c =
    rw (← c.in_ok-command.ensures) (c.in-Ok.ensures.matches (ap is_simple c.in_ok-command.ensures ∙ line_is_simple)).0

pub returns : goal.returns
returns c = record {
  fits = tt;
  rows = tt;
  words = λ _ none. refused (app_of c.in_ok-command.command) _ c.in-Err.fault c.in_ok-command.ensures
      (λ memory. c.in_default.not-OutOfMemory (c.kind.ensures ∙ memory))
      (c.in-Err.ensures.kinds (ap is_simple_and_free c.in_ok-command.ensures ∙ line_is_free)) none;
}
