-- What is read as a text has a token.
use Rattle.std.proofs.Common.{◌≡◌, ℕ, ◌<◌, zero, suc, true, false, List, [], ◌∷◌, ◌++◌, refl, subst, arith}
use Rattle.std.specs.Prelude.{Some, None}
use Rattle.cb_lex.specs.declared.token.Token.{Token}
use Rattle.cb_engine.specs.declared.Symbol.{Symbol}
use Rattle.cb_engine.specs.declared.Symbol.TheVariants.{Act, Part}
use Rattle.cb_engine.specs.declared.Item.{Item}
use Rattle.cb_engine.specs.Rules.{Runs}
use Rattle.cb_engine.specs.Rules.Runs.{ends, acts, others}
use Rattle.cb_grammar.specs.declared.parts.Part.TheVariants as part
use Rattle.cb_grammar.specs.Misreadings.{language, IsRead}

-- no symbols of the kind spell nothing
abbrev NeverEmpty : List Symbol → Type 0
NeverEmpty k = (out : List Item) → Runs language true k [] out → ⊥

past_act : (a : ℕ) (k : List Symbol) → NeverEmpty k → NeverEmpty (Act a ∷ k)
past_act a k f out (ends e) = let q = e refl in absurd (cc)
past_act a k f out (acts {out = o} m) = f o m

into_part : (n : ℕ) (k b : List Symbol) → language.otherwise n ≡ Some b → NeverEmpty (b ++ k) → NeverEmpty (Part n ∷ k)
into_part n k b p f out (ends e) = let q = e refl in absurd (cc)
into_part n k b p f out (others body e m) =
    let q : body ≡ b = cc in
    f out (subst (λ (y : List Symbol). Runs language true (y ++ k) [] out) q m)

keyed_alone : (n : ℕ) (k : List Symbol) → language.otherwise n ≡ None → NeverEmpty (Part n ∷ k)
keyed_alone n k p out (ends e) = let q = e refl in absurd (cc)
keyed_alone n k p out (others body e m) = absurd (cc)

before_proofs : language.otherwise 2 ≡ Some (Part 4 ∷ Part 91 ∷ [])
unfolding language
before_proofs = refl

text : language.otherwise 4 ≡ Some (Act 0 ∷ Part 92 ∷ [])
unfolding language
text = refl

text_1 : language.otherwise 92 ≡ Some (Part 6 ∷ [])
unfolding language
text_1 = refl

system_text : language.otherwise 6 ≡ Some (Part 31 ∷ Act 3 ∷ Part 34 ∷ Act 4 ∷ Part 7 ∷ [])
unfolding language
system_text = refl

channels : language.otherwise 31 ≡ None
unfolding language
channels = refl

never : NeverEmpty (Part 2 ∷ [])
never =
    into_part 2 [] (Part 4 ∷ Part 91 ∷ []) before_proofs
    (into_part 4 (Part 91 ∷ []) (Act 0 ∷ Part 92 ∷ []) text
    (past_act 0 (Part 92 ∷ Part 91 ∷ [])
    (into_part 92 (Part 91 ∷ []) (Part 6 ∷ []) text_1
    (into_part 6 (Part 91 ∷ []) (Part 31 ∷ Act 3 ∷ Part 34 ∷ Act 4 ∷ Part 7 ∷ []) system_text
    (keyed_alone 31 (Act 3 ∷ Part 34 ∷ Act 4 ∷ Part 7 ∷ Part 91 ∷ []) channels)))))

pub text_has_token : (ts : List Token) (taken : ℕ) (items : List Item) → IsRead part.Text 0 false ts taken items → 0 < taken
text_has_token ts zero items read = absurd (never items read.whole.spelled)
text_has_token ts (suc n) items read = omega arith
