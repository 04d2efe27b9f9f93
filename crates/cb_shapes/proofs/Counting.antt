-- Each token writes a word at most.
use Rattle.std.proofs.Common.{◌≡◌, ℕ, suc, ◌+◌, ◌≤◌, Bool, true, false, List, [], ◌∷◌, take, length, refl, ap, arith, subst}
use Rattle.std.proofs.lemmas.List.{length-take}
use Rattle.std.specs.Prelude.{Option, Some, None, slice_get, min}
use Rattle.cb_lex.specs.declared.token.Token.{Token}
use Rattle.cb_lex.specs.declared.token.Sort.{Sort}
use Rattle.cb_lex.specs.declared.token.Sort.TheVariants as sort
use Rattle.cb_engine.specs.declared.Symbol.{Symbol}
use Rattle.cb_engine.specs.declared.Terminal.{Terminal}
use Rattle.cb_engine.specs.declared.Item.{Item}
use Rattle.cb_engine.specs.declared.Item.TheVariants.{Word, Do}
use Rattle.cb_engine.specs.Rules.{Rules, Runs, kept}
use Rattle.cb_engine.specs.Rules.Runs.{ends, takes, keeps, acts, keys, others, goes_on}
use Rattle.cb_grammar.specs.Terminals.{terminals, opens}
use Rattle.cb_amn_parse.specs.Lexemes.{Lexeme, heard, lexemes}
use Rattle.cb_shapes.specs.Words.{words}
use Rattle.cb_shapes.specs.Laws.{WordsAreTokens}

abbrev kept_words : List Item → ℕ
kept_words [] = 0
kept_words (Word t ∷ out) = kept_words out + 1
kept_words (Do a ∷ out) = kept_words out

words_heard : (t : Option Token) (ls : List Lexeme) → words (heard t ∷ ls) ≡ words ls + 1
words_heard None ls = refl
words_heard (Some t) ls = go t.sort
  where
    go : (s : Sort) → words (heard (Some (record { sort = s; place = t.place })) ∷ ls) ≡ words ls + 1
    go (sort.Word text) = refl
    go (sort.Opened text n) = refl
    go (sort.Number n) = refl
    go (sort.Keyword k) = refl
    go (sort.Sign s) = refl
    go sort.Finish = refl

words_kept : (ts : List Token) (items : List Item) → words (lexemes ts items) ≡ kept_words items
words_kept ts [] = refl
words_kept ts (Word t ∷ items) = rw (words_heard (slice_get ts t.index) (lexemes ts items), words_kept ts items) refl
words_kept ts (Do a ∷ items) = words_kept ts items

kept_within : {r : Rules} {w : Bool} {k : List Symbol} {ts : List Terminal} {out : List Item} → Runs r w k ts out → kept_words out ≤ length ts
kept_within (ends e) = omega arith
kept_within (takes e m) = let h = kept_within m in omega (arith, h)
kept_within (keeps e m) = let h = kept_within m in omega (arith, h)
kept_within (acts m) = kept_within m
kept_within (keys {t = t} {ts = ts} {out = out} keep b e m) = go keep (kept_within m)
  where
    go : (keep : Bool) → kept_words out ≤ length ts → kept_words (kept keep t out) ≤ length (t ∷ ts)
    go true h = omega (arith, h)
    go false h = omega (arith, h)
kept_within (others b e m) = kept_within m
kept_within (goes_on m) = kept_within m

length-terminals : (opened : Bool) (i : ℕ) (ts : List Token) → length (terminals opened i ts) ≡ length ts
length-terminals opened i [] = refl
length-terminals opened i (t ∷ ts) = ap suc (length-terminals (opens opened t.sort) (i + 1) ts)

pub words_are_tokens : WordsAreTokens
words_are_tokens p depth opened ts taken out q =
    let a : kept_words q.items ≤ length (take taken (terminals opened 0 ts)) = kept_within q.read.whole.spelled in
    let b : length (take taken (terminals opened 0 ts)) ≡ min taken (length (terminals opened 0 ts)) = length-take taken (terminals opened 0 ts) in
    let c : length (terminals opened 0 ts) ≡ length ts = length-terminals opened 0 ts in
    let d : words (lexemes ts q.items) ≤ length ts = rw (words_kept ts q.items) (omega (arith, a, b, c)) in
    subst (λ (ls : List Lexeme). words ls ≤ length ts) q.told d
