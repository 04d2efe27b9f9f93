-- The words among the items of a part are tokens.
use Rattle.std.proofs.Common.{◌≡◌, ℕ, ◌<◌, ◌≤◌, ap, zero, suc, Bool, true, false, List, [], ◌∷◌, ◌++◌, refl, take, drop, length, get_or, ◌+◌, sym, ◌∙◌, arith, cond, nat_eq, nat_le, nat_lt, eqb}
use Rattle.std.specs.Prelude.{Option, Some, None, slice_get}
use Rattle.std.specs.Cmp.Lexicographic.{pointwise}
use Rattle.cb_lex.specs.declared.token.Token.{Token}
use Rattle.cb_lex.specs.declared.token.Sort.{Sort}
use Rattle.cb_lex.specs.declared.token.Sort.TheVariants as sort
use Rattle.cb_engine.specs.declared.Terminal.{Terminal}
use Rattle.cb_engine.specs.declared.Symbol.{Symbol}
use Rattle.cb_engine.specs.declared.Item.{Item}
use Rattle.cb_engine.specs.declared.Item.TheVariants.{Word, Do}
use Rattle.cb_engine.specs.Rules.{Rules, Runs, kept, group}
use Rattle.cb_engine.specs.Rules.Runs.{ends, takes, keeps, acts, keys, others, goes_on}
use Rattle.cb_grammar.specs.declared.parts.Part.{Part}
use Rattle.cb_grammar.specs.Misreadings.{language, symbols_of, IsRead}
use Rattle.cb_grammar.specs.Classes.{words}
use Rattle.cb_grammar.specs.Terminals.{terminals, opens, class_of, class_in, word_class}
use Rattle.cb_grammar.specs.Signatures.{word_kind, name_kind}
use Rattle.cb_amn_parse.specs.Own.{sort_kind}
use Rattle.cb_amn_parse.specs.Spelling.{IsHeard, AreHeard}

-- each terminal is a token
abbrev AreTokens : List Token → List Terminal → Type 0
AreTokens all [] = Unit {0}
AreTokens all (t ∷ ts) = IsHeard all (Word t) × AreTokens all ts

group_in : (c : ℕ) (ws : List (List ℕ)) (text : List ℕ) → 127 < c → group (class_in c ws text) ≡ 1
group_in c [] text l = refl
group_in c (w ∷ ws) text l = go (pointwise nat_eq text w) (group_in (suc c) ws text (omega arith))
  where
    above : group c ≡ 1
    above = grind arith

    go : (b : Bool) → group (class_in (suc c) ws text) ≡ 1 → group (cond b c (class_in (suc c) ws text)) ≡ 1
    go true more = above
    go false more = more

-- a written name is one of the grammar's names, though it may be a word in other places
pub word_is_name : (text : List ℕ) → word_kind (group (word_class text)) ≡ name_kind
word_is_name text = let h : group (class_in 128 words text) ≡ 1 = group_in 128 words text (omega arith) in rw h refl

kind_opened : (opened : Bool) (s : Sort) → sort_kind s ≡ word_kind (group (class_of opened s))
kind_opened true s = refl
kind_opened false (sort.Word text) = refl
kind_opened false (sort.Opened text number) = refl
kind_opened false (sort.Number n) = refl
kind_opened false (sort.Keyword k) = refl
kind_opened false (sort.Sign s) = refl
kind_opened false sort.Finish = refl

dropped : (all : List Token) (i : ℕ) (t : Token) (ts : List Token) → drop i all ≡ t ∷ ts → (slice_get all i ≡ Some t) × (drop (suc i) all ≡ ts)
dropped [] zero t ts e = absurd (cc)
dropped [] (suc i) t ts e = absurd (cc)
dropped (x ∷ all) zero t ts e = (cc, cc)
dropped (x ∷ all) (suc i) t ts e = dropped all i t ts e

pub all_tokens : (all : List Token) (opened : Bool) (i : ℕ) (ts : List Token) → drop i all ≡ ts → AreTokens all (terminals opened i ts)
all_tokens all opened i [] e = tt
all_tokens all opened i (t ∷ ts) e =
    let d = dropped all i t ts e in
    let n : i + 1 ≡ suc i = omega arith in
    let more : drop (i + 1) all ≡ ts = rw n d.1 in
    ((t, d.0, kind_opened opened t.sort), all_tokens all (opens opened t.sort) (i + 1) ts more)

taken_tokens : (all : List Token) (n : ℕ) (ts : List Terminal) → AreTokens all ts → AreTokens all (take n ts)
taken_tokens all zero ts p = tt
taken_tokens all (suc n) [] p = tt
taken_tokens all (suc n) (t ∷ ts) p = (p.0, taken_tokens all n ts p.1)

heard_kept : (all : List Token) (keep : Bool) (t : Terminal) (out : List Item) → IsHeard all (Word t) → AreHeard all out → AreHeard all (kept keep t out)
heard_kept all true t out p q = (p, q)
heard_kept all false t out p q = q

heard_runs : {r : Rules} {w : Bool} {k : List Symbol} {ts : List Terminal} {out : List Item} (all : List Token) → AreTokens all ts → Runs r w k ts out → AreHeard all out
heard_runs all p (ends e) = tt
heard_runs all p (takes e m) = heard_runs all p.1 m
heard_runs all p (keeps e m) = (p.0, heard_runs all p.1 m)
heard_runs all p (acts m) = (tt, heard_runs all p m)
heard_runs all p (keys {t = t} {out = out} keep b e m) = heard_kept all keep t out p.0 (heard_runs all p.1 m)
heard_runs all p (others b e m) = heard_runs all p m
heard_runs all p (goes_on m) = heard_runs all p m

pub items_heard : (p : Part) (depth : ℕ) (opened : Bool) (ts : List Token) (taken : ℕ) (items : List Item) → IsRead p depth opened ts taken items → AreHeard ts items
items_heard p depth opened ts taken items read =
    heard_runs ts (taken_tokens ts taken (terminals opened 0 ts) (all_tokens ts opened 0 ts refl)) read.whole.spelled

length-terminals : (opened : Bool) (i : ℕ) (ts : List Token) → length (terminals opened i ts) ≡ length ts
length-terminals opened i [] = refl
length-terminals opened i (t ∷ ts) = ap suc (length-terminals (opens opened t.sort) (i + 1) ts)

pub taken_within : (p : Part) (depth : ℕ) (opened : Bool) (ts : List Token) (taken : ℕ) (items : List Item) → IsRead p depth opened ts taken items → taken ≤ length ts
taken_within p depth opened ts taken items read =
    let n : length (terminals opened 0 ts) ≡ length ts = length-terminals opened 0 ts in
    omega (arith, read.whole.within)
