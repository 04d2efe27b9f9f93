-- The words among the items are tokens, with their classes.
use Rattle.std.proofs.Common.{◌≡◌, ℕ, zero, suc, ◌+◌, Bool, true, false, List, [], ◌∷◌, take, drop, refl, arith}
use Rattle.std.specs.Prelude.{Some, slice_get}
use Rattle.cb_lex.specs.declared.token.Token.{Token}
use Rattle.cb_engine.specs.declared.Symbol.{Symbol}
use Rattle.cb_engine.specs.declared.Terminal.{Terminal}
use Rattle.cb_engine.specs.declared.Item.{Item}
use Rattle.cb_engine.specs.declared.Item.TheVariants.{Word, Do}
use Rattle.cb_engine.specs.Rules.{Rules, Runs, kept}
use Rattle.cb_engine.specs.Rules.Runs.{ends, takes, keeps, acts, keys, others, goes_on}
use Rattle.cb_grammar.specs.Terminals.{terminals, opens, class_of}

-- the terminal is a token, of this class where opened names may stand or not
abbrev pub IsToken : List Token → Terminal → Type 0
IsToken ts t = (token : Token) × (slice_get ts t.index ≡ Some token) × ((opened : Bool) × (t.class ≡ class_of opened token.sort))

abbrev AreTokens : List Token → List Terminal → Type 0
AreTokens all [] = Unit {0}
AreTokens all (t ∷ ts) = IsToken all t × AreTokens all ts

abbrev pub HasTokens : List Token → List Item → Type 0
HasTokens ts [] = Unit {0}
HasTokens ts (Word t ∷ items) = IsToken ts t × HasTokens ts items
HasTokens ts (Do a ∷ items) = HasTokens ts items

dropped : (all : List Token) (i : ℕ) (t : Token) (ts : List Token) → drop i all ≡ t ∷ ts → (slice_get all i ≡ Some t) × (drop (suc i) all ≡ ts)
dropped [] zero t ts e = absurd (cc)
dropped [] (suc i) t ts e = absurd (cc)
dropped (x ∷ all) zero t ts e = (cc, cc)
dropped (x ∷ all) (suc i) t ts e = dropped all i t ts e

all_tokens : (all : List Token) (opened : Bool) (i : ℕ) (ts : List Token) → drop i all ≡ ts → AreTokens all (terminals opened i ts)
all_tokens all opened i [] e = tt
all_tokens all opened i (t ∷ ts) e =
    let d = dropped all i t ts e in
    let n : i + 1 ≡ suc i = omega arith in
    let more : drop (i + 1) all ≡ ts = rw n d.1 in
    ((t, d.0, (opened, refl)), all_tokens all (opens opened t.sort) (i + 1) ts more)

taken_tokens : (all : List Token) (n : ℕ) (ts : List Terminal) → AreTokens all ts → AreTokens all (take n ts)
taken_tokens all zero ts p = tt
taken_tokens all (suc n) [] p = tt
taken_tokens all (suc n) (t ∷ ts) p = (p.0, taken_tokens all n ts p.1)

kept_tokens : (all : List Token) (keep : Bool) (t : Terminal) (out : List Item) → IsToken all t → HasTokens all out → HasTokens all (kept keep t out)
kept_tokens all true t out p q = (p, q)
kept_tokens all false t out p q = q

run_tokens : {r : Rules} {w : Bool} {k : List Symbol} {ts : List Terminal} {out : List Item} (all : List Token) → AreTokens all ts → Runs r w k ts out → HasTokens all out
run_tokens all p (ends e) = tt
run_tokens all p (takes e m) = run_tokens all p.1 m
run_tokens all p (keeps e m) = (p.0, run_tokens all p.1 m)
run_tokens all p (acts m) = run_tokens all p m
run_tokens all p (keys {t = t} {out = out} keep b e m) = kept_tokens all keep t out p.0 (run_tokens all p.1 m)
run_tokens all p (others b e m) = run_tokens all p m
run_tokens all p (goes_on m) = run_tokens all p m

pub has_tokens : {r : Rules} {w : Bool} {k : List Symbol} {out : List Item} (opened : Bool) (ts : List Token) (taken : ℕ) → Runs r w k (take taken (terminals opened 0 ts)) out → HasTokens ts out
has_tokens opened ts taken m = run_tokens ts (taken_tokens ts taken (terminals opened 0 ts) (all_tokens ts opened 0 ts refl)) m
