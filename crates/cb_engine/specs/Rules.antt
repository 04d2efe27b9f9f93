-- What a grammar spells and how a text of it may begin.
use Rattle.std.specs.Prelude.{◌≡◌, ℕ, zero, suc, Bool, true, false, ◌||◌, eqb, nat_lt, if◌then◌else◌, List, [], ◌∷◌, ◌++◌, Option, Some}
use Rattle.cb_engine.specs.declared.Symbol.{Symbol}
use Rattle.cb_engine.specs.declared.Symbol.TheVariants.{Take, Keep, Act, Part, Gives, Then, Line}
use Rattle.cb_engine.specs.declared.Terminal.{Terminal}
use Rattle.cb_engine.specs.declared.Item.{Item}
use Rattle.cb_engine.specs.declared.Item.TheVariants.{Word, Do}

-- The classes from 128 on are names that are also words, and those from 120 to 127 are numbers that are also words:
-- where a name (1) or a number (2) may stand, so may they.
abbrev pub group : ℕ → ℕ
group d = if nat_lt d 120 then d else if nat_lt d 128 then 2 else 1

abbrev pub admits : ℕ → ℕ → Bool
admits c d = eqb c d || eqb c (group d)

-- The alternatives of each part. A keyed one begins with a token of that class, written out or not, and goes on
-- with the symbols. Beside them a part may have one alternative without a key.
pub record Rules : Type 0 where
  pub keyed : ℕ → ℕ → Option (Bool × List Symbol)
  pub otherwise : ℕ → Option (List Symbol)

-- the part that goes on after a sort
abbrev pub chosen : ℕ → ℕ → ℕ → ℕ
chosen a b zero = a
chosen a b (suc _) = b

abbrev pub kept : Bool → Terminal → List Item → List Item
kept true t out = Word t ∷ out
kept false t out = out

-- The tokens are spelled by the symbols in order (whole), or they begin what is (not whole). out is what is written out.
pub data Runs (r : Rules) (whole : Bool) : List Symbol → List Terminal → List Item → Type 0 where
  ends : {k : List Symbol} → (whole ≡ true → k ≡ []) → Runs r whole k [] []
  takes : {c : ℕ} {k : List Symbol} {t : Terminal} {ts : List Terminal} {out : List Item} → admits c t.class ≡ true → Runs r whole k ts out → Runs r whole (Take c ∷ k) (t ∷ ts) out
  keeps : {c : ℕ} {k : List Symbol} {t : Terminal} {ts : List Terminal} {out : List Item} → admits c t.class ≡ true → Runs r whole k ts out → Runs r whole (Keep c ∷ k) (t ∷ ts) (Word t ∷ out)
  acts : {a : ℕ} {k : List Symbol} {ts : List Terminal} {out : List Item} → Runs r whole k ts out → Runs r whole (Act a ∷ k) ts (Do a ∷ out)
  keys : {n : ℕ} {k : List Symbol} {t : Terminal} {ts : List Terminal} {out : List Item} (keep : Bool) (body : List Symbol) → r.keyed n t.class ≡ Some (keep, body) → Runs r whole (body ++ k) ts out → Runs r whole (Part n ∷ k) (t ∷ ts) (kept keep t out)
  others : {n : ℕ} {k : List Symbol} {ts : List Terminal} {out : List Item} (body : List Symbol) → r.otherwise n ≡ Some body → Runs r whole (body ++ k) ts out → Runs r whole (Part n ∷ k) ts out
  goes_on : {s a b : ℕ} {k : List Symbol} {ts : List Terminal} {out : List Item} → Runs r whole (Part (chosen a b s) ∷ k) ts out → Runs r whole (Gives s ∷ Then a b ∷ k) ts out

-- the tokens are spelled, and out is written
abbrev pub Spells : Rules → List Symbol → List Terminal → List Item → Type 0
Spells r k ts out = Runs r true k ts out

-- the tokens begin what is spelled
abbrev pub Begins : Rules → List Symbol → List Terminal → Type 0
Begins r k ts = (out : List Item) × Runs r false k ts out

-- Hints: with which tokens a part may begin where it stands (may), and which may come after it (after); and with
-- which tokens the text may go on after each sort. They say nothing of the language. They only show that one
-- token decides.
pub record Hints : Type 0 where
  pub may : ℕ → List ℕ
  pub after : ℕ → List ℕ
  pub first_sort : List ℕ
  pub second_sort : List ℕ

abbrev pub stands : List ℕ → ℕ → Bool
stands [] c = false
stands (d ∷ ds) c = eqb d c || stands ds c

-- a token of class c is admitted by one of these
abbrev pub has : List ℕ → ℕ → Bool
has ds c = stands ds c || stands ds (group c)

abbrev pub Within : List ℕ → List ℕ → Type 0
Within a b = (c : ℕ) → has a c ≡ true → has b c ≡ true

abbrev pub picked : Hints → ℕ → List ℕ
picked h zero = h.first_sort
picked h (suc _) = h.second_sort

-- with which tokens the symbols may begin, before a text that may begin with the tokens of tail
abbrev pub firsts : Hints → List ℕ → List Symbol → List ℕ
firsts h tail [] = tail
firsts h tail (Take d ∷ k) = d ∷ []
firsts h tail (Keep d ∷ k) = d ∷ []
firsts h tail (Act a ∷ k) = firsts h tail k
firsts h tail (Part n ∷ k) = h.may n
firsts h tail (Gives s ∷ k) = picked h s
firsts h tail (Then a b ∷ k) = []
firsts h tail (Line l0 l1 l2 ∷ k) = []

abbrev pub Fits : Hints → List ℕ → List Symbol → Type 0
Fits h tail [] = Unit {0}
Fits h tail (Take d ∷ k) = Fits h tail k
Fits h tail (Keep d ∷ k) = Fits h tail k
Fits h tail (Act a ∷ k) = Fits h tail k
Fits h tail (Part n ∷ k) = Within (firsts h tail k) (h.after n) × Fits h tail k
Fits h tail (Gives s ∷ k) = Fits h tail k
Fits h tail (Line l0 l1 l2 ∷ k) = Fits h tail k
Fits h tail (Then a b ∷ k) =
    Within (h.may a) h.first_sort × Within (h.may b) h.second_sort × Within (firsts h tail k) (h.after a) × Within (firsts h tail k) (h.after b) × Fits h tail k

-- one token decides
pub record Decides (r : Rules) (h : Hints) : Type 0 where
  pub key_may : (n c : ℕ) (alt : Bool × List Symbol) → r.keyed n c ≡ Some alt → has (h.may n) c ≡ true
  pub other_may : (n : ℕ) (body : List Symbol) → r.otherwise n ≡ Some body → Within (firsts h (h.after n) body) (h.may n)
  pub apart : (n c : ℕ) (alt : Bool × List Symbol) (b : List Symbol) → r.keyed n c ≡ Some alt → r.otherwise n ≡ Some b → has (firsts h (h.after n) b) c ≡ true → ⊥
  pub key_fits : (n c : ℕ) (alt : Bool × List Symbol) → r.keyed n c ≡ Some alt → Fits h (h.after n) alt.1
  pub other_fits : (n : ℕ) (body : List Symbol) → r.otherwise n ≡ Some body → Fits h (h.after n) body
