-- What symbols spell, before other symbols: parts opened and closed in any place.
use Rattle.std.specs.Prelude.{◌≡◌, ℕ, Bool, true, false, ◌&&◌, List, [], ◌∷◌, ◌++◌, refl}
use Rattle.std.proofs.Common.{inl, inr}
use Rattle.std.proofs.lemmas.List.{append-nil}
use Rattle.cb_engine.specs.declared.Symbol.{Symbol}
use Rattle.cb_engine.specs.declared.Symbol.TheVariants.{Take, Keep, Act, Part, Gives, Then, Line}
use Rattle.cb_engine.specs.declared.Terminal.{Terminal}
use Rattle.cb_engine.specs.declared.Item.{Item}
use Rattle.cb_engine.specs.Rules.{Runs}
use Rattle.cb_engine.specs.Rules.Runs.{ends, takes, acts}
use Rattle.cb_engine.specs.Tables.{rules_of}
use Rattle.cb_engine.specs.Deciding.{both}
use Rattle.cb_engine.specs.Plain.{each_alone}
use Rattle.cb_engine.specs.Lines.{alternatives, OneOf, NoThen, Among, Repeated, opened, closed}
use Rattle.cb_engine.specs.Splitting.{split, rejoined, behind}
use Rattle.cb_engine.specs.Repeating.{each_with_token, again, part_no_then, repeated_no_then, many, from_many}
use Rattle.cb_grammar.specs.declared.table.TheConstants.{GRAMMAR}
use Rattle.cb_grammar.specs.Misreadings.{language}
use Rattle.cb_grammar.specs.Written.{IsWritten}

-- no alternative is dead, and their order is free
pub all_alone : each_alone GRAMMAR GRAMMAR ≡ true
all_alone = refl

abbrev pub Run : List Symbol → List Terminal → List Item → Type 0
Run k ts out = Runs (rules_of GRAMMAR) true k ts out

-- what the first spells, the second spells
abbrev pub Into : List Symbol → List Symbol → Type 0
Into u v = (ts : List Terminal) (out : List Item) → Run u ts out → Run v ts out

abbrev pub Read : (List Symbol → Type 0) → List Symbol → List Terminal → List Item → Type 0
Read Shape k ts out = (w : List Symbol) × (Shape w × Run (w ++ k) ts out)

-- what holds of a part before any symbols
pub record Means (n : ℕ) (Shape : List Symbol → Type 0) : Type 0 where
  pub reads : (k : List Symbol) (ts : List Terminal) (out : List Item) → Run (Part n ∷ k) ts out → Read Shape k ts out
  pub spells : (w : List Symbol) → Shape w → (k : List Symbol) → NoThen k → Into (w ++ k) (Part n ∷ k)

nothing_no_then : NoThen []
nothing_no_then a b j e = absurd (cc)

pub written : (n : ℕ) (Shape : List Symbol → Type 0) → Means n Shape → IsWritten n Shape
unfolding language
written n Shape q ts out = (λ m. let r = q.reads [] ts out m in (r.0, (r.1.0, simp append-nil at r.1.1)), λ r. q.spells r.0 r.1.0 [] nothing_no_then ts out (rw append-nil r.1.1))

pub take_no_then : (c : ℕ) (k : List Symbol) → NoThen (Take c ∷ k)
take_no_then c k = λ a b j e. absurd (cc)

pub keep_no_then : (c : ℕ) (k : List Symbol) → NoThen (Keep c ∷ k)
keep_no_then c k = λ a b j e. absurd (cc)

pub act_no_then : (c : ℕ) (k : List Symbol) → NoThen (Act c ∷ k)
act_no_then c k = λ a b j e. absurd (cc)

-- pieces that begin with no Then
abbrev pub begins_plain : List Symbol → Bool
begins_plain [] = false
begins_plain (Then a b ∷ u) = false
begins_plain (_ ∷ u) = true

abbrev pub all_plain : List (List Symbol) → Bool
all_plain [] = true
all_plain (w ∷ ws) = begins_plain w && all_plain ws

plain_no_then : (w k : List Symbol) → begins_plain w ≡ true → NoThen (w ++ k)
plain_no_then [] k e = absurd (cc)
plain_no_then (Then c d ∷ w) k e = absurd (cc)
plain_no_then (Take c ∷ w) k e = λ a b j q. absurd (cc)
plain_no_then (Keep c ∷ w) k e = λ a b j q. absurd (cc)
plain_no_then (Act c ∷ w) k e = λ a b j q. absurd (cc)
plain_no_then (Part c ∷ w) k e = λ a b j q. absurd (cc)
plain_no_then (Gives c ∷ w) k e = λ a b j q. absurd (cc)
plain_no_then (Line c d f ∷ w) k e = λ a b j q. absurd (cc)

pub among_no_then : (ws : List (List Symbol)) → all_plain ws ≡ true → (w k : List Symbol) → Among ws w → NoThen (w ++ k)
among_no_then [] e w k a = absurd a
among_no_then (v ∷ ws) e w k (inl q) = rw q (plain_no_then v k (both e).0)
among_no_then (v ∷ ws) e w k (inr a) = among_no_then ws (both e).1 w k a

-- an action writes the same before a token and behind it
pub act_first : (c a : ℕ) (k : List Symbol) → Into (Take c ∷ Act a ∷ k) (Act a ∷ Take c ∷ k)
act_first c a k ts out (takes e (acts m)) = acts (takes e m)
act_first c a k ts out (takes e (ends g)) = let q = g refl in absurd (cc)
act_first c a k ts out (ends g) = let q = g refl in absurd (cc)

pub act_last : (c a : ℕ) (k : List Symbol) → Into (Act a ∷ Take c ∷ k) (Take c ∷ Act a ∷ k)
act_last c a k ts out (acts (takes e m)) = takes e (acts m)
act_last c a k ts out (acts (ends g)) = let q = g refl in absurd (cc)
act_last c a k ts out (ends g) = let q = g refl in absurd (cc)

-- behind symbols
pub under : (u k j : List Symbol) → NoThen k → Into k j → Into (u ++ k) (u ++ j)
under u k j free f ts out m = behind u k j free f ts out m

-- a part with known alternatives
module _ (n : ℕ) (lines : List (List Symbol)) (e : alternatives GRAMMAR n ≡ lines) where
  pub open_part : (k : List Symbol) (ts : List Terminal) (out : List Item) → Run (Part n ∷ k) ts out → OneOf (λ a. Run (a ++ k) ts out) lines
  open_part k ts out m = opened GRAMMAR all_alone n lines e k ts out m

  pub close_part : (k : List Symbol) (ts : List Terminal) (out : List Item) → OneOf (λ a. Run (a ++ k) ts out) lines → Run (Part n ∷ k) ts out
  close_part k ts out o = closed GRAMMAR all_alone n lines e k ts out o

  among_of : (ls : List (List Symbol)) (k : List Symbol) (ts : List Terminal) (out : List Item) → OneOf (λ a. Run (a ++ k) ts out) ls → (p : List Symbol) × (Among ls p × Run (p ++ k) ts out)
  among_of [] k ts out o = absurd o
  among_of (l ∷ ls) k ts out (inl m) = (l, (inl refl, m))
  among_of (l ∷ ls) k ts out (inr o) = let q = among_of ls k ts out o in (q.0, (inr q.1.0, q.1.1))

  one_of : (ls : List (List Symbol)) (p k : List Symbol) (ts : List Terminal) (out : List Item) → Among ls p → Run (p ++ k) ts out → OneOf (λ a. Run (a ++ k) ts out) ls
  one_of [] p k ts out a m = absurd a
  one_of (l ∷ ls) p k ts out (inl q) m = inl (rw q at m)
  one_of (l ∷ ls) p k ts out (inr a) m = inr (one_of ls p k ts out a m)

  -- one of its alternatives stands in its place
  pub expand : (u k : List Symbol) (ts : List Terminal) (out : List Item) → Run (u ++ (Part n ∷ k)) ts out → (p : List Symbol) × (Among lines p × Run (u ++ (p ++ k)) ts out)
  expand u k ts out m =
      let s = split m u (Part n ∷ k) (part_no_then n k) refl in
      let q = among_of lines k s.back s.late (open_part k s.back s.late s.rest) in
      (q.0, (q.1.0, rejoined s (q.0 ++ k) q.1.1))

  pub contract : (u p k : List Symbol) → Among lines p → NoThen (p ++ k) → Into (u ++ (p ++ k)) (u ++ (Part n ∷ k))
  contract u p k a free ts out m = behind u (p ++ k) (Part n ∷ k) free (λ us o r. close_part k us o (one_of lines p k us o a r)) ts out m

-- a part of one line
module _ (n : ℕ) (line : List Symbol) (e : alternatives GRAMMAR n ≡ line ∷ []) where
  pub open_only : (k : List Symbol) → Into (Part n ∷ k) (line ++ k)
  open_only k ts out m = go (open_part n (line ∷ []) e k ts out m)
    where
      go : OneOf (λ a. Run (a ++ k) ts out) (line ∷ []) → Run (line ++ k) ts out
      go (inl p) = p
      go (inr p) = absurd p

  pub close_only : (k : List Symbol) → Into (line ++ k) (Part n ∷ k)
  close_only k ts out m = close_part n (line ∷ []) e k ts out (inl m)

-- a part of pieces, behind other symbols
module _ (n : ℕ) (ws : List (List Symbol)) (t : each_with_token ws ≡ true) (e : alternatives GRAMMAR n ≡ again n ws) where
  pub many_behind : (u k : List Symbol) (ts : List Terminal) (out : List Item) → Run (u ++ (Part n ∷ k)) ts out → (x : List Symbol) × (Repeated ws x × Run (u ++ (x ++ k)) ts out)
  many_behind u k ts out m =
      let s = split m u (Part n ∷ k) (part_no_then n k) refl in
      let q = many GRAMMAR all_alone n ws t e k s.back s.late s.rest in
      (q.0, (q.1.0, rejoined s (q.0 ++ k) q.1.1))

  pub behind_many : (u k : List Symbol) → NoThen k → (x : List Symbol) → Repeated ws x → Into (u ++ (x ++ k)) (u ++ (Part n ∷ k))
  behind_many u k free x q ts out m = behind u (x ++ k) (Part n ∷ k) (repeated_no_then ws t q k free) (λ us o r. from_many GRAMMAR all_alone n ws t e q k free us o r) ts out m
