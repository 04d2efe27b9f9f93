-- Symbols of the table that stand for a shape, and how such stand one behind the other.
use Rattle.std.specs.Prelude.{◌≡◌, ℕ, Bool, true, false, ◌&&◌, List, [], ◌∷◌, ◌++◌, refl}
use Rattle.std.proofs.Common.{◌⊎◌, inl, inr, append_assoc}
use Rattle.std.proofs.lemmas.List.{append-nil}
use Rattle.cb_engine.specs.declared.Symbol.{Symbol}
use Rattle.cb_engine.specs.declared.Symbol.TheVariants.{Take, Keep, Act, Part, Gives, Then, Line}
use Rattle.cb_engine.specs.declared.Terminal.{Terminal}
use Rattle.cb_engine.specs.declared.Item.{Item}
use Rattle.cb_engine.specs.Deciding.{both}
use Rattle.cb_engine.specs.Lines.{alternatives, OneOf, NoThen, Among, Repeated}
use Rattle.cb_engine.specs.Splitting.{split, rejoined}
use Rattle.cb_engine.specs.Repeating.{each_with_token, again, part_no_then, repeated_no_then}
use Rattle.cb_grammar.specs.declared.table.TheConstants.{GRAMMAR}
use Rattle.cb_grammar.specs.Misreadings.{language}
use Rattle.cb_grammar.specs.Written.{IsWritten}
use Rattle.cb_written.specs.Shapes.{Exactly, ◌before◌, Either}
use Rattle.cb_written.proofs.Pieces.{Run, Into, Read, under, open_part, close_part, many_behind, behind_many}

-- The symbols spell what the shape spells, whatever stands behind them. No sort is asked for at their start.
pub record Stands (r : List Symbol) (P : List Symbol → Type 0) : Type 0 where
  pub reads : (k : List Symbol) (ts : List Terminal) (out : List Item) → NoThen k → Run (r ++ k) ts out → Read P k ts out
  pub spells : (w : List Symbol) → P w → (k : List Symbol) → NoThen k → Into (w ++ k) (r ++ k)
  pub free : (w : List Symbol) → P w → (k : List Symbol) → NoThen k → NoThen (w ++ k)
  pub unasked : (k : List Symbol) → NoThen k → NoThen (r ++ k)

-- the same of the alternatives of a part
pub record AllStand (ls : List (List Symbol)) (P : List Symbol → Type 0) : Type 0 where
  pub reads : (k : List Symbol) (ts : List Terminal) (out : List Item) → NoThen k → OneOf (λ a. Run (a ++ k) ts out) ls → Read P k ts out
  pub spells : (w : List Symbol) → P w → (k : List Symbol) → NoThen k → (ts : List Terminal) (out : List Item) → Run (w ++ k) ts out → OneOf (λ a. Run (a ++ k) ts out) ls
  pub free : (w : List Symbol) → P w → (k : List Symbol) → NoThen k → NoThen (w ++ k)

-- symbols that ask for no sort
abbrev pub asks_none : List Symbol → Bool
asks_none [] = true
asks_none (Then a b ∷ u) = false
asks_none (_ ∷ u) = true

asks_no_then : (u k : List Symbol) → asks_none u ≡ true → NoThen k → NoThen (u ++ k)
asks_no_then [] k e free = free
asks_no_then (Then a b ∷ u) k e free = absurd (cc)
asks_no_then (Take c ∷ u) k e free = λ a b j q. absurd (cc)
asks_no_then (Keep c ∷ u) k e free = λ a b j q. absurd (cc)
asks_no_then (Act c ∷ u) k e free = λ a b j q. absurd (cc)
asks_no_then (Part c ∷ u) k e free = λ a b j q. absurd (cc)
asks_no_then (Gives c ∷ u) k e free = λ a b j q. absurd (cc)
asks_no_then (Line c d f ∷ u) k e free = λ a b j q. absurd (cc)

pub exact : (u : List Symbol) → asks_none u ≡ true → Stands u (Exactly u)
exact u e = record {
  reads = λ k ts out free m. (u, (refl, m));
  spells = λ w q k free ts out m. rw q at m;
  free = λ w q k free. rw q (asks_no_then u k e free);
  unasked = λ k free. asks_no_then u k e free;
}

abbrev pub all_ask_none : List (List Symbol) → Bool
all_ask_none [] = true
all_ask_none (w ∷ ws) = asks_none w && all_ask_none ws

among_free : (ws : List (List Symbol)) → all_ask_none ws ≡ true → (w : List Symbol) → Among ws w → (k : List Symbol) → NoThen k → NoThen (w ++ k)
among_free [] e w a k free = absurd a
among_free (v ∷ ws) e w (inl q) k free = rw q (asks_no_then v k (both e).0 free)
among_free (v ∷ ws) e w (inr a) k free = among_free ws (both e).1 w a k free

among_of : (ls : List (List Symbol)) (k : List Symbol) (ts : List Terminal) (out : List Item) → OneOf (λ a. Run (a ++ k) ts out) ls → Read (Among ls) k ts out
among_of [] k ts out o = absurd o
among_of (l ∷ ls) k ts out (inl m) = (l, (inl refl, m))
among_of (l ∷ ls) k ts out (inr o) = let q = among_of ls k ts out o in (q.0, (inr q.1.0, q.1.1))

one_of : (ls : List (List Symbol)) (p k : List Symbol) (ts : List Terminal) (out : List Item) → Among ls p → Run (p ++ k) ts out → OneOf (λ a. Run (a ++ k) ts out) ls
one_of [] p k ts out a m = absurd a
one_of (l ∷ ls) p k ts out (inl q) m = inl (rw q at m)
one_of (l ∷ ls) p k ts out (inr a) m = inr (one_of ls p k ts out a m)

pub lines : (ls : List (List Symbol)) → all_ask_none ls ≡ true → AllStand ls (Among ls)
lines ls e = record { reads = λ k ts out free o. among_of ls k ts out o; spells = λ w a k free ts out m. one_of ls w k ts out a m; free = among_free ls e }

pub line : (r : List Symbol) (P : List Symbol → Type 0) → Stands r P → AllStand (r ∷ []) P
line r P s = record { reads = reads; spells = λ w p k free ts out m. inl (s.spells w p k free ts out m); free = s.free }
  where
    reads : (k : List Symbol) (ts : List Terminal) (out : List Item) → NoThen k → OneOf (λ a. Run (a ++ k) ts out) (r ∷ []) → Read P k ts out
    reads k ts out free (inl m) = s.reads k ts out free m
    reads k ts out free (inr o) = absurd o

pub more_lines : (r : List Symbol) (ls : List (List Symbol)) (P Q : List Symbol → Type 0) → Stands r P → AllStand ls Q → AllStand (r ∷ ls) (Either P Q)
more_lines r ls P Q s t = record { reads = reads; spells = spells; free = free }
  where
    reads : (k : List Symbol) (ts : List Terminal) (out : List Item) → NoThen k → OneOf (λ a. Run (a ++ k) ts out) (r ∷ ls) → Read (Either P Q) k ts out
    reads k ts out free (inl m) = let q = s.reads k ts out free m in (q.0, (inl q.1.0, q.1.1))
    reads k ts out free (inr o) = let q = t.reads k ts out free o in (q.0, (inr q.1.0, q.1.1))

    spells : (w : List Symbol) → Either P Q w → (k : List Symbol) → NoThen k → (ts : List Terminal) (out : List Item) → Run (w ++ k) ts out → OneOf (λ a. Run (a ++ k) ts out) (r ∷ ls)
    spells w (inl p) k free ts out m = inl (s.spells w p k free ts out m)
    spells w (inr q) k free ts out m = inr (t.spells w q k free ts out m)

    free : (w : List Symbol) → Either P Q w → (k : List Symbol) → NoThen k → NoThen (w ++ k)
    free w (inl p) k none = s.free w p k none
    free w (inr q) k none = t.free w q k none

-- alternatives and then others
pub both_lines : (ls ms : List (List Symbol)) (P Q : List Symbol → Type 0) → AllStand ls P → AllStand ms Q → AllStand (ls ++ ms) (Either P Q)
both_lines ls ms P Q s t = record { reads = reads; spells = spells; free = free }
  where
    reads : (k : List Symbol) (ts : List Terminal) (out : List Item) → NoThen k → OneOf (λ a. Run (a ++ k) ts out) (ls ++ ms) → Read (Either P Q) k ts out
    reads k ts out none o = go (of_append ls o)
      where
        of_append : (l : List (List Symbol)) → OneOf (λ a. Run (a ++ k) ts out) (l ++ ms) → OneOf (λ a. Run (a ++ k) ts out) l ⊎ OneOf (λ a. Run (a ++ k) ts out) ms
        of_append [] o = inr o
        of_append (x ∷ l) (inl m) = inl (inl m)
        of_append (x ∷ l) (inr o) = further (of_append l o)
          where
            further : OneOf (λ a. Run (a ++ k) ts out) l ⊎ OneOf (λ a. Run (a ++ k) ts out) ms → OneOf (λ a. Run (a ++ k) ts out) (x ∷ l) ⊎ OneOf (λ a. Run (a ++ k) ts out) ms
            further (inl p) = inl (inr p)
            further (inr p) = inr p

        go : OneOf (λ a. Run (a ++ k) ts out) ls ⊎ OneOf (λ a. Run (a ++ k) ts out) ms → Read (Either P Q) k ts out
        go (inl m) = let q = s.reads k ts out none m in (q.0, (inl q.1.0, q.1.1))
        go (inr m) = let q = t.reads k ts out none m in (q.0, (inr q.1.0, q.1.1))

    front : (k : List Symbol) (ts : List Terminal) (out : List Item) (l : List (List Symbol)) → OneOf (λ a. Run (a ++ k) ts out) l → OneOf (λ a. Run (a ++ k) ts out) (l ++ ms)
    front k ts out [] o = absurd o
    front k ts out (x ∷ l) (inl m) = inl m
    front k ts out (x ∷ l) (inr o) = inr (front k ts out l o)

    back : (k : List Symbol) (ts : List Terminal) (out : List Item) (l : List (List Symbol)) → OneOf (λ a. Run (a ++ k) ts out) ms → OneOf (λ a. Run (a ++ k) ts out) (l ++ ms)
    back k ts out [] o = o
    back k ts out (x ∷ l) o = inr (back k ts out l o)

    spells : (w : List Symbol) → Either P Q w → (k : List Symbol) → NoThen k → (ts : List Terminal) (out : List Item) → Run (w ++ k) ts out → OneOf (λ a. Run (a ++ k) ts out) (ls ++ ms)
    spells w (inl p) k none ts out m = front k ts out ls (s.spells w p k none ts out m)
    spells w (inr q) k none ts out m = back k ts out ls (t.spells w q k none ts out m)

    free : (w : List Symbol) → Either P Q w → (k : List Symbol) → NoThen k → NoThen (w ++ k)
    free w (inl p) k none = s.free w p k none
    free w (inr q) k none = t.free w q k none

-- a part of which the alternatives are known
pub part_of : (n : ℕ) (ls : List (List Symbol)) (P : List Symbol → Type 0) → alternatives GRAMMAR n ≡ ls → AllStand ls P → Stands (Part n ∷ []) P
part_of n ls P e s = record {
  reads = λ k ts out free m. s.reads k ts out free (open_part n ls e k ts out m);
  spells = λ w p k free ts out m. close_part n ls e k ts out (s.spells w p k free ts out m);
  free = s.free;
  unasked = λ k free. part_no_then n k;
}

pub choice : (n : ℕ) (ls : List (List Symbol)) → all_ask_none ls ≡ true → alternatives GRAMMAR n ≡ ls → Stands (Part n ∷ []) (Among ls)
choice n ls t e = part_of n ls (Among ls) e (lines ls t)

-- a part that goes on with itself
pub many : (n : ℕ) (ws : List (List Symbol)) → each_with_token ws ≡ true → alternatives GRAMMAR n ≡ again n ws → Stands (Part n ∷ []) (Repeated ws)
many n ws t e = record {
  reads = λ k ts out free m. many_behind n ws t e [] k ts out m;
  spells = λ w q k free. behind_many n ws t e [] k free w q;
  free = λ w q k free. repeated_no_then ws t q k free;
  unasked = λ k free. part_no_then n k;
}

-- one behind the other
pub next : (r s : List Symbol) (P Q : List Symbol → Type 0) → Stands r P → Stands s Q → Stands (r ++ s) (P before Q)
next r s P Q a b = record { reads = reads; spells = spells; free = free; unasked = λ k none. rw (append_assoc r s k) (a.unasked (s ++ k) (b.unasked k none)) }
  where
    reads : (k : List Symbol) (ts : List Terminal) (out : List Item) → NoThen k → Run ((r ++ s) ++ k) ts out → Read (P before Q) k ts out
    reads k ts out none m =
        let p = a.reads (s ++ k) ts out (b.unasked k none) (rw (append_assoc r s k) at m) in
        let d = split p.1.1 p.0 (s ++ k) (b.unasked k none) refl in
        let q = b.reads k d.back d.late none d.rest in
        (p.0 ++ q.0, ((p.0, q.0, p.1.0, q.1.0, refl), rw (append_assoc p.0 q.0 k) (rejoined d (q.0 ++ k) q.1.1)))

    spells : (w : List Symbol) → (P before Q) w → (k : List Symbol) → NoThen k → Into (w ++ k) ((r ++ s) ++ k)
    spells w (u, v, p, q, e) k none ts out m =
        let n : Run (u ++ (v ++ k)) ts out = rw (e, append_assoc u v k) at m in
        let o = under u (v ++ k) (s ++ k) (b.free v q k none) (b.spells v q k none) ts out n in
        rw (append_assoc r s k) (a.spells u p (s ++ k) (b.unasked k none) ts out o)

    free : (w : List Symbol) → (P before Q) w → (k : List Symbol) → NoThen k → NoThen (w ++ k)
    free w (u, v, p, q, e) k none = rw (e, append_assoc u v k) (a.free u p (v ++ k) (b.free v q k none))

infixr 30 ◌then◌
pub ◌then◌ : {r s : List Symbol} {P Q : List Symbol → Type 0} → Stands r P → Stands s Q → Stands (r ++ s) (P before Q)
◌then◌ {r = r} {s = s} {P = P} {Q = Q} a b = next r s P Q a b

-- the same shape otherwise told
pub told_as : (r : List Symbol) (P Q : List Symbol → Type 0) → ((w : List Symbol) → P w → Q w) → ((w : List Symbol) → Q w → P w) → Stands r P → Stands r Q
told_as r P Q to from s = record {
  reads = λ k ts out free m. let q = s.reads k ts out free m in (q.0, (to q.0 q.1.0, q.1.1));
  spells = λ w q k free. s.spells w (from w q) k free;
  free = λ w q k free. s.free w (from w q) k free;
  unasked = s.unasked;
}

pub all_told_as : (ls : List (List Symbol)) (P Q : List Symbol → Type 0) → ((w : List Symbol) → P w → Q w) → ((w : List Symbol) → Q w → P w) → AllStand ls P → AllStand ls Q
all_told_as ls P Q to from s = record {
  reads = λ k ts out free m. let q = s.reads k ts out free m in (q.0, (to q.0 q.1.0, q.1.1));
  spells = λ w q k free ts out m. s.spells w (from w q) k free ts out m;
  free = λ w q k free. s.free w (from w q) k free;
}

-- symbols that stand first in a sequence may stand with those before them
pub joined : (u v : List Symbol) (r : List Symbol) (P : List Symbol → Type 0) → Stands r (Exactly u before (Exactly v before P)) → Stands r (Exactly (u ++ v) before P)
joined u v r P s = told_as r (Exactly u before (Exactly v before P)) (Exactly (u ++ v) before P) to from s
  where
    to : (w : List Symbol) → (Exactly u before (Exactly v before P)) w → (Exactly (u ++ v) before P) w
    to w (a, b, p, (c, d, q, h, e), f) = (u ++ v, d, refl, h, rw (f, p, e, q, append_assoc u v d) refl)

    from : (w : List Symbol) → (Exactly (u ++ v) before P) w → (Exactly u before (Exactly v before P)) w
    from w (a, d, p, h, e) = (u, v ++ d, refl, (v, d, refl, h, refl), rw (e, p, append_assoc u v d) refl)

nothing_no_then : NoThen []
nothing_no_then a b j e = absurd (cc)

pub is_written : (n : ℕ) (P : List Symbol → Type 0) → Stands (Part n ∷ []) P → IsWritten n P
unfolding language
is_written n P s ts out = (λ m. let r = s.reads [] ts out nothing_no_then m in (r.0, (r.1.0, simp append-nil at r.1.1)), λ r. s.spells r.0 r.1.0 [] nothing_no_then ts out (rw append-nil r.1.1))
