-- Parts that go on with themselves spell their pieces any number of times.
use Rattle.std.specs.Prelude.{◌≡◌, ◌<◌, ℕ, zero, suc, Bool, true, ◌&&◌, List, [], ◌∷◌, ◌++◌, refl, length}
use Rattle.std.proofs.Common.{arith, ◌⊎◌, inl, inr, append_assoc}
use Rattle.cb_engine.specs.declared.Symbol.{Symbol}
use Rattle.cb_engine.specs.declared.Symbol.TheVariants.{Take, Keep, Act, Part, Gives, Then, Line}
use Rattle.cb_engine.specs.declared.Terminal.{Terminal}
use Rattle.cb_engine.specs.declared.Item.{Item}
use Rattle.cb_engine.specs.Rules.{Runs}
use Rattle.cb_engine.specs.Tables.{rules_of}
use Rattle.cb_engine.specs.Deciding.{both}
use Rattle.cb_engine.specs.Plain.{each_alone}
use Rattle.cb_engine.specs.Lines.{alternatives, OneOf, NoThen, Among, Repeated, unfolded, folded}
use Rattle.cb_engine.specs.Lines.Repeated.{none, more}
use Rattle.cb_engine.specs.Splitting.{with_token, split, rejoined}

abbrev pub each_with_token : List (List Symbol) → Bool
each_with_token [] = true
each_with_token (w ∷ ws) = with_token w && each_with_token ws

among_token : (ws : List (List Symbol)) (w : List Symbol) → each_with_token ws ≡ true → Among ws w → with_token w ≡ true
among_token [] w e a = absurd a
among_token (v ∷ ws) w e (inl q) = rw q (both e).0
among_token (v ∷ ws) w e (inr q) = among_token ws w (both e).1 q

token_no_then : (w k : List Symbol) → with_token w ≡ true → NoThen (w ++ k)
token_no_then [] k e = absurd (cc)
token_no_then (Take c ∷ w) k e = λ a b j q. absurd (cc)
token_no_then (Keep c ∷ w) k e = λ a b j q. absurd (cc)
token_no_then (Act c ∷ w) k e = absurd (cc)
token_no_then (Part c ∷ w) k e = absurd (cc)
token_no_then (Gives c ∷ w) k e = absurd (cc)
token_no_then (Then c d ∷ w) k e = absurd (cc)
token_no_then (Line c d f ∷ w) k e = absurd (cc)

pub repeated_no_then : (ws : List (List Symbol)) → each_with_token ws ≡ true → {x : List Symbol} → Repeated ws x → (k : List Symbol) → NoThen k → NoThen (x ++ k)
repeated_no_then ws e none k free = free
repeated_no_then ws e (more w x a q) k free = rw (append_assoc w x k) (token_no_then w (x ++ k) (among_token ws w e a))

pub part_no_then : (n : ℕ) (k : List Symbol) → NoThen (Part n ∷ k)
part_no_then n k = λ a b j q. absurd (cc)

-- the alternatives of a part that goes on with itself
abbrev pub again : ℕ → List (List Symbol) → List (List Symbol)
again n [] = [] ∷ []
again n (w ∷ ws) = (w ++ Part n ∷ []) ∷ again n ws

module _ (g : List Symbol) (alone : each_alone g g ≡ true) (n : ℕ) (ws : List (List Symbol)) (tokens : each_with_token ws ≡ true) (lines : alternatives g n ≡ again n ws) where
  abbrev Run : List Symbol → List Terminal → List Item → Type 0
  Run k ts out = Runs (rules_of g) true k ts out

  -- one piece and the part again, or nothing
  pub record Piece (k : List Symbol) (ts : List Terminal) (out : List Item) : Type 0 where
    pub piece : List Symbol
    pub among : Among ws piece
    pub runs : Run (piece ++ (Part n ∷ k)) ts out

  piece_of : (vs : List (List Symbol)) → ((w : List Symbol) → Among vs w → Among ws w) → (k : List Symbol) (ts : List Terminal) (out : List Item) → OneOf (λ a. Run (a ++ k) ts out) (again n vs) → Piece k ts out ⊎ Run k ts out
  piece_of [] up k ts out (inl m) = inr m
  piece_of [] up k ts out (inr m) = absurd m
  piece_of (w ∷ vs) up k ts out (inl m) = inl (record { piece = w; among = up w (inl refl); runs = rw append_assoc at m })
  piece_of (w ∷ vs) up k ts out (inr m) = piece_of vs (λ v a. up v (inr a)) k ts out m

  nothing_of : (vs : List (List Symbol)) (k : List Symbol) (ts : List Terminal) (out : List Item) → Run k ts out → OneOf (λ a. Run (a ++ k) ts out) (again n vs)
  nothing_of [] k ts out m = inl m
  nothing_of (w ∷ vs) k ts out m = inr (nothing_of vs k ts out m)

  of_piece : (vs : List (List Symbol)) (w k : List Symbol) (ts : List Terminal) (out : List Item) → Among vs w → Run (w ++ (Part n ∷ k)) ts out → OneOf (λ a. Run (a ++ k) ts out) (again n vs)
  of_piece [] w k ts out a m = absurd a
  of_piece (v ∷ vs) w k ts out (inl q) m = inl (rw (← q, append_assoc w (Part n ∷ []) k) m)
  of_piece (v ∷ vs) w k ts out (inr q) m = inr (of_piece vs w k ts out q m)

  many_within : (f : ℕ) (k : List Symbol) (ts : List Terminal) (out : List Item) → length ts < f → Run (Part n ∷ k) ts out → (x : List Symbol) × (Repeated ws x × Run (x ++ k) ts out)
  many_within zero k ts out l m = absurd (omega arith)
  many_within (suc f) k ts out l m =
      let o : OneOf (λ a. Run (a ++ k) ts out) (again n ws) = rw lines at (unfolded g alone m n k refl) in
      go (piece_of ws (λ w a. a) k ts out o) (λ us o s. many_within f k us o s)
    where
      go : Piece k ts out ⊎ Run k ts out → ((us : List Terminal) (o : List Item) → length us < f → Run (Part n ∷ k) us o → (x : List Symbol) × (Repeated ws x × Run (x ++ k) us o)) → (x : List Symbol) × (Repeated ws x × Run (x ++ k) ts out)
      go (inr m) more_of = ([], (none, m))
      go (inl p) more_of =
          let s = split p.runs p.piece (Part n ∷ k) (part_no_then n k) refl in
          let t = s.token (among_token ws p.piece tokens p.among) in
          let q = more_of s.back s.late (omega (arith, t, l)) s.rest in
          (p.piece ++ q.0, (more p.piece q.0 p.among q.1.0, rw (append_assoc p.piece q.0 k) (rejoined s (q.0 ++ k) q.1.1)))

  -- the part spells pieces, as many as may be
  pub many : (k : List Symbol) (ts : List Terminal) (out : List Item) → Run (Part n ∷ k) ts out → (x : List Symbol) × (Repeated ws x × Run (x ++ k) ts out)
  many k ts out m = many_within (suc (length ts)) k ts out (omega arith) m

  -- pieces, as many as may be, are the part
  pub from_many : {x : List Symbol} → Repeated ws x → (k : List Symbol) → NoThen k → (ts : List Terminal) (out : List Item) → Run (x ++ k) ts out → Run (Part n ∷ k) ts out
  from_many none k free ts out m = folded g alone n k ts out (rw lines (nothing_of ws k ts out m))
  from_many (more w x a q) k free ts out m =
      let s = split m w (x ++ k) (repeated_no_then ws tokens q k free) (append_assoc w x k) in
      let r = from_many q k free s.back s.late s.rest in
      let p : Run (w ++ (Part n ∷ k)) ts out = rejoined s (Part n ∷ k) r in
      folded g alone n k ts out (rw lines (of_piece ws w k ts out a p))
