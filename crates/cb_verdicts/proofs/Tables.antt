-- Names in tables, and the proofs that they find.
use Rattle.std.proofs.Common.{◌≡◌, ℕ, zero, suc, ◌+◌, ◌<◌, ◌≤◌, Bool, true, false, ◌||◌, not, List, [], ◌∷◌, ◌++◌, length, drop, get_or, Option, Some, None, is_some, bytes_eq, refl, sym, ap, ◌∙◌, true≢false, if◌then◌else◌, arith}
use Rattle.std.specs.Prelude.{slice_get, option_map}
use Rattle.std.proofs.lemmas.List.{drop_more, drop_all}
use Rattle.std.proofs.lemmas.Slice.Eq.{bytes_eq-Decides}
use Rattle.cb_lex.specs.declared.raw.proof.RawProof.{RawProof}
use Rattle.cb_lex.specs.RawCertTree.{RawCertTree}
use Rattle.cb_seq.specs.declared.sequent.Obligation.{Obligation}
use Rattle.cb_forms.specs.Find.{found, inside}
use Rattle.cb_trace.specs.Texts.{obligation_text}
use Rattle.cb_verdicts.specs.declared.places.ProofFault.{ProofFault}
use Rattle.cb_verdicts.specs.declared.places.ProofFault.TheVariants as fault
use Rattle.cb_verdicts.specs.Proofs.{obligation_of, key, keys_of, is_among, first_wrong, proof_of}
use Rattle.cb_verdicts.specs.Given.{HasNames, cert_at, IsRight, IsWrong, Refuses}

abbrev pub or_else : {A : Type 0} → Option A → Option A → Option A
or_else None b = b
or_else (Some a) b = Some a

module _ {M : Type 0} where
  -- what a name stands for with one entry more
  found_more : (y x : List ℕ) (m : M) (w : List (List ℕ × M)) → found y (w ++ (x, m) ∷ []) ≡ or_else (found y w) (if bytes_eq y x then Some m else None)
  found_more y x m [] = refl
  found_more y x m (e ∷ w) = by (bytes_eq y e.0) (found_more y x m w)
    where
      by : (b : Bool) → found y (w ++ (x, m) ∷ []) ≡ or_else (found y w) (if bytes_eq y x then Some m else None) →
          (if b then Some e.1 else found y (w ++ (x, m) ∷ [])) ≡ or_else (if b then Some e.1 else found y w) (if bytes_eq y x then Some m else None)
      by true r = refl
      by false r = r

  pub some_more : (y x : List ℕ) (m : M) (w : List (List ℕ × M)) → is_some (found y (inside x m w)) ≡ (bytes_eq y x || is_some (found y w))
  some_more y x m w = by (is_some (found x w)) refl (bytes_eq y x) refl
    where
      either : (o : Option M) → is_some (or_else o (Some m)) ≡ true
      either None = refl
      either (Some a) = refl

      neither : (o : Option M) → is_some (or_else o None) ≡ is_some o
      neither None = refl
      neither (Some a) = refl

      by : (a : Bool) → is_some (found x w) ≡ a → (b : Bool) → bytes_eq y x ≡ b → is_some (found y (inside x m w)) ≡ (bytes_eq y x || is_some (found y w))
      by true p true q = rw (p, q, (bytes_eq-Decides y x).0 q) p
      by true p false q = rw (p, q) refl
      by false p true q = rw p (rw (found_more y x m w) (rw q (either (found y w))))
      by false p false q = rw p (rw (found_more y x m w) (rw q (neither (found y w))))

  pub has_more : (x : List ℕ) (m : M) (w : List (List ℕ × M)) (names : List (List ℕ)) → HasNames w names → HasNames (inside x m w) (x ∷ names)
  has_more x m w names h = λ y. some_more y x m w ∙ ap (λ b. bytes_eq y x || b) (h y)

-- ---- names of obligations

-- the names in a table, and those that are to come
abbrev pub WillHave : {M : Type 0} → List (List ℕ × M) → List (List ℕ) → List (List ℕ) → Type 0
WillHave table rest names = (x : List ℕ) → (is_some (found x table) || is_among x rest) ≡ is_among x names

regroup : (a b c : Bool) → ((a || b) || c) ≡ (b || (a || c))
regroup true true c = refl
regroup true false c = refl
regroup false true c = refl
regroup false false c = refl

pub will_have_more : {M : Type 0} (table : List (List ℕ × M)) (m : M) (os : List Obligation) (i : ℕ) (o : Obligation) (names : List (List ℕ)) → i < length os →
    WillHave table (keys_of (drop i os)) names → o ≡ get_or os i o → WillHave (inside (obligation_text o.name) m table) (keys_of (drop (i + 1) os)) names
will_have_more table m os i o names lt h e = λ x.
    let d : drop i os ≡ o ∷ drop (i + 1) os = rw (drop_more os i o lt, ← e) refl in
    let w = rw d at (h x) in
    rw (some_more x (obligation_text o.name) m table) (regroup (bytes_eq x (obligation_text o.name)) (is_some (found x table)) (is_among x (keys_of (drop (i + 1) os))) ∙ w)

or_false : (b : Bool) → (b || false) ≡ b
or_false true = refl
or_false false = refl

pub has_all : {M : Type 0} (table : List (List ℕ × M)) (os : List Obligation) (i : ℕ) (names : List (List ℕ)) → length os ≤ i →
    WillHave table (keys_of (drop i os)) names → HasNames table names
has_all table os i names le h = λ x. sym (or_false (is_some (found x table))) ∙ rw (drop_all i os le) at (h x)

-- ---- proofs

-- the first wrong proof is not among the first i, whose names the table has
abbrev pub SoFar : List (List ℕ) → List RawProof → ℕ → List (List ℕ × ℕ) → Type 0
SoFar known ps i table = (before : List (List ℕ)) × (first_wrong known [] ps ≡ first_wrong known before (drop i ps)) × HasNames table before

-- what the table finds, or else is found in the proofs from the i-th on
abbrev pub FindsFrom : List RawProof → ℕ → List (List ℕ × ℕ) → Type 0
FindsFrom ps i table = (x : List ℕ) → or_else (cert_at ps (found x table)) (proof_of x (drop i ps)) ≡ proof_of x ps

module _ (ps : List RawProof) (i : ℕ) (p : RawProof) (lt : i < length ps) (e : p ≡ get_or ps i p) (table : List (List ℕ × ℕ)) where
  here : drop i ps ≡ p ∷ drop (i + 1) ps
  here = rw (drop_more ps i p lt, ← e) refl

  pub wrong_here : (known : List (List ℕ)) {M : Type 0} (names : List (List ℕ × M)) → HasNames names known → SoFar known ps i table → (f : ProofFault) → IsWrong names table p f → Refuses known ps f
  wrong_here known names has s (fault.Unknown n) w =
      let h : is_among (key p) known ≡ false = sym (has (key p)) ∙ w.0 in rw w.1 (s.1 ∙ rw (here, h) refl)
  wrong_here known names has s (fault.Double n) w =
      let h : is_among (key p) known ≡ true = sym (has (key p)) ∙ w.0 in
      let b : is_among (key p) s.0 ≡ true = sym (s.2 (key p)) ∙ w.1 in rw w.2 (s.1 ∙ rw (here, h, b) refl)
  wrong_here known names has s fault.Memory w = tt

  pub right_here : (known : List (List ℕ)) {M : Type 0} (names : List (List ℕ × M)) → HasNames names known → SoFar known ps i table → IsRight names table p → SoFar known ps (i + 1) (inside (key p) i table)
  right_here known names has s r =
      let h : is_among (key p) known ≡ true = sym (has (key p)) ∙ r.0 in
      let b : is_among (key p) s.0 ≡ false = sym (s.2 (key p)) ∙ r.1 in
      (key p ∷ s.0, s.1 ∙ rw (here, h, b) refl, has_more (key p) i table s.0 s.2)

  is_here : slice_get ps i ≡ Some p
  is_here = at ps i lt e
    where
      at : (ps : List RawProof) (i : ℕ) → i < length ps → p ≡ get_or ps i p → slice_get ps i ≡ Some p
      at [] i lt e = absurd (omega (arith, lt))
      at (q ∷ ps) zero lt e = ap Some (sym e)
      at (q ∷ ps) (suc i) lt e = at ps i (omega (arith, lt)) e

  pub finds_here : is_some (found (key p) table) ≡ false → FindsFrom ps i table → FindsFrom ps (i + 1) (inside (key p) i table)
  finds_here t h = λ x. by x (bytes_eq x (key p)) refl (found x table) refl
    where
      new : inside (key p) i table ≡ table ++ (key p, i) ∷ []
      new = rw t refl

      by : (x : List ℕ) (b : Bool) → bytes_eq x (key p) ≡ b → (o : Option ℕ) → found x table ≡ o →
          or_else (cert_at ps (found x (inside (key p) i table))) (proof_of x (drop (i + 1) ps)) ≡ proof_of x ps
      by x true q (Some j) f = absurd (true≢false (sym (ap is_some f) ∙ ap (λ y. is_some (found y table)) ((bytes_eq-Decides x (key p)).0 q) ∙ t))
      by x true q None f = rw (new, found_more x (key p) i table) (rw (f, q, is_here) (rw (f, here, q) at (h x)))
      by x false q (Some j) f = rw (new, found_more x (key p) i table) (rw f (rw (f, here, q) at (h x)))
      by x false q None f = rw (new, found_more x (key p) i table) (rw (f, q) (rw (f, here, q) at (h x)))

pub finds_all : (ps : List RawProof) (i : ℕ) (table : List (List ℕ × ℕ)) → length ps ≤ i → FindsFrom ps i table → (x : List ℕ) → cert_at ps (found x table) ≡ proof_of x ps
finds_all ps i table le h = λ x. sym (or_none (cert_at ps (found x table))) ∙ rw (drop_all i ps le) at (h x)
  where
    or_none : {A : Type 0} (o : Option A) → or_else o None ≡ o
    or_none None = refl
    or_none (Some a) = refl

pub none_wrong : (known : List (List ℕ)) (ps : List RawProof) (i : ℕ) (table : List (List ℕ × ℕ)) → length ps ≤ i → SoFar known ps i table → first_wrong known [] ps ≡ None
none_wrong known ps i table le s = s.1 ∙ rw (drop_all i ps le) refl
