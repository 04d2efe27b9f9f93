use Rattle.std.proofs.Common.{◌≡◌, ℕ, ◌≤◌, Bool, true, false, List, [], ◌∷◌, length, refl, sym, subst, inl, inr, arith}
use Rattle.std.specs.Prelude.{Some, None, ◌&&◌, ◌⊎◌, nat_le}
use Rattle.std.specs.Str.{bytes_eq}
use Rattle.std.proofs.lemmas.Slice.Eq.{bytes_eq-Decides}
use Rattle.cb_lex.specs.declared.token.Keyword.{Keyword}
use Rattle.cb_lex.specs.declared.token.Keyword.TheVariants as keyword
use Rattle.cb_lex.specs.declared.token.Sign.{Sign}
use Rattle.cb_lex.specs.declared.token.Sign.TheVariants as sign
use Rattle.cb_lex.specs.Spelling.{letters, spelled, keywords, keyword_of, marks, signs, begins, sign_in, sign_at}

pub keyword_read : (k : Keyword) → keyword_of (letters k) ≡ Some k
unfolding keyword_of
keyword_read keyword.Machine = refl
keyword_read _ = refl

spelled_letters : (ks : List Keyword) (word : List ℕ) (k : Keyword) → spelled ks word ≡ Some k → word ≡ letters k
spelled_letters [] word k e = absurd (cc)
spelled_letters (j ∷ ks) word k e = go (bytes_eq (letters j) word) refl e (spelled_letters ks word k)
  where
    go : (t : Bool) → bytes_eq (letters j) word ≡ t → spelled (j ∷ ks) word ≡ Some k → (spelled ks word ≡ Some k → word ≡ letters k) → word ≡ letters k
    go true q e more = let h : Some j ≡ Some k = rw q at e in let same : j ≡ k = cc in subst (λ (i : Keyword). word ≡ letters i) same (sym ((bytes_eq-Decides (letters j) word).0 q))
    go false q e more = more (rw q at e)

pub keyword_letters : (word : List ℕ) (k : Keyword) → keyword_of word ≡ Some k → word ≡ letters k
unfolding keyword_of
keyword_letters word k e = spelled_letters keywords word k e

pub sign_read : (s : Sign) → sign_at (marks s) ≡ Some s
unfolding sign_at
sign_read sign.Assign = refl
sign_read _ = refl

abbrev Has : Sign → List Sign → Type 0
Has t [] = ⊥
Has t (s ∷ ss) = (t ≡ s) ⊎ Has t ss

-- what is found is in the list, and at the front
found_has : (ss : List Sign) (bs : List ℕ) (s : Sign) → sign_in ss bs ≡ Some s → Has s ss × (begins (marks s) bs ≡ true)
found_has [] bs s e = absurd (cc)
found_has (r ∷ ss) bs s e = go (begins (marks r) bs) refl e (found_has ss bs s)
  where
    go : (t : Bool) → begins (marks r) bs ≡ t → sign_in (r ∷ ss) bs ≡ Some s → (sign_in ss bs ≡ Some s → Has s ss × (begins (marks s) bs ≡ true)) → Has s (r ∷ ss) × (begins (marks s) bs ≡ true)
    go true q e more = let h : Some r ≡ Some s = rw q at e in let same : r ≡ s = cc in (inl (sym same), subst (λ (i : Sign). begins (marks i) bs ≡ true) same q)
    go false q e more = let h = more (rw q at e) in (inr h.0, h.1)

pub sign_begins : (bs : List ℕ) (s : Sign) → sign_at bs ≡ Some s → begins (marks s) bs ≡ true
unfolding sign_at
sign_begins bs s e = (found_has signs bs s e).1

has_sign : (t : Sign) → Has t signs
unfolding sign_at
has_sign t = (found_has signs (marks t) t (sign_read t)).0

-- none of a list is longer
abbrev none_longer : Sign → List Sign → Bool
none_longer s [] = true
none_longer s (t ∷ ts) = nat_le (length (marks t)) (length (marks s)) && none_longer s ts

abbrev falling : List Sign → Bool
falling [] = true
falling (s ∷ ss) = none_longer s ss && falling ss

both : (a b : Bool) → (a && b) ≡ true → (a ≡ true) × (b ≡ true)
both true b e = (refl, e)
both false b e = absurd (cc)

not_longer : (s t : Sign) (ts : List Sign) → none_longer s ts ≡ true → Has t ts → length (marks t) ≤ length (marks s)
not_longer s t [] e h = absurd h
not_longer s t (r ∷ ts) e (inl same) = let q = (both (nat_le (length (marks r)) (length (marks s))) (none_longer s ts) e).0 in let h : length (marks r) ≤ length (marks s) = grind (arith, q) in subst (λ (i : Sign). length (marks i) ≤ length (marks s)) (sym same) h
not_longer s t (r ∷ ts) e (inr h) = not_longer s t ts (both (nat_le (length (marks r)) (length (marks s))) (none_longer s ts) e).1 h

longest_in : (ss : List Sign) (bs : List ℕ) (s : Sign) → falling ss ≡ true → sign_in ss bs ≡ Some s → (t : Sign) → Has t ss → begins (marks t) bs ≡ true → length (marks t) ≤ length (marks s)
longest_in [] bs s f e t h b = absurd h
longest_in (r ∷ ss) bs s f e t h b = go (begins (marks r) bs) refl e h (longest_in ss bs s (both (none_longer r ss) (falling ss) f).1)
  where
    go : (u : Bool) → begins (marks r) bs ≡ u → sign_in (r ∷ ss) bs ≡ Some s → Has t (r ∷ ss) → (sign_in ss bs ≡ Some s → (t : Sign) → Has t ss → begins (marks t) bs ≡ true → length (marks t) ≤ length (marks s)) → length (marks t) ≤ length (marks s)
    go true q e (inl same) more = let g : Some r ≡ Some s = rw q at e in let here : t ≡ s = cc in subst (λ (i : Sign). length (marks t) ≤ length (marks i)) here (omega arith)
    go true q e (inr h) more = let g : Some r ≡ Some s = rw q at e in let here : r ≡ s = cc in subst (λ (i : Sign). length (marks t) ≤ length (marks i)) here (not_longer r t ss (both (none_longer r ss) (falling ss) f).0 h)
    go false q e (inl same) more = let g : begins (marks r) bs ≡ true = subst (λ (i : Sign). begins (marks i) bs ≡ true) same b in absurd (cc)
    go false q e (inr h) more = more (rw q at e) t h b

none_in : (ss : List Sign) (bs : List ℕ) → sign_in ss bs ≡ None → (t : Sign) → Has t ss → begins (marks t) bs ≡ false
none_in [] bs e t h = absurd h
none_in (r ∷ ss) bs e t h = go (begins (marks r) bs) refl e h (none_in ss bs)
  where
    go : (u : Bool) → begins (marks r) bs ≡ u → sign_in (r ∷ ss) bs ≡ None → Has t (r ∷ ss) → (sign_in ss bs ≡ None → (t : Sign) → Has t ss → begins (marks t) bs ≡ false) → begins (marks t) bs ≡ false
    go true q e h more = let g : Some r ≡ None = rw q at e in absurd (cc)
    go false q e (inl same) more = subst (λ (i : Sign). begins (marks i) bs ≡ false) (sym same) q
    go false q e (inr h) more = more (rw q at e) t h

pub sign_longest : (bs : List ℕ) (s : Sign) → sign_at bs ≡ Some s → (t : Sign) → begins (marks t) bs ≡ true → length (marks t) ≤ length (marks s)
unfolding sign_at
sign_longest bs s e t b = longest_in signs bs s refl e t (has_sign t) b

pub sign_none : (bs : List ℕ) → sign_at bs ≡ None → (t : Sign) → begins (marks t) bs ≡ false
unfolding sign_at
sign_none bs e t = none_in signs bs e t (has_sign t)
