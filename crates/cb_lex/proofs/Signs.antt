use Rattle.std.proofs.Common.{◌≡◌, ℕ, Bool, true, false, List, [], ◌∷◌, length, map, refl, ap, subst}
use Rattle.std.specs.Prelude.{Some, ◌&&◌}
use Rattle.std.specs.Option.{option_map}
use Rattle.std.specs.Str.{bytes_eq}
use Rattle.std.proofs.lemmas.Slice.Eq.{bytes_eq-Decides}
use Rattle.cb_lex.specs.declared.token.Sign.{Sign}
use Rattle.cb_lex.specs.declared.spelling.SignRow.{SignRow}
use Rattle.cb_lex.specs.declared.spelling.TheConstants.{SIGNS}
use Rattle.cb_lex.specs.Spelling.{marks, begins, sign_in, sign_at, measured}
use Rattle.cb_lex.specs.SignRows.{mark, row_in, row_measured}

-- the rows have the bytes of their signs
abbrev right : List SignRow → Bool
right [] = true
right (r ∷ rs) = bytes_eq (mark r) (marks r.3) && right rs

right_head : (a b : Bool) → (a && b) ≡ true → a ≡ true
right_head true b e = refl
right_head false b e = e

right_rest : (a b : Bool) → (a && b) ≡ true → b ≡ true
right_rest true b e = e
right_rest false b e = absurd (cc)

abbrev paired : Sign → List ℕ → Sign × ℕ
paired s m = (s, length m)

row_found_in : (rs : List SignRow) (bs : List ℕ) → right rs ≡ true → option_map row_measured (row_in rs bs) ≡ option_map measured (sign_in (map (λ r. r.3) rs) bs)
row_found_in [] bs e = refl
row_found_in (r ∷ rs) bs e = go (begins (mark r) bs) refl (row_found_in rs bs (right_rest (bytes_eq (mark r) (marks r.3)) (right rs) e))
  where
    same : mark r ≡ marks r.3
    same = (bytes_eq-Decides (mark r) (marks r.3)).0 (right_head (bytes_eq (mark r) (marks r.3)) (right rs) e)

    go : (t : Bool) → begins (mark r) bs ≡ t → option_map row_measured (row_in rs bs) ≡ option_map measured (sign_in (map (λ r. r.3) rs) bs) → option_map row_measured (row_in (r ∷ rs) bs) ≡ option_map measured (sign_in (map (λ r. r.3) (r ∷ rs)) bs)
    go true b more =
        let q : begins (marks r.3) bs ≡ true = subst (λ (m : List ℕ). begins m bs ≡ true) same b in
        rw (b, q) (ap (λ (m : List ℕ). Some (paired r.3 m)) same)
    go false b more =
        let q : begins (marks r.3) bs ≡ false = subst (λ (m : List ℕ). begins m bs ≡ false) same b in
        rw (b, q) more

-- the table's rows have the bytes and the order of the signs
pub row_found : (bs : List ℕ) → option_map row_measured (row_in SIGNS bs) ≡ option_map measured (sign_at bs)
unfolding sign_at
row_found bs = row_found_in SIGNS bs refl
