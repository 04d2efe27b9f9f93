-- Told bytes that grow piece by piece.
use Rattle.std.proofs.Common.{◌≡◌, ℕ, ◌+◌, ◌≤◌, List, [], ◌++◌, length, take, drop, refl, ap, sym, arith, append_assoc, IfSome, subst, Some, None, ◌∙◌}
use Rattle.std.specs.Io.KnownBytes.{Appends}
use Rattle.std.specs.declared.option.Option.{Option}
use Rattle.std.proofs.lemmas.Grind.{common_steps}
use Rattle.std.proofs.Math.Seq.{take-add}
use Rattle.cb_edge.specs.Edge.{ReadsFrom}

-- nothing was appended
pub appends_nothing : (a : Option (List ℕ)) → Appends a a []
appends_nothing None = tt
appends_nothing (Some xs) = grind (arith, common_steps)

-- two pieces in a row
pub appends_both : (a b c : Option (List ℕ)) (xs ys : List ℕ) → Appends a b xs → Appends b c ys → Appends a c (xs ++ ys)
appends_both None b c xs ys p q = tt
appends_both (Some as1) None c xs ys p q = absurd p
appends_both (Some as1) (Some bs) None xs ys p q = q
appends_both (Some as1) (Some bs) (Some cs) xs ys p q =
    let e : bs ≡ as1 ++ xs = p in
    let f : cs ≡ bs ++ ys = q in
    rw (f, e) (append_assoc as1 xs ys)

-- one more piece of a text of which i bytes were appended
pub appends_next : (a b c : Option (List ℕ)) (xs : List ℕ) (i n : ℕ) →
    Appends a b (take i xs) → Appends b c (take n (drop i xs)) → Appends a c (take (i + n) xs)
appends_next a b c xs i n p q = rw (take-add i n xs) (appends_both a b c (take i xs) (take n (drop i xs)) p q)

-- one more read of a text of which `got` was read
pub reads_next : (first now : Option (List ℕ)) (got buf new : List ℕ) (at n : ℕ) → now ≡ first → at ≡ length got →
    IfSome first (λ bs. got ≡ take (length got) bs) → IfSome now (λ bs. ReadsFrom bs at n buf) →
    n ≤ length buf → new ≡ got ++ take n buf → IfSome first (λ bs. new ≡ take (length new) bs)
reads_next None now got buf new at n same here so_far read fits grown = tt
reads_next (Some bs) now got buf new at n same here so_far read fits grown =
    let P : Option (List ℕ) → Type 0 = λ held. IfSome held (λ bs. ReadsFrom bs at n buf) in
    let piece : ReadsFrom bs at n buf = subst P same read in
    let size : length new ≡ length got + n = grind (arith, common_steps) in
    let all : got ++ take n buf ≡ take (length got + n) bs = rw (take-add (length got) n bs, ← so_far, piece.bytes, here) refl in
    grown ∙ all ∙ ap (λ k. take k bs) (sym size)
