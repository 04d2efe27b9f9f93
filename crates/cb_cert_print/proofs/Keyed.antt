-- Pieces that begin with a word by which the grammar finds the line.
use Rattle.std.proofs.Common.{◌≡◌, ℕ, ◌+◌, true, List, [], ◌∷◌, ◌++◌, refl, ap, sym, ◌∙◌, subst, inl, inr}
use Rattle.std.specs.Prelude.{Some}
use Rattle.std.proofs.lemmas.List.{append-nil}
use Rattle.cb_lex.specs.declared.token.Sort.{Sort}
use Rattle.cb_lex.specs.declared.token.Sort.TheVariants as sort
use Rattle.cb_lex.specs.declared.raw.name.RawName.{RawName}
use Rattle.cb_engine.specs.declared.Symbol.{Symbol}
use Rattle.cb_engine.specs.declared.Symbol.TheVariants.{Part}
use Rattle.cb_engine.specs.Rules.{Spells}
use Rattle.cb_engine.specs.Rules.Runs.{keys}
use Rattle.cb_engine.specs.Lines.{alternatives, OneOf, Among}
use Rattle.cb_engine.specs.Tables.{keyed_in}
use Rattle.cb_grammar.specs.declared.table.TheConstants.{GRAMMAR}
use Rattle.cb_grammar.specs.Terminals.{class_of, word_class}
use Rattle.cb_grammar.specs.Misreadings.{language}
use Rattle.cb_grammar.specs.Written.{LinesArePlain}
use Rattle.cb_engine.specs.declared.Terminal.{Terminal}
use Rattle.cb_engine.specs.declared.Item.{Item}
use Rattle.cb_amn_print.specs.Tokens.{name_sort}
use Rattle.cb_amn_print.proofs.Fronts.{IsRead}
use Rattle.cb_amn_print.proofs.Scripts.{Piece, Kept, terms, items}
use Rattle.cb_amn_print.proofs.Lines.{Good}
use Rattle.cb_amn_print.proofs.MachinePieces.{name}
use Rattle.cb_amn_print.proofs.Spelled.{Fine}
use Rattle.cb_amn_parse.specs.Lexemes.{Named}
use Rattle.cb_cert_shapes.specs.Full.{IsOneOf, IsWordOf}

-- behind a PROOF, where opened names may stand
abbrev pub G : List Symbol → List Piece → Type 0
G k p = Good true k p

-- by the line that the token's class has
pub by_key : (n : ℕ) (body : List Symbol) (s : Sort) (p : List Piece) → keyed_in GRAMMAR n (class_of true s) ≡ Some (true, body) → IsRead s → G body p → G (Part n ∷ []) (Kept s ∷ p)
unfolding language
by_key n body s p e r g = record {
  spelled = record { runs = λ i. keys true body e (subst (λ (y : List Symbol). Spells language y (terms true (i + 1) p) (items true (i + 1) p)) (sym (append-nil body)) (g.spelled.runs (i + 1))) };
  fit = ((r, refl), g.fit);
}

-- each of the words has this line
abbrev pub AllKeyed : ℕ → List Symbol → List (List ℕ) → Type 0
AllKeyed n body [] = Unit {0}
AllKeyed n body (w ∷ ws) = (keyed_in GRAMMAR n (word_class w) ≡ Some (true, body)) × AllKeyed n body ws

keyed_of : (n : ℕ) (body : List Symbol) (ws : List (List ℕ)) (text : List ℕ) → AllKeyed n body ws → IsOneOf ws text → keyed_in GRAMMAR n (word_class text) ≡ Some (true, body)
keyed_of n body [] text a m = absurd m
keyed_of n body (w ∷ ws) text a (inl e) = ap (λ (t : List ℕ). keyed_in GRAMMAR n (word_class t)) e ∙ a.0
keyed_of n body (w ∷ ws) text a (inr m) = keyed_of n body ws text a.1 m

plain_name : (x : RawName) → x.number ≡ 0 → name_sort x ≡ sort.Word x.text
plain_name x e = rw e refl

-- by a word that the name is
pub by_word : (n : ℕ) (body : List Symbol) (ws : List (List ℕ)) (x : RawName) (p : List Piece) → AllKeyed n body ws → IsWordOf ws x → Fine true (Named x) → G body p → G (Part n ∷ []) (name x ∷ p)
by_word n body ws x p a m f g =
    let w : name_sort x ≡ sort.Word x.text = plain_name x m.1 in
    let r : IsRead (sort.Word x.text) = subst IsRead w f.0 in
    subst (λ (s : Sort). G (Part n ∷ []) (Kept s ∷ p)) (sym w) (by_key n body (sort.Word x.text) p (keyed_of n body ws x.text a m.0) r g)

one_of_on : (k : List Symbol) (ls : List (List Symbol)) (w : List Symbol) (ts : List Terminal) (out : List Item) → Among ls w → Spells language (w ++ k) ts out → OneOf (λ a. Spells language (a ++ k) ts out) ls
one_of_on k [] w ts out a m = absurd a
one_of_on k (l ∷ ls) w ts out (inl q) m = inl (rw q at m)
one_of_on k (l ∷ ls) w ts out (inr a) m = inr (one_of_on k ls w ts out a m)

-- by one of a part's lines in the table, with more behind it
pub by_table_on : LinesArePlain → (n : ℕ) (ls : List (List Symbol)) → alternatives GRAMMAR n ≡ ls → (k w : List Symbol) (p : List Piece) → Among ls w → G (w ++ k) p → G (Part n ∷ k) p
by_table_on law n ls e k w p a g = record {
  spelled = record { runs = λ i. (law n k (terms true i p) (items true i p)).1 (subst (λ (l : List (List Symbol)). OneOf (λ b. Spells language (b ++ k) (terms true i p) (items true i p)) l) (sym e) (one_of_on k ls w (terms true i p) (items true i p) a (g.spelled.runs i))) };
  fit = g.fit;
}
