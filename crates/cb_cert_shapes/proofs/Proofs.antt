-- Proofs whose items go on are full.
use Rattle.std.proofs.Common.{◌≡◌, ℕ, List, [], ◌∷◌, ◌++◌, map, refl, subst}
use Rattle.std.specs.List.{flat_map}
use Rattle.cb_lex.specs.declared.raw.name.RawName.{RawName}
use Rattle.cb_lex.specs.declared.raw.proof.RawObligation.{RawObligation}
use Rattle.cb_lex.specs.declared.raw.proof.RawObligation.TheVariants as obligation
use Rattle.cb_lex.specs.declared.raw.proof.RawProof.{RawProof}
use Rattle.cb_grammar.specs.declared.table.TheConstants.{GRAMMAR}
use Rattle.cb_grammar.specs.declared.actions.TheConstants.{APPEND_PROOF}
use Rattle.cb_grammar.specs.Classes.{words}
use Rattle.cb_grammar.specs.Misreadings.{language}
use Rattle.cb_grammar.specs.Signatures.{proofs_kind, obligation_kind}
use Rattle.cb_amn_parse.specs.Lexemes.{Lexeme, Did, lexemes}
use Rattle.cb_amn_parse.specs.Proofs.{obligation_out, node_out, proof_entry, proofs_out}
use Rattle.cb_shapes.proofs.Finer.{turned}
use Rattle.cb_cert_shapes.specs.Full.{IsWordOf, IsFullObligation, IsFull, AreFull}
use Rattle.cb_cert_shapes.specs.Laws.{ProofsAreFull}
use Rattle.cb_cert_shapes.proofs.Marked.{spelled_marked}
use Rattle.cb_cert_shapes.proofs.Classes.{has_tokens}
use Rattle.cb_cert_shapes.proofs.Table.{word_kind, group_effects, owner_words, part_words, initialisation_words, spelled_follows}
use Rattle.cb_cert_shapes.proofs.Goes.{On, Goes, IsKind, only, grouped, items_go, goes_past}
use Rattle.cb_cert_shapes.proofs.Words.{word_at, word_of, group_turned}
use Rattle.cb_cert_shapes.proofs.Nodes.{full_cert}

-- ---- names of obligations

group_ends : (g : RawName) (is : List ℕ) (ws : List (List ℕ)) (w : ℕ) (taken js k : List ℕ) (more : List Lexeme) → map word_at is ≡ ws → IsKind g w → On (λ m. Goes more m) (turned (group_effects taken is) (js ++ w ∷ []) k) →
    IsWordOf ws g × Goes more (obligation_kind ∷ k)
group_ends g is ws w taken js k more e i h = let t = group_turned (λ m. Goes more m) taken is js w k h in (subst (λ (ws : List (List ℕ)). IsWordOf ws g) e (word_of is g w i t.0), t.2)

full_obligation : (o : RawObligation) (more : List Lexeme) (k : List ℕ) → Goes (obligation_out o ++ more) k → IsFullObligation o × Goes more (obligation_kind ∷ k)
unfolding words
full_obligation (obligation.OfOwner g o n) more k (w, is, (v, _, (u, h))) = group_ends g owner_words _ w (word_kind ∷ word_kind ∷ []) (u ∷ v ∷ []) k more refl is h
full_obligation (obligation.OfStart p o n) more k (w, (v, _, (u, h))) = (tt, only _ (λ m. Goes more m) (obligation_kind ∷ k) h)
full_obligation (obligation.OfPart g o x n) more k (w, is, (v, _, (u, _, (t, h)))) = group_ends g part_words _ w (word_kind ∷ word_kind ∷ word_kind ∷ []) (t ∷ u ∷ v ∷ []) k more refl is h
full_obligation (obligation.OfInitialisation g o p n) more k (w, is, (v, _, (u, (t, h)))) = group_ends g initialisation_words _ w (word_kind ∷ word_kind ∷ word_kind ∷ []) (t ∷ u ∷ v ∷ []) k more refl is h

-- ---- proofs

full_proof : (p : RawProof) (more : List Lexeme) (k : List ℕ) → Goes (proof_entry p ++ more) (proofs_kind ∷ k) → IsFull p × Goes more (proofs_kind ∷ k)
full_proof p more k h =
    let end : List Lexeme = Did APPEND_PROOF ∷ more in
    let name : List Lexeme = obligation_out p.name in
    let g = grouped name (node_out p.cert) end (proofs_kind ∷ k) (grouped (name ++ node_out p.cert) (Did APPEND_PROOF ∷ []) more (proofs_kind ∷ k) h) in
    let a = full_obligation p.name (node_out p.cert ++ end) (proofs_kind ∷ k) g in
    let b = full_cert p.cert end (obligation_kind ∷ proofs_kind ∷ k) a.1 in
    (record { name = a.0; cert = b.0 }, b.1)

full_proofs : (ps : List RawProof) (more : List Lexeme) (k : List ℕ) → Goes (flat_map proof_entry ps ++ more) (proofs_kind ∷ k) → AreFull ps
full_proofs [] more k h = tt
full_proofs (p ∷ ps) more k h =
    let a = full_proof p (flat_map proof_entry ps ++ more) k (grouped (proof_entry p) (flat_map proof_entry ps) more (proofs_kind ∷ k) h) in
    (a.0, full_proofs ps more k a.1)

pub proofs_full : ProofsAreFull
unfolding language
proofs_full p depth opened ts taken front rest ps q =
    let m = spelled_marked GRAMMAR q.read.whole.spelled in
    let f = spelled_follows p _ m.0 m.1 in
    let all : Goes (lexemes ts q.items) [] = items_go ts m.0 q.items [] f.0 m.2 (has_tokens opened ts taken q.read.whole.spelled) f.1 in
    let told : Goes ((front ++ proofs_out ps) ++ rest) [] = subst (λ (ls : List Lexeme). Goes ls []) q.told all in
    let past = goes_past front (proofs_out ps ++ rest) [] (grouped front (proofs_out ps) rest [] told) in
    full_proofs ps rest past.0 past.1
