-- Certificates that are made one after another.
use Rattle.std.proofs.Common.{◌≡◌, ℕ, ◌+◌, ◌<◌, ◌≤◌, List, [], ◌∷◌, ◌++◌, length, drop, get_or, refl, ap, sym, ◌∙◌}
use Rattle.std.proofs.lemmas.List.{drop_more, drop_all}
use Rattle.cb_lex.specs.RawCertTree.{RawCertTree, raw_certs}
use Rattle.cb_seq.specs.Tree.{CertTree, CertTrees, End, More, certs_of}
use Rattle.cb_arguments.specs.Scopes.{Symbols}
use Rattle.cb_verdicts.specs.Certificates.{cert_of, certs_of_each}

-- these certificates, and then the others
abbrev pub before : List CertTree → CertTrees → CertTrees
before [] cs = cs
before (d ∷ ds) cs = More d (before ds cs)

pub before_all : (ds : List CertTree) → before ds End ≡ certs_of ds
before_all [] = refl
before_all (d ∷ ds) = ap (More d) (before_all ds)

pub before_one : (ds : List CertTree) (c : CertTree) (cs : CertTrees) → before (ds ++ c ∷ []) cs ≡ before ds (More c cs)
before_one [] c cs = refl
before_one (d ∷ ds) c cs = ap (More d) (before_one ds c cs)

module _ (symbols : Symbols) (ds : List CertTree) (cs : List RawCertTree) (i : ℕ) where
  pub one_more : (c : RawCertTree) (d : CertTree) → i < length cs → c ≡ get_or cs i c → d ≡ cert_of symbols c →
      before (ds ++ d ∷ []) (certs_of_each symbols (raw_certs (drop (i + 1) cs))) ≡ before ds (certs_of_each symbols (raw_certs (drop i cs)))
  one_more c d lt e made = rw (drop_more cs i c lt, ← e, made) (before_one ds (cert_of symbols c) (certs_of_each symbols (raw_certs (drop (i + 1) cs))))

  pub all_made : length cs ≤ i → before ds (certs_of_each symbols (raw_certs (drop i cs))) ≡ certs_of_each symbols (raw_certs cs) → certs_of ds ≡ certs_of_each symbols (raw_certs cs)
  all_made le h = sym (before_all ds) ∙ rw (drop_all i cs le) at h
