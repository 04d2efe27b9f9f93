-- Tables of names, as the judging keeps them, and what it refuses.
use Rattle.std.specs.Prelude.{ℕ, ◌≡◌, Bool, true, false, List, [], Option, Some, None, is_some, drop, option_map, slice_get, ⊤}
use Rattle.cb_lex.specs.declared.raw.proof.RawProof.{RawProof}
use Rattle.cb_lex.specs.RawCertTree.{RawCertTree}
use Rattle.cb_forms.specs.Find.{found}
use Rattle.cb_verdicts.specs.declared.places.ProofFault.{ProofFault}
use Rattle.cb_verdicts.specs.declared.places.ProofFault.TheVariants as fault
use Rattle.cb_verdicts.specs.Proofs.{obligation_of, key, is_among, first_wrong, proof_of}

-- the table has these names and no other
abbrev pub HasNames : {M : Type 0} → List (List ℕ × M) → List (List ℕ) → Type 0
HasNames table names = (x : List ℕ) → is_some (found x table) ≡ is_among x names

-- the certificate of the proof at the place, where there is one
abbrev pub cert_at : List RawProof → Option ℕ → Option RawCertTree
cert_at ps None = None
cert_at ps (Some i) = option_map (λ (p : RawProof). p.cert) (slice_get ps i)

-- the table tells the place of the first proof of each name
abbrev pub Finds : List (List ℕ × ℕ) → List RawProof → Type 0
Finds table ps = (x : List ℕ) → cert_at ps (found x table) ≡ proof_of x ps

-- the proof is of an obligation, and of none that the table of earlier proofs has
abbrev pub IsRight : {M : Type 0} → List (List ℕ × M) → List (List ℕ × ℕ) → RawProof → Type 0
IsRight known earlier p = (is_some (found (key p) known) ≡ true) × (is_some (found (key p) earlier) ≡ false)

-- the fault is that of the proof; want of memory has no cause
abbrev pub IsWrong : {M : Type 0} → List (List ℕ × M) → List (List ℕ × ℕ) → RawProof → ProofFault → Type 0
IsWrong known earlier p (fault.Unknown n) = (is_some (found (key p) known) ≡ false) × (n ≡ obligation_of p.name)
IsWrong known earlier p (fault.Double n) =
    (is_some (found (key p) known) ≡ true) × (is_some (found (key p) earlier) ≡ true) × (n ≡ obligation_of p.name)
IsWrong known earlier p fault.Memory = ⊤

-- the first wrong proof is told; want of memory has no cause
abbrev pub Refuses : List (List ℕ) → List RawProof → ProofFault → Type 0
Refuses known ps fault.Memory = ⊤
Refuses known ps f = first_wrong known [] ps ≡ Some f
