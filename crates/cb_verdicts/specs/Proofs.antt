-- Which obligation a proof is of.
use Rattle.std.specs.Prelude.{ℕ, ℤ, pos, negsuc, Bool, true, false, ◌||◌, not, List, [], ◌∷◌, map, Option, Some, None, codes, bytes_eq, if◌then◌else◌}
use Rattle.cb_lex.specs.declared.raw.proof.RawObligation.{RawObligation}
use Rattle.cb_lex.specs.declared.raw.proof.RawObligation.TheVariants as written
use Rattle.cb_lex.specs.declared.raw.proof.RawProof.{RawProof}
use Rattle.cb_lex.specs.RawCertTree.{RawCertTree}
use Rattle.cb_seq.specs.declared.sequent.Group.{Group}
use Rattle.cb_seq.specs.declared.sequent.Group.TheVariants as group
use Rattle.cb_seq.specs.declared.sequent.ObName.{ObName}
use Rattle.cb_seq.specs.declared.sequent.Obligation.{Obligation}
use Rattle.cb_trace.specs.Texts.{obligation_text}
use Rattle.cb_lex.specs.declared.raw.proof.RawNumber.{RawNumber}
use Rattle.cb_arguments.specs.Scopes.{name_of}
use Rattle.cb_verdicts.specs.declared.places.ProofFault.{ProofFault}
use Rattle.cb_verdicts.specs.declared.places.ProofFault.TheVariants as fault

-- ---- names

-- the lexer gives no negative number
abbrev pub natural : ℤ → ℕ
natural (pos n) = n
natural (negsuc n) = 0

abbrev pub count : RawNumber → ℕ
count n = natural n.value

abbrev pub group_of : List ℕ → Group
group_of w =
    if bytes_eq w (codes "INIT") then group.Init else
    (if bytes_eq w (codes "OP") then group.Op else
    (if bytes_eq w (codes "LIVE") then group.Live else
    (if bytes_eq w (codes "LOOP") then group.Loop else group.Match)))

-- the obligation that a proof names
abbrev pub obligation_of : RawObligation → ObName
obligation_of (written.OfOwner g x n) = record { group = group_of g.text; owner = name_of x; part = None; number = count n }
obligation_of (written.OfStart p x n) = record { group = group.Start; owner = name_of x; part = None; number = count n }
obligation_of (written.OfPart g x y n) = record { group = group_of g.text; owner = name_of x; part = Some (name_of y); number = count n }
obligation_of (written.OfInitialisation g x p n) = record { group = group_of g.text; owner = name_of x; part = None; number = count n }

-- names of obligations are told by how they are printed
abbrev pub key : RawProof → List ℕ
key p = obligation_text (obligation_of p.name)

abbrev pub keys_of : List Obligation → List (List ℕ)
keys_of os = map (λ (o : Obligation). obligation_text o.name) os

abbrev pub is_among : List ℕ → List (List ℕ) → Bool
is_among x [] = false
is_among x (y ∷ ys) = bytes_eq x y || is_among x ys

-- the first proof whose name is that of no obligation, or was there before; unknown is tried first
abbrev pub first_wrong : (known before : List (List ℕ)) → List RawProof → Option ProofFault
first_wrong known before [] = None
first_wrong known before (p ∷ ps) =
    if not (is_among (key p) known) then Some (fault.Unknown (obligation_of p.name)) else
    (if is_among (key p) before then Some (fault.Double (obligation_of p.name)) else first_wrong known (key p ∷ before) ps)

-- the certificate of the first proof with this name
abbrev pub proof_of : List ℕ → List RawProof → Option RawCertTree
proof_of x [] = None
proof_of x (p ∷ ps) = if bytes_eq x (key p) then Some p.cert else proof_of x ps
