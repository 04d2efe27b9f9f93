-- What the names of a text stand for, and faults of their declarations.
use Rattle.std.specs.Prelude.{ℕ, ◌+◌, ◌-◌, ◌^◌, ℤ, pos, nat_lt, Bool, true, false, List, [], ◌∷◌, length, Option, Some, None, is_none, if◌then◌else◌}
use Rattle.cb_lex.specs.declared.token.Place.{Place}
use Rattle.cb_lex.specs.declared.raw.domain.RawLiteral.{RawLiteral}
use Rattle.cb_lex.specs.declared.raw.domain.RawLiteral.TheVariants as literal
use Rattle.cb_lex.specs.declared.raw.name.RawName.{RawName}
use Rattle.cb_lex.specs.declared.raw.text.RawMachine.{RawMachine}
use Rattle.cb_lex.specs.declared.raw.text.RawProperty.{RawProperty}
use Rattle.cb_lex.specs.declared.raw.text.RawSet.{RawSet}
use Rattle.cb_lex.specs.declared.raw.text.RawState.{RawState}
use Rattle.cb_lex.specs.declared.raw.sign.RawRelation.{RawRelation}
use Rattle.cb_lex.specs.RawTermTree.{RawTermTree, Name, RawFormulaTree, And, Relation}
use Rattle.cb_forms.specs.Faults.{Faults, Nowhere, Both, fault_if}
use Rattle.cb_forms.specs.Find.{found, inside, beside, with_number}
use Rattle.cb_judge.specs.declared.domain.Choice.{Choice}
use Rattle.cb_judge.specs.declared.names.Entry.{Entry}
use Rattle.cb_judge.specs.declared.names.Meaning.{Meaning}
use Rattle.cb_judge.specs.declared.names.Meaning.TheVariants as meaning
use Rattle.cb_judge.specs.declared.names.View.{View}
use Rattle.cb_judge.specs.Meanings.{Names, double_fault}
use Rattle.cb_judge.specs.Choices.{maxint, signed_of, given_by, form_or_nought, lacks, has_big}
use Rattle.cb_judge.specs.Judged.{entry}
use Rattle.cb_types.specs.declared.declare.Sort.{Sort}
use Rattle.cb_types.specs.declared.declare.Sort.TheVariants as sort
use Rattle.std.specs.Prelude.{neg_ℤ}

-- the numbers of constants, and the domains of names
abbrev pub Numbers : Type 0
Numbers = List (List ℕ × ℤ)

abbrev pub Domains : Type 0
Domains = List (List ℕ × Choice)

-- things are counted in 32 bits, which is enough for each text
abbrev pub next : ℕ → ℕ
next k = if nat_lt k (2 ^ 32 - 1) then k + 1 else k

abbrev pub or_zero : Option ℤ → ℤ
or_zero None = pos 0
or_zero (Some n) = n

abbrev pub literal_number : RawLiteral → ℤ
literal_number (literal.Number minus n p) = or_zero (signed_of minus (Some n))
literal_number (literal.MaxInt p) = maxint
literal_number (literal.MinInt p) = neg_ℤ maxint

-- the number of each constant, by its first property
abbrev pub numbers_from : Numbers → List RawProperty → Numbers
numbers_from ns [] = ns
numbers_from ns (p ∷ ps) = numbers_from (inside p.name.text (literal_number p.literal) ns) ps

abbrev pub with_choice : List ℕ → Option Choice → Domains → Domains
with_choice x None ds = ds
with_choice x (Some c) ds = inside x c ds

abbrev pub with_conjunct : View → Names → RawRelation → RawTermTree → RawTermTree → Domains → Domains
with_conjunct v names r (Name x) b ds = with_choice x.text (given_by v names r b) ds
with_conjunct v names r a b ds = ds

-- the domain of each name, by its first typing conjunct in the formula's top conjunction
abbrev pub domains_from : View → Names → Domains → RawFormulaTree → Domains
domains_from v names ds (And f g) = domains_from v names (domains_from v names ds f) g
domains_from v names ds (Relation r p a b) = with_conjunct v names r a b ds
domains_from v names ds f = ds

abbrev pub domains_of : View → Names → Option RawFormulaTree → Domains
domains_of v names None = []
domains_of v names (Some f) = domains_from v names [] f

-- what the name at this place of a list stands for
abbrev pub meaning_of : Sort → Numbers → Domains → ℕ → RawName → Meaning
meaning_of (sort.Element owner set) ns ds i x = meaning.Element owner set i
meaning_of (sort.Constant owner) ns ds i x = meaning.Constant owner (or_zero (found x.text ns))
meaning_of (sort.Variable owner) ns ds i x = meaning.Variable owner (form_or_nought (found x.text ds))
meaning_of sort.Parameter ns ds i x = meaning.Local (form_or_nought (found x.text ds))
meaning_of sort.Result ns ds i x = meaning.Result

abbrev pub domain_faults : Option Choice → Place → Faults
domain_faults c p = Both (fault_if (lacks c) 3 p) (fault_if (has_big c) 12 p)

-- a constant without a property, a variable or parameter without a domain or with one of too big sets
abbrev pub sort_fault : Sort → Numbers → Domains → RawName → Faults
sort_fault (sort.Constant owner) ns ds x = fault_if (is_none (found x.text ns)) 3 x.place
sort_fault (sort.Variable owner) ns ds x = domain_faults (found x.text ds) x.place
sort_fault sort.Parameter ns ds x = domain_faults (found x.text ds) x.place
sort_fault s ns ds x = Nowhere

-- of two globals the first stays, and a local stands beside a global that has its name
abbrev pub with_entry : Sort → List ℕ → Entry → Names → Names
with_entry sort.Parameter x e names = beside x e names
with_entry sort.Result x e names = beside x e names
with_entry s x e names = inside x e names

abbrev pub with_name : Sort → Numbers → Domains → ℕ → RawName → Names → Names
with_name s ns ds i x names = with_entry s x.text (entry (meaning_of s ns ds i x) x.place) names

-- the names with those of a list
abbrev pub declared : Sort → Numbers → Domains → ℕ → Names → List RawName → Names
declared s ns ds i names [] = names
declared s ns ds i names (x ∷ xs) = declared s ns ds (next i) (with_name s ns ds i x names) xs

abbrev pub declare_fault : Sort → Numbers → Domains → ℕ → Names → List RawName → Faults
declare_fault s ns ds i names [] = Nowhere
declare_fault s ns ds i names (x ∷ xs) =
    Both (Both (double_fault names x) (sort_fault s ns ds x)) (declare_fault s ns ds (next i) (with_name s ns ds i x names) xs)

abbrev pub with_set_name : ℕ → ℕ → RawSet → Names → Names
with_set_name owner k s names = inside s.name.text (entry (meaning.Set owner k (length s.elements)) s.name.place) names

-- the sets of the machine with the number `owner`; the first has the number k
abbrev pub with_sets : ℕ → ℕ → Names → List RawSet → Names
with_sets owner k names [] = names
with_sets owner k names (s ∷ ss) =
    with_sets owner (next k) (declared (sort.Element owner k) [] [] 0 (with_set_name owner k s names) s.elements) ss

abbrev pub set_fault : ℕ → ℕ → Names → RawSet → Faults
set_fault owner k names s =
    Both (Both (double_fault names s.name) (fault_if (nat_lt 256 (length s.elements)) 12 s.name.place))
    (declare_fault (sort.Element owner k) [] [] 0 (with_set_name owner k s names) s.elements)

abbrev pub sets_fault : ℕ → ℕ → Names → List RawSet → Faults
sets_fault owner k names [] = Nowhere
sets_fault owner k names (s ∷ ss) =
    Both (set_fault owner k names s)
    (sets_fault owner (next k) (declared (sort.Element owner k) [] [] 0 (with_set_name owner k s names) s.elements) ss)

abbrev pub after_sets : ℕ → List RawSet → ℕ
after_sets k [] = k
after_sets k (s ∷ ss) = after_sets (next k) ss

abbrev pub with_machine_name : ℕ → RawName → Names → Names
with_machine_name owner x names = inside x.text (entry (meaning.Machine owner) x.place) names

-- a machine's name, sets and constants
abbrev pub with_statics : ℕ → ℕ → Names → RawMachine → Names
with_statics owner k names m =
    declared (sort.Constant owner) (numbers_from [] m.properties) [] 0 (with_sets owner k (with_machine_name owner m.name names) m.sets) m.constants

abbrev pub statics_fault : ℕ → ℕ → Names → RawMachine → Faults
statics_fault owner k names m =
    Both (double_fault names m.name) (Both (sets_fault owner k (with_machine_name owner m.name names) m.sets)
    (declare_fault (sort.Constant owner) (numbers_from [] m.properties) [] 0 (with_sets owner k (with_machine_name owner m.name names) m.sets) m.constants))

-- sets and constants of all machines, which domains may name
abbrev pub statics_of : ℕ → ℕ → Names → List RawMachine → Names
statics_of owner k names [] = names
statics_of owner k names (m ∷ ms) = statics_of (next owner) (after_sets k m.sets) (with_statics owner k names m) ms

-- the number of a machine
abbrev pub machine_meaning : Meaning → Option ℕ
machine_meaning (meaning.Machine k) = Some k
machine_meaning m = None

abbrev pub machine_number : Option Entry → Option ℕ
machine_number None = None
machine_number (Some e) = machine_meaning e.meaning

abbrev pub with_owner : Option ℕ → List ℕ → List ℕ
with_owner None ks = ks
with_owner (Some k) ks = with_number k ks

abbrev pub sees_from : Names → List ℕ → List RawName → List ℕ
sees_from known ks [] = ks
sees_from known ks (x ∷ xs) = sees_from known (with_owner (machine_number (found x.text known)) ks) xs

-- what is known in a machine, but for variables: its own sets and constants, and those of the machines that it sees
abbrev pub view_of : Names → ℕ → RawMachine → View
view_of known owner m = record { machine = owner; sees = sees_from known (owner ∷ []) m.sees; reads = [] }

-- where its variables may be read too
abbrev pub inner_view : Names → ℕ → RawMachine → View
inner_view known owner m = record { machine = owner; sees = sees_from known (owner ∷ []) m.sees; reads = owner ∷ [] }

abbrev pub invariant_of : Option RawState → Option RawFormulaTree
invariant_of None = None
invariant_of (Some s) = Some s.invariant

abbrev pub variables_of : Option RawState → List RawName
variables_of None = []
variables_of (Some s) = s.variables

-- the domains of a machine's variables
abbrev pub own_domains : Names → ℕ → RawMachine → Domains
own_domains known owner m = domains_of (view_of known owner m) known (invariant_of m.state)

abbrev pub with_variables : Names → ℕ → Names → RawMachine → Names
with_variables known owner names m = declared (sort.Variable owner) [] (own_domains known owner m) 0 names (variables_of m.state)

-- the names of a text in its order
abbrev pub names_of : Names → ℕ → ℕ → Names → List RawMachine → Names
names_of known owner k names [] = names
names_of known owner k names (m ∷ ms) =
    names_of known (next owner) (after_sets k m.sets) (with_variables known owner (with_statics owner k names m) m) ms

abbrev pub globals_fault : Names → ℕ → ℕ → Names → RawMachine → Faults
globals_fault known owner k names m =
    Both (statics_fault owner k names m)
    (declare_fault (sort.Variable owner) [] (own_domains known owner m) 0 (with_statics owner k names m) (variables_of m.state))

abbrev pub names_fault : Names → ℕ → ℕ → Names → List RawMachine → Faults
names_fault known owner k names [] = Nowhere
names_fault known owner k names (m ∷ ms) =
    Both (globals_fault known owner k names m)
    (names_fault known (next owner) (after_sets k m.sets) (with_variables known owner (with_statics owner k names m) m) ms)

-- the word `any` is no name
abbrev pub reserved : Names
reserved = (97 ∷ 110 ∷ 121 ∷ [], entry meaning.Reserved (record { line = 0; col = 0 })) ∷ []
