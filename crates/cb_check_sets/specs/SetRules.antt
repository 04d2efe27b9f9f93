-- The rules on sets and elements: where each applies, and its premises. What is asked of the kinds of arguments supposes that
-- each argument has the kind that is written with it.
use Rattle.std.specs.Prelude.{ℕ, zero, suc, ◌+◌, pos, Bool, true, false, ◌&&◌, List, [], ◌∷◌, Option, Some, None, codes}
use Rattle.cb_term.specs.declared.name.Name.{Name}
use Rattle.cb_term.specs.declared.kind.Kind.{Kind}
use Rattle.cb_term.specs.declared.kind.Kind.TheVariants as kind
use Rattle.cb_term.specs.declared.kind.Base.{Base}
use Rattle.cb_term.specs.declared.kind.Base.TheVariants as base
use Rattle.cb_term.specs.declared.sign.TermSign.TheVariants.{Add, Minus, Union}
use Rattle.cb_term.specs.declared.sign.RelSign.TheVariants.{Equal, AtMost, Member, Subset}
use Rattle.cb_term.specs.Tree.{TermTree, Var, Num, Elem, Bin, Card, Listed, End, More, FormulaTree, Rel, Not, Implies}
use Rattle.cb_term.specs.Values.{size_of_set}
use Rattle.cb_seq.specs.declared.rule.TermArgument.{TermArgument}
use Rattle.cb_seq.specs.declared.rule.TermArgument.TheVariants as term
use Rattle.cb_seq.specs.declared.rule.Rule.{Rule}
use Rattle.cb_seq.specs.declared.rule.Rule.TheVariants as rule
use Rattle.cb_seq.specs.declared.premise.Premise.{Premise}
use Rattle.cb_seq.specs.Kinds.{kind_of, rel_kinds}
use Rattle.cb_seq.specs.Validity.{Claim}
use Rattle.cb_seq.specs.Premises.{hypothesis, fresh, proving, adding, Outcome, only_where}
use Rattle.cb_check_sets.specs.Members.{membership}

-- ---- kinds

abbrev pub is_set : Option Kind → Bool
is_set (Some (kind.SetOf b)) = true
is_set (Some kind.EmptySet) = true
is_set k = false

-- the first is the kind of the items of a set of the second. Of `{}` it may be any kind but a set's
abbrev pub is_item_of : Kind → Option Kind → Bool
is_item_of k None = false
is_item_of k (Some l) = rel_kinds Member k l

abbrev pub kind_of_base : Base → Kind
kind_of_base base.Integer = kind.Integer
kind_of_base base.Truth = kind.Truth
kind_of_base (base.Elem set) = kind.Elem set

-- the kind of the items of the first of two sets whose kind tells it, else INTEGER
abbrev pub item_kind : Option Kind → Option Kind → Kind
item_kind (Some (kind.SetOf b)) l = kind_of_base b
item_kind k (Some (kind.SetOf b)) = kind_of_base b
item_kind k l = kind.Integer

-- ---- members

-- MEMBER
abbrev pub shown_as : Option FormulaTree → Outcome
shown_as None = None
shown_as (Some f) = Some (proving f ∷ [])

abbrev pub member_right : FormulaTree → Outcome
member_right (Rel Member t s) = shown_as (membership t s)
member_right g = None

-- MEMBERL
abbrev pub known_as : Option FormulaTree → Outcome
known_as None = None
known_as (Some f) = Some (adding (f ∷ []) ∷ [])

abbrev pub member_left : Option FormulaTree → Outcome
member_left (Some (Rel Member t s)) = known_as (membership t s)
member_left h = None

-- ---- parts

-- the premise of SUBSET, with its fresh name
abbrev pub each_item : TermTree → TermTree → Kind → Option Name → Outcome
each_item s u k None = None
each_item s u k (Some e) = Some (record { goal = Some (Rel Member (Var e) u); added = Rel Member (Var e) s ∷ []; opened = Some (e, k) } ∷ [])

-- SUBSET
abbrev pub subset_right : List ℕ → List (Name × Kind) → FormulaTree → Outcome
subset_right sizes names (Rel Subset s u) =
    each_item s u (item_kind (kind_of sizes names [] s) (kind_of sizes names [] u)) (fresh names (codes "e"))
subset_right sizes names g = None

-- SUBSETL
abbrev pub subset_left : List ℕ → List (Name × Kind) → TermArgument → Option FormulaTree → Outcome
subset_left sizes names (term.Term t k) (Some (Rel Subset s u)) =
    only_where (is_item_of k (kind_of sizes names [] s) && is_item_of k (kind_of sizes names [] u))
    (adding (Implies (Rel Member t s) (Rel Member t u) ∷ []) ∷ [])
subset_left sizes names t h = None

-- EXT
abbrev pub extension : List ℕ → List (Name × Kind) → FormulaTree → Outcome
extension sizes names (Rel Equal s u) = only_where (is_set (kind_of sizes names [] s)) (proving (Rel Subset s u) ∷ proving (Rel Subset u s) ∷ [])
extension sizes names g = None

-- ---- how many items a set has

-- `{t}`
abbrev pub only : TermTree → TermTree
only t = Listed (More t End)

-- CARDPOS
abbrev pub card_not_negative : TermArgument → Outcome
card_not_negative (term.Term s k) = only_where (is_set (Some k)) (adding (Rel AtMost (Num (pos 0)) (Card s) ∷ []) ∷ [])
card_not_negative (term.Read t) = None
card_not_negative term.Unclear = None

-- CARDADD
abbrev pub card_added : TermArgument → TermArgument → Outcome
card_added (term.Term s k) (term.Term t l) = only_where (is_item_of l (Some k))
    (proving (Not (Rel Member t s)) ∷ adding (Rel Equal (Card (Bin Union s (only t))) (Bin Add (Card s) (Num (pos 1))) ∷ []) ∷ [])
card_added s t = None

-- CARDDEL
abbrev pub card_removed : TermArgument → TermArgument → Outcome
card_removed (term.Term s k) (term.Term t l) = only_where (is_item_of l (Some k))
    (proving (Rel Member t s) ∷ adding (Rel Equal (Bin Add (Card (Bin Minus s (only t))) (Num (pos 1))) (Card s) ∷ []) ∷ [])
card_removed s t = None

-- CARDSUB
abbrev pub card_within : TermArgument → TermArgument → Outcome
card_within (term.Term s k) (term.Term t l) = only_where (rel_kinds Subset k l)
    (proving (Rel Subset s t) ∷ adding (Rel AtMost (Card s) (Card t) ∷ []) ∷ [])
card_within s t = None

-- ---- elements

-- the premises for the n elements from the one at place i on
abbrev pub each_element : TermTree → ℕ → ℕ → ℕ → List Premise
each_element t set i zero = []
each_element t set i (suc n) = adding (Rel Equal t (Elem set i) ∷ []) ∷ each_element t set (i + 1) n

-- ELEMS
abbrev pub elements : List ℕ → TermArgument → Outcome
elements sizes (term.Term t (kind.Elem set)) = Some (each_element t set 0 (size_of_set sizes set))
elements sizes t = None

-- ---- all of these rules. Other rules have no premises here

abbrev pub set_premises : List ℕ → Rule → Claim → Outcome
set_premises sizes (rule.Elems t) q = elements sizes t
set_premises sizes rule.Member q = member_right q.goal
set_premises sizes (rule.MemberL h) q = member_left (hypothesis q.hypotheses h)
set_premises sizes rule.Subset q = subset_right sizes q.names q.goal
set_premises sizes (rule.SubsetL h t) q = subset_left sizes q.names t (hypothesis q.hypotheses h)
set_premises sizes rule.Ext q = extension sizes q.names q.goal
set_premises sizes (rule.CardPos s) q = card_not_negative s
set_premises sizes (rule.CardAdd s t) q = card_added s t
set_premises sizes (rule.CardDel s t) q = card_removed s t
set_premises sizes (rule.CardSub s t) q = card_within s t
set_premises sizes r q = None
