-- What happens in a process without an event: which calls and internal choices are met before a prefix, STOP or SKIP; and how
-- many branches it offers.
use Rattle.std.specs.Prelude.{ℕ, zero, suc, ◌+◌, ◌^◌, ◌<◌, ◌≤◌, ◌≡◌, ◌⊎◌, List, ⊤}
use Rattle.cb_spec.specs.declared.system.Definition.{Definition}
use Rattle.cb_spec.specs.ProcessTree.{ProcessTree, Stop, Skip, Call, Prefix, Choice, Internal, If}
use Rattle.cb_spec.specs.States.{IsAt}

-- each call that is not after a prefix is of a definition after the one with this number
abbrev pub CallsLater : ℕ → ProcessTree → Type 0
CallsLater j Stop = ⊤
CallsLater j Skip = ⊤
CallsLater j (Call k ts) = j < k
CallsLater j (Prefix e p) = ⊤
CallsLater j (Choice p q) = CallsLater j p × CallsLater j q
CallsLater j (Internal p q) = CallsLater j p × CallsLater j q
CallsLater j (If f p q) = CallsLater j p × CallsLater j q

-- the process may be an operand of `[]`: a prefix, STOP, an IF of such operands, or `[]` of them
abbrev pub IsOperand : ProcessTree → Type 0
IsOperand Stop = ⊤
IsOperand Skip = ⊥
IsOperand (Call k ts) = ⊥
IsOperand (Prefix e p) = ⊤
IsOperand (Choice p q) = IsOperand p × IsOperand q
IsOperand (Internal p q) = ⊥
IsOperand (If f p q) = IsOperand p × IsOperand q

abbrev pub OperandsFit : ProcessTree → Type 0
OperandsFit Stop = ⊤
OperandsFit Skip = ⊤
OperandsFit (Call k ts) = ⊤
OperandsFit (Prefix e p) = OperandsFit p
OperandsFit (Choice p q) = IsOperand p × IsOperand q × OperandsFit p × OperandsFit q
OperandsFit (Internal p q) = OperandsFit p × OperandsFit q
OperandsFit (If f p q) = OperandsFit p × OperandsFit q

-- a way from the process to a prefix, STOP or SKIP, through n calls, meets k internal choices
abbrev pub Way : List Definition → (n : ℕ) → ProcessTree → ℕ → Type 0
Way ds n Stop k = k ≡ 0
Way ds n Skip k = k ≡ 0
Way ds zero (Call j ts) k = ⊥
Way ds (suc n) (Call j ts) k = (d : Definition) × (IsAt ds j d × Way ds n d.body k)
Way ds n (Prefix e p) k = k ≡ 0
Way ds n (Choice p q) k = Way ds n p k ⊎ Way ds n q k
Way ds n (Internal p q) k = (i : ℕ) × ((k ≡ 1 + i) × (Way ds n p i ⊎ Way ds n q i))
Way ds n (If f p q) k = Way ds n p k ⊎ Way ds n q k

-- no way from the process meets more than 64
abbrev pub FewSilent : List Definition → ProcessTree → Type 0
FewSilent ds p = (n k : ℕ) → Way ds n p k → k ≤ 64

-- nor does one from what follows a prefix in it
abbrev pub FewSilentAfter : List Definition → ProcessTree → Type 0
FewSilentAfter ds Stop = ⊤
FewSilentAfter ds Skip = ⊤
FewSilentAfter ds (Call j ts) = ⊤
FewSilentAfter ds (Prefix e p) = FewSilent ds p × FewSilentAfter ds p
FewSilentAfter ds (Choice p q) = FewSilentAfter ds p × FewSilentAfter ds q
FewSilentAfter ds (Internal p q) = FewSilentAfter ds p × FewSilentAfter ds q
FewSilentAfter ds (If f p q) = FewSilentAfter ds p × FewSilentAfter ds q

-- as many branches at most are offered at a time
abbrev pub prefixes : ProcessTree → ℕ
prefixes Stop = 0
prefixes Skip = 0
prefixes (Call j ts) = 0
prefixes (Prefix e p) = 1 + prefixes p
prefixes (Choice p q) = prefixes p + prefixes q
prefixes (Internal p q) = prefixes p + prefixes q
prefixes (If f p q) = prefixes p + prefixes q

-- branches are told by numbers of 32 bits
abbrev pub FewBranches : ProcessTree → Type 0
FewBranches p = prefixes p < 2 ^ 32
