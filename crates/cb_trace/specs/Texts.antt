-- The printed texts of obligations and verdicts. Every line ends with a line feed.
pub use Rattle.std.specs.Fmt.{decimal}
use Rattle.std.specs.Prelude.{ℕ, zero, suc, ◌+◌, false, List, [], ◌∷◌, ◌++◌, length, Option, Some, None, codes}
use Rattle.cb_term.specs.declared.name.Name.{Name}
use Rattle.cb_term.specs.declared.table.SetNames.{SetNames}
use Rattle.cb_term.specs.Tree.{FormulaTree}
use Rattle.cb_term.specs.Text.{name_text, formula_text}
use Rattle.cb_seq.specs.declared.sequent.Group.{Group}
use Rattle.cb_seq.specs.declared.sequent.Group.TheVariants as group
use Rattle.cb_seq.specs.declared.sequent.ObName.{ObName}
use Rattle.cb_seq.specs.declared.sequent.Obligation.{Obligation}
use Rattle.cb_trace.specs.declared.verdict.Verdict.{Verdict}
use Rattle.cb_trace.specs.declared.verdict.Verdict.TheVariants as verdict

-- ---- names of obligations

abbrev pub group_text : Group → List ℕ
group_text group.Init = codes "INIT"
group_text group.Op = codes "OP"
group_text group.Live = codes "LIVE"
group_text group.Start = codes "START"
group_text group.Loop = codes "LOOP"
group_text group.Match = codes "MATCH"

-- the operation or the definition. The initialisation has no name: its liveness is told by a word
abbrev pub part_text : Group → Option Name → List ℕ
part_text g (Some x) = codes ":" ++ name_text x
part_text group.Live None = codes ":INITIALISATION"
part_text g None = []

-- `INIT:M:1`, `OP:M:operation:1`
abbrev pub obligation_text : ObName → List ℕ
obligation_text o = group_text o.group ++ codes ":" ++ name_text o.owner ++ part_text o.group o.part ++ codes ":" ++ decimal o.number

-- ---- the listing

-- a line for each hypothesis, numbered from n
abbrev pub hypotheses_text : List SetNames → ℕ → List FormulaTree → List ℕ
hypotheses_text sets n [] = []
hypotheses_text sets n (f ∷ fs) = codes "  H" ++ decimal n ++ codes " " ++ formula_text sets [] false f ++ 10 ∷ hypotheses_text sets (n + 1) fs

abbrev pub goal_text : List SetNames → FormulaTree → List ℕ
goal_text sets g = codes "  G " ++ formula_text sets [] false g ++ 10 ∷ []

-- an obligation: its name, its hypotheses and its goal
abbrev pub sequent_text : List SetNames → Obligation → List ℕ
sequent_text sets o = obligation_text o.name ++ (10 ∷ []) ++ hypotheses_text sets 1 o.sequent.hypotheses.items ++ goal_text sets o.sequent.goal

abbrev pub sequents_text : List SetNames → List Obligation → List ℕ
sequents_text sets [] = []
sequents_text sets (o ∷ os) = sequent_text sets o ++ sequents_text sets os

abbrev pub count_line : ℕ → List ℕ
count_line n = decimal n ++ codes " obligations" ++ 10 ∷ []

-- all obligations, and how many they are
abbrev pub listing_text : List SetNames → List Obligation → List ℕ
listing_text sets os = sequents_text sets os ++ count_line (length os)

-- ---- verdicts

abbrev pub verdict_word : Verdict → List ℕ
verdict_word verdict.Proved = codes " proved"
verdict_word verdict.Missing = codes " missing"
verdict_word (verdict.Bad node) = codes " bad " ++ decimal node

abbrev pub lines_text : List (ObName × Verdict) → List ℕ
lines_text [] = []
lines_text (l ∷ ls) = obligation_text l.0 ++ verdict_word l.1 ++ 10 ∷ lines_text ls

abbrev pub openness : Verdict → ℕ
openness verdict.Proved = 0
openness v = 1

-- how many are not proved
abbrev pub open_count : List (ObName × Verdict) → ℕ
open_count [] = 0
open_count (l ∷ ls) = openness l.1 + open_count ls

-- the last line, of k obligations that are not proved among n
abbrev pub summary : ℕ → ℕ → List ℕ
summary zero n = codes "accepted: " ++ count_line n
summary (suc k) n = codes "refused: " ++ decimal (suc k) ++ codes " of " ++ count_line n

abbrev pub verdict_text : List (ObName × Verdict) → List ℕ
verdict_text ls = lines_text ls ++ summary (open_count ls) (length ls)
