-- What a command answers, each status with its cause.
use Rattle.std.specs.Prelude.{◌≡◌, ◌≢◌, ◌⊎◌, ℕ, ◌-◌, ◌^◌, ◌<◌, ◌≤◌, List, [], slice_index_or}
use Rattle.cb_words.specs.declared.request.Request.{Request}
use Rattle.cb_top.specs.Change.{Change, Sources, Wrote, WroteCut, WroteFront, Faulted}
use Rattle.cb_top.specs.Joined.{IsUnread}
use Rattle.cb_top.specs.Outcome.{Answer, IsOutcomeOf, words_line, write_line, memory_line, read_line}

-- a line for `err` with its cause
pub data IsFaultLine (request : Request) (names : List (List ℕ)) (files : Sources) (line : List ℕ) : Type 0 where
  of_outcome : (answer : Answer) → IsOutcomeOf request names files.held answer → line ≡ answer.err → IsFaultLine request names files line
  of_file : (i : ℕ) → IsUnread files.held files.before files.after names i → line ≡ read_line (slice_index_or names i []) → IsFaultLine request names files line
  of_memory : line ≡ memory_line → IsFaultLine request names files line

-- the answers to a request whose files have these names
pub record Answers (request : Request) (names : List (List ℕ)) (files : Sources) (out err : Change) (status : ℕ) : Type 0 where
  -- any status but these three is that of an outcome that was written whole
  pub outcome : status ≢ 4 → status ≢ 5 → status ≢ 6 →
      (answer : Answer) × IsOutcomeOf request names files.held answer × (status ≡ answer.status) × Wrote out answer.out × Wrote err answer.err
  pub no_words : status ≢ 3
  pub stated : status ≤ 7
  pub unread : status ≡ 4 → (i : ℕ) × IsUnread files.held files.before files.after names i × Wrote err (read_line (slice_index_or names i []))
  pub write : status ≡ 5 → Faulted out ⊎ Faulted err
  pub memory : status ≡ 6 → Wrote err memory_line
  pub silent : status ≢ 0 → status ≢ 1 → status ≢ 5 → Wrote out []
  pub out_cut : status ≡ 5 → Faulted out → out.faults_before < 2 ^ 64 - 1 → WroteFront err write_line
  pub out_cut_text : status ≡ 5 → Faulted out → out.faults_before < 2 ^ 64 - 1 →
      (answer : Answer) × IsOutcomeOf request names files.held answer × (answer.status ≤ 1) × WroteCut out answer.out
  pub err_cut : status ≡ 5 → (Faulted out → ⊥) → Wrote out []
  pub err_cut_line : status ≡ 5 → (Faulted out → ⊥) → (line : List ℕ) × IsFaultLine request names files line × WroteCut err line

-- the answers where no request is spelled: nothing is tried on `out`
pub record WordsAnswers (out err : Change) (status : ℕ) : Type 0 where
  pub cases : (status ≡ 3) ⊎ ((status ≡ 5) ⊎ (status ≡ 6))
  pub silent : Wrote out []
  pub untried : out.faults_before < 2 ^ 64 - 1 → Faulted out → ⊥
  pub words : status ≡ 3 → Wrote err words_line
  pub memory : status ≡ 6 → Wrote err memory_line
  pub write : status ≡ 5 → Faulted err
  pub cut : status ≡ 5 → WroteCut err words_line ⊎ WroteCut err memory_line
