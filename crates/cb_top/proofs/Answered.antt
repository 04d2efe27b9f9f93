-- The answers of a command, from what it found and what it printed.
use Rattle.std.proofs.Common.{◌≡◌, ◌≢◌, ℕ, ◌≤◌, ◌<◌, ◌⊎◌, inl, inr, List, [], refl, sym, subst, ◌∙◌, arith, get_or}
use Rattle.cb_words.specs.declared.request.Request.{Request}
use Rattle.cb_top.specs.Change.{Change, Sources, Wrote, WroteCut}
use Rattle.cb_top.specs.Joined.{IsUnread}
use Rattle.cb_top.specs.Outcome.{IsOutcomeOf, memory_line, words_line, read_line}
use Rattle.cb_top.specs.Answers.{Answers, WordsAnswers, IsFaultLine, of_outcome, of_file, of_memory}
use Rattle.cb_top.specs.Printed as printed
use Rattle.cb_top.specs.Printed.{PrintedLine, PrintedText}

-- a text of an outcome was printed
pub text_answers : (request : Request) (names : List (List ℕ)) (files : Sources) (out err : Change) (status wanted : ℕ) (text : List ℕ) →
    wanted ≤ 1 →
    IsOutcomeOf request names files.held (record { status = wanted; out = text; err = [] }) →
    PrintedText text wanted out err status → Answers request names files out err status
text_answers request names files out err status wanted text low found (printed.whole e o r) = record {
  outcome = λ _ _ _. (record { status = wanted; out = text; err = [] }, found, e, o, r);
  no_words = λ h. omega arith;
  stated = omega arith;
  unread = λ h. absurd (omega arith);
  write = λ h. absurd (omega arith);
  memory = λ h. absurd (omega arith);
  silent = λ h k _. absurd (omega arith);
  out_cut = λ h _ _. absurd (omega arith);
  out_cut_text = λ h _ _. absurd (omega arith);
  err_cut = λ h _. absurd (omega arith);
  err_cut_line = λ h _. absurd (omega arith);
}
text_answers request names files out err status wanted text low found (printed.cut e f o r) = record {
  outcome = λ _ h _. absurd (h e);
  no_words = λ h. omega arith;
  stated = omega arith;
  unread = λ h. absurd (omega arith);
  write = λ h. inl f;
  memory = λ h. absurd (omega arith);
  silent = λ _ _ h. absurd (h e);
  out_cut = λ _ _ _. r;
  out_cut_text = λ _ _ _. (record { status = wanted; out = text; err = [] }, found, low, o);
  err_cut = λ _ h. absurd (h f);
  err_cut_line = λ _ h. absurd (h f);
}

-- a line with its cause was printed, and `out` wasn't touched
line_answers : (request : Request) (names : List (List ℕ)) (files : Sources) (out err : Change) (status wanted : ℕ) (line : List ℕ) →
    1 < wanted → wanted ≤ 7 → wanted ≢ 3 → wanted ≢ 5 → Wrote out [] → out.faults_after ≡ out.faults_before →
    (wanted ≢ 4 → wanted ≢ 6 → IsOutcomeOf request names files.held (record { status = wanted; out = []; err = line })) →
    (wanted ≡ 4 → (i : ℕ) × IsUnread files.held files.before files.after names i × (line ≡ read_line (get_or names i []))) →
    (wanted ≡ 6 → line ≡ memory_line) →
    IsFaultLine request names files line →
    PrintedLine line wanted err status → Answers request names files out err status
line_answers request names files out err status wanted line high most w3 w5 still same found unread memory cause (printed.whole e w) = record {
  outcome = λ h4 _ h6. (record { status = wanted; out = []; err = line }, found (λ k. h4 (e ∙ k)) (λ k. h6 (e ∙ k)), e, still, w);
  no_words = λ h. w3 (sym e ∙ h);
  stated = omega (arith, e, most);
  unread = λ h.
      let u = unread (sym e ∙ h) in
      let P : List ℕ → Type 0 = λ bs. Wrote err bs in
      (u.0, u.1, subst P u.2 w);
  write = λ h. absurd (w5 (sym e ∙ h));
  memory = λ h. let P : List ℕ → Type 0 = λ bs. Wrote err bs in subst P (memory (sym e ∙ h)) w;
  silent = λ _ _ _. still;
  out_cut = λ h _ _. absurd (w5 (sym e ∙ h));
  out_cut_text = λ h _ _. absurd (w5 (sym e ∙ h));
  err_cut = λ h _. absurd (w5 (sym e ∙ h));
  err_cut_line = λ h _. absurd (w5 (sym e ∙ h));
}
line_answers request names files out err status wanted line high most w3 w5 still same found unread memory cause (printed.cut e f w) = record {
  outcome = λ _ h _. absurd (h e);
  no_words = λ h. omega arith;
  stated = omega arith;
  unread = λ h. absurd (omega arith);
  write = λ h. inr f;
  memory = λ h. absurd (omega arith);
  silent = λ _ _ h. absurd (h e);
  out_cut = λ _ h below. absurd (omega arith);
  out_cut_text = λ _ h below. absurd (omega arith);
  err_cut = λ _ _. still;
  err_cut_line = λ _ _. (line, cause, w);
}

-- the line of an outcome
pub fault_answers : (request : Request) (names : List (List ℕ)) (files : Sources) (out err : Change) (status wanted : ℕ) (line : List ℕ) →
    (wanted ≡ 2) ⊎ (wanted ≡ 7) → Wrote out [] → out.faults_after ≡ out.faults_before →
    IsOutcomeOf request names files.held (record { status = wanted; out = []; err = line }) →
    PrintedLine line wanted err status → Answers request names files out err status
fault_answers request names files out err status wanted line which still same found =
    line_answers request names files out err status wanted line (omega arith) (omega arith) (λ h. omega arith) (λ h. omega arith) still same
    (λ _ _. found) (λ h. absurd (omega arith)) (λ h. absurd (omega arith))
    (of_outcome (record { status = wanted; out = []; err = line }) found refl)

-- the line of a file that wasn't read
pub unread_answers : (request : Request) (names : List (List ℕ)) (files : Sources) (out err : Change) (status : ℕ) (line : List ℕ) →
    Wrote out [] → out.faults_after ≡ out.faults_before →
    ((i : ℕ) × IsUnread files.held files.before files.after names i × (line ≡ read_line (get_or names i []))) →
    PrintedLine line 4 err status → Answers request names files out err status
unread_answers request names files out err status line still same unread =
    line_answers request names files out err status 4 line (omega arith) (omega arith) (λ h. omega arith) (λ h. omega arith) still same
    (λ h _. absurd (h refl)) (λ _. unread) (λ h. absurd (omega arith)) (of_file unread.0 unread.1 unread.2)

-- the line of want of memory
pub memory_answers : (request : Request) (names : List (List ℕ)) (files : Sources) (out err : Change) (status : ℕ) (line : List ℕ) →
    Wrote out [] → out.faults_after ≡ out.faults_before → line ≡ memory_line →
    PrintedLine line 6 err status → Answers request names files out err status
memory_answers request names files out err status line still same is =
    line_answers request names files out err status 6 line (omega arith) (omega arith) (λ h. omega arith) (λ h. omega arith) still same
    (λ _ h. absurd (h refl)) (λ h. absurd (omega arith)) (λ _. is) (of_memory is)

-- the line where no request is spelled
pub words_answers : (out err : Change) (status wanted : ℕ) (line : List ℕ) →
    ((wanted ≡ 3) × (line ≡ words_line)) ⊎ ((wanted ≡ 6) × (line ≡ memory_line)) → Wrote out [] → out.faults_after ≡ out.faults_before →
    PrintedLine line wanted err status → WordsAnswers out err status
words_answers out err status wanted line (inl w) still same (printed.whole e r) = record {
  cases = inl (e ∙ w.0);
  silent = still;
  untried = λ below h. omega arith;
  words = λ _. let P : List ℕ → Type 0 = λ bs. Wrote err bs in subst P w.1 r;
  memory = λ h. absurd (omega (arith, w.0));
  write = λ h. absurd (omega (arith, w.0));
  cut = λ h. absurd (omega (arith, w.0));
}
words_answers out err status wanted line (inr w) still same (printed.whole e r) = record {
  cases = inr (inr (e ∙ w.0));
  silent = still;
  untried = λ below h. omega arith;
  words = λ h. absurd (omega (arith, w.0));
  memory = λ _. let P : List ℕ → Type 0 = λ bs. Wrote err bs in subst P w.1 r;
  write = λ h. absurd (omega (arith, w.0));
  cut = λ h. absurd (omega (arith, w.0));
}
words_answers out err status wanted line (inl w) still same (printed.cut e f r) = record {
  cases = inr (inl e);
  silent = still;
  untried = λ below h. omega arith;
  words = λ h. absurd (omega arith);
  memory = λ h. absurd (omega arith);
  write = λ _. f;
  cut = λ _. let P : List ℕ → Type 0 = λ bs. WroteCut err bs in inl (subst P w.1 r);
}
words_answers out err status wanted line (inr w) still same (printed.cut e f r) = record {
  cases = inr (inl e);
  silent = still;
  untried = λ below h. omega arith;
  words = λ h. absurd (omega arith);
  memory = λ h. absurd (omega arith);
  write = λ _. f;
  cut = λ _. let P : List ℕ → Type 0 = λ bs. WroteCut err bs in inr (subst P w.1 r);
}

-- the same names, read from the request
pub along : (request : Request) (shown names : List (List ℕ)) (files : Sources) (out err : Change) (status : ℕ) →
    shown ≡ names → Answers request shown files out err status → Answers request names files out err status
along request shown names files out err status e a =
    let P : List (List ℕ) → Type 0 = λ ns. Answers request ns files out err status in subst P e a
