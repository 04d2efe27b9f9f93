-- What sure sinks take doesn't end with status 5.
use Rattle.std.proofs.Common.{◌≡◌, ◌≢◌, ℕ, ◌-◌, ◌^◌, ◌≤◌, ◌<◌, List, [], length, refl, sym, subst, arith}
use Rattle.std.specs.declared.option.Option.{Option}
use Rattle.cb_words.specs.declared.request.Request.{Request}
use Rattle.cb_top.specs.Outcome.{IsOutcomeOf}
use Rattle.cb_top.specs.Request.{names_of}
use Rattle.cb_top.specs.Sure.{CanTake, IsText, IsLine}

-- a printing that ends as wanted where the sink has sure room for the text
abbrev pub EndsAsWanted : (ℕ → Type 0) → ℕ → List ℕ → ℕ → ℕ → Type 0
EndsAsWanted sure faults text wanted status = (n : ℕ) → length text ≤ n → sure n → faults < 2 ^ 64 - 1 → status ≡ wanted

pub taken_surely : (sure : ℕ → Type 0) (faults : ℕ) (MayCome : List ℕ → Type 0) (text : List ℕ) (wanted status : ℕ) →
    wanted ≢ 5 → MayCome text → EndsAsWanted sure faults text wanted status → CanTake sure faults MayCome → status ≢ 5
taken_surely sure faults MayCome text wanted status apart comes ends take =
    let e = ends take.room (take.fits text comes) take.has_room take.below in subst (λ k. k ≢ 5) (sym e) apart

-- the text of an outcome
pub text_taken : (request : Request) (shown names : List (List ℕ)) (held : List ℕ → Option (List ℕ)) (sure : ℕ → Type 0) (faults wanted status : ℕ) (text : List ℕ) →
    shown ≡ names → wanted ≤ 1 → IsOutcomeOf request shown held (record { status = wanted; out = text; err = [] }) →
    EndsAsWanted sure faults text wanted status → CanTake sure faults (IsText request names held) → status ≢ 5
text_taken request shown names held sure faults wanted status text same low found =
    taken_surely sure faults (IsText request names held) text wanted status (λ h. omega arith)
    (record { status = wanted; out = text; err = [] }, subst (λ ns. IsOutcomeOf request ns held (record { status = wanted; out = text; err = [] })) same found, refl)

-- a line of a request
pub line_taken : (request : Request) (shown names : List (List ℕ)) (held : List ℕ → Option (List ℕ)) (sure : ℕ → Type 0) (faults wanted status : ℕ) (line : List ℕ) →
    shown ≡ names → wanted ≢ 5 → IsLine request shown held line →
    EndsAsWanted sure faults line wanted status → CanTake sure faults (IsLine request names held) → status ≢ 5
line_taken request shown names held sure faults wanted status line same apart comes =
    taken_surely sure faults (IsLine request names held) line wanted status apart (subst (λ ns. IsLine request ns held line) same comes)

-- what is said of one request, said of the same
pub taken_along : (a b : Request) (held : List ℕ → Option (List ℕ)) (out_sure err_sure : ℕ → Type 0) (out_faults err_faults status : ℕ) → a ≡ b →
    (CanTake out_sure out_faults (IsText a (names_of a) held) → CanTake err_sure err_faults (IsLine a (names_of a) held) → status ≢ 5) →
    CanTake out_sure out_faults (IsText b (names_of b) held) → CanTake err_sure err_faults (IsLine b (names_of b) held) → status ≢ 5
taken_along a b held out_sure err_sure out_faults err_faults status same taken =
    let P : Request → Type 0 = λ r. CanTake out_sure out_faults (IsText r (names_of r) held) → CanTake err_sure err_faults (IsLine r (names_of r) held) → status ≢ 5 in
    subst P same taken
