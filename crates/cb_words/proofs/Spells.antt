-- From the matches of a command line to the request that it spells.
use Rattle.std.proofs.Common.{◌≡◌, ◌≢◌, ℕ, List, [], ◌∷◌, None, refl, codes}
use Rattle.std.specs.Option.{option_map}
use Rattle.std.specs.declared.option.Option.{Option}
use Rattle.clap.specs.Words.{Kinds, fault_of, matches_of, first_value, matched_of, raw_values, rows_of}
use Rattle.clap.specs.declared.parser.matches.Found.{Found}
use Rattle.clap.proofs.WalkLemmas.{first_value-rows, raw_values-rows}
use Rattle.cb_words.specs.Line.{line_app}
use Rattle.cb_words.specs.Spelled.{spelled, request_by, unless_fault}
use Rattle.cb_words.specs.declared.request.Request.{Request}

pub spelled_by : (words : List (List ℕ)) (f : Found) → fault_of line_app words ≡ [] → rows_of f ≡ matches_of line_app words →
    request_by (first_value f (codes "action")) (option_map raw_values (matched_of f (codes "files")))
    (first_value f (codes "limit")) (first_value f (codes "seed")) ≡ spelled words
unfolding spelled
spelled_by words f none same =
    rw (none, ← same, first_value-rows f (codes "action"), raw_values-rows f (codes "files"), first_value-rows f (codes "limit"), first_value-rows f (codes "seed")) refl

none_at : (kinds : Kinds) (request : Option Request) → kinds ≢ [] → unless_fault kinds request ≡ None
none_at [] request some = absurd (some refl)
none_at (kind ∷ kinds) request some = refl

pub spelled_none : (words : List (List ℕ)) → fault_of line_app words ≢ [] → spelled words ≡ None
unfolding spelled
spelled_none words some = none_at _ _ some
