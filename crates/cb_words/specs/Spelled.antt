-- The request that the words spell.
use Rattle.std.specs.Prelude.{ℕ, List, [], ◌∷◌, if◌then◌else◌, Some, None, codes}
use Rattle.std.specs.Str.{bytes_eq}
use Rattle.std.specs.declared.option.Option.{Option}
use Rattle.clap.specs.Words.{Kinds, fault_of, matches_of, first_of, all_of}
use Rattle.cb_words.specs.Line.{line_app}
use Rattle.cb_words.specs.Numbers.{limit_by, seed_by}
use Rattle.cb_words.specs.declared.request.Request.{Request}
use Rattle.cb_words.specs.declared.request.Request.TheVariants as request

-- an action on files alone: one at least, and neither a limit nor a seed
abbrev pub on_files : (List (List ℕ) → Request) → List (List ℕ) → Option (List ℕ) → Option (List ℕ) → Option Request
on_files action (file ∷ files) None None = Some (action (file ∷ files))
on_files action files limit seed = None

-- an action that runs the text of files: one at least, with a limit and a seed in their ranges
abbrev pub on_run : (List (List ℕ) → ℕ → ℕ → Request) → List (List ℕ) → Option ℕ → Option ℕ → Option Request
on_run action (file ∷ files) (Some limit) (Some seed) = Some (action (file ∷ files) limit seed)
on_run action files limit seed = None

-- the request of an action with these files and these options; each action takes a word at least behind it
abbrev pub request_by : Option (List ℕ) → Option (List (List ℕ)) → Option (List ℕ) → Option (List ℕ) → Option Request
request_by (Some action) (Some files) limit seed =
    (if bytes_eq action (codes "list") then on_files request.List files limit seed
    else (if bytes_eq action (codes "check") then on_files request.Check files limit seed
    else (if bytes_eq action (codes "sim") then on_run request.Sim files (limit_by limit) (seed_by seed)
    else None)))
request_by action files limit seed = None

-- only where the command has no fault
abbrev pub unless_fault : Kinds → Option Request → Option Request
unless_fault [] asked = asked
unless_fault (kind ∷ kinds) asked = None

-- what the words behind the program's name spell
unfoldable pub spelled : List (List ℕ) → Option Request
spelled words =
    unless_fault (fault_of line_app words)
    (request_by (first_of (codes "action") (matches_of line_app words)) (all_of (codes "files") (matches_of line_app words))
    (first_of (codes "limit") (matches_of line_app words)) (first_of (codes "seed") (matches_of line_app words)))
