-- What a request is about.
use Rattle.std.specs.Prelude.{ℕ, List, ⊤}
use Rattle.cb_words.specs.declared.request.Request.{Request}
use Rattle.cb_words.specs.declared.request.Request.TheVariants as request
use Rattle.cb_top.specs.Joined.{joined}

-- the names of its files
abbrev pub names_of : Request → List (List ℕ)
names_of (request.List files) = files
names_of (request.Check files) = files
names_of (request.Sim files limit seed) = files

-- its bytes, where its files have these contents
abbrev pub bytes_of : Request → List (List ℕ) → List ℕ
bytes_of request contents = joined contents

-- it ends with status 0 on accepted texts alone
abbrev pub TakesAccepted : Request → Type 0
TakesAccepted (request.List files) = ⊥
TakesAccepted (request.Check files) = ⊤
TakesAccepted (request.Sim files limit seed) = ⊤
