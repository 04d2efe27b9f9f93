use Rattle.std.proofs.Common.{map, string_bytes}
use Rattle.std.proofs.lemmas.Result.{err_from_is_err_and}
use Rattle.clap.specs.Words.{found_of}
use Rattle.cb_words.proofs.Spells.{spelled_by, spelled_none}
use Rattle.cb_words.proofs.words.words_of.Goals as goal

pub returns-in_err-matches-clause-words : goal.returns-in_err-matches-clause-words
returns-in_err-matches-clause-words c =
    let made = err_from_is_err_and c.from_residual.result c.from_residual.ensures.1 in
    rw (made.1, made.2) (λ h. spelled_none (map string_bytes c.args.words.now) (c.in_err-matches.ensures.words (cc)))

pub returns-clause-request : goal.returns-clause-request
returns-clause-request c =
    let spells = spelled_by (map string_bytes c.args.words.now) (found_of c.in_ok-matches.matches) c.in_ok-matches.ensures.fits c.in_ok-matches.ensures.rows in
    rw (c.get_str-action.ensures, c.get_strs-files.ensures, c.get_str-limit.ensures, c.get_str-seed.ensures, spells) at c.request_of.ensures.request

pub returns-clause-words : goal.returns-clause-words
returns-clause-words c =
    let spells = spelled_by (map string_bytes c.args.words.now) (found_of c.in_ok-matches.matches) c.in_ok-matches.ensures.fits c.in_ok-matches.ensures.rows in
    rw (c.get_str-action.ensures, c.get_strs-files.ensures, c.get_str-limit.ensures, c.get_str-seed.ensures, spells) at c.request_of.ensures.words
