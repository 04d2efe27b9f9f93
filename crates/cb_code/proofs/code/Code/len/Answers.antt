use Rattle.std.proofs.Common.{◌≡◌, length, sym, ap, ◌∙◌, arith}
use Rattle.std.proofs.lemmas.Grind.{common_steps}
use Rattle.cb_code.proofs.CodeLemmas.{trees_length}
use Rattle.cb_code.proofs.code.Code.len.Goals as goal

pub returns : goal.returns
returns c =
    let all : c.len.result ≡ length c.self.inside.nodes.items = grind (arith, common_steps) in
    all ∙ sym (trees_length c.self.inside.nodes.items) ∙ ap length c.self.view_is
