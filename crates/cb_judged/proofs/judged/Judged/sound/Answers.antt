use Rattle.std.proofs.Common.{◌≡◌, rules}
use Rattle.cb_trace.specs.Texts.{open_count}
use Rattle.cb_judged.proofs.Keeping.{owes_valid}
use Rattle.cb_judged.proofs.judged.Judged.sound.Goals as goal

pub of-requires-clause-sound : goal.of-requires-clause-sound
of-requires-clause-sound c =
    let none : open_count c.self.inside.lines.items ≡ 0 = search rules in
    c.typed_systems_are_sound.ensures c.self.inside.system c.self.invariant.typed (owes_valid c.self.inside.system c.self.inside.lines.items c.self.invariant.tells none)
