use Rattle.std.proofs.Common.{ap, ◌∙◌, length, take}
use Rattle.cb_processes.proofs.Fronts.{take_locals}
use Rattle.cb_systems.proofs.bound.note_of_names.Goals as goal

pub returns-clause-kept : goal.returns-clause-kept
returns-clause-kept c =
    c.leave.ensures
    ∙ ap (λ n. take n c.normal_note.new.names) c.len-outside.ensures
    ∙ ap (take (length c.args.globals.now)) (c.in_ok-note.ensures.kept ∙ c.in_ok-bind_all.ensures)
    ∙ take_locals c.args.globals.now c.args.bound.now c.args.forms.now
