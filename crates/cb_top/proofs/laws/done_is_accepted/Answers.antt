use Rattle.cb_top.proofs.Safety.{done_accepted}
use Rattle.cb_top.proofs.laws.done_is_accepted.Goals as goal

pub returns : goal.returns
returns c =
    done_accepted c.derived_is_valid.ensures c.derives_without_bad.ensures c.typed_machines_owe_kinded.ensures c.typed_systems_owe_kinded.ensures
    c.typed_machines_fit.ensures c.typed_machines_keep_kinds.ensures c.obligations_suffice.ensures c.sound_is_safe.ensures
    c.typed_systems_are_safe.ensures c.spelled_is_spelled_text.ensures c.tokens_are_bytes.ensures c.ends_are_more.ensures c.text_is_typed.ensures
