use Rattle.std.proofs.Common.{◌≡◌, ◌∙◌, sym, ap, true, false, Some, None, is_some}
use Rattle.cb_forms.specs.Find.{name_in, found, inside}
use Rattle.cb_forms.proofs.TableLemmas.{common_next, common_past}
use Rattle.cb_forms.proofs.table.Table.add_common.Goals as goal
use Rattle.cb_forms.proofs.table.Table.add_common.Goals.{in-Some+then-is_some+in_ok-enter, in-Some+else-is_some, in_default}

pub loop-i-preserved : goal.loop-i-preserved
loop-i-preserved g c =
    elim c.match-name_at.branch [
      | in-Some+then-is_some+in_ok-enter w ↦
          let e : name_in c.args.first.now c.loop-i.i ≡ Some w.in-Some.name.now = sym w.in-Some.ensures in
          let next = common_next c.args.meaning c.loop-i.self c.args.first.now c.args.second.now c.loop-i.i w.in-Some.name.now e in
          let t : is_some (found w.in-Some.name.now c.args.second.now) ≡ true = ap is_some (sym w.find.ensures) ∙ sym w.is_some.ensures ∙ w.if-is_some.true in
          let s : c.match-name_at.self ≡ inside w.in-Some.name.now c.args.meaning c.loop-i.self = w.self-is ∙ w.in_ok-enter.ensures in
          rw s (sym (rw t at next) ∙ c.loop-i.invariant)
      | in-Some+else-is_some w ↦
          let e : name_in c.args.first.now c.loop-i.i ≡ Some w.in-Some.name.now = sym w.in-Some.ensures in
          let next = common_next c.args.meaning c.loop-i.self c.args.first.now c.args.second.now c.loop-i.i w.in-Some.name.now e in
          let t : is_some (found w.in-Some.name.now c.args.second.now) ≡ false = ap is_some (sym w.find.ensures) ∙ sym w.is_some.ensures ∙ w.if-is_some.false in
          rw w.self-is (sym (rw t at next) ∙ c.loop-i.invariant)
      | in_default w ↦
          let e : name_in c.args.first.now c.loop-i.i ≡ None = sym w.in_default.ensures in
          let next = common_past c.args.meaning c.loop-i.self c.args.first.now c.args.second.now c.loop-i.i e in
          rw w.self-is (sym next ∙ c.loop-i.invariant)
    ]
