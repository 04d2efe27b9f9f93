use Rattle.std.proofs.Common.{flat_map, length, subst}
use Rattle.cb_spec.specs.declared.system.System.{System}
use Rattle.cb_spec.specs.Journals.{set_sizes}
use Rattle.cb_beginning.specs.Initial.{HaveBegun}
use Rattle.cb_beginning.specs.Room.{GivesPlaces, names_in}
use Rattle.cb_beginning.specs.Layouts.{IsLaidTo}
use Rattle.cb_beginning.proofs.BeginLemmas.{begins}
use Rattle.cb_beginning.proofs.begin.begin.Goals as goal

pub returns : goal.returns
returns g c =
    let same = c.spec-system.ensures.system in
    let initial = c.in_ok-initial.initial in
    let store = c.in_ok-store.store in
    let layout = c.in_ok-layout.layout in
    begins c.args.sound.now c.spec-system.ensures.typed layout (subst (λ (y : System). IsLaidTo y (length y.order) layout) same c.in_ok-layout.ensures) initial store
    (subst (λ (y : System). HaveBegun (set_sizes y) y.machines initial) same c.in_ok-initial.ensures)
    (subst (λ (y : System). GivesPlaces (flat_map names_in y.machines) initial store) same c.in_ok-store.ensures)
