use Rattle.std.proofs.Common.{◌<◌, List, length, sym, subst, arith}
use Rattle.cb_code.specs.declared.place.Place.{Place}
use Rattle.cb_offers.specs.declared.offers.Side.{Side}
use Rattle.cb_system.specs.Views.{RunView}
use Rattle.cb_system.specs.Moves.{AreGood}
use Rattle.cb_system.specs.Tabled.{CanLook, IsFound}
use Rattle.cb_system.specs.Found.{CanFire}
use Rattle.cb_system.proofs.FoundLemmas.{found_there}
use Rattle.cb_system.proofs.running.Running.firing.Goals as goal

pub firing_of-requires : goal.firing_of-requires
firing_of-requires g c =
    let i = c.self.inside in
    let low : c.args.controller < length i.sound.order = subst (λ (r : RunView). c.args.controller < length r.system.order) (sym c.self.view_is) c.requires in
    let can : CanLook i.code i.places.items i.offers c.args.controller = record {
      system = i.sound;
      store = i.store;
      good = record { limit = i.limit; beginning = i.initial; journal = i.journal.items; good = c.self.invariant.0.0.good };
      prefixes = c.self.invariant.0.1.offered;
      tabled = c.self.invariant.1;
      range = (let m = c.self.invariant.0.1.many in omega (arith, m, low));
    } in
    subst (λ (qs : List Place). CanLook i.code qs i.offers c.args.controller) (sym c.as_slice.ensures.value) can

pub returns : goal.returns
returns g c =
    let i = c.self.inside in
    let good : AreGood i.sound i.code i.store i.places.items = record { limit = i.limit; beginning = i.initial; journal = i.journal.items; good = c.self.invariant.0.0.good } in
    let found = subst (λ (rows : List (List Side)). IsFound rows c.args.controller c.firing_of.result) c.self.invariant.1.rows_are c.firing_of.ensures in
    subst (λ (r : RunView). CanFire c.args.controller r c.firing_of.result) c.self.view_is (found_there i.sound i.code i.store i.places.items good c.self.invariant.0.1.offered i.limit i.initial i.journal.items c.args.controller c.firing_of.result found)
