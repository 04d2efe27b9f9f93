-- Branches that meet on a channel: what passing values asks, and what comes of it.
use Rattle.std.proofs.Common.{◌≡◌, ℕ, ◌<◌, List, length, get_or, Option, Some, refl, sym, ap, subst, ◌∙◌}
use Rattle.std.proofs.lemmas.Option.{get_or_from_slice_get}
use Rattle.cb_term.specs.declared.name.Name.{Name}
use Rattle.cb_term.specs.declared.value.Value.{Value}
use Rattle.cb_term.specs.Tree.{TermTree, FormulaTree}
use Rattle.cb_spec.specs.declared.event.Event.{Event}
use Rattle.cb_spec.specs.declared.event.Event.TheVariants as event
use Rattle.cb_spec.specs.declared.system.Channel.{Channel}
use Rattle.cb_spec.specs.declared.system.System.{System}
use Rattle.cb_spec.specs.ProcessTree.{ProcessTree}
use Rattle.cb_spec.specs.Bound.{bind}
use Rattle.cb_spec.specs.Stores.{Writes, over, look_of}
use Rattle.cb_spec.specs.States.{IsAt}
use Rattle.cb_spec.specs.Settling.{AreValues}
use Rattle.cb_spec.specs.Journals.{set_sizes}
use Rattle.cb_safety_laws.specs.Causes.{IsOutput, IsInput}
use Rattle.cb_safety_laws.proofs.Lists.{at_below}
use Rattle.cb_code.specs.declared.place.Place.{Place}
use Rattle.cb_settling.specs.Resolving.{AreTypedIn}
use Rattle.cb_system.specs.declared.pass.Passed.{Passed}
use Rattle.cb_system.specs.Branches.{HasBranch, IsBranch}
use Rattle.cb_system.specs.Firing.{CanPass, IsPassed}
use Rattle.cb_system.proofs.BranchLemmas.{offers_place, event_is}
use Rattle.cb_system.proofs.FireLemmas.{values_many, output_args, sends_so, receives_so}

pub output_is : (k : ℕ) (e : Event) → IsOutput k e → ((n : ℕ) (ts : List TermTree) (said : Option FormulaTree) → e ≡ event.Output n ts said → ⊥) → ⊥
output_is k (event.Output n ts said) h other = other n ts said refl
output_is k (event.Input n xs said) h other = h
output_is k (event.Call m j ts xs) h other = h

pub input_is : (k : ℕ) (e : Event) → IsInput k e → ((n : ℕ) (xs : List Name) (said : Option FormulaTree) → e ≡ event.Input n xs said → ⊥) → ⊥
input_is k (event.Output n ts said) h other = h
input_is k (event.Input n xs said) h other = other n xs said refl
input_is k (event.Call m j ts xs) h other = h

module _ (y : System) (ps : List ProcessTree) (places : List Place) (k sent rec : ℕ) (can : CanPass y ps places k sent rec) where
  pub channel_within : k < length y.channels
  channel_within = at_below y.channels k can.channel can.meet.its

  pub channel_is : (cs : List Channel) (ch : Channel) → cs ≡ y.channels → ch ≡ get_or cs k ch → ch ≡ can.channel
  channel_is cs ch same is = is ∙ ap (λ l. get_or l k ch) same ∙ get_or_from_slice_get y.channels k can.channel ch can.meet.its

  module _ (ch : Channel) (same : ch ≡ can.channel) where
    its : IsAt y.channels k ch
    its = can.meet.its ∙ ap Some (sym same)

    pub sent_has : HasBranch places ch.sender sent
    sent_has = subst (λ (d : Channel). HasBranch places d.sender sent) (sym same) (offers_place ps can.store places can.channel.sender sent (IsOutput k) can.meet.out)

    pub got_has : HasBranch places ch.receiver rec
    got_has = subst (λ (d : Channel). HasBranch places d.receiver rec) (sym same) (offers_place ps can.store places can.channel.receiver rec (IsInput k) can.meet.into)

    pub sent_event : (e : Event) (next : ℕ) (env : Writes) → IsBranch ps places ch.sender sent e next env → IsOutput k e
    sent_event e next env r = event_is ps can.store places can.channel.sender sent e _ env (subst (λ (d : Channel). IsBranch ps places d.sender sent e next env) same r).shown (IsOutput k) can.meet.out

    pub got_event : (e : Event) (next : ℕ) (env : Writes) → IsBranch ps places ch.receiver rec e next env → IsInput k e
    got_event e next env r = event_is ps can.store places can.channel.receiver rec e _ env (subst (λ (d : Channel). IsBranch ps places d.receiver rec e next env) same r).shown (IsInput k) can.meet.into

    -- the events that were read are on this channel
    pub sent_branch : (e : Event) (n : ℕ) (ts : List TermTree) (said : Option FormulaTree) (next : ℕ) (env : Writes) → e ≡ event.Output n ts said → IsBranch ps places ch.sender sent e next env →
        IsBranch ps places ch.sender sent (event.Output k ts said) next env
    sent_branch e n ts said next env is r =
        let here : IsOutput k (event.Output n ts said) = subst (IsOutput k) is (sent_event e next env r) in
        subst (λ z. IsBranch ps places ch.sender sent (event.Output z ts said) next env) here (subst (λ z. IsBranch ps places ch.sender sent z next env) is r)

    pub got_branch : (e : Event) (n : ℕ) (xs : List Name) (said : Option FormulaTree) (next : ℕ) (env : Writes) → e ≡ event.Input n xs said → IsBranch ps places ch.receiver rec e next env →
        IsBranch ps places ch.receiver rec (event.Input k xs said) next env
    got_branch e n xs said next env is r =
        let here : IsInput k (event.Input n xs said) = subst (IsInput k) is (got_event e next env r) in
        subst (λ z. IsBranch ps places ch.receiver rec (event.Input z xs said) next env) here (subst (λ z. IsBranch ps places ch.receiver rec z next env) is r)

    module _ (ts : List TermTree) (said : Option FormulaTree) (next : ℕ) (env : Writes) (out : IsBranch ps places ch.sender sent (event.Output k ts said) next env) where
      pub sent_typed : AreTypedIn (set_sizes y) (look_of env) ts
      sent_typed = output_args y ps can.store places can.good ch.sender sent k ts said next env out

      module _ (xs : List Name) (note : Option FormulaTree) (after : ℕ) (here : Writes) (into : IsBranch ps places ch.receiver rec (event.Input k xs note) after here) (vs : List Value) (are : AreValues (set_sizes y) (look_of env) ts vs) where
        -- as many values pass as there are names for them
        pub names_many : length xs ≡ length vs
        names_many =
            (receives_so y ps can.store places can.good ch.receiver rec k xs note after here into ch its).1 ∙ sym (sends_so y ps can.store places can.good ch.sender sent k ts said next env out ch its).1
            ∙ values_many (set_sizes y) (look_of env) ts vs are

        pub passed_is : (r : Passed) → r.values ≡ vs → r.sender ≡ ch.sender → r.receiver ≡ ch.receiver → r.out_next ≡ next → r.in_next ≡ after → look_of r.env ≡ over (bind xs vs) (look_of here) → IsPassed y ps places k sent rec r
        passed_is r rv rs rr ro ri bound = record {
          channel = ch;
          its = its;
          sender = rs;
          receiver = rr;
          terms = ts;
          guarantee = said;
          out_env = env;
          out = subst (λ n. IsBranch ps places ch.sender sent (event.Output k ts said) n env) (sym ro) out;
          targets = xs;
          assume = note;
          in_env = here;
          into = subst (λ n. IsBranch ps places ch.receiver rec (event.Input k xs note) n here) (sym ri) into;
          values = subst (AreValues (set_sizes y) (look_of env) ts) (sym rv) are;
          bound = bound ∙ ap (λ ws. over (bind xs ws) (look_of here)) (sym rv);
        }
