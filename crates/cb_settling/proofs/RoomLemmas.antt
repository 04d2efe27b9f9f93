-- A store has room for all that calls ask, and it stays so.
use Rattle.std.proofs.Common.{◌≡◌, ℕ, Bool, true, false, ◌||◌, if◌then◌else◌, [], ◌∷◌, ◌++◌, map, None, Some, IsSome, refl, ap, subst, ◌∙◌}
use Rattle.cb_term.specs.declared.name.Name.{Name}
use Rattle.cb_term.specs.declared.value.Value.{Value}
use Rattle.cb_term.specs.Names.{same_name}
use Rattle.cb_term.specs.Values.{Look}
use Rattle.cb_spec.specs.declared.system.Machine.{Machine}
use Rattle.cb_spec.specs.declared.system.Operation.{Operation}
use Rattle.cb_spec.specs.declared.system.System.{System}
use Rattle.cb_spec.specs.Stores.{Writes, found, over, look_of, SameMap}
use Rattle.cb_spec.specs.Bound.{names, result_names, is_among, only}
use Rattle.cb_spec.specs.States.{IsAt}
use Rattle.cb_spec.specs.TypedProcesses.{AreNew}
use Rattle.cb_spec.specs.Typed.{global_names, Typed}
use Rattle.cb_spec.proofs.StoreLemmas.{over_is, or_look}
use Rattle.cb_typed.proofs.Naming.{new_front, new_apart}
use Rattle.cb_typed.proofs.Fitting.{variable_global}
use Rattle.cb_settling.specs.Ops.{AllThere, KeepsNames}
use Rattle.cb_settling.specs.Calling.{IsRoomy}
use Rattle.cb_settling.proofs.CalledLemmas.{found_only}
use Rattle.cb_settling.proofs.OpSteps.{still_there}

-- where names stand for what they did
pub room_called : (y : System) (old new : Writes) → KeepsNames old new → look_of new ≡ look_of old → IsRoomy y old → IsRoomy y new
room_called y old new keeps same r = record {
  variables = λ k m at. still_there (names m.variables) old new (r.variables k m at) keeps;
  params = λ k j m o at listed.
      let h = r.params k j m o at listed in
      record { there = still_there (names o.params) old new h.there keeps; at_rest = λ x among. ap (λ (l : Look). l x) same ∙ h.at_rest x among };
}

-- a name that is written has a value
written_is : (d : Writes) (x : Name) → is_among x (map (λ (e : Name × Value). e.0) d) ≡ true → IsSome (found d x)
written_is [] x e = absurd (cc)
written_is (p ∷ d) x e = by (same_name x p.0) e (written_is d x)
  where
    by : (b : Bool) → (b || is_among x (map (λ (e : Name × Value). e.0) d)) ≡ true → (is_among x (map (λ (e : Name × Value). e.0) d) ≡ true → IsSome (found d x)) → IsSome (if b then Some p.1 else found d x)
    by true e rest = refl
    by false e rest = rest e

module _ (y : System) (typed : Typed y) (k : ℕ) (m : Machine) (at : IsAt y.machines k m) (written : Writes) (own : SameMap written (only (names m.variables) written)) where
  -- what is written to the machine's variables alone may be written over the store
  pub written_there : (store : Writes) → IsRoomy y store → AllThere (map (λ (e : Name × Value). e.0) written) store
  written_there store r x among =
      by (is_among x (names m.variables)) refl (subst IsSome (own x ∙ found_only (names m.variables) written x) (written_is written x among))
    where
      by : (b : Bool) → is_among x (names m.variables) ≡ b → IsSome (if b then found written x else None) → IsSome (found store x)
      by true e has = r.variables k m at x e
      by false e has = absurd (cc)

  -- and a parameter stays at rest
  pub room_written : (old new : Writes) → KeepsNames old new → look_of new ≡ over written (look_of old) → IsRoomy y old → IsRoomy y new
  room_written old new keeps is r = record {
    variables = λ j n here. still_there (names n.variables) old new (r.variables j n here) keeps;
    params = λ j i n o here listed.
        let h = r.params j i n o here listed in
        record { there = still_there (names o.params) old new h.there keeps; at_rest = λ x among. stays o (((typed.machines j n here).operations i o listed).new_names) x among ∙ h.at_rest x among };
  }
    where
      not_variable : (o : Operation) (x : Name) → is_among x (names o.params) ≡ true → (is_among x (global_names y) ≡ true → is_among x (names o.params) ≡ false) → is_among x (names m.variables) ≡ false
      not_variable o x among apart = by (is_among x (names m.variables)) refl
        where
          by : (b : Bool) → is_among x (names m.variables) ≡ b → b ≡ false
          by true e = let no : is_among x (names o.params) ≡ false = apart (variable_global y typed k m at x e) in absurd (cc)
          by false e = refl

      stays : (o : Operation) → AreNew (global_names y) (names o.params ++ result_names o.results) → (x : Name) → is_among x (names o.params) ≡ true → look_of new x ≡ look_of old x
      stays o fresh x among =
          let apart = not_variable o x among (new_apart (global_names y) (names o.params) (new_front (global_names y) (names o.params) (result_names o.results) fresh) x) in
          let none : found written x ≡ None = own x ∙ found_only (names m.variables) written x ∙ ap (λ b. if b then found written x else None) apart in
          ap (λ (l : Look). l x) is ∙ over_is written (look_of old) x ∙ ap (λ p. or_look p (look_of old x)) none
